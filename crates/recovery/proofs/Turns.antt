-- The rooms of a list, one after the other, until one has an event left.
use Rattle.std.proofs.Common.{◌≡◌, ℕ, suc, ◌+◌, ◌<◌, ◌||◌, Bool, true, false, List, [], ◌∷◌, ◌++◌, length, get_or, set, take, drop, if◌then◌else◌, refl, sym, ap, ◌∙◌, subst, inl, inr, arith, add-one, append_assoc, get_or-set_same, get_or-set_other, length-set}
use Rattle.std.proofs.Math.Seq.{drop-cons, drop-length, take-length}
use Rattle.std.proofs.lemmas.List.{take-append-drop, take_more_set, drop-set-lt, get_or_default, append-nil}
use Rattle.std.proofs.lemmas.Bool.Decides.{eqb_tells}
use Rattle.rooms.specs.declared.room.Room.{Room}
use Rattle.recovery.specs.Restored.{has_left, restored, IsRestoredFrom, MayGoOn, no_room, room_at, restored_on, any_left}

-- the rooms before this one had no event left, and are saved
pub record HasCome (old now : List Room) (i : ℕ) : Type 0 where
  pub count : length now ≡ length old
  pub rest : drop i now ≡ drop i old
  pub done : restored_on old ≡ take i now ++ restored_on (drop i old)
  pub any : any_left old ≡ any_left (drop i old)
  pub kept : (k : ℕ) → k < length old → IsRestoredFrom (room_at old k) (room_at now k)

-- nothing is done
pub begun : (old : List Room) → ((k : ℕ) → k < length old → MayGoOn (room_at old k)) → HasCome old old 0
begun old may = record {
  count = refl;
  rest = refl;
  done = refl;
  any = refl;
  kept = λ k lt. record { whole = (may k lt).whole; in_memory = refl };
}

-- all are done
pub ended : (old now : List Room) (i : ℕ) → i ≡ length old → HasCome old now i → (now ≡ restored_on old) × (any_left old ≡ false)
ended old now i at come =
    let none : drop i old ≡ [] = ap (λ (n : ℕ). drop n old) at ∙ drop-length old in
    let all : take i now ≡ now = ap (λ (n : ℕ). take n now) (at ∙ sym come.count) ∙ take-length now in (
      sym (come.done ∙ ap (λ (xs : List Room). take i now ++ restored_on xs) none ∙ append-nil (take i now) ∙ all),
      come.any ∙ ap any_left none,
    )

-- the room at hand is that of the beginning, and those behind it are so too
pub record IsAtHand (old now : List Room) (i : ℕ) (x : Room) : Type 0 where
  pub first : drop i old ≡ x ∷ drop (i + 1) old
  pub rest : drop (i + 1) now ≡ drop (i + 1) old
  pub here : room_at old i ≡ x

pub at_hand : (old now : List Room) (i : ℕ) (d : Room) → i < length now → HasCome old now i → IsAtHand old now i (get_or now i d)
at_hand old now i d lt come =
    let same = come.count in
    let lt2 : i < length old = omega (arith, lt, same) in
    let e : get_or now i d ∷ drop (i + 1) now ≡ get_or old i d ∷ drop (i + 1) old =
    rw add-one (sym (drop-cons now i d lt) ∙ come.rest ∙ drop-cons old i d lt2) in
    let here : get_or old i d ≡ get_or now i d = cc in
    record {
      first = rw add-one (drop-cons old i d lt2 ∙ ap (λ (y : Room). y ∷ drop (suc i) old) here);
      rest = cc;
      here = get_or_default old i no_room d lt2 ∙ here;
    }

-- the room is changed, and it is the one that it became
changed : (old now : List Room) (i : ℕ) (x y : Room) → i < length now → HasCome old now i → IsAtHand old now i x → IsRestoredFrom x y
    → (k : ℕ) → k < length old → IsRestoredFrom (room_at old k) (room_at (set now i y) k)
changed old now i x y lt come at from k inside = elim (eqb_tells k i) [
  | inl h ↦
      let was : room_at old k ≡ x = ap (room_at old) h.1 ∙ at.here in
      let is : room_at (set now i y) k ≡ y = ap (room_at (set now i y)) h.1 ∙ get_or-set_same now i y no_room lt in
      subst (λ (z : Room). IsRestoredFrom (room_at old k) z) (sym is) (subst (λ (z : Room). IsRestoredFrom z y) (sym was) from)
  | inr h ↦ subst (λ (z : Room). IsRestoredFrom (room_at old k) z) (sym (get_or-set_other now i k y no_room h.1)) (come.kept k inside)
]

-- a room without an event left is passed
pub passed : (old now : List Room) (i : ℕ) (x y : Room) → i < length now → HasCome old now i → IsAtHand old now i x → y ≡ restored x → IsRestoredFrom x y → has_left x ≡ false → HasCome old (set now i y) (i + 1)
passed old now i x y lt come at is from none = record {
  count = length-set now i y ∙ come.count;
  rest = drop-set-lt (i + 1) now i y (omega arith) ∙ at.rest;
  done = come.done ∙ ap (λ (xs : List Room). take i now ++ restored_on xs) at.first
      ∙ ap (λ (b : Bool). take i now ++ (restored x ∷ (if b then drop (i + 1) old else restored_on (drop (i + 1) old)))) none
      ∙ ap (λ (z : Room). take i now ++ (z ∷ restored_on (drop (i + 1) old))) (sym is)
      ∙ sym (append_assoc (take i now) (y ∷ []) (restored_on (drop (i + 1) old)))
      ∙ ap (λ (xs : List Room). xs ++ restored_on (drop (i + 1) old)) (sym (take_more_set now i y lt));
  any = come.any ∙ ap any_left at.first ∙ ap (λ (b : Bool). b || any_left (drop (i + 1) old)) none;
  kept = changed old now i x y lt come at from;
}

-- a list with one element changed is what comes before it, that element, and what comes behind it
set_split : (now : List Room) (i : ℕ) (y : Room) → i < length now → set now i y ≡ take i now ++ (y ∷ drop (i + 1) now)
set_split now i y lt =
    sym (take-append-drop (i + 1) (set now i y))
    ∙ ap (λ (xs : List Room). xs ++ drop (i + 1) (set now i y)) (take_more_set now i y lt)
    ∙ ap (λ (xs : List Room). (take i now ++ (y ∷ [])) ++ xs) (drop-set-lt (i + 1) now i y (omega arith))
    ∙ append_assoc (take i now) (y ∷ []) (drop (i + 1) now)

pub record HasStopped (old new : List Room) : Type 0 where
  pub is : new ≡ restored_on old
  pub any : any_left old ≡ true
  pub kept : (k : ℕ) → k < length old → IsRestoredFrom (room_at old k) (room_at new k)

-- at a room with an event left the turn ends
pub stopped : (old now : List Room) (i : ℕ) (x y : Room) → i < length now → HasCome old now i → IsAtHand old now i x → y ≡ restored x → IsRestoredFrom x y → has_left x ≡ true → HasStopped old (set now i y)
stopped old now i x y lt come at is from some = record {
  is = set_split now i y lt
      ∙ ap (λ (xs : List Room). take i now ++ (y ∷ xs)) at.rest
      ∙ ap (λ (z : Room). take i now ++ (z ∷ drop (i + 1) old)) is
      ∙ sym (come.done ∙ ap (λ (xs : List Room). take i now ++ restored_on xs) at.first
      ∙ ap (λ (b : Bool). take i now ++ (restored x ∷ (if b then drop (i + 1) old else restored_on (drop (i + 1) old)))) some);
  any = come.any ∙ ap any_left at.first ∙ ap (λ (b : Bool). b || any_left (drop (i + 1) old)) some;
  kept = changed old now i x y lt come at from;
}
