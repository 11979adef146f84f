-- Facts on each room of a list, by its number.
use Rattle.std.proofs.Common.{◌≡◌, ◌≢◌, ℕ, zero, suc, ◌+◌, ◌<◌, ◌≤◌, ◌||◌, Bool, true, false, List, [], ◌∷◌, ◌++◌, length, map, set, if◌then◌else◌, refl, sym, subst, arith}
use Rattle.std.proofs.Math.ListN.{get_or-map}
use Rattle.line_memory.specs.Line.{bank_at}
use Rattle.life_model.specs.Life.{Opening, sizes}
use Rattle.incll_var.specs.Cells.{IsSaved}
use Rattle.rooms.specs.declared.room.Room.{Room}
use Rattle.rooms.specs.Rooms.{bank_of, state_of}
use Rattle.epoch_word.specs.declared.stage.EpochStage.TheVariants.{Before}
use Rattle.recovery.specs.Restored.{has_left, restored, IsRestoredFrom, no_room, room_at, restored_on, any_left}
use Rattle.recovery.specs.Recovering.{IsRoomIn, EachFrom}
use Rattle.recovery.proofs.Events.{room_restored, room_saved}
use Rattle.seq_object.specs.Sizes.{super_room}

-- of the room of a number
pub each_at : (P : ℕ → Room → Type 0) (k i n : ℕ) (xs : List Room) → n ≡ k + i → i < length xs → EachFrom P k xs → P n (room_at xs i)
each_at P k i n [] is lt h = absurd (omega (arith, lt))
each_at P k zero n (x ∷ xs) is lt h = let e : k ≡ n = omega (arith, is) in subst (λ (j : ℕ). P j x) e h.0
each_at P k (suc i) n (x ∷ xs) is lt h = each_at P (suc k) i n xs (omega (arith, is)) (omega (arith, lt)) h.1

-- of each number from k on
pub each_weaker : (P Q : ℕ → Room → Type 0) (k : ℕ) (xs : List Room) → ((j : ℕ) (x : Room) → k ≤ j → P j x → Q j x) → EachFrom P k xs → EachFrom Q k xs
each_weaker P Q k [] each h = tt
each_weaker P Q k (x ∷ xs) each h = (each k x (omega arith) h.0, each_weaker P Q (suc k) xs (λ j y le p. each j y (omega (arith, le)) p) h.1)

-- where one room is changed
pub each_set : (P Q : ℕ → Room → Type 0) (f : Room → Room) (k i n : ℕ) (xs : List Room) → n ≡ k + i → i < length xs → ((j : ℕ) (x : Room) → j ≢ n → P j x → Q j x) → (P n (room_at xs i) → Q n (f (room_at xs i)))
    → EachFrom P k xs → EachFrom Q k (set xs i (f (room_at xs i)))
each_set P Q f k i n [] is lt others here h = absurd (omega (arith, lt))
each_set P Q f k zero n (x ∷ xs) is lt others here h =
    let e : n ≡ k = omega (arith, is) in (
      subst (λ (j : ℕ). Q j (f x)) e (here (subst (λ (j : ℕ). P j x) (sym e) h.0)),
      each_weaker P Q (suc k) xs (λ j y le p. others j y (λ same. omega (arith, le, same, e)) p) h.1,
    )
each_set P Q f k (suc i) n (x ∷ xs) is lt others here h =
    (others k x (λ same. omega (arith, same, is)) h.0, each_set P Q f (suc k) i n xs (omega (arith, is)) (omega (arith, lt)) others here h.1)

-- the bank of a room
pub bank_here : (xs : List Room) (k : ℕ) → bank_at (map bank_of xs) k ≡ bank_of (room_at xs k)
bank_here xs k = get_or-map bank_of xs k no_room

-- what the code says of the rooms before and behind the next event
abbrev pub AreRestoredFrom : List Room → List Room → Type 0
AreRestoredFrom old new = (i : ℕ) → i < length old → IsRestoredFrom (room_at old i) (room_at new i)

-- behind a room without an event left
behind : (x : Room) (xs : List Room) → has_left x ≡ false → AreRestoredFrom (x ∷ xs) (restored_on (x ∷ xs)) → AreRestoredFrom xs (restored_on xs)
behind x xs none from i lt = subst (λ (b : Bool). IsRestoredFrom (room_at xs i) (room_at (if b then xs else restored_on xs) i)) none (from (suc i) (omega (arith, lt)))

-- each room stays one of the recovery
pub each_restored : (o : Opening) (k : ℕ) (xs : List Room) → AreRestoredFrom xs (restored_on xs) → EachFrom (IsRoomIn o Before) k xs → EachFrom (IsRoomIn o Before) k (restored_on xs)
each_restored o k [] from h = tt
each_restored o k (x ∷ xs) from h = (room_restored o k x h.0 (from 0 (omega arith)), go (λ none. each_restored o (suc k) xs (behind x xs none from) h.1) (has_left x) refl)
  where
    go : (has_left x ≡ false → EachFrom (IsRoomIn o Before) (suc k) (restored_on xs)) → (b : Bool) → has_left x ≡ b → EachFrom (IsRoomIn o Before) (suc k) (if b then xs else restored_on xs)
    go tail true is = h.1
    go tail false is = tail is

-- a room whose restore is done
pub record IsRoomDone (o : Opening) (k : ℕ) (x : Room) : Type 0 where
  pub room : IsRoomIn o Before k x
  pub saved : k < super_room (sizes o) → IsSaved (state_of x)

none_first : (a b : Bool) → (a || b) ≡ false → a ≡ false
none_first true b e = e
none_first false b e = refl

none_second : (a b : Bool) → (a || b) ≡ false → b ≡ false
none_second true b e = absurd (cc)
none_second false b e = e

-- where no event is left each room is saved
pub each_done : (o : Opening) (k : ℕ) (xs : List Room) → any_left xs ≡ false → AreRestoredFrom xs (restored_on xs) → EachFrom (IsRoomIn o Before) k xs → EachFrom (IsRoomDone o) k (restored_on xs)
each_done o k [] none from h = tt
each_done o k (x ∷ xs) none from h =
    let here : has_left x ≡ false = none_first (has_left x) (any_left xs) none in (
      record {
        room = room_restored o k x h.0 (from 0 (omega arith));
        saved = λ lt. room_saved o.settings o.epoch k x lt h.0.kind.kind here;
      },
      subst (λ (b : Bool). EachFrom (IsRoomDone o) (suc k) (if b then xs else restored_on xs)) (sym here)
          (each_done o (suc k) xs (none_second (has_left x) (any_left xs) none) (behind x xs here from) h.1),
    )

-- as many rooms
pub as_many : (xs : List Room) → length (restored_on xs) ≡ length xs
as_many [] = refl
as_many (x ∷ xs) = go (as_many xs) (has_left x)
  where
    go : length (restored_on xs) ≡ length xs → (b : Bool) → length (restored x ∷ (if b then xs else restored_on xs)) ≡ length (x ∷ xs)
    go tail true = refl
    go tail false = omega (arith, tail)

-- one room more
pub each_push : (P : ℕ → Room → Type 0) (k n : ℕ) (xs : List Room) (x : Room) → n ≡ k + length xs → EachFrom P k xs → P n x → EachFrom P k (xs ++ x ∷ [])
each_push P k n [] x is h p = let e : n ≡ k = omega (arith, is) in (subst (λ (j : ℕ). P j x) e p, tt)
each_push P k n (y ∷ ys) x is h p = (h.0, each_push P (suc k) n ys x (omega (arith, is)) h.1 p)
