-- What the members of a family pick of a list, each with its place, fixes the list: entries by threads or by rooms, checkpoints by threads.
use Rattle.std.proofs.Common.{◌≡◌, ℕ, suc, ◌+◌, ◌<◌, ◌≤◌, ◌==◌, cond, Bool, true, false, List, [], ◌∷◌, length, sym, refl, ap, subst, ◌∙◌, inl, inr, arith, eq-eqb, get_or}
use Rattle.std.specs.List.{All}
use Rattle.std.proofs.lemmas.Bool.Decides.{eqb_tells}
use Rattle.std.proofs.lemmas.List.Elements.{All-head, All-tail, All-weaker}
use Rattle.seq_object.specs.declared.history.Entry.{Entry}
use Rattle.seq_object.specs.declared.history.Noted.{Noted}
use Rattle.seq_object.specs.Object.{room_of}
use Rattle.seq_object.proofs.Rooms.{room_bound}
use Rattle.yard_model.specs.declared.view.OwnMark.{OwnMark}
use Rattle.yard_model.specs.Entries.{placed, picked, is_of_thread, is_for_room}
use Rattle.yard_model.specs.Shares.{OneHistoryLaw, ThreadsHaveOneHistoryLaw, RoomsHaveOneHistoryLaw, Release, own_mark, own_from, OneCheckpointsLaw}

abbrev head_or : {B : Type 0} → B → List B → B
head_or d [] = d
head_or d (x ∷ xs) = x

abbrev tail_of : {B : Type 0} → List B → List B
tail_of [] = []
tail_of (x ∷ xs) = xs

-- elements are picked by tests, each tagged with its place
module _ {A : Type 0} {B : Type 0} (test : ℕ → A → Bool) (tag : ℕ → A → B) (place : B → ℕ) (pick : ℕ → ℕ → List A → List B)
    (empty : (i k : ℕ) → pick i k [] ≡ [])
    (first : (i k : ℕ) (a : A) (xs : List A) → pick i k (a ∷ xs) ≡ cond (test i a) (tag k a ∷ pick i (suc k) xs) (pick i (suc k) xs))
    (placed : (k : ℕ) (a : A) → place (tag k a) ≡ k)
    (one : (i k : ℕ) (a c : A) → test i a ≡ true → test i c ≡ true → tag k a ≡ tag k c → a ≡ c) where
  -- each place is at least k
  abbrev From : ℕ → List B → Type 0
  From k [] = Unit {0}
  From k (x ∷ xs) = (k ≤ place x) × From k xs

  lower : (k : ℕ) (l : List B) → From (suc k) l → From k l
  lower k [] f = tt
  lower k (x ∷ xs) f = let g = f.0 in (omega (arith, g), lower k xs f.1)

  by_test : (k : ℕ) (a : A) (l : List B) (c : Bool) → From (suc k) l → From k (cond c (tag k a ∷ l) l)
  by_test k a l true f = let e = placed k a in (omega (arith, e), lower k l f)
  by_test k a l false f = lower k l f

  places : (i k : ℕ) (xs : List A) → From k (pick i k xs)
  places i k [] = subst (From k) (sym (empty i k)) tt
  places i k (a ∷ xs) = subst (From k) (sym (first i k a xs)) (by_test k a (pick i (suc k) xs) (test i a) (places i (suc k) xs))

  not_later : (k : ℕ) (a : A) (l m : List B) → From (suc k) m → tag k a ∷ l ≡ m → ⊥
  not_later k a l [] f e = absurd (cc)
  not_later k a l (x ∷ xs) f e = let h : place (tag k a) ≡ place x = ap (λ (q : List B). place (head_or (tag k a) q)) e in let p = placed k a in let le = f.0 in omega (arith, h, p, le)

  mine : (i k : ℕ) (a : A) (xs : List A) → test i a ≡ true → pick i k (a ∷ xs) ≡ tag k a ∷ pick i (suc k) xs
  mine i k a xs is = first i k a xs ∙ ap (λ (c : Bool). cond c (tag k a ∷ pick i (suc k) xs) (pick i (suc k) xs)) is

  other : (i k : ℕ) (a : A) (xs : List A) → test i a ≡ false → pick i k (a ∷ xs) ≡ pick i (suc k) xs
  other i k a xs is = first i k a xs ∙ ap (λ (c : Bool). cond c (tag k a ∷ pick i (suc k) xs) (pick i (suc k) xs)) is

  -- the first elements are one
  first_same : (i k : ℕ) (a c : A) (xs cs : List A) → test i a ≡ true → pick i k (a ∷ xs) ≡ pick i k (c ∷ cs) → (t : Bool) → test i c ≡ t → a ≡ c
  first_same i k a c xs cs is e true also =
      let f : tag k a ∷ pick i (suc k) xs ≡ tag k c ∷ pick i (suc k) cs = sym (mine i k a xs is) ∙ (e ∙ mine i k c cs also) in
      one i k a c is also (ap (head_or (tag k a)) f)
  first_same i k a c xs cs is e false not_also =
      absurd (not_later k a (pick i (suc k) xs) (pick i (suc k) cs) (places i (suc k) cs) (sym (mine i k a xs is) ∙ (e ∙ other i k c cs not_also)))

  cancel : (c : Bool) (x : B) (l m : List B) → cond c (x ∷ l) l ≡ cond c (x ∷ m) m → l ≡ m
  cancel true x l m e = ap tail_of e
  cancel false x l m e = e

  from_place : (n k : ℕ) (g h : List A) → length g ≡ length h → All (λ (a : A). (i : ℕ) × (i < n) × (test i a ≡ true)) g
      → ((i : ℕ) → i < n → pick i k g ≡ pick i k h) → g ≡ h
  from_place n k [] [] l all f = refl
  from_place n k [] (c ∷ cs) l all f = absurd (omega (arith, l))
  from_place n k (a ∷ xs) [] l all f = absurd (omega (arith, l))
  from_place n k (a ∷ xs) (c ∷ cs) l all f =
      let who = All-head (λ (a : A). (i : ℕ) × (i < n) × (test i a ≡ true)) a xs all in
      let same : a ≡ c = first_same who.0 k a c xs cs who.2 (f who.0 who.1) (test who.0 c) refl in
      let rest : xs ≡ cs = from_place n (suc k) xs cs (omega (arith, l)) (All-tail (λ (a : A). (i : ℕ) × (i < n) × (test i a ≡ true)) a xs all)
      (λ i lt. cancel (test i a) (tag k a) (pick i (suc k) xs) (pick i (suc k) cs)
      (sym (first i k a xs) ∙ (f i lt ∙ (ap (λ (d : A). pick i k (d ∷ cs)) (sym same) ∙ first i k a cs)))) in
      λ m. same m ∷ rest m

pub one_history : OneHistoryLaw
one_history n tests g h l all same = from_place tests placed (λ (e : Noted). e.ticket) (λ (i k : ℕ) (es : List Entry). picked (tests i) k es) (λ i k. refl) (λ i k e es. refl) (λ k e. refl)
    (λ i k a c is also e. ap (λ (x : Noted). x.entry) e) n 0 g h l all same

pub threads_have_one_history : ThreadsHaveOneHistoryLaw
threads_have_one_history threads g h l all same = one_history threads is_of_thread g h l
    (All-weaker (λ (e : Entry). e.thread < threads) (λ (e : Entry). (k : ℕ) × (k < threads) × (is_of_thread k e ≡ true)) (λ e lt. (e.thread, lt, eq-eqb e.thread e.thread refl)) g all) same

pub rooms_have_one_history : RoomsHaveOneHistoryLaw
rooms_have_one_history z g h some l same = one_history (z.shards + 1) (is_for_room z) g h l
    (λ k d lt. own (get_or g k d)) (λ r lt. same r (omega (arith, lt)))
  where
    own : (e : Entry) → (k : ℕ) × (k < z.shards + 1) × (is_for_room z k e ≡ true)
    own e = let le = room_bound z some e.command in (room_of z e.command, omega (arith, le), eq-eqb (room_of z e.command) (room_of z e.command) refl)

pub one_checkpoints : OneCheckpointsLaw
one_checkpoints threads epoch rs ss l all same = from_place (λ (i : ℕ) (r : Release). r.thread == i) (λ (k : ℕ) (r : Release). own_mark k r.checkpoint) (λ (m : OwnMark). m.mark.epoch) own_from
    (λ i k. refl) (λ i k r rs. refl) (λ k r. refl)
    by threads epoch rs ss l
    (All-weaker (λ (r : Release). r.thread < threads) (λ (r : Release). (k : ℕ) × (k < threads) × ((r.thread == k) ≡ true)) (λ r lt. (r.thread, lt, eq-eqb r.thread r.thread refl)) rs all) same
  where
    named : (n i : ℕ) → (n == i) ≡ true → n ≡ i
    named n i is = elim (eqb_tells n i) [
      | inl h ↦ h.1
      | inr h ↦ let q : false ≡ true = sym h.0 ∙ is in absurd (cc)
    ]

    by : (i k : ℕ) (a c : Release) → (a.thread == i) ≡ true → (c.thread == i) ≡ true → own_mark k a.checkpoint ≡ own_mark k c.checkpoint → a ≡ c
    by i k a c is also e = let same : a.thread ≡ c.thread = named a.thread i is ∙ sym (named c.thread i also) in
        λ j. record { thread = same j; checkpoint = record { length = (e j).mark.length; over = (e j).over } }
