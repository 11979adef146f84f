-- A plain yard that is taken apart.
use Rattle.std.proofs.Common.{◌≡◌, ◌≢◌, ℕ, zero, suc, ◌+◌, ◌-◌, ◌*◌, ◌^◌, ◌<◌, ◌≤◌, ◌⊎◌, ◌==◌, cond, Bool, true, false, List, [], ◌∷◌, ◌++◌, map, length, get_or, Option, Some, None, sym, refl, ap, ◌∙◌, subst, arith, inl, inr, eq-eqb, take, length-take, append-nil}
use Rattle.std.specs.Prelude.{option_to_list, nat_le}
use Rattle.std.specs.List.{flat_map, Contains}
use Rattle.std.proofs.lemmas.List.{length-map, take_more}
use Rattle.std.proofs.lemmas.Bool.{eqb-true, ne_eqb}
use mathlib.Core.Option.{some, some-injective}
use mathlib.Core.Logic.{dite}
use native.Mathlib.Decide.{ℕ_discrete}
use lib.ListN.{get_elem?}
use Rattle.seq_object.specs.Sizes.{room_count, line_count}
use Rattle.seq_object.specs.declared.sizes.Sizes.{Sizes}
use Rattle.line_memory.specs.Line.{BankState, bank_at, all_lines}
use Rattle.life_model.specs.Present.{AreAscending}
use Rattle.rooms.specs.declared.room.Room.{Room}
use Rattle.rooms.specs.Rooms.{bank_of}
use Rattle.yard_model.specs.declared.view.View.{View}
use Rattle.yard_model.specs.Beginnings.{sizes_at}
use Rattle.yard_model.specs.World.{ViewIs, Home, lock_of, dead}
use Rattle.yard_model.specs.Lives.{IsMemoryOf, NamesDead}
use Rattle.room_yard.specs.World.{memory_of}
use Rattle.plain_yard.specs.declared.yard.PlainYard.TheInside.{Inside}
use Rattle.plain_yard.specs.Apart.{dead_from}
use Rattle.plain_yard.specs.Shown.{ShownYard, NoneHolds, AreAtHome}
use Rattle.plain_yard.specs.Kept.{state_in, shown_yard, IsKeptYard}
use Rattle.plain_yard.proofs.Views.{read_lock}

-- NUMBERS of dead locks.

-- with a lock more
pub dead_push : (r : ℕ) (ls : List ℕ) (l : ℕ) → dead_from r (ls ++ l ∷ []) ≡ dead_from r ls ++ cond (l == dead) ((r + length ls) ∷ []) []
dead_push r [] l = let e : r ≡ r + 0 = omega arith in ap (λ (n : ℕ). cond (l == dead) (n ∷ []) []) e
dead_push r (x ∷ ls) l = let e : suc r + length ls ≡ r + suc (length ls) = omega arith in
    by (x == dead) (dead_push (suc r) ls l ∙ ap (λ (n : ℕ). dead_from (suc r) ls ++ cond (l == dead) (n ∷ []) []) e)
  where
    by : (c : Bool) → dead_from (suc r) (ls ++ l ∷ []) ≡ dead_from (suc r) ls ++ cond (l == dead) ((r + suc (length ls)) ∷ []) []
        → cond c (r ∷ dead_from (suc r) (ls ++ l ∷ [])) (dead_from (suc r) (ls ++ l ∷ [])) ≡ cond c (r ∷ dead_from (suc r) ls) (dead_from (suc r) ls) ++ cond (l == dead) ((r + suc (length ls)) ∷ []) []
    by true e = ap (λ (ns : List ℕ). r ∷ ns) e
    by false e = e

-- with the lock of room i too, which is dead or not
pub dead_more : (ls : List ℕ) (i : ℕ) → i < length ls → get_or ls i 0 ≡ dead → dead_from 0 (take (i + 1) ls) ≡ dead_from 0 (take i ls) ++ i ∷ []
dead_more ls i lt is = let e : 0 + length (take i ls) ≡ i = (let n = length-take i ls ∙ refl in omega (arith, n, lt)) in
    ap (dead_from 0) (take_more ls i 0 lt) ∙ dead_push 0 (take i ls) (get_or ls i 0) ∙ (λ j. dead_from 0 (take i ls) ++ cond (eq-eqb (get_or ls i 0) dead is j) (e j ∷ []) [])

pub alive_more : (ls : List ℕ) (i : ℕ) → i < length ls → get_or ls i 0 ≢ dead → dead_from 0 (take (i + 1) ls) ≡ dead_from 0 (take i ls)
alive_more ls i lt not = ap (dead_from 0) (take_more ls i 0 lt) ∙ dead_push 0 (take i ls) (get_or ls i 0)
    ∙ (ap (λ (c : Bool). dead_from 0 (take i ls) ++ cond c ((0 + length (take i ls)) ∷ []) []) (ne_eqb (get_or ls i 0) dead not) ∙ append-nil (dead_from 0 (take i ls)))

-- they ascend
ascends_from : (m r : ℕ) (ls : List ℕ) → m < r → AreAscending (m ∷ dead_from r ls)
ascends_from m r [] lt = tt
ascends_from m r (l ∷ ls) lt = by (l == dead) (ascends_from r (suc r) ls (omega arith)) (ascends_from m (suc r) ls (omega (arith, lt)))
  where
    by : (c : Bool) → AreAscending (r ∷ dead_from (suc r) ls) → AreAscending (m ∷ dead_from (suc r) ls) → AreAscending (m ∷ cond c (r ∷ dead_from (suc r) ls) (dead_from (suc r) ls))
    by true here past = (lt, here)
    by false here past = past

ascends : (r : ℕ) (ls : List ℕ) → AreAscending (dead_from r ls)
ascends r [] = tt
ascends r (l ∷ ls) = by (l == dead) (ascends_from r (suc r) ls (omega arith)) (ascends (suc r) ls)
  where
    by : (c : Bool) → AreAscending (r ∷ dead_from (suc r) ls) → AreAscending (dead_from (suc r) ls) → AreAscending (cond c (r ∷ dead_from (suc r) ls) (dead_from (suc r) ls))
    by true here past = here
    by false here past = past

-- each is that of a dead lock
abbrev IsDeadIn : ℕ → List ℕ → ℕ → Type 0
IsDeadIn r ls k = (j : ℕ) × (k ≡ r + j) × (j < length ls) × (get_or ls j 0 ≡ dead)

later : (r : ℕ) (l : ℕ) (ls : List ℕ) (k : ℕ) → IsDeadIn (suc r) ls k → IsDeadIn r (l ∷ ls) k
later r l ls k is = (suc is.0, let e = is.1 in omega (arith, e), let lt = is.2 in omega (arith, lt), is.3)

are_dead : (r : ℕ) (ls : List ℕ) (k n : ℕ) → n < length (dead_from r ls) → get_or (dead_from r ls) n k ≡ k → IsDeadIn r ls k
are_dead r [] k n lt e = absurd (omega (arith, lt))
are_dead r (l ∷ ls) k n lt e = by (l == dead) refl (are_dead (suc r) ls k) n lt e
  where
    by : (c : Bool) → (l == dead) ≡ c → ((n : ℕ) → n < length (dead_from (suc r) ls) → get_or (dead_from (suc r) ls) n k ≡ k → IsDeadIn (suc r) ls k)
        → (n : ℕ) → n < length (cond c (r ∷ dead_from (suc r) ls) (dead_from (suc r) ls)) → get_or (cond c (r ∷ dead_from (suc r) ls) (dead_from (suc r) ls)) n k ≡ k → IsDeadIn r (l ∷ ls) k
    by true is past zero lt e = (0, let f : r ≡ k = e in omega (arith, f), omega arith, eqb-true l dead is)
    by true is past (suc n) lt e = later r l ls k (past n (omega (arith, lt)) e)
    by false is past n lt e = later r l ls k (past n lt e)

-- and each dead lock's is there
are_named : (r : ℕ) (ls : List ℕ) (j k : ℕ) → k ≡ r + j → j < length ls → get_or ls j 0 ≡ dead → Contains (dead_from r ls) k
are_named r [] j k at lt is = absurd (omega (arith, lt))
are_named r (l ∷ ls) zero k at lt is = subst (λ (c : Bool). Contains (cond c (r ∷ dead_from (suc r) ls) (dead_from (suc r) ls)) k) (sym (eq-eqb l dead is)) (0, omega arith, let e : r ≡ k = omega (arith, at) in e)
are_named r (l ∷ ls) (suc j) k at lt is = by (l == dead) (are_named (suc r) ls j k (omega (arith, at)) (omega (arith, lt)) is)
  where
    by : (c : Bool) → Contains (dead_from (suc r) ls) k → Contains (cond c (r ∷ dead_from (suc r) ls) (dead_from (suc r) ls)) k
    by true h = (suc h.0, let lt = h.1 in omega (arith, lt), h.2)
    by false h = h

-- ROOMS.

-- where each place has its room, the places are the rooms
module _ {A : Type 0} where
  pub gathers : (l : List (Option A)) → ((r : ℕ) → r < length l → (x : A) × (get_elem? l r ≡ some (Some x))) → map Some (flat_map option_to_list l) ≡ l
  gathers [] all = refl
  gathers (o ∷ os) all = by o (all 0 (omega arith)).0 (some-injective o (Some (all 0 (omega arith)).0) (all 0 (omega arith)).1) (gathers os (λ r lt. all (suc r) (omega (arith, lt))))
    where
      by : (o : Option A) (x : A) → o ≡ Some x → map Some (flat_map option_to_list os) ≡ os → map Some (flat_map option_to_list (o ∷ os)) ≡ o ∷ os
      by None x e rest = absurd (cc)
      by (Some z) x e rest = ap (λ (l : List (Option A)). Some z ∷ l) rest

-- each of these rooms is at its place
at_place : (xs : List Room) (r : ℕ) (x : Room) → get_elem? (map Some xs) r ≡ some (Some x) → bank_at (memory_of xs) r ≡ bank_of x
at_place [] r x at = absurd (cc)
at_place (z ∷ xs) zero x at = ap (λ (o : Option Room). bank_or z o) (some-injective (Some z) (Some x) at)
  where
    bank_or : Room → Option Room → BankState
    bank_or z None = bank_of z
    bank_or z (Some q) = bank_of q
at_place (z ∷ xs) (suc r) x at = at_place xs r x at

-- so many lines are few, where no room has more than 65,536
few_lines : (xs : List Room) → ((r : ℕ) (x : Room) → get_elem? (map Some xs) r ≡ some (Some x) → length (bank_of x).lines ≤ 65536) → all_lines (memory_of xs) ≤ 65536 * length xs
few_lines [] few = omega arith
few_lines (x ∷ xs) few = let one = few 0 x refl in let rest = few_lines xs (λ r z at. few (suc r) z at) in omega (arith, one, rest)

line_count_few : (z : Sizes) (r : ℕ) → z.lines ≤ 65536 → line_count z r ≤ 65536
line_count_few z r few = by (nat_le r z.shards)
  where
    by : (c : Bool) → cond c z.lines 1 ≤ 65536
    by true = few
    by false = omega arith

module _ (p : Inside) (kept : IsKeptYard p) (none : (i : ℕ) (v : View) → ViewIs (state_in p) i v → v.grip ≡ None) where
  abbrev count : ℕ
  count = room_count (sizes_at p.beginning)

  -- a lock is free or dead
  free_or_dead : (r : ℕ) → r < count → (lock_of (state_in p) r ≡ 0) ⊎ (lock_of (state_in p) r ≡ dead)
  free_or_dead r lt = dite (ℕ_discrete (lock_of (state_in p) r) 0) inl (λ taken. dite (ℕ_discrete (lock_of (state_in p) r) dead) inr (λ alive. absurd (held taken alive)))
    where
      held : lock_of (state_in p) r ≢ 0 → lock_of (state_in p) r ≢ dead → ⊥
      held taken alive = let h = kept.lawful.locks.holder r (lock_of (state_in p) r - 1) lt (omega (arith, taken)) alive in
          let f : None ≡ Some h.2.0 = sym (none (lock_of (state_in p) r - 1) h.0 h.1) ∙ h.2.1 in absurd (cc)

  all_home : (r : ℕ) → r < count → (x : Room) × Home (state_in p) r x
  all_home r lt = kept.lawful.locks.free r lt (free_or_dead r lt)

  pub are_home : map Some (flat_map option_to_list p.rooms.items) ≡ p.rooms.items
  are_home = gathers p.rooms.items (λ r lt. all_home r (let n = kept.lawful.sized.rooms in omega (arith, lt, n)))

  pub number_of_locks : length p.locks.items ≡ count
  number_of_locks = let n = kept.lawful.sized.words in omega (arith, n)

  lock_read : (r : ℕ) → lock_of (state_in p) r ≡ get_or p.locks.items r 0
  lock_read r = read_lock p.tick (length p.log.items) p.arrival r 0 p.locks.items

  pub names_dead : NamesDead p.beginning (state_in p) (dead_from 0 p.locks.items)
  names_dead = record {
    ascending = ascends 0 p.locks.items;
    are_dead = λ r is. let d = are_dead 0 p.locks.items r is.0 is.1 is.2 in
        let same : r ≡ d.0 = let e = d.1 in omega (arith, e) in
        (let lt = d.2 in let n = number_of_locks in omega (arith, lt, n, same), lock_read r ∙ (ap (λ (k : ℕ). get_or p.locks.items k 0) same ∙ d.3));
    all = λ r lt is. are_named 0 p.locks.items r r (omega arith) (let n = number_of_locks in omega (arith, lt, n)) (sym (lock_read r) ∙ is);
  }

  module _ (xs : List Room) (home : map Some xs ≡ p.rooms.items) where
    number : length xs ≡ count
    number = sym (length-map xs Some) ∙ (ap (λ (l : List (Option Room)). length l) home ∙ kept.lawful.sized.rooms)

    abbrev IsThere : ℕ → Room → Type 0
    IsThere r x = get_elem? (map Some xs) r ≡ some (Some x)

    there : (r : ℕ) (x : Room) → Home (state_in p) r x → IsThere r x
    there r x at = ap (λ (l : List (Option Room)). get_elem? l r) home ∙ at

    pub is_memory : IsMemoryOf p.beginning (state_in p) (memory_of xs)
    is_memory = record {
      number = length-map xs bank_of ∙ number;
      rooms = λ r lt. let x = all_home r lt in (x.0, x.1, at_place xs r x.0 (there r x.0 x.1));
    }

    pub lines_fit : all_lines (memory_of xs) < 2 ^ 32
    lines_fit = let a = few_lines xs each in let n = number in let s = kept.lawful.bounds.beginning.settings.sizes.few_shards in let t = kept.lawful.bounds.beginning.settings.sizes.few_threads in omega (arith, a, n, s, t)
      where
        each : (r : ℕ) (x : Room) → IsThere r x → length (bank_of x).lines ≤ 65536
        each r x at = let kind = kept.lawful.sized.kinds r x (ap (λ (l : List (Option Room)). get_elem? l r) (sym home) ∙ at) in
            let e = kind.lines in let f = line_count_few (sizes_at p.beginning) r kept.lawful.bounds.beginning.settings.sizes.few_lines in omega (arith, e, f)

-- TAKEN APART, as contracts see it: these are the rooms at their places.
module _ (p : Inside) (y : ShownYard) (is : shown_yard p ≡ y) (kept : IsKeptYard p) (holds : NoneHolds y) (xs : List Room) (gathered : xs ≡ flat_map option_to_list p.rooms.items) where
  none : NoneHolds (shown_yard p)
  none = subst NoneHolds (sym is) holds

  home : map Some xs ≡ p.rooms.items
  home = ap (λ (l : List Room). map Some l) gathered ∙ are_home p kept none

  pub as_many : length xs ≡ length p.rooms.items
  as_many = sym (length-map xs Some) ∙ ap (λ (l : List (Option Room)). length l) home

  pub few_rooms : length xs < 2 ^ 32
  few_rooms = let a = as_many in let n = kept.lawful.sized.rooms in let s = kept.lawful.bounds.beginning.settings.sizes.few_shards in let t = kept.lawful.bounds.beginning.settings.sizes.few_threads in omega (arith, a, n, s, t)

  pub rooms_home : AreAtHome y.told.world xs
  rooms_home = subst (λ (z : ShownYard). AreAtHome z.told.world xs) is home

  pub memory_under : IsMemoryOf y.beginning y.told.world (memory_of xs)
  memory_under = subst (λ (z : ShownYard). IsMemoryOf z.beginning z.told.world (memory_of xs)) is (is_memory p kept none xs home)

  pub lines_under : all_lines (memory_of xs) < 2 ^ 32
  lines_under = lines_fit p kept none xs home

  pub dead_named : (held : List ℕ) → held ≡ dead_from 0 p.locks.items → NamesDead y.beginning y.told.world held
  dead_named held e = subst (λ (z : ShownYard × List ℕ). NamesDead z.0.beginning z.0.told.world z.1) (λ j. (is j, sym e j)) (names_dead p kept none)
