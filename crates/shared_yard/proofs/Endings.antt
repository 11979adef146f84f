-- The world that a yard leaves: its last state is lawful, and all its rooms are at home.
use Rattle.std.proofs.Common.{◌≡◌, ◌≢◌, ℕ, zero, suc, ◌+◌, ◌-◌, ◌*◌, ◌^◌, ◌<◌, ◌≤◌, ◌⊎◌, cond, Bool, true, false, List, [], ◌∷◌, ◌++◌, map, length, Option, Some, None, sym, refl, ap, ◌∙◌, subst, ⊎_elim, inl, inr, arith}
use Rattle.std.specs.Prelude.{option_to_list, nat_le}
use Rattle.std.specs.List.{flat_map, Contains}
use Rattle.std.proofs.lemmas.List.{length-map}
use Rattle.std.proofs.lemmas.List.Elements.{Contains-append_left, Contains-push, Contains-push_cases}
use mathlib.Core.Option.{some, none, some-injective, some-ne-none}
use mathlib.Core.Option as maybe
use mathlib.Core.Logic.{dite}
use native.Mathlib.Decide.{ℕ_discrete}
use lib.ListN.{get_elem?}
use Rattle.atomic_table.specs.Table.{Final, Seen}
use Rattle.seq_object.specs.Sizes.{room_count, line_count}
use Rattle.seq_object.specs.declared.sizes.Sizes.{Sizes}
use Rattle.line_memory.specs.Line.{BankState, bank_at, all_lines}
use Rattle.life_model.specs.Present.{AreAscending}
use Rattle.rooms.specs.declared.room.Room.{Room}
use Rattle.rooms.specs.Rooms.{bank_of}
use Rattle.yard_model.specs.declared.view.Beginning.{Beginning}
use Rattle.yard_model.specs.declared.view.View.{View}
use Rattle.yard_model.specs.Beginnings.{first_epoch, sizes_at, is_over}
use Rattle.yard_model.specs.World.{ViewIs, Home, lock_of, dead}
use Rattle.yard_model.specs.Lawful.{Lawful}
use Rattle.yard_model.specs.Lives.{IsMemoryOf, NamesDead}
use Rattle.yard_model.specs.Shares.{checkpoints_of, own_from}
use Rattle.yard_laws.proofs.Lists.{same_at, at_inside}
use Rattle.room_yard.specs.Told.{Told}
use Rattle.room_yard.specs.World.{WorldState, memory_of}
use Rattle.shared_yard.specs.declared.known.Known.{Known}
use Rattle.shared_yard.specs.declared.seat.YardSeat.{YardSeat}
use Rattle.shared_yard.specs.declared.yard.SharedYard.{SharedYard}
use Rattle.shared_yard.specs.Rule.{TableState, home_of, yard_of, SitsAt, Each, IsLawfulTable}
use Rattle.shared_yard.specs.Seats.{known_at, IsSeatOf, HasSeat, AreAllSeats, IsBackAt}
use Rattle.shared_yard.specs.Endings.{IsKnownIn, LeavesYard, AreDeadBelow}
use Rattle.shared_yard.proofs.Emptying.{index_is}
use Rattle.shared_yard.proofs.Seated.{Each-weaker}
use Rattle.shared_yard.proofs.Parting.{Each-both}

-- NUMBERS of dead rooms

-- a number above them all ascends behind them
ascends : (l : List ℕ) (n : ℕ) → AreAscending l → ((k : ℕ) → Contains l k → k < n) → AreAscending (l ++ n ∷ [])
ascends [] n a below = tt
ascends (x ∷ []) n a below = (below x (0, omega arith, refl), tt)
ascends (x ∷ y ∷ ys) n a below = (a.0, ascends (y ∷ ys) n a.1 (λ k c. below k (suc c.0, let lt = c.1 in omega (arith, lt), c.2)))

module _ (locks : ℕ → ℕ) (n : ℕ) (held : List ℕ) (are : AreDeadBelow n locks held) where
  pub dead_more : locks n ≡ dead → AreDeadBelow (n + 1) locks (held ++ n ∷ [])
  dead_more is = record {
    ascending = ascends held n are.ascending (λ k c. (are.are_dead k c).0);
    are_dead = λ r c. ⊎_elim (λ (h : Contains held r). let d = are.are_dead r h in (let lt = d.0 in omega (arith, lt), d.1)) (λ (e : n ≡ r). (omega (arith, e), ap locks (sym e) ∙ is)) (Contains-push_cases held n r c);
    all = λ r lt d. dite (ℕ_discrete r n) (λ (e : r ≡ n). subst (Contains (held ++ n ∷ [])) (sym e) (Contains-push held n)) (λ (ne : r ≢ n). Contains-append_left held (n ∷ []) r (are.all r (omega (arith, lt, ne)) d));
  }

  pub alive_more : locks n ≢ dead → AreDeadBelow (n + 1) locks held
  alive_more not = record {
    ascending = are.ascending;
    are_dead = λ r c. let d = are.are_dead r c in (let lt = d.0 in omega (arith, lt), d.1);
    all = λ r lt d. dite (ℕ_discrete r n) (λ (e : r ≡ n). absurd (not (ap locks (sym e) ∙ d))) (λ (ne : r ≢ n). are.all r (omega (arith, lt, ne)) d);
  }

-- the same numbers, told of lists
pub dead_in : (m n : ℕ) (locks : ℕ → ℕ) (held told : List ℕ) → m ≡ n → told ≡ held → AreDeadBelow m locks held → AreDeadBelow n locks told
dead_in m n locks held told e f are = subst (λ (z : ℕ × List ℕ). AreDeadBelow z.0 locks z.1) (λ j. (e j, sym f j)) are

-- ROOMS

-- where each slot has its room, the slots are the rooms
module _ {A : Type 0} where
  gathers : (l : List (Option A)) → ((r : ℕ) → r < length l → (x : A) × (get_elem? l r ≡ some (Some x))) → map Some (flat_map option_to_list l) ≡ l
  gathers [] all = refl
  gathers (o ∷ os) all = by o (all 0 (omega arith)).0 (some-injective o (Some (all 0 (omega arith)).0) (all 0 (omega arith)).1) (gathers os (λ r lt. all (suc r) (omega (arith, lt))))
    where
      by : (o : Option A) (x : A) → o ≡ Some x → map Some (flat_map option_to_list os) ≡ os → map Some (flat_map option_to_list (o ∷ os)) ≡ o ∷ os
      by None x e rest = absurd (cc)
      by (Some z) x e rest = ap (λ (l : List (Option A)). Some z ∷ l) rest

-- each of these rooms is in its slot
in_slot : (xs : List Room) (r : ℕ) (x : Room) → get_elem? (map Some xs) r ≡ some (Some x) → bank_at (memory_of xs) r ≡ bank_of x
in_slot [] r x at = absurd (cc)
in_slot (z ∷ xs) zero x at = ap (λ (o : Option Room). bank_or z o) (some-injective (Some z) (Some x) at)
  where
    bank_or : Room → Option Room → BankState
    bank_or z None = bank_of z
    bank_or z (Some q) = bank_of q
in_slot (z ∷ xs) (suc r) x at = in_slot xs r x at

-- so many lines are few, where no room has more than 65,536
few_lines : (xs : List Room) → ((r : ℕ) (x : Room) → get_elem? (map Some xs) r ≡ some (Some x) → length (bank_of x).lines ≤ 65536) → all_lines (memory_of xs) ≤ 65536 * length xs
few_lines [] few = omega arith
few_lines (x ∷ xs) few = let one = few 0 x refl in let rest = few_lines xs (λ r z at. few (suc r) z at) in omega (arith, one, rest)

line_count_few : (z : Sizes) (r : ℕ) → z.lines ≤ 65536 → line_count z r ≤ 65536
line_count_few z r few = by (nat_le r z.shards)
  where
    by : (c : Bool) → cond c z.lines 1 ≤ 65536
    by true = few
    by false = omega arith

-- the slot has the room at home
at_home : (hs : List (maybe.Option (Option Room))) (k : ℕ) (x : Room) → get_elem? (map home_of hs) k ≡ some (Some x) → get_elem? hs k ≡ some (some (Some x))
at_home [] k x e = absurd (some-ne-none (Some x) (sym e))
at_home (none ∷ hs) zero x e = let e' : None ≡ Some x = some-injective None (Some x) e in absurd (cc)
at_home (some h ∷ hs) zero x e = ap (λ (h : Option Room). some (some h)) (some-injective h (Some x) e)
at_home (h ∷ hs) (suc k) x e = at_home hs k x e

-- the values of slots all of which are at home
same_rooms : (hs : List (maybe.Option (Option Room))) (rs : List (Option Room)) → length hs ≡ length rs → ((k : ℕ) → k < length hs → (x : Option Room) × (get_elem? hs k ≡ some (some x)))
    → ((k : ℕ) (x : Option Room) → get_elem? hs k ≡ some (some x) → get_elem? rs k ≡ some x) → map home_of hs ≡ rs
same_rooms [] [] e f g = refl
same_rooms [] (r ∷ rs) e f g = absurd (omega (arith, e))
same_rooms (h ∷ hs) [] e f g = absurd (omega (arith, e))
same_rooms (h ∷ hs) (r ∷ rs) e f g = let t = f 0 (omega arith) in let a : h ≡ some t.0 = some-injective h (some t.0) t.1 in let b : r ≡ t.0 = some-injective r t.0 (g 0 t.0 t.1) in
    λ m. (ap home_of a ∙ sym b) m ∷ same_rooms hs rs (omega (arith, e)) (λ k lt. f (suc k) (omega (arith, lt))) (λ k. g (suc k)) m

-- SEATS

each_of : {A B : Type 0} (P : B → Type 0) (f : A → B) (l : List A) → Each P (map f l) → Each (λ (x : A). P (f x)) l
each_of P f [] e = tt
each_of P f (x ∷ xs) e = (e.0, each_of P f xs e.1)

of_thread : (P : YardSeat → Type 0) (i : ℕ) (ss : List YardSeat) → Each P ss → HasSeat i ss → (s : YardSeat) × P s × ((known_at s).view.thread ≡ i)
of_thread P i [] e h = absurd h
of_thread P i (s ∷ ss) e (inl t) = (s, e.0, t)
of_thread P i (s ∷ ss) e (inr h) = of_thread P i ss e.1 h

some_of : (i : ℕ) (ss : List YardSeat) → HasSeat i ss → 0 < length ss
some_of i [] h = absurd h
some_of i (s ∷ ss) h = omega arith

-- there is a seat, and no room is out with any
pub some_seat : (y : SharedYard) (seats : List YardSeat) → AreAllSeats y seats → 0 < length seats
some_seat y seats are = some_of 0 seats (are.all 0 (let some = y.valid.sizes.some_threads in omega (arith, some)))

pub are_back : (y : SharedYard) (seats : List YardSeat) → AreAllSeats y seats → Each (IsBackAt y.table.shared.table_id) seats
are_back y seats are = Each-both (IsSeatOf y) (λ (q : YardSeat). (known_at q).view.grip ≡ None) (IsBackAt y.table.shared.table_id) (λ q a b. (a.table, b)) seats are.seats_of are.bare

module _ (y : SharedYard) (seats : List YardSeat) (are : AreAllSeats y seats) (s : TableState) (l : IsLawfulTable s) (id : ℕ) (at : get_elem? s.views id ≡ some (map known_at seats)) where
  abbrev Back : YardSeat → Type 0
  Back q = IsSeatOf y q × (((known_at q).view.grip ≡ None) × SitsAt l.views l.releases l.seat_of id (known_at q))

  back : Each Back seats
  back = let two = Each-both (λ (q : YardSeat). (known_at q).view.grip ≡ None) (λ (q : YardSeat). SitsAt l.views l.releases l.seat_of id (known_at q)) (λ (q : YardSeat). ((known_at q).view.grip ≡ None) × SitsAt l.views l.releases l.seat_of id (known_at q)) (λ q a c. (a, c)) seats are.bare
      (each_of (SitsAt l.views l.releases l.seat_of id) known_at seats (l.seated id (map known_at seats) at).0) in
      Each-both (IsSeatOf y) (λ (q : YardSeat). ((known_at q).view.grip ≡ None) × SitsAt l.views l.releases l.seat_of id (known_at q)) Back (λ q a c. (a, c)) seats are.seats_of two

  seat_at : (i : ℕ) → i < y.beginning.settings.threads → (q : YardSeat) × Back q × ((known_at q).view.thread ≡ i)
  seat_at i lt = of_thread Back i seats back (are.all i lt)

  pub begins : l.beginning ≡ y.beginning
  begins = let q = seat_at 0 (let some = y.valid.sizes.some_threads in omega (arith, some)) in
      sym (l.lawful.sized.beginnings (known_at q.0).view.thread (known_at q.0).view q.1.1.1.view) ∙ q.1.0.begins

  pub lawful : Lawful y.beginning (yard_of s.words s.homes l.views) l.history (checkpoints_of l.releases)
  lawful = subst (λ (b : Beginning). Lawful b (yard_of s.words s.homes l.views) l.history (checkpoints_of l.releases)) begins l.lawful

  pub none_holds : (i : ℕ) (v : View) → get_elem? l.views i ≡ some v → v.grip ≡ None
  none_holds i v e = let inside = at_inside l.views i v e in let n = lawful.sized.views in let q = seat_at i (omega (arith, inside, n)) in
      let same : (known_at q.0).view ≡ v = same_at l.views i (known_at q.0).view v (subst (λ (i : ℕ). get_elem? l.views i ≡ some (known_at q.0).view) q.2 q.1.1.1.view) e in
      ap (λ (v : View). v.grip) (sym same) ∙ q.1.1.0

-- A LAWFUL YARD in which no view holds a room
module _ (b : Beginning) (t : Told) (lawful : Lawful b t.world t.history t.checkpoints) (none : (i : ℕ) (v : View) → ViewIs t.world i v → v.grip ≡ None) where
  abbrev count : ℕ
  count = room_count (sizes_at b)

  free_or_dead : (r : ℕ) → r < count → (lock_of t.world r ≡ 0) ⊎ (lock_of t.world r ≡ dead)
  free_or_dead r lt = dite (ℕ_discrete (lock_of t.world r) 0) inl (λ taken. dite (ℕ_discrete (lock_of t.world r) dead) inr (λ alive. absurd (held taken alive)))
    where
      held : lock_of t.world r ≢ 0 → lock_of t.world r ≢ dead → ⊥
      held taken alive = let h = lawful.locks.holder r (lock_of t.world r - 1) lt (omega (arith, taken)) alive in
          let f : None ≡ Some h.2.0 = sym (none (lock_of t.world r - 1) h.0 h.1) ∙ h.2.1 in absurd (cc)

  pub all_home : (r : ℕ) → r < count → (x : Room) × Home t.world r x
  all_home r lt = lawful.locks.free r lt (free_or_dead r lt)

  pub names_dead : (held : List ℕ) → AreDeadBelow count (lock_of t.world) held → NamesDead b t.world held
  names_dead held are = record { ascending = are.ascending; are_dead = are.are_dead; all = are.all }

  module _ (xs : List Room) (home : map Some xs ≡ t.world.rooms) where
    pub number : length xs ≡ count
    number = sym (length-map xs Some) ∙ (ap (λ (l : List (Option Room)). length l) home ∙ lawful.sized.rooms)

    pub is_memory : IsMemoryOf b t.world (memory_of xs)
    is_memory = record {
      number = length-map xs bank_of ∙ number;
      rooms = λ r lt. let x = all_home r lt in (x.0, x.1, in_slot xs r x.0 (ap (λ (l : List (Option Room)). get_elem? l r) home ∙ x.1));
    }

    pub few_rooms : length xs < 2 ^ 32
    few_rooms = let n = number in let s = lawful.bounds.beginning.settings.sizes.few_shards in let t = lawful.bounds.beginning.settings.sizes.few_threads in omega (arith, n, s, t)

    pub lines_fit : all_lines (memory_of xs) < 2 ^ 32
    lines_fit = let a = few_lines xs each in let n = number in let s = lawful.bounds.beginning.settings.sizes.few_shards in let t = lawful.bounds.beginning.settings.sizes.few_threads in omega (arith, a, n, s, t)
      where
        each : (r : ℕ) (x : Room) → get_elem? (map Some xs) r ≡ some (Some x) → length (bank_of x).lines ≤ 65536
        each r x at = let kind = lawful.sized.kinds r x (ap (λ (l : List (Option Room)). get_elem? l r) (sym home) ∙ at) in
            let e = kind.lines in let f = line_count_few (sizes_at b) r lawful.bounds.beginning.settings.sizes.few_lines in omega (arith, e, f)

-- CLOSED: the table's last words and slots
module _ (y : SharedYard) (seats : List YardSeat) (are : AreAllSeats y seats) (id : ℕ) (ks : List Known) (ks_are : ks ≡ map known_at seats) (words : List ℕ) (slots : List (Option Room)) (final : Final (Seen IsLawfulTable id ks) words slots) where
  abbrev s : TableState
  s = final.0

  abbrev l : IsLawfulTable s
  l = final.1.0

  at : get_elem? s.views id ≡ some (map known_at seats)
  at = final.1.1 ∙ ap some ks_are

  abbrev before : Told
  before = record { world = yard_of s.words s.homes l.views; history = l.history; checkpoints = checkpoints_of l.releases }

  same_life : l.beginning ≡ y.beginning
  same_life = begins y seats are s l id at

  -- the last state
  abbrev last : Told
  last = record { world = record { words = words; rooms = slots; views = l.views }; history = l.history; checkpoints = checkpoints_of l.releases }

  slots_are : map home_of s.homes ≡ slots
  slots_are = same_rooms s.homes slots final.3 home final.4
    where
      home : (k : ℕ) → k < length s.homes → (x : Option Room) × (get_elem? s.homes k ≡ some (some x))
      home k lt = let x = all_home y.beginning before (lawful y seats are s l id at) (none_holds y seats are s l id at) k (let n = (lawful y seats are s l id at).sized.rooms in let m = length-map s.homes home_of in omega (arith, lt, n, m)) in (Some x.0, at_home s.homes k x.0 x.1)

  last_lawful : Lawful y.beginning last.world last.history last.checkpoints
  last_lawful = subst (λ (z : List ℕ × List (Option Room)). Lawful y.beginning (record { words = z.0; rooms = z.1; views = l.views }) l.history (checkpoints_of l.releases)) (λ j. (final.2 j, slots_are j)) (lawful y seats are s l id at)

  none_held : (i : ℕ) (v : View) → ViewIs last.world i v → v.grip ≡ None
  none_held = none_holds y seats are s l id at

  known : Each (λ (q : YardSeat). IsKnownIn y last l.releases (known_at q)) seats
  known = Each-weaker (Back y seats are s l id at) (λ (q : YardSeat). IsKnownIn y last l.releases (known_at q)) (λ q a. record { view = a.1.1.view; own = a.1.1.own ∙ ap (λ (b : Beginning). own_from (known_at q).view.thread (first_epoch b + 1) l.releases) a.0.begins }) seats (back y seats are s l id at)

  pub number_of_slots : length slots ≡ room_count (sizes_at y.beginning)
  number_of_slots = last_lawful.sized.rooms

  module _ (xs : List Room) (rooms : xs ≡ flat_map option_to_list slots) where
    home : map Some xs ≡ slots
    home = ap (λ (l : List Room). map Some l) rooms ∙ gathers slots (λ r lt. all_home y.beginning last last_lawful none_held r (let n = number_of_slots in omega (arith, lt, n)))

    pub many : length xs ≡ room_count (sizes_at y.beginning)
    many = number y.beginning last last_lawful none_held xs home

    pub few : length xs < 2 ^ 32
    few = few_rooms y.beginning last last_lawful none_held xs home

    pub fits : all_lines (memory_of xs) < 2 ^ 32
    fits = lines_fit y.beginning last last_lawful none_held xs home

  module _ (w : WorldState) (rooms : w.rooms ≡ flat_map option_to_list slots) where
    pub leaves : get_elem? words 2 ≡ some w.arrival → get_elem? words 1 ≡ some w.clock → AreDeadBelow (length slots) (lock_of last.world) w.held → LeavesYard y seats w
    leaves arrival clock held = record {
      told = last;
      releases = l.releases;
      lawful = last_lawful;
      released = refl;
      known = known;
      seen = λ i v e saw. ap (λ (b : Beginning). is_over b (checkpoints_of l.releases)) (sym same_life) ∙ l.seen i v e saw;
      rooms = home w.rooms rooms;
      arrival_is = sym (index_is words 2 0 w.arrival arrival);
      clock_is = sym (index_is words 1 0 w.clock clock);
      held = names_dead y.beginning last last_lawful none_held w.held (subst (λ (n : ℕ). AreDeadBelow n (lock_of last.world) w.held) number_of_slots held);
      memory = is_memory y.beginning last last_lawful none_held w.rooms (home w.rooms rooms);
    }
