-- A world has one beginning: the one that is read off its rooms.
use Rattle.std.proofs.Common.{◌≡◌, ◌≢◌, ℕ, zero, suc, ◌+◌, ◌-◌, ◌/◌, ◌^◌, ◌<◌, ◌≤◌, ◌⊎◌, ◌==◌, ◌&&◌, cond, Bool, false, List, [], ◌∷◌, map, length, drop, get_or, Option, Some, None, sym, refl, ap, ◌∙◌, subst, inl, inr, ⊎_elim, arith, eq-eqb, ◌↔◌}
use Rattle.std.specs.Prelude.{nat_lt, is_none}
use Rattle.std.specs.List.{flat_map, All}
use Rattle.std.specs.FinMap.{empty, entries, from_entries}
use Rattle.std.specs.Ordering.{nat_cmp}
use Rattle.std.proofs.lemmas.Bool.{ne_eqb}
use Rattle.std.proofs.lemmas.List.{length-map}
use mathlib.Core.Option.{some, some-injective, some-ne-none}
use lib.ListN.{get_elem?}
use Rattle.seq_object.specs.declared.command.Command.{Command}
use Rattle.seq_object.specs.declared.history.RestartPoint.{RestartPoint}
use Rattle.seq_object.specs.Sizes.{sizes_of, thread_room, room_count}
use Rattle.seq_object.specs.Object.{Pairs, Contents, shard_of, shard_pairs, part_of}
use Rattle.seq_object.specs.History.{first_point, point_at}
use Rattle.seq_object.proofs.Pairs.{one_map}
use Rattle.line_memory.specs.Line.{BankState, bank_load}
use Rattle.room_model.specs.declared.write.PlannedStore.{PlannedStore}
use Rattle.room_model.specs.MapRoom.{live_layout}
use Rattle.room_model.specs.Rooms.{StandsFor}
use Rattle.room_model.specs.Writes.{stored_in}
use Rattle.room_laws.proofs.MapLaws.{layouts}
use Rattle.room_laws.proofs.OneContents.{contents}
use Rattle.room_model.specs.Walks.{contents_of}
use Rattle.life_model.specs.declared.life.Life.{Life}
use Rattle.life_model.specs.declared.life.Life.TheVariants.{Start, Resume}
use Rattle.life_model.specs.Life.{Opening, BeginsRightly, next_command, script_of, contents_now}
use Rattle.incll_var.specs.declared.state.CellState.{CellState}
use Rattle.incll_var.specs.declared.state.CellState.TheVariants.{Torn, Running, Closing, Saved}
use Rattle.incll_var.specs.Cells.{IsSavedIn, IsTorn}
use Rattle.command_room.specs.Room.{contents_in, CommandRoomState}
use Rattle.rooms.specs.declared.room.Room.{Room}
use Rattle.rooms.specs.declared.room.Room.TheVariants.{Map, Queue, Thread, Super}
use Rattle.yard_model.specs.declared.view.Beginning.{Beginning}
use Rattle.rooms.specs.Rooms.{bank_of, loads, end_of, state_of}
use Rattle.yard_model.specs.Beginnings.{opening_of, sizes_at, recovery_marks, first_epoch, are_used_below, has_items, IsBeginning}
use Rattle.yard_model.specs.World.{Home, Shows}
use Rattle.yard_model.specs.Opens.{IsOpeningRoom, IsOpeningPosition, opening_view, opening_views}
use Rattle.life_model.specs.Crash.{epoch_after}
use Rattle.restart_point.specs.declared.thread_end.ThreadEnd.TheVariants.{Ended}
use Rattle.yard_model.specs.declared.view.View.{View}
use Rattle.yard_laws.proofs.OpeningViews.{views_open}
use Rattle.std.proofs.lemmas.List.Elements.{All-nil, All-cons}
use Rattle.seq_object.specs.declared.settings.Settings.{Settings}
use Rattle.room_yard.specs.World.{WorldState, pairs_at, items_at, points_at, first_life, epoch_before, beginning_with, opening_yard, Opens, IsReadable, Begins}
use Rattle.room_yard.proofs.Gathered.{found_from, only_one, each_from}
use Rattle.seq_object.specs.declared.sizes.Sizes.{Sizes}
use Rattle.planned_cells.specs.Planned.{words_in}

-- LISTS of rooms at home
at_some : (xs : List Room) (r : ℕ) (x : Room) → get_elem? xs r ≡ some x → get_elem? (map Some xs) r ≡ some (Some x)
at_some [] r x e = absurd (some-ne-none x (sym e))
at_some (y ∷ ys) zero x e = ap (λ (z : Room). some (Some z)) (some-injective y x e)
at_some (y ∷ ys) (suc r) x e = at_some ys r x e

-- one of two values, where there is one
abbrev from_some : Room → Option Room → Room
from_some d None = d
from_some d (Some x) = x

some_at : (xs : List Room) (r : ℕ) (x : Room) → get_elem? (map Some xs) r ≡ some (Some x) → get_elem? xs r ≡ some x
some_at [] r x e = absurd (some-ne-none (Some x) (sym e))
some_at (y ∷ ys) zero x e = ap (λ (z : Option Room). some (from_some y z)) (some-injective (Some y) (Some x) e)
some_at (y ∷ ys) (suc r) x e = some_at ys r x e

-- the count of a room in the list of all counts
index_at : (xs : List Room) (r : ℕ) (x : Room) → get_elem? xs r ≡ some x → get_or (map (λ (x : Room). (bank_of x).write_backs) xs) r 0 ≡ (bank_of x).write_backs
index_at [] r x e = absurd (some-ne-none x (sym e))
index_at (y ∷ ys) zero x e = ap (λ (z : Room). (bank_of z).write_backs) (some-injective y x e)
index_at (y ∷ ys) (suc r) x e = index_at ys r x e

-- WORDS
-- of saved cells with nothing planned, the words are the loads
words_saved : (P : ℕ → Type 0) (state : CellState) (bank : BankState) (stores : List PlannedStore) → IsSavedIn P state → stores ≡ [] → words_in state bank stores ≡ bank_load bank
words_saved P (Torn c) bank stores s e = absurd s
words_saved P (Running c) bank stores s e = absurd s
words_saved P (Closing c) bank stores s e = absurd s
words_saved P (Saved c) bank stores s e = ap (stored_in (bank_load bank)) e

not_torn : (P : ℕ → Type 0) (state : CellState) → IsSavedIn P state → IsTorn state → ⊥
not_torn P (Torn c) s t = s
not_torn P (Running c) s t = s
not_torn P (Closing c) s t = s
not_torn P (Saved c) s t = t

module _ (b : Beginning) (w : WorldState) (o : Opens b w) where
  abbrev z : Sizes
  z = sizes_at b

  abbrev whole : Contents
  whole = (opening_of b).state.contents

  room_is : (r : ℕ) (x : Room) → get_elem? w.rooms r ≡ some x → IsOpeningRoom b r x
  room_is r x at = o.yard.rooms r x (at_some w.rooms r x at)

  numbered : (k n : ℕ) (x : Room) → get_elem? w.rooms k ≡ some x → n ≡ 0 + k → IsOpeningRoom b n x
  numbered k n x at e = let f : k ≡ n = omega (arith, e) in subst (λ (n : ℕ). IsOpeningRoom b n x) f (room_is k x at)

  -- a room of commands holds its part of what the object holds
  part_in : (r : ℕ) (x : CommandRoomState) (room : Room) → x.room ≡ r → x.settings ≡ b.settings → x.plan.stores ≡ [] → IsSavedIn (λ c. c + 1 ≡ first_epoch b) x.cells.state
      → bank_of room ≡ x.cells.bank → r ≤ b.settings.shards → IsOpeningRoom b r room → contents_in x ≡ part_of z r whole
  part_in r x room number settings idle saved bank low is =
      (λ j. contents_of live_layout (sizes_of (settings j)) (number j) (words_saved (λ c. c + 1 ≡ first_epoch b) x.cells.state x.cells.bank x.plan.stores saved idle j))
      ∙ ap (λ (k : BankState). contents_of live_layout z r (bank_load k)) (sym bank)
      ∙ contents live_layout z r (loads room) whole layouts.in_use (is.stands low)

  -- PAIRS

  abbrev part_by : Bool → ℕ → Contents
  part_by c r = cond c (record { pairs = empty; items = whole.items }) (record { pairs = shard_pairs z r whole.pairs; items = [] })

  shard_part : (r : ℕ) → r < z.shards → (part_of z r whole).pairs ≡ shard_pairs z r whole.pairs
  shard_part r lt = ap (λ (c : Bool). (part_by c r).pairs) (ne_eqb r z.shards (λ e. omega (arith, e, lt)))

  queue_part : (part_of z z.shards whole).items ≡ whole.items
  queue_part = ap (λ (c : Bool). (part_by c z.shards).items) (eq-eqb z.shards z.shards refl)

  -- a shard's room has its pairs, and any other room none
  pairs_of : (r : ℕ) (x : Room) → IsOpeningRoom b r x → ((r < z.shards) × (pairs_at x ≡ entries (shard_pairs z r whole.pairs))) ⊎ (pairs_at x ≡ [])
  pairs_of r (Map x) is =
      let k = is.kind.kind in
      inl (k.0, (λ j. entries (part_in r x (Map x) k.1 k.2 is.idle.1 (is.saved (let f = k.0 in omega (arith, f))) refl (let f = k.0 in omega (arith, f)) is j).pairs) ∙ ap (λ (m : Pairs). entries m) (shard_part r k.0))
  pairs_of r (Queue x) is = inr refl
  pairs_of r (Thread x) is = inr refl
  pairs_of r (Super x) is = inr refl

  pairs_here : (r : ℕ) (x : Room) → IsOpeningRoom b r x → r < z.shards → pairs_at x ≡ entries (shard_pairs z r whole.pairs)
  pairs_here r (Map x) is lt = mine (pairs_of r (Map x) is)
    where
      mine : ((r < z.shards) × (pairs_at (Map x) ≡ entries (shard_pairs z r whole.pairs))) ⊎ (pairs_at (Map x) ≡ []) → pairs_at (Map x) ≡ entries (shard_pairs z r whole.pairs)
      mine (inl f) = f.1
      mine (inr none) =
          let k = is.kind.kind in
          (λ j. entries (part_in r x (Map x) k.1 k.2 is.idle.1 (is.saved (omega (arith, lt))) refl (omega (arith, lt)) is j).pairs) ∙ ap (λ (m : Pairs). entries m) (shard_part r lt)
  pairs_here r (Queue x) is lt = let k = is.kind.kind.0 in absurd (omega (arith, k, lt))
  pairs_here r (Thread x) is lt = let k = is.kind.kind.0 in absurd (omega (arith, k, lt))
  pairs_here r (Super x) is lt = let k = is.kind.kind in absurd (omega (arith, k, lt))

  abbrev count_rooms : ℕ
  count_rooms = room_count z

  rooms_number : length w.rooms ≡ room_count z
  rooms_number = sym (length-map w.rooms Some) ∙ o.yard.number_of_rooms

  pairs_same : from_entries {R = nat_cmp} (flat_map pairs_at w.rooms) ≡ whole.pairs
  pairs_same = one_map (from_entries (flat_map pairs_at w.rooms)) whole.pairs (λ q.
      let some_shards = o.yard.beginning.settings.sizes.some_shards in
      let low : shard_of z q < z.shards = omega (arith, some_shards) in
      found_from pairs_at z whole.pairs 0 q w.rooms (λ k n x at e. pairs_of n x (numbered k n x at e))
      (λ k x at e. pairs_here (shard_of z q) x (numbered k (shard_of z q) x at e) low)
      (omega arith) (let n = rooms_number in omega (arith, n, low)))

  -- ITEMS

  items_here : (r : ℕ) (x : Room) → IsOpeningRoom b r x → r ≡ z.shards → items_at x ≡ whole.items
  items_here r (Map x) is e = let k = is.kind.kind.0 in absurd (omega (arith, k, e))
  items_here r (Queue x) is e =
      let k = is.kind.kind in
      (λ j. (part_in r x (Queue x) k.1 k.2 is.idle.1 (is.saved (omega (arith, e))) refl (omega (arith, e)) is j).items) ∙ ap (λ (n : ℕ). (part_of z n whole).items) e ∙ queue_part
  items_here r (Thread x) is e = let k = is.kind.kind.0 in absurd (omega (arith, k, e))
  items_here r (Super x) is e = let k = is.kind.kind in absurd (omega (arith, k, e))

  no_items : (r : ℕ) (x : Room) → IsOpeningRoom b r x → r ≢ z.shards → items_at x ≡ []
  no_items r (Map x) is ne = refl
  no_items r (Queue x) is ne = absurd (ne is.kind.kind.0)
  no_items r (Thread x) is ne = refl
  no_items r (Super x) is ne = refl

  items_same : flat_map items_at w.rooms ≡ whole.items
  items_same = only_one items_at whole.items z.shards 0 w.rooms (λ k x at e. items_here z.shards x (numbered k z.shards x at e) refl) (λ k n x at e ne. no_items n x (numbered k n x at e) ne)
      (omega arith) (let n = rooms_number in omega (arith, n))

  -- RESTART POINTS

  points_here : (r i : ℕ) (x : Room) → IsOpeningRoom b r x → get_elem? w.rooms r ≡ some x → r ≡ z.shards + 1 + i → i < length b.points → points_at x ≡ point_at b.points i ∷ []
  points_here r i (Map x) is at e lt = let k = is.kind.kind.0 in absurd (omega (arith, k, e))
  points_here r i (Queue x) is at e lt = let k = is.kind.kind.0 in absurd (omega (arith, k, e))
  points_here r i (Thread x) is at e lt =
      let n = o.yard.beginning.points in
      let at_home = subst (λ (r : ℕ). Home (opening_yard b w) r (Thread x)) e (at_some w.rooms r (Thread x) at) in
      ap (λ (p : RestartPoint). p ∷ []) (o.yard.positions i (Thread x) (omega (arith, n, lt)) at_home).point
  points_here r i (Super x) is at e lt = let k = is.kind.kind in let n = o.yard.beginning.points in absurd (omega (arith, k, e, lt, n))

  no_points : (r : ℕ) (x : Room) → IsOpeningRoom b r x → (r < z.shards + 1) ⊎ (z.shards + 1 + length b.points ≤ r) → points_at x ≡ []
  no_points r (Map x) is out = refl
  no_points r (Queue x) is out = refl
  no_points r (Thread x) is out = let k = is.kind.kind in let n = o.yard.beginning.points in
      ⊎_elim (λ lt. let f = k.0 in absurd (omega (arith, f, lt))) (λ ge. let f = k.1 in absurd (omega (arith, f, ge, n))) out
  no_points r (Super x) is out = refl

  points_same : flat_map points_at w.rooms ≡ b.points
  points_same = each_from points_at first_point b.points (z.shards + 1) 0 w.rooms (λ k i x at e lt. points_here k i x (room_is k x at) at (omega (arith, e)) lt) (λ k n x at e out. no_points n x (numbered k n x at e) out)
      (let n = rooms_number in let m = o.yard.beginning.points in omega (arith, n, m))
      ∙ (let none : 0 - (z.shards + 1) ≡ 0 = omega arith in ap (λ (n : ℕ). drop n b.points) none)

  -- THE EPOCH

  epoch_is : w.arrival / 2 ^ 32 ≡ first_epoch b
  epoch_is = o.yard.arrival.epoch

  life_by : (life : Life) (epoch : ℕ) → b.life ≡ life → 1 ≤ epoch → (life ≡ Start → epoch ≡ 1) → (first_life (epoch + length (recovery_marks life)) ≡ life) × (epoch_before (epoch + length (recovery_marks life)) ≡ epoch)
  life_by Start epoch is big begun = let e : epoch ≡ 1 = begun refl in let n : epoch + 0 ≡ 1 = omega (arith, e) in
      (ap first_life n, ap epoch_before n ∙ sym e)
  life_by Resume epoch is big begun =
      let n : (epoch + 1 == 1) ≡ false = ne_eqb (epoch + 1) 1 (λ e. omega (arith, e, big)) in
      (ap (λ (c : Bool). cond c Start Resume) n, ap (λ (c : Bool). cond c 1 (epoch + 1 - 1)) n ∙ omega arith)

  starts : (life : Life) → b.life ≡ life → life ≡ Start → b.epoch ≡ 1
  starts Start is e = begun_start b.life is o.yard.beginning.begun
    where
      begun_start : (life : Life) → life ≡ Start → BeginsRightly (record (opening_of b) { life = life }) [] (recovery_marks life) → b.epoch ≡ 1
      begun_start Start e f = f.1
      begun_start Resume e f = absurd (cc)
  starts Resume is e = absurd (cc)

  life_same : (first_life (w.arrival / 2 ^ 32) ≡ b.life) × (epoch_before (w.arrival / 2 ^ 32) ≡ b.epoch)
  life_same = subst (λ (n : ℕ). (first_life n ≡ b.life) × (epoch_before n ≡ b.epoch)) (sym epoch_is) (life_by b.life b.epoch refl o.yard.beginning.epoch (λ e. starts b.life refl e))

  -- THE BEGINNING

  abbrev read : Beginning
  read = beginning_with b.settings b.scripts b.limit w

  pub opening_same : opening_of read ≡ opening_of b
  opening_same = λ j. record {
    settings = b.settings;
    scripts = b.scripts;
    life = life_same.0 j;
    epoch = life_same.1 j;
    state = record { contents = record { pairs = pairs_same j; items = items_same j }; points = points_same j };
  }

  first_same : first_epoch read ≡ first_epoch b
  first_same = ap (λ (a : Opening). epoch_after a (recovery_marks a.life)) opening_same

  used_same : (n : ℕ) → are_used_below read n ≡ are_used_below b n
  used_same zero = refl
  used_same (suc n) = λ j. is_none (next_command (opening_same j) [] n) && used_same n j

  begins : IsBeginning read
  begins = let f = o.yard.beginning in record {
    settings = f.settings;
    scripts = f.scripts;
    short = f.short;
    points = ap (λ (ps : List RestartPoint). length ps) points_same ∙ f.points;
    places = λ thread lt. subst (λ (ps : List RestartPoint). (point_at ps thread).position ≤ length (script_of b.scripts thread)) (sym points_same) (f.places thread lt);
    begun = subst (λ (a : Opening). BeginsRightly a [] (recovery_marks a.life)) (sym opening_same) f.begun;
    epoch = subst (λ (n : ℕ). 1 ≤ n) (sym life_same.1) f.epoch;
    early = let e = first_same in let g = f.early in omega (arith, e, g);
    limit = f.limit;
  }

  room_again : (r : ℕ) (x : Room) → Home (opening_yard b w) r x → IsOpeningRoom read r x
  room_again r x at_home = let f = o.yard.rooms r x at_home in record {
    kind = f.kind;
    idle = f.idle;
    history = f.history;
    write_backs = sym (index_at w.rooms r x (some_at w.rooms r x at_home));
    cells = f.cells;
    saved = λ few. subst (λ (n : ℕ). IsSavedIn (λ c. c + 1 ≡ n) (state_of x)) (sym first_same) (f.saved few);
    stands = λ low. subst (λ (a : Opening). StandsFor live_layout z r (loads x) (contents_now a [])) (sym opening_same) (f.stands low);
    eight = f.eight;
    nothing_pending = f.nothing_pending;
    epoch = λ is. f.epoch is ∙ sym first_same;
  }

  position_again : (i : ℕ) (x : Room) → i < b.settings.threads → Home (opening_yard b w) (thread_room z i) x → IsOpeningPosition read i x
  position_again i x lt at_home = let f = o.yard.positions i x lt at_home in record {
    point = f.point ∙ ap (λ (ps : List RestartPoint). point_at ps i) (sym points_same);
    ended = subst (λ (a : Opening). (end_of x ≡ Ended) ↔ (next_command a [] i ≡ None)) (sym opening_same) f.ended;
    no_wait = f.no_wait;
  }

  views_read : (length (opening_views read) ≡ b.settings.threads) × ((i : ℕ) (v : View) → get_elem? (opening_views read) i ≡ some v → v ≡ opening_view read i)
  views_read = (views_open read (opening_views read)).0 refl

  pub opens_again : Opens read w
  opens_again = record {
    clock = o.clock;
    held = o.held;
    yard = record {
      beginning = begins;
      tick = o.yard.tick;
      clock = o.yard.clock;
      arrival = subst (λ (p : Bool × List ℕ × ℕ). Shows w.arrival (λ i. nat_lt i b.settings.threads) false p.0 (has_items p.1) p.2)
          (λ j. (sym (used_same b.settings.threads) j, sym items_same j, sym first_same j)) o.yard.arrival;
      locks = o.yard.locks;
      number_of_words = o.yard.number_of_words;
      number_of_views = views_read.0;
      number_of_rooms = o.yard.number_of_rooms;
      views = views_read.1;
      home = o.yard.home;
      rooms = room_again;
      positions = position_again;
    };
  }

  -- READING

  readable : (r : ℕ) (x : Room) → IsOpeningRoom b r x → IsReadable x
  readable r (Map x) is = let k = is.kind.kind.0 in record {
    left = is.idle.1;
    whole = λ torn. not_torn (λ c. c + 1 ≡ first_epoch b) x.cells.state (is.saved (omega (arith, k))) torn;
  }
  readable r (Queue x) is = let k = is.kind.kind.0 in record {
    left = is.idle.1;
    whole = λ torn. not_torn (λ c. c + 1 ≡ first_epoch b) x.cells.state (is.saved (omega (arith, k))) torn;
  }
  readable r (Thread x) is = tt
  readable r (Super x) is = tt

  pub all_readable : All IsReadable w.rooms
  all_readable = each w.rooms 0 numbered
    where
      each : (xs : List Room) (r : ℕ) → ((k n : ℕ) (x : Room) → get_elem? xs k ≡ some x → n ≡ r + k → IsOpeningRoom b n x) → All IsReadable xs
      each [] r all = All-nil IsReadable
      each (x ∷ xs) r all = All-cons IsReadable x xs (readable r x (all 0 r x refl (omega arith))) (each xs (suc r) (λ k n y at e. all (suc k) n y at (omega (arith, e))))

-- what is read off a world is the one beginning with which it opens
pub read_opens : (settings : Settings) (scripts : List (List Command)) (limit : ℕ) (w : WorldState) (b c : Beginning) → c ≡ beginning_with settings scripts limit w
    → Begins settings scripts limit b → Opens b w → (opening_of c ≡ opening_of b) × Opens c w
read_opens settings scripts limit w b c is begins o = subst (λ (d : Beginning). (opening_of d ≡ opening_of b) × Opens d w) (sym is)
    (subst (λ (t : Settings × List (List Command) × ℕ). (opening_of (beginning_with t.0 t.1 t.2 w) ≡ opening_of b) × Opens (beginning_with t.0 t.1 t.2 w) w)
    (λ j. (begins.settings_are j, begins.scripts_are j, begins.limit_is j)) (opening_same b w o, opens_again b w o))
