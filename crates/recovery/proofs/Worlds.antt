-- The world that a resumed life opens with.
use Rattle.std.proofs.Common.{zero, suc, ◌&&◌, ◌≤◌, ◌∷◌, map, ◌≡◌, ◌≢◌, ℕ, ◌+◌, ◌-◌, ◌<◌, ◌↔◌, Bool, true, false, List, [], length, if◌then◌else◌, Option, Some, None, refl, sym, ap, ◌∙◌, subst, inl, inr, arith}
use Rattle.std.proofs.lemmas.Bool.Decides.{leb_tells}
use Rattle.std.proofs.lemmas.List.{get_or-replicate, get_or_past, length-replicate, length-map}
use mathlib.Core.Option.{some, some-injective, some-ne-none}
use lib.ListN.{get_elem?}
use Rattle.seq_object.specs.declared.history.RestartPoint.{RestartPoint}
use Rattle.room_model.specs.MapRoom.{live_layout}
use Rattle.life_model.specs.Life.{next_command, contents_now, script_of}
use Rattle.yard_model.specs.Beginnings.{are_used_below, has_items, first_epoch, IsBeginning, opening_of, sizes_at}
use Rattle.yard_model.specs.World.{Shows}
use Rattle.yard_model.specs.Opens.{opening_view, opening_views, IsOpeningRoom, IsOpeningPosition}
use Rattle.yard_model.specs.declared.view.View.{View}
use Rattle.yard_laws.proofs.Readings.{queue_empty}
use Rattle.yard_laws.proofs.OpeningViews.{views_open}
use Rattle.room_yard.specs.World.{WorldState, Opens, opening_yard}
use Rattle.room_yard.specs.Answers.{next_word}
use Rattle.room_yard.proofs.Words.{next_word_shows}
use Rattle.recovery.specs.Laws.{RecoveryOpensLaw, IsWorldOf, AreLengthsOf}
use Rattle.std.specs.Prelude.{nat_lt, nat_le, not, is_none, slice_index, slice_index_or, slice_get, replicate}
use Rattle.std.proofs.lemmas.Bool.{cases_lt}
use Rattle.std.proofs.lemmas.Option.{slice_get_past, slice_get-get_or}
use Rattle.seq_object.specs.declared.command.Command.{Command}
use Rattle.seq_object.specs.declared.command.Command.TheVariants.{Deq}
use Rattle.seq_object.specs.declared.settings.Settings.{Settings}
use Rattle.restart_point.specs.declared.thread_end.ThreadEnd.{ThreadEnd}
use Rattle.restart_point.specs.declared.thread_end.ThreadEnd.TheVariants.{Ready, Waits, Ended}
use Rattle.restart_point.specs.Rooms.{position_of}
use Rattle.rooms.specs.declared.room.Room.{Room}
use Rattle.rooms.specs.declared.room.Room.TheVariants.{Map, Queue, Thread, Super}
use Rattle.yard_model.specs.declared.view.Beginning.{Beginning}
use Rattle.rooms.specs.Rooms.{IsKindOf, loads, is_empty_queue}
use Rattle.epoch_word.specs.declared.stage.EpochStage.TheVariants.{InMemory}
use Rattle.recovery.specs.Restored.{room_at}
use Rattle.recovery.specs.Recovering.{RecoveryState, IsRecovery, write_backs_of, epoch_by_load}
use Rattle.recovery.specs.Ends.{told, AreTold, is_at_end, are_at_end}
use Rattle.recovery.proofs.Opens.{rooms_open}
use Rattle.seq_object.specs.Sizes.{thread_room, super_room, room_count}
use Rattle.room_model.specs.Rooms.{point_in}
use Rattle.seq_object.specs.History.{point_at}

-- an end changes nothing of what a room opens with
opening_told : (b : Beginning) (k n : ℕ) (x : Room) → IsOpeningRoom b k x → IsOpeningRoom b k (told n x)
opening_told b k n (Map x) h = h
opening_told b k n (Queue x) h = h
opening_told b k n (Super x) h = h
opening_told b k n (Thread x) h = record {
  kind = record { kind = h.kind.kind; lines = h.kind.lines };
  idle = h.idle;
  history = h.history;
  write_backs = h.write_backs;
  cells = h.cells;
  saved = h.saved;
  stands = h.stands;
  eight = h.eight;
  nothing_pending = h.nothing_pending;
  epoch = h.epoch;
}

-- the end that belongs to a place
pub record EndsRightly (end : ThreadEnd) (next : Option Command) : Type 0 where
  pub ended : (end ≡ Ended) ↔ (next ≡ None)
  pub no_wait : end ≢ Waits

abbrev is_ready : ThreadEnd → Bool
is_ready Ready = true
is_ready Waits = false
is_ready Ended = false

abbrev is_waiting : ThreadEnd → Bool
is_waiting Ready = false
is_waiting Waits = true
is_waiting Ended = false

abbrev is_there : Option Command → Bool
is_there (Some c) = true
is_there None = false

apart : true ≡ false → ⊥
apart e = cc

ends_at : (script : List Command) (place p n : ℕ) → p ≡ place → n ≡ length script → EndsRightly (if nat_le n p then Ended else Ready) (slice_get script place)
ends_at script place p n at all = elim (leb_tells n p) [
  | inl h ↦
      let ge = h.1 in
      let none : slice_get script place ≡ None = slice_get_past script place (omega (arith, at, all, ge)) in
      subst (λ (c : Bool). EndsRightly (if c then Ended else Ready) (slice_get script place)) (sym h.0) (record {
        ended = (λ e. none, λ e. refl);
        no_wait = λ e. apart (sym (ap is_waiting e));
      })
  | inr h ↦
      let lt = h.1 in
      let some : slice_get script place ≡ Some (slice_index_or script place Deq) = slice_get-get_or script place Deq (omega (arith, at, all, lt)) in
      subst (λ (c : Bool). EndsRightly (if c then Ended else Ready) (slice_get script place)) (sym h.0) (record {
        ended = (λ e. absurd (apart (ap is_ready e)), λ none. absurd (apart (sym (ap is_there some) ∙ ap is_there none)));
        no_wait = λ e. apart (ap is_ready e);
      })
]

-- and whether it is the script's end
at_end : (script : List Command) (place p n : ℕ) → p ≡ place → n ≡ length script → nat_le n p ≡ is_none (slice_get script place)
at_end script place p n at all = elim (leb_tells n p) [
  | inl h ↦
      let ge = h.1 in
      h.0 ∙ sym (ap is_none (slice_get_past script place (omega (arith, at, all, ge))))
  | inr h ↦
      let lt = h.1 in
      h.0 ∙ sym (ap is_none (slice_get-get_or script place Deq (omega (arith, at, all, lt))))
]

not_not : (c : Bool) → not (not c) ≡ c
not_not true = refl
not_not false = refl

-- a thread's room at its place, with its end
position_told : (b : Beginning) (i n : ℕ) (x : Room) → i < b.settings.threads → IsKindOf b.settings (thread_room (sizes_at b) i) x → point_in live_layout (loads x) ≡ point_at b.points i → n ≡ length (script_of b.scripts i)
    → IsOpeningPosition b i (told n x) × (is_at_end n x ≡ is_none (next_command (opening_of b) [] i))
position_told b i n (Map x) lt kind at all = let no = kind.0 in absurd (omega (arith, no))
position_told b i n (Queue x) lt kind at all = let no = kind.0 in absurd (omega (arith, no))
position_told b i n (Super x) lt kind at all = absurd (omega (arith, lt, kind))
position_told b i n (Thread x) lt kind at all =
    let place : position_of x ≡ (point_at b.points i).position = ap (λ (p : RestartPoint). p.position) at in
    let none_yet : position_of x ≡ (point_at b.points i).position + 0 = omega (arith, place) in
    let right = ends_at (script_of b.scripts i) ((point_at b.points i).position + 0) (position_of x) n none_yet all in (
      record { point = at; ended = right.ended; no_wait = right.no_wait },
      at_end (script_of b.scripts i) ((point_at b.points i).position + 0) (position_of x) n none_yet all,
    )

module _ (b : Beginning) (r : RecoveryState) (lengths : List ℕ) (rooms : List Room) (is : IsRecovery (opening_of b) r) (at : r.stage ≡ InMemory) (counts : b.write_backs ≡ write_backs_of r.rooms) (all : AreLengthsOf b lengths)
    (so : AreTold r.settings.shards lengths r.settings.threads r.rooms rooms) where
  shards_are : r.settings.shards ≡ b.settings.shards
  shards_are = ap (λ (s : Settings). s.shards) is.settings

  threads_are : r.settings.threads ≡ b.settings.threads
  threads_are = ap (λ (s : Settings). s.threads) is.settings

  thread_told : (i : ℕ) → i < b.settings.threads → room_at rooms (thread_room (sizes_at b) i) ≡ told (slice_index lengths i) (room_at r.rooms (thread_room (sizes_at b) i))
  thread_told i lt = subst (λ (s : ℕ). room_at rooms (s + 1 + i) ≡ told (slice_index lengths i) (room_at r.rooms (s + 1 + i))) shards_are (so.told_ends i (omega (arith, lt, threads_are)))

  room_opens : (k : ℕ) → k < room_count (sizes_at b) → IsOpeningRoom b k (room_at rooms k)
  room_opens k lt = elim (cases_lt b.settings.shards k) [
    | inl above ↦ elim (cases_lt k (super_room (sizes_at b))) [
      | inl below ↦
          let i : ℕ = k - (b.settings.shards + 1) in
          let place : thread_room (sizes_at b) i ≡ k = omega (arith, above, below) in
          let told_is = thread_told i (omega (arith, above, below)) in
          subst (λ (j : ℕ). IsOpeningRoom b j (room_at rooms j)) place (subst (λ (x : Room). IsOpeningRoom b (thread_room (sizes_at b) i) x) (sym told_is)
          (opening_told b (thread_room (sizes_at b) i) (slice_index lengths i) (room_at r.rooms (thread_room (sizes_at b) i)) ((rooms_open b r is at counts).0 (thread_room (sizes_at b) i) (omega (arith, place, lt)))))
      | inr last ↦ subst (λ (x : Room). IsOpeningRoom b k x) (sym (so.others k (λ i inside same. omega (arith, last, inside, same, shards_are, threads_are)))) ((rooms_open b r is at counts).0 k lt)
    ]
    | inr low ↦ subst (λ (x : Room). IsOpeningRoom b k x) (sym (so.others k (λ i inside same. omega (arith, low, same, shards_are)))) ((rooms_open b r is at counts).0 k lt)
  ]

  position_both : (i : ℕ) → i < b.settings.threads
      → IsOpeningPosition b i (told (slice_index lengths i) (room_at r.rooms (thread_room (sizes_at b) i))) × (is_at_end (slice_index lengths i) (room_at r.rooms (thread_room (sizes_at b) i)) ≡ is_none (next_command (opening_of b) [] i))
  position_both i lt =
      let k = thread_room (sizes_at b) i in
      let opens = rooms_open b r is at counts in
      position_told b i (slice_index lengths i) (room_at r.rooms k) lt (opens.0 k (omega (arith, lt))).kind.kind (opens.1 i lt) (all i lt)

  position_opens : (i : ℕ) → i < b.settings.threads → IsOpeningPosition b i (room_at rooms (thread_room (sizes_at b) i))
  position_opens i lt = subst (λ (x : Room). IsOpeningPosition b i x) (sym (thread_told i lt)) (position_both i lt).0

  -- all are at their scripts' ends exactly where every script is used
  used_told : (n : ℕ) → n ≤ b.settings.threads → are_at_end b.settings.shards lengths r.rooms n ≡ are_used_below b n
  used_told zero le = refl
  used_told (suc n) le = λ j. (position_both n (omega (arith, le))).1 j && used_told n (omega (arith, le)) j

  over_is : are_at_end r.settings.shards lengths r.rooms r.settings.threads ≡ are_used_below b b.settings.threads
  over_is = ap (λ (s : Settings). are_at_end s.shards lengths r.rooms s.threads) is.settings ∙ used_told b.settings.threads (omega arith)

  -- the queue has an item exactly where the image's has one
  fed_is : not (is_empty_queue (room_at r.rooms r.settings.shards)) ≡ has_items b.items
  fed_is =
      ap (λ (s : Settings). not (is_empty_queue (room_at r.rooms s.shards))) is.settings
      ∙ ap not (queue_empty (sizes_at b) (room_at r.rooms b.settings.shards) (contents_now (opening_of b) []) (((rooms_open b r is at counts).0 b.settings.shards (omega arith)).stands (omega arith)))
      ∙ not_not (has_items b.items)

  -- the epoch by load is the one that begins
  epoch_is : epoch_by_load r ≡ first_epoch b
  epoch_is =
      let number = is.number in
      let last : length r.rooms - 1 ≡ super_room (sizes_at b) = omega (arith, number) in
      ap (λ (k : ℕ). loads (room_at r.rooms k) 0 0) last ∙ ((rooms_open b r is at counts).0 (super_room (sizes_at b)) (omega arith)).epoch refl

-- LISTS

-- a list of zeros
abbrev zeros : ℕ → List ℕ
zeros n = replicate n 0

zeros_count : (n : ℕ) → length (zeros n) ≡ n
zeros_count n = let zero_word : ℕ = 0 in length-replicate n zero_word

zero_at : (n r : ℕ) → slice_index (zeros n) r ≡ 0
zero_at n r = elim (cases_lt r n) [
  | inl lt ↦ get_or-replicate n r 0 0 lt
  | inr ge ↦ get_or_past (zeros n) r 0 (let count = zeros_count n in omega (arith, count, ge))
]

-- rooms at home
home_at : (xs : List Room) (r : ℕ) → r < length xs → get_elem? (map Some xs) r ≡ some (Some (room_at xs r))
home_at [] r lt = absurd (omega (arith, lt))
home_at (x ∷ xs) zero lt = refl
home_at (x ∷ xs) (suc r) lt = home_at xs r (omega (arith, lt))

abbrev from_some : Room → Option Room → Room
from_some d None = d
from_some d (Some x) = x

at_home : (xs : List Room) (r : ℕ) (x : Room) → get_elem? (map Some xs) r ≡ some (Some x) → (r < length xs) × (room_at xs r ≡ x)
at_home [] r x e = absurd (some-ne-none (Some x) (sym e))
at_home (y ∷ ys) zero x e = (omega arith, ap (from_some y) (some-injective (Some y) (Some x) e))
at_home (y ∷ ys) (suc r) x e = let rest = at_home ys r x e in let lt = rest.0 in (omega (arith, lt), rest.1)

-- THE WORLD

module _ (b : Beginning) (r : RecoveryState) (lengths : List ℕ) (w : WorldState) (is : IsRecovery (opening_of b) r) (at : r.stage ≡ InMemory) (counts : b.write_backs ≡ write_backs_of r.rooms) (all : AreLengthsOf b lengths)
    (begins : IsBeginning b) (world : IsWorldOf r lengths w) where
  number : length w.rooms ≡ room_count (sizes_at b)
  number = world.told.count ∙ is.number

  views : (length (opening_views b) ≡ b.settings.threads) × ((i : ℕ) (v : View) → get_elem? (opening_views b) i ≡ some v → v ≡ opening_view b i)
  views = (views_open b (opening_views b)).0 refl

  word_shows : Shows w.arrival (λ i. nat_lt i b.settings.threads) false (are_used_below b b.settings.threads) (has_items b.items) (first_epoch b)
  word_shows =
      let over = over_is b r lengths w.rooms is at counts all world.told in
      let fed = fed_is b r lengths w.rooms is at counts all world.told in
      let epoch = epoch_is b r lengths w.rooms is at counts all world.told in
      let threads : r.settings.threads ≡ b.settings.threads = ap (λ (s : Settings). s.threads) is.settings in
      let word : w.arrival ≡ next_word b.settings.threads (are_used_below b b.settings.threads) (has_items b.items) (first_epoch b) = world.arrival ∙ (λ j. next_word (threads j) (over j) (fed j) (epoch j)) in
      subst (λ (n : ℕ). Shows n (λ i. nat_lt i b.settings.threads) false (are_used_below b b.settings.threads) (has_items b.items) (first_epoch b)) (sym word)
      (next_word_shows b.settings.threads (are_used_below b b.settings.threads) (has_items b.items) (first_epoch b) is.valid.few_threads (let early = begins.early in omega (arith, early)))

  opens : Opens b w
  opens = record {
    clock = world.clock;
    held = world.held;
    yard = record {
      beginning = begins;
      tick = refl;
      clock = refl;
      arrival = word_shows;
      locks = λ k. let at : 3 + k ≡ suc (suc (suc k)) = omega arith in ap (λ (n : ℕ). slice_index (opening_yard b w).words n) at ∙ zero_at (length w.rooms) k;
      number_of_words = let count = zeros_count (length w.rooms) in omega (arith, count, number);
      number_of_views = views.0;
      number_of_rooms = length-map w.rooms Some ∙ number;
      views = views.1;
      home = λ k lt. (room_at w.rooms k, home_at w.rooms k (omega (arith, lt, number)));
      rooms = λ k x here.
          let found = at_home w.rooms k x here in
          let lt = found.0 in
          subst (λ (y : Room). IsOpeningRoom b k y) found.1 (room_opens b r lengths w.rooms is at counts all world.told k (omega (arith, lt, number)));
      positions = λ i x lt here. subst (λ (y : Room). IsOpeningPosition b i y) (at_home w.rooms (thread_room (sizes_at b) i) x here).1 (position_opens b r lengths w.rooms is at counts all world.told i lt);
    };
  }

pub world_opens : RecoveryOpensLaw
world_opens b r lengths w is at counts all begins world = opens b r lengths w is at counts all begins world
