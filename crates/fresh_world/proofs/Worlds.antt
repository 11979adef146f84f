-- The world of fresh rooms is one that a start opens with.
use Rattle.std.proofs.Common.{◌≡◌, ◌≢◌, ℕ, zero, suc, ◌+◌, ◌<◌, ◌≤◌, ◌^◌, ◌↔◌, ◌==◌, ◌&&◌, Bool, true, false, List, [], ◌∷◌, length, map, if◌then◌else◌, Option, Some, None, refl, sym, ap, ◌∙◌, subst, inl, inr, arith}
use Rattle.std.specs.Prelude.{nat_lt, is_none, slice_index, slice_get, replicate}
use Rattle.std.specs.List.{list_all}
use Rattle.std.proofs.Math.ListN.{get_or-map}
use Rattle.std.proofs.lemmas.List.{get_or-replicate, get_or_past, length-replicate, length-map}
use Rattle.std.proofs.lemmas.Bool.{cases_lt, ne_eqb}
use mathlib.Core.Option.{some, some-injective, some-ne-none}
use lib.ListN.{get_elem?}
use Rattle.seq_object.specs.declared.command.Command.{Command}
use Rattle.seq_object.specs.declared.history.RestartPoint.{RestartPoint}
use Rattle.seq_object.specs.declared.settings.Settings.{Settings}
use Rattle.seq_object.specs.Sizes.{IsValid, sizes_of, thread_room, room_count}
use Rattle.seq_object.specs.History.{Scripts, first_point, first_points, point_at}
use Rattle.life_model.specs.Life.{next_command, script_of}
use Rattle.incll_var.specs.declared.state.CellState.{CellState}
use Rattle.incll_var.specs.declared.state.CellState.TheVariants.{Torn, Running, Closing, Saved}
use Rattle.incll_var.specs.Cells.{IsSavedIn}
use Rattle.restart_point.specs.declared.thread_end.ThreadEnd.{ThreadEnd}
use Rattle.restart_point.specs.declared.thread_end.ThreadEnd.TheVariants.{Ready, Waits, Ended}
use Rattle.rooms.specs.declared.room.Room.{Room}
use Rattle.rooms.specs.Rooms.{state_of, end_of}
use Rattle.yard_model.specs.declared.view.Beginning.{Beginning}
use Rattle.yard_model.specs.declared.view.View.{View}
use Rattle.yard_model.specs.Beginnings.{opening_of, are_used_below, IsBeginning}
use Rattle.yard_model.specs.World.{Shows}
use Rattle.yard_model.specs.Opens.{opening_view, opening_views, IsOpeningRoom, IsOpeningPosition}
use Rattle.yard_laws.proofs.Beginning.{used_each}
use Rattle.yard_laws.proofs.OpeningViews.{views_open}
use Rattle.room_yard.specs.Answers.{next_word}
use Rattle.room_yard.specs.World.{WorldState, Opens, CanOpen, opening_yard}
use Rattle.room_yard.proofs.Words.{next_word_shows}
use Rattle.fresh_world.specs.Rooms.{IsFreshRoom, AreFreshFrom, first_end}
use Rattle.fresh_world.specs.Start.{AreLengths, StartOpeningLaw, StartBeginsLaw, start_beginning}

-- what the world of a start begins with is how a start begins
pub start_opening : StartOpeningLaw
start_opening settings scripts limit = refl

-- a word of a list of zeros
zero_at : (n k : ℕ) → slice_index (replicate n 0) k ≡ 0
zero_at n k = elim (cases_lt k n) [
  | inl lt ↦ get_or-replicate n k 0 0 lt
  | inr ge ↦ get_or_past (replicate n 0) k 0 (let count : length {A = ℕ} (replicate n 0) ≡ n = length-replicate n 0 in omega (arith, count, ge))
]

-- each thread is at its first restart point
first_at : (n i : ℕ) → point_at (first_points n) i ≡ first_point
first_at zero i = refl
first_at (suc n) zero = refl
first_at (suc n) (suc i) = first_at n i

as_many_points : (n : ℕ) → length (first_points n) ≡ n
as_many_points zero = refl
as_many_points (suc n) = ap suc (as_many_points n)

-- the end that belongs to a place
record EndsRightly (end : ThreadEnd) (next : Option Command) : Type 0 where
  pub ended : (end ≡ Ended) ↔ (next ≡ None)
  pub no_wait : end ≢ Waits

some_command : (c : Command) (cs : List Command) → (length (c ∷ cs) == 0) ≡ false
some_command c cs = ne_eqb (suc (length cs)) 0 (λ e. omega (arith, e))

ready_first : (c : Command) → EndsRightly Ready (Some c)
ready_first c = record { ended = (λ e. cc, λ e. cc); no_wait = λ e. absurd (ready_waits e) }
  where
    ready_waits : Ready ≡ Waits → ⊥
    ready_waits e = cc

ends_first : (script : List Command) → EndsRightly (first_end (length script)) (slice_get script 0)
ends_first [] = record { ended = (λ e. refl, λ e. refl); no_wait = λ e. cc }
ends_first (c ∷ cs) = subst (λ (end : ThreadEnd). EndsRightly end (Some c)) (sym (ap (λ (b : Bool). if b then Ended else Ready) (some_command c cs))) (ready_first c)

empty_first : (script : List Command) → (length script == 0) ≡ is_none (slice_get script 0)
empty_first [] = refl
empty_first (c ∷ cs) = some_command c cs

-- cells that are saved before the first epoch
saved_before : (state : CellState) → IsSavedIn (λ c. c ≡ 0) state → IsSavedIn (λ c. c + 1 ≡ 1) state
saved_before (Torn e) saved = saved
saved_before (Running e) saved = saved
saved_before (Closing e) saved = saved
saved_before (Saved e) saved = omega (arith, saved)

-- Tests.

-- both of two tests are passed
first_true : (a c : Bool) → (a && c) ≡ true → a ≡ true
first_true true c e = refl
first_true false c e = absurd (cc)

second_true : (a c : Bool) → (a && c) ≡ true → c ≡ true
second_true true c e = e
second_true false c e = absurd (cc)

-- two tests that are passed together
same_test : (a c : Bool) → (a ≡ true → c ≡ true) → (c ≡ true → a ≡ true) → a ≡ c
same_test true c there back = sym (there refl)
same_test false true there back = back refl
same_test false false there back = refl

-- each of these numbers passes a test
each_passes : (p : ℕ → Bool) (ns : List ℕ) → list_all p ns ≡ true → (i : ℕ) → i < length ns → p (slice_index ns i) ≡ true
each_passes p [] pass i lt = absurd (omega (arith, lt))
each_passes p (n ∷ ns) pass zero lt = first_true (p n) (list_all p ns) pass
each_passes p (n ∷ ns) pass (suc i) lt = each_passes p ns (second_true (p n) (list_all p ns) pass) i (omega (arith, lt))

all_pass : (p : ℕ → Bool) (ns : List ℕ) → ((i : ℕ) → i < length ns → p (slice_index ns i) ≡ true) → list_all p ns ≡ true
all_pass p [] each = refl
all_pass p (n ∷ ns) each = λ j. each 0 (omega arith) j && all_pass p ns (λ i lt. each (suc i) (omega (arith, lt))) j

used_all : (b : Beginning) (n : ℕ) → ((i : ℕ) → i < n → is_none (next_command (opening_of b) [] i) ≡ true) → are_used_below b n ≡ true
used_all b zero each = refl
used_all b (suc n) each = λ j. each n (omega arith) j && used_all b n (λ i lt. each i (omega (arith, lt))) j

-- Lists of rooms.

abbrev from_some : Room → Option Room → Room
from_some d None = d
from_some d (Some x) = x

-- a room that is there is fresh
fresh_at : (s : Settings) (lengths : List ℕ) (k r n : ℕ) (xs : List Room) (x : Room) → n ≡ k + r → AreFreshFrom s lengths k xs → get_elem? (map Some xs) r ≡ some (Some x) → IsFreshRoom s lengths n x
fresh_at s lengths k r n [] x is fresh here = absurd (some-ne-none (Some x) (sym here))
fresh_at s lengths k zero n (y ∷ ys) x is fresh here =
    let e : k ≡ n = omega (arith, is) in
    let same : y ≡ x = ap (from_some y) (some-injective (Some y) (Some x) here) in
    subst (λ (j : ℕ). IsFreshRoom s lengths j x) e (subst (IsFreshRoom s lengths k) same fresh.0)
fresh_at s lengths k (suc r) n (y ∷ ys) x is fresh here = fresh_at s lengths (suc k) r n ys x (omega (arith, is)) fresh.1 here

-- each of these numbers has one
some_at : (xs : List Room) (r : ℕ) → r < length xs → (x : Room) × (get_elem? (map Some xs) r ≡ some (Some x))
some_at [] r lt = absurd (omega (arith, lt))
some_at (x ∷ xs) zero lt = (x, refl)
some_at (x ∷ xs) (suc r) lt = some_at xs r (omega (arith, lt))

module _ (s : Settings) (scripts : Scripts) (limit : ℕ) (lengths : List ℕ) (all : AreLengths scripts lengths) (many : length lengths ≡ s.threads) where
  abbrev b : Beginning
  b = start_beginning s scripts limit

  -- the length of a thread's script
  length_at : (i : ℕ) → slice_index lengths i ≡ length (script_of scripts i)
  length_at i = ap (λ (ns : List ℕ). slice_index ns i) (sym all.are) ∙ get_or-map (λ (script : List Command). length script) scripts i []

  -- a thread's first command is its script's first
  next_first : (i : ℕ) → next_command (opening_of b) [] i ≡ slice_get (script_of scripts i) 0
  next_first i = ap (λ (p : RestartPoint). slice_get (script_of scripts i) (p.position + 0)) (first_at s.threads i)

  -- a room opens
  room_opens : (k : ℕ) (x : Room) → IsFreshRoom s lengths k x → IsOpeningRoom b k x
  room_opens k x fresh = record {
    kind = fresh.kind;
    idle = fresh.idle;
    history = fresh.history;
    write_backs = fresh.write_backs ∙ sym (zero_at (room_count (sizes_of s)) k);
    cells = fresh.cells;
    saved = λ lt. saved_before (state_of x) (fresh.saved lt);
    stands = fresh.stands;
    eight = fresh.eight;
    nothing_pending = fresh.nothing_pending;
    epoch = fresh.epoch;
  }

  -- a thread's room has its place and its end
  position_opens : (i : ℕ) (x : Room) → i < s.threads → IsFreshRoom s lengths (thread_room (sizes_of s) i) x → IsOpeningPosition b i x
  position_opens i x lt fresh =
      let right : EndsRightly (end_of x) (next_command (opening_of b) [] i) =
      subst (EndsRightly (end_of x)) (sym (next_first i)) (subst (λ (e : ThreadEnd). EndsRightly e (slice_get (script_of scripts i) 0)) (sym (fresh.told i lt refl ∙ ap first_end (length_at i))) (ends_first (script_of scripts i))) in
      record {
        point = ap (λ (n : ℕ). record { position = n }) (fresh.place i lt refl) ∙ sym (first_at s.threads i);
        ended = right.ended;
        no_wait = right.no_wait;
      }

  -- the life is over exactly where no thread has a command
  used_at : (i : ℕ) → (slice_index lengths i == 0) ≡ is_none (next_command (opening_of b) [] i)
  used_at i = ap (λ (n : ℕ). n == 0) (length_at i) ∙ empty_first (script_of scripts i) ∙ ap is_none (sym (next_first i))

  begins : IsValid s → limit ≤ 2 ^ 63 → IsBeginning b
  begins valid le = record {
    settings = valid;
    scripts = let same : length (map (λ (script : List Command). length script) scripts) ≡ length lengths = ap length all.are in sym (length-map scripts (λ (script : List Command). length script)) ∙ same ∙ many;
    short = all.short;
    points = as_many_points s.threads;
    places = λ i lt. let at = ap (λ (p : RestartPoint). p.position) (first_at s.threads i) in omega (arith, at);
    begun = (refl, refl);
    epoch = omega arith;
    early = omega arith;
    limit = le;
  }

  over_is : list_all (λ (n : ℕ). n == 0) lengths ≡ are_used_below b s.threads
  over_is = same_test (list_all (λ (n : ℕ). n == 0) lengths) (are_used_below b s.threads)
      (λ pass. used_all b s.threads (λ i lt. sym (used_at i) ∙ each_passes (λ (n : ℕ). n == 0) lengths pass i (omega (arith, lt, many))))
      (λ used. all_pass (λ (n : ℕ). n == 0) lengths (λ i lt. used_at i ∙ ap is_none (used_each b s.threads used i (omega (arith, lt, many)))))

pub start_begins : StartBeginsLaw
start_begins settings scripts lengths limit valid many all le = begins settings scripts limit lengths all many valid le

-- what is made is a world of fresh rooms in which no thread has moved
pub record IsFreshWorld (s : Settings) (lengths : List ℕ) (w : WorldState) : Type 0 where
  pub number : length w.rooms ≡ room_count (sizes_of s)
  pub fresh : AreFreshFrom s lengths 0 w.rooms
  pub arrival : w.arrival ≡ next_word s.threads (list_all (λ (n : ℕ). n == 0) lengths) false 1
  pub clock : w.clock ≡ 0
  pub held : w.held ≡ []

-- a start opens with it
pub world_opens : (s : Settings) (lengths : List ℕ) (w : WorldState) → IsValid s → length lengths ≡ s.threads → IsFreshWorld s lengths w
    → (scripts : Scripts) (limit : ℕ) → AreLengths scripts lengths → limit ≤ 2 ^ 63 → Opens (start_beginning s scripts limit) w
world_opens s lengths w valid many world scripts limit all le = record {
  clock = world.clock;
  held = world.held;
  yard = record {
    beginning = begins s scripts limit lengths all many valid le;
    tick = refl;
    clock = refl;
    arrival = word_shows;
    locks = λ k. let at : 3 + k ≡ suc (suc (suc k)) = omega arith in ap (λ (n : ℕ). slice_index (opening_yard (start_beginning s scripts limit) w).words n) at ∙ zero_at (length w.rooms) k;
    number_of_words = let count : length {A = ℕ} (replicate (length w.rooms) 0) ≡ length w.rooms = length-replicate (length w.rooms) 0 in let number = world.number in omega (arith, count, number);
    number_of_views = views.0;
    number_of_rooms = length-map w.rooms Some ∙ world.number;
    views = views.1;
    home = λ k lt. let number = world.number in some_at w.rooms k (omega (arith, lt, number));
    rooms = λ k x here. room_opens s scripts limit lengths all many k x (fresh_at s lengths 0 k k w.rooms x (omega arith) world.fresh here);
    positions = λ i x lt here. position_opens s scripts limit lengths all many i x lt (fresh_at s lengths 0 (thread_room (sizes_of s) i) (thread_room (sizes_of s) i) w.rooms x (omega arith) world.fresh here);
  };
}
  where
    views : (length (opening_views (start_beginning s scripts limit)) ≡ s.threads) × ((i : ℕ) (v : View) → get_elem? (opening_views (start_beginning s scripts limit)) i ≡ some v → v ≡ opening_view (start_beginning s scripts limit) i)
    views = (views_open (start_beginning s scripts limit) (opening_views (start_beginning s scripts limit))).0 refl

    word_shows : Shows w.arrival (λ i. nat_lt i s.threads) false (are_used_below (start_beginning s scripts limit) s.threads) false 1
    word_shows =
        let word : w.arrival ≡ next_word s.threads (are_used_below (start_beginning s scripts limit) s.threads) false 1 = world.arrival ∙ ap (λ (over : Bool). next_word s.threads over false 1) (over_is s scripts limit lengths all many) in
        subst (λ (n : ℕ). Shows n (λ i. nat_lt i s.threads) false (are_used_below (start_beginning s scripts limit) s.threads) false 1) (sym word)
        (next_word_shows s.threads (are_used_below (start_beginning s scripts limit) s.threads) false 1 valid.sizes.few_threads (omega arith))

-- and so a life of these settings and scripts may open with it
pub world_can_open : (s : Settings) (lengths : List ℕ) (w : WorldState) → IsValid s → length lengths ≡ s.threads → IsFreshWorld s lengths w
    → (scripts : Scripts) (limit : ℕ) → AreLengths scripts lengths → limit ≤ 2 ^ 63 → CanOpen s scripts limit w
world_can_open s lengths w valid many world scripts limit all le = record {
  beginning = start_beginning s scripts limit;
  begins = record { settings_are = refl; scripts_are = refl; limit_is = refl };
  opens = world_opens s lengths w valid many world scripts limit all le;
}
