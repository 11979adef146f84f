-- What a start opens with: its workers, the lengths of its scripts, and its first state.
use Rattle.std.proofs.Common.{◌≡◌, ◌≢◌, ℕ, zero, suc, ◌+◌, ◌<◌, ◌≤◌, ◌^◌, Bool, true, false, if◌then◌else◌, List, [], ◌∷◌, ◌++◌, length, map, Some, refl, sym, ap, ◌∙◌, subst, inl, inr, arith}
use Rattle.std.specs.Prelude.{replicate, slice_get, slice_index, slice_index_or}
use Rattle.std.specs.Global.{Vec}
use Rattle.std.specs.List.{All}
use Rattle.std.proofs.lemmas.Bool.{cases_lt}
use Rattle.std.proofs.lemmas.List.{get_or-map, get_or-replicate, get_or_past, length-append, length-map, length-replicate}
use Rattle.std.proofs.lemmas.List.Elements.{All-map}
use Rattle.std.proofs.lemmas.Option.{slice_get-get_or}
use Rattle.std.proofs.lemmas.Simd.{map-map}
use Rattle.seq_object.specs.declared.command.Command.{Command}
use Rattle.seq_object.specs.declared.history.RestartPoint.{RestartPoint}
use Rattle.seq_object.specs.declared.settings.Settings.{Settings}
use Rattle.seq_object.specs.Sizes.{sizes_of, room_count}
use Rattle.seq_object.specs.History.{Scripts, first_point, first_points, point_at}
use Rattle.life_model.specs.Life.{Opening, start_of, script_of, reported}
use Rattle.restart_point.specs.declared.thread_end.ThreadEnd.{ThreadEnd}
use Rattle.restart_point.specs.declared.thread_end.ThreadEnd.TheVariants.{Ready, Waits, Ended}
use Rattle.rooms.specs.declared.room.Room.{Room}
use Rattle.rooms.specs.Rooms.{bank_of}
use Rattle.yard_model.specs.declared.view.Beginning.{Beginning}
use Rattle.yard_model.specs.declared.view.Grip.{Grip}
use Rattle.yard_model.specs.Beginnings.{opening_of, sizes_at, recovery_marks, lengths_of, marks_of, write_backs_at}
use Rattle.yard_model.specs.Opens.{opening_view}
use Rattle.room_yard.specs.Told.{Told}
use Rattle.room_yard.specs.World.{WorldState, Opens, beginning_with}
use Rattle.plain_yard.specs.Shown.{opening_told}
use Rattle.fresh_world.specs.Start.{AreLengths, start_beginning}
use Rattle.worker_model.specs.declared.hand.Hand.{Hand}
use Rattle.worker_model.specs.declared.hand.Hand.TheVariants.{Empty, Commands, Drawn, NoItem, Own, Closes, Refused}
use Rattle.worker_model.specs.Counts.{most_done_by}
use Rattle.worker_model.specs.Workers.{WorkerState, IsWorker, HandFits}
use Rattle.replay_model.specs.Replays.{ReplayState}
use Rattle.replay_model.specs.Kept.{IsReplay}
use Rattle.replay_model.specs.Laws.{opening_replay}
use Rattle.replay_laws.proofs.Opens.{opens_replay}
use Rattle.replay_progress.specs.Shown.{GoesOnRight}
use Rattle.replay_progress.proofs.Opening.{opens_right}
use Rattle.script_run.specs.Runs.{HaveDone}
use Rattle.script_run.specs.Starts.{IsStartOf, IsAtPlaces, AreFirstWorkers}
use Rattle.script_run.specs.Steps.{AreMarksOf}
use Rattle.life_model.specs.declared.life.Life.{Life}
use Rattle.life_model.specs.declared.life.Life.TheVariants.{Start, Resume}
use Rattle.yard_model.specs.declared.view.Checkpoint.{Checkpoint}

-- SCRIPTS.

-- the numbers of commands are the lengths of the scripts
pub lengths_are : (scripts : List (Vec Command)) (lengths : List ℕ) → lengths ≡ map (λ (s : Vec Command). length s.items) scripts → All (λ (s : Vec Command). length s.items ≤ 4096) scripts
    → AreLengths (map (λ (s : Vec Command). s.items) scripts) lengths
lengths_are scripts lengths is short = record {
  are = map-map (λ (script : List Command). length script) (λ (s : Vec Command). s.items) scripts ∙ sym is;
  short = All-map (λ (script : List Command). length script ≤ 4096) (λ (s : Vec Command). s.items) scripts short;
}

-- a thread's script
pub script_at : (scripts : List (Vec Command)) (i : ℕ) (other : Vec Command) → i < length scripts → script_of (map (λ (s : Vec Command). s.items) scripts) i ≡ (slice_index_or scripts i other).items
script_at scripts i other lt = get_or-map (λ (s : Vec Command). s.items) scripts i other [] lt

-- WORKERS.

-- each thread is at its first restart point
first_at : (n i : ℕ) → point_at (first_points n) i ≡ first_point
first_at zero i = refl
first_at (suc n) zero = refl
first_at (suc n) (suc i) = first_at n i

-- a number of a list of zeros
zero_at : (n k : ℕ) → slice_index (replicate n 0) k ≡ 0
zero_at n k = elim (cases_lt k n) [
  | inl lt ↦ get_or-replicate n k 0 0 lt
  | inr ge ↦ get_or_past (replicate n 0) k 0 (let count : length {A = ℕ} (replicate n 0) ≡ n = length-replicate n 0 in omega (arith, count, ge))
]

-- a start goes on from the first place of each script
pub start_places : (settings : Settings) (scripts : Scripts) (places : List ℕ) → places ≡ replicate settings.threads 0 → IsAtPlaces settings scripts places (start_of settings scripts)
start_places settings scripts places are = record {
  settings_are = refl;
  scripts_are = refl;
  places_are = λ i lt. ap (λ (p : RestartPoint). p.position) (first_at settings.threads i) ∙ sym (ap (λ (ps : List ℕ). slice_index ps i) are ∙ zero_at settings.threads i);
}

-- what holds of each item of a list by its place, and of one more behind it, holds of each item of both
each_more : {X : Type 0} (P : ℕ → X → Type 0) (xs : List X) (y : X) → ((i : ℕ) (x : X) → slice_get xs i ≡ Some x → P i x) → P (length xs) y
    → (i : ℕ) (x : X) → slice_get (xs ++ y ∷ []) i ≡ Some x → P i x
each_more P [] y each last zero x at = subst (P 0) (cc) last
each_more P [] y each last (suc i) x at = absurd (cc)
each_more P (z ∷ zs) y each last zero x at = each 0 x at
each_more P (z ∷ zs) y each last (suc i) x at = each_more (λ (j : ℕ). P (suc j)) zs y (λ j. each (suc j)) last i x at

-- the first workers, and one more
pub one_worker_more : (o : Opening) (n m : ℕ) (workers : List WorkerState) (worker : WorkerState) → m ≡ n + 1 → AreFirstWorkers o n workers
    → ((b : Beginning) → opening_of b ≡ o → IsWorker worker (opening_view b n)) → worker.end ≢ Waits → AreFirstWorkers o m (workers ++ worker ∷ [])
one_worker_more o n m workers worker more first begins no_wait = record {
  number = let count = length-append workers (worker ∷ []) in let number = first.number in omega (arith, count, number, more);
  each = λ b is. each_more (λ (i : ℕ) (c : WorkerState). IsWorker c (opening_view b i)) workers worker (first.each b is)
      (subst (λ (i : ℕ). IsWorker worker (opening_view b i)) (sym first.number) (begins b is));
  none_waits = each_more (λ (i : ℕ) (c : WorkerState). c.end ≢ Waits) workers worker first.none_waits no_wait;
}

-- a worker with the end of its place does not wait
pub begins_ready : (more : Bool) (end : ThreadEnd) → end ≡ (if more then Ready else Ended) → end ≢ Waits
begins_ready true end is waits = let q : Ready ≡ Waits = sym is ∙ waits in absurd (cc q)
begins_ready false end is waits = let q : Ended ≡ Waits = sym is ∙ waits in absurd (cc q)

-- a worker of an opening view has done nothing
module _ (c : WorkerState) (b : Beginning) (i : ℕ) where
  none_held : (g : Grip) → (opening_view b i).grip ≡ Some g → c.done ≤ 0
  none_held g held = absurd (cc)

  by_hand : (hand : Hand) → HandFits c hand (opening_view b i) → c.done + 12 ≤ most_done_by c.settings hand (opening_view b i) → c.done ≤ 0
  by_hand Empty fits most = omega (arith, most)
  by_hand (Commands reply x) fits most = none_held fits.grip fits.holds.held
  by_hand (Drawn x) fits most = none_held fits.grip fits.holds.held
  by_hand (NoItem x) fits most = none_held fits.grip fits.holds.held
  by_hand (Own x) fits most = none_held fits.grip fits.holds.held
  by_hand (Closes closer) fits most = let phase = fits.closes.phase in absurd (cc)
  by_hand (Refused x) fits most = none_held fits.grip fits.holds.held

  pub nothing_done : IsWorker c (opening_view b i) → c.done ≤ 0
  nothing_done worker = by_hand c.hand worker.hand worker.most

-- THE FIRST STATE.

-- two lives that open with the same world begin with the same counts of write-backs
pub counted_alike : (a b : Beginning) (w : WorldState) → Opens a w → Opens b w → (room : ℕ) → room < room_count (sizes_at a) → write_backs_at b room ≡ write_backs_at a room
counted_alike a b w opens also room lt =
    let at = opens.yard.home room lt in
    sym (also.yard.rooms room at.0 at.1).write_backs ∙ (opens.yard.rooms room at.0 at.1).write_backs

-- what holds of no write-back, and of the counts of a life that opens with a world, holds of those that are read off the world
pub counts_in : (P : ℕ → Type 0) (a b : Beginning) (w : WorldState) → Opens a w → Opens b w → b.write_backs ≡ map (λ (x : Room). (bank_of x).write_backs) w.rooms → P 0 → ((room : ℕ) → P (write_backs_at a room))
    → (room : ℕ) → P (write_backs_at b room)
counts_in P a b w opens also counts none each room = elim (cases_lt room (room_count (sizes_at a))) [
  | inl lt ↦ subst P (sym (counted_alike a b w opens also room lt)) (each room)
  | inr ge ↦
      let rooms : length (map Some w.rooms) ≡ length w.rooms = length-map w.rooms Some in
      let all : length b.write_backs ≡ length w.rooms = ap (λ (ns : List ℕ). length ns) counts ∙ length-map w.rooms (λ (x : Room). (bank_of x).write_backs) in
      subst P (sym (get_or_past b.write_backs room 0 (let number = opens.yard.number_of_rooms in omega (arith, ge, rooms, all, number)))) none
]

-- a start had counted no write-back
pub start_none : (settings : Settings) (scripts : Scripts) (limit room : ℕ) → write_backs_at (start_beginning settings scripts limit) room ≡ 0
start_none settings scripts limit room = zero_at (room_count (sizes_of settings)) room

pub start_counts : (settings : Settings) (scripts : Scripts) (limit room : ℕ) → write_backs_at (start_beginning settings scripts limit) room < 2 ^ 63
start_counts settings scripts limit room = let none = start_none settings scripts limit room in omega (arith, none)

-- the yard of a world with which a life opens that begins so, and its workers
pub record HasOpened (b : Beginning) (w : WorldState) (s : ReplayState) : Type 0 where
  pub begins : Opens b w
  pub opening : opening_of s.yard.beginning ≡ opening_of b
  pub opens : Opens s.yard.beginning w
  pub beginning : s.yard.beginning ≡ beginning_with b.settings b.scripts (2 ^ 63) w
  pub told : s.yard.told ≡ opening_told s.yard.beginning w
  pub workers : AreFirstWorkers (opening_of b) b.settings.threads s.workers

module _ (b : Beginning) (w : WorldState) (s : ReplayState) (opened : HasOpened b w s) where
  -- it is that of an opening
  pub opening_is : s ≡ opening_replay s.yard.beginning w s.workers
  opening_is = ap (λ (t : Told). record { yard = record { beginning = s.yard.beginning; told = t }; workers = s.workers }) opened.told

  -- a replay
  pub is_replay : IsReplay s
  is_replay = subst IsReplay (sym opening_is) (opens_replay s.yard.beginning w s.workers opened.opens (opened.workers.number ∙ sym (ap (λ (o : Opening). o.settings.threads) opened.opening)) (opened.workers.each s.yard.beginning opened.opening))

  -- that goes on right, where the life began far from the end of its counts' type
  pub goes_on_right : ((room : ℕ) → write_backs_at b room < 2 ^ 63) → GoesOnRight s
  goes_on_right early = subst GoesOnRight (sym opening_is)
      (opens_right s.yard.beginning w s.workers opened.opens (opened.workers.number ∙ sym (ap (λ (o : Opening). o.settings.threads) opened.opening)) (opened.workers.each s.yard.beginning opened.opening) opened.workers.none_waits
      (counts_in (λ (n : ℕ). n < 2 ^ 63) b s.yard.beginning w opened.begins opened.opens (ap (λ (c : Beginning). c.write_backs) opened.beginning) (omega arith) early))

  -- of which nothing is done
  pub none_done : HaveDone 0 s
  none_done = λ k d lt. nothing_done (slice_index_or s.workers k d) s.yard.beginning k (opened.workers.each s.yard.beginning opened.opening k (slice_index_or s.workers k d) (slice_get-get_or s.workers k d lt))

  -- and of which no checkpoint is told but that of a recovery
  pub first_marks : AreMarksOf (reported (opening_of b) (recovery_marks b.life)) s
  first_marks = subst (λ (cs : List Checkpoint). reported (opening_of b) (recovery_marks b.life) ≡ reported (opening_of s.yard.beginning) (marks_of s.yard.beginning cs)) (sym (ap (λ (t : Told). t.checkpoints) opened.told))
      (sym (ap (λ (o : Opening). reported o (recovery_marks o.life)) opened.opening) ∙ ap (reported (opening_of s.yard.beginning)) (none_behind s.yard.beginning.life))
    where
      none_behind : (life : Life) → recovery_marks life ≡ recovery_marks life ++ lengths_of []
      none_behind Start = refl
      none_behind Resume = refl

-- it is the first state of a start
pub is_start : (settings : Settings) (scripts : Scripts) (w : WorldState) (s : ReplayState) → HasOpened (start_beginning settings scripts (2 ^ 63)) w s → IsStartOf settings scripts s
is_start settings scripts w s opened = record {
  world = w;
  workers = s.workers;
  is = opening_is (start_beginning settings scripts (2 ^ 63)) w s opened;
  opens = opened.opens;
  opening = opened.opening;
  fresh = record {
    start = ap (λ (o : Opening). o.life) opened.opening;
    counts = counts_in (λ (n : ℕ). n ≡ 0) (start_beginning settings scripts (2 ^ 63)) s.yard.beginning w opened.begins opened.opens (ap (λ (b : Beginning). b.write_backs) opened.beginning) refl
        (start_none settings scripts (2 ^ 63));
  };
  number = opened.workers.number;
}
