-- The last life of a drill is finished, and what it leaves holds all commands.
use Rattle.std.proofs.Common.{◌≡◌, ◌≢◌, ℕ, zero, suc, ◌+◌, ◌*◌, ◌%◌, ◌<◌, ◌≤◌, ◌==◌, Bool, true, false, nat_lt, if◌then◌else◌, List, [], ◌∷◌, length, sym, ap, ◌∙◌, subst, inl, inr, arith}
use Rattle.std.specs.Prelude.{None, map, take, slice_get, sum, sum_by}
use Rattle.std.specs.List.{All, AllByRecursion}
use Rattle.std.proofs.lemmas.Bool.{cases_lt}
use Rattle.std.proofs.lemmas.List.Elements.{All-from_recursion}
use Rattle.std.proofs.lemmas.List.Sums.{sum-map, sum_by-cons}
use Rattle.std.proofs.lemmas.Option.{slice_get-get_or}
use Rattle.std.proofs.Math.Seq.{take-length}
use Rattle.seq_object.specs.declared.command.Command.{Command}
use Rattle.seq_object.specs.declared.command.Command.TheVariants.{Put, Get, Del, Enq, Deq}
use Rattle.seq_object.specs.declared.history.Entry.{Entry}
use Rattle.seq_object.specs.declared.history.RestartPoint.{RestartPoint}
use Rattle.seq_object.specs.declared.settings.Settings.{Settings}
use Rattle.seq_object.specs.Object.{IsTakeless}
use Rattle.seq_object.specs.Sizes.{sizes_of, line_total}
use Rattle.seq_object.specs.History.{Scripts, State, of_thread, after, point_at, counted_from}
use Rattle.seq_object.proofs.Histories.{point}
use Rattle.store_order.specs.Choice.{word_drawn}
use Rattle.line_memory.specs.Line.{BankState}
use Rattle.room_model.specs.MapRoom.{live_layout}
use Rattle.room_model.specs.Image.{KeptCounts, image_of, nothing_kept, Recovers}
use Rattle.life_model.specs.declared.life.Outcome.{Outcome}
use Rattle.life_model.specs.declared.life.Outcome.TheVariants.{Finished, Starved}
use Rattle.life_model.specs.Life.{Opening, sizes, script_of, place_after, covered, lengths}
use Rattle.life_model.specs.Crash.{IsCrashSafe}
use Rattle.life_model.specs.Lives.{HasOneHistory}
use Rattle.life_model.specs.Ends.{IsAllCovered, IsFinished, EndsAs}
use Rattle.life_model.specs.Work.{in_turn, HasNoTake}
use Rattle.life_laws.proofs.States.{one_state}
use Rattle.life_laws.proofs.Works.{worker_rounds}
use Rattle.plain_yard.specs.Opening.{commands_in}
use Rattle.rounds.specs.Spent.{takeless_rounds}
use Rattle.script_text.specs.Program.{Turns, round_robin}
use Rattle.script_text.specs.Schedules.{schedule_of}
use Rattle.script_run.specs.Enough.{EndsWhereEnough}
use Rattle.image_check.specs.declared.recovered.Recovered.{Recovered}
use Rattle.image_check.specs.Recovered.{IsRecovered}
use Rattle.drill.specs.declared.summary.Summary.{Summary}
use Rattle.drill.specs.Scripts.{drill_settings, command_of, drawn_place, drill_command, first_commands, thread_commands, drill_commands, drill_turns}
use Rattle.drill.specs.Summaries.{summary_over}
use Rattle.drill.specs.Lives.{DrillLife, IsDrillLife, AreDrillLives, HasLived, HoldsAllCommands, kind_of_life, drill_memory, memory_behind}
use Rattle.drill.proofs.Texts.{length-thread_commands}
use Rattle.drill.proofs.Histories.{opened_so, place_within, entries_of_four, none_past}
use Rattle.drill.proofs.LifeCalls.{places_held}

-- COMMANDS

-- a command of a kind is no take
takes_none : (put get del enq : Bool) (key value : ℕ) → IsTakeless (if put then Put key value else if get then Get key else if del then Del key else if enq then Enq value else Deq)
takes_none true get del enq key value = tt
takes_none false true del enq key value = tt
takes_none false false true enq key value = tt
takes_none false false false true key value = tt
takes_none false false false false key value = tt

no_take_of : (kind key value : ℕ) → IsTakeless (command_of kind key value)
no_take_of kind key value = takes_none (nat_lt kind 3) (nat_lt kind 5) (kind == 5) (kind == 6) key value

-- so no command of a drill is one
drawn_no_take : (n thread index : ℕ) → IsTakeless (drill_command n thread index)
drawn_no_take n thread index =
    no_take_of (word_drawn n (2 * drawn_place thread index) % 8) (word_drawn n (2 * drawn_place thread index + 1) % 100) (4 * index + thread)

-- nor one among a thread's commands
none_from : (n thread first count : ℕ) → AllByRecursion IsTakeless (map (drill_command n thread) (counted_from first count))
none_from n thread first zero = tt
none_from n thread first (suc count) = (drawn_no_take n thread first, none_from n thread (suc first) count)

none_of_first : (n thread count : ℕ) → All IsTakeless (first_commands n thread count)
none_of_first n thread count = All-from_recursion IsTakeless (first_commands n thread count) (none_from n thread 0 count)

none_of_thread : (n thread : ℕ) → All IsTakeless (thread_commands n thread)
unfolding thread_commands
none_of_thread n thread = none_of_first n thread 200

-- no thread of a drill has a take
no_take : (n thread : ℕ) → All IsTakeless (script_of (drill_commands n) thread)
no_take n zero = none_of_thread n 0
no_take n (suc zero) = none_of_thread n 1
no_take n (suc (suc zero)) = none_of_thread n 2
no_take n (suc (suc (suc zero))) = none_of_thread n 3
no_take n (suc (suc (suc (suc thread)))) = All-from_recursion IsTakeless [] tt

-- each has 200 commands
commands_each : (n thread : ℕ) → thread < 4 → length (script_of (drill_commands n) thread) ≡ 200
commands_each n zero lt = length-thread_commands n 0
commands_each n (suc zero) lt = length-thread_commands n 1
commands_each n (suc (suc zero)) lt = length-thread_commands n 2
commands_each n (suc (suc (suc zero))) lt = length-thread_commands n 3
commands_each n (suc (suc (suc (suc thread)))) lt = absurd (omega (arith, lt))

-- and all have 800
commands_together : (n : ℕ) → commands_in (drill_commands n) ≡ 800
commands_together n = omega (arith, length-thread_commands n 0, length-thread_commands n 1, length-thread_commands n 2, length-thread_commands n 3)

-- THE END OF A LIFE

-- a life without a take is finished where its turns go round for long enough, also behind a recovery, and memory suffices
finished_in_turn : (o : Opening) (threads n : ℕ) (turns : Turns) (outcome : Outcome) → o.settings.threads ≡ threads → 0 < threads → turns ≡ round_robin n → HasNoTake o
    → threads * takeless_rounds (sizes o) (commands_in o.scripts) + 5 * line_total (sizes o) ≤ n → EndsWhereEnough o (schedule_of threads turns) outcome → outcome ≢ Starved → outcome ≡ Finished
finished_in_turn o threads n turns outcome so_many some round none enough ends fed =
    let rounds : ℕ = takeless_rounds (sizes o) (commands_in o.scripts) in
    let own : EndsWhereEnough o (in_turn o.settings.threads 0 n) outcome =
    subst (λ (t : Turns). EndsWhereEnough o (schedule_of o.settings.threads t) outcome) round (subst (λ (k : ℕ). EndsWhereEnough o (schedule_of k turns) outcome) (sym so_many) ends) in
    let offered = (worker_rounds o rounds n (omega (arith, so_many, some))).1 (subst (λ (k : ℕ). k * rounds + 5 * line_total (sizes o) ≤ n) (sym so_many) enough) in
    elim (own.takeless none offered) [ inl finished ↦ finished | inr starved ↦ absurd (fed starved) ]

-- the last life of a drill is finished
finished_last : (n life : ℕ) (over : List BankState) (l : DrillLife) → life ≡ 8 → IsDrillLife n life over l → l.report.outcome ≢ Starved → l.report.outcome ≡ Finished
finished_last n life over l last is fed =
    let o : Opening = l.opening in
    let so = opened_so (kind_of_life life) drill_settings (drill_commands n) over o is.opens in
    let none : HasNoTake o = subst (λ (c : Scripts). (thread : ℕ) → All IsTakeless (script_of c thread)) (sym so.1) (no_take n) in
    let commands : commands_in o.scripts ≡ 800 = ap commands_in so.1 ∙ commands_together n in
    let rounds : takeless_rounds (sizes o) (commands_in o.scripts) ≡ 166608 = ap (takeless_rounds (sizes o)) commands ∙ ap (λ (s : Settings). takeless_rounds (sizes_of s) 800) so.0 in
    let lines : line_total (sizes o) ≡ 1029 = ap (λ (s : Settings). line_total (sizes_of s)) so.0 in
    finished_in_turn o 4 1000000 (drill_turns n life) l.report.outcome (ap (λ (s : Settings). s.threads) so.0) (omega arith) (ap (drill_turns n) last) none
    (few (takeless_rounds (sizes o) (commands_in o.scripts)) (line_total (sizes o)) rounds lines) is.ends fed
  where
    few : (rounds lines : ℕ) → rounds ≡ 166608 → lines ≡ 1029 → 4 * rounds + 5 * lines ≤ 1000000
    few rounds lines is_rounds is_lines = omega (arith, is_rounds, is_lines)

-- the last of lives is one over some memory
last_of : (n : ℕ) (l : DrillLife) (bs : List DrillLife) → AreDrillLives n l bs → (over : List BankState) × IsDrillLife n (length bs) over l
last_of n l [] are = (drill_memory, are)
last_of n l (b ∷ bs) are = (memory_behind n (length bs) b.left, are.0)

-- so a drill in which memory suffices is finished
pub lived_finished : (n : ℕ) (outcome : Outcome) (memory : List BankState) → HasLived n 8 outcome memory → outcome ≢ Starved → outcome ≡ Finished
lived_finished n outcome memory lived fed =
    let last = last_of n lived.last lived.before lived.lives in
    sym lived.ended ∙ finished_last n (length lived.before) last.0 lived.last lived.number last.1 (λ starved. fed (sym lived.ended ∙ starved))

-- WHAT IT LEAVES

-- a finished life covered its whole history
all_covered : (o : Opening) (h : List Entry) (marks : List ℕ) → IsAllCovered o h marks → covered marks ≡ length h
all_covered o h marks all = elim all [ inl marked ↦ marked.1 | inr none ↦ ap covered none.2 ∙ sym (ap length none.1) ]

-- and that is what its memory recovers to, whatever is kept
recovers_whole : (o : Opening) (h : List Entry) (marks : List ℕ) (memory : List BankState) (choice : KeptCounts) → IsCrashSafe o h marks memory → covered marks ≡ length h
    → Recovers live_layout (sizes o) (image_of memory choice) (after (sizes o) o.state h)
recovers_whole o h marks memory choice safe all = elim (safe choice) [
  | inl last ↦ subst (λ (es : List Entry). Recovers live_layout (sizes o) (image_of memory choice) (after (sizes o) o.state es)) (ap (λ (k : ℕ). take k h) all ∙ take-length h) last.recovers
  | inr next ↦ next.recovers
]

-- a place with no command is the script's end, or past it
at_end : (script : List Command) (place : ℕ) → slice_get script place ≡ None → length script ≤ place
at_end script place none = elim (cases_lt place (length script)) [
  | inl lt ↦ let there = slice_get-get_or script place Deq lt in absurd (cc (there, none))
  | inr le ↦ le
]

-- a finished life of a drill leaves each thread behind all its commands
places_whole : (n life : ℕ) (over : List BankState) (l : DrillLife) (state : State) → IsDrillLife n life over l → l.report.outcome ≡ Finished
    → Recovers live_layout (sizes_of drill_settings) (image_of l.left nothing_kept) state → (thread : ℕ) → thread < 4 → 200 ≤ (point_at state.points thread).position
places_whole n life over l state is finished lawful thread lt =
    let o : Opening = l.opening in
    let h : List Entry = l.report.entries in
    let marks : List ℕ = lengths l.report.marks in
    let so = opened_so (kind_of_life life) drill_settings (drill_commands n) over o is.opens in
    let lived = is.told.lived nothing_kept in
    let ended : IsFinished o h marks = subst (λ (outcome : Outcome). EndsAs outcome o h marks) finished is.told.ends in
    let whole : Recovers live_layout (sizes_of drill_settings) (image_of l.left nothing_kept) (after (sizes o) o.state h) =
    subst (λ (s : Settings). Recovers live_layout (sizes_of s) (image_of l.left nothing_kept) (after (sizes o) o.state h)) so.0
    (recovers_whole o h marks l.left nothing_kept lived.safe (all_covered o h marks ended.1)) in
    let same : state ≡ after (sizes o) o.state h = one_state live_layout (sizes_of drill_settings) (image_of l.left nothing_kept) state (after (sizes o) o.state h) lawful whole in
    let threads : o.settings.threads ≡ 4 = ap (λ (s : Settings). s.threads) so.0 in
    let within : thread < length o.state.points = omega (arith, lived.legal.order.points, threads, lt) in
    let place : (point_at state.points thread).position ≡ place_after o h thread =
    ap (λ (s : State). (point_at s.points thread).position) same ∙ ap (λ (p : RestartPoint). p.position) (point (sizes o) o.state h thread within) in
    let used : length (script_of o.scripts thread) ≤ place_after o h thread = at_end (script_of o.scripts thread) (place_after o h thread) (ended.0 thread) in
    let many : length (script_of o.scripts thread) ≡ 200 = ap (λ (c : Scripts). length (script_of c thread)) so.1 ∙ commands_each n thread lt in
    omega (arith, place, used, many)

-- so each thread has 200 entries in a history that the memory holds: it can have no more
entries_each : (n : ℕ) (outcome : Outcome) (memory : List BankState) (h : List Entry) (state : State) (thread : ℕ) → HasLived n 8 outcome memory → outcome ≢ Starved
    → HasOneHistory (sizes_of drill_settings) (drill_commands n) (image_of memory nothing_kept) h → Recovers live_layout (sizes_of drill_settings) (image_of memory nothing_kept) state
    → thread < 4 → (point_at state.points thread).position ≡ length (of_thread thread h) → length (of_thread thread h) ≡ 200
entries_each n outcome memory h state thread lived fed held lawful lt place =
    let last = last_of n lived.last lived.before lived.lives in
    let own : Recovers live_layout (sizes_of drill_settings) (image_of lived.last.left nothing_kept) state =
    subst (λ (m : List BankState). Recovers live_layout (sizes_of drill_settings) (image_of m nothing_kept) state) (sym lived.left) lawful in
    let least = places_whole n (length lived.before) last.0 lived.last state last.1 (lived.ended ∙ lived_finished n outcome memory lived fed) own thread lt in
    let most = place_within (sizes_of drill_settings) (drill_commands n) (image_of memory nothing_kept) h thread held in
    omega (arith, least, most, place, commands_each n thread lt)

-- so a drill in which memory suffices leaves all its commands
pub holds_all : (n : ℕ) (outcome : Outcome) (memory : List BankState) (found : Recovered) → HasLived n 8 outcome memory → outcome ≢ Starved
    → IsRecovered live_layout (sizes_of drill_settings) (image_of memory nothing_kept) found → HoldsAllCommands n memory
holds_all n outcome memory found lived fed is =
    let held = places_held n 8 outcome memory is.state lived is.lawful in
    let each : (thread : ℕ) → thread < 4 → length (of_thread thread held.0) ≡ 200 = λ thread lt.
    entries_each n outcome memory held.0 is.state thread lived fed held.1 is.lawful lt (held.2 thread lt) in
    let none : (t : ℕ) → 4 ≤ t → length (of_thread t held.0) ≡ 0 = λ t le. none_past (drill_commands n) 0 t (of_thread t held.0) le (held.1.commands t) in
    record {
      history = held.0;
      is = held.1;
      all = omega (arith, entries_of_four held.0 none, each 0 (omega arith), each 1 (omega arith), each 2 (omega arith), each 3 (omega arith));
    }

-- the sum of positions that are the same
sum_same : (k : ℕ) (ps : List RestartPoint) → ((i : ℕ) → i < length ps → (point_at ps i).position ≡ k) → sum_by (λ (p : RestartPoint). p.position) ps ≡ length ps * k
sum_same k [] each = omega arith
sum_same k (p ∷ ps) each =
    let first : p.position ≡ k = each 0 (omega arith) in
    let rest = sum_same k ps (λ i lt. each (suc i) (omega (arith, lt))) in
    let whole = sum_by-cons (λ (q : RestartPoint). q.position) p ps in
    omega (arith, first, rest, whole)

-- and its summary tells that they are kept, and that it is finished
pub all_kept : (n : ℕ) (outcome : Outcome) (memory : List BankState) (found : Recovered) (s : Summary) → HasLived n 8 outcome memory → outcome ≢ Starved
    → IsRecovered live_layout (sizes_of drill_settings) (image_of memory nothing_kept) found → s ≡ summary_over n outcome found → (s.kept ≡ 800) × (s.outcome ≡ Finished)
all_kept n outcome memory found s lived fed is told =
    let held = places_held n 8 outcome memory is.state lived is.lawful in
    let many : length is.state.points ≡ 4 = is.lawful.threads in
    let each : (i : ℕ) → i < length is.state.points → (point_at is.state.points i).position ≡ 200 = λ i lt.
    let below : i < 4 = subst (λ (k : ℕ). i < k) many lt in
    held.2 i below ∙ entries_each n outcome memory held.0 is.state i lived fed held.1 is.lawful below (held.2 i below) in
    let kept : sum found.positions.items ≡ 800 =
    ap sum is.positions ∙ sum-map (λ (p : RestartPoint). p.position) is.state.points ∙ sum_same 200 is.state.points each ∙ ap (λ (k : ℕ). k * 200) many in
    (ap (λ (t : Summary). t.kept) told ∙ kept, ap (λ (t : Summary). t.outcome) told ∙ lived_finished n outcome memory lived fed)
