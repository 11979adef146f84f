-- How much is done, counted upwards, and how many closings there are.
use Rattle.std.specs.Prelude.{ℕ, ◌+◌, ◌-◌, ◌*◌, ◌≤◌, ◌==◌, Bool, true, false, if◌then◌else◌}
use Rattle.seq_object.specs.declared.sizes.Sizes.{Sizes}
use Rattle.seq_object.specs.Sizes.{room_count}
use Rattle.seq_object.specs.History.{total}
use Rattle.life_model.specs.Work.{one_if}
use Rattle.restart_point.specs.declared.thread_end.ThreadEnd.{ThreadEnd}
use Rattle.restart_point.specs.declared.thread_end.ThreadEnd.TheVariants.{Ready, Waits, Ended}
use Rattle.rounds.specs.Progress.{Activity, AtPoint, EmptyHanded, OnCommand, OnDrawn, OnEmptyQueue, OnOwnRoom, OnClosing, ThreadProgress, Progress}

-- HOW MUCH IS DONE.

-- by a thread in this epoch, where it last ran in that one and is about this: it left, counted twice; each event of a command under way; two
-- for a take that found nothing; seven for its own room; it stood; it claimed; and four for each room that is done
abbrev pub spent_in : ℕ → ℕ → Bool → Bool → Activity → ℕ
spent_in epoch ran wrote found AtPoint = if ran == epoch then 10 + 2 * one_if found else 0
spent_in epoch ran wrote found EmptyHanded = 2 + 2 * one_if found + 7 * one_if wrote
spent_in epoch ran wrote found (OnCommand n) = 3 + 2 * one_if found + (22 - n)
spent_in epoch ran wrote found OnDrawn = 1 + 2 * one_if found
spent_in epoch ran wrote found OnEmptyQueue = 3
spent_in epoch ran wrote found (OnOwnRoom n) = 3 + 2 * one_if found + (5 - n)
spent_in epoch ran wrote found (OnClosing r k) = 11 + 2 * one_if found + (4 * r + k)

-- by a thread in this epoch
abbrev pub spent_by : ℕ → ThreadProgress → ℕ
spent_by epoch x = spent_in epoch x.ran x.wrote x.found_empty x.activity

-- the most that all threads do in one epoch beside commands and write-backs, and one
abbrev pub most_each_epoch : Sizes → ℕ
most_each_epoch z = 12 * z.threads + 4 * room_count z + 2

-- by all threads: the most for each epoch that was closed, 25 for each entry, one for each write-back, and what is done in this epoch
abbrev pub spent : Sizes → Progress → ℕ
spent z s = most_each_epoch z * s.shared.closed + 25 * s.shared.entries + s.shared.write_backs + total (λ i. spent_by s.shared.epoch (s.threads i)) z.threads

-- HOW MANY ROUNDS END IT.

-- where no script has a take, of so many commands in all scripts
abbrev pub takeless_rounds : Sizes → ℕ → ℕ
takeless_rounds z commands = (commands + 1) * (16 * room_count z + 64)

-- where one has
abbrev pub enough_rounds : Sizes → ℕ → ℕ
enough_rounds z commands = (2 * commands + z.threads + 1) * (16 * room_count z + 64)

-- CLOSINGS.

-- one where this end is Ready
abbrev pub one_if_ready : ThreadEnd → ℕ
one_if_ready Ready = 1
one_if_ready Waits = 0
one_if_ready Ended = 0

-- one where a thread was ready at the last checkpoint: where it ran since, it was, if the queue had no item then
abbrev pub one_if_was_ready : ℕ → Bool → ThreadProgress → ℕ
one_if_was_ready epoch fed x = if x.ran == epoch then one_if (if fed then false else true) else one_if_ready x.end

-- without a take each closing has an entry
abbrev pub ClosesWithEntry : Progress → Type 0
ClosesWithEntry s = s.shared.closed ≤ s.shared.covered

-- and else each has one, or some thread that was ready waits behind it
abbrev pub ClosesWithEntryOrWait : Sizes → Progress → Type 0
ClosesWithEntryOrWait z s = s.shared.closed + total (λ i. one_if_was_ready s.shared.epoch s.shared.fed (s.threads i)) z.threads ≤ 2 * s.shared.covered + z.threads
