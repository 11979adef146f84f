-- What a closing has learnt, and what one room more tells.
use Rattle.std.specs.Prelude.{◌≡◌, ◌+◌, ◌<◌, ◌≤◌, not, Bool, true, false, [], Some}
use Rattle.seq_object.specs.declared.settings.Settings.{Settings}
use Rattle.restart_point.specs.declared.thread_end.ThreadEnd.{ThreadEnd}
use Rattle.restart_point.specs.declared.thread_end.ThreadEnd.TheVariants.{Ready, Waits, Ended}
use Rattle.block_allow.specs.declared.judgement.Verdict.{Verdict}
use Rattle.block_allow.specs.declared.judgement.Verdict.TheVariants.{Goes, Finished, Stalled}
use Rattle.block_allow.specs.Verdicts.{verdict_of}
use Rattle.rooms.specs.declared.room.Room.{Room}
use Rattle.rooms.specs.declared.room.Room.TheVariants.{Map, Queue, Thread, Super}
use Rattle.rooms.specs.Rooms.{is_empty_queue}
use Rattle.yard_model.specs.declared.view.Closed.{Closed}
use Rattle.coordinator.specs.declared.learnt.Learnt.{Learnt}

-- where no thread of these ends may leave: what they say with one more that waits for an item
abbrev pub verdict_waiting : Verdict → Verdict
verdict_waiting Goes = Goes
verdict_waiting Finished = Stalled
verdict_waiting Stalled = Stalled

-- what ends say with one more
abbrev pub verdict_with : Verdict → ThreadEnd → Bool → Verdict
verdict_with so_far Ready fed = Goes
verdict_with so_far Waits true = Goes
verdict_with so_far Waits false = verdict_waiting so_far
verdict_with so_far Ended fed = so_far

-- whether the life ends with such a verdict
abbrev pub ends_life : Verdict → Bool
ends_life Goes = false
ends_life Finished = true
ends_life Stalled = true

-- nothing is done
abbrev pub nothing_learnt : Learnt
nothing_learnt = record { rooms = 0; fed = false; verdict = Finished }

-- one more room is done, and tells what its kind tells
abbrev pub learnt_with : Learnt → Room → Learnt
learnt_with l (Map x) = record l { rooms = l.rooms + 1 }
learnt_with l (Queue x) = record l { rooms = l.rooms + 1; fed = not (is_empty_queue (Queue x)) }
learnt_with l (Thread x) = record l { rooms = l.rooms + 1; verdict = verdict_with l.verdict x.end l.fed }
learnt_with l (Super x) = record l { rooms = l.rooms + 1 }

-- it is what the view has learnt
pub record HasLearntAs (s : Settings) (c : Closed) (l : Learnt) : Type 0 where
  pub rooms : l.rooms ≡ c.rooms
  -- once the queue room is done
  pub fed : s.shards < l.rooms → c.fed ≡ Some l.fed
  -- no end is known before
  pub no_ends : l.rooms ≤ s.shards → c.ends ≡ []
  pub verdict : l.verdict ≡ verdict_of c.ends l.fed
