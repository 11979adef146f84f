-- Which threads may leave their restart points, and what the ends of all threads say of the life.
use Rattle.std.specs.Prelude.{◌≡◌, Bool, true, false, List, All, Any, if◌then◌else◌}
use Rattle.std.specs.List.{list_all, list_any}
use Rattle.restart_point.specs.declared.thread_end.ThreadEnd.{ThreadEnd}
use Rattle.restart_point.specs.declared.thread_end.ThreadEnd.TheVariants.{Ready, Waits, Ended}
use Rattle.block_allow.specs.declared.judgement.Verdict.{Verdict}
use Rattle.block_allow.specs.declared.judgement.Verdict.TheVariants.{Goes, Finished, Stalled}

-- whether a thread of this end may leave, where the queue is fed or not
abbrev pub leaves : ThreadEnd → Bool → Bool
leaves Ready fed = true
leaves Waits fed = fed
leaves Ended fed = false

-- whether a thread is at its script's end
abbrev pub is_ended : ThreadEnd → Bool
is_ended Ready = false
is_ended Waits = false
is_ended Ended = true

-- what the ends of all threads say, where the queue is fed or not
abbrev pub verdict_of : List ThreadEnd → Bool → Verdict
verdict_of ends fed = if list_all is_ended ends then Finished else if list_any (λ end. leaves end fed) ends then Goes else Stalled

-- each thread is at its script's end
abbrev pub AreEnded : List ThreadEnd → Type 0
AreEnded ends = All (λ end. end ≡ Ended) ends

-- some thread may leave
abbrev pub SomeLeaves : List ThreadEnd → Bool → Type 0
SomeLeaves ends fed = Any (λ end. leaves end fed ≡ true) ends
