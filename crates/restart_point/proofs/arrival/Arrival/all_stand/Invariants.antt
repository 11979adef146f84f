use Rattle.restart_point.specs.ArrivalWord.{AllStand}
use Rattle.restart_point.proofs.arrival.Arrival.all_stand.Given as goal

abbrev pub invariant-loop-thread : goal.invariant-loop-thread
invariant-loop-thread l = AllStand l.self.mask l.thread
