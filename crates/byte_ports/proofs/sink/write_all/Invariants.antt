use Rattle.std.proofs.Common.{◌≤◌, ◌-◌, length, take}
use Rattle.byte_ports.specs.Bytes.{Appended}
use Rattle.byte_ports.proofs.sink.write_all.Given as goal

abbrev pub invariant-loop-done : goal.invariant-loop-done
invariant-loop-done g l = record {
  written : Appended (g.W.Sink.held l.fn.sink) (g.W.Sink.held l.sink) (take l.done l.bytes);
  within : l.done ≤ length l.bytes;
  later : g.W.Sink.count l.fn.sink ≤ g.W.Sink.count l.sink;
}

abbrev pub decreases-loop-done : goal.decreases-loop-done
decreases-loop-done g l = length l.bytes - l.done
