use Rattle.std.proofs.Common.{◌≤◌, ◌-◌, vec_len}
use Rattle.byte_ports.specs.Bytes.{TookSoFar}
use Rattle.byte_ports.proofs.source.read_by.Given as goal

abbrev pub invariant-chunks : goal.invariant-chunks
invariant-chunks g l = record {
  taken : TookSoFar (g.S.Source.left l.fn.source) (g.S.Source.left l.source) l.bytes.items;
  bound : vec_len l.bytes ≤ l.limit;
  later : g.S.Source.count l.fn.source ≤ g.S.Source.count l.source;
}

abbrev pub decreases-chunks : goal.decreases-chunks
decreases-chunks g l = l.limit - vec_len l.bytes
