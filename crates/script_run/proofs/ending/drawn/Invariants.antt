use Rattle.std.proofs.Common.{◌≡◌, take}
use Rattle.std.specs.Prelude.{vec_capacity}
use Rattle.script_run.proofs.ending.drawn.Given as goal

abbrev pub invariant-loop-place : goal.invariant-loop-place
invariant-loop-place l = record {
  drawn : l.drawn.items ≡ take l.place l.yard.told.history;
  capacity : vec_capacity l.drawn ≡ vec_capacity l.fn.entries;
}
