use Rattle.std.proofs.Common.{◌≡◌, ◌<◌, take, count_by}
use Rattle.flush_list.specs.Lists.{unmarked}
use Rattle.incll_var.specs.Stored.{has_places}
use Rattle.incll_var.proofs.cells.list_for.Given as goal

abbrev pub invariant-loop-line : goal.invariant-loop-line
invariant-loop-line l = record {
  none : l.list ≡ unmarked l.list.spare;
  count : count_by has_places (take l.line l.bank.lines) < l.list.spare;
}
