use Rattle.std.proofs.Common.{◌≡◌, ◌≤◌, length, map, ap, arith, rules, vec_capacity}
use Rattle.std.proofs.lemmas.List.{length-map}
use Rattle.line_memory.specs.Line.{quiet_line}
use Rattle.line_memory.proofs.Asked.{quiet_asked}
use Rattle.line_memory.proofs.bank.Bank.of.Goals as goal

pub invariant_of-result : goal.invariant_of-result
invariant_of-result c =
    let bases = c.as_slice.result.now in
    let same : bases ≡ c.args.base.items = c.as_slice.ensures.value in
    let lines : c.in_ok-lines_of.field-0.items ≡ map quiet_line bases = c.in_ok-lines_of.ensures.is in
    let count = length-map bases quiet_line in
    let room : length bases ≤ vec_capacity c.in_ok-with_capacity.field-0 = search rules in (
      let few = c.requires in omega (arith, few, count, ap length lines, ap length same),
      c.in_ok-lines_of.ensures.whole,
      rw (lines, c.in_ok-with_capacity.ensures.items) (quiet_asked bases (vec_capacity c.in_ok-with_capacity.field-0) room),
    )
