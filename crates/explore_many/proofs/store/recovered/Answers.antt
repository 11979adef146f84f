use Rattle.std.proofs.Common.{◌≡◌, List, Some, map, ap}
use Rattle.line_memory.specs.Line.{BankState, quiet_line}
use Rattle.explore_many.specs.Store.{recovery_over}
use Rattle.explore_many.proofs.Worked.{events_over, lines_over, records_over}
use Rattle.explore_many.proofs.store.recovered.Goals as goal

pub returns : goal.returns
unfolding recovery_over
returns c =
    let begins = ap (λ (b : BankState). b.lines) c.in_ok-bank.ensures.is in
    let restores = c.in_ok-events.ensures.lines in
    let ends = c.in_ok-end.ensures.lines in
    record {
      events = events_over c.args.epoch 15 c.args.left.items c.in_ok-bank.bank.lines c.restore_all.new.bank.lines c.end.new.bank.lines begins restores ends c.in_ok-events.events c.in_ok-events.ensures.cost;
      lines = lines_over c.args.epoch 15 c.args.left.items c.in_ok-bank.bank.lines c.restore_all.new.bank.lines c.end.new.bank.lines begins restores ends;
      state = ap Some (records_over c.args.epoch 15 c.args.left.items c.in_ok-bank.bank.lines c.restore_all.new.bank.lines c.end.new.bank.lines begins restores ends c.in_ok-state.state.items c.in_ok-state.ensures);
    }
