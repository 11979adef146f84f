use Rattle.std.proofs.Common.{sym, ◌∙◌}
use Rattle.crash_explorer.proofs.Keeping.{bare-pending}
use Rattle.crash_explorer.proofs.counts.pending_counts.Goals as goal

pub returns-clause-is : goal.returns-clause-is
returns-clause-is c = c.in_ok-most.ensures.is ∙ sym (bare-pending c.args.bank.now.lines)
