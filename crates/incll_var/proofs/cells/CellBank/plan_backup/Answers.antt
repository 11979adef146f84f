use Rattle.std.proofs.Common.{◌∙◌, ap}
use Rattle.incll_var.specs.Cells.{CellBankState, epoch_of}
use Rattle.incll_var.specs.Plans.{filled}
use Rattle.incll_var.proofs.Fills.{filled-steps, backup-told}
use Rattle.incll_var.proofs.cells.CellBank.plan_backup.Goals as goal

pub returns : goal.returns
returns c =
    filled-steps c.args.plan.now c.push.new.self c.push-2.new.self c.push-3.new.self c.push-4.new.self _ _ _ _ c.push.ensures c.push-2.ensures c.push-3.ensures c.push-4.ensures
    ∙ ap (filled c.args.plan.now) (backup-told c.triple.result c.from-epoch.result (epoch_of c.args.self.now.state) c.args.self.now.bank c.args.line c.triple.ensures
    (c.from-epoch.ensures ∙ c.epoch.ensures ∙ ap (λ (b : CellBankState). epoch_of b.state) c.self.view_is))
