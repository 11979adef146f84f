use Rattle.std.proofs.Common.{sym, subst}
use Rattle.life_model.specs.declared.life.Life.{Life}
use Rattle.script_text.specs.Program.{program_of}
use Rattle.respct.specs.Openings.{IsOpened}
use Rattle.respct.proofs.Openings.{opened_start}
use Rattle.respct.proofs.opening.open.Goals as goal

pub returns-in-Ok-clause-opened : goal.returns-in-Ok-clause-opened
returns-in-Ok-clause-opened g c =
    subst (λ (life : Life). IsOpened life (g.G.Images.kept c.args.images.now) c.args.name.now (program_of c.args.script.now) c.in-Ok.memory) (sym c.in-Start.is)
    (opened_start (g.G.Images.kept c.args.images.now) c.args.name.now (program_of c.args.script.now) c.in-Ok.memory c.in-Ok.ensures.is)
