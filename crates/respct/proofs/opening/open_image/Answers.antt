use Rattle.script_text.specs.Program.{program_of}
use Rattle.respct.proofs.Openings.{misfits, opened}
use Rattle.respct.proofs.opening.open_image.Goals as goal

pub returns-in-Some-clause-refused : goal.returns-in-Some-clause-refused
returns-in-Some-clause-refused g c =
    misfits (g.G.Images.kept c.args.images.now) c.args.name.now c.in-Ok.loaded (program_of c.args.script.now) c.misfit_of.result c.in-Some.misfit c.in-Ok.ensures.loaded c.misfit_of.ensures c.in-Some.is

pub returns-in-Ok-image_memory-clause-opened : goal.returns-in-Ok-image_memory-clause-opened
returns-in-Ok-image_memory-clause-opened g c =
    opened (g.G.Images.kept c.args.images.now) c.args.name.now c.in-Ok.loaded (program_of c.args.script.now) c.misfit_of.result c.in-Ok-image_memory.memory c.in-Ok.ensures.loaded c.misfit_of.ensures c.in_default.is c.in-Ok-image_memory.ensures.is
