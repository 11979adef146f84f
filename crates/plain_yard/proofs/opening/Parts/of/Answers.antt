use Rattle.std.proofs.Common.{◌<◌, ◌^◌, List, subst}
use Rattle.seq_object.specs.declared.command.Command.{Command}
use Rattle.plain_yard.specs.Opening.{commands_in}
use Rattle.plain_yard.proofs.Fits.{commands_few}
use Rattle.plain_yard.proofs.opening.Parts.of.Goals as goal

pub commands_of-requires : goal.commands_of-requires
commands_of-requires c = subst (λ (scripts : List (List Command)). commands_in scripts < 2 ^ 32) c.requires.opens.begins.scripts_are (commands_few c.requires.opens.beginning c.requires.opens.opens.yard.beginning)
