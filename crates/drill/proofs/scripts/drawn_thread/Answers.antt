use Rattle.std.proofs.Common.{◌∙◌, arith}
use Rattle.drill.proofs.Drawing.{commands-more, commands-all, behind_thread}
use Rattle.drill.proofs.scripts.drawn_thread.Goals as goal

pub loop-index-preserved : goal.loop-index-preserved
loop-index-preserved c = record {
  commands = (c.in_ok-push.ensures).items ∙ commands-more c.args.n c.args.thread c.loop-index.index c.loop-index.commands.items c.drawn_command.result c.loop-index.invariant.commands c.drawn_command.ensures.command;
  drawn = c.drawn_command.ensures.drawn;
}

pub returns-clause-commands : goal.returns-clause-commands
returns-clause-commands c = commands-all c.args.n c.args.thread c.loop-index.index c.loop-index.commands.items (omega arith) c.loop-index.invariant.commands

pub returns-clause-drawn : goal.returns-clause-drawn
returns-clause-drawn c = behind_thread c.args.n c.args.thread c.loop-index.index c.loop-index.words (omega arith) c.loop-index.invariant.drawn
