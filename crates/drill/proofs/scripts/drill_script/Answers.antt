use Rattle.std.proofs.Common.{sym, subst}
use Rattle.script_text.specs.Text.{HasText}
use Rattle.drill.proofs.Texts.{drill_has_text, drill_is}
use Rattle.drill.proofs.scripts.drill_script.Goals as goal

pub returns-clause-text : goal.returns-clause-text
returns-clause-text c = subst HasText (sym (drill_is c.args.n c.args.life c.settings.result c.turns_in.result c.keep_behind.result c.in_ok-threads.threads c.settings.ensures c.turns_in.ensures c.keep_behind.ensures (c.in_ok-threads.ensures))) (drill_has_text c.args.n c.args.life)
