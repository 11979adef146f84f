use Rattle.std.proofs.Common.{sym, ◌∙◌}
use Rattle.script_text.proofs.EndLemmas.{bytes_left}
use Rattle.script_text.proofs.whole.nothing_behind.Goals as goal

pub returns : goal.returns
returns c = bytes_left c.args.place.rest.now c.args.place.line (sym c.is_empty.ensures ∙ c.if-is_empty.false)
