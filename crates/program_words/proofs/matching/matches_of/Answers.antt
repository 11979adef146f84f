use Rattle.std.proofs.Common.{◌≡◌, ◌∙◌, List, map, ap, sym, subst}
use Rattle.std.proofs.lemmas.Result.{IfErr-weaker, IfOk-weaker}
use Rattle.std.specs.String.{string_bytes}
use Rattle.clap.specs.Words.{App, Text, app_of, is_simple, subcommand_of, takes}
use Rattle.program_words.specs.Commands.{Tells, program_app}
use Rattle.program_words.proofs.Walks.{program_simple}
use Rattle.program_words.proofs.Tellings.{taken, tells}
use Rattle.program_words.proofs.matching.matches_of.Goals as goal

pub returns : goal.returns
returns c =
    let words : List Text = map string_bytes c.args.words.now in
    let app_is : app_of c.in_ok-command.command ≡ program_app = c.in_ok-command.ensures in
    let parse = c.try_get_matches_from in
    record {
      told = λ has. IfOk-weaker parse.result _ _ (λ m h. subst (Tells words) (sym ((h (ap is_simple app_is ∙ program_simple)).1 ∙ ap (λ (a : App). subcommand_of a words) app_is)) (tells words has)) parse.ensures.matches;
      want = λ has. IfErr-weaker parse.result _ _ (λ e h. h (ap (λ (a : App). takes a words) app_is ∙ taken words has)) parse.ensures.passes;
    }
