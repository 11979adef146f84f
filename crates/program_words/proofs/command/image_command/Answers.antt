use Rattle.std.proofs.Common.{◌≡◌, ◌∙◌, rules, ap₂}
use Rattle.std.proofs.lemmas.Result.{IfOk-weaker}
use Rattle.clap.specs.Words.{rule_of, with_rule}
use Rattle.program_words.specs.Commands.{image_rule}
use Rattle.program_words.proofs.command.image_command.Goals as goal

pub returns : goal.returns
returns c =
    let rule_is : rule_of c.default_value-image.result ≡ image_rule = search rules in
    record {
      app = IfOk-weaker c.arg.result _ _ (λ r added. added.shape (search rules) ∙ ap₂ with_rule c.new-2.ensures.app rule_is) c.arg.ensures;
      local = search rules;
    }
