use Rattle.std.proofs.Common.{◌≡◌, ◌∙◌, true, Option, Some, rules, ap, ap₂}
use Rattle.std.proofs.lemmas.Result.{IfOk-weaker}
use Rattle.clap.specs.Words.{Rule, rule_of, with_rule}
use Rattle.clap.specs.declared.builder.value_parser.ValueParser.{ValueParser}
use Rattle.clap.specs.declared.builder.value_parser.ValueParser.TheVariants as parsers
use Rattle.program_words.specs.Commands.{number_rule}
use Rattle.program_words.proofs.command.drill_command.Goals as goal

pub returns : goal.returns
returns c =
    let given = c.value_parser-number.ensures.given in
    let parser_is : c.value_parser-number.result.value_parser ≡ Some (parsers.Unsigned 0 18446744073709551615) = given.1 ∙ ap Some (given.2 ∙ c.value_parser.ensures) in
    let rule_is : rule_of c.value_parser-number.result ≡ number_rule =
    ap rule_of c.value_parser-number.ensures.others
    ∙ ap (λ (p : Option ValueParser). record (rule_of c.required.result) { parser = p }) parser_is
    ∙ ap (λ (r : Rule). record r { parser = Some (parsers.Unsigned 0 18446744073709551615) }) (ap rule_of c.required.ensures)
    ∙ ap (λ (r : Rule). record r { required = true; parser = Some (parsers.Unsigned 0 18446744073709551615) }) c.new.ensures.rule in
    record {
      app = IfOk-weaker c.arg.result _ _ (λ r added. added.shape (search rules) ∙ ap₂ with_rule c.new-2.ensures.app rule_is) c.arg.ensures;
      local = search rules;
    }
