use Rattle.std.proofs.Common.{arith}
use Rattle.std.specs.Prelude.{codes}
use Rattle.std.specs.String.{string_bytes}
use Rattle.program_words.proofs.Naming.{no_words, passed, two_words}
use Rattle.program_words.proofs.form_test.give_name.Goals as goal

pub returns-in-empty : goal.returns-in-empty
returns-in-empty c = no_words string_bytes c.args.options.now (omega arith)

pub returns-then-eq : goal.returns-then-eq
returns-then-eq c =
    two_words _ c.args.options.now c.option-item-then-options-lt3.result c.name-item.result c.as_str-then-eq.result.now c.is_name-then-eq.result c.in-len2.len_at_least c.in-len2.len_below c.option-item-then-options-lt3.is c.name-item.is
    (passed c.as_str-in-len2.result.now _ (codes "--image") c.eq.result c.if-eq.true c.eq.ensures c.as_str-in-len2.ensures.value) c.as_str-then-eq.ensures.value c.is_name-then-eq.ensures
