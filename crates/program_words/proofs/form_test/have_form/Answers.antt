use Rattle.std.proofs.Common.{Bool, map, ap, subst}
use Rattle.std.specs.Bool.{MatchBool}
use Rattle.std.specs.String.{string_bytes}
use Rattle.program_words.specs.Words.{TakesImage}
use Rattle.program_words.proofs.Naming.{formed}
use Rattle.program_words.proofs.form_test.have_form.Goals as goal

pub returns-then-takes_image : goal.returns-then-takes_image
returns-then-takes_image c =
    let first = c.as_str-else-eq.result.now in
    let takes : TakesImage first = subst (λ (b : Bool). MatchBool b (TakesImage first) (TakesImage first → ⊥)) c.if-takes_image.true c.takes_image.ensures in
    formed (map string_bytes c.args.words.now) (string_bytes c.in-Some.word.now) (map string_bytes c.in-Some.options.now) c.give_name.result
    (ap (map string_bytes) c.in-Some.ensures.cases.0) (subst TakesImage c.as_str-else-eq.ensures.value takes) c.give_name.ensures
