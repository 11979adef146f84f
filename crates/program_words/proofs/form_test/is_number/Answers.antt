use Rattle.std.proofs.Common.{◌∙◌, ℕ, Bool, ap, sym, subst}
use Rattle.std.specs.Bool.{MatchBool}
use Rattle.program_words.specs.Words.{IsNumber, has_number_front}
use Rattle.program_words.proofs.Numbers.{fronted, parsed}
use Rattle.program_words.proofs.form_test.is_number.Goals as goal

pub returns-then-has_number_front : goal.returns-then-has_number_front
returns-then-has_number_front c =
    subst (λ (b : Bool). MatchBool b ((number : ℕ) × IsNumber c.args.word.now number) ((number : ℕ) → IsNumber c.args.word.now number → ⊥)) (sym c.is_ok.ensures.value)
    (parsed c.args.word.now c.parse.result (ap has_number_front (sym c.as_bytes.ensures.value) ∙ sym c.has_number_front.ensures ∙ c.if-has_number_front.true) c.parse.ensures.value.0)

pub returns-else-has_number_front : goal.returns-else-has_number_front
returns-else-has_number_front c = fronted c.args.word.now (ap has_number_front (sym c.as_bytes.ensures.value) ∙ sym c.has_number_front.ensures ∙ c.if-has_number_front.false)
