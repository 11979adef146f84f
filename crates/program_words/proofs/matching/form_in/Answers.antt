use Rattle.std.proofs.Common.{◌∙◌, sym, subst, codes}
use Rattle.std.specs.Fmt.{decimal}
use Rattle.std.proofs.lemmas.Slice.Eq.{bytes_eq-Decides}
use Rattle.clap.specs.Words.{found_of, rows_of}
use Rattle.clap.proofs.WalkLemmas.{first_value-rows, one_text-rows}
use Rattle.program_words.specs.Words.{IsDrill}
use Rattle.program_words.proofs.Numbers.{number_not_refused, number_read_as}
use Rattle.program_words.proofs.Readings.{check_read, drill_read, named, resume_read, start_read, told_by}
use Rattle.program_words.proofs.matching.form_in.Goals as goal

pub returns-in_err-get_one : goal.returns-in_err-get_one
returns-in_err-get_one c = λ words tells.
    let rows = rows_of (found_of c.in_ok-word.inner.now) in
    let told = told_by c.args.matches.now words c.in_ok-word.word.now rows c.in_ok-word.ensures.name c.in_ok-word.ensures.rows tells in
    let drill = drill_read words c.in_ok-word.word.now rows told ((bytes_eq-Decides c.in_ok-word.word.now (codes "drill")).0 (sym c.eq.ensures ∙ c.if-eq.true)) in
    let bad = c.in_err-get_one.ensures.value (decimal drill.number) (one_text-rows (found_of c.in_ok-word.inner.now) (codes "number") ∙ drill.number_is) in
    absurd (number_not_refused drill.number drill.of_drill.is_number.1 bad.1.0)

pub returns-then-eq : goal.returns-then-eq
returns-then-eq c = λ words tells.
    let rows = rows_of (found_of c.in_ok-word.inner.now) in
    let told = told_by c.args.matches.now words c.in_ok-word.word.now rows c.in_ok-word.ensures.name c.in_ok-word.ensures.rows tells in
    let drill = drill_read words c.in_ok-word.word.now rows told ((bytes_eq-Decides c.in_ok-word.word.now (codes "drill")).0 (sym c.eq.ensures ∙ c.if-eq.true)) in
    let read = c.in_ok-get_one.ensures.value (decimal drill.number) (one_text-rows (found_of c.in_ok-word.inner.now) (codes "number") ∙ drill.number_is) in
    subst (IsDrill words) (number_read_as drill.number c.in_ok-get_one.field-0 drill.of_drill.is_number.1 read.0) drill.of_drill

pub returns-in_err-image : goal.returns-in_err-image
returns-in_err-image c = λ words tells.
    let rows = rows_of (found_of c.in_ok-word.inner.now) in
    let told = told_by c.args.matches.now words c.in_ok-word.word.now rows c.in_ok-word.ensures.name c.in_ok-word.ensures.rows tells in
    absurd (named words c.in_ok-word.word.now rows told (sym c.eq.ensures ∙ c.if-eq.false) (c.in_err-image.ensures ∙ first_value-rows (found_of c.in_ok-word.inner.now) (codes "image")))

pub returns-then-eq-2 : goal.returns-then-eq-2
returns-then-eq-2 c = λ words tells.
    let rows = rows_of (found_of c.in_ok-word.inner.now) in
    let told = told_by c.args.matches.now words c.in_ok-word.word.now rows c.in_ok-word.ensures.name c.in_ok-word.ensures.rows tells in
    start_read words c.in_ok-word.word.now rows told ((bytes_eq-Decides c.in_ok-word.word.now (codes "start")).0 (sym c.eq-2.ensures ∙ c.if-eq-2.true)) c.in_ok-image.image.now
    (sym (c.in_ok-image.ensures ∙ first_value-rows (found_of c.in_ok-word.inner.now) (codes "image")))

pub returns-then-eq-3 : goal.returns-then-eq-3
returns-then-eq-3 c = λ words tells.
    let rows = rows_of (found_of c.in_ok-word.inner.now) in
    let told = told_by c.args.matches.now words c.in_ok-word.word.now rows c.in_ok-word.ensures.name c.in_ok-word.ensures.rows tells in
    resume_read words c.in_ok-word.word.now rows told ((bytes_eq-Decides c.in_ok-word.word.now (codes "resume")).0 (sym c.eq-else-eq-2.ensures ∙ c.if-eq-3.true)) c.in_ok-image.image.now
    (sym (c.in_ok-image.ensures ∙ first_value-rows (found_of c.in_ok-word.inner.now) (codes "image")))

pub returns-then-eq-4 : goal.returns-then-eq-4
returns-then-eq-4 c = λ words tells.
    let rows = rows_of (found_of c.in_ok-word.inner.now) in
    let told = told_by c.args.matches.now words c.in_ok-word.word.now rows c.in_ok-word.ensures.name c.in_ok-word.ensures.rows tells in
    check_read words c.in_ok-word.word.now rows told ((bytes_eq-Decides c.in_ok-word.word.now (codes "check")).0 (sym c.eq-else-eq-3.ensures ∙ c.if-eq-4.true)) c.in_ok-image.image.now
    (sym (c.in_ok-image.ensures ∙ first_value-rows (found_of c.in_ok-word.inner.now) (codes "image")))
