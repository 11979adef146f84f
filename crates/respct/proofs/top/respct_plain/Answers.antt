use Rattle.std.proofs.Common.{◌≡◌, ℕ, List, map, Option, Some, None, inl, inr, rules, refl, sym, subst}
use Rattle.std.specs.Prelude.{MatchOption}
use Rattle.std.specs.FinMap.{get}
use Rattle.std.specs.String.{string_bytes}
use Rattle.program_words.specs.Words.{AreOfNoForm, HaveForm, AreWordsOf}
use Rattle.respct.specs.declared.status.Status.{Status}
use Rattle.respct.specs.Answers.{LeadsCheckTo}
use Rattle.respct.specs.Steps.{ports}
use Rattle.respct.proofs.Naming.{one_form, one_name, no_life_asked, no_checked_drill, no_drill_led}
use Rattle.respct.proofs.Telling.{Told, life_status, check_status, drill_status, drill_ends, answered}
use Rattle.respct.proofs.Deciding.{decides}
use Rattle.respct.proofs.EnoughTurns.{in_time}
use Rattle.respct.proofs.Judging.{judges}
use Rattle.respct.proofs.top.respct_plain.Given.{Over}
use Rattle.respct.proofs.top.respct_plain.Goals as goal

-- OF A LIFE.

-- its status tells
life : (g : Over) (c : goal.After-of_life g) → Told (map string_bytes c.args.words.now)
    (ports (g.S.Source.left c.args.script.now) (g.S.Source.count c.args.script.now) (g.W.Sink.held c.args.report.now) (g.W.Sink.count c.args.report.now) (g.G.Images.kept c.args.images.now) (g.G.Images.count c.args.images.now))
    (ports (g.S.Source.left c.lead-ended.new.source) (g.S.Source.count c.lead-ended.new.source) (g.W.Sink.held c.lead-ended.new.sink) (g.W.Sink.count c.lead-ended.new.sink) (g.G.Images.kept c.lead-ended.new.images) (g.G.Images.count c.lead-ended.new.images))
    c.lead-ended.new.memory c.of_life.result
life g c = life_status c.in-Some-Lead.life (map string_bytes c.args.words.now) c.in-Some-Lead.image.now
    (ports (g.S.Source.left c.args.script.now) (g.S.Source.count c.args.script.now) (g.W.Sink.held c.args.report.now) (g.W.Sink.count c.args.report.now) (g.G.Images.kept c.args.images.now) (g.G.Images.count c.args.images.now))
    (ports (g.S.Source.left c.lead-ended.new.source) (g.S.Source.count c.lead-ended.new.source) (g.W.Sink.held c.lead-ended.new.sink) (g.W.Sink.count c.lead-ended.new.sink) (g.G.Images.kept c.lead-ended.new.images) (g.G.Images.count c.lead-ended.new.images))
    c.lead-ended.new.memory (search rules) c.lead-ended.result c.lead-ended.ensures.reported c.lead-ended.ensures.refused c.of_life.result c.of_life.ensures

pub returns-in-Some-Lead-clause-usage : goal.returns-in-Some-Lead-clause-usage
returns-in-Some-Lead-clause-usage g c = (λ e. absurd (answered _ _ _ _ _ _ (life g c) e), λ none. absurd (no_life_asked c.in-Some-Lead.life (map string_bytes c.args.words.now) c.in-Some-Lead.image.now none (search rules)))

pub returns-in-Some-Lead-clause-finished : goal.returns-in-Some-Lead-clause-finished
returns-in-Some-Lead-clause-finished g c = λ e. answered _ _ _ _ _ _ (life g c) e

pub returns-in-Some-Lead-clause-stalled : goal.returns-in-Some-Lead-clause-stalled
returns-in-Some-Lead-clause-stalled g c = λ e. answered _ _ _ _ _ _ (life g c) e

pub returns-in-Some-Lead-clause-cut : goal.returns-in-Some-Lead-clause-cut
returns-in-Some-Lead-clause-cut g c = λ e. answered _ _ _ _ _ _ (life g c) e

pub returns-in-Some-Lead-clause-unasked : goal.returns-in-Some-Lead-clause-unasked
returns-in-Some-Lead-clause-unasked g c = λ e. absurd (answered _ _ _ _ _ _ (life g c) e)

pub returns-in-Some-Lead-clause-script : goal.returns-in-Some-Lead-clause-script
returns-in-Some-Lead-clause-script g c = λ f e. answered _ _ _ _ _ _ (life g c) e

pub returns-in-Some-Lead-clause-unread : goal.returns-in-Some-Lead-clause-unread
returns-in-Some-Lead-clause-unread g c = λ e. answered _ _ _ _ _ _ (life g c) e

pub returns-in-Some-Lead-clause-too_long : goal.returns-in-Some-Lead-clause-too_long
returns-in-Some-Lead-clause-too_long g c = λ e. answered _ _ _ _ _ _ (life g c) e

pub returns-in-Some-Lead-clause-image : goal.returns-in-Some-Lead-clause-image
returns-in-Some-Lead-clause-image g c = λ f e. answered _ _ _ _ _ _ (life g c) e

pub returns-in-Some-Lead-clause-misfit : goal.returns-in-Some-Lead-clause-misfit
returns-in-Some-Lead-clause-misfit g c = λ m e. answered _ _ _ _ _ _ (life g c) e

pub returns-in-Some-Lead-clause-missing : goal.returns-in-Some-Lead-clause-missing
returns-in-Some-Lead-clause-missing g c = λ e. answered _ _ _ _ _ _ (life g c) e

pub returns-in-Some-Lead-clause-unsaved : goal.returns-in-Some-Lead-clause-unsaved
returns-in-Some-Lead-clause-unsaved g c = λ e. answered _ _ _ _ _ _ (life g c) e

pub returns-in-Some-Lead-clause-unwritten : goal.returns-in-Some-Lead-clause-unwritten
returns-in-Some-Lead-clause-unwritten g c = λ e. answered _ _ _ _ _ _ (life g c) e

pub returns-in-Some-Lead-clause-starved : goal.returns-in-Some-Lead-clause-starved
returns-in-Some-Lead-clause-starved g c = λ e. answered _ _ _ _ _ _ (life g c) e

pub returns-in-Some-Lead-clause-complete : goal.returns-in-Some-Lead-clause-complete
returns-in-Some-Lead-clause-complete g c = λ life_asked name is reading saving writing bytes told.
    decides life_asked (map string_bytes c.args.words.now) name
    (ports (g.S.Source.left c.args.script.now) (g.S.Source.count c.args.script.now) (g.W.Sink.held c.args.report.now) (g.W.Sink.count c.args.report.now) (g.G.Images.kept c.args.images.now) (g.G.Images.count c.args.images.now))
    (ports (g.S.Source.left c.lead-ended.new.source) (g.S.Source.count c.lead-ended.new.source) (g.W.Sink.held c.lead-ended.new.sink) (g.W.Sink.count c.lead-ended.new.sink) (g.G.Images.kept c.lead-ended.new.images) (g.G.Images.count c.lead-ended.new.images))
    c.lead-ended.new.memory bytes is told reading saving writing c.of_life.result (life g c)

pub returns-in-Some-Lead-clause-in_time : goal.returns-in-Some-Lead-clause-in_time
returns-in-Some-Lead-clause-in_time g c = λ life_asked name is bytes told p built.
    in_time life_asked (map string_bytes c.args.words.now) name
    (ports (g.S.Source.left c.args.script.now) (g.S.Source.count c.args.script.now) (g.W.Sink.held c.args.report.now) (g.W.Sink.count c.args.report.now) (g.G.Images.kept c.args.images.now) (g.G.Images.count c.args.images.now))
    (ports (g.S.Source.left c.lead-ended.new.source) (g.S.Source.count c.lead-ended.new.source) (g.W.Sink.held c.lead-ended.new.sink) (g.W.Sink.count c.lead-ended.new.sink) (g.G.Images.kept c.lead-ended.new.images) (g.G.Images.count c.lead-ended.new.images))
    c.lead-ended.new.memory bytes p c.of_life.result is told built (life g c)

pub returns-in-Some-Lead-clause-judged : goal.returns-in-Some-Lead-clause-judged
returns-in-Some-Lead-clause-judged g c = λ name is loading writing named told. absurd (one_form c.in-Some-Lead.life (map string_bytes c.args.words.now) c.in-Some-Lead.image.now name (search rules) is)

pub returns-in-Some-Lead-clause-drilled : goal.returns-in-Some-Lead-clause-drilled
returns-in-Some-Lead-clause-drilled g c = λ n is. absurd (no_drill_led c.in-Some-Lead.life (map string_bytes c.args.words.now) c.in-Some-Lead.image.now n (search rules) is)

-- OF A CHECK.

-- its status tells
check : (g : Over) (c : goal.After-of_check g) → Told (map string_bytes c.args.words.now)
    (ports (g.S.Source.left c.args.script.now) (g.S.Source.count c.args.script.now) (g.W.Sink.held c.args.report.now) (g.W.Sink.count c.args.report.now) (g.G.Images.kept c.args.images.now) (g.G.Images.count c.args.images.now))
    (ports (g.S.Source.left c.args.script.now) (g.S.Source.count c.args.script.now) (g.W.Sink.held c.check-ended.new.sink) (g.W.Sink.count c.check-ended.new.sink) (g.G.Images.kept c.check-ended.new.images) (g.G.Images.count c.check-ended.new.images))
    c.args.memory.now c.of_check.result
check g c = check_status (map string_bytes c.args.words.now) c.in-Some-Check.image.now
    (ports (g.S.Source.left c.args.script.now) (g.S.Source.count c.args.script.now) (g.W.Sink.held c.args.report.now) (g.W.Sink.count c.args.report.now) (g.G.Images.kept c.args.images.now) (g.G.Images.count c.args.images.now))
    (ports (g.S.Source.left c.args.script.now) (g.S.Source.count c.args.script.now) (g.W.Sink.held c.check-ended.new.sink) (g.W.Sink.count c.check-ended.new.sink) (g.G.Images.kept c.check-ended.new.images) (g.G.Images.count c.check-ended.new.images))
    c.args.memory.now (search rules) refl c.check-ended.ensures.same c.requires c.check-ended.result c.check-ended.ensures.checked c.check-ended.ensures.refused c.of_check.result c.of_check.ensures

pub returns-in-Some-Check-clause-usage : goal.returns-in-Some-Check-clause-usage
returns-in-Some-Check-clause-usage g c = (λ e. absurd (answered _ _ _ _ _ _ (check g c) e), λ none. absurd (none.no_check c.in-Some-Check.image.now (search rules)))

pub returns-in-Some-Check-clause-finished : goal.returns-in-Some-Check-clause-finished
returns-in-Some-Check-clause-finished g c = λ e. answered _ _ _ _ _ _ (check g c) e

pub returns-in-Some-Check-clause-stalled : goal.returns-in-Some-Check-clause-stalled
returns-in-Some-Check-clause-stalled g c = λ e. answered _ _ _ _ _ _ (check g c) e

pub returns-in-Some-Check-clause-cut : goal.returns-in-Some-Check-clause-cut
returns-in-Some-Check-clause-cut g c = λ e. answered _ _ _ _ _ _ (check g c) e

pub returns-in-Some-Check-clause-unasked : goal.returns-in-Some-Check-clause-unasked
returns-in-Some-Check-clause-unasked g c = λ e. absurd (answered _ _ _ _ _ _ (check g c) e)

pub returns-in-Some-Check-clause-script : goal.returns-in-Some-Check-clause-script
returns-in-Some-Check-clause-script g c = λ f e. answered _ _ _ _ _ _ (check g c) e

pub returns-in-Some-Check-clause-unread : goal.returns-in-Some-Check-clause-unread
returns-in-Some-Check-clause-unread g c = λ e. answered _ _ _ _ _ _ (check g c) e

pub returns-in-Some-Check-clause-too_long : goal.returns-in-Some-Check-clause-too_long
returns-in-Some-Check-clause-too_long g c = λ e. answered _ _ _ _ _ _ (check g c) e

pub returns-in-Some-Check-clause-image : goal.returns-in-Some-Check-clause-image
returns-in-Some-Check-clause-image g c = λ f e. answered _ _ _ _ _ _ (check g c) e

pub returns-in-Some-Check-clause-misfit : goal.returns-in-Some-Check-clause-misfit
returns-in-Some-Check-clause-misfit g c = λ m e. answered _ _ _ _ _ _ (check g c) e

pub returns-in-Some-Check-clause-missing : goal.returns-in-Some-Check-clause-missing
returns-in-Some-Check-clause-missing g c = λ e. answered _ _ _ _ _ _ (check g c) e

pub returns-in-Some-Check-clause-unsaved : goal.returns-in-Some-Check-clause-unsaved
returns-in-Some-Check-clause-unsaved g c = λ e. answered _ _ _ _ _ _ (check g c) e

pub returns-in-Some-Check-clause-unwritten : goal.returns-in-Some-Check-clause-unwritten
returns-in-Some-Check-clause-unwritten g c = λ e. answered _ _ _ _ _ _ (check g c) e

pub returns-in-Some-Check-clause-starved : goal.returns-in-Some-Check-clause-starved
returns-in-Some-Check-clause-starved g c = λ e. answered _ _ _ _ _ _ (check g c) e

pub returns-in-Some-Check-clause-complete : goal.returns-in-Some-Check-clause-complete
returns-in-Some-Check-clause-complete g c = λ life_asked name is reading saving writing bytes told. absurd (one_form life_asked (map string_bytes c.args.words.now) name c.in-Some-Check.image.now is (search rules))

pub returns-in-Some-Check-clause-in_time : goal.returns-in-Some-Check-clause-in_time
returns-in-Some-Check-clause-in_time g c = λ life_asked name is bytes told p built. absurd (one_form life_asked (map string_bytes c.args.words.now) name c.in-Some-Check.image.now is (search rules))

pub returns-in-Some-Check-clause-judged : goal.returns-in-Some-Check-clause-judged
returns-in-Some-Check-clause-judged g c = λ name is loading writing named told.
    let same : c.in-Some-Check.image.now ≡ name = one_name (map string_bytes c.args.words.now) c.in-Some-Check.image.now name (search rules) is in
    subst (λ (n : List ℕ). LeadsCheckTo (get named n) c.of_check.result) same
    (subst (λ (status : Status). LeadsCheckTo (get named c.in-Some-Check.image.now) status) (sym c.of_check.ensures) (judges (get named c.in-Some-Check.image.now) c.check-ended.result (c.check-ended.ensures.decided loading writing named told)))

pub returns-in-Some-Check-clause-drilled : goal.returns-in-Some-Check-clause-drilled
returns-in-Some-Check-clause-drilled g c = λ n is. absurd (no_checked_drill (map string_bytes c.args.words.now) c.in-Some-Check.image.now n (search rules) is)

-- OF A DRILL.

-- its status tells
drill : (g : Over) (c : goal.After-of_drill g) → Told (map string_bytes c.args.words.now)
    (ports (g.S.Source.left c.args.script.now) (g.S.Source.count c.args.script.now) (g.W.Sink.held c.args.report.now) (g.W.Sink.count c.args.report.now) (g.G.Images.kept c.args.images.now) (g.G.Images.count c.args.images.now))
    (ports (g.S.Source.left c.args.script.now) (g.S.Source.count c.args.script.now) (g.W.Sink.held c.drill-ended.new.sink) (g.W.Sink.count c.drill-ended.new.sink) (g.G.Images.kept c.args.images.now) (g.G.Images.count c.args.images.now))
    c.drill-ended.new.memory c.of_drill.result
drill g c = drill_status (map string_bytes c.args.words.now) c.in-Some-Drill.number
    (ports (g.S.Source.left c.args.script.now) (g.S.Source.count c.args.script.now) (g.W.Sink.held c.args.report.now) (g.W.Sink.count c.args.report.now) (g.G.Images.kept c.args.images.now) (g.G.Images.count c.args.images.now))
    (ports (g.S.Source.left c.args.script.now) (g.S.Source.count c.args.script.now) (g.W.Sink.held c.drill-ended.new.sink) (g.W.Sink.count c.drill-ended.new.sink) (g.G.Images.kept c.args.images.now) (g.G.Images.count c.args.images.now))
    c.drill-ended.new.memory (search rules) refl refl c.drill-ended.result c.drill-ended.ensures.drilled c.drill-ended.ensures.refused c.of_drill.result c.of_drill.ensures

pub returns-in-Some-Drill-clause-usage : goal.returns-in-Some-Drill-clause-usage
returns-in-Some-Drill-clause-usage g c = (λ e. absurd (answered _ _ _ _ _ _ (drill g c) e), λ none. absurd (none.no_drill c.in-Some-Drill.number (search rules)))

pub returns-in-Some-Drill-clause-finished : goal.returns-in-Some-Drill-clause-finished
returns-in-Some-Drill-clause-finished g c = λ e. answered _ _ _ _ _ _ (drill g c) e

pub returns-in-Some-Drill-clause-stalled : goal.returns-in-Some-Drill-clause-stalled
returns-in-Some-Drill-clause-stalled g c = λ e. answered _ _ _ _ _ _ (drill g c) e

pub returns-in-Some-Drill-clause-cut : goal.returns-in-Some-Drill-clause-cut
returns-in-Some-Drill-clause-cut g c = λ e. answered _ _ _ _ _ _ (drill g c) e

pub returns-in-Some-Drill-clause-unasked : goal.returns-in-Some-Drill-clause-unasked
returns-in-Some-Drill-clause-unasked g c = λ e. absurd (answered _ _ _ _ _ _ (drill g c) e)

pub returns-in-Some-Drill-clause-script : goal.returns-in-Some-Drill-clause-script
returns-in-Some-Drill-clause-script g c = λ f e. answered _ _ _ _ _ _ (drill g c) e

pub returns-in-Some-Drill-clause-unread : goal.returns-in-Some-Drill-clause-unread
returns-in-Some-Drill-clause-unread g c = λ e. answered _ _ _ _ _ _ (drill g c) e

pub returns-in-Some-Drill-clause-too_long : goal.returns-in-Some-Drill-clause-too_long
returns-in-Some-Drill-clause-too_long g c = λ e. answered _ _ _ _ _ _ (drill g c) e

pub returns-in-Some-Drill-clause-image : goal.returns-in-Some-Drill-clause-image
returns-in-Some-Drill-clause-image g c = λ f e. answered _ _ _ _ _ _ (drill g c) e

pub returns-in-Some-Drill-clause-misfit : goal.returns-in-Some-Drill-clause-misfit
returns-in-Some-Drill-clause-misfit g c = λ m e. answered _ _ _ _ _ _ (drill g c) e

pub returns-in-Some-Drill-clause-missing : goal.returns-in-Some-Drill-clause-missing
returns-in-Some-Drill-clause-missing g c = λ e. answered _ _ _ _ _ _ (drill g c) e

pub returns-in-Some-Drill-clause-unsaved : goal.returns-in-Some-Drill-clause-unsaved
returns-in-Some-Drill-clause-unsaved g c = λ e. answered _ _ _ _ _ _ (drill g c) e

pub returns-in-Some-Drill-clause-unwritten : goal.returns-in-Some-Drill-clause-unwritten
returns-in-Some-Drill-clause-unwritten g c = λ e. answered _ _ _ _ _ _ (drill g c) e

pub returns-in-Some-Drill-clause-starved : goal.returns-in-Some-Drill-clause-starved
returns-in-Some-Drill-clause-starved g c = λ e. answered _ _ _ _ _ _ (drill g c) e

pub returns-in-Some-Drill-clause-complete : goal.returns-in-Some-Drill-clause-complete
returns-in-Some-Drill-clause-complete g c = λ life_asked name is reading saving writing bytes told. absurd (no_drill_led life_asked (map string_bytes c.args.words.now) name c.in-Some-Drill.number is (search rules))

pub returns-in-Some-Drill-clause-in_time : goal.returns-in-Some-Drill-clause-in_time
returns-in-Some-Drill-clause-in_time g c = λ life_asked name is bytes told p built. absurd (no_drill_led life_asked (map string_bytes c.args.words.now) name c.in-Some-Drill.number is (search rules))

pub returns-in-Some-Drill-clause-judged : goal.returns-in-Some-Drill-clause-judged
returns-in-Some-Drill-clause-judged g c = λ name is loading writing named told. absurd (no_checked_drill (map string_bytes c.args.words.now) name c.in-Some-Drill.number is (search rules))

pub returns-in-Some-Drill-clause-drilled : goal.returns-in-Some-Drill-clause-drilled
returns-in-Some-Drill-clause-drilled g c = λ n is.
    drill_ends c.in-Some-Drill.number c.drill-ended.new.memory (g.W.Sink.held c.args.report.now) (g.W.Sink.held c.drill-ended.new.sink) (g.W.Sink.count c.args.report.now) (g.W.Sink.count c.drill-ended.new.sink) c.drill-ended.result
    c.drill-ended.ensures.refused c.of_drill.result c.of_drill.ensures

-- WANT OF MEMORY.

-- words that have a form are not of no form
have_one : (words : List (List ℕ)) → HaveForm words → AreOfNoForm words → ⊥
have_one words (inl start) none = none.no_start start.0 start.1
have_one words (inr (inl resume)) none = none.no_resume resume.0 resume.1
have_one words (inr (inr (inl check))) none = none.no_check check.0 check.1
have_one words (inr (inr (inr drill))) none = none.no_drill drill.0 drill.1

pub returns-in-Err-clause-usage : goal.returns-in-Err-clause-usage
returns-in-Err-clause-usage g c = (λ e. absurd (cc e), λ none. absurd (have_one (map string_bytes c.args.words.now) c.in-Err.ensures.want none))

-- OF NO FORM.

-- what is said where there is no form
of_none : {F : Type 0} (form : Option F) (P : Type 0) (Q : F → Type 0) → MatchOption form P Q → form ≡ None → P
of_none None P Q is none = is
of_none (Some f) P Q is none = absurd (cc none)

pub returns-in-None-clause-complete : goal.returns-in-None-clause-complete
returns-in-None-clause-complete g c = λ life_asked name is reading saving writing bytes told. absurd (no_life_asked life_asked (map string_bytes c.args.words.now) name (of_none c.in-Ok.form (AreOfNoForm (map string_bytes c.args.words.now)) (AreWordsOf (map string_bytes c.args.words.now)) c.in-Ok.ensures.form c.in-None.is) is)

pub returns-in-None-clause-in_time : goal.returns-in-None-clause-in_time
returns-in-None-clause-in_time g c = λ life_asked name is bytes told p built. absurd (no_life_asked life_asked (map string_bytes c.args.words.now) name (of_none c.in-Ok.form (AreOfNoForm (map string_bytes c.args.words.now)) (AreWordsOf (map string_bytes c.args.words.now)) c.in-Ok.ensures.form c.in-None.is) is)

pub returns-in-None-clause-judged : goal.returns-in-None-clause-judged
returns-in-None-clause-judged g c = λ name is loading writing named told. absurd ((of_none c.in-Ok.form (AreOfNoForm (map string_bytes c.args.words.now)) (AreWordsOf (map string_bytes c.args.words.now)) c.in-Ok.ensures.form c.in-None.is).no_check name is)

pub returns-in-None-clause-drilled : goal.returns-in-None-clause-drilled
returns-in-None-clause-drilled g c = λ n is. absurd ((of_none c.in-Ok.form (AreOfNoForm (map string_bytes c.args.words.now)) (AreWordsOf (map string_bytes c.args.words.now)) c.in-Ok.ensures.form c.in-None.is).no_drill n is)
