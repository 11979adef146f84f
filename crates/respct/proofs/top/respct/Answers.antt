use Rattle.std.proofs.Common.{◌≡◌, refl, ap, ◌∙◌}
use Rattle.respct.specs.declared.answer.PlainAnswer.{PlainAnswer}
use Rattle.respct.specs.declared.answer.PlainAnswer.TheVariants.{Ended}
use Rattle.respct.specs.Answers.{status_in}
use Rattle.respct.proofs.top.respct.Goals as goal

-- an answer says that the call has ended with its status
ended : (answer : PlainAnswer) → answer ≡ Ended (status_in answer)
ended (Ended status) = refl

pub returns-clause-usage : goal.returns-clause-usage
returns-clause-usage g c = rw (ended c.respct_plain.result) (λ e. c.respct_plain.ensures.usage.0 (ended c.respct_plain.result ∙ ap Ended e), λ none. ap status_in (c.respct_plain.ensures.usage.1 none))

pub returns-clause-finished : goal.returns-clause-finished
returns-clause-finished g c = rw (ended c.respct_plain.result) (λ e. c.respct_plain.ensures.finished (ended c.respct_plain.result ∙ ap Ended e))

pub returns-clause-stalled : goal.returns-clause-stalled
returns-clause-stalled g c = rw (ended c.respct_plain.result) (λ e. c.respct_plain.ensures.stalled (ended c.respct_plain.result ∙ ap Ended e))

pub returns-clause-cut : goal.returns-clause-cut
returns-clause-cut g c = rw (ended c.respct_plain.result) (λ e. c.respct_plain.ensures.cut (ended c.respct_plain.result ∙ ap Ended e))

pub returns-clause-missing : goal.returns-clause-missing
returns-clause-missing g c = rw (ended c.respct_plain.result) (λ e. c.respct_plain.ensures.missing (ended c.respct_plain.result ∙ ap Ended e))

pub returns-clause-unsaved : goal.returns-clause-unsaved
returns-clause-unsaved g c = rw (ended c.respct_plain.result) (λ e. c.respct_plain.ensures.unsaved (ended c.respct_plain.result ∙ ap Ended e))

pub returns-clause-unwritten : goal.returns-clause-unwritten
returns-clause-unwritten g c = rw (ended c.respct_plain.result) (λ e. c.respct_plain.ensures.unwritten (ended c.respct_plain.result ∙ ap Ended e))

pub returns-clause-starved : goal.returns-clause-starved
returns-clause-starved g c = rw (ended c.respct_plain.result) (λ e. c.respct_plain.ensures.starved (ended c.respct_plain.result ∙ ap Ended e))

pub returns-clause-script : goal.returns-clause-script
returns-clause-script g c = rw (ended c.respct_plain.result) (λ f e. c.respct_plain.ensures.script f (ended c.respct_plain.result ∙ ap Ended e))

pub returns-clause-image : goal.returns-clause-image
returns-clause-image g c = rw (ended c.respct_plain.result) (λ f e. c.respct_plain.ensures.image f (ended c.respct_plain.result ∙ ap Ended e))

pub returns-clause-misfit : goal.returns-clause-misfit
returns-clause-misfit g c = rw (ended c.respct_plain.result) (λ f e. c.respct_plain.ensures.misfit f (ended c.respct_plain.result ∙ ap Ended e))

pub returns-clause-complete : goal.returns-clause-complete
returns-clause-complete g c = λ life name is reading saving writing bytes told. rw (ended c.respct_plain.result) (c.respct_plain.ensures.complete life name is reading saving writing bytes told)

pub returns-clause-in_time : goal.returns-clause-in_time
returns-clause-in_time g c = λ life name is bytes told p built. rw (ended c.respct_plain.result) (c.respct_plain.ensures.in_time life name is bytes told p built)

pub returns-clause-judged : goal.returns-clause-judged
returns-clause-judged g c = λ name is loading writing named told. rw (ended c.respct_plain.result) (c.respct_plain.ensures.judged name is loading writing named told)

pub returns-clause-drilled : goal.returns-clause-drilled
returns-clause-drilled g c = λ n is. rw (ended c.respct_plain.result) (c.respct_plain.ensures.drilled n is)
