-- A step: an event, or the release.
use Rattle.std.proofs.Common.{◌≡◌, true, false, Option, refl, ap, sym, ◌∙◌, subst}
use Rattle.seq_object.specs.declared.settings.Settings.{Settings}
use Rattle.life_model.specs.declared.life.Mark.{Mark}
use Rattle.yard_model.specs.declared.view.View.{View}
use Rattle.room_yard.specs.Told.{Told}
use Rattle.room_yard.specs.Calls.{MayEndEpoch}
use Rattle.room_yard.specs.Answers.{EndedEpoch}
use Rattle.coordinator.specs.declared.hand.Hand.{Hand}
use Rattle.coordinator.specs.declared.hand.Hand.TheVariants.{Empty, Flushing, Flushed, Shut, Epoch, AllDone, Over}
use Rattle.coordinator.specs.declared.learnt.Learnt.{Learnt}
use Rattle.coordinator.specs.Learnts.{ends_life}
use Rattle.coordinator.specs.Closers.{CloserState, with_hand, HandIs, IsCloser}
use Rattle.coordinator.specs.declared.closer.CloseStep.{CloseStep}
use Rattle.coordinator.specs.declared.closer.CloseStep.TheVariants.{Did, Released}
use Rattle.coordinator.specs.Steps.{DoesNext, Releases, StepIs, IfDid, IfReleased}
use Rattle.coordinator.specs.Events.{HasEvent, are_all_done}
use Rattle.coordinator.proofs.Ended.{may_end, fed_is}
use Rattle.coordinator.proofs.Counts.{CountsOne, step_is_one, release_is_one}

-- what the test says
all_done_is : (hand : Hand) → are_all_done hand ≡ true → hand ≡ AllDone
all_done_is Empty is = absurd (cc)
all_done_is (Flushing x) is = absurd (cc)
all_done_is (Flushed x) is = absurd (cc)
all_done_is (Shut x) is = absurd (cc)
all_done_is (Epoch stage x) is = absurd (cc)
all_done_is AllDone is = refl
all_done_is Over is = absurd (cc)

event_left : (s : Settings) (l : Learnt) (hand : Hand) (v : View) → HandIs s l hand v → are_all_done hand ≡ false → HasEvent hand
event_left s l Empty v holds is = tt
event_left s l (Flushing x) v holds is = tt
event_left s l (Flushed x) v holds is = tt
event_left s l (Shut x) v holds is = tt
event_left s l (Epoch stage x) v holds is = tt
event_left s l AllDone v holds is = absurd (cc)
event_left s l Over v holds is = holds

pub may_go_on : (c : CloserState) (v : View) → IsCloser c v → are_all_done c.hand ≡ false → HasEvent c.hand
may_go_on c v was is = event_left c.settings c.learnt c.hand v was.closes.hand is

pub may_end_now : (c : CloserState) → are_all_done c.hand ≡ true → c.hand ≡ AllDone
may_end_now c is = all_done_is c.hand is

pub released : (c k : CloserState) (v : View) → k ≡ c → IsCloser c v → c.hand ≡ AllDone → (t u : Option Told) (w : View) (mark : Mark) → EndedEpoch v t (ends_life k.learnt.verdict) k.learnt.fed mark w u
    → Releases c v t mark k.learnt.verdict (with_hand k Over) w u
released c k v same was is t u w mark ended = subst (λ (q : CloserState). IsCloser q v → q.hand ≡ AllDone → Releases q v t mark k.learnt.verdict (with_hand k Over) w u) same (λ now all. record {
  all_done = all;
  fed = k.learnt.fed;
  fed_is = fed_is k v now all;
  verdict_is = now.closes.learnt.verdict;
  ended = ended;
  over = refl;
}) was is

pub may_release : (c k : CloserState) (v : View) → k ≡ c → IsCloser c v → c.hand ≡ AllDone → MayEndEpoch v (ends_life k.learnt.verdict) k.learnt.fed
may_release c k v same was is = may_end k v (subst (λ (q : CloserState). IsCloser q v) (sym same) was) (ap (λ (q : CloserState). q.hand) same ∙ is)

-- d is what was made, and e the same with its fields; hand was put in
pub put_back : (c d e : CloserState) (hand : Hand) (v w : View) (t u : Option Told) → e ≡ d → hand ≡ e.hand → DoesNext c v t d w u → DoesNext c v t (with_hand e hand) w u
put_back c d e hand v w t u same put does = subst (λ (q : CloserState). DoesNext c v t q w u) (sym (ap (with_hand e) put ∙ same)) does

-- c is the closer, and k the same with its fields; hand is what was taken out of it
module _ (c k : CloserState) (same : k ≡ c) (hand : Hand) (taken : hand ≡ k.hand) where
  whole : with_hand k hand ≡ c
  whole = ap (with_hand k) taken ∙ same

  pub again : (v : View) → IsCloser c v → IsCloser (with_hand k hand) v
  again v was = subst (λ (q : CloserState). IsCloser q v) (sym whole) was

  pub event : HasEvent c.hand → HasEvent hand
  event has = subst HasEvent (sym (taken ∙ ap (λ (q : CloserState). q.hand) same)) has

  pub did : (v w : View) (t u : Option Told) (d : CloserState) → DoesNext (with_hand k hand) v t d w u → DoesNext c v t d w u
  did v w t u d does = subst (λ (q : CloserState). DoesNext q v t d w u) whole does

-- the clauses of a step
module _ (c : CloserState) (v : View) (was : IsCloser c v) (step : CloseStep) (t u : Option Told) (d : CloserState) (w : View) (is : StepIs step c v t d w u) where
  pub if_did : IfDid step (DoesNext c v t d w u)
  if_did = by step is
    where
      by : (s : CloseStep) → StepIs s c v t d w u → IfDid s (DoesNext c v t d w u)
      by Did does = does
      by (Released mark verdict) ends = tt

  pub if_released : IfReleased step (λ mark verdict. Releases c v t mark verdict d w u)
  if_released = by step is
    where
      by : (s : CloseStep) → StepIs s c v t d w u → IfReleased s (λ mark verdict. Releases c v t mark verdict d w u)
      by Did does = tt
      by (Released mark verdict) ends = ends

  pub one : CountsOne v.thread c d
  one = by step is
    where
      by : (s : CloseStep) → StepIs s c v t d w u → CountsOne v.thread c d
      by Did does = step_is_one c d v w t u was does
      by (Released mark verdict) ends = subst (CountsOne v.thread c) (sym ends.over) (release_is_one c v.thread ends.all_done)
