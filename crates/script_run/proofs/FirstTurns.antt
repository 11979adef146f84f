-- The first turns of a resume, one by one.
use Rattle.std.proofs.Common.{◌≡◌, ℕ, zero, suc, ◌+◌, ◌≤◌, List, [], ◌∷◌, length, Some, None, sym, ap, ◌∙◌, inl, inr, arith}
use Rattle.std.specs.Prelude.{slice_get}
use Rattle.std.proofs.lemmas.Option.{slice_get_within, none-some}
use Rattle.script_text.specs.Program.{Turns}
use Rattle.script_text.specs.Schedules.{schedule_of}
use Rattle.turn_order.specs.Orders.{OrderState, IsOrderOf, IsBehind}
use Rattle.life_model.specs.Life.{Opening}
use Rattle.epoch_word.specs.declared.stage.EpochStage.TheVariants.{InMemory}
use Rattle.recovery.specs.Recovering.{RecoveryState, IsRecovery, stepped, behind_events, events_left}
use Rattle.script_run.specs.Steps.{IsOrderIn}
use Rattle.script_run.specs.Recovers.{IsGoingOn, IsRecoveredBy}

module _ (threads : ℕ) (turns : Turns) (first : RecoveryState) where
  pub goes_first : (o : OrderState) → IsOrderIn threads turns o → o.given ≡ 0 → IsGoingOn threads turns first first o
  goes_first o order none = record {
    order = order;
    is = ap (λ (n : ℕ). behind_events n first) (sym none);
    about = λ a is. is;
    left = omega (arith, none);
  }

  module _ (r : RecoveryState) (o : OrderState) (going : IsGoingOn threads turns first r o) where
    -- what the order gives is read off the schedule of its own number of threads
    given_at : slice_get (schedule_of o.threads turns) o.given ≡ slice_get (schedule_of threads turns) o.given
    given_at = ap (λ (n : ℕ). slice_get (schedule_of n turns) o.given) going.order.same_threads

    -- one event more
    pub one_event_more : (s : RecoveryState) (p : OrderState) (i : ℕ) → Some i ≡ slice_get (schedule_of o.threads turns) o.given → IsOrderOf turns p → IsBehind (Some i) o p → s ≡ stepped r
        → ((a : Opening) → IsRecovery a r → IsRecovery a s) → events_left r ≡ events_left s + 1 → IsGoingOn threads turns first s p
    one_event_more s p i at order behind is about fewer = record {
      order = record {
        order = order;
        same_threads = behind.0 ∙ going.order.same_threads;
        given = let inside = slice_get_within (schedule_of threads turns) o.given i (sym (at ∙ given_at)) in let one = behind.1 in omega (arith, inside, one);
      };
      is = is ∙ ap stepped going.is ∙ (let next : suc o.given ≡ p.given = let one = behind.1 in omega (arith, one) in ap (λ (n : ℕ). behind_events n first) next);
      about = λ a was. about a (going.about a was);
      left = let left = going.left in let one = behind.1 in omega (arith, left, one, fewer);
    }

    -- no turn is left
    all_given : (l : List ℕ) (n : ℕ) → slice_get l n ≡ None → length l ≤ n
    all_given [] n none = omega arith
    all_given (x ∷ xs) zero none = absurd (none-some x (sym none))
    all_given (x ∷ xs) (suc n) none = let rest = all_given xs n none in omega (arith, rest)

    pub spent : None ≡ slice_get (schedule_of o.threads turns) o.given → (p : OrderState) → IsOrderOf turns p → IsBehind None o p → IsRecoveredBy threads turns first r p
    spent none p order behind =
        let past = all_given (schedule_of threads turns) o.given (sym (none ∙ given_at)) in
        let within = going.order.given in
        let same : o.given ≡ p.given = sym behind.1 in
        record {
          goes = record {
            order = record { order = order; same_threads = behind.0 ∙ going.order.same_threads; given = omega (arith, within, same) };
            is = going.is ∙ ap (λ (n : ℕ). behind_events n first) same;
            about = going.about;
            left = let left = going.left in omega (arith, left, same);
          };
          ends = inr (omega (arith, past, within, same));
        }

    pub finished : r.stage ≡ InMemory → IsRecoveredBy threads turns first r o
    finished at = record { goes = going; ends = inl at }
