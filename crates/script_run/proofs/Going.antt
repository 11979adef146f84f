-- The loop of a run: what holds behind so many turns, behind one more, and where it ends.
use Rattle.std.proofs.Common.{◌≡◌, ℕ, zero, suc, ◌+◌, ◌-◌, ◌<◌, ◌≤◌, Bool, true, false, List, [], ◌∷◌, length, take, drop, Some, None, refl, sym, ap, ◌∙◌, subst, arith}
use Rattle.std.specs.Prelude.{slice_get}
use Rattle.std.proofs.lemmas.Option.{slice_get_within, get_or_from_slice_get}
use Rattle.life_model.specs.declared.life.Mark.{Mark}
use Rattle.script_text.specs.Program.{Turns, round_robin, seeded, listed, live}
use Rattle.script_text.specs.Text.{AreTurns}
use Rattle.script_text.specs.Schedules.{schedule_of, turn_count}
use Rattle.script_text.proofs.ScheduleLaws.{turn_count_law, threads_named_law}
use Rattle.turn_order.specs.Orders.{OrderState, IsOrderOf, IsBehind}
use Rattle.replay_model.specs.Replays.{ReplayState, is_over_in}
use Rattle.replay_model.specs.Kept.{IsReplay}
use Rattle.replay_progress.specs.Runs.{RunsKept}
use Rattle.script_run.specs.Runs.{HaveDone, DriesKept, RunsOrDries}
use Rattle.script_run.specs.Steps.{AreMarksOf, IsOrderIn, HasTurnOrDries, StaysReplay}
use Rattle.script_run.proofs.Running.{leads_on, ends_over, ends_spent, ends_dry}

-- so many turns were given, and those of them behind the first so many led each to a replay; or memory ran out
abbrev pub IsOnWay : Bool → List ℕ → ℕ → ReplayState → ℕ → ReplayState → Type 0
IsOnWay false turns since s given now = RunsKept (take (given - since) (drop since turns)) s now
IsOnWay true turns since s given now = DriesKept (drop since turns) s now

-- a turn by its place behind the first so many
at_behind : (turns : List ℕ) (since given : ℕ) → since ≤ given → slice_get (drop since turns) (given - since) ≡ slice_get turns given
at_behind [] zero given le = refl
at_behind [] (suc since) given le = refl
at_behind (x ∷ xs) zero given le = let e : given - 0 ≡ given = omega arith in ap (slice_get (x ∷ xs)) e
at_behind (x ∷ xs) (suc since) zero le = absurd (omega (arith, le))
at_behind (x ∷ xs) (suc since) (suc given) le = let e : suc given - suc since ≡ given - since = omega arith in ap (slice_get (drop since xs)) e ∙ at_behind xs since given (omega (arith, le))

-- what holds between two turns of the loop: the order, what is left, and the replay with its marks
pub record IsGoing (threads : ℕ) (turns : Turns) (since : ℕ) (s : ReplayState) (o : OrderState) (now : ReplayState) (marks : List Mark) (dry : Bool) : Type 0 where
  pub order : IsOrderOf turns o
  pub same_threads : o.threads ≡ threads
  pub given : o.given ≤ length (schedule_of threads turns)
  pub behind : since ≤ o.given
  pub way : IsOnWay dry (schedule_of threads turns) since s o.given now
  pub replay : IsReplay now
  pub done : HaveDone o.given now
  pub beginning : now.yard.beginning ≡ s.yard.beginning
  pub number : length now.workers ≡ threads
  pub told : AreMarksOf marks now

-- so it is before the first of the turns that an order has left
pub going_first : (threads : ℕ) (turns : Turns) (s : ReplayState) (o : OrderState) (marks : List Mark) → IsOrderIn threads turns o → IsReplay s → HaveDone 0 s → length s.workers ≡ threads → AreMarksOf marks s
    → IsGoing threads turns o.given s o s marks false
going_first threads turns s o marks order replay none number told = record {
  order = order.order;
  same_threads = order.same_threads;
  given = order.given;
  behind = omega arith;
  way = let none : 0 ≡ o.given - o.given = omega arith in subst (λ (n : ℕ). RunsKept (take n (drop o.given (schedule_of threads turns))) s s) none refl;
  replay = replay;
  done = λ k c lt. let done = none k c lt in omega (arith, done);
  beginning = refl;
  number = number;
  told = told;
}

-- there are few turns, and there is a thread
few_by : (threads : ℕ) (turns : Turns) → AreTurns threads turns → turn_count turns ≤ 10000000
few_by threads (round_robin n) are = are
few_by threads (seeded seed n) are = are.1
few_by threads (listed named) are = are.1
few_by threads (live n) are = omega arith

few_turns : (threads : ℕ) (turns : Turns) → AreTurns threads turns → length (schedule_of threads turns) ≤ 10000000
few_turns threads turns are = let few = few_by threads turns are in let same = turn_count_law threads turns in omega (arith, few, same)

pub some_threads : (s : ReplayState) → IsReplay s → 0 < length s.workers
some_threads s replay =
    let number = replay.number in
    let views = replay.lawful.sized.views in
    let some = replay.lawful.bounds.beginning.settings.sizes.some_threads in
    omega (arith, number, views, some)

module _ (threads : ℕ) (turns : Turns) (since : ℕ) (s : ReplayState) (o : OrderState) (now : ReplayState) (marks : List Mark) where
  abbrev schedule : List ℕ
  schedule = schedule_of threads turns

  -- a worker has done no more than a turn may find
  pub going_few : (dry : Bool) → AreTurns threads turns → IsGoing threads turns since s o now marks dry → HaveDone 10000016 now
  going_few dry are going k c lt =
      let few = few_turns threads turns are in
      let given = going.given in
      let done = going.done k c lt in
      omega (arith, few, given, done)

  -- the next thread is one
  pub next_inside : (dry : Bool) (i : ℕ) → AreTurns threads turns → IsGoing threads turns since s o now marks dry → slice_get schedule o.given ≡ Some i → i < length now.workers
  next_inside dry i are going at =
      let some = some_threads now going.replay in
      let number = going.number in
      let named = threads_named_law threads turns (omega (arith, some, number)) are in
      let named_here : i < threads = subst (λ (k : ℕ). k < threads) (get_or_from_slice_get schedule o.given i i at) (named o.given i (slice_get_within schedule o.given i at)) in
      omega (arith, named_here, number)

  -- ONE TURN MORE.
  module _ (i : ℕ) (next : ReplayState) (going : IsGoing threads turns since s o now marks false) (at : slice_get schedule o.given ≡ Some i) (on : is_over_in now ≡ false) where
    at_here : slice_get (drop since schedule) (o.given - since) ≡ Some i
    at_here = at_behind schedule since o.given going.behind ∙ at

    way_on : (dry : Bool) → HasTurnOrDries dry i now next → IsReplay next → IsOnWay dry schedule since s (o.given + 1) next
    way_on false turn replay =
        let one : (o.given - since) + 1 ≡ (o.given + 1) - since = let le = going.behind in omega (arith, le) in
        subst (λ (n : ℕ). RunsKept (take n (drop since schedule)) s next) one (leads_on (drop since schedule) s (o.given - since) now going.way i at_here on next turn.0 turn.1 replay)
    way_on true refused replay = ends_dry (drop since schedule) s (o.given - since) now going.way i at_here on next refused

    pub goes_on : (p : OrderState) (more : List Mark) (dry : Bool) → IsOrderOf turns p → IsBehind (Some i) o p → HasTurnOrDries dry i now next → StaysReplay now next → AreMarksOf more next
        → IsGoing threads turns since s p next more dry
    goes_on p more dry order behind turn stays are = record {
      order = order;
      same_threads = behind.0 ∙ going.same_threads;
      given = let inside = slice_get_within schedule o.given i at in let one = behind.1 in omega (arith, inside, one);
      behind = let le = going.behind in let one = behind.1 in omega (arith, le, one);
      way = subst (λ (k : ℕ). IsOnWay dry schedule since s k next) (sym behind.1) (way_on dry turn stays.replay);
      replay = stays.replay;
      done = subst (λ (k : ℕ). HaveDone k next) (sym behind.1) (stays.done o.given going.done);
      beginning = stays.beginning ∙ going.beginning;
      number = stays.number ∙ going.number;
      told = are;
    }

  -- THE END: memory ran out, the life is over, or no turn is left.
  pub ran_dry : IsGoing threads turns since s o now marks true → RunsOrDries true (drop since schedule) s now
  ran_dry going = going.way

  pub ran_over : (dry : Bool) → IsGoing threads turns since s o now marks dry → is_over_in now ≡ true → RunsOrDries dry (drop since schedule) s now
  ran_over true going over = going.way
  ran_over false going over = ends_over (drop since schedule) s (o.given - since) now going.way over

  pub ran_spent : (dry : Bool) → IsGoing threads turns since s o now marks dry → slice_get schedule o.given ≡ None → RunsOrDries dry (drop since schedule) s now
  ran_spent true going none = going.way
  ran_spent false going none = ends_spent (drop since schedule) s (o.given - since) now going.way (at_behind schedule since o.given going.behind ∙ none)

  -- AS THE CODE HAS IT: what the order gives is read off the schedule of its own number of threads.
  given_at : (dry : Bool) → IsGoing threads turns since s o now marks dry → slice_get (schedule_of o.threads turns) o.given ≡ slice_get schedule o.given
  given_at dry going = ap (λ (n : ℕ). slice_get (schedule_of n turns) o.given) going.same_threads

  pub this_given : (dry : Bool) (i : ℕ) → IsGoing threads turns since s o now marks dry → Some i ≡ slice_get (schedule_of o.threads turns) o.given → slice_get schedule o.given ≡ Some i
  this_given dry i going is = sym (is ∙ given_at dry going)

  pub none_given : (dry : Bool) → IsGoing threads turns since s o now marks dry → None ≡ slice_get (schedule_of o.threads turns) o.given → slice_get schedule o.given ≡ None
  none_given dry going is = sym (is ∙ given_at dry going)
