-- Each turn of a replay that goes on right is a turn of its progress, by the first row of the table that applies.
use Rattle.std.proofs.Common.{◌≡◌, ℕ, Bool, false, set, Some, Ok, refl, ap, ◌∙◌, subst, arith}
use Rattle.std.specs.Prelude.{nat_lt}
use Rattle.std.proofs.lemmas.Option.{slice_get_within}
use Rattle.yard_model.specs.declared.view.Phase.{Phase}
use Rattle.yard_model.specs.declared.view.Phase.TheVariants.{Standing, Running, Closing}
use Rattle.yard_model.specs.declared.view.View.{View}
use Rattle.room_in_hand.specs.Working.{stores_left}
use Rattle.plain_yard.specs.Shown.{view_at, IsThread}
use Rattle.plain_yard.proofs.Told.{tells}
use Rattle.worker_model.specs.declared.hand.Hand.{Hand}
use Rattle.worker_model.specs.declared.hand.Hand.TheVariants.{Empty, Commands, Drawn, NoItem, Own, Closes, Refused}
use Rattle.worker_model.specs.declared.hand.Turn.{Turn}
use Rattle.worker_model.specs.Workers.{WorkerState}
use Rattle.worker_model.specs.Turns.{may_command, WithNothing, WithHand, TakesTurn}
use Rattle.replay_model.specs.Replays.{ReplayState, TurnOf, is_over_in}
use Rattle.replay_model.specs.Kept.{IsReplay}
use Rattle.replay_laws.proofs.Keeps.{turn_sets_own_view, number_at}
use Rattle.replay_progress.specs.Shown.{GoesOnRight}
use Rattle.replay_progress.specs.Laws.{TurnIsShownLaw}
use Rattle.replay_progress.proofs.Hands.{hands_shown}
use Rattle.replay_progress.proofs.TurnRooms.{IsTurn}
use Rattle.replay_progress.proofs.TurnMakes.{Shows}
use Rattle.replay_progress.proofs.TurnHeld.{command_shown, drawn_shown, no_item_shown, own_shown}
use Rattle.replay_progress.proofs.TurnEmpty.{empty_shown}
use Rattle.replay_progress.proofs.TurnStanding.{standing_shown}
use Rattle.replay_progress.proofs.TurnClosing.{closing_shown}

module _ (i : ℕ) (s s' : ReplayState) (answer : Turn) (was : IsReplay s) (right : GoesOnRight s) (goes_on : is_over_in s ≡ false)
    (turn : TurnOf i s (Ok answer) s') (is : IsReplay s') where
  abbrev v : View
  v = view_at s.yard i

  abbrev u : View
  u = view_at s'.yard i

  abbrev c : WorkerState
  c = turn.worker

  thread : IsThread s.yard i
  thread = let lt = slice_get_within s.workers i c turn.is_worker in let n = was.number in omega (arith, lt, n)

  two : IsTurn i s s' c turn.behind
  two = record {
    before = was;
    behind = is;
    is_worker = turn.is_worker;
    workers = turn.workers;
    beginning = turn.beginning;
    views = turn_sets_own_view c turn.behind v u (Some s.yard.told) (Some s'.yard.told) (Ok answer) (tells s.yard i was.lawful thread) turn.does
        ∙ ap (λ (k : ℕ). set s.yard.told.world.views k u) (number_at s.yard i was.lawful thread);
  }

  by_phase : c.hand ≡ Empty → (phase : Phase) → v.phase ≡ phase → WithNothing phase c v (Some s.yard.told) (Ok answer) turn.behind u (Some s'.yard.told) → Shows i s s' right
  by_phase hand_is Standing phase_is does = standing_shown i s s' c turn.behind two right hand_is phase_is goes_on hands_shown c.end answer refl does
  by_phase hand_is Running phase_is does = empty_shown i s s' c turn.behind two right hand_is phase_is hands_shown (may_command c) c.wrote answer refl does
  by_phase hand_is Closing phase_is does = absurd does

  by_hand : (hand : Hand) → c.hand ≡ hand → WithHand hand c v (Some s.yard.told) (Ok answer) turn.behind u (Some s'.yard.told) → Shows i s s' right
  by_hand Empty hand_is does = by_phase hand_is v.phase refl does
  by_hand (Commands reply x) hand_is does = command_shown i s s' c turn.behind two right (Ok answer) (nat_lt 0 (stores_left x)) reply x hand_is refl does
  by_hand (Drawn x) hand_is does = drawn_shown i s s' c turn.behind two right (Ok answer) x hand_is does
  by_hand (NoItem x) hand_is does = no_item_shown i s s' c turn.behind two right (Ok answer) x hand_is does
  by_hand (Own x) hand_is does = own_shown i s s' c turn.behind two right (Ok answer) (nat_lt 0 (stores_left x)) x hand_is refl does
  by_hand (Closes closer) hand_is does = closing_shown i s s' c turn.behind two right closer hand_is (Ok answer) does
  by_hand (Refused x) hand_is does = absurd does

  -- the power is on
  on : v.saw_off ≡ false
  on = right.on i (slice_get_within s.workers i c turn.is_worker)

  shown : Shows i s s' right
  shown = by_hand c.hand refl (subst (λ (off : Bool). TakesTurn off c v (Some s.yard.told) (Ok answer) turn.behind u (Some s'.yard.told)) on turn.does)

pub turn_is_shown : TurnIsShownLaw
turn_is_shown i s s' answer was right goes_on turn is = shown i s s' answer was right goes_on turn is
