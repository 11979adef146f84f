-- The rows of a thread that stands.
use Rattle.std.proofs.Common.{◌≡◌, ◌≢◌, ℕ, ◌-◌, ◌⊎◌, inl, inr, true, false, List, Option, Some, None, Ok, refl, sym, ap, ◌∙◌, subst, arith}
use Rattle.std.specs.Prelude.{slice_index}
use Rattle.seq_object.specs.declared.settings.Settings.{Settings}
use Rattle.restart_point.specs.declared.thread_end.ThreadEnd.{ThreadEnd}
use Rattle.restart_point.specs.declared.thread_end.ThreadEnd.TheVariants.{Ready, Waits, Ended}
use Rattle.restart_point.specs.ArrivalWord.{arrival_of, AllStand}
use Rattle.block_allow.specs.Verdicts.{leaves}
use Rattle.rooms.specs.declared.room.Room.{Room}
use Rattle.yard_model.specs.declared.view.Phase.TheVariants.{Standing, Running, Closing}
use Rattle.yard_model.specs.declared.view.Beginning.{Beginning}
use Rattle.yard_model.specs.declared.view.View.{View}
use Rattle.yard_model.specs.Beginnings.{epoch_now}
use Rattle.yard_model.specs.Conditions.{MayLeave, MayClaim}
use Rattle.yard_model.specs.Views.{looked, left_in, claimed}
use Rattle.yard_model.specs.World.{ViewIs, arrival}
use Rattle.room_yard.specs.declared.answers.Rest.{Rest}
use Rattle.room_yard.specs.Told.{Told}
use Rattle.room_yard.specs.Calls.{ForbidsLeave, ForbidsClaim}
use Rattle.room_yard.specs.Answers.{FoundForbidden, MetAnother, LeaveRests}
use Rattle.plain_yard.specs.Shown.{view_at}
use Rattle.coordinator.specs.Closers.{new_closer}
use Rattle.worker_model.specs.declared.hand.Hand.{Hand}
use Rattle.worker_model.specs.declared.hand.Hand.TheVariants.{Empty, Closes}
use Rattle.worker_model.specs.declared.hand.Turn.{Turn}
use Rattle.worker_model.specs.declared.hand.Turn.TheVariants.{Did, Rested, Waited, Over}
use Rattle.worker_model.specs.Workers.{WorkerState, IsWorker, ahead}
use Rattle.worker_model.specs.Turns.{Leaves, FindsOver, RestsAndClaims, ClaimsBy, Claims, Rests, GoesOnStanding, shows_over}
use Rattle.replay_model.specs.Replays.{ReplayState, is_over_in}
use Rattle.rounds.specs.Progress.{AtPoint, OnClosing}
use Rattle.rounds.specs.Events.{LeavesPoint, ClaimsClosing}
use Rattle.yard_progress.specs.Shown.{RefusesLeave, RefusesClaim}
use Rattle.yard_progress.proofs.Rests.{rest_shown}
use Rattle.replay_progress.specs.Shown.{activity_of, activity_in, activities_of, end_told, ends_of, room_in, GoesOnRight}
use Rattle.replay_progress.specs.Laws.{HandsShownLaw}
use Rattle.replay_progress.proofs.TurnRooms.{viewed, IsTurn, keeps_rooms}
use Rattle.replay_progress.proofs.TurnShown.{next_in}
use Rattle.replay_progress.proofs.TurnKept.{going_moves, going_rests}
use Rattle.replay_progress.proofs.TurnMakes.{fields_of, Shows, same_but, running_moves, closing_moves, on_before, next_here, Behind, rise, calm_event, rests}

-- from one state to the next there were looks at most
record OnlyLooked (a b : Told) (v m : View) : Type 0 where
  pub words : b.world.words ≡ a.world.words
  pub rooms : b.world.rooms ≡ a.world.rooms
  pub history : b.history ≡ a.history
  pub checkpoints : b.checkpoints ≡ a.checkpoints
  pub phase : m.phase ≡ v.phase
  pub ran : m.ran ≡ v.ran
  pub saw_off : m.saw_off ≡ v.saw_off
  pub beginning : m.beginning ≡ v.beginning

no_look : (a : Told) (v : View) → OnlyLooked a a v v
no_look a v = record { words = refl; rooms = refl; history = refl; checkpoints = refl; phase = refl; ran = refl; saw_off = refl; beginning = refl }

-- what forbids a claim, by what a view says of it
abbrev ForbidsAt : Beginning → ℕ → ℕ → Type 0
ForbidsAt b ran word = (AllStand (arrival_of word).mask b.settings.threads → ⊥)
    ⊎ (((arrival_of word).closing ≡ true) ⊎ (((arrival_of word).over ≡ true) ⊎ ((arrival_of word).epoch ≢ ran)))

module _ (i : ℕ) (s s' : ReplayState) (c d : WorkerState) (turn : IsTurn i s s' c d) (right : GoesOnRight s)
    (hand_is : c.hand ≡ Empty) (phase : (view_at s.yard i).phase ≡ Standing) (goes_on : is_over_in s ≡ false) (hands : HandsShownLaw) where
  abbrev v : View
  v = view_at s.yard i

  abbrev u : View
  u = view_at s'.yard i

  abbrev word : ℕ
  word = arrival s.yard.told.world

  worker : IsWorker c v
  worker = turn.before.workers i c turn.is_worker

  at : ViewIs s.yard.told.world i v
  at = viewed s turn.before i c turn.is_worker

  about : activity_of c.hand v.phase ≡ AtPoint
  about = λ k. activity_of (hand_is k) (phase k)

  none_ahead : ahead c.hand ≡ 0
  none_ahead = ap ahead hand_is

  epoch_shown : (arrival_of word).epoch ≡ epoch_now s.yard.beginning s.yard.told.checkpoints
  epoch_shown = turn.before.lawful.arrival.word.epoch

  -- the word does not show that the life is over
  never_over : (met : ℕ) → met ≡ word → shows_over met ≡ true → ⊥
  never_over met same over = let q : true ≡ false = sym over ∙ (ap shows_over same ∙ goes_on) in grind arith

  none_in : (hand : Hand) → room_in hand ≡ None → d.hand ≡ hand → (z : Room) → room_in d.hand ≡ Some z → ⊥
  none_in hand none is z has = let q : None ≡ Some z = sym none ∙ (sym (ap room_in is) ∙ has) in cc

  -- IT LEAVES.
  leaves_now : (answer : Turn) → Leaves c v (Some s.yard.told) (Ok answer) d u (Some s'.yard.told) → Shows i s s' right
  leaves_now answer does =
      calm_event i s s' c d turn right history checkpoints (ap (λ (o : View). o.saw_off) view ∙ on_before i s s' c d turn right)
      (going_moves i s s' c d turn (running_moves u.phase running)) (ap (λ (o : WorkerState). o.end) does.worker)
      (keeps_rooms i s s' c d turn (ap (λ (t : Told). t.world.rooms) does.left.world.1) (none_in Empty refl hand_now))
      LeavesPoint (
        about,
        let e = worker.fits.epoch in let l = may.later in let n = epoch_shown in omega (arith, e, l, n),
        ap (leaves c.end) (sym turn.before.lawful.arrival.word.fed) ∙ may.allowed,
        sym turn.before.lawful.arrival.word.over ∙ may.not_over,
      )
      behind refl
    where
      view : u ≡ left_in (looked v 2 does.left.found) does.epoch
      view = does.left.view

      history : s'.yard.told.history ≡ s.yard.told.history
      history = ap (λ (t : Told). t.history) does.left.world.1

      checkpoints : s'.yard.told.checkpoints ≡ s.yard.told.checkpoints
      checkpoints = ap (λ (t : Told). t.checkpoints) does.left.world.1

      running : u.phase ≡ Running
      running = ap (λ (o : View). o.phase) view

      hand_now : d.hand ≡ Empty
      hand_now = ap (λ (o : WorkerState). o.hand) does.worker

      may : MayLeave v c.end word
      may = subst (MayLeave v c.end) does.left.world.0 does.left.allowed

      behind : Behind i s s' c d turn right LeavesPoint
      behind =
          let now = ap fields_of does.worker in
          let epoch : does.epoch ≡ epoch_now s.yard.beginning s.yard.told.checkpoints = does.left.shown ∙ (ap (λ (n : ℕ). (arrival_of n).epoch) does.left.world.0 ∙ epoch_shown) in
          let known : c.settings.every ≡ s.yard.beginning.settings.every = ap (λ (z : Settings). z.every) worker.fits.settings ∙ ap (λ (b : Beginning). b.settings.every) (turn.before.lawful.sized.beginnings i v at) in
          let every : c.settings.every - 0 ≡ s.yard.beginning.settings.every = omega (arith, known) in
          λ k. record {
            activity = activity_of (hand_now k) (running k);
            ran = ((λ j. (now j).0) ∙ epoch) k;
            quota = ((λ j. (now j).1) ∙ every) k;
            wrote = (now k).2;
            found_empty = (now k).3;
            next = next_here i s s' c d turn right history checkpoints k;
            end = (now k).4;
          }

  -- IT CLAIMS, or the claim rests too.
  module _ (m : View) (t : Told) (looks : OnlyLooked s.yard.told t v m) where
    same_word : arrival t.world ≡ word
    same_word = ap (λ (ws : List ℕ). slice_index ws 2) looks.words

    claims : Claims c m (Some t) d u (Some s'.yard.told) → Shows i s s' right
    claims does =
        calm_event i s s' c d turn right history checkpoints (ap (λ (o : View). o.saw_off) view ∙ (looks.saw_off ∙ on_before i s s' c d turn right))
        (going_moves i s s' c d turn (closing_moves u.phase closing)) (ap (λ (o : WorkerState). o.end) does.worker)
        (keeps_rooms i s s' c d turn (ap (λ (o : Told). o.world.rooms) does.claimed.world.1 ∙ looks.rooms) (none_in (Closes (new_closer c.settings)) refl hand_now))
        ClaimsClosing
        (about, worker.fits.epoch ∙ (sym looks.ran ∙ (sym does.claimed.allowed.epoch ∙ (ap (λ (n : ℕ). (arrival_of n).epoch) (does.claimed.world.0 ∙ same_word) ∙ epoch_shown))))
        (same_but c d v.phase u.phase (next_in s i) (next_in s' i) (OnClosing 0 0) fields (next_here i s s' c d turn right history checkpoints) (ap (λ (o : WorkerState). activity_of o.hand u.phase) does.worker)) refl
      where
        view : u ≡ claimed (looked m 2 does.claimed.found)
        view = does.claimed.view

        history : s'.yard.told.history ≡ s.yard.told.history
        history = ap (λ (o : Told). o.history) does.claimed.world.1 ∙ looks.history

        checkpoints : s'.yard.told.checkpoints ≡ s.yard.told.checkpoints
        checkpoints = ap (λ (o : Told). o.checkpoints) does.claimed.world.1 ∙ looks.checkpoints

        closing : u.phase ≡ Closing
        closing = ap (λ (o : View). o.phase) view

        hand_now : d.hand ≡ Closes (new_closer c.settings)
        hand_now = ap (λ (o : WorkerState). o.hand) does.worker

        fields : fields_of d ≡ fields_of c
        fields = ap fields_of does.worker ∙ (λ k. (c.epoch, c.quota - sym none_ahead k, c.wrote, c.found_empty, c.end))

    module _ (leave : (c.end ≡ Ended) ⊎ RefusesLeave v c.end word) where
      claim_rests : (rest : Rest) → Rests rest false c m (Some t) d u (Some s'.yard.told) → Shows i s s' right
      claim_rests rest does = by does.rests.cause
        where
          by : FoundForbidden m rest (ForbidsClaim m rest.found) u ⊎ MetAnother m rest (MayClaim m rest.found) u → Shows i s s' right
          by (inr other) = absurd (other.other (does.rests.world.1 ∙ sym does.rests.world.0))
          by (inl found) =
              let claim : RefusesClaim v word = subst (λ (p : Beginning × ℕ × ℕ). ForbidsAt p.0 p.1 p.2)
              (λ k. (looks.beginning k, looks.ran k, (does.rests.world.0 ∙ same_word) k)) found.forbidden in
              let ends : c.end ≡ ends_of s i = ap end_told (sym turn.is_worker) in
              let may_not : (ends_of s i ≡ Ended) ⊎ RefusesLeave v (ends_of s i) word = subst (λ (e : ThreadEnd). (e ≡ Ended) ⊎ RefusesLeave v e word) ends leave in
              let here : activities_of s i ≡ AtPoint = ap (λ (o : Option WorkerState). activity_in o v.phase) turn.is_worker ∙ about in
              let history : s'.yard.told.history ≡ s.yard.told.history = ap (λ (o : Told). o.history) does.rests.world.2 ∙ looks.history in
              let checkpoints : s'.yard.told.checkpoints ≡ s.yard.told.checkpoints = ap (λ (o : Told). o.checkpoints) does.rests.world.2 ∙ looks.checkpoints in
              let rooms : s'.yard.told.world.rooms ≡ s.yard.told.world.rooms = ap (λ (o : Told). o.world.rooms) does.rests.world.2 ∙ looks.rooms in
              let stands : u.phase ≡ v.phase = ap (λ (o : View). o.phase) found.view ∙ looks.phase in
              let hand_now : d.hand ≡ c.hand = ap (λ (o : WorkerState). o.hand) does.worker in
              rests i s s' c d turn right history checkpoints (ap (λ (o : View). o.saw_off) found.view ∙ (looks.saw_off ∙ on_before i s s' c d turn right))
              (going_rests i s s' c d turn right (ap (λ (o : View). o.ran) found.view ∙ looks.ran) rooms history checkpoints) (ap (λ (o : WorkerState). o.end) does.worker)
              (keeps_rooms i s s' c d turn rooms (none_in Empty refl (hand_now ∙ hand_is)))
              (same_but c d v.phase u.phase (next_in s i) (next_in s' i) (activity_of c.hand v.phase) (ap fields_of does.worker) (next_here i s s' c d turn right history checkpoints)
              (λ k. activity_of (hand_now k) (stands k)))
              (rest_shown s.yard.beginning s.yard.told.world s.yard.told.history s.yard.told.checkpoints (activities_of s) (ends_of s) (rise i s s' c d turn right) i v
              turn.before.lawful (hands s turn.before right) at here may_not claim)

      claims_by : (answer : Turn) → ClaimsBy (Ok answer) c m (Some t) d u (Some s'.yard.told) → Shows i s s' right
      claims_by Did does = claims does
      claims_by (Rested rest) does = claim_rests rest does
      claims_by (Waited held) does = absurd does
      claims_by Over does = absurd (never_over does.0.met (does.1.rests.world.1 ∙ same_word) does.1.shown)

  rests_and_claims : (answer : Turn) (m : View) (t : Option Told) (rest : Rest) → LeaveRests v (Some s.yard.told) c.end rest m t → ClaimsBy (Ok answer) c m t d u (Some s'.yard.told) → Shows i s s' right
  rests_and_claims answer m None rest is does = absurd is.world
  rests_and_claims answer m (Some t) rest is does = by is.cause
    where
      by : FoundForbidden v rest (ForbidsLeave v c.end rest.found) m ⊎ MetAnother v rest (MayLeave v c.end rest.found) m → Shows i s s' right
      by (inr other) = absurd (other.other (is.world.1 ∙ sym is.world.0))
      by (inl found) =
          let looks : OnlyLooked s.yard.told t v m = record {
            words = ap (λ (o : Told). o.world.words) is.world.2;
            rooms = ap (λ (o : Told). o.world.rooms) is.world.2;
            history = ap (λ (o : Told). o.history) is.world.2;
            checkpoints = ap (λ (o : Told). o.checkpoints) is.world.2;
            phase = ap (λ (o : View). o.phase) found.view;
            ran = ap (λ (o : View). o.ran) found.view;
            saw_off = ap (λ (o : View). o.saw_off) found.view;
            beginning = ap (λ (o : View). o.beginning) found.view;
          } in
          claims_by m t looks (inr (subst (ForbidsLeave v c.end) is.world.0 found.forbidden)) answer does

  may_leave : (answer : Turn) → Leaves c v (Some s.yard.told) (Ok answer) d u (Some s'.yard.told)
      ⊎ (FindsOver c v (Some s.yard.told) (Ok answer) d u (Some s'.yard.told) ⊎ RestsAndClaims c v (Some s.yard.told) (Ok answer) d u (Some s'.yard.told)) → Shows i s s' right
  may_leave answer (inl does) = leaves_now answer does
  may_leave answer (inr (inl does)) = absurd (never_over does.rest.met does.rests.world.1 does.shown)
  may_leave answer (inr (inr does)) = rests_and_claims answer does.between does.told does.rest does.rests does.claims

  pub standing_shown : (end : ThreadEnd) (answer : Turn) → c.end ≡ end → GoesOnStanding end c v (Some s.yard.told) (Ok answer) d u (Some s'.yard.told) → Shows i s s' right
  standing_shown Ended answer is does = claims_by v s.yard.told (no_look s.yard.told v) (inl is) answer does
  standing_shown Ready answer is does = may_leave answer does
  standing_shown Waits answer is does = may_leave answer does
