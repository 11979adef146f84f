-- The quiet calls of a plain yard.
use Rattle.std.proofs.Common.{◌≡◌, ℕ, ◌+◌, ◌^◌, ◌≤◌, Bool, length, sym, refl, ap, ◌∙◌, subst, arith, Some, None, not, max, nat_le, ⊎_elim, ◌⊎◌, take, true, false}
use mathlib.Core.Option.{some}
use lib.ListN.{get_elem?}
use Rattle.restart_point.specs.declared.thread_end.ThreadEnd.{ThreadEnd}
use Rattle.restart_point.specs.ArrivalWord.{arrival_of}
use Rattle.yard_model.specs.declared.view.View.{View}
use Rattle.yard_model.specs.declared.view.Grip.{Grip}
use Rattle.yard_model.specs.Entries.{room_entries}
use Rattle.yard_model.specs.Beginnings.{sizes_at}
use Rattle.yard_model.specs.Views.{saw_power, looked, left_in, claimed}
use Rattle.yard_model.specs.Conditions.{MayTick, MayLeave, MayClaim}
use Rattle.yard_model.specs.Steps.{with_bit, without_bit}
use Rattle.room_yard.specs.Told.{IsTold}
use Rattle.room_yard.specs.Calls.{MayTryStand, MayTryLeave, MayTryClaim, ForbidsLeave, ForbidsClaim, AllowsLeave, AllowsClaim}
use Rattle.room_yard.specs.Answers.{TurnedOff, Ticked, SawPower, Stood, StandIsRefused, HasLeft, LeaveRests, Claimed, ClaimRests, FoundForbidden, MetAnother}
use Rattle.room_yard.proofs.Told.{off_answers, tick_answers, power_answers, stand_answers, leave_answers, leave_rest_answers, claim_answers, claim_rest_answers}
use Rattle.room_yard.proofs.Words.{leave_is_decided, claim_is_decided}
use Rattle.plain_yard.specs.declared.seat.Holding.{Holding}
use Rattle.plain_yard.specs.declared.seat.Seat.{Seat}
use Rattle.plain_yard.specs.declared.yard.PlainYard.TheInside.{Inside}
use Rattle.plain_yard.specs.Seats.{off_seat, tick_seat, power_seat, look_seat, run_seat, stand_seat, close_seat}
use Rattle.plain_yard.specs.Shown.{ShownYard, view_at, IsThread}
use Rattle.plain_yard.specs.Meaning.{entries_in, grip_in, position_in}
use Rattle.plain_yard.specs.Kept.{told_in, shown_yard, IsKeptYard}
use Rattle.plain_yard.proofs.Fields.{view_of_seat, view_is, told_here as told_of, seat_places, seat_held}
use Rattle.plain_yard.proofs.Steps.{quiet, quiet_yard, IsDone, OfSeat as KeepsSeat}

module _ (p : Inside) (y : ShownYard) (is : shown_yard p ≡ y) (kept : IsKeptYard p) (i : ℕ) (thread : IsThread y i) (s : Seat) (at : get_elem? p.seats.items i ≡ some s) where
  abbrev v : View
  v = view_of_seat p i s

  told_here : IsTold (Some (told_in p)) v
  told_here = told_of p kept i s at

  abbrev OfSeat : Seat → Type 0
  OfSeat r = KeepsSeat p r

  of_seat : OfSeat s
  of_seat = (seat_places p kept i s at, seat_held p kept i s at)

  -- a rest at which both looks found the same is one look
  rest_view : (w : View) (F M : Type 0) → FoundForbidden v (record { found = p.arrival; met = p.arrival }) F w ⊎ MetAnother v (record { found = p.arrival; met = p.arrival }) M w → w ≡ looked v 2 p.arrival
  rest_view w F M cause = ⊎_elim (λ (f : FoundForbidden v (record { found = p.arrival; met = p.arrival }) F w). f.view) (λ (m : MetAnother v (record { found = p.arrival; met = p.arrival }) M w). absurd (m.other refl)) cause

  module _ (r : Seat) (t : ℕ × ℕ) where
    abbrev view_now : Seat → View
    view_now q = view_of_seat p i q

    pub off_done : r ≡ off_seat s → t ≡ (max p.tick (2 ^ 63), p.arrival) → IsDone TurnedOff y i (quiet_yard p i r t)
    off_done e same = let a = off_answers (told_in p) v told_here in
        quiet TurnedOff p y is kept i thread s at r t (max p.tick (2 ^ 63), p.arrival) same a.0 (ap view_now e ∙ sym a.3.view) a.1 a.3.world (a.2, a.3) (subst OfSeat (sym e) of_seat)

    pub tick_done : MayTick (view_at y i) → r ≡ tick_seat s → t ≡ (p.tick + 1, p.arrival) → IsDone Ticked y i (quiet_yard p i r t)
    tick_done may e same = let a = tick_answers (told_in p) v told_here (subst (λ (z : View). MayTick z) (view_is p y is i thread s at) may) in
        quiet Ticked p y is kept i thread s at r t (p.tick + 1, p.arrival) same a.0 (ap view_now e ∙ sym a.3.view) a.1 a.3.world (a.2, a.3) (subst OfSeat (sym e) of_seat)

    pub power_done : (on : Bool) → on ≡ not (nat_le p.beginning.limit p.tick) → r ≡ power_seat (nat_le p.beginning.limit p.tick) s → t ≡ (p.tick, p.arrival) → IsDone (λ v t w u. SawPower v t on w u) y i (quiet_yard p i r t)
    power_done on is_on e same = let a = power_answers (told_in p) v told_here in
        quiet (λ v t w u. SawPower v t on w u) p y is kept i thread s at r t (p.tick, p.arrival) same a.0 (ap view_now e ∙ (ap (saw_power v) (sym a.3.world.0) ∙ sym a.3.view)) a.1 a.3.world.1
        (a.2, subst (λ (c : Bool). SawPower v (Some (told_in p)) c a.0 (Some a.1)) (sym is_on) a.3) (subst OfSeat (sym e) of_seat)

    pub stand_done : MayTryStand (view_at y i) → s.holding ≡ None → r ≡ stand_seat s → t ≡ (p.tick, with_bit p.arrival i) → IsDone Stood y i (quiet_yard p i r t)
    stand_done may free e same = let none : v.grip ≡ None = ap (grip_in p.beginning (entries_in p.log.items)) free in
        let a = stand_answers (told_in p) v told_here (subst (λ (z : View). MayTryStand z) (view_is p y is i thread s at) may) none in
        quiet Stood p y is kept i thread s at r t (p.tick, with_bit p.arrival i) same a.0 (ap view_now e ∙ sym a.3.view) a.1 a.3.world (a.2, a.3) (subst OfSeat (sym e) of_seat)

    module _ (end : ThreadEnd) (may : MayTryLeave (view_at y i) end) where
      leave_here : MayTryLeave v end
      leave_here = subst (λ (z : View). MayTryLeave z end) (view_is p y is i thread s at) may

      pub leave_done : AllowsLeave end s.ran p.arrival → (epoch : ℕ) → epoch ≡ (arrival_of p.arrival).epoch → r ≡ run_seat (arrival_of p.arrival).epoch p.beginning.settings.every (look_seat 2 p.arrival s) → t ≡ (p.tick, without_bit p.arrival i)
          → IsDone (λ v t w u. HasLeft v t end epoch w u) y i (quiet_yard p i r t)
      leave_done go epoch is_epoch e same =
          let m : MayLeave v end p.arrival = record { on = leave_here.on; phase = leave_here.phase; not_ended = leave_here.not_ended; next = leave_here.next; not_closing = go.not_closing; not_over = go.not_over; later = go.later; allowed = go.allowed } in
          let a = leave_answers (told_in p) v end told_here m in
          quiet (λ v t w u. HasLeft v t end epoch w u) p y is kept i thread s at r t (p.tick, without_bit p.arrival i) same a.0 (ap view_now e ∙ ((λ j. left_in (looked v 2 (sym a.3.world.0 j)) (arrival_of p.arrival).epoch) ∙ sym a.3.view)) a.1 a.3.world.1
          (a.2, subst (λ (n : ℕ). HasLeft v (Some (told_in p)) end n a.0 (Some a.1)) (sym is_epoch) a.3) (subst OfSeat (sym e) of_seat)

      pub leave_rests : (AllowsLeave end s.ran p.arrival → ⊥) → r ≡ look_seat 2 p.arrival s → t ≡ (p.tick, p.arrival) → IsDone (λ v t w u. LeaveRests v t end (record { found = p.arrival; met = p.arrival }) w u) y i (quiet_yard p i r t)
      leave_rests stays e same =
          let f : ForbidsLeave v end p.arrival = ⊎_elim (λ (m : MayLeave v end p.arrival). absurd (stays (record { not_closing = m.not_closing; not_over = m.not_over; later = m.later; allowed = m.allowed }))) (λ (f : ForbidsLeave v end p.arrival). f) (leave_is_decided v end p.arrival leave_here) in
          let a = leave_rest_answers (told_in p) v end told_here f in
          quiet (λ v t w u. LeaveRests v t end (record { found = p.arrival; met = p.arrival }) w u) p y is kept i thread s at r t (p.tick, p.arrival) same a.0 (ap view_now e ∙ sym (rest_view a.0 (ForbidsLeave v end p.arrival) (MayLeave v end p.arrival) a.3.cause)) a.1 a.3.world.2 (a.2, a.3) (subst OfSeat (sym e) of_seat)

    module _ (may : MayTryClaim (view_at y i)) where
      claim_here : MayTryClaim v
      claim_here = subst (λ (z : View). MayTryClaim z) (view_is p y is i thread s at) may

      pub claim_done : AllowsClaim p.beginning.settings.threads s.ran p.arrival → r ≡ close_seat (look_seat 2 p.arrival s) → t ≡ (p.tick, with_bit p.arrival 16) → IsDone Claimed y i (quiet_yard p i r t)
      claim_done go e same =
          let m : MayClaim v p.arrival = record { on = claim_here.on; phase = claim_here.phase; few_checkpoints = claim_here.few_checkpoints; all_stand = go.all_stand; not_closing = go.not_closing; not_over = go.not_over; epoch = go.epoch } in
          let a = claim_answers (told_in p) v told_here m in
          quiet Claimed p y is kept i thread s at r t (p.tick, with_bit p.arrival 16) same a.0 (ap view_now e ∙ ((λ j. claimed (looked v 2 (sym a.3.world.0 j))) ∙ sym a.3.view)) a.1 a.3.world.1 (a.2, a.3)
          (subst OfSeat (sym e) ((of_seat.0.0, omega arith), of_seat.1))

      pub claim_rests : (AllowsClaim p.beginning.settings.threads s.ran p.arrival → ⊥) → r ≡ look_seat 2 p.arrival s → t ≡ (p.tick, p.arrival) → IsDone (λ v t w u. ClaimRests v t (record { found = p.arrival; met = p.arrival }) w u) y i (quiet_yard p i r t)
      claim_rests stays e same =
          let f : ForbidsClaim v p.arrival = ⊎_elim (λ (m : MayClaim v p.arrival). absurd (stays (record { all_stand = m.all_stand; not_closing = m.not_closing; not_over = m.not_over; epoch = m.epoch }))) (λ (f : ForbidsClaim v p.arrival). f) (claim_is_decided v p.arrival claim_here) in
          let a = claim_rest_answers (told_in p) v told_here f in
          quiet (λ v t w u. ClaimRests v t (record { found = p.arrival; met = p.arrival }) w u) p y is kept i thread s at r t (p.tick, p.arrival) same a.0 (ap view_now e ∙ sym (rest_view a.0 (ForbidsClaim v p.arrival) (MayClaim v p.arrival) a.3.cause)) a.1 a.3.world.2 (a.2, a.3) (subst OfSeat (sym e) of_seat)

  pub few_ticks : MayTick (view_at y i) → s.ticks ≤ 4294967296
  few_ticks may = let m = (subst (λ (z : View). MayTick z) (view_is p y is i thread s at) may).few in omega (arith, m)

  -- a room that is held forbids to stand
  pub stand_refused : (k : Holding) → s.holding ≡ Some k → StandIsRefused (view_at y i) (Some y.told) (record { room = k.room }) (view_at y i) (Some y.told)
  stand_refused k held = record { holds = (grip_of k, ap (λ (z : View). z.grip) (view_is p y is i thread s at) ∙ ap (grip_in p.beginning (entries_in p.log.items)) held, refl); view = refl; world = refl }
    where
      grip_of : Holding → Grip
      grip_of k = record { room = k.room; history = room_entries (sizes_at p.beginning) k.room (take k.before (entries_in p.log.items)); covered = length (room_entries (sizes_at p.beginning) k.room (take k.covered (entries_in p.log.items))); position = position_in k.position; drawn = k.drawn }

pub no : true ≡ false → ⊥
no e = absurd (cc)
