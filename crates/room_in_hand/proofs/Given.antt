-- What lock gives is in hand.
use Rattle.std.proofs.Common.{◌≡◌, ℕ, ◌+◌, ◌<◌, ◌&&◌, Bool, true, false, cond, None, Some, List, length, refl, ap, sym, ◌∙◌, subst, arith, append-nil, rules, ◌*◌}
use Rattle.std.specs.Prelude.{nat_lt}
use Rattle.std.proofs.lemmas.Bool.{le-ltb}
use Rattle.seq_object.specs.declared.history.Noted.{Noted}
use Rattle.seq_object.specs.declared.sizes.Sizes.{Sizes}
use Rattle.seq_object.specs.Sizes.{super_room}
use Rattle.room_model.specs.Chains.{RoomWords}
use Rattle.room_model.specs.MapRoom.{live_layout}
use Rattle.room_model.specs.Rooms.{StandsFor, point_in}
use Rattle.incll_var.specs.declared.state.CellState.{CellState}
use Rattle.incll_var.specs.declared.state.CellState.TheVariants.{Torn, Running, Closing, Saved}
use Rattle.incll_var.specs.Cells.{IsTorn}
use Rattle.room_model.specs.EpochLine.{epoch_line}
use Rattle.epoch_word.specs.declared.stage.EpochStage.TheVariants.{Before}
use Rattle.epoch_word.proofs.Epochs.{none_loaded}
use Rattle.rooms.specs.declared.room.Room.{Room}
use Rattle.rooms.specs.declared.room.Room.TheVariants.{Super}
use Rattle.rooms.specs.Rooms.{state_of, words_of, history_of, loads, HasCells}
use Rattle.yard_model.specs.declared.view.TakenPosition.{TakenPosition}
use Rattle.yard_model.specs.declared.view.View.{View}
use Rattle.yard_model.specs.Knows.{sizes_known}
use Rattle.yard_model.specs.Homes.{IsFreeState, free_bound, position_bound}
use Rattle.yard_model.specs.Views.{grip_on, gripped, taken_position, is_thread_room}
use Rattle.yard_model.specs.Conditions.{behind, IsGiven}
use Rattle.room_in_hand.specs.Known.{Knowledge, knows}
use Rattle.room_in_hand.specs.InHand.{resting, KeepsRoom, IsResting, IsWritingEpoch, IsInHand}
use Rattle.room_in_hand.specs.Laws.{IsOfItsType, GivenRestsLaw, GivenEpochLaw}
use Rattle.room_in_hand.proofs.Moves.{rests_by_loads, below_super, le_false}

-- free cells are not torn
pub free_whole : (epoch : ℕ) (done : Bool) (state : CellState) → IsFreeState epoch done state → IsTorn state → ⊥
free_whole epoch done (Torn c) free torn = free
free_whole epoch done (Running c) free torn = torn
free_whole epoch done (Closing c) free torn = torn
free_whole epoch done (Saved c) free torn = torn

-- what is known of a position that was taken, where one was
taken_is : (b : Bool) (p t : TakenPosition) → cond b (Some p) None ≡ Some t → t ≡ p
taken_is true p t is = search rules
taken_is false p t is = absurd (cc)

-- of a room of commands no position is taken
none_taken : (a b : Bool) (p : TakenPosition) → a ≡ false → cond (a && b) (Some p) None ≡ None
none_taken a b p is = ap (λ (c : Bool). cond (c && b) (Some p) None) is

module _ (v : View) (r : ℕ) (x : Room) (covered : ℕ) (of_type : IsOfItsType x) (given : IsGiven v r x covered) where
  abbrev known : Knowledge
  known = knows (gripped v r x covered) (grip_on v r x covered)

  taken : (t : TakenPosition) → known.position ≡ Some t → t ≡ taken_position v.ran x
  taken t is = taken_is (is_thread_room (sizes_known v) r) (taken_position v.ran x) t is

  pub kept : KeepsRoom known x
  kept = record {
    whole = of_type.whole;
    room = given.room;
    history = sym (append-nil (history_of x));
    in_memory = given.free.safe.in_memory;
    point_in_memory = λ t is. sym (ap (λ (p : TakenPosition). p.in_memory) (taken t is));
    no_position = λ low. none_taken (nat_lt (sizes_known v).shards r) (nat_lt r (super_room (sizes_known v))) (taken_position v.ran x) (le-ltb (sizes_known v).shards r low);
    no_fewer = given.free.safe.no_fewer;
    counted = let n = given.free.safe.no_fewer in let c = of_type.counted in omega (arith, n, c);
  }

  module _ (has : HasCells x) where
    below : r < super_room (sizes_known v)
    below = below_super v.beginning.settings r x has given.room.kind

    free_now : IsFreeState v.ran false (state_of x)
    free_now = given.free.state below

    by_loads : words_of x ≡ loads x
    by_loads = rests_by_loads x given.free.idle (free_whole v.ran false (state_of x) free_now)

    rests : IsResting known x
    rests = record {
      cells = has;
      idle = given.free.idle;
      stands = λ low. subst (λ (w : RoomWords). StandsFor live_layout (sizes_known v) r w known.now) (sym by_loads)
          (subst (λ (ns : List Noted). StandsFor live_layout (sizes_known v) r (loads x) (behind v r ns)) (sym (append-nil (history_of x))) (given.free.stands low));
      point = λ t is. (ap (point_in live_layout) by_loads ∙ sym (ap (λ (p : TakenPosition). p.point) (taken t is)), sym (ap (λ (p : TakenPosition). p.end) (taken t is)));
      write_backs = given.free.write_backs;
    }

    pub in_hand : IsInHand resting known x
    in_hand = record { kept = kept; used = (rests, free_now) }

pub given_rests : GivenRestsLaw
given_rests v r x covered has of_type given = in_hand v r x covered of_type given has

-- the super room is no thread's
no_position : (v : View) (r : ℕ) (x : Room) (covered : ℕ) → r ≡ super_room (sizes_known v) → (grip_on v r x covered).position ≡ None
no_position v r x covered is =
    let e : nat_lt r (super_room (sizes_known v)) ≡ false = le-ltb r (super_room (sizes_known v)) (omega (arith, is)) in
    ap (λ (c : Bool). cond (nat_lt (sizes_known v).shards r && c) (Some (taken_position v.ran x)) None) e ∙ none_both (nat_lt (sizes_known v).shards r) (taken_position v.ran x)
  where
    none_both : (b : Bool) (p : TakenPosition) → cond (b && false) (Some p) None ≡ None
    none_both true p = refl
    none_both false p = refl

-- the super room's write-backs are one for each closing, and one more where it is done
pub super_bound : (z : Sizes) (epoch closings : ℕ) (done : Bool) (r : ℕ) (x : Room) → r ≡ super_room z → free_bound z epoch closings done r x ≡ closings + cond done 1 0
super_bound z epoch closings done r x is =
    ap (λ (b : Bool). cond b (4 * length (history_of x)) (cond (nat_lt r (super_room z)) (position_bound epoch closings (state_of x)) (closings + cond done 1 0))) (le_false r z.shards (omega (arith, is)))
    ∙ ap (λ (b : Bool). cond b (position_bound epoch closings (state_of x)) (closings + cond done 1 0)) (le-ltb r (super_room z) (omega (arith, is)))

pub given_epoch : GivenEpochLaw
given_epoch v r bank covered of_type early given = record { kept = kept v r (Super bank) covered of_type given; used = at_first }
  where
    number : r ≡ super_room (sizes_known v)
    number = given.room.kind

    at_first : IsWritingEpoch Before (knows (gripped v r (Super bank) covered) (grip_on v r (Super bank) covered)) bank
    at_first = record {
      stands_at = (record { held = sym (none_loaded (epoch_line bank) (given.free.nothing_pending number)); quiet = given.free.nothing_pending number }, let e = given.free.epoch_word number in omega (arith, e));
      early = early;
      no_position = no_position v r (Super bank) covered number;
      write_backs = let f = given.free.write_backs in let b = super_bound (sizes_known v) v.ran (known v r (Super bank) covered of_type given).closings false r (Super bank) number in omega (arith, f, b);
    }
