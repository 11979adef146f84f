-- A thread begins to close the epoch.
use Rattle.std.proofs.Common.{◌≡◌, ◌≢◌, ℕ, ◌/◌, ◌%◌, ◌^◌, cond, true, false, List, sym, refl, ap, ◌∙◌, subst, arith, length-set}
use Rattle.seq_object.specs.declared.history.Entry.{Entry}
use Rattle.restart_point.specs.ArrivalWord.{is_set}
use Rattle.yard_model.specs.declared.view.Phase.{Phase}
use Rattle.yard_model.specs.declared.view.Phase.TheVariants.{Standing, Running, Closing}
use Rattle.yard_model.specs.declared.view.Beginning.{Beginning}
use Rattle.yard_model.specs.declared.view.View.{View}
use Rattle.yard_model.specs.declared.view.Checkpoint.{Checkpoint}
use Rattle.yard_model.specs.Knows.{stands, is_closing}
use Rattle.yard_model.specs.World.{YardState, arrival, ViewIs, closes, done_by}
use Rattle.yard_model.specs.Lawful.{Lawful, ShowsArrival}
use Rattle.yard_model.specs.Views.{claimed}
use Rattle.yard_model.specs.Conditions.{MayClaim}
use Rattle.yard_model.specs.Steps.{with_bit, at_claim}
use Rattle.yard_model.specs.Laws.{ClaimKeepsLaw}
use Rattle.yard_laws.proofs.Lists.{at_inside, each_set}
use Rattle.yard_laws.proofs.Views.{total_same, any_here, stands_there}
use Rattle.yard_laws.proofs.Bits.{set_same, set_other, set_zeros, set_epoch, mask_bit}
use Rattle.yard_laws.proofs.Quiet.{stands_same}
use Rattle.yard_laws.proofs.Arrivals.{word_here, locks_here, tick_here, clock_here, few_threads, stands_free, stands_gave_none, none_closes, not_over, none_closing}
use Rattle.yard_laws.proofs.Moves.{sized_moves, entries_moves, epochs_moves, taken_moves, loads_moves, positions_moves, stored_moves, rooms_move, bounds_same, locks_move}

module _ (b : Beginning) (w : YardState) (h : List Entry) (cs : List Checkpoint) (i : ℕ) (v : View) (l : Lawful b w h cs) (at : ViewIs w i v) (may : MayClaim v (arrival w)) where
  abbrev u : View
  u = claimed v

  abbrev next : YardState
  next = at_claim w i u

  abbrev word : ℕ
  word = with_bit (arrival w) 16

  closes_now : closes next.views ≡ true
  closes_now = any_here (λ (c : View). is_closing c.phase) w.views i v u at refl

  none_before : closes w.views ≡ false
  none_before = none_closes b w h cs l may.not_closing

  -- each thread stands
  stand_all : (j : ℕ) (c : View) → ViewIs w j c → stands c.phase ≡ true
  stand_all j c at' = let lt = at_inside w.views j c at' in let n = l.sized.views in let few = few_threads b w h cs l j c at' in
      let s = ap (λ (a : Beginning). a.settings.threads) (l.sized.beginnings i v at) in
      sym (stands_there w.views j c at') ∙ (sym (l.arrival.word.standing j few) ∙ mask_bit (arrival w) j few (may.all_stand j (omega (arith, lt, n, s))))

  all_stand : (j : ℕ) (c : View) → ViewIs w j c → c.phase ≡ Standing
  all_stand j c at' = phase c.phase refl
    where
      phase : (p : Phase) → c.phase ≡ p → p ≡ Standing
      phase Standing f = refl
      phase Running f = let s = stand_all j c at' in let t = ap stands f in let d : true ≡ false = sym s ∙ t in absurd (cc)
      phase Closing f = absurd (none_closing b w h cs l j c at' none_before f)

  bit_else : (j : ℕ) → j ≢ 16 → is_set (arrival next) j ≡ is_set (arrival w) j
  bit_else j n = ap (λ (m : ℕ). is_set m j) (word_here b w h cs l word) ∙ set_other (arrival w) 16 j n

  claim_arrival : ShowsArrival b next h cs
  claim_arrival = let a = l.arrival in record {
    word = let s = a.word in record {
      standing = λ j lt. bit_else j (λ e. omega (arith, lt, e)) ∙ (s.standing j lt ∙ sym (stands_same w.views i v u at (sym (ap stands may.phase)) j));
      closing = ap (λ (m : ℕ). is_set m 16) (word_here b w h cs l word) ∙ (set_same (arrival w) 16 ∙ sym closes_now);
      over = bit_else 17 (λ e. omega (arith, e)) ∙ s.over;
      fed = bit_else 18 (λ e. omega (arith, e)) ∙ s.fed;
      zeros = subst (λ (m : ℕ). m / 2 ^ 19 % 2 ^ 13 ≡ 0) (sym (word_here b w h cs l word)) (set_zeros (arrival w) 16 (omega arith) s.zeros);
      epoch = ap (λ (m : ℕ). m / 2 ^ 32) (word_here b w h cs l word) ∙ (set_epoch (arrival w) 16 (omega arith) ∙ s.epoch);
    };
    one_closer = each_set (λ (j : ℕ) (c : View). (q : ℕ) (d : View) → ViewIs next q d → c.phase ≡ Closing → d.phase ≡ Closing → j ≡ q) w.views i u
        (each_set (λ (q : ℕ) (d : View). Closing ≡ Closing → d.phase ≡ Closing → i ≡ q) w.views i u (λ _ _. refl) (λ q d _ e _ g. absurd (none_closing b w h cs l q d e none_before g)))
        (λ j c _ e q d _ f _. absurd (none_closing b w h cs l j c e none_before f));
    full = each_set (λ (j : ℕ) (c : View). closes next.views ≡ true → stands c.phase ≡ true) w.views i u (λ _. refl) (λ j c _ e _. stand_all j c e);
    over_stands = λ j c _ o. absurd (not_over b w h cs l may.not_over o);
    over_saved = a.over_saved;
    over_ends = a.over_ends;
    only_last = a.only_last;
    used_over = a.used_over;
  }

  pub claim_stays : Lawful b next h cs
  claim_stays = record {
    sized = sized_moves b w h cs i v u next.words w.rooms l at refl refl (length-set w.words 2 word) refl (λ q s e. e);
    arrival = claim_arrival;
    locks = locks_move b w h cs i v u next.words w.rooms l at (locks_here b w h cs l word) (let t = tick_here b w h cs l word in omega (arith, t)) (λ k e. (k, e, refl)) refl (λ q s e. e) (λ q s e. e)
        (let f = l.locks.views i v at in record {
          held = f.held;
          given = f.given;
          one_room = f.one_room;
          may_hold = λ g e. absurd (stands_free b w h cs l i v at may.phase g e);
          may_give = λ k e. absurd (stands_gave_none b w h cs l i v at may.phase k e);
          off = λ e. let o = f.off e in let t = tick_here b w h cs l word in omega (arith, o, t);
        });
    entries = entries_moves b w h cs i v u next.words w.rooms l at (clock_here b w h cs l word) (l.entries.views i v at) (λ q s e. e);
    loads = loads_moves b w h cs i v u next.words w.rooms l at (λ q s e. e) (λ q s _. locks_here b w h cs l word q) (λ k e. absurd (stands_gave_none b w h cs l i v at may.phase k e));
    epochs = epochs_moves b w h cs i v u next.words w.rooms l at (let f = l.epochs.views i v at in record {
      no_later = f.no_later;
      runs = λ _. sym may.epoch ∙ l.arrival.word.epoch;
      since = f.since;
      idle = f.idle;
      has_next = f.has_next;
      cause = λ _. f.cause (ap stands may.phase);
      emptied = f.emptied;
    }) refl;
    rooms = rooms_move b w h cs i v u next.words w.rooms l at (λ q s e. e) (λ q s _. locks_here b w h cs l word q) (total_same done_by w.views i v u at (sym (ap (λ (p : Phase). cond (is_closing p) v.closed.rooms 0) may.phase))) (λ _. closes_now);
    stored = stored_moves b w h cs i v u next.words w.rooms l at (λ q s e. e) (λ q s _. locks_here b w h cs l word q) (total_same done_by w.views i v u at (sym (ap (λ (p : Phase). cond (is_closing p) v.closed.rooms 0) may.phase))) (l.stored.views i v at);
    positions = positions_moves b w h cs i v u next.words w.rooms l at (λ q s e. e) (λ q s _. locks_here b w h cs l word q)
        (λ s e. let f = l.positions.views i v at s e in record {
          standing = λ _. f.standing (ap stands may.phase);
          written = λ _ p. absurd (cc);
          unwritten = λ _ p. absurd (cc);
          runs = f.runs;
        });
    bounds = bounds_same b w h cs i v u next.words w.rooms l at (λ q s e. e)
        (λ _. record { rooms = omega arith; fed = λ lt. absurd (omega (arith, lt)); number = omega arith; ends = λ k x _ lt. absurd (omega (arith, lt)); entries = λ n e. absurd (cc) })
        (let f = l.bounds.views i v at in record { few_ticks = f.few_ticks; few_checkpoints = f.few_checkpoints; may_release = λ _. may.few_checkpoints })
        refl (tick_here b w h cs l word) refl refl refl;
    taken = taken_moves b w h cs i v u next.words w.rooms l at (λ g e. absurd (stands_free b w h cs l i v at may.phase g e));
  }

pub claim_keeps : ClaimKeepsLaw Lawful
claim_keeps b w h cs i v l at may = claim_stays b w h cs i v l at may
