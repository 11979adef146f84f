-- A room goes home, and is done; and the epoch is released.
use Rattle.std.proofs.Common.{◌≡◌, ℕ, ◌+◌, ◌<◌, ◌≤◌, ◌^◌, ◌==◌, ◌&&◌, ◌||◌, Bool, true, false, cond, List, [], ◌∷◌, ◌++◌, Option, Some, refl, ap, sym, ◌∙◌, subst, arith, inl, inr}
use Rattle.std.specs.Prelude.{not, nat_lt}
use Rattle.std.proofs.lemmas.Bool.{le-ltb}
use Rattle.std.proofs.lemmas.Bool.Decides.{eqb_tells}
use Rattle.seq_object.specs.declared.settings.Settings.{Settings}
use Rattle.seq_object.specs.declared.sizes.Sizes.{Sizes}
use Rattle.seq_object.specs.Sizes.{sizes_of, AreValid, super_room, room_count, thread_room}
use Rattle.line_memory.specs.Line.{BankState}
use Rattle.epoch_word.specs.declared.stage.EpochStage.TheVariants.{InMemory}
use Rattle.restart_point.specs.declared.thread_end.ThreadEnd.{ThreadEnd}
use Rattle.block_allow.specs.declared.judgement.Verdict.{Verdict}
use Rattle.block_allow.specs.Verdicts.{verdict_of}
use Rattle.rooms.specs.declared.room.Room.{Room}
use Rattle.rooms.specs.declared.room.Room.TheVariants.{Map, Queue, Thread, Super}
use Rattle.rooms.specs.Rooms.{end_of, is_empty_queue, IsKindOf, IsWhole}
use Rattle.yard_model.specs.declared.view.Phase.{Phase}
use Rattle.yard_model.specs.declared.view.Closed.{Closed}
use Rattle.yard_model.specs.declared.view.View.{View}
use Rattle.yard_model.specs.declared.view.Grip.{Grip}
use Rattle.yard_model.specs.Knows.{sizes_known}
use Rattle.yard_model.specs.Views.{is_thread_room, learnt_from, closed_after, freed, wrote_after}
use Rattle.yard_model.specs.Conditions.{MayUnlock}
use Rattle.room_yard.specs.Told.{Told}
use Rattle.room_yard.specs.Calls.{MayReturn, MayEndEpoch}
use Rattle.room_yard.specs.Answers.{Unlocked}
use Rattle.room_in_hand.specs.InHand.{RoomUse, shut, writing_epoch}
use Rattle.room_in_hand.proofs.Moves.{lt_true, below_super}
use Rattle.room_in_hand.proofs.Returns.{shut_goes_home, epoch_goes_home}
use Rattle.coordinator.specs.declared.hand.Hand.{Hand}
use Rattle.coordinator.specs.declared.hand.Hand.TheVariants.{Empty, Shut, Epoch, AllDone}
use Rattle.coordinator.specs.declared.learnt.Learnt.{Learnt}
use Rattle.coordinator.specs.Learnts.{learnt_with, verdict_with, ends_life, HasLearntAs}
use Rattle.coordinator.specs.Closers.{CloserState, Holds, HandIs, IsCloser}
use Rattle.coordinator.specs.Steps.{one_done, DoesRow, DoesNext}
use Rattle.coordinator.proofs.Verdicts.{one_end_more, ends_where_none_leaves}

pub eq_false : (a b : ℕ) → (a ≡ b → ⊥) → (a == b) ≡ false
eq_false a b apart = elim (eqb_tells a b) [
  | inl h ↦ absurd (apart h.1)
  | inr h ↦ h.0
]

pub eq_true : (a b : ℕ) → a ≡ b → (a == b) ≡ true
eq_true a b same = elim (eqb_tells a b) [
  | inl h ↦ h.0
  | inr h ↦ absurd (h.1 same)
]

-- WHAT A ROOM TELLS, by its kind.
module _ (v : View) (g : Grip) (s : Settings) (l : Learnt) (settings : s ≡ v.beginning.settings) (was : HasLearntAs s v.closed l) (next : g.room ≡ v.closed.rooms) where
  abbrev z : Sizes
  z = sizes_known v

  same_shards : s.shards ≡ v.beginning.settings.shards
  same_shards = ap (λ (t : Settings). t.shards) settings

  here : l.rooms ≡ g.room
  here = was.rooms ∙ sym next

  not_queue : (x : Room) → (g.room ≡ z.shards → ⊥) → (learnt_from v g x).fed ≡ v.closed.fed
  not_queue x apart = ap (λ (b : Bool). cond b (Some (not (is_empty_queue x))) v.closed.fed) (eq_false g.room z.shards apart)

  is_thread : (x : Room) (b : Bool) → is_thread_room z g.room ≡ b → (learnt_from v g x).ends ≡ cond b (v.closed.ends ++ end_of x ∷ []) v.closed.ends
  is_thread x b is = ap (λ (c : Bool). cond c (v.closed.ends ++ end_of x ∷ []) v.closed.ends) is

  low : g.room ≤ z.shards → is_thread_room z g.room ≡ false
  low le = ap (λ (b : Bool). b && nat_lt g.room (super_room z)) (le-ltb z.shards g.room le)

  high : super_room z ≤ g.room → is_thread_room z g.room ≡ false
  high le = ap (λ (b : Bool). nat_lt z.shards g.room && b) (le-ltb g.room (super_room z) le) ∙ by (nat_lt z.shards g.room)
    where
      by : (b : Bool) → (b && false) ≡ false
      by true = refl
      by false = refl

  between : z.shards < g.room → g.room < super_room z → is_thread_room z g.room ≡ true
  between above below = (λ i. lt_true z.shards g.room above i && lt_true g.room (super_room z) below i)

  pub learns : (x : Room) → IsKindOf v.beginning.settings g.room x → HasLearntAs s (learnt_from v g x) (learnt_with l x)
  learns (Map x) kind = let k = kind.0 in let h = here in let q = same_shards in
      let ends : (learnt_from v g (Map x)).ends ≡ v.closed.ends = is_thread (Map x) false (low (omega (arith, k))) in record {
        rooms = ap (λ (n : ℕ). n + 1) was.rooms;
        fed = λ lt. absurd (omega (arith, lt, k, h, q));
        no_ends = λ le. ends ∙ was.no_ends (omega (arith, le));
        verdict = was.verdict ∙ ap (λ (es : List ThreadEnd). verdict_of es l.fed) (sym ends);
      }
  learns (Queue x) kind = let k = kind.0 in let h = here in let q = same_shards in
      let none : v.closed.ends ≡ [] = was.no_ends (omega (arith, k, h, q)) in
      let ends : (learnt_from v g (Queue x)).ends ≡ [] = is_thread (Queue x) false (low (omega (arith, k))) ∙ none in record {
        rooms = ap (λ (n : ℕ). n + 1) was.rooms;
        fed = λ lt. ap (λ (b : Bool). cond b (Some (not (is_empty_queue (Queue x)))) v.closed.fed) (eq_true g.room z.shards k);
        no_ends = λ le. ends;
        verdict = was.verdict ∙ ap (λ (es : List ThreadEnd). verdict_of es l.fed) none ∙ ap (λ (es : List ThreadEnd). verdict_of es (not (is_empty_queue (Queue x)))) (sym ends);
      }
  learns (Thread x) kind = let a = kind.0 in let b = kind.1 in let h = here in let q = same_shards in
      let ends : (learnt_from v g (Thread x)).ends ≡ v.closed.ends ++ x.end ∷ [] = is_thread (Thread x) true (between a b) in record {
        rooms = ap (λ (n : ℕ). n + 1) was.rooms;
        fed = λ lt. not_queue (Thread x) (λ e. omega (arith, e, a)) ∙ was.fed (omega (arith, a, h, q));
        no_ends = λ le. absurd (omega (arith, le, a, h, q));
        verdict = ap (λ (c : Verdict). verdict_with c x.end l.fed) was.verdict ∙ sym (one_end_more v.closed.ends x.end l.fed) ∙ ap (λ (es : List ThreadEnd). verdict_of es l.fed) (sym ends);
      }
  learns (Super x) kind = let k = kind in let h = here in let q = same_shards in
      let ends : (learnt_from v g (Super x)).ends ≡ v.closed.ends = is_thread (Super x) false (high (omega (arith, k))) in record {
        rooms = ap (λ (n : ℕ). n + 1) was.rooms;
        fed = λ lt. not_queue (Super x) (λ e. omega (arith, e, k)) ∙ was.fed (omega (arith, k, h, q));
        no_ends = λ le. absurd (omega (arith, le, k, h, q));
        verdict = was.verdict ∙ ap (λ (es : List ThreadEnd). verdict_of es l.fed) (sym ends);
      }

  -- the sizes are valid: the room's type says so, or that of one before
  pub sizes_now : (x : Room) → IsKindOf v.beginning.settings g.room x → IsWhole x → (0 < l.rooms → AreValid (sizes_of s)) → AreValid (sizes_of s)
  sizes_now (Map x) kind whole before = subst (λ (t : Settings). AreValid (sizes_of t)) (kind.2 ∙ sym settings) whole.room.sizes
  sizes_now (Queue x) kind whole before = subst (λ (t : Settings). AreValid (sizes_of t)) (kind.2 ∙ sym settings) whole.room.sizes
  sizes_now (Thread x) kind whole before = let a = kind.0 in let h = here in before (omega (arith, a, h))
  sizes_now (Super x) kind whole before = let k = kind in let h = here in before (omega (arith, k, h))

-- HOME.

wrote_still : (v : View) (g : Grip) → v.wrote ≡ true → wrote_after v g ≡ true
wrote_still v g wrote = ap (λ (b : Bool). b || (g.room == thread_room (sizes_known v) v.thread)) wrote

module _ (c : CloserState) (v : View) (was : IsCloser c v) (role : RoomUse) (x : Room) (holds : Holds role v x) (may : MayUnlock v holds.grip x) where
  abbrev g : Grip
  g = holds.grip

  here_now : g.room ≡ c.learnt.rooms
  here_now = holds.next ∙ sym was.closes.learnt.rooms

  pub may_go : MayReturn v c.learnt.rooms x
  may_go = (g, here_now, may)

  pub valid : AreValid (sizes_of c.settings)
  valid = sizes_now v g c.settings c.learnt was.closes.settings was.closes.learnt holds.next x may.kept.room.kind holds.in_hand.kept.whole was.closes.sizes

  most_room : (s : Settings) (r : ℕ) (x : Room) → IsKindOf s r x → r < room_count (sizes_of s)
  most_room s r (Map x) kind = let k = kind.0 in omega (arith, k)
  most_room s r (Queue x) kind = let k = kind.0 in omega (arith, k)
  most_room s r (Thread x) kind = let k = kind.1 in omega (arith, k)
  most_room s r (Super x) kind = let k = kind in omega (arith, k)

  same_count : room_count (sizes_of c.settings) ≡ room_count (sizes_known v)
  same_count = ap (λ (s : Settings). room_count (sizes_of s)) was.closes.settings

  pub few_rooms : c.learnt.rooms + 1 < 2 ^ 32
  few_rooms = let a = valid.few_threads in let b = valid.few_shards in let m = most_room v.beginning.settings g.room x may.kept.room.kind in let h = here_now in let n = same_count in omega (arith, a, b, m, h, n)

  module _ (t u : Option Told) (w : View) (done : Unlocked v t c.learnt.rooms x w u) (hand : Hand) (right : HandIs c.settings (learnt_with c.learnt x) hand (freed v g x)) where
    is : w ≡ freed v g x
    is = done.view g holds.held

    closed_is : (freed v g x).closed ≡ learnt_from v g x
    closed_is = ap (λ (p : Phase). closed_after p v g x) was.closes.phase

    ends : IsCloser (one_done c x hand) (freed v g x)
    ends = record {
      on = was.on;
      closes = record {
        phase = was.closes.phase;
        wrote = wrote_still v g was.closes.wrote;
        settings = was.closes.settings;
        learnt = subst (λ (k : Closed). HasLearntAs c.settings k (learnt_with c.learnt x)) (sym closed_is) (learns v g c.settings c.learnt was.closes.settings was.closes.learnt holds.next x may.kept.room.kind);
        sizes = λ _. valid;
        hand = right;
      };
    }

    pub closer_now : IsCloser (one_done c x hand) w
    closer_now = subst (IsCloser (one_done c x hand)) (sym is) ends

pub one_more : (l : Learnt) (x : Room) → (learnt_with l x).rooms ≡ l.rooms + 1
one_more l (Map x) = refl
one_more l (Queue x) = refl
one_more l (Thread x) = refl
one_more l (Super x) = refl

-- a room of cells
module _ (c : CloserState) (v : View) (was : IsCloser c v) (x : Room) (holds : Holds shut v x) where
  pub shut_home : MayUnlock v holds.grip x
  shut_home = shut_goes_home v holds.grip x was.on was.closes.phase holds.held holds.in_hand

  pub none_in_hand : HandIs c.settings (learnt_with c.learnt x) Empty (freed v holds.grip x)
  none_in_hand = record {
    none = refl;
    left =
        let m = one_more c.learnt x in
        let b = below_super v.beginning.settings holds.grip.room x holds.in_hand.used.0.cells holds.in_hand.kept.room.kind in
        let h = here_now c v was shut x holds shut_home in
        let n = same_count c v was shut x holds shut_home in
        omega (arith, m, b, h, n);
  }

-- the super room
module _ (c : CloserState) (v : View) (was : IsCloser c v) (x : BankState) (holds : Holds (writing_epoch InMemory) v (Super x)) where
  pub epoch_home : MayUnlock v holds.grip (Super x)
  epoch_home = epoch_goes_home v holds.grip (Super x) was.on was.closes.phase holds.held holds.in_hand

  pub all_done : HandIs c.settings (learnt_with c.learnt (Super x)) AllDone (freed v holds.grip (Super x))
  all_done = record {
    none = refl;
    all =
        let k = holds.in_hand.kept.room.kind in
        let h = here_now c v was (writing_epoch InMemory) (Super x) holds epoch_home in
        let n = same_count c v was (writing_epoch InMemory) (Super x) holds epoch_home in
        omega (arith, k, h, n);
  }

-- BOTH, as steps.

pub ended_room : (c : CloserState) (v : View) (was : IsCloser c v) (x : Room) → c.hand ≡ Shut x → (t u : Option Told) (w : View) → Unlocked v t c.learnt.rooms x w u → (l : Learnt) → l ≡ learnt_with c.learnt x
    → DoesNext c v t (record { settings = c.settings; learnt = l; hand = Empty }) w u
ended_room c v was x is t u w done l made =
    let holds : Holds shut v x = subst (λ (h : Hand). HandIs c.settings c.learnt h v) is was.closes.hand in
    subst (λ (k : Learnt). DoesNext c v t (record { settings = c.settings; learnt = k; hand = Empty }) w u) (sym made) (record {
      row = subst (λ (h : Hand). DoesRow h c v t (one_done c x Empty) w u) (sym is) (record { unlocked = done; done = refl });
      closer = closer_now c v was shut x holds (shut_home c v was x holds) t u w done Empty (none_in_hand c v was x holds);
    })

pub ended_epoch : (c : CloserState) (v : View) (was : IsCloser c v) (x : BankState) → c.hand ≡ Epoch InMemory x → (t u : Option Told) (w : View) → Unlocked v t c.learnt.rooms (Super x) w u → (l : Learnt) → l ≡ learnt_with c.learnt (Super x)
    → DoesNext c v t (record { settings = c.settings; learnt = l; hand = AllDone }) w u
ended_epoch c v was x is t u w done l made =
    let holds : Holds (writing_epoch InMemory) v (Super x) = subst (λ (h : Hand). HandIs c.settings c.learnt h v) is was.closes.hand in
    subst (λ (k : Learnt). DoesNext c v t (record { settings = c.settings; learnt = k; hand = AllDone }) w u) (sym made) (record {
      row = subst (λ (h : Hand). DoesRow h c v t (one_done c (Super x) AllDone) w u) (sym is) (record { unlocked = done; done = refl });
      closer = closer_now c v was (writing_epoch InMemory) (Super x) holds (epoch_home c v was x holds) t u w done AllDone (all_done c v was x holds);
    })

-- RELEASE.
module _ (c : CloserState) (v : View) (was : IsCloser c v) (hand : c.hand ≡ AllDone) where
  done_now : HandIs c.settings c.learnt AllDone v
  done_now = subst (λ (h : Hand). HandIs c.settings c.learnt h v) hand was.closes.hand

  pub fed_is : v.closed.fed ≡ Some c.learnt.fed
  fed_is = was.closes.learnt.fed (let a = done_now.all in omega (arith, a))

  pub may_end : MayEndEpoch v (ends_life c.learnt.verdict) c.learnt.fed
  may_end = record {
    note = record {
      on = was.on;
      phase = was.closes.phase;
      nothing_held = done_now.none;
      all_done = sym was.closes.learnt.rooms ∙ done_now.all ∙ ap (λ (s : Settings). room_count (sizes_of s)) was.closes.settings;
    };
    learnt_fed = fed_is;
    is_over = ap ends_life was.closes.learnt.verdict ∙ ends_where_none_leaves v.closed.ends c.learnt.fed;
  }
