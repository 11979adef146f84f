-- What a handle remembers is right behind each step, and what is told of the step is its answer.
use Rattle.std.proofs.Common.{◌≡◌, ℕ, ◌+◌, ◌^◌, ◌<◌, ◌||◌, nat_le, Bool, true, inl, ⊎_elim, List, [], ◌∷◌, ◌++◌, length, sym, refl, ap, ◌∙◌, subst, arith, Option, Some, None}
use Rattle.std.proofs.lemmas.List.{length-append}
use Rattle.atomic_table.specs.Table.{rest}
use Rattle.restart_point.specs.declared.thread_end.ThreadEnd.{ThreadEnd}
use Rattle.restart_point.specs.ArrivalWord.{arrival_of, is_set, AllStand}
use Rattle.seq_object.specs.declared.history.Entry.{Entry}
use Rattle.seq_object.specs.Sizes.{room_count}
use Rattle.rooms.specs.declared.room.Room.{Room}
use Rattle.yard_model.specs.declared.view.Beginning.{Beginning}
use Rattle.yard_model.specs.declared.view.Grip.{Grip}
use Rattle.yard_model.specs.declared.view.View.{View}
use Rattle.yard_model.specs.declared.view.OwnMark.{OwnMark}
use Rattle.yard_model.specs.declared.view.Phase.{Phase}
use Rattle.yard_model.specs.declared.view.Phase.TheVariants.{Standing, Running, Closing}
use Rattle.yard_model.specs.Beginnings.{sizes_at}
use Rattle.yard_model.specs.Entries.{placed}
use Rattle.yard_model.specs.Knows.{sizes_known}
use Rattle.yard_model.specs.Steps.{checkpoint_at}
use Rattle.yard_model.specs.Shares.{own_mark}
use Rattle.yard_model.specs.Views.{grip_on, gripped, freed, retreated, left_in, stood, with_drawn, drew, claimed, entries_noted, looked, saw_power, ticked, turned_off}
use Rattle.yard_model.specs.Conditions.{MayLeave, MayClaim, MayRelease}
use Rattle.room_yard.specs.Calls.{room_held, MayTryLeave, MayTryClaim, ForbidsClaim, MayEndEpoch, AllowsLeave, AllowsClaim}
use Rattle.room_yard.specs.Answers.{next_word, ClaimRests, Locked, Unlocked, Retreated, Drew, Stood, SawPower}
use Rattle.room_yard.proofs.Words.{claim_is_decided, next_word_shows}
use Rattle.shared_yard.specs.declared.known.Known.{Known}
use Rattle.shared_yard.specs.Rule.{one_known, one_view, with_view_of}
use Rattle.shared_yard.specs.Plays.{SeatState, IsNow, TakesRoom, FindsHeld, with_release}
use Rattle.shared_yard.specs.Hands.{IsHand, slots_out}

abbrev room_or : Room → Option Room → Room
room_or x None = x
room_or x (Some y) = y

slot_room : List (ℕ × Option Room) → Option Room
slot_room [] = None
slot_room (x ∷ xs) = x.1

pub none_if : (o : Option ℕ) → ((r : ℕ) → o ≡ Some r → ⊥) → o ≡ None
none_if None f = refl
none_if (Some r) f = absurd (f r refl)

-- none is held
pub none_held : (g : Option Grip) (o : Option ℕ) → o ≡ room_held g → o ≡ None → g ≡ None
none_held None o e n = refl
none_held (Some g) o e n = let f = e in absurd (cc)

same_grip : (o : Option Grip) (g k : Grip) → o ≡ Some g → o ≡ Some k → g ≡ k
same_grip o g k e f = let same : Some g ≡ Some k = sym e ∙ f in cc

-- the room in the slot
pub taken_is : (m n : SeatState) (r : ℕ) (x : Option Room) (t : TakesRoom r m n) → n.1 ≡ (r, x) ∷ rest n.1 → x ≡ Some t.room
unfolding slot_room
taken_is m n r x t e = ap slot_room (sym e ∙ t.now.slots_are)

module _ (b : Beginning) (thread : ℕ) where
  abbrev Hand : SeatState → Phase → Option ℕ → ℕ → Bool → Type 0
  Hand m p o ran off = IsHand m b thread p o ran off

  -- the seat has another view, of the same thread and beginning
  hand_of : (m n : SeatState) (p q : Phase) (o s : Option ℕ) (ran again : ℕ) (off gone : Bool) (k : Known) → Hand m p o ran off → n.0 ≡ k ∷ [] → n.1 ≡ slots_out s
      → k.view.thread ≡ (one_view m.0).thread → k.view.beginning ≡ (one_view m.0).beginning → q ≡ k.view.phase → s ≡ room_held k.view.grip → again ≡ k.view.ran → gone ≡ k.view.saw_off
      → length k.own ≡ k.view.checkpoints → ((g : Grip) → k.view.grip ≡ Some g → g.room < room_count (sizes_at b)) → Hand n q s again gone
  hand_of m n p q o s ran again off gone k h one slots same begins phase room epoch power own within = subst (λ (ks : List Known). IsHand (ks, n.1) b thread q s again gone) (sym one) (record {
    one = refl;
    begins = begins ∙ h.begins;
    few_threads = h.few_threads;
    thread_is = h.thread_is ∙ sym same;
    is_thread = h.is_thread;
    phase_is = phase;
    room_is = room;
    within = within;
    ran_is = epoch;
    off_is = power;
    own_are = own;
    slots = slots;
  })

  module _ (m n : SeatState) (p : Phase) (o : Option ℕ) (ran : ℕ) (off : Bool) (h : Hand m p o ran off) where
    -- the yard has as many rooms as the view says
    pub count_is : room_count (sizes_known (one_view m.0)) ≡ room_count (sizes_at b)
    count_is = ap (λ (b : Beginning). room_count (sizes_at b)) h.begins

    moved : (w u : View) → w ≡ u → IsNow m w m.1 n → IsNow m u m.1 n
    moved w u e now = subst (λ (u : View). IsNow m u m.1 n) e now

    -- the view alone is another, and no room was taken or given back
    quiet : (w : View) (q : Phase) (again : ℕ) (gone : Bool) → IsNow m w m.1 n → w.thread ≡ (one_view m.0).thread → w.beginning ≡ (one_view m.0).beginning → w.grip ≡ (one_view m.0).grip → w.checkpoints ≡ (one_view m.0).checkpoints
        → q ≡ w.phase → again ≡ w.ran → gone ≡ w.saw_off → Hand n q o again gone
    quiet w q again gone now same begins grip checkpoints phase epoch power = hand_of m n p q o o ran again off gone (with_view_of (one_known m.0) w) h now.view (now.slots_are ∙ h.slots) same begins phase
        (h.room_is ∙ ap room_held (sym grip)) epoch power (h.own_are ∙ sym checkpoints) (λ g e. h.within g (sym grip ∙ e))

    pub after_look : (word found : ℕ) → IsNow m (looked (one_view m.0) word found) m.1 n → Hand n p o ran off
    after_look word found now = quiet (looked (one_view m.0) word found) p ran off now refl refl refl refl h.phase_is h.ran_is h.off_is

    pub after_leave : (epoch : ℕ) → IsNow m (left_in (one_view m.0) epoch) m.1 n → Hand n Running o epoch off
    after_leave epoch now = quiet (left_in (one_view m.0) epoch) Running epoch off now refl refl refl refl refl refl h.off_is

    pub after_claim : IsNow m (claimed (one_view m.0)) m.1 n → Hand n Closing o ran off
    after_claim now = quiet (claimed (one_view m.0)) Closing ran off now refl refl refl refl refl h.ran_is h.off_is

    pub after_note : (c : ℕ) → IsNow m (entries_noted (one_view m.0) c) m.1 n → Hand n p o ran off
    after_note c now = quiet (entries_noted (one_view m.0) c) p ran off now refl refl refl refl h.phase_is h.ran_is h.off_is

    pub after_release : (entries word : ℕ) → n.0 ≡ with_release (one_known m.0) entries word → n.1 ≡ m.1 → Hand n Standing o ran off
    after_release entries word now slots = hand_of m n p Standing o o ran ran off off (one_known (with_release (one_known m.0) entries word)) h now (slots ∙ h.slots) refl refl refl h.room_is h.ran_is h.off_is
        (length-append (one_known m.0).own (own_mark ((one_view m.0).ran + 1) (checkpoint_at entries (is_set word 17)) ∷ []) ∙ ap (λ (n : ℕ). n + 1) h.own_are) h.within

    pub after_tick : IsNow m (ticked (one_view m.0)) m.1 n → Hand n p o ran off
    after_tick now = quiet (ticked (one_view m.0)) p ran off now refl refl refl refl h.phase_is h.ran_is h.off_is

    pub after_off : IsNow m (turned_off (one_view m.0)) m.1 n → Hand n p o ran true
    after_off now = quiet (turned_off (one_view m.0)) p ran true now refl refl refl refl h.phase_is h.ran_is refl

    pub after_power : (on gone : Bool) (w : View) (a : SawPower (one_view m.0) None on w None) → IsNow m w m.1 n → gone ≡ (off || nat_le b.limit a.found) → Hand n p o ran gone
    after_power on gone w a now is = quiet (saw_power (one_view m.0) a.found) p ran gone (moved w (saw_power (one_view m.0) a.found) a.view now) refl refl refl refl h.phase_is h.ran_is
        (is ∙ (λ j. h.off_is j || nat_le (sym h.begins j).limit a.found))

    pub after_stand : (w : View) → Stood (one_view m.0) None w None → IsNow m w m.1 n → Hand n Standing o ran off
    after_stand w a now = quiet (stood (one_view m.0)) Standing ran off (moved w (stood (one_view m.0)) a.view now) refl refl refl refl refl h.ran_is h.off_is

    pub after_draw : (g : Grip) (e : Entry) (c : ℕ) (w : View) → (one_view m.0).grip ≡ Some g → Drew (one_view m.0) None e c w None → IsNow m w m.1 n → Hand n p o ran off
    after_draw g e c w held a now = hand_of m n p p o o ran ran off off (with_view_of (one_known m.0) (drew (one_view m.0) g c e)) h
        (now.view ∙ ap (λ (w : View). with_view_of (one_known m.0) w ∷ []) (a.view g held)) (now.slots_are ∙ h.slots) refl refl h.phase_is (h.room_is ∙ ap room_held held) h.ran_is h.off_is h.own_are
        (λ k q. let same : with_drawn g (placed c e) ≡ k = cc in subst (λ (k : Grip). k.room < room_count (sizes_at b)) same (h.within g held))

    -- the room is out of its slot
    pub after_lock : (q : SeatState) (r : ℕ) → (one_view m.0).grip ≡ None → r < room_count (sizes_at b) → (t : TakesRoom r m n) → q ≡ (n.0, (r, None) ∷ rest n.1) → Hand q p (Some r) ran off
    after_lock q r free lt t later = hand_of m q p p o (Some r) ran ran off off (with_view_of (one_known m.0) (gripped (one_view m.0) r t.room t.answer.covered)) h
        (ap (λ (z : SeatState). z.0) later ∙ (t.now.view ∙ ap (λ (w : View). with_view_of (one_known m.0) w ∷ []) t.answer.view))
        (ap (λ (z : SeatState). z.1) later ∙ ap (λ (l : List (ℕ × Option Room)). (r, None) ∷ l) (ap rest t.now.slots_are ∙ (h.slots ∙ ap slots_out (h.room_is ∙ ap room_held free)))) refl refl h.phase_is refl h.ran_is h.off_is h.own_are
        (λ g e. let same : grip_on (one_view m.0) r t.room t.answer.covered ≡ g = cc in subst (λ (g : Grip). g.room < room_count (sizes_at b)) same lt)

    -- the room is back in its slot
    pub put_room : (g : Grip) (r : ℕ) (x : Room) → (one_view m.0).grip ≡ Some g → g.room ≡ r → n ≡ (m.0, (r, Some x) ∷ rest m.1) → n.1 ≡ (r, Some x) ∷ []
    put_room g r x held is now = ap (λ (z : SeatState). z.1) now ∙ ap (λ (l : List (ℕ × Option Room)). (r, Some x) ∷ l) (ap rest (h.slots ∙ ap slots_out (h.room_is ∙ ap room_held held)))

    pub after_unlock : (q : SeatState) (g : Grip) (r : ℕ) (x : Room) (w : View) → (one_view m.0).grip ≡ Some g → n.0 ≡ m.0 → Unlocked (one_view n.0) None r x w None → IsNow n w [] q → Hand q p None ran off
    after_unlock q g r x w held stays a now = hand_of m q p p o None ran ran off off (with_view_of (one_known m.0) (freed (one_view m.0) g x)) h
        (now.view ∙ (λ j. with_view_of (one_known (stays j)) (is j) ∷ [])) now.slots_are refl refl h.phase_is refl h.ran_is h.off_is h.own_are (λ k e. absurd (cc))
      where
        is : w ≡ freed (one_view m.0) g x
        is = a.view g (ap (λ (ks : List Known). (one_view ks).grip) stays ∙ held) ∙ ap (λ (ks : List Known). freed (one_view ks) g x) stays

    pub after_retreat : (q : SeatState) (g : Grip) (r : ℕ) (x : Room) (w : View) → (one_view m.0).grip ≡ Some g → n.0 ≡ m.0 → Retreated (one_view n.0) None r x w None → IsNow n w [] q → Hand q p None ran off
    after_retreat q g r x w held stays a now = hand_of m q p p o None ran ran off off (with_view_of (one_known m.0) (retreated (one_view m.0) g)) h
        (now.view ∙ (λ j. with_view_of (one_known (stays j)) (is j) ∷ [])) now.slots_are refl refl h.phase_is refl h.ran_is h.off_is h.own_are (λ k e. absurd (cc))
      where
        is : w ≡ retreated (one_view m.0) g
        is = a.view g (ap (λ (ks : List Known). (one_view ks).grip) stays ∙ held) ∙ ap (λ (ks : List Known). retreated (one_view ks) g) stays

    pub after_held : (r found : ℕ) → FindsHeld r found m n → Hand n p o ran off
    after_held r found t = after_look (3 + r) found (moved t.view (looked (one_view m.0) (3 + r) found) t.answer.view t.now)

-- what is said of the view after a step
pub answered : (P : View → Type 0) (m n : SeatState) (w : View) (out : List (ℕ × Option Room)) → IsNow m w out n → P w → P (one_view n.0)
answered P m n w out now p = subst P (sym (ap one_view now.view)) p

-- a step that is no release leaves the thread's checkpoints
pub own_stays : (m n : SeatState) (w : View) (out : List (ℕ × Option Room)) → IsNow m w out n → ◌≡◌ {A = Option (List OwnMark)} (Some ((one_known n.0).own)) (Some ((one_known m.0).own))
own_stays m n w out now = ap (λ (ks : List Known). Some ((one_known ks).own)) now.view

-- the room that was taken out of its slot
pub took : (m n q : SeatState) (r : ℕ) (x : Room) (out : List (ℕ × Option Room)) (t : TakesRoom r m n) → Some t.room ≡ Some x → q ≡ (n.0, out)
    → Locked (one_view m.0) None r x (one_view q.0) None × (◌≡◌ {A = Option (List OwnMark)} (Some ((one_known q.0).own)) (Some ((one_known m.0).own)))
took m n q r x out t e later = (
  subst (λ (z : Room × View). Locked (one_view m.0) None r z.0 z.1 None) (λ j. (room_or x (e j), sym (ap (λ (z : SeatState). one_view z.0) later ∙ ap one_view t.now.view) j)) t.answer,
  ap (λ (z : SeatState). Some ((one_known z.0).own)) later ∙ own_stays m n t.view ((r, Some t.room) ∷ m.1) t.now,
)

-- a room that was put into its slot leaves the views
pub put_stays : (m n : SeatState) (out : List (ℕ × Option Room)) → n ≡ (m.0, out) → n.0 ≡ m.0
put_stays m n out e = ap (λ (z : SeatState). z.0) e

pub one_put : (m n : SeatState) → n.0 ≡ m.0 → m.0 ≡ one_known m.0 ∷ [] → n.0 ≡ one_known n.0 ∷ []
one_put m n e one = e ∙ (one ∙ ap (λ (ks : List Known). one_known ks ∷ []) (sym e))

pub still : (P : View → Type 0) (m n : SeatState) → n.0 ≡ m.0 → P (one_view m.0) → P (one_view n.0)
still P m n e p = subst P (sym (ap one_view e)) p

module _ (b : Beginning) (thread : ℕ) (m n : SeatState) (p : Phase) (o : Option ℕ) (ran : ℕ) (off : Bool) (h : IsHand m b thread p o ran off) where
  -- LEAVE and CLAIM, behind a look at this word
  module _ (word : ℕ) (now : IsNow m (looked (one_view m.0) 2 word) m.1 n) where
    pub may_leave_seen : (end : ThreadEnd) → MayTryLeave (one_view m.0) end → AllowsLeave end ran word → MayLeave (one_view n.0) end word
    may_leave_seen end may is = answered (λ (u : View). MayLeave u end word) m n (looked (one_view m.0) 2 word) m.1 now
        (record { on = may.on; phase = may.phase; not_ended = may.not_ended; next = may.next; not_closing = is.not_closing; not_over = is.not_over; later = subst (λ (q : ℕ). q < (arrival_of word).epoch) h.ran_is is.later; allowed = is.allowed })

    threads_are : b.settings.threads ≡ (one_view m.0).beginning.settings.threads
    threads_are = ap (λ (b : Beginning). b.settings.threads) (sym h.begins)

    pub may_claim_seen : MayTryClaim (one_view m.0) → AllowsClaim b.settings.threads ran word → MayClaim (one_view n.0) word
    may_claim_seen may is = answered (λ (u : View). MayClaim u word) m n (looked (one_view m.0) 2 word) m.1 now
        (record {
          on = may.on;
          phase = may.phase;
          few_checkpoints = may.few_checkpoints;
          all_stand = subst (AllStand (arrival_of word).mask) threads_are is.all_stand;
          not_closing = is.not_closing;
          not_over = is.not_over;
          epoch = is.epoch ∙ h.ran_is;
        })

    pub claim_rests : MayTryClaim (one_view m.0) → (AllowsClaim b.settings.threads ran word → ⊥) → ClaimRests (one_view m.0) None (record { found = word; met = word }) (one_view n.0) None
    claim_rests may fails = record {
      cause = inl (record {
        forbidden = ⊎_elim
            (λ (ok : MayClaim (one_view m.0) word). absurd (fails (record { all_stand = subst (AllStand (arrival_of word).mask) (sym threads_are) ok.all_stand; not_closing = ok.not_closing; not_over = ok.not_over; epoch = ok.epoch ∙ sym h.ran_is })))
            (λ (f : ForbidsClaim (one_view m.0) word). f) (claim_is_decided (one_view m.0) word may);
        same = refl;
        view = ap one_view now.view;
      });
      world = tt;
    }

  -- RELEASE, behind a note
  module _ (c : ℕ) (now : IsNow m (entries_noted (one_view m.0) c) m.1 n) where
    pub may_release_noted : (over fed : Bool) → MayEndEpoch (one_view m.0) over fed → MayRelease (one_view n.0) over fed c
    may_release_noted over fed may = answered (λ (u : View). MayRelease u over fed c) m n (entries_noted (one_view m.0) c) m.1 now
        (record { on = may.note.on; phase = may.note.phase; nothing_held = may.note.nothing_held; all_done = may.note.all_done; noted = refl; learnt_fed = may.learnt_fed; is_over = may.is_over })

    -- the view still has the beginning and the epoch
    knows : ((one_view n.0).beginning ≡ b) × ((one_view n.0).ran ≡ ran)
    knows = (ap (λ (ks : List Known). (one_view ks).beginning) now.view ∙ h.begins, ap (λ (ks : List Known). (one_view ks).ran) now.view ∙ sym h.ran_is)

    pub word_is : (over fed : Bool) (word : ℕ) → word ≡ next_word b.settings.threads over fed (ran + 1) → word ≡ next_word (one_view n.0).beginning.settings.threads over fed ((one_view n.0).ran + 1)
    word_is over fed word e = e ∙ (λ j. next_word (sym knows.0 j).settings.threads over fed (sym knows.1 j + 1))

    pub own_grows : (q : SeatState) (over fed : Bool) (word : ℕ) → word ≡ next_word b.settings.threads over fed (ran + 1) → (one_view m.0).ran + 1 < 2 ^ 32 → q.0 ≡ with_release (one_known n.0) c word
        → ◌≡◌ {A = Option (List OwnMark)} (Some ((one_known q.0).own)) (Some ((one_known m.0).own ++ own_mark (ran + 1) (checkpoint_at c over) ∷ []))
    own_grows q over fed word e early t = ap (λ (ks : List Known). Some ((one_known ks).own)) t
        ∙ (λ j. Some ((one_known (now.view j)).own ++ own_mark (knows.1 j + 1) (checkpoint_at c (shown j)) ∷ []))
      where
        shown : is_set word 17 ≡ over
        shown = ap (λ (k : ℕ). is_set k 17) e ∙ (next_word_shows b.settings.threads over fed (ran + 1) h.few_threads (omega (arith, h.ran_is, early))).over

-- the room is home, and the answer is that of the view before the slot was filled
pub unlocked_home : (m n q : SeatState) (r : ℕ) (x : Room) (w : View) → n.0 ≡ m.0 → Unlocked (one_view n.0) None r x w None → IsNow n w [] q → Unlocked (one_view m.0) None r x (one_view q.0) None
unlocked_home m n q r x w stays a now = record {
  view = λ g e. ap one_view now.view ∙ (a.view g (ap (λ (ks : List Known). (one_view ks).grip) stays ∙ e) ∙ ap (λ (ks : List Known). freed (one_view ks) g x) stays);
  world = tt;
}

pub retreated_home : (m n q : SeatState) (r : ℕ) (x : Room) (w : View) → n.0 ≡ m.0 → Retreated (one_view n.0) None r x w None → IsNow n w [] q → Retreated (one_view m.0) None r x (one_view q.0) None
retreated_home m n q r x w stays a now = record {
  view = λ g e. ap one_view now.view ∙ (a.view g (ap (λ (ks : List Known). (one_view ks).grip) stays ∙ e) ∙ ap (λ (ks : List Known). retreated (one_view ks) g) stays);
  world = tt;
}
