-- What a step on the table owes: that in each state of the table it keeps the rule, and tells what its play says.
use Rattle.std.proofs.Common.{◌≡◌, ℕ, ◌+◌, ◌%◌, ◌^◌, ◌<◌, ◌≤◌, eqb, max, Bool, List, [], ◌∷◌, ◌++◌, get_or, sym, ap, ◌∙◌, subst, arith, Option, Some, None, bit_or}
use mathlib.Core.Option.{none}
use prog.Atomic.{either}
use Rattle.atomic_table.specs.Table.{step, carried_after, Allows}
use Rattle.atomic_table.proofs.Lists.{exchanged}
use Rattle.seq_object.specs.declared.history.Entry.{Entry}
use Rattle.restart_point.specs.declared.thread_end.ThreadEnd.{ThreadEnd}
use Rattle.restart_point.specs.ArrivalWord.{is_set}
use Rattle.rooms.specs.declared.room.Room.{Room}
use Rattle.yard_model.specs.declared.view.View.{View}
use Rattle.yard_model.specs.World.{dead}
use Rattle.yard_model.specs.Shares.{own_mark}
use Rattle.yard_model.specs.Views.{released}
use Rattle.yard_model.specs.Conditions.{MayLock, MayLeave, MayClaim, MayNote, MayRelease, MayTick}
use Rattle.yard_model.specs.Steps.{without_bit, with_bit, checkpoint_at}
use Rattle.room_yard.specs.Calls.{MayReturn, MayGiveUp, MayDrawEntry, MayTryStand}
use Rattle.room_yard.specs.Answers.{next_word, Unlocked, Retreated, Stood}
use Rattle.room_yard.proofs.Words.{next_word_shows}
use Rattle.shared_yard.specs.declared.known.Known.{Known}
use Rattle.shared_yard.specs.Rule.{IsLawfulTable, one_known, one_view}
use Rattle.shared_yard.specs.Plays.{SeatState, IsNow, TakesRoom, FindsHeld, Locks, Unlocks, Retreats, Draws, Stands, Looks, Leaves, Claims, Notes, Releases, Powers, Ticks, Offs, with_release}
use Rattle.shared_yard.proofs.Steps.{Can, look_can, stand_can, power_can, tick_can, off_can, draw_can, lock_can, held_can, unlock_can, retreat_can, leave_can, claim_can, note_can, release_can}

abbrev slot_no : List (ℕ × Option Room) → ℕ
slot_no [] = 0
slot_no (z ∷ zs) = z.0

abbrev room_or : Room → Option Room → Room
room_or x None = x
room_or x (Some y) = y

abbrev slot_in : Room → List (ℕ × Option Room) → Room
slot_in x [] = x
slot_in x (z ∷ zs) = room_or x z.1

some_one : (d c : ℕ) → Some d ≡ Some c → d ≡ c
some_one d c e = cc

-- what is released is of so many entries, and shows whether the life is over
released_so : (k : Known) (d c word : ℕ) (over : Bool) → d ≡ c → is_set word 17 ≡ over → record { view = released k.view; own = k.own ++ own_mark (k.view.ran + 1) (checkpoint_at c over) ∷ [] } ∷ [] ≡ with_release k d word
released_so k d c word over e f = λ j. record { view = released k.view; own = k.own ++ own_mark (k.view.ran + 1) (checkpoint_at (sym e j) (sym f j)) ∷ [] } ∷ []

same_room : (q r : ℕ) → 3 + q ≡ 3 + r → q ≡ r
same_room q r e = omega arith

-- WHAT EACH STEP OWES.

module _ (slots id : ℕ) (m : SeatState) (one : m.0 ≡ one_known m.0 ∷ []) where
  abbrev the : View
  the = one_view m.0

  pub look_allows : (i : ℕ) → Allows IsLawfulTable slots id m i (λ n. n) (Looks (step slots i 0 0 none) m)
  look_allows i s h deep at fits = look_can s h id m one at i

  pub stand_allows : (b : ℕ) → MayTryStand the → the.grip ≡ None → b ≡ 2 ^ the.thread → Allows IsLawfulTable slots id m 2 (λ n. bit_or n b) (Stands (step slots 2 b 0 none) m)
  stand_allows b may free is s h deep at fits = subst (λ (b : ℕ). Can s id m 2 (bit_or (get_or s.words 2 0) b) (λ n. (w : View) × Stood the None w None × IsNow m w m.1 n)) (sym is)
      (stand_can s h id m one at may free)

  pub power_allows : Allows IsLawfulTable slots id m 0 (λ n. n) (Powers (step slots 0 0 0 none) m)
  power_allows s h deep at fits = power_can s h id m one at

  pub tick_allows : MayTick the → Allows IsLawfulTable slots id m 0 (λ n. (n + 1) % 2 ^ 64) (Ticks (step slots 0 1 0 none) m)
  tick_allows may s h deep at fits = tick_can s h id m one at may

  pub off_allows : Allows IsLawfulTable slots id m 0 (λ n. max n (2 ^ 63)) (Offs (step slots 0 (2 ^ 63) 0 none) m)
  off_allows s h deep at fits = off_can s h id m one at

  pub draw_allows : (e : Entry) → MayDrawEntry the e → Allows IsLawfulTable slots id m 1 (λ n. (n + 1) % 2 ^ 64) (Draws e (step slots 1 1 0 none) m)
  draw_allows e may s h deep at fits = draw_can s h id m one at e may

  pub note_allows : MayNote the → Allows IsLawfulTable slots id m 1 (λ n. n) (Notes (step slots 1 0 0 none) m)
  note_allows may s h deep at fits = note_can s h id m one at may

  pub release_allows : (over fed : Bool) (c word : ℕ) → MayRelease the over fed c → word ≡ next_word the.beginning.settings.threads over fed (the.ran + 1) → the.beginning.settings.threads ≤ 16 → the.ran + 1 < 2 ^ 32
      → Allows IsLawfulTable slots id m 2 (λ _. word) (Releases (step slots 2 word 0 none) m)
  release_allows over fed c word may is few early s h deep at fits = let can = release_can s h id m one at over fed c may in
      let shown : is_set word 17 ≡ over = ap (λ (n : ℕ). is_set n 17) is ∙ (next_word_shows the.beginning.settings.threads over fed (the.ran + 1) few early).over in
      subst (λ (n : ℕ). Can s id m 2 n (Releases (step slots 2 word 0 none) m (get_or s.words 2 0))) (sym is)
      (can.0, can.1, can.2, can.3, (λ d e. (can.4.0 ∙ released_so (one_known m.0) d c word over (some_one d c (sym e ∙ may.noted)) shown, can.4.1)))

  pub lock_allows : (r i : ℕ) → i ≡ the.thread + 1 → MayLock the r → Allows IsLawfulTable slots id m (3 + r) (λ n. either (eqb n 0) i n) (Locks (step slots (3 + r) 0 i none) m)
  lock_allows r i is may s h deep at fits =
      exchanged (get_or s.words (3 + r) 0) 0 i (λ (n : ℕ). Can s id m (3 + r) n (Locks (step slots (3 + r) 0 i none) m (get_or s.words (3 + r) 0)))
      (λ e. let can = lock_can s h id m one at r may e in
      subst (λ (n : ℕ). Can s id m (3 + r) n (Locks (step slots (3 + r) 0 i none) m (get_or s.words (3 + r) 0))) (sym is)
      (can.0, can.1, can.2, can.3, (λ q p. ((λ _. subst (λ (r : ℕ). TakesRoom r m (can.0, carried_after m.1 can.1)) (same_room r q p) can.4), (λ n. absurd (n e))))))
      (λ n. let can = held_can s h id m one at r may n in
      (can.0, can.1, can.2, can.3, (λ q p. ((λ e. absurd (n e)), (λ _. subst (λ (z : ℕ). FindsHeld z (get_or s.words (3 + r) 0) m (can.0, carried_after m.1 can.1)) (same_room r q p) can.4)))))

  -- what is told of the room in the slot, for any name of it
  any_room : (P : ℕ → Room → SeatState → Type 0) (r : ℕ) (x : Room) (n : SeatState) → m.1 ≡ (r, Some x) ∷ [] → P r x n → (q : ℕ) (y : Room) → m.1 ≡ (q, Some y) ∷ [] → P q y n
  any_room P r x n e p q y f = let same : (r, Some x) ∷ [] ≡ (q, Some y) ∷ [] = sym e ∙ f in subst (λ (z : ℕ × Room). P z.0 z.1 n) (λ j. (slot_no (same j), slot_in x (same j))) p

  pub unlock_allows : (r : ℕ) (x : Room) → MayReturn the r x → m.1 ≡ (r, Some x) ∷ [] → Allows IsLawfulTable slots id m (3 + r) (λ _. 0) (Unlocks (step slots (3 + r) 0 0 none) m)
  unlock_allows r x may slot s h deep at fits = let can = unlock_can s h id m one at r x may slot in
      (can.0, can.1, can.2, can.3, any_room (λ r x n. (w : View) × Unlocked the None r x w None × IsNow m w [] n) r x (can.0, carried_after m.1 can.1) slot can.4)

  pub retreat_allows : (r : ℕ) (x : Room) → MayGiveUp the r x → m.1 ≡ (r, Some x) ∷ [] → Allows IsLawfulTable slots id m (3 + r) (λ _. dead) (Retreats (step slots (3 + r) dead 0 none) m)
  retreat_allows r x may slot s h deep at fits = let can = retreat_can s h id m one at r x may slot in
      (can.0, can.1, can.2, can.3, any_room (λ r x n. (w : View) × Retreated the None r x w None × IsNow m w [] n) r x (can.0, carried_after m.1 can.1) slot can.4)

  pub leave_allows : (end : ThreadEnd) (old new : ℕ) → MayLeave the end old → new ≡ without_bit old the.thread → Allows IsLawfulTable slots id m 2 (λ n. either (eqb n old) new n) (Leaves (step slots 2 old new none) m)
  leave_allows end old new may is s h deep at fits =
      exchanged (get_or s.words 2 0) old new (λ (n : ℕ). Can s id m 2 n (Leaves (step slots 2 old new none) m (get_or s.words 2 0)))
      (λ e. let can = leave_can s h id m one at end (subst (MayLeave the end) (sym e) may) in
      subst (λ (n : ℕ). Can s id m 2 n (Leaves (step slots 2 old new none) m (get_or s.words 2 0))) (ap (λ (w : ℕ). without_bit w the.thread) e ∙ sym is)
      (can.0, can.1, can.2, can.3, ((λ _. can.4), (λ n. absurd (n e)))))
      (λ n. let can = look_can s h id m one at 2 in (can.0, can.1, can.2, can.3, ((λ e. absurd (n e)), (λ _. can.4))))

  pub claim_allows : (old new : ℕ) → MayClaim the old → new ≡ with_bit old 16 → Allows IsLawfulTable slots id m 2 (λ n. either (eqb n old) new n) (Claims (step slots 2 old new none) m)
  claim_allows old new may is s h deep at fits =
      exchanged (get_or s.words 2 0) old new (λ (n : ℕ). Can s id m 2 n (Claims (step slots 2 old new none) m (get_or s.words 2 0)))
      (λ e. let can = claim_can s h id m one at (subst (MayClaim the) (sym e) may) in
      subst (λ (n : ℕ). Can s id m 2 n (Claims (step slots 2 old new none) m (get_or s.words 2 0))) (ap (λ (w : ℕ). with_bit w 16) e ∙ sym is)
      (can.0, can.1, can.2, can.3, ((λ _. can.4), (λ n. absurd (n e)))))
      (λ n. let can = look_can s h id m one at 2 in (can.0, can.1, can.2, can.3, ((λ e. absurd (n e)), (λ _. can.4))))
