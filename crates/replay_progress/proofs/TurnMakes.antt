-- How the rows of a turn are put together: the replay goes on right, and the turn is one of its progress.
use Rattle.std.proofs.Common.{◌≡◌, ◌≢◌, ℕ, zero, suc, ◌-◌, ◌+◌, ◌≤◌, ◌<◌, ◌⊎◌, inl, inr, Bool, true, false, List, length, set, Option, Some, None, refl, sym, ap, ◌∙◌, subst, arith}
use Rattle.std.specs.Prelude.{nat_lt}
use Rattle.std.proofs.lemmas.Bool.{lt-ltb}
use mathlib.Core.Option.{some}
use lib.ListN.{get_elem?}
use Rattle.seq_object.specs.declared.command.Command.{Command}
use Rattle.seq_object.specs.Sizes.{room_count}
use Rattle.restart_point.specs.declared.thread_end.ThreadEnd.{ThreadEnd}
use Rattle.rooms.specs.declared.room.Room.{Room}
use Rattle.rooms.specs.Rooms.{bank_of, end_of}
use Rattle.yard_model.specs.declared.view.Phase.{Phase}
use Rattle.yard_model.specs.declared.view.Phase.TheVariants.{Standing, Running, Closing}
use Rattle.yard_model.specs.Knows.{stands, is_closing}
use Rattle.room_yard.specs.Told.{Told}
use Rattle.yard_model.specs.declared.view.View.{View}
use Rattle.yard_model.specs.declared.view.Grip.{Grip}
use Rattle.yard_model.specs.Beginnings.{sizes_at, write_backs_at}
use Rattle.yard_model.specs.World.{Home}
use Rattle.yard_model.specs.WriteBacks.{rise_of}
use Rattle.yard_laws.proofs.Arrivals.{below_threads}
use Rattle.yard_laws.proofs.Lists.{set_here, set_else}
use Rattle.plain_yard.specs.Shown.{view_at}
use Rattle.worker_model.specs.declared.hand.Hand.{Hand}
use Rattle.worker_model.specs.Workers.{WorkerState, ahead}
use Rattle.replay_model.specs.Replays.{ReplayState}
use Rattle.rounds.specs.Progress.{Activity}
use Rattle.rounds.specs.Events.{ThreadEvent, ClosesByWriteBack, MayHappen, ThreadBehind, shared_behind, MakesTurn, RestsOrWaits}
use Rattle.replay_progress.specs.Shown.{activity_of, shown_by, room_in, GoesOnRight}
use Rattle.replay_progress.proofs.TurnRooms.{viewed, IsAt, IsTurn, ChangesRoom, KeepsRooms, worker_here, changed}
use Rattle.replay_progress.proofs.TurnShown.{worker_shown, next_in, shared_of, next_same, quiet_event, rests_same}
use Rattle.replay_progress.proofs.TurnKept.{GoesOnIn, GoesOnWith, own_room, right_calm, right_changed, right_written, counts_behind, rises}

-- what a progress has of a worker, beside what it is about
abbrev pub fields_of : WorkerState → ℕ × ℕ × Bool × Bool × ThreadEnd
fields_of c = (c.epoch, c.quota - ahead c.hand, c.wrote, c.found_empty, c.end)

abbrev pub fields_with : WorkerState → Hand → ℕ × ℕ × Bool × Bool × ThreadEnd
fields_with c hand = (c.epoch, c.quota - ahead hand, c.wrote, c.found_empty, c.end)

-- the turn of this thread is one of the progress, and the replay goes on right
abbrev pub Shows : (i : ℕ) (s s' : ReplayState) → GoesOnRight s → Type 0
Shows i s s' right = (right' : GoesOnRight s') × MakesTurn (sizes_at s.yard.beginning) s.yard.beginning.settings.every i
    (shown_by s (rise_of s.yard.beginning right.counts)) (shown_by s' (rise_of s.yard.beginning right'.counts))

-- a phase that is this one is not that of a thread that stands
pub running_moves : (p : Phase) → p ≡ Running → p ≢ Standing
running_moves p is q = let e : false ≡ true = sym (ap stands is) ∙ ap stands q in absurd (grind arith)

pub closing_moves : (p : Phase) → p ≡ Closing → p ≢ Standing
closing_moves p is q = let e : true ≡ false = sym (ap is_closing is) ∙ ap is_closing q in absurd (grind arith)

-- some are left, or none
pub some_left : (n : ℕ) → nat_lt 0 n ≡ true → 0 < n
some_left zero is = let e : false ≡ true = is in absurd (grind arith)
some_left (suc n) is = omega arith

pub none_left : (n : ℕ) → nat_lt 0 n ≡ false → n ≡ 0
none_left zero is = refl
none_left (suc n) is = let e : true ≡ false = sym (lt-ltb 0 (suc n) (omega arith)) ∙ is in absurd (grind arith)

-- the state that is told is one
pub same_told : (a b : Told) → Some b ≡ Some a → b ≡ a
same_told a b e = cc

-- a thread that differs in what it is about
pub same_but : (c d : WorkerState) (p q : Phase) (next next' : Option Command) (activity : Activity) → fields_of d ≡ fields_of c → next' ≡ next → activity_of d.hand q ≡ activity
    → worker_shown d q next' ≡ record (worker_shown c p next) { activity = activity }
same_but c d p q next next' activity same nexts about = λ k. record {
  activity = about k;
  ran = (same k).0;
  quota = (same k).1;
  wrote = (same k).2;
  found_empty = (same k).3;
  next = nexts k;
  end = (same k).4;
}

module _ (i : ℕ) (s s' : ReplayState) (c d : WorkerState) (turn : IsTurn i s s' c d) (right : GoesOnRight s) where
  abbrev v : View
  v = view_at s.yard i

  abbrev u : View
  u = view_at s'.yard i

  abbrev pub rise : ℕ
  rise = rise_of s.yard.beginning right.counts

  pub is_thread : i < (sizes_at s.yard.beginning).threads
  is_thread = below_threads s.yard.beginning s.yard.told.world s.yard.told.history s.yard.told.checkpoints turn.before.lawful i v (viewed s turn.before i c turn.is_worker)

  pub on_before : v.saw_off ≡ false
  on_before = right.on i (let n = turn.before.number in let t = is_thread in let w = turn.before.lawful.sized.views in omega (arith, n, t, w))

  abbrev pub May : ThreadEvent → Type 0
  May e = MayHappen (sizes_at s.yard.beginning) e (shared_of s rise) (worker_shown c v.phase (next_in s i))

  abbrev pub Behind : ThreadEvent → Type 0
  Behind e = ThreadBehind e s.yard.beginning.settings.every (shared_of s rise) (worker_shown c v.phase (next_in s i)) (worker_shown d u.phase (next_in s' i))

  module _ (history : s'.yard.told.history ≡ s.yard.told.history) (checkpoints : s'.yard.told.checkpoints ≡ s.yard.told.checkpoints) where
    pub next_here : next_in s' i ≡ next_in s i
    next_here = next_same i s s' c d turn rise rise history checkpoints i

    makes : (counts : ℕ → ℕ) (right' : GoesOnWith s' counts) (e : ThreadEvent) → May e → Behind e
        → record (shared_of s rise) { write_backs = rise_of s.yard.beginning counts } ≡ shared_behind e (shared_of s rise) → Shows i s s' right
    makes counts right' e may behind shared = (
      right'.0,
      (
        is_thread,
        inl (quiet_event i s s' c d turn rise (rise_of s.yard.beginning right'.0.counts) history checkpoints e may behind
            ((λ k. record (shared_of s rise) { write_backs = rise_of s.yard.beginning (right'.1 k) }) ∙ shared)),
      ),
    )

    module _ (on : u.saw_off ≡ false) (going : GoesOnIn s') where
      -- an event that moves no room
      pub calm_event : d.end ≡ c.end → KeepsRooms s s' → (e : ThreadEvent) → May e → Behind e → shared_of s rise ≡ shared_behind e (shared_of s rise) → Shows i s s' right
      calm_event same keeps e may behind shared = makes right.counts (right_calm i s s' c d turn right on going same keeps) e may behind shared

      -- a turn that changes nothing of the progress
      pub rests : d.end ≡ c.end → KeepsRooms s s' → worker_shown d u.phase (next_in s' i) ≡ worker_shown c v.phase (next_in s i)
          → RestsOrWaits (sizes_at s.yard.beginning) (shown_by s rise) i → Shows i s s' right
      rests same keeps shown waits =
          let right' = right_calm i s s' c d turn right on going same keeps in
          (right'.0, (is_thread, inr (waits, rests_same i s s' c d turn rise (rise_of s.yard.beginning right'.0.counts) history checkpoints (ap (rise_of s.yard.beginning) right'.1) shown)))

      module _ (r : ℕ) (x y : Room) (changes : ChangesRoom s s' r x y) (ends : ((d.end ≡ c.end) × (end_of y ≡ end_of x)) ⊎ ((r ≡ own_room s i) × (d.end ≡ end_of y))) where
        -- an event on one room that is no write-back
        pub room_event : (bank_of y).write_backs ≡ (bank_of x).write_backs → (e : ThreadEvent) → May e → Behind e → shared_of s rise ≡ shared_behind e (shared_of s rise) → Shows i s s' right
        room_event none e may behind shared = makes right.counts (right_changed i s s' c d turn right on going r x y changes ends none) e may behind shared

        -- a write-back
        pub write_back : r < room_count (sizes_at s.yard.beginning) → write_backs_at s.yard.beginning r ≤ (bank_of x).write_backs → (bank_of y).write_backs ≡ (bank_of x).write_backs + 1
            → May ClosesByWriteBack → Behind ClosesByWriteBack → Shows i s s' right
        write_back lt no_fewer more may behind =
            let risen = rises i s s' c d turn right on going r x y changes ends lt no_fewer more in
            makes (counts_behind i s s' c d turn right on going r x y changes ends) (right_written i s s' c d turn right on going r x y changes ends) ClosesByWriteBack may behind
            (let one : rise + 1 ≡ suc rise = omega arith in
            λ k. record (shared_of s rise) { write_backs = (risen ∙ one) k })

-- HOW A ROOM MOVES. A room in the thread's hand stays there, or comes to it, or goes home.
module _ (i : ℕ) (s s' : ReplayState) (c d : WorkerState) (turn : IsTurn i s s' c d) (g : Grip) (x y : Room) where
  abbrev HandAt : ReplayState → WorkerState → Room → Grip → Type 0
  HandAt t e z k = (room_in e.hand ≡ Some z) × ((view_at t.yard i).grip ≡ Some k)

  was_in_hand : HandAt s c x g → IsAt s g.room x
  was_in_hand was = inr (record { thread = i; worker = c; grip = g; is_worker = turn.is_worker; in_hand = was.0; held = was.1; room = refl })

  module _ (k : Grip) (number : k.room ≡ g.room) (now : HandAt s' d y k) where
    is_in_hand : IsAt s' g.room y
    is_in_hand = inr (record { thread = i; worker = d; grip = k; is_worker = worker_here i s s' c d turn; in_hand = now.0; held = now.1; room = number })

    own_number : (z : Room) (o : Grip) → room_in d.hand ≡ Some z → (view_at s'.yard i).grip ≡ Some o → o.room ≡ g.room
    own_number z o in_hand held = let q : Some k ≡ Some o = sym now.1 ∙ held in let e : o ≡ k = cc in ap (λ (a : Grip). a.room) e ∙ number

    pub stays_in_hand : HandAt s c x g → s'.yard.told.world.rooms ≡ s.yard.told.world.rooms → ChangesRoom s s' g.room x y
    stays_in_hand was rooms = changed i s s' c d turn g.room x y (was_in_hand was) is_in_hand
        (λ n z ne home. subst (λ (l : List (Option Room)). get_elem? l n ≡ some (Some z)) rooms home) own_number

    pub comes_to_hand : Home s.yard.told.world g.room x → s'.yard.told.world.rooms ≡ set s.yard.told.world.rooms g.room None → ChangesRoom s s' g.room x y
    comes_to_hand home rooms = changed i s s' c d turn g.room x y (inl home) is_in_hand
        (λ n z ne at. sym (set_else s.yard.told.world.rooms g.room n None ne) ∙ (sym (ap (λ (l : List (Option Room)). get_elem? l n) rooms) ∙ at)) own_number

  pub goes_home : HandAt s c x g → s'.yard.told.world.rooms ≡ set s.yard.told.world.rooms g.room (Some y) → ((z : Room) → room_in d.hand ≡ Some z → ⊥) → ChangesRoom s s' g.room x y
  goes_home was rooms none = changed i s s' c d turn g.room x y (was_in_hand was)
      (inl (ap (λ (l : List (Option Room)). get_elem? l g.room) rooms ∙ set_here s.yard.told.world.rooms g.room (Some y) within))
      (λ n z ne at. sym (set_else s.yard.told.world.rooms g.room n (Some y) ne) ∙ (sym (ap (λ (l : List (Option Room)). get_elem? l n) rooms) ∙ at))
      (λ z o in_hand held. absurd (none z in_hand))
    where
      within : g.room < length s.yard.told.world.rooms
      within =
          let lt = ((turn.before.lawful.locks.views i (view_at s.yard i) (viewed s turn.before i c turn.is_worker)).may_hold g was.1).1 in
          let n = turn.before.lawful.sized.rooms in
          omega (arith, lt, n)
