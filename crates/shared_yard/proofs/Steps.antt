-- Each step of a thread on the table is one of the yard's, and keeps the rule.
use Rattle.std.proofs.Common.{◌≡◌, ◌≢◌, ℕ, zero, suc, ◌+◌, ◌%◌, ◌^◌, ◌<◌, ◌≤◌, nat_lt, nat_le, not, max, Bool, true, false, List, [], ◌∷◌, ◌++◌, map, get_or, set, sym, refl, ap, ◌∙◌, subst, arith, Option, Some, None, bit_or}
use mathlib.Core.Option.{some, none, some-injective, some-ne-none}
use mathlib.Core.Option as maybe
use lib.ListN.{get_elem?}
use Rattle.std.proofs.Math.Nat.{mod-eq_of_lt}
use lib.Seq.{map-set, set-get_or}
use Rattle.atomic_table.specs.Table.{Act, keeps, takes, gives, stepped, Valid, carried_after, put_back, rest}
use Rattle.seq_object.specs.declared.history.Entry.{Entry}
use Rattle.restart_point.specs.declared.thread_end.ThreadEnd.{ThreadEnd}
use Rattle.restart_point.specs.ArrivalWord.{arrival_of}
use Rattle.rooms.specs.declared.room.Room.{Room}
use Rattle.yard_model.specs.declared.view.Phase.TheVariants.{Standing, Closing}
use Rattle.yard_model.specs.declared.view.View.{View}
use Rattle.yard_model.specs.declared.view.Checkpoint.{Checkpoint}
use Rattle.yard_model.specs.Beginnings.{first_epoch, epoch_now, is_over}
use Rattle.yard_model.specs.World.{YardState, tick_word, clock, lock_of, dead, Shows}
use Rattle.yard_model.specs.Lawful.{Lawful}
use Rattle.yard_model.specs.Shares.{checkpoints_of, own_mark}
use Rattle.yard_model.specs.Views.{gripped, freed, retreated, left_in, stood, drew, claimed, entries_noted, released, looked, saw_power, ticked, turned_off}
use Rattle.yard_model.specs.Conditions.{MayLock, MayLeave, MayClaim, MayNote, MayRelease, MayTick}
use Rattle.yard_model.specs.Steps.{with_view, without_bit, with_bit, at_lock, at_unlock, at_retreat, at_stand, at_draw, at_tick, at_off, checkpoint_at}
use Rattle.yard_laws.proofs.Looks.{look_keeps, tick_fits}
use Rattle.yard_laws.proofs.Leave.{leave_keeps}
use Rattle.yard_laws.proofs.Claim.{claim_keeps}
use Rattle.yard_laws.proofs.Note.{note_keeps}
use Rattle.yard_laws.proofs.Clock.{draw_fits}
use Rattle.yard_laws.proofs.Epochs.{epoch_fits}
use Rattle.yard_laws.proofs.Release.{release_keeps}
use Rattle.room_yard.specs.Told.{Told, IsTold, in_world, with_entry}
use Rattle.room_yard.specs.Calls.{MayReturn, MayGiveUp, MayDrawEntry, MayTryStand}
use Rattle.room_yard.specs.Answers.{next_word, Locked, LockIsHeld, Unlocked, Retreated, Drew, Stood, SawPower}
use Rattle.room_yard.proofs.Words.{next_word_shows}
use Rattle.room_yard.proofs.Told.{lock_answers, held_answers, unlock_answers, retreat_answers, draw_answers, stand_answers, power_answers, tick_answers, off_answers}
use Rattle.shared_yard.specs.declared.known.Known.{Known}
use Rattle.shared_yard.specs.Rule.{TableState, home_of, yard_of, SawOver, IsLawfulTable, one_known, one_view, with_view_of}
use Rattle.shared_yard.specs.Plays.{SeatState, IsNow, TakesRoom, FindsHeld, DoesLeave, DoesClaim, DoesNote}
use Rattle.shared_yard.proofs.Seated.{told_of, is_told, saw_before, reseat, rerelease}

-- the slot k has the room x at home
at_home : (hs : List (maybe.Option (Option Room))) (k : ℕ) (x : Room) → get_elem? (map home_of hs) k ≡ some (Some x) → get_elem? hs k ≡ some (some (Some x))
at_home [] k x e = absurd (some-ne-none (Some x) (sym e))
at_home (none ∷ hs) zero x e = let e' : None ≡ Some x = some-injective None (Some x) e in absurd (cc)
at_home (some h ∷ hs) zero x e = ap (λ (h : Option Room). some (some h)) (some-injective h (Some x) e)
at_home (h ∷ hs) (suc k) x e = at_home hs k x e

told_lawful : (w : View) (b c : Told) → IsTold (Some b) w → b ≡ c → Lawful w.beginning c.world c.history c.checkpoints
told_lawful w b c t e = subst (λ (c : Told). Lawful w.beginning c.world c.history c.checkpoints) e t.0

-- a load or a failed exchange writes the word as it was
unmoved : (ws : List ℕ) (i : ℕ) → set ws i (get_or ws i 0) ≡ ws
unmoved ws i = set-get_or ws i 0

-- what `Allows` asks once the word is known to become n
abbrev pub Can : TableState → ℕ → SeatState → ℕ → ℕ → (SeatState → Type 0) → Type 0
Can s id m i n tells = (w : List Known) × (a : Act (Option Room)) × Valid s.homes m.1 a × IsLawfulTable (stepped s i n id m.1 w a) × tells (w, carried_after m.1 a)

module _ (s : TableState) (l : IsLawfulTable s) (id : ℕ) (m : SeatState) (one : m.0 ≡ one_known m.0 ∷ []) (at : get_elem? s.views id ≡ some m.0) where
  abbrev v : View
  v = one_view m.0

  abbrev world : YardState
  world = yard_of s.words s.homes l.views

  -- the checkpoints that were released
  abbrev cs : List Checkpoint
  cs = checkpoints_of l.releases

  at_one : get_elem? s.views id ≡ some (one_known m.0 ∷ [])
  at_one = at ∙ ap some one

  told_here : IsTold (Some (told_of s l)) v
  told_here = is_told s l id (one_known m.0) at_one

  -- what the thread saw before, and what it sees at a look
  abbrev SeesRightly : View → Type 0
  SeesRightly w = SawOver w → is_over w.beginning cs ≡ true

  before : (w u : View) → w ≡ u → u.beginning ≡ v.beginning → u.look ≡ v.look → SeesRightly w
  before w u e begins look = subst SeesRightly (sym e) (saw_before s l id (one_known m.0) at_one u begins look)

  sees : (i : ℕ) → SeesRightly (looked v i (get_or s.words i 0))
  sees i saw = sym told_here.0.arrival.word.over ∙ (ap (λ (i : ℕ). (arrival_of (get_or s.words i 0)).over) (sym saw.word) ∙ saw.shown)

  -- a step that moves no room
  quiet_can : (w : View) (i n : ℕ) (h : List Entry) (tells : SeatState → Type 0) → w.thread ≡ v.thread → w.beginning ≡ v.beginning → SeesRightly w
      → Lawful w.beginning (record { words = set s.words i n; rooms = map home_of s.homes; views = set l.views v.thread w }) h cs
      → tells (with_view_of (one_known m.0) w ∷ [], m.1) → Can s id m i n tells
  quiet_can w i n h tells same begins saw lawful says = (with_view_of (one_known m.0) w ∷ [], keeps, tt, (reseat s l id (one_known m.0) at_one w (set s.words i n) s.homes h same begins saw lawful), says)

  -- a step that changes the view alone
  still_can : (w : View) (i : ℕ) (tells : SeatState → Type 0) → w.thread ≡ v.thread → w.beginning ≡ v.beginning → SeesRightly w → Lawful w.beginning (with_view world v.thread w) l.history cs
      → tells (with_view_of (one_known m.0) w ∷ [], m.1) → Can s id m i (get_or s.words i 0) tells
  still_can w i tells same begins saw lawful says = quiet_can w i (get_or s.words i 0) l.history tells same begins saw
      (subst (λ (ws : List ℕ). Lawful w.beginning (record { words = ws; rooms = map home_of s.homes; views = set l.views v.thread w }) l.history cs) (sym (unmoved s.words i)) lawful) says

  now : (w : View) (out : List (ℕ × Option Room)) → IsNow m w out (with_view_of (one_known m.0) w ∷ [], out)
  now w out = record { view = refl; slots_are = refl }

  pub look_can : (i : ℕ) → Can s id m i (get_or s.words i 0) (IsNow m (looked v i (get_or s.words i 0)) m.1)
  look_can i = still_can (looked v i (get_or s.words i 0)) i (IsNow m (looked v i (get_or s.words i 0)) m.1) refl refl (sees i)
      (look_keeps v.beginning world l.history cs v.thread v i (get_or s.words i 0) told_here.0 told_here.1) (now (looked v i (get_or s.words i 0)) m.1)

  pub stand_can : MayTryStand v → v.grip ≡ None → Can s id m 2 (bit_or (get_or s.words 2 0) (2 ^ v.thread)) (λ n. (w : View) × Stood v None w None × IsNow m w m.1 n)
  stand_can may free = let z = stand_answers (told_of s l) v told_here may free in by z.0 z.1 z.2 z.3
    where
      by : (w : View) (b : Told) → IsTold (Some b) w → Stood v (Some (told_of s l)) w (Some b)
          → Can s id m 2 (bit_or (get_or s.words 2 0) (2 ^ v.thread)) (λ n. (w : View) × Stood v None w None × IsNow m w m.1 n)
      by w b t a = quiet_can w 2 (bit_or (get_or s.words 2 0) (2 ^ v.thread)) l.history (λ n. (w : View) × Stood v None w None × IsNow m w m.1 n) (ap (λ (w : View). w.thread) a.view) (ap (λ (w : View). w.beginning) a.view) (before w (stood v) a.view refl refl)
          (told_lawful w b (in_world (told_of s l) (at_stand world v.thread w)) t a.world)
          (w, record { allowed = a.allowed; view = a.view; world = tt }, now w m.1)

  pub power_can : Can s id m 0 (get_or s.words 0 0) (λ n. (w : View) × SawPower v None (not (nat_le v.beginning.limit (get_or s.words 0 0))) w None × IsNow m w m.1 n)
  power_can = let z = power_answers (told_of s l) v told_here in by z.0 z.1 z.2 z.3
    where
      by : (w : View) (b : Told) → IsTold (Some b) w → SawPower v (Some (told_of s l)) (not (nat_le v.beginning.limit (tick_word world))) w (Some b)
          → Can s id m 0 (get_or s.words 0 0) (λ n. (w : View) × SawPower v None (not (nat_le v.beginning.limit (get_or s.words 0 0))) w None × IsNow m w m.1 n)
      by w b t a = still_can w 0 (λ n. (w : View) × SawPower v None (not (nat_le v.beginning.limit (get_or s.words 0 0))) w None × IsNow m w m.1 n) (ap (λ (w : View). w.thread) a.view) (ap (λ (w : View). w.beginning) a.view) (before w (saw_power v a.found) a.view refl refl)
          (told_lawful w b (in_world (told_of s l) (with_view world v.thread w)) t a.world.1)
          (w, record { found = a.found; is = a.is; view = a.view; stays_off = a.stays_off; few_ticks = a.few_ticks; world = tt }, now w m.1)

  pub tick_can : MayTick v → Can s id m 0 ((get_or s.words 0 0 + 1) % 2 ^ 64) (IsNow m (ticked v) m.1)
  tick_can may = let z = tick_answers (told_of s l) v told_here may in by z.0 z.1 z.2 z.3.view z.3.world
    where
      fits : (get_or s.words 0 0 + 1) % 2 ^ 64 ≡ get_or s.words 0 0 + 1
      fits = mod-eq_of_lt (tick_fits v.beginning world l.history cs told_here.0)

      by : (w : View) (b : Told) → IsTold (Some b) w → w ≡ ticked v → b ≡ in_world (told_of s l) (at_tick world v.thread w) → Can s id m 0 ((get_or s.words 0 0 + 1) % 2 ^ 64) (IsNow m (ticked v) m.1)
      by w b t is e = quiet_can w 0 ((get_or s.words 0 0 + 1) % 2 ^ 64) l.history (IsNow m (ticked v) m.1) (ap (λ (w : View). w.thread) is) (ap (λ (w : View). w.beginning) is) (before w (ticked v) is refl refl)
          (subst (λ (n : ℕ). Lawful w.beginning (record { words = set s.words 0 n; rooms = map home_of s.homes; views = set l.views v.thread w }) l.history cs) (sym fits)
          (told_lawful w b (in_world (told_of s l) (at_tick world v.thread w)) t e))
          (record { view = ap (λ (w : View). with_view_of (one_known m.0) w ∷ []) is; slots_are = refl })

  pub off_can : Can s id m 0 (max (get_or s.words 0 0) (2 ^ 63)) (IsNow m (turned_off v) m.1)
  off_can = let z = off_answers (told_of s l) v told_here in by z.0 z.1 z.2 z.3.view z.3.world
    where
      by : (w : View) (b : Told) → IsTold (Some b) w → w ≡ turned_off v → b ≡ in_world (told_of s l) (at_off world v.thread w) → Can s id m 0 (max (get_or s.words 0 0) (2 ^ 63)) (IsNow m (turned_off v) m.1)
      by w b t is e = quiet_can w 0 (max (get_or s.words 0 0) (2 ^ 63)) l.history (IsNow m (turned_off v) m.1) (ap (λ (w : View). w.thread) is) (ap (λ (w : View). w.beginning) is) (before w (turned_off v) is refl refl)
          (told_lawful w b (in_world (told_of s l) (at_off world v.thread w)) t e)
          (record { view = ap (λ (w : View). with_view_of (one_known m.0) w ∷ []) is; slots_are = refl })

  pub draw_can : (e : Entry) → MayDrawEntry v e → Can s id m 1 ((get_or s.words 1 0 + 1) % 2 ^ 64) (λ n. (w : View) × Drew v None e (get_or s.words 1 0) w None × IsNow m w m.1 n)
  draw_can e may = let z = draw_answers (told_of s l) v e told_here may in by z.0 z.1 z.2 z.3
    where
      fits : (get_or s.words 1 0 + 1) % 2 ^ 64 ≡ get_or s.words 1 0 + 1
      fits = let few = draw_fits v.beginning world l.history cs v.thread v may.0 e told_here.0 told_here.1 may.1 in mod-eq_of_lt (omega (arith, few))

      by : (w : View) (b : Told) → IsTold (Some b) w → Drew v (Some (told_of s l)) e (clock world) w (Some b)
          → Can s id m 1 ((get_or s.words 1 0 + 1) % 2 ^ 64) (λ n. (w : View) × Drew v None e (get_or s.words 1 0) w None × IsNow m w m.1 n)
      by w b t a = quiet_can w 1 ((get_or s.words 1 0 + 1) % 2 ^ 64) (l.history ++ e ∷ []) (λ n. (w : View) × Drew v None e (get_or s.words 1 0) w None × IsNow m w m.1 n)
          (ap (λ (w : View). w.thread) (a.view may.0 may.1.held)) (ap (λ (w : View). w.beginning) (a.view may.0 may.1.held)) (before w (drew v may.0 (clock world) e) (a.view may.0 may.1.held) refl refl)
          (subst (λ (n : ℕ). Lawful w.beginning (record { words = set s.words 1 n; rooms = map home_of s.homes; views = set l.views v.thread w }) (l.history ++ e ∷ []) cs) (sym fits)
          (told_lawful w b (with_entry (told_of s l) (at_draw world v.thread w) e) t a.world.1))
          (w, record { view = a.view; world = tt }, now w m.1)

  -- LOCK.
  pub lock_can : (r : ℕ) → MayLock v r → lock_of world r ≡ 0 → Can s id m (3 + r) (v.thread + 1) (TakesRoom r m)
  lock_can r may free = let z = lock_answers (told_of s l) v r told_here may free in by z.0 z.1.0 z.1.1 z.1.2 z.1.3
    where
      by : (x : Room) (w : View) (b : Told) → IsTold (Some b) w → Locked v (Some (told_of s l)) r x w (Some b) → Can s id m (3 + r) (v.thread + 1) (TakesRoom r m)
      by x w b t a = (
        with_view_of (one_known m.0) w ∷ [],
        takes r (Some x),
        at_home s.homes r x a.world.1,
        (reseat s l id (one_known m.0) at_one w (set s.words (3 + r) (v.thread + 1)) (set s.homes r none) l.history (ap (λ (w : View). w.thread) a.view) (ap (λ (w : View). w.beginning) a.view) (before w (gripped v r x a.covered) a.view refl refl)
            (subst (λ (rs : List (Option Room)). Lawful w.beginning (record { words = set s.words (3 + r) (v.thread + 1); rooms = rs; views = set l.views v.thread w }) l.history cs) (sym (map-set home_of s.homes r none))
            (told_lawful w b (in_world (told_of s l) (at_lock world v.thread r w)) t a.world.3))),
        record { room = x; view = w; answer = record { covered = a.covered; given = a.given; early = a.early; view = a.view; world = tt }; now = now w ((r, Some x) ∷ m.1) },
      )

  pub held_can : (r : ℕ) → MayLock v r → lock_of world r ≢ 0 → Can s id m (3 + r) (get_or s.words (3 + r) 0) (FindsHeld r (get_or s.words (3 + r) 0) m)
  held_can r may taken = let z = held_answers (told_of s l) v r told_here may taken in by z.0 z.1 z.2 z.3
    where
      by : (w : View) (b : Told) → IsTold (Some b) w → LockIsHeld v (Some (told_of s l)) r (record { by = lock_of world r }) w (Some b) → Can s id m (3 + r) (get_or s.words (3 + r) 0) (FindsHeld r (get_or s.words (3 + r) 0) m)
      by w b t a = still_can w (3 + r) (FindsHeld r (get_or s.words (3 + r) 0) m) (ap (λ (w : View). w.thread) a.view) (ap (λ (w : View). w.beginning) a.view) (subst SeesRightly (sym a.view) (sees (3 + r)))
          (told_lawful w b (in_world (told_of s l) (with_view world v.thread w)) t a.world.1)
          (record { view = w; answer = record { taken = a.taken; not_closing = a.not_closing; view = a.view; world = tt }; now = now w m.1 })

  -- UNLOCK and RETREAT: the room in the slot goes home
  home_can : (r n : ℕ) (x : Room) (w : View) (tells : SeatState → Type 0) → m.1 ≡ (r, Some x) ∷ [] → w.thread ≡ v.thread → w.beginning ≡ v.beginning → SeesRightly w
      → Lawful w.beginning (record { words = set s.words (3 + r) n; rooms = set (map home_of s.homes) r (Some x); views = set l.views v.thread w }) l.history cs
      → tells (with_view_of (one_known m.0) w ∷ [], rest m.1) → Can s id m (3 + r) n tells
  home_can r n x w tells slot same begins saw lawful says = (
    with_view_of (one_known m.0) w ∷ [],
    gives,
    tt,
    (reseat s l id (one_known m.0) at_one w (set s.words (3 + r) n) (put_back s.homes m.1) l.history same begins saw
        (subst (λ (rs : List (Option Room)). Lawful w.beginning (record { words = set s.words (3 + r) n; rooms = rs; views = set l.views v.thread w }) l.history cs)
        (sym (ap (λ (c : List (ℕ × Option Room)). map home_of (put_back s.homes c)) slot ∙ map-set home_of s.homes r (some (Some x)))) lawful)),
    says,
  )

  pub unlock_can : (r : ℕ) (x : Room) → MayReturn v r x → m.1 ≡ (r, Some x) ∷ [] → Can s id m (3 + r) 0 (λ n. (w : View) × Unlocked v None r x w None × IsNow m w [] n)
  unlock_can r x may slot = let z = unlock_answers (told_of s l) v r x told_here may in by z.0 z.1 z.2 z.3
    where
      by : (w : View) (b : Told) → IsTold (Some b) w → Unlocked v (Some (told_of s l)) r x w (Some b) → Can s id m (3 + r) 0 (λ n. (w : View) × Unlocked v None r x w None × IsNow m w [] n)
      by w b t a = home_can r 0 x w (λ n. (w : View) × Unlocked v None r x w None × IsNow m w [] n) slot
          (ap (λ (w : View). w.thread) (a.view may.0 may.2.held)) (ap (λ (w : View). w.beginning) (a.view may.0 may.2.held)) (before w (freed v may.0 x) (a.view may.0 may.2.held) refl refl)
          (told_lawful w b (in_world (told_of s l) (at_unlock world v.thread r x w)) t a.world)
          (w, record { view = a.view; world = tt }, record { view = refl; slots_are = ap rest slot })

  pub retreat_can : (r : ℕ) (x : Room) → MayGiveUp v r x → m.1 ≡ (r, Some x) ∷ [] → Can s id m (3 + r) dead (λ n. (w : View) × Retreated v None r x w None × IsNow m w [] n)
  retreat_can r x may slot = let z = retreat_answers (told_of s l) v r x told_here may in by z.0 z.1 z.2 z.3
    where
      by : (w : View) (b : Told) → IsTold (Some b) w → Retreated v (Some (told_of s l)) r x w (Some b) → Can s id m (3 + r) dead (λ n. (w : View) × Retreated v None r x w None × IsNow m w [] n)
      by w b t a = home_can r dead x w (λ n. (w : View) × Retreated v None r x w None × IsNow m w [] n) slot
          (ap (λ (w : View). w.thread) (a.view may.0 may.2.held)) (ap (λ (w : View). w.beginning) (a.view may.0 may.2.held)) (before w (retreated v may.0) (a.view may.0 may.2.held) refl refl)
          (told_lawful w b (in_world (told_of s l) (at_retreat world v.thread r x w)) t a.world)
          (w, record { view = a.view; world = tt }, record { view = refl; slots_are = ap rest slot })

  -- LEAVE, CLAIM and NOTE, each behind a look or before another step
  pub leave_can : (end : ThreadEnd) → MayLeave v end (get_or s.words 2 0) → Can s id m 2 (without_bit (get_or s.words 2 0) v.thread) (DoesLeave m (arrival_of (get_or s.words 2 0)).epoch)
  leave_can end may = quiet_can w 2 (without_bit (get_or s.words 2 0) v.thread) l.history (DoesLeave m (arrival_of (get_or s.words 2 0)).epoch) refl refl (before w w refl refl refl)
      (leave_keeps v.beginning world l.history cs v.thread v end told_here.0 told_here.1 may) (record { within = within; now = now w m.1 })
    where
      w : View
      w = left_in v (arrival_of (get_or s.words 2 0)).epoch

      within : first_epoch v.beginning ≤ (arrival_of (get_or s.words 2 0)).epoch
      within = let shown = told_here.0.arrival.word.epoch in omega (arith, shown)

  pub claim_can : MayClaim v (get_or s.words 2 0) → Can s id m 2 (with_bit (get_or s.words 2 0) 16) (DoesClaim m)
  claim_can may = quiet_can (claimed v) 2 (with_bit (get_or s.words 2 0) 16) l.history (DoesClaim m) refl refl (before (claimed v) (claimed v) refl refl refl)
      (claim_keeps v.beginning world l.history cs v.thread v told_here.0 told_here.1 may) (record { ran = some; within = within; once = once; now = now (claimed v) m.1 })
    where
      -- the word shows the epoch, in which the thread last ran
      ran_now : v.ran ≡ epoch_now v.beginning cs
      ran_now = sym may.epoch ∙ told_here.0.arrival.word.epoch

      within : first_epoch v.beginning ≤ v.ran
      within = let n = ran_now in omega (arith, n)

      some : 0 < v.ran
      some = let n = ran_now in let one = told_here.0.bounds.beginning.epoch in omega (arith, n, one)

      once : v.last_checkpoint ≤ v.ran
      once = let n = ran_now in let last = told_here.0.epochs.last v.thread v told_here.1 in omega (arith, n, last)

  -- a thread that closes ran in this epoch
  runs : v.phase ≡ Closing → v.ran ≡ epoch_now v.beginning cs
  runs closing = (told_here.0.epochs.views v.thread v told_here.1).runs (λ (e : v.phase ≡ Standing). let f : Standing ≡ Closing = sym e ∙ closing in absurd (cc))

  early : v.phase ≡ Closing → v.ran + 1 < 2 ^ 32
  early closing = let fits = epoch_fits v.beginning world l.history cs told_here.0 in let ran = runs closing in omega (arith, fits, ran)

  pub note_can : MayNote v → Can s id m 1 (get_or s.words 1 0) (DoesNote m (get_or s.words 1 0))
  note_can may = still_can (entries_noted v (get_or s.words 1 0)) 1 (DoesNote m (get_or s.words 1 0)) refl refl (before (entries_noted v (get_or s.words 1 0)) (entries_noted v (get_or s.words 1 0)) refl refl refl)
      (note_keeps v.beginning world l.history cs v.thread v told_here.0 told_here.1 may) (record { early = early may.phase; now = now (entries_noted v (get_or s.words 1 0)) m.1 })

  -- RELEASE.
  pub release_can : (over fed : Bool) (c : ℕ) → MayRelease v over fed c → Can s id m 2 (next_word v.beginning.settings.threads over fed (v.ran + 1))
      (λ n. (n.0 ≡ record { view = released v; own = (one_known m.0).own ++ own_mark (v.ran + 1) (checkpoint_at c over) ∷ [] } ∷ []) × (n.1 ≡ m.1))
  release_can over fed c may = (
    record { view = released v; own = (one_known m.0).own ++ own_mark (v.ran + 1) (checkpoint_at c over) ∷ [] } ∷ [],
    keeps,
    tt,
    (rerelease s l id (one_known m.0) at_one (released v) (checkpoint_at c over) (set s.words 2 (next_word v.beginning.settings.threads over fed (v.ran + 1))) (v.ran + 1) (ap (λ (n : ℕ). n + 1) (runs may.phase)) refl refl refl goes_on
        (release_keeps v.beginning world l.history cs v.thread v over fed c (next_word v.beginning.settings.threads over fed (v.ran + 1)) told_here.0 told_here.1 may shows)),
    (refl, refl),
  )
    where
      -- while a thread closes the life is not over
      goes_on : is_over v.beginning cs ≡ true → ⊥
      goes_on over = let f : Standing ≡ Closing = sym (told_here.0.arrival.over_stands v.thread v told_here.1 over) ∙ may.phase in absurd (cc)

      shows : Shows (next_word v.beginning.settings.threads over fed (v.ran + 1)) (λ (i : ℕ). nat_lt i v.beginning.settings.threads) false over fed (v.ran + 1)
      shows = next_word_shows v.beginning.settings.threads over fed (v.ran + 1) told_here.0.bounds.beginning.settings.sizes.few_threads (early may.phase)
