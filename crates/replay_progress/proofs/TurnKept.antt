-- What a turn leaves of a replay that goes on right.
use Rattle.std.proofs.Common.{◌≡◌, ◌≢◌, ℕ, ◌+◌, ◌-◌, ◌<◌, ◌≤◌, ◌^◌, ◌⊎◌, inl, inr, Bool, true, false, List, length, Option, Some, refl, sym, ap, ◌∙◌, subst, arith, length-set, eq-eqb, if◌then◌else◌}
use Rattle.std.specs.Prelude.{slice_get}
use Rattle.std.proofs.lemmas.Bool.{ne_eqb}
use mathlib.Core.Option.{some}
use mathlib.Core.Logic.{dite}
use native.Mathlib.Decide.{ℕ_discrete}
use lib.ListN.{get_elem?}
use Rattle.seq_object.specs.Sizes.{thread_room, room_count}
use Rattle.seq_object.proofs.Totals.{total-grown}
use Rattle.block_allow.specs.Verdicts.{leaves}
use Rattle.rooms.specs.declared.room.Room.{Room}
use Rattle.rooms.specs.Rooms.{bank_of, end_of}
use Rattle.yard_model.specs.declared.view.Phase.TheVariants.{Standing}
use Rattle.yard_model.specs.declared.view.Beginning.{Beginning}
use Rattle.yard_model.specs.declared.view.View.{View}
use Rattle.yard_model.specs.Beginnings.{sizes_at, epoch_now, write_backs_at, is_fed, is_over}
use Rattle.yard_model.specs.World.{ViewIs, Home}
use Rattle.yard_model.specs.WriteBacks.{rise_of}
use Rattle.yard_laws.proofs.Lists.{set_else}
use Rattle.plain_yard.specs.Shown.{view_at}
use Rattle.worker_model.specs.Workers.{WorkerState}
use Rattle.replay_model.specs.Replays.{ReplayState}
use Rattle.replay_model.specs.Kept.{IsReplay}
use Rattle.yard_progress.specs.Shown.{updated, GoesOn}
use Rattle.replay_progress.specs.Shown.{CountsWriteBacks, GoesOnRight}
use Rattle.replay_progress.proofs.TurnRooms.{viewed, unique, IsAt, IsTurn, ChangesRoom, KeepsRooms, worker_here, worker_else, view_else}
use Rattle.replay_progress.proofs.TurnFew.{few_now}

abbrev pub GoesOnIn : ReplayState → Type 0
GoesOnIn s = GoesOn s.yard.beginning s.yard.told.world s.yard.told.history s.yard.told.checkpoints

-- the room of a thread
abbrev pub own_room : ReplayState → ℕ → ℕ
own_room s i = thread_room (sizes_at s.yard.beginning) i

module _ (s : ReplayState) (right : GoesOnRight s) where
  -- each thread's room, wherever it is, has the end that its worker told last
  pub told_at : (j : ℕ) (e : WorkerState) (z : Room) → slice_get s.workers j ≡ Some e → IsAt s (own_room s j) z → e.end ≡ end_of z
  told_at j e z at (inl home) = right.told j e z at home
  told_at j e z at (inr a) = right.told_in_hand j a.thread e a.worker z a.grip at a.is_worker a.in_hand a.held a.room

  -- and counted so many write-backs
  pub counted_at : (k : ℕ) (z : Room) → IsAt s k z → right.counts k ≡ (bank_of z).write_backs
  counted_at k z (inl home) = right.are_counts.home k z home
  counted_at k z (inr a) = ap right.counts (sym a.room) ∙ right.are_counts.in_hand a.thread a.worker z a.grip a.is_worker a.in_hand a.held

-- it goes on right, with these counts
abbrev pub GoesOnWith : ReplayState → (ℕ → ℕ) → Type 0
GoesOnWith s counts = (right : GoesOnRight s) × (right.counts ≡ counts)

-- so a replay goes on right
goes_right : (s : ReplayState) → IsReplay s → ((j : ℕ) → j < length s.workers → (view_at s.yard j).saw_off ≡ false)
    → ((j : ℕ) (e : WorkerState) (z : Room) → slice_get s.workers j ≡ Some e → IsAt s (own_room s j) z → e.end ≡ end_of z)
    → ((r : ℕ) → write_backs_at s.yard.beginning r < 2 ^ 63) → GoesOnIn s
    → (counts : ℕ → ℕ) → ((k : ℕ) (z : Room) → IsAt s k z → counts k ≡ (bank_of z).write_backs)
    → GoesOnWith s counts
goes_right s was on told early going counts counted =
    let are : CountsWriteBacks s counts = record {
      home = λ k z home. counted k z (inl home);
      in_hand = λ j e z g at in_hand held. counted g.room z (inr (record { thread = j; worker = e; grip = g; is_worker = at; in_hand = in_hand; held = held; room = refl }));
    } in (
      record {
        on = on;
        told = λ j e z at home. told j e z at (inl home);
        told_in_hand = λ j k e f z g at other in_hand held room.
            told j e z at (inr (record { thread = k; worker = f; grip = g; is_worker = other; in_hand = in_hand; held = held; room = room }));
        early = early;
        goes_on = going;
        counts = counts;
        are_counts = are;
        few = few_now s was counts are;
      },
      refl,
    )

module _ (i : ℕ) (s s' : ReplayState) (c d : WorkerState) (turn : IsTurn i s s' c d) where
  -- A LIFE GOES ON where the thread does not stand, or ran in this epoch before; and where it only looked.
  pub going_moves : (view_at s'.yard i).phase ≢ Standing → GoesOnIn s'
  going_moves moves not_over =
      let at = viewed s' turn.behind i d (worker_here i s s' c d turn) in
      (i, view_at s'.yard i, at, inl ((turn.behind.lawful.epochs.views i (view_at s'.yard i) at).runs moves))

  pub going_stood : (view_at s.yard i).phase ≢ Standing → (view_at s'.yard i).ran ≡ (view_at s.yard i).ran → s'.yard.told.checkpoints ≡ s.yard.told.checkpoints → GoesOnIn s'
  going_stood moved ran checkpoints not_over =
      let at = viewed s' turn.behind i d (worker_here i s s' c d turn) in
      let was = (turn.before.lawful.epochs.views i (view_at s.yard i) (viewed s turn.before i c turn.is_worker)).runs moved in
      (i, view_at s'.yard i, at, inl (ran ∙ (was ∙ (λ k. epoch_now (sym turn.beginning k) (sym checkpoints k)))))

  module _ (right : GoesOnRight s) where
    pub going_rests : (view_at s'.yard i).ran ≡ (view_at s.yard i).ran → s'.yard.told.world.rooms ≡ s.yard.told.world.rooms
        → s'.yard.told.history ≡ s.yard.told.history → s'.yard.told.checkpoints ≡ s.yard.told.checkpoints → GoesOnIn s'
    going_rests ran rooms history checkpoints not_over =
        by (right.goes_on ((λ k. is_over (sym turn.beginning k) (sym checkpoints k)) ∙ not_over))
      where
        Ran : ReplayState → View → ℕ → Type 0
        Ran t v j = (v.ran ≡ epoch_now t.yard.beginning t.yard.told.checkpoints)
            ⊎ ((x : Room) × Home t.yard.told.world (thread_room (sizes_at t.yard.beginning) j) x × (leaves (end_of x) (is_fed t.yard.beginning t.yard.told.history t.yard.told.checkpoints) ≡ true))

        still : (v u : View) (j : ℕ) → u.ran ≡ v.ran → Ran s v j → Ran s' u j
        still v u j same (inl now) = inl (same ∙ (now ∙ (λ k. epoch_now (sym turn.beginning k) (sym checkpoints k))))
        still v u j same (inr home) = inr (
          home.0,
          subst (λ (p : List (Option Room) × Beginning). get_elem? p.0 (thread_room (sizes_at p.1) j) ≡ some (Some home.0)) (λ k. (sym rooms k, sym turn.beginning k)) home.1,
          (λ k. leaves (end_of home.0) (is_fed (turn.beginning k) (history k) (checkpoints k))) ∙ home.2,
        )

        by : (j : ℕ) × (v : View) × ViewIs s.yard.told.world j v × Ran s v j → (j : ℕ) × (v : View) × ViewIs s'.yard.told.world j v × Ran s' v j
        by (j, v, at, was) = dite (ℕ_discrete j i)
            (λ e.
            let here : ViewIs s'.yard.told.world i (view_at s'.yard i) = viewed s' turn.behind i d (worker_here i s s' c d turn) in
            let q : some v ≡ some (view_at s.yard i) = sym at ∙ (ap (get_elem? s.yard.told.world.views) e ∙ viewed s turn.before i c turn.is_worker) in
            let same : v ≡ view_at s.yard i = cc in
            (i, view_at s'.yard i, here, subst (Ran s' (view_at s'.yard i)) e (still v (view_at s'.yard i) j (ran ∙ ap (λ (o : View). o.ran) (sym same)) was)))
            (λ ne. (j, v, ap (λ (l : List View). get_elem? l j) turn.views ∙ (set_else s.yard.told.world.views i j (view_at s'.yard i) ne ∙ at), still v v j refl was))

    module _ (on_here : (view_at s'.yard i).saw_off ≡ false) (going : GoesOnIn s') where
      on_behind : (j : ℕ) → j < length s'.workers → (view_at s'.yard j).saw_off ≡ false
      on_behind j lt = dite (ℕ_discrete j i)
          (λ e. subst (λ (k : ℕ). (view_at s'.yard k).saw_off ≡ false) (sym e) on_here)
          (λ ne. ap (λ (v : View). v.saw_off) (view_else i s s' c d turn j ne)
          ∙ right.on j (let n = ap length turn.workers ∙ length-set s.workers i d in omega (arith, n, lt)))

      early_behind : (r : ℕ) → write_backs_at s'.yard.beginning r < 2 ^ 63
      early_behind r = let e = ap (λ (b : Beginning). write_backs_at b r) turn.beginning in let f = right.early r in omega (arith, e, f)

      same_room : (j : ℕ) (z : Room) → IsAt s' (own_room s' j) z → IsAt s' (own_room s j) z
      same_room j z at = subst (λ (b : Beginning). IsAt s' (thread_room (sizes_at b) j) z) turn.beginning at

      -- a worker behind the turn, and the one before it
      worker_before : d.end ≡ c.end → (j : ℕ) (e : WorkerState) → slice_get s'.workers j ≡ Some e → (f : WorkerState) × (slice_get s.workers j ≡ Some f) × (e.end ≡ f.end)
      worker_before same j e at = dite (ℕ_discrete j i)
          (λ here.
          let q : Some e ≡ Some d = sym at ∙ (ap (slice_get s'.workers) here ∙ worker_here i s s' c d turn) in
          let one : e ≡ d = cc in
          (c, ap (slice_get s.workers) here ∙ turn.is_worker, ap (λ (o : WorkerState). o.end) one ∙ same))
          (λ ne. (e, sym (worker_else i s s' c d turn j ne) ∙ at, refl))

      pub right_calm : d.end ≡ c.end → KeepsRooms s s' → GoesOnWith s' right.counts
      right_calm same keeps = goes_right s' turn.behind on_behind
          (λ j e z at is. let f = worker_before same j e at in f.2 ∙ told_at s right j f.0 z f.1 (keeps (own_room s j) z (same_room j z is)))
          early_behind going right.counts (λ k z is. counted_at s right k z (keeps k z is))

      module _ (r : ℕ) (x y : Room) (changes : ChangesRoom s s' r x y) where
        -- what is at the room's place now
        is_now : (k : ℕ) (z : Room) → IsAt s' k z → k ≡ r → z ≡ y
        is_now k z is e = unique s' turn.behind r z y (subst (λ (n : ℕ). IsAt s' n z) e is) changes.is

        module _ (ends : ((d.end ≡ c.end) × (end_of y ≡ end_of x)) ⊎ ((r ≡ own_room s i) × (d.end ≡ end_of y))) where
          told_behind : (j : ℕ) (e : WorkerState) (z : Room) → slice_get s'.workers j ≡ Some e → IsAt s' (own_room s' j) z → e.end ≡ end_of z
          told_behind j e z at is = by ends
            where
              by : ((d.end ≡ c.end) × (end_of y ≡ end_of x)) ⊎ ((r ≡ own_room s i) × (d.end ≡ end_of y)) → e.end ≡ end_of z
              by (inl same) =
                  let f = worker_before same.0 j e at in
                  dite (ℕ_discrete (own_room s j) r)
                  (λ here. f.2 ∙ (told_at s right j f.0 x f.1 (subst (λ (n : ℕ). IsAt s n x) (sym here) changes.was)
                  ∙ (sym same.1 ∙ ap end_of (sym (is_now (own_room s j) z (same_room j z is) here)))))
                  (λ other. f.2 ∙ told_at s right j f.0 z f.1 (changes.others (own_room s j) z other (same_room j z is)))
              by (inr own) = dite (ℕ_discrete j i)
                  (λ here.
                  let q : Some e ≡ Some d = sym at ∙ (ap (slice_get s'.workers) here ∙ worker_here i s s' c d turn) in
                  let one : e ≡ d = cc in
                  let place : own_room s j ≡ r = let o = own.0 in omega (arith, here, o) in
                  ap (λ (o : WorkerState). o.end) one ∙ (own.1 ∙ ap end_of (sym (is_now (own_room s j) z (same_room j z is) place))))
                  (λ ne. told_at s right j e z (sym (worker_else i s s' c d turn j ne) ∙ at)
                  (changes.others (own_room s j) z (let o = own.0 in λ q. ne (omega (arith, q, o))) (same_room j z is)))

          -- a room that counted no write-back
          pub right_changed : (bank_of y).write_backs ≡ (bank_of x).write_backs → GoesOnWith s' right.counts
          right_changed none = goes_right s' turn.behind on_behind told_behind early_behind going right.counts counted
            where
              counted : (k : ℕ) (z : Room) → IsAt s' k z → right.counts k ≡ (bank_of z).write_backs
              counted k z is = dite (ℕ_discrete k r)
                  (λ here. ap right.counts here ∙ (counted_at s right r x changes.was ∙ (sym none ∙ ap (λ (o : Room). (bank_of o).write_backs) (sym (is_now k z is here)))))
                  (λ other. counted_at s right k z (changes.others k z other is))

          -- one that counted some
          abbrev pub counts_behind : ℕ → ℕ
          counts_behind = updated right.counts r (bank_of y).write_backs

          counts_here : counts_behind r ≡ (bank_of y).write_backs
          counts_here = ap (λ (b : Bool). if b then (bank_of y).write_backs else right.counts r) (eq-eqb r r refl)

          counts_else : (k : ℕ) → k ≢ r → counts_behind k ≡ right.counts k
          counts_else k ne = ap (λ (b : Bool). if b then (bank_of y).write_backs else right.counts k) (ne_eqb k r ne)

          pub right_written : GoesOnWith s' counts_behind
          right_written = goes_right s' turn.behind on_behind told_behind early_behind going counts_behind counted
            where
              counted : (k : ℕ) (z : Room) → IsAt s' k z → counts_behind k ≡ (bank_of z).write_backs
              counted k z is = dite (ℕ_discrete k r)
                  (λ here. ap counts_behind here ∙ (counts_here ∙ ap (λ (o : Room). (bank_of o).write_backs) (sym (is_now k z is here))))
                  (λ other. counts_else k other ∙ counted_at s right k z (changes.others k z other is))

          pub rises : r < room_count (sizes_at s.yard.beginning) → write_backs_at s.yard.beginning r ≤ (bank_of x).write_backs → (bank_of y).write_backs ≡ (bank_of x).write_backs + 1
              → rise_of s.yard.beginning counts_behind ≡ rise_of s.yard.beginning right.counts + 1
          rises lt no_fewer more =
              total-grown (λ k. right.counts k - write_backs_at s.yard.beginning k) (λ k. counts_behind k - write_backs_at s.yard.beginning k) r (room_count (sizes_at s.yard.beginning)) lt
              (let was = counted_at s right r x changes.was in let now = counts_here in omega (arith, was, now, no_fewer, more))
              (λ k ne. let e = counts_else k ne in omega (arith, e))
