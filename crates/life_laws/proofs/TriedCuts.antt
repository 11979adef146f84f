-- The crash clause tried on memories that were worked out by hand.
use Rattle.std.proofs.Common.{◌≡◌, ℕ, ◌<◌, ◌≤◌, ◌⊎◌, zero, suc, List, [], ◌∷◌, length, Some, refl, sym, ap, ◌∙◌, subst, inl, inr, ⊎_elim, arith}
use Rattle.std.specs.Prelude.{slice_index}
use Rattle.seq_object.specs.declared.command.Command.TheVariants.{Put}
use Rattle.seq_object.specs.declared.command.Reply.TheVariants.{New}
use Rattle.seq_object.specs.declared.history.Entry.{Entry}
use Rattle.seq_object.specs.History.{State, of_thread, AreCommands, first_state, after, point_at}
use Rattle.line_memory.specs.declared.store.Store.{Store}
use Rattle.line_memory.specs.Line.{LineState, BankState, applied, survivor, stored, store_to, written_back, fenced}
use Rattle.room_model.specs.MapRoom.{live_layout}
use Rattle.room_model.specs.Image.{KeptCounts, image_of, nothing_kept, epoch_at, StandsAt, Recovers}
use Rattle.life_model.specs.Life.{Opening, script_of, opening_place, IsLegalLife, MayMark}
use Rattle.life_model.specs.Crash.{LeavesCovered, LeavesAll, IsCrashSafe}
use Rattle.life_laws.specs.Examples.{entry}
use Rattle.life_laws.specs.CutExamples.{small, putting, put_done, put_state, line_of_epoch, closed_with, unwritten, pending_write, fenced_write, no_backup_memory, RecoversAt, cut_put, first_kept, resumed_put, EpochWriteExamples, ListExamples, UnsafeExamples, recovered_put, putting_two}
use Rattle.life_laws.proofs.Survivors.{none_taken, stands}
use Rattle.life_laws.proofs.Safe.{epoch_left, epoch_safe, next_epoch_safe, quiet_safe}
use Rattle.life_laws.proofs.Steps.{opening, mark}
use Rattle.life_laws.proofs.States.{one_state}
use Rattle.life_laws.proofs.Formats.{resume_safe}
use Rattle.life_model.specs.Lives.{IsLife, ResumesFrom}
use Rattle.life_laws.proofs.Tried.{other, no_stretch}
use Rattle.life_laws.proofs.Memories.{quiet_all, stands_first, stands_next, new_key, put_leaves, stands_third}
use Rattle.seq_object.specs.declared.history.RestartPoint.{RestartPoint}
use Rattle.life_laws.proofs.Chain.{after_nothing}

-- the life of the put

-- another thread has no entry
pub other_thread : (thread : ℕ) → of_thread (suc thread) put_done ≡ []
other_thread thread = other (suc thread) (entry 0 0 (Put 5 7) New) [] (λ q. omega (arith, q))

-- the life of the put is legal
pub put_legal : IsLegalLife putting put_done []
put_legal = record {
  replies = (ap Some new_key, tt);
  order = record {
    threads = refl;
    points = refl;
    commands = commands;
    rising = omega arith;
    begun = (refl, refl);
    stretches = tt;
    rest = rest;
  };
}
  where
    commands : (thread : ℕ) → AreCommands (script_of putting.scripts thread) (opening_place putting thread) (of_thread thread put_done)
    commands zero = (refl, refl, tt)
    commands (suc thread) = subst (AreCommands (script_of putting.scripts (suc thread)) (opening_place putting (suc thread)))
        (sym (other_thread thread)) tt

    rest : (thread : ℕ) → length (of_thread thread put_done) ≤ 1
    rest zero = omega arith
    rest (suc thread) = omega (arith, ap length (other_thread thread))

-- its quota is spent
put_may_mark : MayMark putting put_done []
put_may_mark zero = inr (inl refl)
put_may_mark (suc thread) = inl (ap length (other_thread thread))

-- so it is legal with a mark
pub put_marked : IsLegalLife putting put_done (1 ∷ [])
put_marked = mark putting put_done [] put_legal put_may_mark

-- the super room's line

-- the words of the super room's line, where nothing is pending
words_of : (epoch kept : ℕ) → survivor (line_of_epoch epoch) kept ≡ (line_of_epoch epoch).base
words_of epoch kept = ap (applied (line_of_epoch epoch).base) (none_taken kept)

-- the line after the fence
abbrev fenced_line : LineState
fenced_line = fenced (written_back (stored (line_of_epoch 1) 0 2))

-- after the fence they are those of epoch 2
words_fenced : (kept : ℕ) → survivor fenced_line kept ≡ (line_of_epoch 2).base
words_fenced kept = ap (applied (line_of_epoch 2).base) (none_taken kept)

-- they are eight
eight_fenced : (kept : ℕ) → length (survivor fenced_line kept) ≡ 8
eight_fenced kept = ap length (words_fenced kept)

-- and the epoch is 2
epoch_fenced : (kept : ℕ) → slice_index (survivor fenced_line kept) 0 ≡ 2
epoch_fenced kept = ap (λ (words : List ℕ). slice_index words 0) (words_fenced kept)

-- where the pending store is kept the words are those of epoch 2
kept_one : (kept : ℕ) → survivor (stored (line_of_epoch 1) 0 2) (suc kept) ≡ (line_of_epoch 2).base
kept_one kept = ap (λ (ss : List Store). applied (line_of_epoch 1).base (store_to 0 2 ∷ ss)) (none_taken kept)

-- eight words, where nothing is pending
eight_of : (epoch kept : ℕ) → length (survivor (line_of_epoch epoch) kept) ≡ 8
eight_of epoch kept = ap length (words_of epoch kept)

-- eight words, whichever is kept
eight_stored : (kept : ℕ) → length (survivor (stored (line_of_epoch 1) 0 2) kept) ≡ 8
eight_stored zero = refl
eight_stored (suc kept) = ap length (kept_one kept)

-- an image that has the epoch recovers to what the cells stand for
at_epoch : (epoch : ℕ) (state : State) (line : LineState) (choice : KeptCounts) → StandsAt live_layout small epoch (closed_with line) state
    → slice_index (survivor line (choice 3 0)) 0 ≡ epoch → RecoversAt epoch state (closed_with line) choice
at_epoch epoch state line choice s e =
    let here : epoch_at small (image_of (closed_with line) choice) ≡ epoch = epoch_left small (closed_with line) choice ∙ e in
    (here, stands live_layout small epoch (closed_with line) state s choice here)

-- where the store is kept the epoch is 2
epoch_stored : (kept : ℕ) → 0 < kept → slice_index (survivor (stored (line_of_epoch 1) 0 2) kept) 0 ≡ 2
epoch_stored zero lt = absurd (omega arith)
epoch_stored (suc kept) lt = ap (λ (words : List ℕ). slice_index words 0) (kept_one kept)

-- the epoch is 1 or 2
pub either_stored : (kept : ℕ) → (slice_index (survivor (stored (line_of_epoch 1) 0 2) kept) 0 ≡ 1) ⊎ (slice_index (survivor (stored (line_of_epoch 1) 0 2) kept) 0 ≡ 2)
either_stored zero = inl refl
either_stored (suc kept) = inr (epoch_stored (suc kept) (omega arith))

-- all of the put is saved at epoch 2
stands_put : (line : LineState) → ((kept : ℕ) → length (survivor line kept) ≡ 8)
    → StandsAt live_layout small 2 (closed_with line) (after small (first_state small) put_done)
stands_put line eight = subst (StandsAt live_layout small 2 (closed_with line)) (sym put_leaves) (stands_next line eight)

-- before the epoch write
before_write : (choice : KeptCounts) → RecoversAt 1 (first_state small) unwritten choice
before_write choice = at_epoch 1 (first_state small) (line_of_epoch 1) choice (stands_first (line_of_epoch 1) (eight_of 1))
    (ap (λ (words : List ℕ). slice_index words 0) (words_of 1 (choice 3 0)))

-- after its fence
after_write : (choice : KeptCounts) → RecoversAt 2 put_state fenced_write choice
after_write choice = at_epoch 2 put_state fenced_line choice (stands_next fenced_line eight_fenced) (epoch_fenced (choice 3 0))

-- each cut by the epoch that it leaves
pub cuts_tried : EpochWriteExamples
cuts_tried = record {
  header = refl;
  bucket = refl;
  node = refl;
  before = before_write;
  without = λ choice none. at_epoch 1 (first_state small) (stored (line_of_epoch 1) 0 2) choice (stands_first (stored (line_of_epoch 1) 0 2) eight_stored)
      (ap (λ (kept : ℕ). slice_index (survivor (stored (line_of_epoch 1) 0 2) kept) 0) none);
  with_it = λ choice some. at_epoch 2 put_state (stored (line_of_epoch 1) 0 2) choice (stands_next (stored (line_of_epoch 1) 0 2) eight_stored)
      (epoch_stored (choice 3 0) some);
  after_fence = after_write;
  safe_before = epoch_safe putting put_done [] unwritten (stands_first (line_of_epoch 1) (eight_of 1))
      (λ kept. ap (λ (words : List ℕ). slice_index words 0) (words_of 1 kept));
  safe_pending = next_epoch_safe putting put_done [] pending_write (stands_first (stored (line_of_epoch 1) 0 2) eight_stored)
      (stands_put (stored (line_of_epoch 1) 0 2) eight_stored)
      (record { either = either_stored; stored = refl }) put_marked;
  safe_after = next_epoch_safe putting put_done [] fenced_write (stands_first fenced_line eight_fenced) (stands_put fenced_line eight_fenced)
      (record { either = λ kept. inr (epoch_fenced kept); stored = refl }) put_marked;
  safe_marked = epoch_safe putting put_done (1 ∷ []) fenced_write (stands_put fenced_line eight_fenced) epoch_fenced;
  resumes_before = record { life = refl; epoch = refl; state = (before_write nothing_kept).1 };
  resumes_after = record { life = refl; epoch = refl; state = (after_write nothing_kept).1 };
}

-- lists of lives

-- the life of the put, cut while its epoch write was pending, is one of a list
pub first_cut : (choice : KeptCounts) → IsLife small putting.scripts (cut_put choice)
first_cut choice = record { same_sizes = refl; same_scripts = refl; legal = put_legal; safe = cuts_tried.safe_pending }

-- a life before its first event is one of a list, where the image that it resumed from is what its memory holds
second_life : (epoch : ℕ) (state : State)
    → ResumesFrom small (image_of (closed_with (line_of_epoch epoch)) nothing_kept) (resumed_put epoch state).opening
    → IsLife small putting.scripts (resumed_put epoch state)
second_life epoch state from = record {
  same_sizes = refl;
  same_scripts = refl;
  legal = opening (resumed_put epoch state).opening refl from.state.threads refl;
  safe = resume_safe (resumed_put epoch state).opening (closed_with (line_of_epoch epoch)) (quiet_all epoch) from;
}

-- what the closed memory recovers to in epoch 3
third_state : Recovers live_layout small (image_of (closed_with (line_of_epoch 3)) nothing_kept) put_state
third_state = (at_epoch 3 put_state (line_of_epoch 3) nothing_kept (stands_third (line_of_epoch 3) (eight_of 3)) refl).1

-- so the life whose recovery was acknowledged is safe
recovered_safe : IsCrashSafe recovered_put.opening [] (0 ∷ []) recovered_put.memory
recovered_safe = quiet_safe recovered_put.opening [] (0 ∷ []) recovered_put.memory (quiet_all 3) (record {
  epoch = refl;
  recovers = subst (Recovers live_layout small (image_of (closed_with (line_of_epoch 3)) nothing_kept)) (after_nothing small put_state) third_state;
})

-- and it is one of a list
pub recovered_life : ResumesFrom small (image_of pending_write first_kept) recovered_put.opening → IsLife small putting.scripts recovered_put
recovered_life from = record {
  same_sizes = refl;
  same_scripts = refl;
  legal = mark recovered_put.opening [] [] (opening recovered_put.opening refl from.state.threads refl) (λ thread. inl refl);
  safe = recovered_safe;
}

-- three lists that are, and four that are not
pub lists_tried : ListExamples
lists_tried = record {
  with_put =
      let from : ResumesFrom small (image_of pending_write first_kept) (resumed_put 2 put_state).opening =
      record { life = refl; epoch = refl; state = (cuts_tried.with_it first_kept (omega arith)).1 } in
      (first_cut first_kept, refl, (second_life 2 put_state from, from, tt));
  kept_put = refl;
  without_put =
      let from : ResumesFrom small (image_of pending_write nothing_kept) (resumed_put 1 (first_state small)).opening =
      record { life = refl; epoch = refl; state = (cuts_tried.without nothing_kept refl).1 } in
      (first_cut nothing_kept, refl, (second_life 1 (first_state small) from, from, tt));
  kept_none = refl;
  recovered_safe = recovered_safe;
  goes_on =
      let from : ResumesFrom small (image_of pending_write first_kept) recovered_put.opening =
      record { life = refl; epoch = refl; state = (cuts_tried.with_it first_kept (omega arith)).1 } in
      let on : ResumesFrom small (image_of (closed_with (line_of_epoch 3)) nothing_kept) (resumed_put 3 put_state).opening =
      record { life = refl; epoch = refl; state = third_state } in
      (first_cut first_kept, refl, (recovered_life from, from, (second_life 3 put_state on, on, tt)));
  kept_on = refl;
  other_epoch = λ lives. absurd (omega (arith, lives.2.1.epoch));
  other_state = λ lives. absurd (omega (
    arith,
    ap (λ (s : State). (point_at s.points 0).position)
        (one_state live_layout small (image_of pending_write first_kept) (first_state small) put_state lives.2.1.state
        (cuts_tried.with_it first_kept (omega arith)).1),
  ));
  other_commands = λ lives. absurd (cc (lives.0.same_scripts));
  no_start = λ lives. absurd (cc (lives.1));
}

-- a memory that leaves neither of the two images for a choice is not safe
unsafe : (o : Opening) (h : List Entry) (marks : List ℕ) (memory : List BankState) (choice : KeptCounts)
    → (LeavesCovered o h marks (image_of memory choice) → ⊥) → (LeavesAll o h marks memory (image_of memory choice) → ⊥) → IsCrashSafe o h marks memory
    → ⊥
unsafe o h marks memory choice never not safe = ⊎_elim never not (safe choice)

-- a position that was written without its backup is not taken back
pub no_backup_point : LeavesCovered putting put_done [] (image_of no_backup_memory nothing_kept) → ⊥
no_backup_point a = absurd (omega (arith, ap (λ (p : RestartPoint). p.position) (a.recovers.points 0 (omega arith))))

-- an image for each memory that neither of the two clauses allows
pub unsafe_tried : UnsafeExamples
unsafe_tried = record {
  one_behind = unsafe putting put_done (1 ∷ []) unwritten nothing_kept (λ a. absurd (omega (arith, a.epoch))) (λ a. absurd (omega (arith, a.epoch)));
  two_ahead = unsafe putting put_done [] (closed_with (line_of_epoch 3)) nothing_kept (λ a. absurd (omega (arith, a.epoch)))
      (λ a. absurd (omega (arith, a.epoch)));
  too_early = unsafe putting_two put_done [] pending_write first_kept (λ a. absurd (omega (arith, a.epoch)))
      (λ a. no_stretch putting_two put_done refl refl (λ p. p) (a.marked.order.stretches.0 0));
  not_loaded = unsafe putting put_done [] (closed_with (stored (stored (line_of_epoch 1) 0 2) 0 1)) first_kept (λ a. absurd (omega (arith, a.epoch)))
      (λ a. absurd (omega (arith, a.stored)));
  no_backup = λ safe. ⊎_elim no_backup_point
      (λ (a : LeavesAll putting put_done [] no_backup_memory (image_of no_backup_memory nothing_kept)). absurd (omega (arith, a.epoch)))
      (safe nothing_kept);
}
