-- What a power cut leaves of the life of a put, and lives of lists, tried on those that were worked out by hand.
use Rattle.std.proofs.Common.{◌≡◌, ℕ, ◌⊎◌, zero, suc, List, Some, refl, sym, ap, subst, ⊎_elim, arith}
use Rattle.std.specs.Prelude.{slice_index}
use Rattle.seq_object.specs.declared.history.RestartPoint.{RestartPoint}
use Rattle.seq_object.specs.History.{of_thread, AreCommands}
use Rattle.line_memory.specs.Line.{survivor, stored}
use Rattle.room_model.specs.MapRoom.{live_layout}
use Rattle.room_model.specs.Image.{image_of, nothing_kept, Recovers}
use Rattle.life_model.specs.Life.{script_of}
use Rattle.life_laws.specs.CutExamples.{small, putting, put_done, line_of_epoch, pending_write, first_kept, fenced_write, putting_two}
use Rattle.life_laws.specs.LifeExamples.{LeaveExamples, LifeExamples}
use Rattle.life_laws.proofs.Survivors.{quiet_left}
use Rattle.life_laws.proofs.Tried.{no_stretch}
use Rattle.life_laws.proofs.Memories.{put_leaves, new_key}
use Rattle.life_laws.proofs.TriedCuts.{cuts_tried, unsafe_tried, put_marked, put_legal, first_cut, other_thread, either_stored, no_backup_point}

-- the clause that holds or breaks
pub leaves_tried : LeaveExamples
leaves_tried = record {
  covered = record { epoch = refl; recovers = (cuts_tried.before nothing_kept).1 };
  all = record {
    epoch = refl;
    recovers = subst (Recovers live_layout small (image_of pending_write first_kept)) (sym put_leaves) (cuts_tried.with_it first_kept (omega arith)).1;
    stored = refl;
    marked = put_marked;
  };
  other_epoch = λ l. absurd (omega (arith, l.epoch));
  other_state = no_backup_point;
  later_epoch = λ l. absurd (omega (arith, l.epoch));
  not_all = λ l. absurd (omega (arith, ap (λ (p : RestartPoint). p.position) (l.recovers.points 0 (omega arith))));
  not_stored = λ l. absurd (omega (arith, l.stored));
  unmarked = λ l. no_stretch putting_two put_done refl refl (λ p. p) (l.marked.order.stretches.0 0);
  has_epoch = λ kept. ap (λ (words : List ℕ). slice_index words 0) (quiet_left (line_of_epoch 1) kept refl);
  has_next = record { either = either_stored; stored = refl };
  pending_epoch = λ has. absurd (omega (arith, has 1));
  seven_between = λ has. ⊎_elim
      (λ (e : slice_index (survivor (stored (stored (line_of_epoch 1) 0 7) 0 2) 1) 0 ≡ 1). absurd (omega (arith, e)))
      (λ (e : slice_index (survivor (stored (stored (line_of_epoch 1) 0 7) 0 2) 1) 0 ≡ 2). absurd (omega (arith, e))) (has.either 1);
  taken_back = λ has. absurd (omega (arith, has.stored));
}

-- each thread's entries are its commands from the first on
commands : (thread : ℕ) → AreCommands (script_of putting.scripts thread) 0 (of_thread thread put_done)
commands zero = (refl, refl, tt)
commands (suc thread) = subst (AreCommands (script_of putting.scripts (suc thread)) 0) (sym (other_thread thread)) tt

-- the clause that holds or breaks
pub lives_tried : LifeExamples
lives_tried = record {
  life = first_cut nothing_kept;
  other_sizes = λ l. absurd (cc (l.same_sizes));
  other_scripts = λ l. absurd (cc (l.same_scripts));
  not_legal = λ l. absurd (cc (l.legal.replies.0, ap Some new_key));
  not_safe = λ l. unsafe_tried.no_backup l.safe;
  starts = λ from. absurd (cc (from.life));
  one_history = record {
    replies = put_legal.replies;
    commands = commands;
    recovers = subst (Recovers live_layout small (image_of fenced_write nothing_kept)) (sym put_leaves) (cuts_tried.after_fence nothing_kept).1;
  };
  other_reply = λ one. absurd (cc (one.replies.0, ap Some new_key));
  other_index = λ one. absurd (omega (arith, (one.commands 0).0));
  not_kept = λ one. absurd (omega (arith, ap (λ (p : RestartPoint). p.position) (one.recovers.points 0 (omega arith))));
  start_writes = refl;
  resume_writes = refl;
}
