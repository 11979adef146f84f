-- Reports tried on lives that were worked out by hand.
use Rattle.std.proofs.Common.{◌≡◌, ℕ, ◌+◌, ◌<◌, ◌≤◌, ◌⊎◌, zero, suc, List, [], ◌∷◌, refl, ap, inl, inr, ⊎_elim, take, arith, Some}
use Rattle.std.specs.List.{Contains}
use Rattle.std.proofs.lemmas.List.Elements.{All-head, All-from_recursion}
use Rattle.line_memory.specs.Line.{load_of}
use Rattle.room_model.specs.MapRoom.{live_layout}
use Rattle.room_model.specs.Rooms.{StandsFor, point_in}
use Rattle.room_model.specs.Image.{image_of, nothing_kept}
use Rattle.life_model.specs.declared.life.Mark.{Mark}
use Rattle.life_model.specs.declared.life.Outcome.TheVariants.{Finished, Cut}
use Rattle.life_model.specs.Life.{point_after, contents_now}
use Rattle.life_model.specs.Crash.{LeavesCovered, LeavesAll, IsCrashSafe}
use Rattle.life_model.specs.Ends.{AreUsed}
use Rattle.life_model.specs.Present.{IsPresent}
use Rattle.life_model.specs.Lives.{ResumesFrom}
use Rattle.life_laws.specs.CutExamples.{small, putting, put_done, pending_write, first_kept, fenced_write, recovered_put, line_of_epoch, half_put, blank}
use Rattle.life_laws.specs.ToldExamples.{new_memory, counted_memory, ToldExamples}
use Rattle.life_laws.proofs.Steps.{opening}
use Rattle.life_laws.proofs.Formats.{start_safe}
use Rattle.life_laws.proofs.Memories.{below_eight, no_nodes, no_items, small_valid, new_key, loads_stand}
use Rattle.life_laws.proofs.TriedEnds.{no_more}
use Rattle.life_laws.proofs.TriedCuts.{cuts_tried, put_marked, lists_tried, recovered_life}
use Rattle.life_laws.proofs.Safe.{epoch_safe}
use Rattle.life_laws.proofs.TriedStands.{stands_tried}
use Rattle.life_laws.proofs.TriedLives.{leaves_tried}
use Rattle.life_laws.proofs.TriedPresent.{present_tried}
use Rattle.life_laws.proofs.TriedImages.{formatted_image, formatted_quiet}
use Rattle.seq_object.specs.Sizes.{thread_room}

-- the script of the put is used
put_used : AreUsed putting put_done
put_used zero = refl
put_used (suc thread) = no_more putting put_done (suc thread) refl

-- before the put all rooms stand by their loads
new_present : IsPresent putting [] [] [] Cut new_memory
new_present = record { home = home; out = λ room le c. absurd (omega (arith, c.1)); points = points; ascending = tt; few = omega arith; none = tt }
  where
    home : (room : ℕ) → room ≤ 1 → (Contains [] room → ⊥) → StandsFor live_layout small room (load_of new_memory room) (contents_now putting [])
    home zero le never = no_nodes (load_of new_memory 0) refl refl refl
        (below_eight (λ b. load_of new_memory 0 (b + 1) 0 ≡ 0) refl refl refl refl refl refl refl refl)
    home (suc zero) le never = no_items (load_of new_memory 1) refl refl refl refl refl
    home (suc (suc room)) le never = absurd (omega arith)

    points : (thread : ℕ) → thread < 1 → (Contains [] (thread_room small thread) → ⊥)
        → (point_in live_layout (load_of new_memory (thread_room small thread)) ≡ point_after putting [] thread)
        ⊎ (point_in live_layout (load_of new_memory (thread_room small thread)) ≡ point_after putting [] thread)
    points zero lt never = inl refl
    points (suc thread) lt never = absurd (omega arith)

-- the life that was resumed behind the put goes on from what its power cut left
recovered_from : ResumesFrom small (image_of pending_write first_kept) recovered_put.opening
recovered_from = record { life = refl; epoch = refl; state = (cuts_tried.with_it first_kept (omega arith)).1 }

-- its script is used
recovered_used : AreUsed recovered_put.opening []
recovered_used zero = refl
recovered_used (suc thread) = no_more recovered_put.opening [] (suc thread) refl

-- and all its rooms stand by their loads
recovered_present : IsPresent recovered_put.opening [] (0 ∷ []) [] Finished recovered_put.memory
recovered_present = record {
  home = λ room le never. loads_stand (line_of_epoch 3) room le;
  out = λ room le c. absurd (omega (arith, c.1));
  points = points;
  ascending = tt;
  few = omega arith;
  none = refl;
}
  where
    points : (thread : ℕ) → thread < 1 → (Contains [] (thread_room small thread) → ⊥)
        → (point_in live_layout (load_of recovered_put.memory (thread_room small thread)) ≡ point_after recovered_put.opening [] thread)
        ⊎ (point_in live_layout (load_of recovered_put.memory (thread_room small thread)) ≡ point_after recovered_put.opening [] thread)
    points zero lt never = inl refl
    points (suc thread) lt never = absurd (omega arith)

-- counted write-backs are in no image
counted_safe : IsCrashSafe putting put_done (1 ∷ []) (counted_memory 8)
counted_safe choice = ⊎_elim (λ (l : LeavesCovered putting put_done (1 ∷ []) (image_of fenced_write choice)). inl l)
    (λ (l : LeavesAll putting put_done (1 ∷ []) fenced_write (image_of fenced_write choice)).
    inr (record { epoch = l.epoch; recovers = l.recovers; stored = l.stored; marked = l.marked }))
    (cuts_tried.safe_marked choice)

-- and in no load
counted_present : IsPresent putting put_done (1 ∷ []) [] Finished (counted_memory 8)
counted_present = record {
  home = home;
  out = λ room le c. absurd (omega (arith, c.1));
  points = points;
  ascending = tt;
  few = omega arith;
  none = refl;
}
  where
    home : (room : ℕ) → room ≤ 1 → (Contains [] room → ⊥)
        → StandsFor live_layout small room (load_of (counted_memory 8) room) (contents_now putting put_done)
    home zero le never = present_tried.done.home 0 (omega arith) never
    home (suc zero) le never = present_tried.done.home 1 (omega arith) never
    home (suc (suc room)) le never = absurd (omega arith)

    points : (thread : ℕ) → thread < 1 → (Contains [] (thread_room small thread) → ⊥)
        → (point_in live_layout (load_of (counted_memory 8) (thread_room small thread)) ≡ point_after putting (take 1 put_done) thread)
        ⊎ (point_in live_layout (load_of (counted_memory 8) (thread_room small thread)) ≡ point_after putting put_done thread)
    points zero lt never = inl refl
    points (suc thread) lt never = absurd (omega arith)

-- no mark
abbrev no_mark : Mark
no_mark = record { epoch = 0; length = 0 }

-- the epoch of the first of these marks
abbrev first_epoch : List Mark → ℕ
first_epoch [] = 0
first_epoch (m ∷ ms) = m.epoch

-- the clause that holds or breaks
pub told_tried : ToldExamples
told_tried = record {
  finished = record {
    resumed = refl;
    began = refl;
    loaded = λ resume. absurd (cc (resume));
    lived = λ choice. record { same_sizes = refl; same_scripts = refl; legal = put_marked; safe = cuts_tried.safe_marked };
    ends = (put_used, inl ((λ e. absurd (cc)), refl));
    present = present_tried.done;
    held = All-from_recursion (λ room. room < 4) [] tt;
    epochs = refl;
    flushed = refl;
    few = omega arith;
  };
  cut = record {
    resumed = refl;
    began = refl;
    loaded = λ resume. absurd (cc (resume));
    lived = λ choice. record {
      same_sizes = refl;
      same_scripts = refl;
      legal = opening putting refl refl (refl, refl);
      safe = start_safe putting new_memory small_valid formatted_quiet formatted_image refl refl;
    };
    ends = λ finished. absurd (cc (finished.0 0));
    present = new_present;
    held = All-from_recursion (λ room. room < 4) [] tt;
    epochs = refl;
    flushed = refl;
    few = omega arith;
  };
  resumed = record {
    resumed = refl;
    began = refl;
    loaded = λ resume. recovered_from;
    lived = λ choice. record {
      same_sizes = refl;
      same_scripts = refl;
      legal = (recovered_life recovered_from).legal;
      safe = lists_tried.recovered_safe;
    };
    ends = (recovered_used, inl ((λ e. absurd (cc)), refl));
    present = recovered_present;
    held = All-from_recursion (λ room. room < 4) [] tt;
    epochs = refl;
    flushed = refl;
    few = omega arith;
  };
  cut_within = record {
    resumed = refl;
    began = refl;
    loaded = λ resume. absurd (cc (resume));
    lived = λ choice. record {
      same_sizes = refl;
      same_scripts = refl;
      legal = opening putting refl refl (refl, refl);
      safe = epoch_safe putting [] [] (half_put blank) stands_tried.half leaves_tried.has_epoch;
    };
    ends = λ finished. absurd (cc (finished.0 0));
    present = present_tried.named;
    held = All-from_recursion (λ room. room < 4) (0 ∷ []) (omega arith, tt);
    epochs = refl;
    flushed = refl;
    few = omega arith;
  };
  most = record {
    resumed = refl;
    began = refl;
    loaded = λ resume. absurd (cc (resume));
    lived = λ choice. record { same_sizes = refl; same_scripts = refl; legal = put_marked; safe = counted_safe };
    ends = (put_used, inl ((λ e. absurd (cc)), refl));
    present = counted_present;
    held = All-from_recursion (λ room. room < 4) [] tt;
    epochs = refl;
    flushed = refl;
    few = omega arith;
  };
  other_image = λ t. absurd (omega (arith, (t.loaded refl).epoch));
  not_named = λ t. present_tried.not_named t.present;
  too_many = λ t. absurd (omega (arith, t.few));
  other_flushed = λ t. absurd (omega (arith, t.flushed));
  counted_before = λ t. absurd (omega (arith, t.flushed));
  other_epoch = λ t. absurd (omega (arith, ap first_epoch t.epochs));
  no_such_room = λ t. absurd (omega (arith, All-head (λ room. room < 4) 99 [] t.held));
  other_end = λ t. absurd (cc (t.ends.0 0));
  other_reply = λ t. absurd (cc ((t.lived nothing_kept).legal.replies.0, ap Some new_key));
  other_beginning = λ t. absurd (omega (arith, t.began));
  told_as_resume = λ t. absurd (cc (t.resumed));
}
