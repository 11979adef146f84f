-- The definitions of ends, of planned stores and of work tried on examples that were worked out by hand.
use Rattle.std.proofs.Common.{◌≡◌, ◌≢◌, ℕ, ◌<◌, zero, suc, List, [], ◌∷◌, length, take, None, refl, ap, inl, inr, ⊎_elim, arith, subst, sym}
use Rattle.std.specs.Prelude.{slice_index_or}
use Rattle.std.specs.List.{Contains}
use Rattle.std.proofs.lemmas.Option.{slice_get_past}
use Rattle.seq_object.specs.declared.command.Command.{Command}
use Rattle.seq_object.specs.declared.command.Command.TheVariants.{Enq, Take}
use Rattle.seq_object.specs.declared.history.Entry.{Entry}
use Rattle.life_model.specs.declared.life.Life.{Life}
use Rattle.life_model.specs.declared.life.Life.TheVariants.{Start, Resume}
use Rattle.life_model.specs.Life.{Opening, script_of, place_after, next_command, covered, IsPause}
use Rattle.life_model.specs.Ends.{AreUsed, IsFinished}
use Rattle.life_model.specs.Work.{NamesAll, HasNoTake}
use Rattle.life_laws.specs.Examples.{waiting, waiting_history, stuck, hurried, idle, EndExamples, StoreExamples, WorkExamples}
use Rattle.std.proofs.lemmas.List.Elements.{All-head, All-from_recursion}
use Rattle.seq_object.specs.Object.{IsTakeless}

-- a thread past the last has no command
pub no_more : (o : Opening) (h : List Entry) (thread : ℕ) → length (script_of o.scripts thread) ≡ 0 → next_command o h thread ≡ None
no_more o h thread none = slice_get_past (script_of o.scripts thread) (place_after o h thread) (omega (arith, none))

-- both scripts are used
waiting_used : AreUsed waiting waiting_history
waiting_used zero = refl
waiting_used (suc zero) = refl
waiting_used (suc (suc thread)) = no_more waiting waiting_history (suc (suc thread)) refl

-- an empty script is used
idle_used : (life : Life) → AreUsed (idle life) []
idle_used life zero = refl
idle_used life (suc thread) = no_more (idle life) [] (suc thread) refl

-- the life that waited is finished
waiting_finished : IsFinished waiting waiting_history (1 ∷ 2 ∷ [])
waiting_finished = (waiting_used, inl ((λ e. absurd (cc)), refl))

-- each thread is at its end or before a take
stuck_ends : (thread : ℕ) → IsPause (next_command stuck [] thread)
stuck_ends zero = tt
stuck_ends (suc zero) = tt
stuck_ends (suc (suc thread)) = subst IsPause (sym (no_more stuck [] (suc (suc thread)) refl)) tt

-- a life that is not all covered is not finished
not_covered_yet : (o : Opening) (h : List Entry) (marks : List ℕ) → ((marks ≢ []) → covered marks ≡ length h → ⊥)
    → (o.life ≡ Start → h ≡ [] → marks ≡ [] → ⊥) → IsFinished o h marks → ⊥
not_covered_yet o h marks never busy f =
    ⊎_elim (λ (a : (marks ≢ []) × (covered marks ≡ length h)). never a.0 a.1) (λ (a : (o.life ≡ Start) × (h ≡ []) × (marks ≡ [])). busy a.0 a.1 a.2) f.1

-- the clause that holds or breaks
pub ends_tried : EndExamples
ends_tried = record {
  finished = waiting_finished;
  nothing_to_do = (idle_used Start, inr (refl, refl, refl));
  recovering = not_covered_yet (idle Resume) [] [] (λ some. absurd (some refl)) (λ start. absurd (cc (start)));
  recovered = (idle_used Resume, inl ((λ e. absurd (cc)), refl));
  not_covered = not_covered_yet waiting waiting_history (1 ∷ []) (λ some all. absurd (omega (arith, all))) (λ start none. absurd (cc (none)));
  never_marked = not_covered_yet waiting waiting_history [] (λ some all. absurd (omega (arith, all))) (λ start none. absurd (cc (none)));
  not_used = λ f. absurd (cc (f.0 0));
  not_cut = λ never. never waiting_finished;
  cut = λ f. absurd (cc (f.0 0));
  stalled = record { closed = omega arith; all = refl; ends = stuck_ends; waiting = 0; waits = refl; empty = refl };
  not_closed = λ s. absurd (omega (arith, s.closed));
  only_recovered = λ s. absurd (omega (arith, s.closed));
  can_go_on = λ s. s.ends 1;
  none_waits = λ s. absurd (cc (waiting_used s.waiting, s.waits));
  too_short = λ s. absurd (omega (arith, s.all));
  fed = λ s. absurd (cc (s.empty));
}

-- the stores are computed
pub stores_tried : StoreExamples
stores_tried = record { put_absent = refl; other_room = refl; three_lines = refl; third_line = refl; most_stores = refl; most_lines = refl }

-- two turns name both threads
both : NamesAll 2 (0 ∷ 1 ∷ [])
both zero lt = (0, omega arith, refl)
both (suc zero) lt = (1, omega arith, refl)
both (suc (suc thread)) lt = absurd (omega arith)

-- no numbers
abbrev no_numbers : List ℕ
no_numbers = []

-- of no numbers a prefix is none
none_taken : (n : ℕ) → take n no_numbers ≡ []
none_taken zero = refl
none_taken (suc n) = refl

-- three turns of thread 0
abbrev same_turns : List ℕ
same_turns = 0 ∷ 0 ∷ 0 ∷ []

-- no commands
abbrev no_commands : List Command
no_commands = []

-- three turns of thread 0 do not name thread 1
no_other : (n i : ℕ) → i < length (take n same_turns) → slice_index_or (take n same_turns) i 1 ≡ 1 → ⊥
no_other zero i lt e = absurd (omega (arith, lt))
no_other (suc n) zero lt e = absurd (omega (arith, e))
no_other (suc zero) (suc i) lt e = absurd (omega (arith, lt))
no_other (suc (suc n)) (suc zero) lt e = absurd (omega (arith, e))
no_other (suc (suc zero)) (suc (suc i)) lt e = absurd (omega (arith, lt))
no_other (suc (suc (suc n))) (suc (suc zero)) lt e = absurd (omega (arith, e))
no_other (suc (suc (suc n))) (suc (suc (suc i))) lt e = absurd (omega (arith, lt, ap length (none_taken n)))

-- so no stretch of them names it
never : (n : ℕ) → Contains (take n same_turns) 1 → ⊥
never n c = no_other n c.0 c.1 c.2

-- no command is a take
no_takes : HasNoTake hurried
no_takes zero = All-from_recursion IsTakeless (Enq 1 ∷ Enq 2 ∷ Enq 3 ∷ []) (tt, (tt, (tt, tt)))
no_takes (suc thread) = All-from_recursion IsTakeless no_commands tt

-- the numbers are computed
pub work_tried : WorkExamples
work_tried = record {
  few = omega arith;
  too_many = λ few. absurd (omega (arith, few));
  turn_by_turn = refl;
  two_rounds = (2, both, (2, both, tt));
  no_round = λ r. never r.0 (r.1 1 (omega arith));
  after_recovery = refl;
  least = (omega arith, omega arith);
  most = (omega arith, omega arith);
  too_little = λ w. absurd (omega (arith, w.0));
  too_much = λ w. absurd (omega (arith, w.1));
  limit_least = record { least = omega arith; most = λ cut. omega arith; recovered = λ cut start. absurd (cc (start)) };
  limit_most = record { least = omega arith; most = λ cut. omega arith; recovered = λ cut start. absurd (cc (start)) };
  limit_too_small = λ f. absurd (omega (arith, f.least));
  limit_too_great = λ f. absurd (omega (arith, f.most refl));
  within_recovery = λ f. f.recovered refl refl refl;
  once = λ no_take. omega arith;
  more = λ few. absurd (omega (arith, few no_takes));
  with_take = λ no_take. absurd (All-head IsTakeless Take [] (no_take 0));
  seldom = omega arith;
  too_often = λ few. absurd (omega (arith, few));
}
