-- The definitions tried on lives that were worked out by hand.
use Rattle.std.proofs.Common.{◌≡◌, ◌≢◌, ℕ, ◌<◌, zero, suc, cond, List, [], ◌∷◌, length, take, Bool, refl, sym, ap, ◌∙◌, subst, inl, inr, ⊎_elim, arith}
use Rattle.std.proofs.lemmas.Bool.{ne_eqb}
use Rattle.seq_object.specs.declared.command.Command.TheVariants.{Take, Enq}
use Rattle.seq_object.specs.declared.command.Reply.TheVariants.{Found, Done}
use Rattle.seq_object.specs.declared.history.Entry.{Entry}
use Rattle.seq_object.specs.History.{State, of_thread, AreCommands, point_at}
use Rattle.life_model.specs.Life.{script_of, opening_place, entries_between, next_command, IsStretch, IsInOrder, IsPause, Opening}
use Rattle.life_laws.specs.Examples.{waiting, waiting_history, stuck, hurried, one_done, two_done, resumed, pausing, pausing_history, entry, LegalExamples, IllegalExamples, DrawExamples}

-- no entry is of a thread past the last
pub other : (thread : ℕ) (e : Entry) (es : List Entry) → e.thread ≢ thread → of_thread thread (e ∷ es) ≡ of_thread thread es
other thread e es ne = ap (λ (b : Bool). cond b (e ∷ of_thread thread es) (of_thread thread es)) (ne_eqb e.thread thread ne)

-- no entry of these is of a third thread
none_third : (thread : ℕ) → of_thread (suc (suc thread)) waiting_history ≡ []
none_third thread = other (suc (suc thread)) (entry 1 0 (Enq 9) Done) (entry 0 0 Take (Found 9) ∷ []) (λ q. omega (arith, q))
    ∙ other (suc (suc thread)) (entry 0 0 Take (Found 9)) [] (λ q. omega (arith, q))

-- the entries and marks of the life that waits are in order
waiting_order : IsInOrder waiting waiting_history (1 ∷ 2 ∷ [])
waiting_order = record {
  threads = refl;
  points = refl;
  commands = commands;
  rising = (omega arith, (omega arith, omega arith));
  begun = (refl, refl);
  stretches = (first, (second, tt));
  rest = λ thread. omega arith;
}
  where
    commands : (thread : ℕ) → AreCommands (script_of waiting.scripts thread) (opening_place waiting thread) (of_thread thread waiting_history)
    commands zero = (refl, refl, tt)
    commands (suc zero) = (refl, refl, tt)
    commands (suc (suc thread)) = subst (AreCommands (script_of waiting.scripts (suc (suc thread))) (opening_place waiting (suc (suc thread))))
        (sym (none_third thread)) tt

    first : (thread : ℕ) → IsStretch waiting waiting_history 0 1 thread
    first zero = inl refl
    first (suc zero) = inr (inl refl)
    first (suc (suc thread)) = inl (ap length (other (suc (suc thread)) (entry 1 0 (Enq 9) Done) [] (λ q. omega (arith, q))))

    second : (thread : ℕ) → IsStretch waiting waiting_history 1 2 thread
    second zero = inr (inl refl)
    second (suc zero) = inl refl
    second (suc (suc thread)) = inl (ap length (other (suc (suc thread)) (entry 0 0 Take (Found 9)) [] (λ q. omega (arith, q))))

-- a mark and no entry are in order
stuck_order : IsInOrder stuck [] (0 ∷ [])
stuck_order = record {
  threads = refl;
  points = refl;
  commands = λ thread. tt;
  rising = (omega arith, omega arith);
  begun = (refl, refl);
  stretches = ((λ thread. inl refl), tt);
  rest = λ thread. omega arith;
}

-- two entries of thread 0 are no other thread's
none_second : (thread : ℕ) (e f : Entry) → e.thread ≡ 0 → f.thread ≡ 0 → of_thread (suc thread) (e ∷ f ∷ []) ≡ []
none_second thread e f a b = other (suc thread) e (f ∷ []) (λ q. omega (arith, q, a)) ∙ other (suc thread) f [] (λ q. omega (arith, q, b))

-- two entries of two for an epoch, and a mark
hurried_order : IsInOrder hurried two_done (2 ∷ [])
hurried_order = record {
  threads = refl;
  points = refl;
  commands = commands;
  rising = (omega arith, omega arith);
  begun = (refl, refl);
  stretches = (first, tt);
  rest = λ thread. omega arith;
}
  where
    commands : (thread : ℕ) → AreCommands (script_of hurried.scripts thread) (opening_place hurried thread) (of_thread thread two_done)
    commands zero = (refl, refl, (refl, refl, tt))
    commands (suc thread) = subst (AreCommands (script_of hurried.scripts (suc thread)) (opening_place hurried (suc thread)))
        (sym (none_second thread (entry 0 0 (Enq 1) Done) (entry 0 1 (Enq 2) Done) refl refl)) tt

    first : (thread : ℕ) → IsStretch hurried two_done 0 2 thread
    first zero = inr (inl refl)
    first (suc thread) = inl (ap length (none_second thread (entry 0 0 (Enq 1) Done) (entry 0 1 (Enq 2) Done) refl refl))

-- the same behind recovery's mark
resumed_order : IsInOrder resumed two_done (0 ∷ 2 ∷ [])
resumed_order = record {
  threads = refl;
  points = refl;
  commands = hurried_order.commands;
  rising = (omega arith, (omega arith, omega arith));
  begun = refl;
  stretches = ((λ thread. inl refl), (hurried_order.stretches.0, tt));
  rest = λ thread. omega arith;
}

-- two entries of three for an epoch, a mark, and a take that comes next
pausing_order : IsInOrder pausing pausing_history (2 ∷ [])
pausing_order = record {
  threads = refl;
  points = refl;
  commands = commands;
  rising = (omega arith, omega arith);
  begun = (refl, refl);
  stretches = (first, tt);
  rest = λ thread. omega arith;
}
  where
    commands : (thread : ℕ) → AreCommands (script_of pausing.scripts thread) (opening_place pausing thread) (of_thread thread pausing_history)
    commands zero = (refl, refl, (refl, refl, tt))
    commands (suc thread) = subst (AreCommands (script_of pausing.scripts (suc thread)) (opening_place pausing (suc thread)))
        (sym (none_second thread (entry 0 0 (Enq 1) Done) (entry 0 1 Take (Found 1)) refl refl)) tt

    first : (thread : ℕ) → IsStretch pausing pausing_history 0 2 thread
    first zero = inr (inr (omega arith, tt))
    first (suc thread) = inl (ap length (none_second thread (entry 0 0 (Enq 1) Done) (entry 0 1 Take (Found 1)) refl refl))

-- each reply is computed
pub legal_tried : LegalExamples
legal_tried = record {
  each_marked = record { replies = (refl, (refl, tt)); order = waiting_order };
  none_drawn = record { replies = tt; order = stuck_order };
  spent = record { replies = (refl, (refl, tt)); order = hurried_order };
  pause = record { replies = (refl, (refl, tt)); order = pausing_order };
  recovered = record { replies = (refl, (refl, tt)); order = resumed_order };
  epochs = refl;
}

-- a stretch of one entry of two, before a command that is no take, is none
pub no_stretch : (o : Opening) (h : List Entry) → o.settings.every ≡ 2 → entries_between h 0 1 0 ≡ 1 → (IsPause (next_command o (take 1 h) 0) → ⊥)
    → IsStretch o h 0 1 0 → ⊥
no_stretch o h two one busy stretch = ⊎_elim
    (λ (none : entries_between h 0 1 0 ≡ 0). absurd (omega (arith, none, one)))
    (⊎_elim (λ (all : entries_between h 0 1 0 ≡ o.settings.every). absurd (omega (arith, all, one, two)))
    (λ (few : (entries_between h 0 1 0 < o.settings.every) × IsPause (next_command o (take 1 h) 0)). busy few.1))
    stretch

-- the clause that each of them breaks
pub illegal_tried : IllegalExamples
illegal_tried = record {
  early_mark = λ legal. no_stretch hurried one_done refl refl (λ p. p) (legal.order.stretches.0 0);
  mark_inside = λ legal. no_stretch hurried two_done refl refl (λ p. p) (legal.order.stretches.0 0);
  falling_mark = λ legal. absurd (omega (arith, legal.order.rising.1.0));
  late_mark = λ legal. absurd (omega (arith, legal.order.rising.1));
  over_quota = λ legal. absurd (omega (arith, legal.order.rest 0));
  wrong_reply = λ legal. absurd (cc (legal.replies.0));
  passed_over = λ legal. absurd (omega (arith, (legal.order.commands 0).0));
  other_command = λ legal. absurd (cc ((legal.order.commands 0).1));
  twice = λ legal. absurd (omega (arith, (legal.order.commands 0).2.0));
  no_such_thread = λ legal. absurd (cc ((legal.order.commands 7).1));
  no_script = λ legal. absurd (omega (arith, legal.order.threads));
  no_point = λ legal. absurd (omega (arith, legal.order.points));
  late_start = λ legal. absurd (omega (arith, legal.order.begun.1));
  other_state = λ legal. absurd (omega (arith, ap (λ (s : State). (point_at s.points 0).position) legal.order.begun.0));
  too_soon = λ legal. absurd (cc (legal.order.begun));
  no_recovery = λ legal. absurd (omega (arith, legal.order.begun));
}

-- the clause that holds or breaks
pub draws_tried : DrawExamples
draws_tried = record {
  next = record { next = refl; index = refl; quota = omega arith; recovered = λ resume. absurd (cc (resume)) };
  passed_over = λ may. absurd (cc (may.next));
  other_index = λ may. absurd (omega (arith, may.index));
  spent = λ may. absurd (omega (arith, may.quota));
  marked_since = record { next = refl; index = refl; quota = omega arith; recovered = λ resume. absurd (cc (resume)) };
  recovering = λ may. may.recovered refl refl;
  recovered = record { next = refl; index = refl; quota = omega arith; recovered = λ resume none. absurd (cc (none)) };
  whole = hurried_order.stretches.0;
  part = λ may. no_stretch hurried one_done refl refl (λ p. p) (may 0);
  pause = pausing_order.stretches.0;
}
