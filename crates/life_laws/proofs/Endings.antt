-- How lives end, and what is not lost.
use Rattle.std.proofs.Common.{◌≡◌, ◌≢◌, ℕ, ◌+◌, ◌<◌, ◌≤◌, ◌==◌, ◌⊎◌, zero, suc, cond, Bool, true, false, List, [], ◌∷◌, length, take, get_or, Option, Some, None, if◌then◌else◌, refl, sym, ap, ◌∙◌, subst, inl, inr, ⊎_elim, arith, eq-eqb}
use Rattle.std.specs.Prelude.{slice_get}
use Rattle.std.proofs.lemmas.Bool.{ne_eqb, cases_lt}
use Rattle.std.proofs.lemmas.Bool.Decides.{eqb_tells}
use Rattle.std.proofs.lemmas.List.{get_or_past, length-take-le}
use Rattle.std.proofs.lemmas.Option.{slice_get_past, slice_get_cases}
use Rattle.std.proofs.Math.Seq.{take-length}
use Rattle.seq_object.specs.declared.command.Command.{Command}
use Rattle.seq_object.specs.declared.history.Entry.{Entry}
use Rattle.seq_object.specs.History.{of_thread, State, after, first_state, AreCommands, total, Scripts, point_at}
use Rattle.seq_object.proofs.Histories.{in_script, point, point_count}
use Rattle.seq_object.proofs.Totals.{total_none, total-same, total-grown}
use Rattle.life_model.specs.declared.life.Life.{Life}
use Rattle.life_model.specs.declared.life.Life.TheVariants.{Start, Resume}
use Rattle.life_model.specs.declared.life.Outcome.TheVariants.{Finished, Stalled, Cut, Starved}
use Rattle.room_model.specs.MapRoom.{live_layout}
use Rattle.room_model.specs.Image.{image_of, epoch_at, Recovers}
use Rattle.life_model.specs.Life.{Opening, sizes, script_of, place_after, next_command, covered}
use Rattle.life_model.specs.Ends.{AreUsed, IsAllCovered, IsFinished}
use Rattle.life_model.specs.Crash.{epoch_after, recovered_prefix}
use Rattle.life_model.specs.Lives.{LivedLife, surviving_image, recovered_history, IsLife, HasOneHistory}
use Rattle.life_laws.specs.LivesLaws.{AcknowledgedLaw, AllDoneLaw}
use Rattle.life_laws.specs.EndLaws.{FinishedOrNotLaw, FinishedEndLaw}
use Rattle.life_laws.proofs.States.{one_state}
use Rattle.life_laws.proofs.Chain.{kept_recovers, first_at, length-first, no_entries}
use Rattle.life_laws.proofs.Steps.{last_within}
use Rattle.seq_object.specs.declared.history.RestartPoint.{RestartPoint}
use Rattle.seq_object.specs.declared.sizes.Sizes.{Sizes}

-- either image keeps at least what was covered
pub acknowledged : AcknowledgedLaw
acknowledged o h marks memory legal safe choice =
    let few : covered marks ≤ length h = last_within 0 marks (length h) legal.order.rising in
    elim (safe choice) [
      | inl a ↦
          let all : length (recovered_prefix o h marks (epoch_at (sizes o) (image_of memory choice))) ≡ covered marks =
          ap (λ (b : Bool). length (if b then take (covered marks) h else h))
          (eq-eqb (epoch_at (sizes o) (image_of memory choice)) (epoch_after o marks) a.epoch) ∙ length-take-le (covered marks) h few in
          (omega (arith, a.epoch), omega (arith, all))
      | inr a ↦
          let all : length (recovered_prefix o h marks (epoch_at (sizes o) (image_of memory choice))) ≡ length h =
          ap (λ (b : Bool). length (if b then take (covered marks) h else h))
          (ne_eqb (epoch_at (sizes o) (image_of memory choice)) (epoch_after o marks) (λ e. omega (arith, e, a.epoch))) in
          (omega (arith, a.epoch), omega (arith, all, few))
    ]

-- finished or not

-- a thread has a next command or it has none
is_used : (x : Option Command) → (x ≡ None) ⊎ (x ≡ None → ⊥)
is_used None = inl refl
is_used (Some command) = inr (λ e. absurd (cc))

used_below : (o : Opening) (h : List Entry) (n : ℕ) → ((thread : ℕ) → thread < n → next_command o h thread ≡ None) ⊎ (AreUsed o h → ⊥)
used_below o h zero = inl (λ thread lt. absurd (omega arith))
used_below o h (suc n) = elim (used_below o h n) [
  | inr never ↦ inr never
  | inl below ↦ elim (is_used (next_command o h n)) [
    | inr never ↦ inr (λ all. never (all n))
    | inl here ↦ inl (λ thread lt. ⊎_elim (λ (e : thread < n). below thread e) (λ (e : n ≤ thread). let same : n ≡ thread =
        omega arith in subst (λ (t : ℕ). next_command o h t ≡ None) same here) (cases_lt thread n))
  ]
]

-- a thread that there is not has no command
no_thread : (o : Opening) (h : List Entry) (thread : ℕ) → length o.scripts ≤ thread → next_command o h thread ≡ None
no_thread o h thread le = slice_get_past (script_of o.scripts thread) (place_after o h thread) (let none =
    ap length (get_or_past o.scripts thread [] le) in omega (arith, none))

used_or_not : (o : Opening) (h : List Entry) → AreUsed o h ⊎ (AreUsed o h → ⊥)
used_or_not o h = elim (used_below o h (length o.scripts)) [
  | inr never ↦ inr never
  | inl below ↦ inl (λ thread. ⊎_elim (below thread) (no_thread o h thread) (cases_lt thread (length o.scripts)))
]

-- all is covered or it is not
saved_or_not : (o : Opening) (life : Life) (h : List Entry) (marks : List ℕ) → o.life ≡ life → IsAllCovered o h marks ⊎ (IsAllCovered o h marks → ⊥)
saved_or_not o Start [] [] e = inl (inr (e, refl, refl))
saved_or_not o Start (x ∷ h) [] e =
    inr (⊎_elim (λ (a : ([] ≢ []) × (covered [] ≡ length (x ∷ h))). a.0 refl) (λ (a : (o.life ≡ Start) × (x ∷ h ≡ []) × ([] ≡ [])). absurd (cc (a.1))))
saved_or_not o Resume h [] e = inr
    (⊎_elim (λ (a : ([] ≢ []) × (covered [] ≡ length h)). a.0 refl) (λ (a : (o.life ≡ Start) × (h ≡ []) × ([] ≡ [])). absurd (cc (a.0, e))))
saved_or_not o life h (m ∷ ms) e = elim (eqb_tells (covered (m ∷ ms)) (length h)) [
  | inl s ↦ inl (inl ((λ n. absurd (cc)), s.1))
  | inr s ↦ inr (⊎_elim (λ (a : (m ∷ ms ≢ []) × (covered (m ∷ ms) ≡ length h)). s.1 a.1)
      (λ (a : (o.life ≡ Start) × (h ≡ []) × (m ∷ ms ≡ [])). absurd (cc (a.2))))
]

-- both parts of being finished can be told
pub finished_or_not : FinishedOrNotLaw
finished_or_not o h marks = elim (used_or_not o h) [
  | inr never ↦ inr (λ f. never f.0)
  | inl used ↦ elim (saved_or_not o o.life h marks refl) [
    | inr never ↦ inr (λ f. never f.1)
    | inl all ↦ inl (used, all)
  ]
]

-- a finished life has no thread that waits
pub finished_end : FinishedEndLaw
finished_end o h marks Finished ends finished = inl refl
finished_end o h marks Stalled ends finished = absurd (cc (finished.0 ends.waiting, ends.waits))
finished_end o h marks Cut ends finished = absurd (ends finished)
finished_end o h marks Starved ends finished = inr refl

-- all done

-- no entries
abbrev no_entry : List Entry
no_entry = []

-- of no entries a prefix is none
none_taken : (n : ℕ) → take n no_entry ≡ []
none_taken zero = refl
none_taken (suc n) = refl

-- a finished life keeps its whole history
all_saved_kept : (o : Opening) (h : List Entry) (marks : List ℕ) (epoch : ℕ) → IsAllCovered o h marks → recovered_prefix o h marks epoch ≡ h
all_saved_kept o h marks epoch all = by_test (epoch == epoch_after o marks)
  where
    whole : take (covered marks) h ≡ h
    whole = ⊎_elim (λ (a : (marks ≢ []) × (covered marks ≡ length h)). ap (λ (n : ℕ). take n h) a.1 ∙ take-length h)
        (λ (a : (o.life ≡ Start) × (h ≡ []) × (marks ≡ [])). ap (take (covered marks)) a.1 ∙ none_taken (covered marks) ∙ sym a.1) all

    by_test : (b : Bool) → (if b then take (covered marks) h else h) ≡ h
    by_test true = whole
    by_test false = refl

-- where a script has no command its end is passed
past_script : (script : List Command) (place : ℕ) → slice_get script place ≡ None → length script ≤ place
past_script script place none = ⊎_elim
    (λ (a : (x : Command) × (place < length script) × (slice_get script place ≡ Some x) × (get_or script place x ≡ x)). absurd (cc (none, a.2)))
    (λ (a : (length script ≤ place) × (slice_get script place ≡ None)). a.0) (slice_get_cases script place).1

-- an entry of a thread is one more of its own
own_more : (t : ℕ) (e : Entry) (es : List Entry) → e.thread ≡ t → length (of_thread t (e ∷ es)) ≡ length (of_thread t es) + 1
own_more t e es same = ap (λ (b : Bool). length (cond b (e ∷ of_thread t es) (of_thread t es))) (eq-eqb e.thread t same)
    ∙ one (length (of_thread t es))
  where
    one : (k : ℕ) → suc k ≡ k + 1
    one k = omega arith

-- an entry of another thread is none of its own
other_same : (t : ℕ) (e : Entry) (es : List Entry) → e.thread ≢ t → length (of_thread t (e ∷ es)) ≡ length (of_thread t es)
other_same t e es ne = ap (λ (b : Bool). length (cond b (e ∷ of_thread t es) (of_thread t es))) (ne_eqb e.thread t ne)

-- the threads' entries are all entries
count_all : (n : ℕ) (h : List Entry) → ((t : ℕ) → n ≤ t → length (of_thread t h) ≡ 0) → length h ≡ total (λ t. length (of_thread t h)) n
count_all n [] none = sym (total_none n)
count_all n (e ∷ es) none =
    let known : e.thread < n = ⊎_elim (λ (lt : e.thread < n). lt)
    (λ (le : n ≤ e.thread). absurd (omega (arith, none e.thread le, own_more e.thread e es refl))) (cases_lt e.thread n) in
    let fewer : (t : ℕ) → n ≤ t → length (of_thread t es) ≡ 0 = λ t le. let zero_here = none t le in let same =
    other_same t e es (λ q. omega (arith, q, known, le)) in omega (arith, zero_here, same) in
    let rest : length es ≡ total (λ t. length (of_thread t es)) n = count_all n es fewer in
    let grown : total (λ t. length (of_thread t (e ∷ es))) n ≡ total (λ t. length (of_thread t es)) n + 1 =
    total-grown (λ t. length (of_thread t es)) (λ t. length (of_thread t (e ∷ es))) e.thread n known (own_more e.thread e es refl)
    (λ c ne. other_same c e es (λ q. ne (sym q))) in
    omega (arith, rest, grown)

module _ (z : Sizes) (scripts : Scripts) (h : List Entry) (l : LivedLife) (holds : HasOneHistory z scripts (surviving_image l) h)
    (life : IsLife z scripts l) (finished : IsFinished l.opening l.history l.marks) where
  -- there is one script for each thread
  sections : length scripts ≡ z.threads
  sections = sym (ap length life.same_scripts) ∙ life.legal.order.threads ∙ ap (λ (y : Sizes). y.threads) life.same_sizes

  -- what is left recovers to the state after what was kept
  recovers_kept : Recovers live_layout z (surviving_image l) (after z l.opening.state (recovered_history l))
  recovers_kept = subst (λ (y : Sizes). Recovers live_layout y (surviving_image l) (after y l.opening.state (recovered_history l))) life.same_sizes
      (kept_recovers l.opening l.history l.marks l.memory life.safe l.choice)

  -- that is the state after the whole history, by both accounts
  one_end : after z (first_state z) h ≡ after z l.opening.state l.history
  one_end = one_state live_layout z (surviving_image l) (after z (first_state z) h) (after z l.opening.state (recovered_history l)) holds.recovers recovers_kept
      ∙ ap (after z l.opening.state) (all_saved_kept l.opening l.history l.marks (epoch_at (sizes l.opening) (surviving_image l)) finished.1)

  -- so each thread's entries have come as far as the life's place
  one_place : (thread : ℕ) → thread < z.threads → length (of_thread thread h) ≡ place_after l.opening l.history thread
  one_place thread lt =
      let place : RestartPoint → ℕ = λ p. p.position in
      let whole : (point_at (after z (first_state z) h).points thread).position ≡
      (point_at (first_state z).points thread).position + length (of_thread thread h) =
      ap place (point z (first_state z) h thread (subst (λ (n : ℕ). thread < n) (sym (length-first z.threads)) lt)) in
      let opened : length l.opening.state.points ≡ z.threads = sym (point_count z l.opening.state (recovered_history l)) ∙ recovers_kept.threads in
      let last : (point_at (after z l.opening.state l.history).points thread).position ≡ place_after l.opening l.history thread =
      ap place (point z l.opening.state l.history thread (subst (λ (n : ℕ). thread < n) (sym opened) lt)) in
      let same : (point_at (after z (first_state z) h).points thread).position ≡ (point_at (after z l.opening.state l.history).points thread).position =
      ap (λ (s : State). (point_at s.points thread).position) one_end in
      let first : (point_at (first_state z).points thread).position ≡ 0 = ap place (first_at z.threads thread) in
      omega (arith, whole, last, same, first)

  -- each thread has carried out its whole script
  thread_done : (thread : ℕ) → length (of_thread thread h) ≡ length (script_of scripts thread)
  thread_done thread = ⊎_elim
      (λ (lt : thread < z.threads).
      let most : 0 + length (of_thread thread h) ≤ length (script_of scripts thread) =
      in_script (script_of scripts thread) 0 (of_thread thread h) (holds.commands thread) (omega arith) in
      let used : slice_get (script_of scripts thread) (place_after l.opening l.history thread) ≡ None =
      subst (λ (all : Scripts). slice_get (script_of all thread) (place_after l.opening l.history thread) ≡ None) life.same_scripts
      (finished.0 thread) in
      let least : length (script_of scripts thread) ≤ place_after l.opening l.history thread =
      past_script (script_of scripts thread) (place_after l.opening l.history thread) used in
      omega (arith, most, least, one_place thread lt))
      (λ (le : z.threads ≤ thread).
      let none : script_of scripts thread ≡ [] = get_or_past scripts thread [] (omega (arith, sections, le)) in
      ap length (no_entries 0 (of_thread thread h)
      (subst (λ (script : List Command). AreCommands script 0 (of_thread thread h)) none (holds.commands thread))) ∙ sym (ap length none))
      (cases_lt thread z.threads)

  -- and all threads together have carried out all commands
  all_threads : length h ≡ total (λ thread. length (script_of scripts thread)) z.threads
  all_threads = count_all z.threads h (λ t le. thread_done t ∙ ap length (get_or_past scripts t [] (omega (arith, sections, le))))
      ∙ total-same (λ t. length (script_of scripts t)) (λ t. length (of_thread t h)) z.threads (λ t lt. thread_done t)

-- each thread's number of entries, and that of all
pub all_done : AllDoneLaw
all_done z scripts h l holds life finished = (thread_done z scripts h l holds life finished, all_threads z scripts h l holds life finished)
