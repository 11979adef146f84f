-- Lists of lives.
use Rattle.std.proofs.Common.{◌≡◌, ℕ, ◌+◌, ◌<◌, ◌≤◌, ◌==◌, ◌⊎◌, zero, suc, Bool, true, false, List, [], ◌∷◌, ◌++◌, length, take, drop, if◌then◌else◌, refl, sym, ap, ◌∙◌, subst, inl, inr, ⊎_elim, arith, append_assoc, append-nil, eq-eqb}
use Rattle.std.proofs.lemmas.Bool.{ne_eqb, cases_lt}
use Rattle.std.proofs.lemmas.List.{get_or_past}
use Rattle.std.proofs.lemmas.Option.{slice_get_within}
use Rattle.std.proofs.lemmas.List.Elements.{filter-append}
use Rattle.seq_object.specs.declared.command.Command.{Command}
use Rattle.seq_object.specs.declared.history.Entry.{Entry}
use Rattle.seq_object.specs.Object.{no_contents}
use Rattle.seq_object.specs.History.{of_thread, contents_at, IsLegal, State, after, first_state, AreCommands, point_at, first_points, Scripts, first_point, points_from}
use Rattle.seq_object.proofs.Histories.{legal_in_pieces, after_in_pieces, commands_in_pieces, point}
use Rattle.life_model.specs.declared.life.Life.{Life}
use Rattle.life_model.specs.declared.life.Life.TheVariants.{Start, Resume}
use Rattle.room_model.specs.MapRoom.{live_layout}
use Rattle.room_model.specs.Image.{ImageRooms, image_of, epoch_at, Recovers}
use Rattle.life_model.specs.Life.{Opening, sizes, script_of, opening_place, covered, BeginsRightly}
use Rattle.life_model.specs.Crash.{epoch_after}
use Rattle.life_model.specs.Lives.{LivedLife, surviving_image, recovered_history, IsLife, AreResumed, all_recovered, last_image, HasOneHistory}
use Rattle.life_laws.specs.LivesLaws.{KeptLaw, FirstLifeLaw, NextLifeLaw, LivesLaw}
use Rattle.life_laws.proofs.States.{one_state}
use Rattle.seq_object.specs.declared.history.RestartPoint.{RestartPoint}
use Rattle.seq_object.specs.declared.sizes.Sizes.{Sizes}

-- an image recovers to the state after the prefix that its epoch names
pub kept_recovers : KeptLaw
kept_recovers o h marks memory safe choice = elim (safe choice) [
  | inl a ↦ subst (λ (b : Bool). Recovers live_layout (sizes o) (image_of memory choice)
      (after (sizes o) o.state (if b then take (covered marks) h else h)))
      (sym (eq-eqb (epoch_at (sizes o) (image_of memory choice)) (epoch_after o marks) a.epoch)) a.recovers
  | inr a ↦ subst (λ (b : Bool). Recovers live_layout (sizes o) (image_of memory choice)
      (after (sizes o) o.state (if b then take (covered marks) h else h)))
      (sym (ne_eqb (epoch_at (sizes o) (image_of memory choice)) (epoch_after o marks) (λ e. omega (arith, e, a.epoch)))) a.recovers
]

-- a history is a prefix of it and the rest
take_drop : (n : ℕ) (h : List Entry) → take n h ++ drop n h ≡ h
take_drop zero h = refl
take_drop (suc n) [] = refl
take_drop (suc n) (e ∷ h) = ap (λ (t : List Entry). e ∷ t) (take_drop n h)

-- either prefix is one of the history
by_test : (b : Bool) (n : ℕ) (h : List Entry) → (rest : List Entry) × ((if b then take n h else h) ++ rest ≡ h)
by_test true n h = (drop n h, take_drop n h)
by_test false n h = ([], append-nil h)

-- what is kept of a life is a prefix of its history
kept_prefix : (l : LivedLife) → (rest : List Entry) × (recovered_history l ++ rest ≡ l.history)
kept_prefix l = by_test (epoch_at (sizes l.opening) (surviving_image l) == epoch_after l.opening l.marks) (covered l.marks) l.history

-- the kept prefix of a legal history is legal
kept_replies : (l : LivedLife) → IsLegal (sizes l.opening) l.opening.state.contents l.history
    → IsLegal (sizes l.opening) l.opening.state.contents (recovered_history l)
kept_replies l legal =
    let p = kept_prefix l in
    ((legal_in_pieces (sizes l.opening) l.opening.state.contents (recovered_history l) p.0).1
    (subst (IsLegal (sizes l.opening) l.opening.state.contents) (sym p.1) legal)).0

-- the kept entries of a thread are its commands from the same place on
kept_commands : (l : LivedLife) (script : List Command) (place thread : ℕ) → AreCommands script place (of_thread thread l.history)
    → AreCommands script place (of_thread thread (recovered_history l))
kept_commands l script place thread a =
    let p = kept_prefix l in
    let whole : of_thread thread (recovered_history l) ++ of_thread thread p.0 ≡ of_thread thread l.history =
    sym (filter-append (λ e. e.thread == thread) (recovered_history l) p.0) ∙ ap (of_thread thread) p.1 in
    ((commands_in_pieces script place (of_thread thread (recovered_history l)) (of_thread thread p.0)).1 (subst (AreCommands script place) (sym whole) a)).0

-- each of the first restart points is the first one
pub first_at : (n i : ℕ) → point_at (first_points n) i ≡ first_point
first_at zero i = refl
first_at (suc n) zero = refl
first_at (suc n) (suc i) = first_at n i

-- as many first restart points as asked for
pub length-first : (n : ℕ) → length (first_points n) ≡ n
length-first zero = refl
length-first (suc n) = ap suc (length-first n)

-- a start begins in the first state
begun_at : (life : Life) (o : Opening) (h : List Entry) (marks : List ℕ) → life ≡ Start → BeginsRightly (record o { life = life }) h marks
    → o.state ≡ first_state (sizes o)
begun_at Start o h marks e b = b.0
begun_at Resume o h marks e b = absurd (cc)

-- without an entry no restart point moves
unmoved : (i : ℕ) (ps : List RestartPoint) → points_from i ps [] ≡ ps
unmoved i [] = refl
unmoved i (p ∷ ps) =
    let here : p.position + 0 ≡ p.position = omega arith in
    let rest = unmoved (suc i) ps in
    λ m. record { position = here m } ∷ rest m

-- a state is the one after no entry
pub after_nothing : (z : Sizes) (s : State) → s ≡ after z s []
after_nothing z s = let same = unmoved 0 s.points in λ m. record { contents = s.contents; points = sym same m }

-- 0 adds nothing
nothing_more : (n : ℕ) → 0 + n ≡ n
nothing_more n = omega arith

-- no entry goes through an empty script
pub no_entries : (place : ℕ) (es : List Entry) → AreCommands [] place es → es ≡ []
no_entries place [] a = refl
no_entries place (e ∷ es) a = absurd (omega (arith, slice_get_within [] place e.command a.1))

-- a life that begins where a history ends
module _ (z : Sizes) (scripts : Scripts) (h : List Entry) (l : LivedLife) (life : IsLife z scripts l)
    (begins : l.opening.state ≡ after z (first_state z) h)
    (replies : IsLegal z no_contents h) (commands : (thread : ℕ) → AreCommands (script_of scripts thread) 0 (of_thread thread h)) where
  -- there is one script for each thread
  sections : length scripts ≡ z.threads
  sections = sym (ap length life.same_scripts) ∙ life.legal.order.threads ∙ ap (λ (y : Sizes). y.threads) life.same_sizes

  -- a thread goes on where its entries so far end, or has no command at all
  goes_on : (thread : ℕ) → (opening_place l.opening thread ≡ length (of_thread thread h)) ⊎ (script_of scripts thread ≡ [])
  goes_on thread = ⊎_elim
      (λ (lt : thread < z.threads). inl
      (ap (λ (s : State). (point_at s.points thread).position) begins
      ∙ ap (λ (p : RestartPoint). p.position) (point z (first_state z) h thread (subst (λ (n : ℕ). thread < n) (sym (length-first z.threads)) lt))
      ∙ ap (λ (p : RestartPoint). p.position + length (of_thread thread h)) (first_at z.threads thread) ∙ nothing_more (length (of_thread thread h))))
      (λ (le : z.threads ≤ thread). inr (get_or_past scripts thread [] (omega (arith, sections, le))))
      (cases_lt thread z.threads)

  -- the kept entries of each thread go on where those before ended
  entries_go_on : (thread : ℕ) → AreCommands (script_of scripts thread) (length (of_thread thread h)) (of_thread thread (recovered_history l))
  entries_go_on thread =
      let own : AreCommands (script_of scripts thread) (opening_place l.opening thread) (of_thread thread (recovered_history l)) =
      subst (λ (all : Scripts). AreCommands (script_of all thread) (opening_place l.opening thread)
      (of_thread thread (recovered_history l))) life.same_scripts
      (kept_commands l (script_of l.opening.scripts thread) (opening_place l.opening thread) thread (life.legal.order.commands thread)) in
      ⊎_elim
      (λ (e : opening_place l.opening thread ≡ length (of_thread thread h)). subst
      (λ (place : ℕ). AreCommands (script_of scripts thread) place (of_thread thread (recovered_history l))) e own)
      (λ (e : script_of scripts thread ≡ []). subst (AreCommands (script_of scripts thread) (length (of_thread thread h)))
      (sym (no_entries (opening_place l.opening thread) (of_thread thread (recovered_history l))
      (subst (λ (script : List Command). AreCommands script (opening_place l.opening thread) (of_thread thread (recovered_history l))) e own))) tt)
      (goes_on thread)

  -- the kept replies are the object's after the history
  replies_go_on : IsLegal z (contents_at z no_contents h) (recovered_history l)
  replies_go_on =
      let own : IsLegal z l.opening.state.contents (recovered_history l) =
      subst (λ (y : Sizes). IsLegal y l.opening.state.contents (recovered_history l)) life.same_sizes (kept_replies l life.legal.replies) in
      subst (λ (s : State). IsLegal z s.contents (recovered_history l)) begins own

  -- what is left recovers to the state after both
  recovers_on : Recovers live_layout z (surviving_image l) (after z (first_state z) (h ++ recovered_history l))
  recovers_on =
      let own : Recovers live_layout z (surviving_image l) (after z l.opening.state (recovered_history l)) =
      subst (λ (y : Sizes). Recovers live_layout y (surviving_image l) (after y l.opening.state (recovered_history l))) life.same_sizes
      (kept_recovers l.opening l.history l.marks l.memory life.safe l.choice) in
      subst (Recovers live_layout z (surviving_image l)) (ap (λ (s : State). after z s (recovered_history l)) begins
      ∙ sym (after_in_pieces z (first_state z) h (recovered_history l))) own

  -- what is left holds both
  pub holds_on : HasOneHistory z scripts (surviving_image l) (h ++ recovered_history l)
  holds_on = record {
    replies = (legal_in_pieces z no_contents h (recovered_history l)).0 replies replies_go_on;
    commands = λ thread. subst (AreCommands (script_of scripts thread) 0) (sym (filter-append (λ e. e.thread == thread) h (recovered_history l)))
        ((commands_in_pieces (script_of scripts thread) 0 (of_thread thread h) (of_thread thread (recovered_history l))).0 (commands thread)
        (subst (λ (place : ℕ). AreCommands (script_of scripts thread) place (of_thread thread (recovered_history l))) (omega arith) (entries_go_on thread)));
    recovers = recovers_on;
  }

-- a start goes on from the empty history
pub first_life : FirstLifeLaw
first_life z scripts l life start =
    let begins : l.opening.state ≡ first_state (sizes l.opening) = begun_at l.opening.life l.opening l.history l.marks start life.legal.order.begun in
    holds_on z scripts [] l life (begins ∙ ap first_state life.same_sizes ∙ after_nothing z (first_state z)) tt (λ thread. tt)

-- a resume goes on from what its image holds, since that recovers to one state
pub next_life : NextLifeLaw
next_life z scripts image h l holds life resumes =
    holds_on z scripts h l life (one_state live_layout z image l.opening.state
    (after z (first_state z) h) resumes.state holds.recovers) holds.replies holds.commands

-- lives that are resumed one after another go on from one another
resumed : (z : Sizes) (scripts : Scripts) (image : ImageRooms) (h : List Entry) (ls : List LivedLife) → HasOneHistory z scripts image h
    → AreResumed z scripts image ls → HasOneHistory z scripts (last_image image ls) (h ++ all_recovered ls)
resumed z scripts image h [] holds a = subst (HasOneHistory z scripts image) (sym (append-nil h)) holds
resumed z scripts image h (l ∷ ls) holds a =
    subst (HasOneHistory z scripts (last_image (surviving_image l) ls)) (append_assoc h (recovered_history l) (all_recovered ls))
    (resumed z scripts (surviving_image l) (h ++ recovered_history l) ls (next_life z scripts image h l holds a.0 a.1) a.2)

-- a list of lives is a start, and then resumes
pub lives : LivesLaw
lives z scripts first later a = resumed z scripts (surviving_image first) (recovered_history first) later (first_life z scripts first a.0 a.1) a.2
