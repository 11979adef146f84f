-- The command that is read is written so, and what is written so is read.
use Rattle.std.proofs.Common.{◌≡◌, ℕ, ◌<◌, ◌^◌, Bool, false, cond, ◌||◌, List, [], ◌∷◌, Result, Ok, Err, length, refl, ap, ◌∙◌, arith, subst, inl, inr, codes}
use Rattle.std.specs.Str.{bytes_eq}
use Rattle.std.specs.Fmt.{decimal}
use Rattle.script_text.specs.declared.fault.ScriptFault.{ScriptFault}
use Rattle.seq_object.specs.declared.command.Command.{Command}
use Rattle.seq_object.specs.declared.command.Command.TheVariants.{Put, Get, Del, Enq, Deq, Take}
use Rattle.script_text.specs.Pieces.{words}
use Rattle.script_text.specs.Faults.{no_command, ◌>>=◌, fault}
use Rattle.script_text.specs.Reading.{number_at}
use Rattle.script_text.specs.CommandWords.{bare_command, value_command, pair_command, command_of_words, command_at}
use Rattle.script_text.specs.Sections.{begins_section, ends_section}
use Rattle.script_text.specs.Text.{spaced, command_words, command_line, IsCommand}
use Rattle.script_text.proofs.Free.{AreSolid, AreFree-solid, joined-pieces, pieces-joined, solid-decimal}
use Rattle.script_text.proofs.NumberLaws.{bind_ok, bind_to, guard_ok, ok_is, number_ok, number_again}
use Rattle.script_text.proofs.LineLaws.{same_bytes, chosen}

-- these are the words of a command
abbrev pub AreCommand : List (List ℕ) → Command → Type 0
AreCommand ws c = (ws ≡ command_words c) × IsCommand c

-- a command that was read of one word has these words
pub bare_ok : (line : ℕ) (a : List ℕ) (c : Command) → bare_command line a ≡ Ok c → AreCommand (a ∷ []) c
bare_ok line a c e =
    elim (chosen (bytes_eq a (codes "deq")) (Ok Deq) (cond (bytes_eq a (codes "take")) (Ok Take) (Err (fault line no_command))) (Ok c) e) [
      | inl p ↦ subst (AreCommand (a ∷ [])) (ok_is Deq c p.1) (ap (λ (v : List ℕ). v ∷ []) (same_bytes a (codes "deq") p.0), tt)
      | inr p ↦
          let g = guard_ok (bytes_eq a (codes "take")) (Ok Take) (fault line no_command) c p.1 in
          subst (AreCommand (a ∷ [])) (ok_is Take c g.1) (ap (λ (v : List ℕ). v ∷ []) (same_bytes a (codes "take") g.0), tt)
    ]

-- a command of one number
one_number : (line : ℕ) (a b name : List ℕ) (make : ℕ → Command) → ((n : ℕ) → n < 2 ^ 64 → AreCommand (name ∷ decimal n ∷ []) (make n)) → (c : Command) → a ≡ name → (number_at line b >>= λ n. Ok (make n)) ≡ Ok c → AreCommand (a ∷ b ∷ []) c
one_number line a b name make is c same e =
    let n = bind_ok (number_at line b) (λ n. Ok (make n)) c e in
    let got = number_ok line b n.0 n.1 in
    let whole = is n.0 got.1 in
    subst (AreCommand (a ∷ b ∷ [])) (ok_is (make n.0) c n.2) (ap (λ (v : List ℕ). v ∷ b ∷ []) same ∙ ap (λ (v : List ℕ). name ∷ v ∷ []) got.0 ∙ whole.0, whole.1)

-- a command that was read of two words has these words
pub value_ok : (line : ℕ) (a b : List ℕ) (c : Command) → value_command line a b ≡ Ok c → AreCommand (a ∷ b ∷ []) c
value_ok line a b c e =
    let enq_or : Result Command ScriptFault = cond (bytes_eq a (codes "enq")) (number_at line b >>= λ n. Ok (Enq n)) (Err (fault line no_command)) in
    let del_or : Result Command ScriptFault = cond (bytes_eq a (codes "del")) (number_at line b >>= λ n. Ok (Del n)) enq_or in
    elim (chosen (bytes_eq a (codes "get")) (number_at line b >>= λ n. Ok (Get n)) del_or (Ok c) e) [
      | inl p ↦ one_number line a b (codes "get") Get (λ n small. (refl, small)) c (same_bytes a (codes "get") p.0) p.1
      | inr p ↦ elim (chosen (bytes_eq a (codes "del")) (number_at line b >>= λ n. Ok (Del n)) enq_or (Ok c) p.1) [
        | inl q ↦ one_number line a b (codes "del") Del (λ n small. (refl, small)) c (same_bytes a (codes "del") q.0) q.1
        | inr q ↦
            let g = guard_ok (bytes_eq a (codes "enq")) (number_at line b >>= λ n. Ok (Enq n)) (fault line no_command) c q.1 in
            one_number line a b (codes "enq") Enq (λ n small. (refl, small)) c (same_bytes a (codes "enq") g.0) g.1
      ]
    ]

-- a command that was read of three words has these words
pub pair_ok : (line : ℕ) (a k v : List ℕ) (c : Command) → pair_command line a k v ≡ Ok c → AreCommand (a ∷ k ∷ v ∷ []) c
pair_ok line a k v c e =
    let g = guard_ok (bytes_eq a (codes "put")) (number_at line k >>= λ x. number_at line v >>= λ y. Ok (Put x y)) (fault line no_command) c e in
    let x = bind_ok (number_at line k) _ c g.1 in
    let y = bind_ok (number_at line v) _ c x.2 in
    let key = number_ok line k x.0 x.1 in
    let value = number_ok line v y.0 y.1 in
    subst (AreCommand (a ∷ k ∷ v ∷ [])) (ok_is (Put x.0 y.0) c y.2)
    (ap (λ (w : List ℕ). w ∷ k ∷ v ∷ []) (same_bytes a (codes "put") g.0) ∙ ap (λ (w : List ℕ). codes "put" ∷ w ∷ v ∷ []) key.0 ∙ ap (λ (w : List ℕ). codes "put" ∷ decimal x.0 ∷ w ∷ []) value.0, (key.1, value.1))

-- a command that was read has these words
command_words_ok : (line : ℕ) (ws : List (List ℕ)) (c : Command) → command_of_words line ws ≡ Ok c → AreCommand ws c
command_words_ok line [] c e = absurd cc
command_words_ok line (a ∷ []) c e = bare_ok line a c e
command_words_ok line (a ∷ b ∷ []) c e = value_ok line a b c e
command_words_ok line (a ∷ b ∷ d ∷ []) c e = pair_ok line a b d c e
command_words_ok line (a ∷ b ∷ d ∷ f ∷ ws) c e = absurd cc

-- a command that was read is written as its line
pub command_ok : (line : ℕ) (t : List ℕ) (c : Command) → command_at line t ≡ Ok c → (t ≡ command_line c) × IsCommand c
command_ok line t c e =
    let got = command_words_ok line (words t) c e in
    (joined-pieces 32 t (command_words c) got.0, got.1)

-- the words of a command have no space and no line feed
pub command_solid : (c : Command) → IsCommand c → AreSolid (command_words c)
command_solid (Put k v) h = (refl, (solid-decimal k h.0, (solid-decimal v h.1, tt)))
command_solid (Get k) h = (refl, (solid-decimal k h, tt))
command_solid (Del k) h = (refl, (solid-decimal k h, tt))
command_solid (Enq v) h = (refl, (solid-decimal v h, tt))
command_solid Deq h = (refl, tt)
command_solid Take h = (refl, tt)

-- words that were joined by spaces are cut again
cut_words : (ws : List (List ℕ)) → 0 < length ws → AreSolid ws → words (spaced ws) ≡ ws
cut_words [] one h = absurd (omega arith)
cut_words (w ∷ ws) one h = pieces-joined 32 w ws (AreFree-solid 32 (w ∷ ws) (omega arith) h)

-- a command has a word
some_words : (c : Command) → 0 < length (command_words c)
some_words (Put k v) = omega arith
some_words (Get k) = omega arith
some_words (Del k) = omega arith
some_words (Enq v) = omega arith
some_words Deq = omega arith
some_words Take = omega arith

-- the words of a command's line are the command's words
words_of_command : (c : Command) → IsCommand c → words (command_line c) ≡ command_words c
words_of_command c h = cut_words (command_words c) (some_words c) (command_solid c h)

-- the words of a command are read as that command
pub command_words_again : (line : ℕ) (c : Command) → IsCommand c → command_of_words line (command_words c) ≡ Ok c
command_words_again line (Put k v) h =
    bind_to (number_at line (decimal k)) _ k (Ok (Put k v)) (number_again line k h.0) (bind_to (number_at line (decimal v)) _ v (Ok (Put k v)) (number_again line v h.1) refl)
command_words_again line (Get k) h = bind_to (number_at line (decimal k)) _ k (Ok (Get k)) (number_again line k h) refl
command_words_again line (Del k) h = bind_to (number_at line (decimal k)) _ k (Ok (Del k)) (number_again line k h) refl
command_words_again line (Enq v) h = bind_to (number_at line (decimal v)) _ v (Ok (Enq v)) (number_again line v h) refl
command_words_again line Deq h = refl
command_words_again line Take h = refl

-- the line of a command is read as that command
pub command_again : (line : ℕ) (c : Command) → IsCommand c → command_at line (command_line c) ≡ Ok c
command_again line c h = ap (command_of_words line) (words_of_command c h) ∙ command_words_again line c h

-- a command's line ends no section
no_section : (c : Command) → begins_section (command_words c) ≡ false
no_section (Put k v) = refl
no_section (Get k) = refl
no_section (Del k) = refl
no_section (Enq v) = refl
no_section Deq = refl
no_section Take = refl

-- no command is the last line
not_the_end : (c : Command) → bytes_eq (command_line c) (codes "end") ≡ false
not_the_end (Put k v) = refl
not_the_end (Get k) = refl
not_the_end (Del k) = refl
not_the_end (Enq v) = refl
not_the_end Deq = refl
not_the_end Take = refl

-- a section does not end at a command
pub command_goes_on : (c : Command) → IsCommand c → ends_section (command_line c) ≡ false
command_goes_on c h = ap (λ (b : Bool). b || begins_section (words (command_line c))) (not_the_end c) ∙ ap begins_section (words_of_command c h) ∙ no_section c
