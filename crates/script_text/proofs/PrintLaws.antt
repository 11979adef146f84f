-- What is written grows into the text.
use Rattle.std.proofs.Common.{◌≡◌, ℕ, ◌+◌, ◌<◌, List, [], ◌∷◌, ◌++◌, map, take, length, get_or, refl, sym, ap, ◌∙◌, arith, append_assoc, codes, Vec, Global}
use Rattle.std.specs.Fmt.{decimal}
use Rattle.std.proofs.lemmas.List.{take_more, map-append, append-nil, length-take-le, length-map}
use Rattle.std.proofs.lemmas.Grind.{flat_map-append}
use Rattle.seq_object.specs.declared.command.Command.{Command}
use Rattle.store_order.specs.declared.choice.Kept.{Kept}
use Rattle.script_text.specs.Pieces.{joined}
use Rattle.script_text.specs.Program.{listed, these, Program}
use Rattle.script_text.specs.Text.{section_line, spaced, ended, settings_lines, turns_words, keep_words, item_text, command_line, section_lines, sections_lines, text_of}

-- what was written, and more
pub grown : (new was start before more all : List ℕ) → new ≡ was ++ more → was ≡ start ++ before → all ≡ before ++ more → new ≡ start ++ all
grown new was start before more all e f g = e ∙ ap (λ (t : List ℕ). t ++ more) f ∙ append_assoc start before more ∙ ap (λ (t : List ℕ). start ++ t) (sym g)

-- one more piece, joined behind others
joined_push : (at : ℕ) (w : List ℕ) (ws : List (List ℕ)) (v : List ℕ) → joined at ((w ∷ ws) ++ v ∷ []) ≡ joined at (w ∷ ws) ++ at ∷ v
joined_push at w [] v = refl
joined_push at w (x ∷ xs) v = ap (λ (t : List ℕ). w ++ at ∷ t) (joined_push at x xs v) ∙ sym (append_assoc w (at ∷ joined at (x ∷ xs)) (at ∷ v))

-- one more thread of a list of turns
pub turns_pushed : (ts : List ℕ) (i : ℕ) → i < length ts → spaced (turns_words (listed (take (i + 1) ts))) ≡ spaced (turns_words (listed (take i ts))) ++ 32 ∷ decimal (get_or ts i 0)
turns_pushed ts i lt =
    ap (λ (xs : List ℕ). spaced (codes "turns" ∷ codes "list" ∷ map decimal xs)) (take_more ts i 0 lt)
    ∙ ap (λ (ws : List (List ℕ)). spaced (codes "turns" ∷ codes "list" ∷ ws)) (map-append decimal (take i ts) (get_or ts i 0 ∷ []))
    ∙ joined_push 32 (codes "turns") (codes "list" ∷ map decimal (take i ts)) (decimal (get_or ts i 0))

-- one more item of a keep list
pub items_pushed : (items : List Kept) (i : ℕ) (d : Kept) → i < length items → spaced (keep_words (these (take (i + 1) items))) ≡ spaced (keep_words (these (take i items))) ++ 32 ∷ item_text (get_or items i d)
items_pushed items i d lt =
    ap (λ (xs : List Kept). spaced (codes "keep" ∷ codes "list" ∷ map item_text xs)) (take_more items i d lt)
    ∙ ap (λ (ws : List (List ℕ)). spaced (codes "keep" ∷ codes "list" ∷ ws)) (map-append item_text (take i items) (get_or items i d ∷ []))
    ∙ joined_push 32 (codes "keep") (codes "list" ∷ map item_text (take i items)) (item_text (get_or items i d))

-- ---- sections

-- the lines of one more section behind others
section_last : (t : ℕ) (xs : List (List Command)) (x : List Command) → sections_lines t (xs ++ x ∷ []) ≡ sections_lines t xs ++ section_lines (t + length xs) x
section_last t [] x =
    ap (λ (ls : List (List ℕ)). section_line t ∷ ls) (append-nil (map command_line x)) ∙ ap (λ (n : ℕ). section_lines n x) (omega arith)
section_last t (y ∷ ys) x =
    ap (λ (ls : List (List ℕ)). section_line t ∷ (map command_line y ++ ls)) (section_last (t + 1) ys x)
    ∙ ap (λ (n : ℕ). section_line t ∷ (map command_line y ++ (sections_lines (t + 1) ys ++ section_lines n x))) (omega arith)
    ∙ ap (λ (ls : List (List ℕ)). section_line t ∷ ls) (sym (append_assoc (map command_line y) (sections_lines (t + 1) ys) (section_lines (t + length (y ∷ ys)) x)))

-- lines, one list after another
pub ended-append : (xs ys : List (List ℕ)) → ended (xs ++ ys) ≡ ended xs ++ ended ys
ended-append xs ys = flat_map-append (λ (line : List ℕ). line ++ 10 ∷ []) xs ys

-- the commands of each thread
abbrev pub lists : List (Vec Command Global) → List (List Command)
lists vs = map (λ v. v.items) vs

-- the text of one more section behind others
pub sections_pushed : (vs : List (Vec Command Global)) (i : ℕ) (v : Vec Command Global) → i < length vs → v ≡ get_or vs i v → ended (sections_lines 0 (lists (take (i + 1) vs))) ≡ ended (sections_lines 0 (lists (take i vs))) ++ ended (section_lines i v.items)
sections_pushed vs i v lt is =
    let count : length (lists (take i vs)) ≡ i = length-map (take i vs) (λ (v : Vec Command Global). v.items) ∙ length-take-le i vs (omega arith) in
    ap (λ (xs : List (Vec Command Global)). ended (sections_lines 0 (lists xs))) (take_more vs i v lt ∙ ap (λ (x : Vec Command Global). take i vs ++ x ∷ []) (sym is))
    ∙ ap (λ (xs : List (List Command)). ended (sections_lines 0 xs)) (map-append (λ (v : Vec Command Global). v.items) (take i vs) (v ∷ []))
    ∙ ap ended (section_last 0 (lists (take i vs)) v.items)
    ∙ ended-append (sections_lines 0 (lists (take i vs))) (section_lines (0 + length (lists (take i vs))) v.items)
    ∙ ap (λ (n : ℕ). ended (sections_lines 0 (lists (take i vs))) ++ ended (section_lines n v.items)) (let zero_more : 0 + length (lists (take i vs)) ≡ i = omega (arith, count) in zero_more)

-- ---- a whole text

-- a text in the parts in which it is written
pub text_parts : (p : Program) → text_of p ≡ ((((codes "respct 1\n" ++ ended (settings_lines p.settings)) ++ (spaced (turns_words p.turns) ++ 10 ∷ [])) ++ (spaced (keep_words p.keep) ++ 10 ∷ [])) ++ ended (sections_lines 0 p.threads)) ++ codes "end\n"
text_parts p =
    let settings = ended (settings_lines p.settings) in
    let turns = spaced (turns_words p.turns) ++ 10 ∷ [] in
    let keep = spaced (keep_words p.keep) ++ 10 ∷ [] in
    let sections = ended (sections_lines 0 p.threads) in
    let rest : List (List ℕ) = spaced (turns_words p.turns) ∷ spaced (keep_words p.keep) ∷ (sections_lines 0 p.threads ++ codes "end" ∷ []) in
    ap (λ (t : List ℕ). codes "respct 1\n" ++ t) (ended-append (settings_lines p.settings) rest ∙ ap (λ (t : List ℕ). settings ++ (turns ++ (keep ++ t))) (ended-append (sections_lines 0 p.threads) (codes "end" ∷ [])))
    ∙ regroup (codes "respct 1\n") settings turns keep sections (codes "end\n")
  where
    regroup : (a b c d e f : List ℕ) → a ++ (b ++ (c ++ (d ++ (e ++ f)))) ≡ ((((a ++ b) ++ c) ++ d) ++ e) ++ f
    regroup a b c d e f = sym (simp append_assoc)

-- the parts, written one after another
pub written : (p : Program) (b0 b1 b2 b3 b4 b5 b6 : List ℕ) → b0 ≡ [] → b1 ≡ b0 ++ codes "respct 1\n" → b2 ≡ b1 ++ ended (settings_lines p.settings) → b3 ≡ b2 ++ (spaced (turns_words p.turns) ++ 10 ∷ [])
    → b4 ≡ b3 ++ (spaced (keep_words p.keep) ++ 10 ∷ []) → b5 ≡ b4 ++ ended (sections_lines 0 p.threads) → b6 ≡ b5 ++ codes "end\n" → b6 ≡ text_of p
written p b0 b1 b2 b3 b4 b5 b6 e0 e1 e2 e3 e4 e5 e6 =
    e6 ∙ ap (λ (t : List ℕ). t ++ codes "end\n") (e5 ∙ ap (λ (t : List ℕ). t ++ ended (sections_lines 0 p.threads)) (e4 ∙ ap (λ (t : List ℕ). t ++ (spaced (keep_words p.keep) ++ 10 ∷ []))
    (e3 ∙ ap (λ (t : List ℕ). t ++ (spaced (turns_words p.turns) ++ 10 ∷ [])) (e2 ∙ ap (λ (t : List ℕ). t ++ ended (settings_lines p.settings)) (e1 ∙ ap (λ (t : List ℕ). t ++ codes "respct 1\n") e0)))))
    ∙ sym (text_parts p)
