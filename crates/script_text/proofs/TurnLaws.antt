-- The turns that are read are written so, and what is written so is read.
use Rattle.std.proofs.Common.{◌≡◌, ℕ, ◌+◌, ◌<◌, ◌≤◌, ◌^◌, Bool, true, cond, ltb, ◌&&◌, List, [], ◌∷◌, map, drop, Ok, Err, length, refl, ap, ◌∙◌, arith, subst, inl, inr, codes}
use Rattle.std.specs.Str.{bytes_eq}
use Rattle.std.specs.List.{AllByRecursion}
use Rattle.std.specs.Fmt.{decimal}
use Rattle.std.proofs.lemmas.Bool.{ltb-true, lt-ltb}
use Rattle.script_text.specs.Pieces.{begins_list}
use Rattle.script_text.specs.Faults.{out_of_range, bad_turns, ◌>>=◌, fault}
use Rattle.script_text.specs.Reading.{Left, number_at, limited_at}
use Rattle.script_text.specs.Program.{Turns, round_robin, seeded, listed, live, most_turns}
use Rattle.script_text.specs.Turns.{turn_at, turn_list, counted_turns, turns_of_words, turns_at}
use Rattle.script_text.specs.Text.{spaced, turns_words, AreTurns}
use Rattle.script_text.proofs.Free.{AreSolid, and_left, and_right, and_both, solid-decimal}
use Rattle.script_text.proofs.NumberLaws.{bind_ok, bind_to, guard_ok, ok_is, done, number_ok, number_again, limited_ok, limited_again}
use Rattle.script_text.proofs.LineLaws.{same_bytes, chosen, line_with_ok, words_again}

-- a turn that was read is written as that word, within the limits
turn_ok : (line threads seen : ℕ) (w : List ℕ) (t : ℕ) → turn_at line threads seen w ≡ Ok t → (w ≡ decimal t) × (t < threads) × (seen < most_turns)
turn_ok line threads seen w t e =
    let b = bind_ok (number_at line w) _ t e in
    let g = guard_ok (ltb b.0 threads && ltb seen most_turns) (Ok b.0) (fault line out_of_range) t b.2 in
    let same : b.0 ≡ t = ok_is b.0 t g.1 in
    let below = ltb-true b.0 threads (and_left (ltb b.0 threads) (ltb seen most_turns) g.0) in
    let few = ltb-true seen most_turns (and_right (ltb b.0 threads) (ltb seen most_turns) g.0) in
    ((number_ok line w b.0 b.1).0 ∙ ap decimal same, omega arith, few)

-- a turn as it is written is read
turn_again : (line threads seen t : ℕ) → t < 2 ^ 64 → t < threads → seen < most_turns → turn_at line threads seen (decimal t) ≡ Ok t
turn_again line threads seen t small below few =
    bind_to (number_at line (decimal t)) _ t (Ok t) (number_again line t small)
    (ap (λ (b : Bool). cond b (done t) (Err (fault line out_of_range))) (and_both (ltb t threads) (ltb seen most_turns) (lt-ltb t threads below) (lt-ltb seen most_turns few)))

-- turns that were read have these words, within the limits
turn_list_ok : (line threads seen : ℕ) (ws : List (List ℕ)) (ts : List ℕ) → seen ≤ most_turns → turn_list line threads seen ws ≡ Ok ts
    → (ws ≡ map decimal ts) × AllByRecursion (λ t. t < threads) ts × (seen + length ts ≤ most_turns)
turn_list_ok line threads seen [] ts few e =
    subst (λ (ts : List ℕ). ([] ≡ map decimal ts) × AllByRecursion (λ t. t < threads) ts × (seen + length ts ≤ most_turns)) (ok_is [] ts e) (refl, tt, omega arith)
turn_list_ok line threads seen (w ∷ ws) ts few e =
    let b = bind_ok (turn_at line threads seen w) _ ts e in
    let c = bind_ok (turn_list line threads (seen + 1) ws) _ ts b.2 in
    let first = turn_ok line threads seen w b.0 b.1 in
    let rest = turn_list_ok line threads (seen + 1) ws c.0 (omega (arith, first.2)) c.1 in
    subst (λ (ts : List ℕ). (w ∷ ws ≡ map decimal ts) × AllByRecursion (λ t. t < threads) ts × (seen + length ts ≤ most_turns)) (ok_is (b.0 ∷ c.0) ts c.2)
    (ap (λ (v : List ℕ). v ∷ ws) first.0 ∙ ap (λ (vs : List (List ℕ)). decimal b.0 ∷ vs) rest.0, (first.1, rest.1), omega (arith, rest.2))

-- the words of turns are read as those turns
turn_list_again : (line threads seen : ℕ) (ts : List ℕ) → threads ≤ 16 → AllByRecursion (λ t. t < threads) ts → seen + length ts ≤ most_turns → turn_list line threads seen (map decimal ts) ≡ Ok ts
turn_list_again line threads seen [] narrow below few = refl
turn_list_again line threads seen (t ∷ ts) narrow below few =
    bind_to (turn_at line threads seen (decimal t)) _ t (Ok (t ∷ ts)) (turn_again line threads seen t (omega (arith, below.0)) below.0 (omega arith))
    (bind_to (turn_list line threads (seen + 1) (map decimal ts)) _ ts (Ok (t ∷ ts)) (turn_list_again line threads (seen + 1) ts narrow below.1 (omega arith)) refl)

-- two words that pass the tests are these names
pub two_names : (a b name form : List ℕ) → (bytes_eq a name && bytes_eq b form) ≡ true → (a ≡ name) × (b ≡ form)
two_names a b name form e = (same_bytes a name (and_left (bytes_eq a name) (bytes_eq b form) e), same_bytes b form (and_right (bytes_eq a name) (bytes_eq b form) e))

-- the front of a list of words
pub list_front : (name : List ℕ) (ws : List (List ℕ)) → begins_list name ws ≡ true → ws ≡ name ∷ codes "list" ∷ drop 2 ws
list_front name [] e = absurd cc
list_front name (a ∷ []) e = absurd cc
list_front name (a ∷ b ∷ ws) e =
    let names = two_names a b name (codes "list") e in
    ap (λ (v : List ℕ). v ∷ b ∷ ws) names.0 ∙ ap (λ (v : List ℕ). name ∷ v ∷ ws) names.1

-- a form with no list that was read has these words
counted_ok : (line threads : ℕ) (ws : List (List ℕ)) (t : Turns) → counted_turns line ws ≡ Ok t → (ws ≡ turns_words t) × AreTurns threads t
counted_ok line threads [] t e = absurd cc
counted_ok line threads (a ∷ []) t e = absurd cc
counted_ok line threads (a ∷ b ∷ []) t e =
    let g = guard_ok (bytes_eq a (codes "live")) (limited_at line 0 most_turns b >>= λ n. Ok (live n)) (fault line bad_turns) t e in
    let n = bind_ok (limited_at line 0 most_turns b) _ t g.1 in
    let got = limited_ok line 0 most_turns b n.0 n.1 in
    subst (λ (t : Turns). (a ∷ b ∷ [] ≡ turns_words t) × AreTurns threads t) (ok_is (live n.0) t n.2)
    (ap (λ (v : List ℕ). v ∷ b ∷ []) (same_bytes a (codes "live") g.0) ∙ ap (λ (v : List ℕ). codes "live" ∷ v ∷ []) got.0, got.3)
counted_ok line threads (a ∷ b ∷ c ∷ []) t e =
    let g = guard_ok (bytes_eq a (codes "turns") && bytes_eq b (codes "rr")) (limited_at line 0 most_turns c >>= λ n. Ok (round_robin n)) (fault line bad_turns) t e in
    let names = two_names a b (codes "turns") (codes "rr") g.0 in
    let n = bind_ok (limited_at line 0 most_turns c) _ t g.1 in
    let got = limited_ok line 0 most_turns c n.0 n.1 in
    subst (λ (t : Turns). (a ∷ b ∷ c ∷ [] ≡ turns_words t) × AreTurns threads t) (ok_is (round_robin n.0) t n.2)
    (ap (λ (v : List ℕ). v ∷ b ∷ c ∷ []) names.0 ∙ ap (λ (v : List ℕ). codes "turns" ∷ v ∷ c ∷ []) names.1 ∙ ap (λ (v : List ℕ). codes "turns" ∷ codes "rr" ∷ v ∷ []) got.0, got.3)
counted_ok line threads (a ∷ b ∷ c ∷ d ∷ []) t e =
    let g = guard_ok (bytes_eq a (codes "turns") && bytes_eq b (codes "seed")) (number_at line c >>= λ seed. limited_at line 0 most_turns d >>= λ n. Ok (seeded seed n)) (fault line bad_turns) t e in
    let names = two_names a b (codes "turns") (codes "seed") g.0 in
    let s = bind_ok (number_at line c) _ t g.1 in
    let n = bind_ok (limited_at line 0 most_turns d) _ t s.2 in
    let seed = number_ok line c s.0 s.1 in
    let got = limited_ok line 0 most_turns d n.0 n.1 in
    subst (λ (t : Turns). (a ∷ b ∷ c ∷ d ∷ [] ≡ turns_words t) × AreTurns threads t) (ok_is (seeded s.0 n.0) t n.2) (
      ap (λ (v : List ℕ). v ∷ b ∷ c ∷ d ∷ []) names.0 ∙ ap (λ (v : List ℕ). codes "turns" ∷ v ∷ c ∷ d ∷ []) names.1 ∙ ap (λ (v : List ℕ). codes "turns" ∷ codes "seed" ∷ v ∷ d ∷ []) seed.0
          ∙ ap (λ (v : List ℕ). codes "turns" ∷ codes "seed" ∷ decimal s.0 ∷ v ∷ []) got.0,
      (seed.1, got.3),
    )
counted_ok line threads (a ∷ b ∷ c ∷ d ∷ f ∷ ws) t e = absurd cc

-- turns that were read have these words, within the limits
turns_words_ok : (line threads : ℕ) (ws : List (List ℕ)) (t : Turns) → turns_of_words line threads ws ≡ Ok t → (ws ≡ turns_words t) × AreTurns threads t
turns_words_ok line threads ws t e =
    elim (chosen (begins_list (codes "turns") ws) (turn_list line threads 0 (drop 2 ws) >>= λ ts. Ok (listed ts)) (counted_turns line ws) (Ok t) e) [
      | inl p ↦ listed_ok p.0 p.1
      | inr p ↦ counted_ok line threads ws t p.1
    ]
  where
    listed_ok : begins_list (codes "turns") ws ≡ true → (turn_list line threads 0 (drop 2 ws) >>= λ ts. Ok (listed ts)) ≡ Ok t → (ws ≡ turns_words t) × AreTurns threads t
    listed_ok begins got =
        let b = bind_ok (turn_list line threads 0 (drop 2 ws)) _ t got in
        let list = turn_list_ok line threads 0 (drop 2 ws) b.0 (omega arith) b.1 in
        subst (λ (t : Turns). (ws ≡ turns_words t) × AreTurns threads t) (ok_is (listed b.0) t b.2)
        (list_front (codes "turns") ws begins ∙ ap (λ (vs : List (List ℕ)). codes "turns" ∷ codes "list" ∷ vs) list.0, (list.1, omega (arith, list.2)))

-- the words of the turns are read as those turns
turns_words_again : (line threads : ℕ) (t : Turns) → threads ≤ 16 → AreTurns threads t → turns_of_words line threads (turns_words t) ≡ Ok t
turns_words_again line threads (round_robin n) narrow h =
    bind_to (limited_at line 0 most_turns (decimal n)) _ n (Ok (round_robin n)) (limited_again line 0 most_turns n (omega arith) (omega arith) h) refl
turns_words_again line threads (seeded seed n) narrow h =
    bind_to (number_at line (decimal seed)) _ seed (Ok (seeded seed n)) (number_again line seed h.0)
    (bind_to (limited_at line 0 most_turns (decimal n)) _ n (Ok (seeded seed n)) (limited_again line 0 most_turns n (omega (arith, h.1)) (omega arith) h.1) refl)
turns_words_again line threads (listed ts) narrow h =
    bind_to (turn_list line threads 0 (map decimal ts)) _ ts (Ok (listed ts)) (turn_list_again line threads 0 ts narrow h.0 (omega (arith, h.1))) refl
turns_words_again line threads (live n) narrow h =
    bind_to (limited_at line 0 most_turns (decimal n)) _ n (Ok (live n)) (limited_again line 0 most_turns n (omega arith) (omega arith) h) refl

-- the threads of a list have no space and no line feed
numbers_solid : (threads : ℕ) (ts : List ℕ) → threads ≤ 16 → AllByRecursion (λ t. t < threads) ts → AreSolid (map decimal ts)
numbers_solid threads [] narrow h = tt
numbers_solid threads (t ∷ ts) narrow h = (solid-decimal t (omega (arith, h.0)), numbers_solid threads ts narrow h.1)

-- the words of the turns have no space and no line feed
pub turns_solid : (threads : ℕ) (t : Turns) → threads ≤ 16 → AreTurns threads t → AreSolid (turns_words t)
turns_solid threads (round_robin n) narrow h = (refl, (refl, (solid-decimal n (omega arith), tt)))
turns_solid threads (seeded seed n) narrow h = (refl, (refl, (solid-decimal seed h.0, (solid-decimal n (omega (arith, h.1)), tt))))
turns_solid threads (listed ts) narrow h = (refl, (refl, numbers_solid threads ts narrow h.0))
turns_solid threads (live n) narrow h = (refl, (solid-decimal n (omega arith), tt))

-- the turns have a word
some_words : (t : Turns) → 0 < length (turns_words t)
some_words (round_robin n) = omega arith
some_words (seeded seed n) = omega arith
some_words (listed ts) = omega arith
some_words (live n) = omega arith

-- turns that were read are written as the line that was taken
pub turns_ok : (threads : ℕ) (left : Left) (t : Turns) (behind : Left) → turns_at threads left ≡ Ok (t, behind) → (left.pieces ≡ spaced (turns_words t) ∷ behind.pieces) × AreTurns threads t
turns_ok threads left t behind e =
    let took = line_with_ok (λ line. turns_of_words line threads) left t behind e in
    let got = turns_words_ok left.line threads took.found t took.gives in
    (took.takes ∙ ap (λ (ws : List (List ℕ)). spaced ws ∷ behind.pieces) got.0, got.1)

-- the line of the turns is read as those turns
pub turns_again : (threads : ℕ) (left : Left) (t : Turns) (more : List (List ℕ)) → threads ≤ 16 → AreTurns threads t → left.pieces ≡ spaced (turns_words t) ∷ more → 0 < length more
    → turns_at threads left ≡ Ok (t, record { pieces = more; line = left.line + 1 })
turns_again threads left t more narrow h is some =
    words_again (λ line. turns_of_words line threads) left t (turns_words t) more (some_words t) (turns_solid threads t narrow h) (turns_words_again left.line threads t narrow h) is some
