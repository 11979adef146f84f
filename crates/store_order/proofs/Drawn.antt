use Rattle.std.proofs.Common.{◌≡◌, ℕ, suc, ◌+◌, ◌%◌, ◌<◌, ◌++◌, List, [], ◌∷◌, length, drop, ap, sym, ◌∙◌, add-one, arith, append_assoc}
use Rattle.std.proofs.lemmas.List.{drop_more}
use Rattle.rand_xoshiro.specs.SplitMix64.{mix_u64, next_state}
use Rattle.line_memory.specs.Line.{LineState, survivor, line_at, no_line}
use Rattle.room_model.specs.Image.{surviving_lines}
use Rattle.store_order.specs.Choice.{state_after, word_drawn}

-- one more word is drawn
pub state_after-more : (seed first n state next : ℕ) → state ≡ state_after (first + n) seed → next ≡ next_state state → next ≡ state_after (first + (n + 1)) seed
state_after-more seed first n state next is step =
    let more : suc (first + n) ≡ first + (n + 1) = omega arith in
    step ∙ ap next_state is ∙ ap (λ (m : ℕ). state_after m seed) more

-- a drawn word says how many of the pending stores are kept
pub kept_drawn : (seed n state word pending counted : ℕ) → state ≡ state_after n seed → word ≡ (mix_u64 state).0 → counted ≡ pending → word % (counted + 1) ≡ word_drawn seed n % (pending + 1)
kept_drawn seed n state word pending counted is drawn same =
    ap (λ (m : ℕ). m % (counted + 1)) (drawn ∙ ap (λ (s : ℕ). (mix_u64 s).0) is) ∙ ap (λ (q : ℕ). word_drawn seed n % (q + 1)) same

-- one more line is left
pub lines_left-more : (f : ℕ → ℕ) (lines : List LineState) (i : ℕ) (made total : List (List ℕ)) (words : List ℕ) → i < length lines → words ≡ survivor (line_at lines i) (f i)
    → made ++ surviving_lines f i (drop i lines) ≡ total → (made ++ words ∷ []) ++ surviving_lines f (i + 1) (drop (i + 1) lines) ≡ total
lines_left-more f lines i made total words within is so_far =
    let opened : surviving_lines f i (drop i lines) ≡ survivor (line_at lines i) (f i) ∷ surviving_lines f (suc i) (drop (i + 1) lines) = ap (surviving_lines f i) (drop_more lines i no_line within) in
    let next : surviving_lines f (i + 1) (drop (i + 1) lines) ≡ surviving_lines f (suc i) (drop (i + 1) lines) = ap (λ (n : ℕ). surviving_lines f n (drop (i + 1) lines)) (add-one i) in
    append_assoc made (words ∷ []) (surviving_lines f (i + 1) (drop (i + 1) lines))
    ∙ ap (λ (rest : List (List ℕ)). made ++ words ∷ rest) next
    ∙ ap (λ (ws : List ℕ). made ++ ws ∷ surviving_lines f (suc i) (drop (i + 1) lines)) is
    ∙ ap (λ (rest : List (List ℕ)). made ++ rest) (sym opened)
    ∙ so_far
