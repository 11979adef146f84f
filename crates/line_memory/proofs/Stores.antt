-- Lists of stores: what they leave of words, and of one word.
use Rattle.std.proofs.Common.{◌≡◌, ℕ, ◌<◌, ◌^◌, ◌==◌, List, [], ◌∷◌, ◌++◌, length, get_or, set, if◌then◌else◌, arith, refl, ap, ◌∙◌, length-set}
use Rattle.std.specs.List.{All}
use Rattle.std.proofs.lemmas.Grind.{common_steps}
use Rattle.std.proofs.lemmas.List.Elements.{All-set, All-head, All-tail}
use Rattle.line_memory.specs.declared.store.Store.{Store}
use Rattle.line_memory.specs.Line.{latest, applied, IsStore}

-- stores keep the number of words
pub length-applied : (ws : List ℕ) (ss : List Store) → length (applied ws ss) ≡ length ws
length-applied ws [] = refl
length-applied ws (s ∷ ss) = length-applied (set ws s.word s.value) ss ∙ length-set ws s.word s.value

-- stores one list after the other
pub applied-append : (ws : List ℕ) (ss ts : List Store) → applied ws (ss ++ ts) ≡ applied (applied ws ss) ts
applied-append ws [] ts = refl
applied-append ws (s ∷ ss) ts = applied-append (set ws s.word s.value) ss ts

-- the latest value of a word is that word after all the stores
pub latest-applied : (ws : List ℕ) (ss : List Store) (w : ℕ) → w < length ws → latest (get_or ws w 0) w ss ≡ get_or (applied ws ss) w 0
latest-applied ws [] w lt = refl
latest-applied ws (s ∷ ss) w lt =
    let next : latest (get_or (set ws s.word s.value) w 0) w ss ≡ get_or (applied (set ws s.word s.value) ss) w 0 = latest-applied (set ws s.word s.value) ss w (grind (arith, common_steps)) in
    let one : (if s.word == w then s.value else get_or ws w 0) ≡ get_or (set ws s.word s.value) w 0 = grind (arith, common_steps) in
    ap (λ v. latest v w ss) one ∙ next

-- stores of numbers of 64 bits keep words of 64 bits
pub words-applied : (ws : List ℕ) (ss : List Store) → All (λ word. word < 2 ^ 64) ws → All IsStore ss → All (λ word. word < 2 ^ 64) (applied ws ss)
words-applied ws [] words stores = words
words-applied ws (s ∷ ss) words stores =
    words-applied (set ws s.word s.value) ss (All-set (λ word. word < 2 ^ 64) ws s.word s.value (All-head IsStore s ss stores).value words) (All-tail IsStore s ss stores)
