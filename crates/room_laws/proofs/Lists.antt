-- Lists of lines, and chains.
use Rattle.std.proofs.Common.{◌≡◌, ℕ, ◌+◌, ◌<◌, ◌≤◌, ◌≢◌, zero, suc, Bool, List, [], ◌∷◌, ◌++◌, length, arith, refl, ap, sym, ◌∙◌, subst, inl, inr, if◌then◌else◌, eq-eqb}
use Rattle.std.proofs.lemmas.Bool.Decides.{eqb_tells}
use Rattle.std.proofs.lemmas.Bool.{ne_eqb}
use Rattle.seq_object.specs.History.{total}
use Rattle.room_model.specs.Chains.{IsChain, times}
use Rattle.room_model.specs.QueueRoom.{last_line}
use Rattle.seq_object.proofs.Totals.{total-same}

-- how often a line stands in two lists
pub times-append : (x : ℕ) (xs ys : List ℕ) → times x (xs ++ ys) ≡ times x xs + times x ys
times-append x [] ys = omega arith
times-append x (y ∷ xs) ys = omega (arith, times-append x xs ys)

-- a line of a list that is there once
pub times-here : (x : ℕ) (xs : List ℕ) → times x (x ∷ xs) ≡ 1 + times x xs
times-here x xs = ap (λ (b : Bool). (if b then 1 else 0) + times x xs) (eq-eqb x x refl)

-- and one that is another than the first
pub times-there : (x y : ℕ) (xs : List ℕ) → y ≢ x → times x (y ∷ xs) ≡ times x xs
times-there x y xs ne = ap (λ (b : Bool). (if b then 1 else 0) + times x xs) (ne_eqb y x ne) ∙ plain (times x xs)
  where
    plain : (k : ℕ) → 0 + k ≡ k
    plain k = omega arith

-- what is in the list is another line than what is not
pub other_than : (p x : ℕ) (xs : List ℕ) → times p xs ≡ 0 → 0 < times x xs → x ≢ p
other_than p x xs none some e = let h : times x xs ≡ times p xs = ap (λ (k : ℕ). times k xs) e in omega arith

-- each place of a list is counted at one line
pub length-by_times : (n : ℕ) (xs : List ℕ) → ((x : ℕ) → 0 < times x xs → x < n) → length xs ≡ total (λ x. times x xs) n
length-by_times n [] below = sym (none n)
  where
    none : (n : ℕ) → total (λ x. 0) n ≡ 0
    none zero = refl
    none (suc n) = let front = none n in omega (arith, front)
length-by_times n (y ∷ ys) below =
    let here = times-here y ys in
    let lt : y < n = below y (omega (arith, here)) in
    let rest : length ys ≡ total (λ x. times x ys) n = length-by_times n ys (λ x t. below x (omega arith)) in
    let more : total (λ x. times x (y ∷ ys)) n ≡ 1 + total (λ x. times x ys) n = one_more y ys n lt in
    omega (arith, rest, more)
  where
    beyond : (y : ℕ) (ys : List ℕ) (n : ℕ) → n ≤ y → total (λ x. times x (y ∷ ys)) n ≡ total (λ x. times x ys) n
    beyond y ys n le = total-same (λ x. times x ys) (λ x. times x (y ∷ ys)) n (λ c lt. times-there c y ys (λ e. omega (arith, e, lt, le)))

    one_more : (y : ℕ) (ys : List ℕ) (n : ℕ) → y < n → total (λ x. times x (y ∷ ys)) n ≡ 1 + total (λ x. times x ys) n
    one_more y ys zero lt = absurd (omega arith)
    one_more y ys (suc n) lt = elim (eqb_tells y n) [
      | inl h ↦
          let front = beyond y ys n (omega (arith, h.1)) in
          let last : times n (y ∷ ys) ≡ 1 + times n ys = subst (λ (k : ℕ). times k (y ∷ ys) ≡ 1 + times k ys) h.1 (times-here y ys) in
          omega (arith, front, last)
      | inr h ↦
          let front = one_more y ys n (omega (arith, h.1)) in
          let last = times-there n y ys h.1 in
          omega (arith, front, last)
    ]

-- a chain is told by where it starts
pub chain_one : (next : ℕ → ℕ) (s : ℕ) (xs ys : List ℕ) → IsChain next s xs → IsChain next s ys → xs ≡ ys
chain_one next s [] [] a b = refl
chain_one next s [] (y ∷ ys) a b = absurd (b.1 (sym b.0 ∙ a))
chain_one next s (x ∷ xs) [] a b = absurd (a.1 (sym a.0 ∙ b))
chain_one next s (x ∷ xs) (y ∷ ys) a b =
    let same : x ≡ y = sym a.0 ∙ b.0 in
    let rest : IsChain next (next x) ys = subst (λ (z : ℕ). IsChain next (next z) ys) (sym same) b.2 in
    let tails : xs ≡ ys = chain_one next (next x) xs ys a.2 rest in
    cc

-- what is not written on the way leaves the chain
pub chain_same : (next next' : ℕ → ℕ) (s : ℕ) (xs : List ℕ) → ((x : ℕ) → 0 < times x xs → next' x ≡ next x) → IsChain next s xs → IsChain next' s xs
chain_same next next' s [] same h = h
chain_same next next' s (x ∷ xs) same h =
    let once = times-here x xs in
    let here : next' x ≡ next x = same x (omega (arith, once)) in
    let rest : IsChain next' (next x) xs = chain_same next next' (next x) xs (λ y t. same y (omega arith)) h.2 in
    (h.0, h.1, subst (λ (z : ℕ). IsChain next' z xs) (sym here) rest)

-- one more line behind the last
pub chain_more : (next next' : ℕ → ℕ) (s x n : ℕ) (xs : List ℕ) → n ≢ 0 → next' n ≡ 0 → next' (last_line x xs) ≡ n → times n (x ∷ xs) ≡ 0 → times (last_line x xs) (x ∷ xs) ≡ 1
    → ((y : ℕ) → 0 < times y (x ∷ xs) → y ≢ n → y ≢ last_line x xs → next' y ≡ next y) → IsChain next s (x ∷ xs) → IsChain next' s ((x ∷ xs) ++ n ∷ [])
chain_more next next' s x n [] pos end link apart once same h = (h.0, h.1, (link, pos, end))
chain_more next next' s x n (y ∷ ys) pos end link apart once same h =
    let last = last_line y ys in
    let there : 1 ≤ times last (y ∷ ys) = last_in y ys in
    let ne : x ≢ last = λ e. let two = ap (λ (b : Bool). (if b then 1 else 0) + times last (y ∷ ys)) (eq-eqb x last e) in omega (arith, there, two, once) in
    let not_n : x ≢ n = λ e. let two = ap (λ (b : Bool). (if b then 1 else 0) + times n (y ∷ ys)) (eq-eqb x n e) in omega (arith, two, apart) in
    let less = times-there last x (y ∷ ys) ne in
    let one = times-here x (y ∷ ys) in
    let rest = chain_more next next' (next x) y n ys pos end link (omega arith) (omega (arith, less, once)) (λ z t. same z (omega arith)) h.2 in
    (h.0, h.1, subst (λ (k : ℕ). IsChain next' k ((y ∷ ys) ++ n ∷ [])) (sym (same x (omega (arith, one)) not_n ne)) rest)
  where
    last_in : (y : ℕ) (ys : List ℕ) → 1 ≤ times (last_line y ys) (y ∷ ys)
    last_in y [] = let h = times-here y [] in omega (arith, h)
    last_in y (z ∷ zs) = let h = last_in z zs in omega (arith, h)

-- the last line is the one put behind
pub last_line-more : (x n : ℕ) (xs : List ℕ) → last_line x (xs ++ n ∷ []) ≡ n
last_line-more x n [] = refl
last_line-more x n (y ∷ ys) = last_line-more y n ys
