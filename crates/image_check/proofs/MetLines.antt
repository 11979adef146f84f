-- What a walk met: the lines of a chain, behind those met before.
use Rattle.std.proofs.Common.{◌≡◌, ℕ, ◌+◌, ◌<◌, ◌≤◌, ◌≢◌, ◌==◌, ◌&&◌, ◌⊎◌, zero, suc, Bool, true, false, Option, Some, None, List, [], ◌∷◌, length, arith, refl, ap, sym, ◌∙◌, subst, inl, inr, if◌then◌else◌, eq-eqb, true≢false}
use Rattle.std.proofs.lemmas.Bool.Decides.{eqb_tells, nat_tests}
use Rattle.std.proofs.lemmas.Bool.{ne_eqb}
use Rattle.room_model.specs.Chains.{IsChain, times, is_node}
use Rattle.seq_object.specs.History.{total}
use Rattle.room_model.specs.QueueRoom.{last_line}
use Rattle.room_laws.proofs.Totals.{one_where, total-nodes}
use Rattle.room_laws.proofs.Lists.{times-here, length-by_times}
use Rattle.room_laws.proofs.Tests.{by_Bool}
use Rattle.image_check.specs.Meeting.{latest, is_new, met_from}

-- lines behind those met before, in the order in which they are met
abbrev pub behind : List ℕ → List ℕ → List ℕ
behind met [] = met
behind met (x ∷ xs) = behind (x ∷ met) xs

-- each of these lines may be met behind those before it
abbrev pub AllMay : (List ℕ → ℕ → Bool) → List ℕ → List ℕ → Type 0
AllMay may met [] = Unit {0}
AllMay may met (x ∷ xs) = (may met x ≡ true) × AllMay may (x ∷ met) xs

-- the chain that a walk met
pub record IsMet (next : ℕ → ℕ) (may : List ℕ → ℕ → Bool) (met : List ℕ) (n start : ℕ) (all : List ℕ) : Type 0 where
  pub chain : List ℕ
  pub short : length chain ≤ n
  pub chained : IsChain next start chain
  pub may_be : AllMay may met chain
  pub all_is : all ≡ behind met chain

abbrev is_none : Option (List ℕ) → Type 0
is_none None = Unit {0}
is_none (Some x) = ⊥

pub none_some : (xs : List ℕ) → None ≡ Some xs → ⊥
none_some xs e = subst is_none e tt

abbrev list_in : Option (List ℕ) → List ℕ
list_in None = []
list_in (Some x) = x

pub same_list : (xs ys : List ℕ) → Some xs ≡ Some ys → xs ≡ ys
same_list xs ys e = ap list_in e

-- a walk that came to its end met a chain
pub met_tells : (next : ℕ → ℕ) (may : List ℕ → ℕ → Bool) (met : List ℕ) (n start : ℕ) (all : List ℕ) → met_from next may met n start ≡ Some all → IsMet next may met n start all
met_tells next may met zero start all h = elim (eqb_tells start 0) [
  | inl e ↦ record { chain = []; short = omega arith; chained = e.1; may_be = tt; all_is = sym (same_list met all (sym (ap (λ (b : Bool). if b then Some met else None) e.0) ∙ h)) }
  | inr e ↦ absurd (none_some all (sym (ap (λ (b : Bool). if b then Some met else None) e.0) ∙ h))
]
met_tells next may met (suc n) start all h = elim (eqb_tells start 0) [
  | inl e ↦ record { chain = []; short = omega arith; chained = e.1; may_be = tt; all_is = sym (same_list met all (sym (ap (λ (b : Bool). if b then Some met else further) e.0) ∙ h)) }
  | inr e ↦ on (λ g. met_tells next may (start ∷ met) n (next start) all g) (may met start) refl e.1 (sym (ap (λ (b : Bool). if b then Some met else further) e.0) ∙ h)
]
  where
    further : Option (List ℕ)
    further = if may met start then met_from next may (start ∷ met) n (next start) else None

    on : (met_from next may (start ∷ met) n (next start) ≡ Some all → IsMet next may (start ∷ met) n (next start) all) → (t : Bool) → may met start ≡ t → start ≢ 0 → (if may met start then met_from next may (start ∷ met) n (next start) else None) ≡ Some all → IsMet next may met (suc n) start all
    on more true is some g =
        let rest = more (sym (ap (λ (b : Bool). if b then met_from next may (start ∷ met) n (next start) else None) is) ∙ g) in
        record { chain = start ∷ rest.chain; short = (let s = rest.short in omega (arith, s)); chained = (refl, some, rest.chained); may_be = (is, rest.may_be); all_is = rest.all_is }
    on more false is some g = absurd (none_some all (sym (ap (λ (b : Bool). if b then met_from next may (start ∷ met) n (next start) else None) is) ∙ g))

-- a chain of lines that may be met is met
pub met_chain : (next : ℕ → ℕ) (may : List ℕ → ℕ → Bool) (met : List ℕ) (n start : ℕ) (xs : List ℕ) → IsChain next start xs → AllMay may met xs → length xs ≤ n → met_from next may met n start ≡ Some (behind met xs)
met_chain next may met zero start [] chain all fits = ap (λ (b : Bool). if b then Some met else None) (eq-eqb start 0 chain)
met_chain next may met (suc n) start [] chain all fits = ap (λ (b : Bool). if b then Some met else if may met start then met_from next may (start ∷ met) n (next start) else None) (eq-eqb start 0 chain)
met_chain next may met zero start (x ∷ xs) chain all fits = absurd (omega arith)
met_chain next may met (suc n) start (x ∷ xs) chain all fits =
    ap (met_from next may met (suc n)) chain.0
    ∙ ap (λ (b : Bool). if b then Some met else if may met x then met_from next may (x ∷ met) n (next x) else None) (ne_eqb x 0 chain.1)
    ∙ ap (λ (b : Bool). if b then met_from next may (x ∷ met) n (next x) else None) all.0
    ∙ met_chain next may (x ∷ met) n (next x) xs chain.2 all.1 (omega arith)

-- what holds of what was met, and is kept by each line that may be met, holds of all
pub behind_keeps : (P : List ℕ → Type 0) (may : List ℕ → ℕ → Bool) → ((met : List ℕ) (x : ℕ) → may met x ≡ true → P met → P (x ∷ met)) → (met xs : List ℕ) → AllMay may met xs → P met → P (behind met xs)
behind_keeps P may step met [] all h = h
behind_keeps P may step met (x ∷ xs) all h = behind_keeps P may step (x ∷ met) xs all.1 (step met x all.0 h)

pub times-behind : (y : ℕ) (met xs : List ℕ) → times y (behind met xs) ≡ times y xs + times y met
times-behind y met [] = omega arith
times-behind y met (x ∷ xs) = let rest = times-behind y (x ∷ met) xs in omega (arith, rest)

pub length-behind : (met xs : List ℕ) → length (behind met xs) ≡ length xs + length met
length-behind met [] = omega arith
length-behind met (x ∷ xs) = let rest = length-behind (x ∷ met) xs in omega (arith, rest)

pub latest-behind : (met xs : List ℕ) → latest (behind met xs) ≡ last_line (latest met) xs
latest-behind met [] = refl
latest-behind met (x ∷ xs) = latest-behind (x ∷ met) xs

-- each line met is a node, and was met once
abbrev pub AreNodes : ℕ → ℕ → List ℕ → Type 0
AreNodes first fresh met = (x : ℕ) → times x met ≤ (if is_node first fresh x then 1 else 0)

pub false_true : false ≡ true → ⊥
false_true e = true≢false (sym e)

pub new_tells : (first fresh : ℕ) (met : List ℕ) (x : ℕ) → is_new first fresh met x ≡ true → (is_node first fresh x ≡ true) × (times x met ≡ 0)
new_tells first fresh met x h = by_Bool (λ b. b && (times x met == 0) ≡ true → (b ≡ true) × (times x met ≡ 0)) (is_node first fresh x)
    (λ node g. (refl, elim (eqb_tells (times x met) 0) [ inl e ↦ e.1 | inr e ↦ absurd (false_true (sym e.0 ∙ g)) ]))
    (λ node g. absurd (false_true g)) h

pub new_is : (first fresh : ℕ) (met : List ℕ) (x : ℕ) → is_node first fresh x ≡ true → times x met ≡ 0 → is_new first fresh met x ≡ true
new_is first fresh met x node none = ap (λ (b : Bool). b && (times x met == 0)) node ∙ eq-eqb (times x met) 0 none

pub nodes_more : (first fresh : ℕ) (met : List ℕ) (x : ℕ) → is_new first fresh met x ≡ true → AreNodes first fresh met → AreNodes first fresh (x ∷ met)
nodes_more first fresh met x h are y = elim (eqb_tells x y) [
  | inl e ↦
      let told = new_tells first fresh met x h in
      let one : one_where (is_node first fresh y) ≡ 1 = ap (λ (k : ℕ). one_where (is_node first fresh k)) (sym e.1) ∙ ap one_where told.0 in
      let none : times y met ≡ 0 = ap (λ (k : ℕ). times k met) (sym e.1) ∙ told.1 in
      let here : times y (x ∷ met) ≡ 1 + times y met = ap (λ (b : Bool). (if b then 1 else 0) + times y met) e.0 in
      omega (arith, one, none, here)
  | inr e ↦
      let there : times y (x ∷ met) ≡ 0 + times y met = ap (λ (b : Bool). (if b then 1 else 0) + times y met) e.0 in
      let before : times y met ≤ one_where (is_node first fresh y) = are y in
      omega (arith, there, before)
]

-- lines that are nodes, once, and were not met before, may be met
pub all_new : (first fresh : ℕ) (met xs : List ℕ) → ((x : ℕ) → times x xs + times x met ≤ (if is_node first fresh x then 1 else 0)) → AllMay (is_new first fresh) met xs
all_new first fresh met [] are = tt
all_new first fresh met (x ∷ xs) are =
    let once = times-here x xs in
    let most : times x (x ∷ xs) + times x met ≤ one_where (is_node first fresh x) = are x in
    let node : is_node first fresh x ≡ true = is_true (is_node first fresh x) (omega (arith, once, most)) in
    let one : one_where (is_node first fresh x) ≡ 1 = ap one_where node in
    (new_is first fresh met x node (omega (arith, once, most, one)), all_new first fresh (x ∷ met) xs (λ y. let m = are y in omega (arith, m)))
  where
    is_true : (b : Bool) → 1 ≤ one_where b → b ≡ true
    is_true true le = refl
    is_true false le = absurd (omega arith)

nat_cases : (a b : ℕ) → (a < b) ⊎ (b ≤ a)
nat_cases a zero = inr (omega arith)
nat_cases zero (suc b) = inl (omega arith)
nat_cases (suc a) (suc b) = elim (nat_cases a b) [ inl lt ↦ inl (omega arith) | inr le ↦ inr (omega arith) ]

-- sums of smaller parts
total-least : (f g : ℕ → ℕ) (n : ℕ) → ((x : ℕ) → f x ≤ g x) → total f n ≤ total g n
total-least f g zero least = omega arith
total-least f g (suc n) least = let front = total-least f g n least in let last = least n in omega (arith, front, last)

-- and where the sums are the same, so are the parts
total-exact : (f g : ℕ → ℕ) (n : ℕ) → ((x : ℕ) → f x ≤ g x) → total f n ≡ total g n → (x : ℕ) → x < n → f x ≡ g x
total-exact f g zero least same x lt = absurd (omega arith)
total-exact f g (suc n) least same x lt =
    let front = total-least f g n least in
    let last : f n ≤ g n = least n in
    elim (eqb_tells x n) [
      | inl e ↦ let a : f x ≡ f n = ap f e.1 in let b : g x ≡ g n = ap g e.1 in omega (arith, a, b, front, last, same)
      | inr e ↦ total-exact f g n least (omega (arith, front, last, same)) x (omega (arith, e.1))
    ]

node_above : (first fresh x : ℕ) → fresh ≤ x → one_where (is_node first fresh x) ≡ 0
node_above first fresh x high = grind (arith, nat_tests)

-- lines that are nodes, once each, are at most as many as the nodes, and each node where they are as many
pub all_nodes : (first fresh : ℕ) (xs : List ℕ) → first ≤ fresh → AreNodes first fresh xs → length xs + first ≡ fresh → (x : ℕ) → times x xs ≡ (if is_node first fresh x then 1 else 0)
all_nodes first fresh xs low are size x = elim (nat_cases x fresh) [
  | inl lt ↦ total-exact (λ y. times y xs) (λ y. if is_node first fresh y then 1 else 0) fresh are (omega (arith, counted, nodes, size)) x lt
  | inr le ↦ let none = node_above first fresh x le in let most : times x xs ≤ one_where (is_node first fresh x) = are x in omega (arith, none, most)
]
  where
    below : (y : ℕ) → 0 < times y xs → y < fresh
    below y pos = elim (nat_cases y fresh) [
      | inl lt ↦ lt
      | inr le ↦ let none = node_above first fresh y le in let most : times y xs ≤ one_where (is_node first fresh y) = are y in absurd (omega (arith, none, most, pos))
    ]

    counted : length xs ≡ total (λ y. times y xs) fresh
    counted = length-by_times fresh xs below

    nodes : total (λ y. if is_node first fresh y then 1 else 0) fresh + first ≡ fresh
    nodes = total-nodes first fresh fresh low (omega arith)
