-- What lines keep by counts, and that counts name every survivor.
use Rattle.std.proofs.Common.{◌≡◌, ℕ, zero, suc, ◌+◌, ◌<◌, List, [], ◌∷◌, length, min, slice_index, ap, sym, ◌∙◌, refl, subst, arith, eq-eqb, ne_eqb, inl, inr}
use Rattle.std.proofs.lemmas.Bool.{cases_lt}
use Rattle.std.proofs.lemmas.List.{take_all}
use Rattle.line_memory.specs.Line.{LineState, survivor, line_at, applied}
use Rattle.room_model.specs.Image.{surviving_lines}
use Rattle.store_order.specs.declared.choice.Kept.{Kept}
use Rattle.store_order.specs.declared.choice.Choice.TheVariants.{List as Listed}
use Rattle.store_order.specs.Choice.{count_listed, kept_of}
use Rattle.std.specs.Global.{Vec}
use Rattle.crash_explorer.specs.Cut.{AreWithin, bare, pending_of, by_counts, left_by}
use Rattle.crash_explorer.specs.Listed.{listed}
use Rattle.crash_explorer.proofs.Advancing.{within-at, within-length}

-- the words of lines by counts
abbrev pub left_of : List ℕ → List LineState → List (List ℕ)
left_of ks [] = []
left_of [] (l ∷ ls) = []
left_of (k ∷ ks) (l ∷ ls) = survivor l k ∷ left_of ks ls

-- a choice that agrees with counts leaves what they leave
pub left_of-counts : (f : ℕ → ℕ) (i : ℕ) (ks : List ℕ) (ls : List LineState) → AreWithin ks (pending_of ls) → ((k : ℕ) → k < length ls → f (i + k) ≡ slice_index ks k) → surviving_lines f i ls ≡ left_of ks ls
left_of-counts f i ks [] w same = refl
left_of-counts f i [] (l ∷ ls) w same = absurd w
left_of-counts f i (k ∷ ks) (l ∷ ls) w same =
    let here : f i ≡ k = ap f (omega arith) ∙ same 0 (omega arith) in
    let rest = left_of-counts f (suc i) ks ls w.1 (λ n lt. ap f (omega arith) ∙ same (suc n) (omega arith)) in
    ap (λ (n : ℕ). survivor l n ∷ surviving_lines f (suc i) ls) here ∙ ap (λ (xs : List (List ℕ)). survivor l k ∷ xs) rest

-- the choice by counts leaves what they leave
pub left_of-own : (ks : List ℕ) (ls : List LineState) → AreWithin ks (pending_of ls) → surviving_lines (by_counts ks) 0 ls ≡ left_of ks ls
left_of-own ks ls w = left_of-counts (by_counts ks) 0 ks ls w (λ k lt. ap (slice_index ks) (omega arith))

-- as many numbers of pending stores as there are lines
pub length-pending : (ls : List LineState) → length (pending_of ls) ≡ length ls
length-pending [] = refl
length-pending (l ∷ ls) = ap suc (length-pending ls)

-- how many stores are pending on a line
pub pending-at : (i : ℕ) (ls : List LineState) → i < length ls → slice_index (pending_of ls) i ≡ length (line_at ls i).pending
pending-at i [] lt = absurd (omega arith)
pending-at zero (l ∷ ls) lt = refl
pending-at (suc i) (l ∷ ls) lt = pending-at i ls (omega arith)

-- the count of a line in the list of entries
pub listed-at : (i k : ℕ) (ks : List ℕ) → k < length ks → count_listed (listed i ks) (i + k) ≡ slice_index ks k
listed-at i k [] lt = absurd (omega arith)
listed-at i zero (x ∷ xs) lt = simp (eq-eqb i (i + 0) (omega arith))
listed-at i (suc k) (x ∷ xs) lt =
    simp (ne_eqb i (i + suc k) (λ e. omega (arith, e))) (ap (count_listed (listed (suc i) xs)) (omega arith) ∙ listed-at (suc i) k xs (omega arith))

-- a choice as counts, none above what is pending
abbrev pub clamped : (ℕ → ℕ) → ℕ → List LineState → List ℕ
clamped f i [] = []
clamped f i (l ∷ ls) = min (f i) (length l.pending) ∷ clamped f (suc i) ls

-- these are within the lines
pub clamped-within : (f : ℕ → ℕ) (i : ℕ) (ls : List LineState) → AreWithin (clamped f i ls) (pending_of ls)
clamped-within f i [] = tt
clamped-within f i (l ∷ ls) = (omega arith, clamped-within f (suc i) ls)

-- a line keeps no more than what is pending
survivor-min : (l : LineState) (n : ℕ) → survivor l (min n (length l.pending)) ≡ survivor l n
survivor-min l n = elim (cases_lt n (length l.pending)) [
  | inl lt ↦ ap (survivor l) (omega arith)
  | inr ge ↦ ap (applied l.base) (take_all (min n (length l.pending)) l.pending (omega arith) ∙ sym (take_all n l.pending ge))
]

-- and they leave what the choice leaves
pub clamped-left : (f : ℕ → ℕ) (i : ℕ) (ls : List LineState) → left_of (clamped f i ls) ls ≡ surviving_lines f i ls
clamped-left f i [] = refl
clamped-left f i (l ∷ ls) = ap (λ (ws : List ℕ). ws ∷ left_of (clamped f (suc i) ls) ls) (survivor-min l (f i)) ∙ ap (λ (xs : List (List ℕ)). survivor l (f i) ∷ xs) (clamped-left f (suc i) ls)

-- what holds of what all counts leave holds of every survivor
pub all_by_counts : (P : List (List ℕ) → Type 0) (ls : List LineState) → ((v : List ℕ) → AreWithin v (pending_of ls) → P (left_by v ls)) → (choice : ℕ → ℕ) → P (surviving_lines choice 0 ls)
all_by_counts P ls all choice =
    let v = clamped choice 0 ls in
    let w = clamped-within choice 0 ls in
    let same : surviving_lines (by_counts v) 0 ls ≡ surviving_lines choice 0 ls = left_of-own v ls w ∙ clamped-left choice 0 ls in
    subst P same (all v w)

-- lines keep the same without their room
pub bare-left : (f : ℕ → ℕ) (i : ℕ) (ls : List LineState) → surviving_lines f i (bare ls) ≡ surviving_lines f i ls
bare-left f i [] = refl
bare-left f i (l ∷ ls) = ap (λ (xs : List (List ℕ)). survivor l (f i) ∷ xs) (bare-left f (suc i) ls)

-- and as many stores are pending on them
pub bare-pending : (ls : List LineState) → pending_of (bare ls) ≡ pending_of ls
bare-pending [] = refl
bare-pending (l ∷ ls) = ap (λ (xs : List ℕ). length l.pending ∷ xs) (bare-pending ls)

-- the list of entries leaves what the counts leave
pub listed-left : (ks : List ℕ) (entries : Vec Kept) (ls : List LineState) → entries.items ≡ listed 0 ks → AreWithin ks (pending_of ls) → surviving_lines (kept_of (Listed entries) 0 ls) 0 ls ≡ surviving_lines (by_counts ks) 0 ls
listed-left ks entries ls is w = left_of-counts (kept_of (Listed entries) 0 ls) 0 ks ls w each ∙ sym (left_of-own ks ls w)
  where
    each : (k : ℕ) → k < length ls → min (count_listed entries.items (0 + (0 + k))) (length (line_at ls (0 + k)).pending) ≡ slice_index ks k
    each k lt =
        let same : 0 + k ≡ k = omega arith in
        let counted : count_listed entries.items (0 + (0 + k)) ≡ slice_index ks k =
        ap (λ (es : List Kept). count_listed es (0 + (0 + k))) is ∙ ap (λ (n : ℕ). count_listed (listed 0 ks) (0 + n)) same ∙ listed-at 0 k ks (omega (arith, within-length ks (pending_of ls) w, length-pending ls)) in
        let pending : length (line_at ls (0 + k)).pending ≡ slice_index (pending_of ls) k = ap (λ (n : ℕ). length (line_at ls n).pending) same ∙ sym (pending-at k ls lt) in
        omega (arith, counted, pending, within-at k ks (pending_of ls) w)
