-- Sums over rooms and threads.
use Rattle.std.proofs.Common.{◌≡◌, ◌≢◌, ℕ, ◌+◌, ◌<◌, ◌≤◌, ◌==◌, zero, suc, cond, Bool, List, [], ◌∷◌, length, get_or, refl, sym, ap, ◌∙◌, subst, inl, inr, arith, eq-eqb}
use Rattle.std.specs.List.{All, filter}
use Rattle.std.proofs.lemmas.Bool.{ne_eqb}
use Rattle.std.proofs.lemmas.Bool.Decides.{eqb_tells}
use Rattle.std.proofs.lemmas.List.Elements.{All-head, All-tail}
use Rattle.seq_object.specs.declared.history.Entry.{Entry}
use Rattle.seq_object.specs.Object.{room_of}
use Rattle.seq_object.specs.History.{total}
use Rattle.seq_object.specs.Laws.{RoomCountLaw, ThreadCountLaw}
use Rattle.seq_object.proofs.Rooms.{room_bound}

-- a sum of zeros is 0
pub total_none : (n : ℕ) → total (λ t. 0) n ≡ 0
total_none zero = refl
total_none (suc n) = let rest = total_none n in omega arith

-- sums of the same numbers are the same
pub total-same : (f g : ℕ → ℕ) (n : ℕ) → ((k : ℕ) → k < n → g k ≡ f k) → total g n ≡ total f n
total-same f g zero same = refl
total-same f g (suc n) same =
    let front : total g n ≡ total f n = total-same f g n (λ k lt. same k (omega arith)) in
    let last : g n ≡ f n = same n (omega arith) in
    omega arith

-- a sum in which one part has grown by one
pub total-grown : (f g : ℕ → ℕ) (b n : ℕ) → b < n → g b ≡ f b + 1 → ((k : ℕ) → k ≢ b → g k ≡ f k) → total g n ≡ total f n + 1
total-grown f g b zero lt at others = absurd (omega arith)
total-grown f g b (suc n) lt at others = elim (eqb_tells n b) [
  | inl h ↦
      let same : total g n ≡ total f n = total-same f g n (λ k below. others k (λ e. omega (arith, h.1, e, below))) in
      let last : g n ≡ f n + 1 = subst (λ (k : ℕ). g k ≡ f k + 1) (sym h.1) at in
      omega (arith, same, last)
  | inr h ↦
      let front : total g n ≡ total f n + 1 = total-grown f g b n (omega (arith, h.1)) at others in
      let last : g n ≡ f n = others n h.1 in
      omega (arith, front, last)
]

-- a sum of numbers that are no greater is no greater
pub total-le : (f g : ℕ → ℕ) (n : ℕ) → ((k : ℕ) → k < n → f k ≤ g k) → total f n ≤ total g n
total-le f g zero less = omega arith
total-le f g (suc n) less =
    let front : total f n ≤ total g n = total-le f g n (λ k lt. less k (omega arith)) in
    let last : f n ≤ g n = less n (omega arith) in
    omega arith

-- the entries by a number of each, where these numbers are below n, are all entries
by_number : (of : Entry → ℕ) (n : ℕ) (h : List Entry) → All (λ e. of e < n) h → total (λ k. length (filter (λ e. of e == k) h)) n ≡ length h
by_number of n [] all = total_none n
by_number of n (e ∷ es) all =
    let rest : total (λ k. length (filter (λ d. of d == k) es)) n ≡ length es = by_number of n es (All-tail (λ d. of d < n) e es all) in
    let grown : total (λ k. length (filter (λ d. of d == k) (e ∷ es))) n ≡ total (λ k. length (filter (λ d. of d == k) es)) n + 1 =
    total-grown (λ k. length (filter (λ d. of d == k) es)) (λ k. length (filter (λ d. of d == k) (e ∷ es))) (of e) n (All-head (λ d. of d < n) e es all)
    (ap (λ (b : Bool). length (cond b (e ∷ filter (λ d. of d == of e) es) (filter (λ d. of d == of e) es))) (eq-eqb (of e) (of e) refl) ∙ one (length (filter (λ d. of d == of e) es)))
    (λ k ne. ap (λ (b : Bool). length (cond b (e ∷ filter (λ d. of d == k) es) (filter (λ d. of d == k) es))) (ne_eqb (of e) k (λ q. ne (sym q)))) in
    omega (arith, rest, grown)
  where
    one : (k : ℕ) → suc k ≡ k + 1
    one k = omega arith

-- the entries of all threads are all entries
pub thread_count : ThreadCountLaw
thread_count threads h all = by_number (λ e. e.thread) threads h all

-- the entries of all rooms are all entries
pub room_count : RoomCountLaw
room_count z pos h = by_number (λ e. room_of z e.command) (z.shards + 1) h (λ k d lt. let bound = room_bound z pos (get_or h k d).command in omega arith)
