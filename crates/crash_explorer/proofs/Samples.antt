-- Counts that a choice of a sample keeps.
use Rattle.std.proofs.Common.{◌≡◌, ℕ, suc, ◌+◌, ◌<◌, ◌≤◌, List, [], ◌∷◌, length, slice_index, ap, sym, ◌∙◌, arith}
use Rattle.line_memory.specs.Line.{LineState, line_at}
use Rattle.room_model.specs.Image.{surviving_lines}
use Rattle.store_order.specs.declared.choice.Choice.{Choice}
use Rattle.store_order.specs.Choice.{kept_by, kept_of}
use Rattle.store_order.proofs.Leaving.{kept_by-le}
use Rattle.crash_explorer.specs.Cut.{AreWithin, pending_of, left_by}
use Rattle.crash_explorer.specs.Sample.{AreKeptBy}
use Rattle.crash_explorer.proofs.Keeping.{left_of-counts, left_of-own, length-pending, pending-at}

-- counts of which each is at most its line's are within the lines
within-each : (ks ms : List ℕ) → length ks ≡ length ms → ((i : ℕ) → i < length ms → slice_index ks i ≤ slice_index ms i) → AreWithin ks ms
within-each [] [] same each = tt
within-each [] (m ∷ ms) same each = absurd (omega arith)
within-each (k ∷ ks) [] same each = absurd (omega arith)
within-each (k ∷ ks) (m ∷ ms) same each = (each 0 (omega arith), within-each ks ms (omega arith) (λ i lt. each (suc i) (omega arith)))

-- a choice keeps no more than what is pending
pub kept-within : (choice : Choice) (ks ms : List ℕ) → AreKeptBy choice ms ks → AreWithin ks ms
kept-within choice ks ms kept = within-each ks ms kept.many (λ i lt. omega (arith, kept.each i lt, kept_by-le choice i (slice_index ms i)))

-- the counts of a choice leave what the choice leaves
pub kept-left : (lines : List LineState) (choice : Choice) (ks : List ℕ) → AreKeptBy choice (pending_of lines) ks → left_by ks lines ≡ surviving_lines (kept_of choice 0 lines) 0 lines
kept-left lines choice ks kept =
    let w = kept-within choice ks (pending_of lines) kept in
    let each : (k : ℕ) → k < length lines → kept_of choice 0 lines (0 + k) ≡ slice_index ks k = λ k lt.
    let own : slice_index ks k ≡ kept_by choice k (length (line_at lines k).pending) = kept.each k (omega (arith, length-pending lines)) ∙ ap (kept_by choice k) (pending-at k lines lt) in
    let same : 0 + k ≡ k = omega arith in
    ap (λ (n : ℕ). kept_by choice (0 + n) (length (line_at lines n).pending)) same ∙ ap (λ (n : ℕ). kept_by choice n (length (line_at lines k).pending)) same ∙ sym own in
    left_of-own ks lines w ∙ sym (left_of-counts (kept_of choice 0 lines) 0 ks lines w each)
