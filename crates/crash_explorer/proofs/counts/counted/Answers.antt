use Rattle.std.proofs.Common.{◌≡◌, ℕ, ◌+◌, ◌*◌, ◌≤◌, slice_index, drop, ap, sym, ◌∙◌, arith}
use Rattle.std.proofs.lemmas.Nat.{mul-le}
use Rattle.crash_explorer.specs.Order.{survivor_count}
use Rattle.crash_explorer.proofs.Counting.{count-more, count-some}
use Rattle.crash_explorer.proofs.counts.counted.Goals as goal

pub overflow_mul-next : goal.overflow_mul-next
overflow_mul-next c =
    let few : c.from.result * (c.from-in-loop-m.result + 1) ≤ 4294967295 * 4294967296 =
    mul-le c.from.result (c.from-in-loop-m.result + 1) 4294967295 4294967296 (omega (arith, c.from.ensures)) (omega (arith, c.from-in-loop-m.ensures, c.type_inv.most c.loop-m.m-index)) in
    omega arith

pub returns-then-next-from-clause-beyond : goal.returns-then-next-from-clause-beyond
returns-then-next-from-clause-beyond c =
    let i = c.loop-m.m-index in
    let ms = c.args.most.now in
    let next = c.loop-m.product * (slice_index ms i + 1) in
    let whole : next * survivor_count (drop (i + 1) ms) ≡ survivor_count ms = sym (count-more c.loop-m.product i ms c.loop-m-test.true) ∙ c.loop-m.invariant.product in
    let some : next ≤ next * survivor_count (drop (i + 1) ms) = count-some next (i + 1) ms in
    let same : c.from.result * (c.from-in-loop-m.result + 1) ≡ next = ap (λ (n : ℕ). n * (c.from-in-loop-m.result + 1)) c.from.ensures ∙ ap (λ (n : ℕ). c.loop-m.product * (n + 1)) c.from-in-loop-m.ensures in
    λ none. omega arith

pub loop-m-preserved : goal.loop-m-preserved
loop-m-preserved c =
    let i = c.loop-m.m-index in
    let ms = c.args.most.now in
    let next = c.loop-m.product * (slice_index ms i + 1) in
    let same : c.from.result * (c.from-in-loop-m.result + 1) ≡ next = ap (λ (n : ℕ). n * (c.from-in-loop-m.result + 1)) c.from.ensures ∙ ap (λ (n : ℕ). c.loop-m.product * (n + 1)) c.from-in-loop-m.ensures in
    record {
      few = omega arith;
      product = ap (λ (n : ℕ). n * survivor_count (drop (i + 1) ms)) same ∙ sym (count-more c.loop-m.product i ms c.loop-m-test.true) ∙ c.loop-m.invariant.product;
    }
