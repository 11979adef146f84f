use Rattle.std.proofs.Common.{◌≡◌, ◌↔◌, ◌≤◌, ◌<◌, ◌/◌, ◌^◌, ℕ, IsTrue, IsBitSet, nat_eq, bit_and, arith, ap}
use Rattle.std.proofs.lemmas.Grind.{common_steps}
use Rattle.std.proofs.lemmas.Nat.{bit_set_by_shift}
use Rattle.std.proofs.Math.Nat.{div-eq_of_lt}
use Rattle.std.proofs.Math.Pow.{pow_mono}
use Rattle.restart_point.proofs.arrival.Arrival.stands.Goals as goal

-- the bit of a number that is shifted to the right
shifted : (n m k : ℕ) → m ≡ n → IsTrue (nat_eq (bit_and (m / 2 ^ k) 1) 1) ↔ IsBitSet n k
shifted n m k is =
    let tells = bit_set_by_shift n k in
    grind (arith, common_steps)

-- a number of 16 bits has no other bit
no_other : (n k : ℕ) → n < 2 ^ 16 → 16 ≤ k → ¬ IsBitSet n k
no_other n k small past = λ set.
    let more : 2 ^ 16 ≤ 2 ^ k = pow_mono past in
    let none : n / 2 ^ k ≡ 0 = div-eq_of_lt (omega (arith, small, more)) in
    let one : bit_and (n / 2 ^ k) 1 ≡ 1 = (bit_set_by_shift n k).1 set in
    let same : bit_and (n / 2 ^ k) 1 ≡ 0 = ap (λ (m : ℕ). bit_and m 1) none in
    omega (arith, one, same)

pub returns-then-thread-lt16 : goal.returns-then-thread-lt16
returns-then-thread-lt16 c = shifted c.args.self.now.mask c.from-mask.result c.args.thread c.from-mask.ensures

pub returns-else-thread-lt16 : goal.returns-else-thread-lt16
returns-else-thread-lt16 c =
    let none = no_other c.args.self.now.mask c.args.thread (omega arith) c.if-thread-lt16.false in
    (λ lt. grind (arith, common_steps), λ set. absurd (none set))
