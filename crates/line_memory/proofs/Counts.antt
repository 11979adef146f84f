-- The write-backs of all banks of a memory.
use Rattle.std.proofs.Common.{◌≡◌, ℕ, ◌+◌, ◌-◌, ◌≤◌, ◌^◌, List, [], ◌∷◌, min, sum_by, refl, ap, ◌∙◌, zero-add, arith}
use Rattle.std.proofs.lemmas.List.Sums.{sum_by-cons}
use Rattle.line_memory.specs.Line.{BankState, write_backs_on}
use Rattle.line_memory.specs.Laws.{AllWriteBacksLaw}

counted_on : (sum most : ℕ) (memory : List BankState) → most ≡ 2 ^ 64 - 1 → sum ≤ most → write_backs_on sum memory ≡ min (sum + sum_by (λ bank. bank.write_backs) memory) (2 ^ 64 - 1)
counted_on sum most [] is le = let none : sum_by (λ (bank : BankState). bank.write_backs) [] ≡ 0 = refl in omega (arith, none, is, le)
counted_on sum most (b ∷ bs) is le =
    let rest = counted_on (min (sum + b.write_backs) (2 ^ 64 - 1)) most bs is (omega (arith, is)) in
    let here = sum_by-cons (λ (bank : BankState). bank.write_backs) b bs in
    omega (arith, rest, here)

pub all_write_backs_law : AllWriteBacksLaw
all_write_backs_law memory = counted_on 0 (2 ^ 64 - 1) memory refl (omega arith) ∙ ap (λ (n : ℕ). min n (2 ^ 64 - 1)) (zero-add (sum_by (λ (bank : BankState). bank.write_backs) memory))
