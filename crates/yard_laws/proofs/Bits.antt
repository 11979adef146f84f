-- Single bits of the arrival word, where one is set or cleared.
use Rattle.std.proofs.Common.{◌≡◌, ◌≢◌, ℕ, ◌+◌, ◌-◌, ◌*◌, ◌/◌, ◌%◌, ◌^◌, ◌<◌, ◌==◌, zero, suc, Bool, min, true, false, sym, refl, ap, ◌∙◌, arith, bit_and, bit_or, w64}
use Rattle.std.specs.Prelude.{IsBitSet}
use Rattle.std.specs.Int.{bit_at}
use Rattle.std.specs.Int.Bits.{or_zero_r}
use Rattle.std.proofs.lemmas.Nat.{and_mask, and_shr, or_shr, pow_below}
use Rattle.std.proofs.Math.Nat.{div-eq_of_lt}
use Rattle.std.proofs.lemmas.Nat.Bits.{bit_at_or, bit_at_and, bit_at-pow_same, bit_at-pow_other, bit_at_not, bit_at-lt, bit_at_ones, and_pow}
use Rattle.restart_point.specs.ArrivalWord.{is_set, bit_at as mark_at, word_of, HasNoOtherBits}
use Rattle.yard_model.specs.Laws.{ArrivalShowsLaw}
use Rattle.yard_model.specs.Steps.{with_bit, without_bit}

-- the bit that is set is set, and no other bit changes
pub set_same : (word i : ℕ) → is_set (with_bit word i) i ≡ true
set_same word i = let e : bit_at (with_bit word i) i ≡ 1 = omega (arith, bit_at_or word (2 ^ i) i, bit_at-pow_same i, bit_at-lt word i) in ap (λ (n : ℕ). n == 1) e

pub set_other : (word i j : ℕ) → j ≢ i → is_set (with_bit word i) j ≡ is_set word j
set_other word i j n = let e : bit_at (with_bit word i) j ≡ bit_at word j = omega (arith, bit_at_or word (2 ^ i) j, bit_at-pow_other i j n) in ap (λ (n : ℕ). n == 1) e

-- the part of the word above a set bit stays
set_high : (word i k : ℕ) → i < k → with_bit word i / 2 ^ k ≡ word / 2 ^ k
set_high word i k lt = or_shr word (2 ^ i) k ∙ (ap (bit_or (word / 2 ^ k)) (none (pow_below i k lt)) ∙ or_zero_r (word / 2 ^ k))
  where
    none : 2 ^ i < 2 ^ k → 2 ^ i / 2 ^ k ≡ 0
    none below = div-eq_of_lt below

pub set_epoch : (word i : ℕ) → i < 32 → with_bit word i / 2 ^ 32 ≡ word / 2 ^ 32
set_epoch word i lt = set_high word i 32 lt

pub set_zeros : (word i : ℕ) → i < 19 → HasNoOtherBits word → HasNoOtherBits (with_bit word i)
set_zeros word i lt zeros = ap (λ (n : ℕ). n % 2 ^ 13) (set_high word i 19 lt) ∙ zeros

-- the bit that is cleared is not set, and no other bit changes
clear_at : (word i j : ℕ) → i < 16 → j < 19 → bit_at (without_bit word i) j ≡ min (bit_at word j) (1 - bit_at (2 ^ i) j)
clear_at word i j lt few = bit_at_and word (2 ^ 64 - 1 - 2 ^ i) j ∙ ap (min (bit_at word j)) (bit_at_not w64 (2 ^ i) j (pow_below i 64 (omega (arith, lt))) (omega (arith, few)))

pub clear_same : (word i : ℕ) → i < 16 → is_set (without_bit word i) i ≡ false
clear_same word i lt = let e : bit_at (without_bit word i) i ≡ 0 = omega (arith, clear_at word i i lt (omega (arith, lt)), bit_at-pow_same i) in ap (λ (n : ℕ). n == 1) e

pub clear_other : (word i j : ℕ) → i < 16 → j < 19 → j ≢ i → is_set (without_bit word i) j ≡ is_set word j
clear_other word i j lt few n = let e : bit_at (without_bit word i) j ≡ bit_at word j = omega (arith, clear_at word i j lt few, bit_at-pow_other i j n, bit_at-lt word j) in ap (λ (n : ℕ). n == 1) e

-- the part of the word from bit 19 on stays, but for bits past the 64th
clear_high : (word i : ℕ) → i < 16 → without_bit word i / 2 ^ 19 ≡ word / 2 ^ 19 % 2 ^ 45
clear_high word i lt = and_shr word (2 ^ 64 - 1 - 2 ^ i) 19 ∙ (ap (bit_and (word / 2 ^ 19)) (mask (pow_below i 16 lt)) ∙ and_mask (word / 2 ^ 19) 45)
  where
    mask : 2 ^ i < 2 ^ 16 → (2 ^ 64 - 1 - 2 ^ i) / 2 ^ 19 ≡ 2 ^ 45 - 1
    mask below = omega (arith, below)

pub clear_zeros : (word i : ℕ) → i < 16 → HasNoOtherBits word → HasNoOtherBits (without_bit word i)
clear_zeros word i lt zeros = let high = clear_high word i lt in omega (arith, high, zeros)

pub clear_epoch : (word i : ℕ) → i < 16 → word / 2 ^ 32 < 2 ^ 32 → without_bit word i / 2 ^ 32 ≡ word / 2 ^ 32
clear_epoch word i lt fits = let high = clear_high word i lt in omega (arith, high, fits)

-- the low bits of a word are those of its mask
low_bit : (word i : ℕ) → i < 16 → bit_at (word % 2 ^ 16) i ≡ bit_at word i
low_bit word i lt = ap (λ (n : ℕ). bit_at n i) (sym (and_mask word 16)) ∙ (bit_at_and word (2 ^ 16 - 1) i ∙ (ap (min (bit_at word i)) (bit_at_ones 16 i lt) ∙ (let f = bit_at-lt word i in omega (arith, f))))

-- a bit of the mask that is set is set in the word
pub mask_bit : (word i : ℕ) → i < 16 → IsBitSet (word % 2 ^ 16) i → is_set word i ≡ true
mask_bit word i lt set = let e : bit_at word i ≡ 1 = one (bit_at word i) (bit_at-lt word i) refl in ap (λ (n : ℕ). n == 1) e
  where
    one : (n : ℕ) → n < 2 → bit_at word i ≡ n → n ≡ 1
    one zero few is = let z : 0 * 2 ^ i ≡ 0 = omega arith in absurd (set (and_pow (word % 2 ^ 16) i ∙ (ap (λ (n : ℕ). n * 2 ^ i) (low_bit word i lt ∙ is) ∙ z)))
    one (suc zero) few is = refl
    one (suc (suc n)) few is = absurd (omega (arith, few))

-- the marks of a word that is made, as numbers
abbrev made : ℕ → Bool → Bool → Bool → ℕ → ℕ
made mask c o f e = mask + mark_at 16 c + mark_at 17 o + mark_at 18 f + e * 2 ^ 32

-- the low bits are the mask, the marks their bits, the bits behind them 0, and the high half is the epoch
pub record IsMade (mask : ℕ) (c o f : Bool) (e word : ℕ) : Type 0 where
  pub low : word % 2 ^ 16 ≡ mask
  pub closing : is_set word 16 ≡ c
  pub over : is_set word 17 ≡ o
  pub fed : is_set word 18 ≡ f
  pub zeros : word / 2 ^ 19 % 2 ^ 13 ≡ 0
  pub epoch : word / 2 ^ 32 ≡ e

bit_is : (n m : ℕ) → n ≡ m → (n == 1) ≡ (m == 1)
bit_is n m is = ap (λ (n : ℕ). n == 1) is

is_made : (mask : ℕ) (c o f : Bool) (e : ℕ) → mask < 2 ^ 16 → IsMade mask c o f e (made mask c o f e)
is_made mask true true true e lt = record {
  low = omega (arith, lt);
  closing = bit_is (made mask true true true e / 2 ^ 16 % 2) 1 (omega (arith, lt));
  over = bit_is (made mask true true true e / 2 ^ 17 % 2) 1 (omega (arith, lt));
  fed = bit_is (made mask true true true e / 2 ^ 18 % 2) 1 (omega (arith, lt));
  zeros = omega (arith, lt);
  epoch = omega (arith, lt);
}
is_made mask true true false e lt = record {
  low = omega (arith, lt);
  closing = bit_is (made mask true true false e / 2 ^ 16 % 2) 1 (omega (arith, lt));
  over = bit_is (made mask true true false e / 2 ^ 17 % 2) 1 (omega (arith, lt));
  fed = bit_is (made mask true true false e / 2 ^ 18 % 2) 0 (omega (arith, lt));
  zeros = omega (arith, lt);
  epoch = omega (arith, lt);
}
is_made mask true false true e lt = record {
  low = omega (arith, lt);
  closing = bit_is (made mask true false true e / 2 ^ 16 % 2) 1 (omega (arith, lt));
  over = bit_is (made mask true false true e / 2 ^ 17 % 2) 0 (omega (arith, lt));
  fed = bit_is (made mask true false true e / 2 ^ 18 % 2) 1 (omega (arith, lt));
  zeros = omega (arith, lt);
  epoch = omega (arith, lt);
}
is_made mask true false false e lt = record {
  low = omega (arith, lt);
  closing = bit_is (made mask true false false e / 2 ^ 16 % 2) 1 (omega (arith, lt));
  over = bit_is (made mask true false false e / 2 ^ 17 % 2) 0 (omega (arith, lt));
  fed = bit_is (made mask true false false e / 2 ^ 18 % 2) 0 (omega (arith, lt));
  zeros = omega (arith, lt);
  epoch = omega (arith, lt);
}
is_made mask false true true e lt = record {
  low = omega (arith, lt);
  closing = bit_is (made mask false true true e / 2 ^ 16 % 2) 0 (omega (arith, lt));
  over = bit_is (made mask false true true e / 2 ^ 17 % 2) 1 (omega (arith, lt));
  fed = bit_is (made mask false true true e / 2 ^ 18 % 2) 1 (omega (arith, lt));
  zeros = omega (arith, lt);
  epoch = omega (arith, lt);
}
is_made mask false true false e lt = record {
  low = omega (arith, lt);
  closing = bit_is (made mask false true false e / 2 ^ 16 % 2) 0 (omega (arith, lt));
  over = bit_is (made mask false true false e / 2 ^ 17 % 2) 1 (omega (arith, lt));
  fed = bit_is (made mask false true false e / 2 ^ 18 % 2) 0 (omega (arith, lt));
  zeros = omega (arith, lt);
  epoch = omega (arith, lt);
}
is_made mask false false true e lt = record {
  low = omega (arith, lt);
  closing = bit_is (made mask false false true e / 2 ^ 16 % 2) 0 (omega (arith, lt));
  over = bit_is (made mask false false true e / 2 ^ 17 % 2) 0 (omega (arith, lt));
  fed = bit_is (made mask false false true e / 2 ^ 18 % 2) 1 (omega (arith, lt));
  zeros = omega (arith, lt);
  epoch = omega (arith, lt);
}
is_made mask false false false e lt = record {
  low = omega (arith, lt);
  closing = bit_is (made mask false false false e / 2 ^ 16 % 2) 0 (omega (arith, lt));
  over = bit_is (made mask false false false e / 2 ^ 17 % 2) 0 (omega (arith, lt));
  fed = bit_is (made mask false false false e / 2 ^ 18 % 2) 0 (omega (arith, lt));
  zeros = omega (arith, lt);
  epoch = omega (arith, lt);
}

-- an arrival word that is made shows what it was made of
pub arrival_shows : ArrivalShowsLaw
arrival_shows a fits = let f = is_made a.mask a.closing a.over a.fed a.epoch fits.mask in record {
  standing = λ i lt. bit_is (bit_at (word_of a) i) (bit_at a.mask i) (sym (low_bit (word_of a) i lt) ∙ ap (λ (n : ℕ). bit_at n i) f.low);
  closing = f.closing;
  over = f.over;
  fed = f.fed;
  zeros = f.zeros;
  epoch = f.epoch;
}
