-- Numbers and their bytes, the lowest byte first.
use Rattle.std.proofs.Common.{◌≡◌, ℕ, zero, suc, ◌+◌, ◌*◌, ◌/◌, ◌%◌, ◌^◌, ◌<◌, ◌≤◌, List, [], ◌∷◌, ◌++◌, length, take, get_or, ap, sym, ◌∙◌, arith}
use Rattle.std.proofs.Math.Nat.{div-div-eq-div-mul, pow-suc}
use Rattle.std.specs.Int.{byte_at, bytes_low_first}
use Rattle.byteorder.specs.Endian.{little_from, little_bytes, little_number}
use Rattle.byteorder.specs.Numbers.{little_from-cons, little_number-reads_back, length-bytes_low_first}

-- a byte above the lowest is a byte of what stands above the lowest
byte_at-above : (i a r : ℕ) → a < 256 → byte_at (suc i) (a + 256 * r) ≡ byte_at i r
byte_at-above zero a r low = let whole : (a + 256 * r) / 256 ≡ r = omega arith in ap (λ (n : ℕ). n % 256) whole
byte_at-above (suc i) a r low =
    let whole : (a + 256 * r) / 256 ≡ r = omega arith in
    let power : 256 ^ suc (suc i) ≡ 256 * 256 ^ suc i = omega (arith, pow-suc 256 (suc i)) in
    ap (λ (p : ℕ). (a + 256 * r) / p % 256) power
    ∙ ap (λ (n : ℕ). n % 256) (sym (div-div-eq-div-mul (a + 256 * r) 256 (256 ^ suc i)) ∙ ap (λ (n : ℕ). n / 256 ^ suc i) whole)

-- the bytes above the lowest are those of what stands above the lowest
bytes_low_first-above : (i k a r : ℕ) → a < 256 → bytes_low_first (suc i) k (a + 256 * r) ≡ bytes_low_first i k r
bytes_low_first-above i zero a r low = cc
bytes_low_first-above i (suc k) a r low =
    let head = byte_at-above i a r low in
    let tail = bytes_low_first-above (suc i) k a r low in
    ap (λ (b : ℕ). b ∷ bytes_low_first (suc (suc i)) k (a + 256 * r)) head ∙ ap (λ (bs : List ℕ). byte_at i r ∷ bs) tail

-- the bytes of the number in some bytes are these bytes
pub little_bytes-little_number : (n : ℕ) (xs : List ℕ) → n ≤ length xs → ((i : ℕ) → get_or xs i 0 < 256) → little_bytes n (little_number n xs) ≡ take n xs
little_bytes-little_number zero xs long small = cc
little_bytes-little_number (suc n) [] long small = absurd (omega arith)
little_bytes-little_number (suc n) (a ∷ xs) long small =
    let r = little_from 0 n xs in
    let low : a < 256 = small 0 in
    let number : little_number (suc n) (a ∷ xs) ≡ a + 256 * r = ap (λ (q : ℕ). a + 256 * q) (little_from-cons 0 n a xs) in
    let head : byte_at 0 (a + 256 * r) ≡ a = omega arith in
    let tail : bytes_low_first 1 n (a + 256 * r) ≡ take n xs = bytes_low_first-above 0 n a r low ∙ little_bytes-little_number n xs (omega arith) (λ i. small (suc i)) in
    ap (little_bytes (suc n)) number ∙ ap (λ (b : ℕ). b ∷ bytes_low_first 1 n (a + 256 * r)) head ∙ ap (λ (bs : List ℕ). a ∷ bs) tail

-- two numbers whose bytes stand at the same place are one
pub little_bytes-cancel : (n x y : ℕ) (xs ys : List ℕ) → x < 256 ^ n → y < 256 ^ n → little_bytes n x ++ xs ≡ little_bytes n y ++ ys → x ≡ y
little_bytes-cancel n x y xs ys small less same = sym (little_number-reads_back n x xs small) ∙ ap (little_number n) same ∙ little_number-reads_back n y ys less
