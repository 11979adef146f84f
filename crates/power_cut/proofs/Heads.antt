-- The bytes before the words, and the faults of bytes.
use Rattle.std.proofs.Common.{◌≡◌, ℕ, ◌+◌, ◌<◌, ◌≤◌, ◌==◌, ◌&&◌, not, Bool, true, false, nat_lt, nat_eq, List, ◌++◌, length, drop, get_or, ap, sym, ◌∙◌, arith, refl, Option, Some, None, if◌then◌else◌, take-append-drop, drop-drop, get_or-drop, length-drop, subst}
use Rattle.std.specs.List.{starts_with}
use Rattle.std.proofs.lemmas.Bool.Decides.{Decides-eqb, nat_tests}
use Rattle.std.proofs.lemmas.Slice.Eq.{starts_is}
use Rattle.byteorder.specs.Endian.{little_bytes}
use Rattle.byteorder.specs.Numbers.{little_number-reads_back}
use Rattle.seq_object.specs.Sizes.{AreValid, is_from_to, are_valid}
use Rattle.room_model.specs.Image.{ImageRooms as Rooms}
use Rattle.power_cut.specs.Image.{AreWhole}
use Rattle.power_cut.specs.Bytes.{magic, head_bytes, rooms_bytes, image_bytes_of, number_at, sizes_at, image_length, length_fault, head_fault, first_fault}
use Rattle.power_cut.specs.declared.fault.ImageFault.{ImageFault}
use Rattle.power_cut.specs.declared.fault.ImageFault.TheVariants.{Short, Long, Magic, Version, Settings}
use Rattle.power_cut.proofs.Numbers.{little_bytes-little_number}
use Rattle.power_cut.proofs.Counts.{length-rooms_bytes}
use Rattle.seq_object.specs.declared.sizes.Sizes.{Sizes}

-- a number between bounds
is_from_to-true : (low high n : ℕ) → is_from_to low high n ≡ true → (low ≤ n) × (n ≤ high)
is_from_to-true low high n is = grind (arith, nat_tests)

true-is_from_to : (low high n : ℕ) → low ≤ n → n ≤ high → is_from_to low high n ≡ true
true-is_from_to low high n above below = grind (arith, nat_tests)

-- two tests that both pass
both-true : (a b : Bool) → (a && b) ≡ true → (a ≡ true) × (b ≡ true)
both-true true b is = (refl, is)
both-true false b is = absurd (cc is)

-- sizes that pass the test are within their limits
pub are_valid-true : (z : Sizes) → are_valid z ≡ true → AreValid z
are_valid-true z is =
    let outer = both-true (is_from_to 1 16 z.threads) (is_from_to 1 8 z.shards && is_from_to 16 65536 z.lines) is in
    let inner = both-true (is_from_to 1 8 z.shards) (is_from_to 16 65536 z.lines) outer.1 in
    let threads = is_from_to-true 1 16 z.threads outer.0 in
    let shards = is_from_to-true 1 8 z.shards inner.0 in
    let lines = is_from_to-true 16 65536 z.lines inner.1 in
    record { some_threads = threads.0; few_threads = threads.1; some_shards = shards.0; few_shards = shards.1; some_lines = lines.0; few_lines = lines.1 }

-- sizes within their limits pass the test
pub true-are_valid : (z : Sizes) → AreValid z → are_valid z ≡ true
true-are_valid z valid =
    let threads = true-is_from_to 1 16 z.threads valid.some_threads valid.few_threads in
    let shards = true-is_from_to 1 8 z.shards valid.some_shards valid.few_shards in
    let lines = true-is_from_to 16 65536 z.lines valid.some_lines valid.few_lines in
    ap (λ (b : Bool). b && (is_from_to 1 8 z.shards && is_from_to 16 65536 z.lines)) threads
    ∙ ap (λ (b : Bool). true && (b && is_from_to 16 65536 z.lines)) shards
    ∙ ap (λ (b : Bool). true && (true && b)) lines

-- where a test gives no fault, it fails, and so does the rest
none-test : (b : Bool) (x : ImageFault) (y : Option ImageFault) → (if b then Some x else y) ≡ None → b ≡ false
none-test true x y is = absurd (cc is)
none-test false x y is = refl

none-rest : (b : Bool) (x : ImageFault) (y : Option ImageFault) → (if b then Some x else y) ≡ None → y ≡ None
none-rest true x y is = absurd (cc is)
none-rest false x y is = is

-- where a test fails, the rest decides
test-false : (b : Bool) (x : ImageFault) (y : Option ImageFault) → b ≡ false → (if b then Some x else y) ≡ y
test-false true x y is = absurd (cc is)
test-false false x y is = refl

not-false : (b : Bool) → not b ≡ false → b ≡ true
not-false true is = refl
not-false false is = absurd (cc is)

lt-false : (a b : ℕ) → nat_lt a b ≡ false → b ≤ a
lt-false a b is = grind (arith, nat_tests)

false-lt : (a b : ℕ) → b ≤ a → nat_lt a b ≡ false
false-lt a b is = grind (arith, nat_tests)

eq-true : (a b : ℕ) → (a == b) ≡ true → a ≡ b
eq-true a b is = grind (arith, nat_tests)

-- what bytes without fault have
pub record IsFaultless (bytes : List ℕ) : Type 0 where
  pub long : 24 ≤ length bytes
  pub magic : starts_with nat_eq bytes magic ≡ true
  pub version : number_at bytes 8 ≡ 1
  pub valid : AreValid (sizes_at bytes)
  pub size : length bytes ≡ image_length (sizes_at bytes)

-- bytes without fault have it
pub faultless : (bytes : List ℕ) → first_fault bytes ≡ None → IsFaultless bytes
faultless bytes is =
    let z = sizes_at bytes in
    let wanted = image_length z in
    let n = length bytes in
    let too_long : Option ImageFault = if nat_lt wanted n then Some Long else None in
    let sized : Option ImageFault = if not (are_valid z) then Some Settings else length_fault wanted n in
    let versioned : Option ImageFault = if not (number_at bytes 8 == 1) then Some Version else sized in
    let at_head : head_fault bytes ≡ None = none-rest (nat_lt n 24) Short (head_fault bytes) is in
    let at_version : versioned ≡ None = none-rest (not (starts_with nat_eq bytes magic)) Magic versioned at_head in
    let at_settings : sized ≡ None = none-rest (not (number_at bytes 8 == 1)) Version sized at_version in
    let at_length : length_fault wanted n ≡ None = none-rest (not (are_valid z)) Settings (length_fault wanted n) at_settings in
    let at_long : too_long ≡ None = none-rest (nat_lt n wanted) Short too_long at_length in
    let not_short : wanted ≤ n = lt-false n wanted (none-test (nat_lt n wanted) Short too_long at_length) in
    let not_long : n ≤ wanted = lt-false wanted n (none-test (nat_lt wanted n) Long None at_long) in
    record {
      long = lt-false n 24 (none-test (nat_lt n 24) Short (head_fault bytes) is);
      magic = not-false (starts_with nat_eq bytes magic) (none-test (not (starts_with nat_eq bytes magic)) Magic versioned at_head);
      version = eq-true (number_at bytes 8) 1 (not-false (number_at bytes 8 == 1) (none-test (not (number_at bytes 8 == 1)) Version sized at_version));
      valid = are_valid-true z (not-false (are_valid z) (none-test (not (are_valid z)) Settings (length_fault wanted n) at_settings));
      size = omega arith;
    }

-- a number of 32 bits, and what follows it
number_at-drop : (bytes : List ℕ) (at : ℕ) → at + 4 ≤ length bytes → ((i : ℕ) → get_or bytes i 0 < 256) → drop at bytes ≡ little_bytes 4 (number_at bytes at) ++ drop (at + 4) bytes
number_at-drop bytes at long small =
    let own = little_bytes-little_number 4 (drop at bytes) (omega (arith, length-drop at bytes)) (λ i. subst (λ (b : ℕ). b < 256) (sym (get_or-drop at bytes i 0)) (small (at + i))) in
    sym (take-append-drop 4 (drop at bytes)) ∙ ap (λ (xs : List ℕ). xs ++ drop 4 (drop at bytes)) (sym own) ∙ ap (λ (xs : List ℕ). little_bytes 4 (number_at bytes at) ++ xs) (drop-drop 4 at bytes)

-- bytes without fault begin with the head of their sizes
pub faultless-head : (bytes : List ℕ) → IsFaultless bytes → ((i : ℕ) → get_or bytes i 0 < 256) → bytes ≡ head_bytes (sizes_at bytes) ++ drop 24 bytes
faultless-head bytes is small =
    let z = sizes_at bytes in
    let long = is.long in
    let rest = drop 24 bytes in
    let begun : bytes ≡ magic ++ drop 8 bytes = (starts_is Decides-eqb bytes magic (starts_with nat_eq bytes magic) refl).0 is.magic in
    let version : drop 8 bytes ≡ little_bytes 4 1 ++ drop 12 bytes = number_at-drop bytes 8 (omega arith) small ∙ ap (λ (n : ℕ). little_bytes 4 n ++ drop 12 bytes) is.version in
    let threads : drop 12 bytes ≡ little_bytes 4 z.threads ++ drop 16 bytes = number_at-drop bytes 12 (omega arith) small in
    let shards : drop 16 bytes ≡ little_bytes 4 z.shards ++ drop 20 bytes = number_at-drop bytes 16 (omega arith) small in
    let lines : drop 20 bytes ≡ little_bytes 4 z.lines ++ drop 24 bytes = number_at-drop bytes 20 (omega arith) small in
    begun
    ∙ ap (λ (xs : List ℕ). magic ++ xs) (version
    ∙ ap (λ (xs : List ℕ). little_bytes 4 1 ++ xs) (threads
    ∙ ap (λ (xs : List ℕ). little_bytes 4 z.threads ++ xs) (shards
    ∙ ap (λ (xs : List ℕ). little_bytes 4 z.shards ++ xs) lines)))

-- the head states its sizes
pub sizes_at-head : (z : Sizes) (rest : List ℕ) → AreValid z → sizes_at (head_bytes z ++ rest) ≡ z
sizes_at-head z rest valid =
    let threads : number_at (head_bytes z ++ rest) 12 ≡ z.threads = little_number-reads_back 4 z.threads (little_bytes 4 z.shards ++ (little_bytes 4 z.lines ++ rest)) (omega (arith, valid.few_threads)) in
    let shards : number_at (head_bytes z ++ rest) 16 ≡ z.shards = little_number-reads_back 4 z.shards (little_bytes 4 z.lines ++ rest) (omega (arith, valid.few_shards)) in
    let lines : number_at (head_bytes z ++ rest) 20 ≡ z.lines = little_number-reads_back 4 z.lines rest (omega (arith, valid.few_lines)) in
    λ i. record { threads = threads i; shards = shards i; lines = lines i }

-- what follows the head
pub drop-head : (z : Sizes) (rest : List ℕ) → drop 24 (head_bytes z ++ rest) ≡ rest
drop-head z rest = refl

-- the head has 24 bytes
pub length-head : (z : Sizes) (rest : List ℕ) → length (head_bytes z ++ rest) ≡ 24 + length rest
length-head z rest = omega arith

-- the bytes of an image have no fault
pub spellings_pass : (z : Sizes) (rooms : Rooms) → AreWhole z rooms → first_fault (image_bytes_of z rooms) ≡ None
spellings_pass z rooms whole =
    let bytes = image_bytes_of z rooms in
    let y = sizes_at bytes in
    let n = length bytes in
    let wanted = image_length y in
    let same : y ≡ z = sizes_at-head z (rooms_bytes rooms) whole.valid in
    let size : n ≡ image_length z = length-head z (rooms_bytes rooms) ∙ ap (λ (k : ℕ). 24 + k) (length-rooms_bytes z rooms whole.shape whole.words) in
    let fits : n ≡ wanted = size ∙ ap image_length (sym same) in
    let long : 24 ≤ n = omega (arith, length-head z (rooms_bytes rooms)) in
    let too_long : Option ImageFault = if nat_lt wanted n then Some Long else None in
    let sized : Option ImageFault = if not (are_valid y) then Some Settings else length_fault wanted n in
    let versioned : Option ImageFault = if not (number_at bytes 8 == 1) then Some Version else sized in
    let valid : not (are_valid y) ≡ false = ap (λ (x : Sizes). not (are_valid x)) same ∙ ap not (true-are_valid z whole.valid) in
    let version : not (number_at bytes 8 == 1) ≡ false = refl in
    let begun : not (starts_with nat_eq bytes magic) ≡ false = refl in
    test-false (nat_lt n 24) Short (head_fault bytes) (false-lt n 24 long)
    ∙ test-false (not (starts_with nat_eq bytes magic)) Magic versioned begun
    ∙ test-false (not (number_at bytes 8 == 1)) Version sized version
    ∙ test-false (not (are_valid y)) Settings (length_fault wanted n) valid
    ∙ test-false (nat_lt n wanted) Short too_long (false-lt n wanted (omega arith))
    ∙ test-false (nat_lt wanted n) Long None (false-lt wanted n (omega arith))
