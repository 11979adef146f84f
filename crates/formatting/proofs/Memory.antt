-- Formatted memory as a list of banks: each by the number of its room, how many they are, and what is in them.
use Rattle.std.proofs.Common.{◌≡◌, ℕ, ◌+◌, ◌-◌, ◌*◌, ◌<◌, ◌≤◌, ◌^◌, zero, suc, List, [], ◌∷◌, ◌++◌, length, replicate, get_or, inl, inr, refl, arith, ap, sym, ◌∙◌, subst, append_assoc, mul-le-mul}
use Rattle.std.specs.Prelude.{min}
use Rattle.std.proofs.lemmas.List.{get_or_append_left, get_or-replicate, get_or_past, length-replicate, length-append}
use Rattle.std.proofs.lemmas.Bool.{cases_lt}
use Rattle.line_memory.specs.Line.{BankState, line_at, bank_at, no_bank, all_lines, write_backs_on}
use Rattle.seq_object.specs.declared.sizes.Sizes.{Sizes}
use Rattle.seq_object.specs.Sizes.{AreValid, super_room, room_count}
use Rattle.room_model.specs.MapRoom.{live_layout}
use Rattle.room_model.specs.Formatted.{formatted_bank, formatted_memory, room_bank, line_bank, line_of_words}
use Rattle.formatting.specs.Laws.{FormattedBanksLaw, FormattedRoomsLaw, FormattedMemoryQuietLaw, FormattedWriteBacksLaw}
use Rattle.formatting.proofs.Lines.{length-room}
use Rattle.formatting.proofs.ByRoom.{map_bank, queue_bank, thread_bank, super_bank, formatted_quiet, none_asked}

-- the banks of the map rooms, those of the queue room and the threads, and that of the super room
abbrev maps : Sizes → List BankState
maps z = replicate z.shards (room_bank z.lines live_layout.first)

abbrev threads : Sizes → List BankState
threads z = replicate z.threads (line_bank (line_of_words 0 0))

abbrev cells : Sizes → List BankState
cells z = maps z ++ (room_bank z.lines 2 ∷ threads z)

abbrev last : List BankState
last = line_bank (line_of_words 1 0) ∷ []

-- how many they are
length-maps : (z : Sizes) → length (maps z) ≡ z.shards
length-maps z = length-replicate z.shards (room_bank z.lines live_layout.first)

length-cells : (z : Sizes) → length (cells z) ≡ z.shards + 1 + z.threads
length-cells z =
    length-append (maps z) (room_bank z.lines 2 ∷ threads z)
    ∙ omega (arith, length-maps z, length-replicate z.threads (line_bank (line_of_words 0 0)))

-- the law on their number
pub formatted_rooms : FormattedRoomsLaw
formatted_rooms z = length-append (cells z) last ∙ omega (arith, length-cells z)

-- behind so many, the first of those that follow
seam : (xs : List BankState) (y : BankState) (ys : List BankState) (room : ℕ) → length xs ≡ room → get_or (xs ++ y ∷ ys) room no_bank ≡ y
seam [] y ys room is = ap (λ (n : ℕ). get_or (y ∷ ys) n no_bank) (sym is)
seam (x ∷ xs) y ys zero is = absurd (omega (arith, is))
seam (x ∷ xs) y ys (suc room) is = seam xs y ys room (omega (arith, is))

-- and those behind that one
beyond : (xs : List BankState) (y : BankState) (ys : List BankState) (k : ℕ) → get_or (xs ++ y ∷ ys) (length xs + 1 + k) no_bank ≡ get_or ys k no_bank
beyond [] y ys k = ap (λ (n : ℕ). get_or (y ∷ ys) n no_bank) (next k)
  where
    next : (k : ℕ) → 0 + 1 + k ≡ suc k
    next k = omega arith
beyond (x ∷ xs) y ys k = ap (λ (n : ℕ). get_or (x ∷ (xs ++ y ∷ ys)) n no_bank) (next (length xs) k) ∙ beyond xs y ys k
  where
    next : (n k : ℕ) → suc n + 1 + k ≡ suc (n + 1 + k)
    next n k = omega arith

-- a bank before the super room's
cell_bank : (z : Sizes) (room : ℕ) → room < super_room z → get_or (cells z) room no_bank ≡ formatted_bank z room
cell_bank z room lt = elim (cases_lt room z.shards) [
  | inl below ↦
      get_or_append_left (maps z) (room_bank z.lines 2 ∷ threads z) no_bank room (omega (arith, below, length-maps z))
      ∙ get_or-replicate z.shards room (room_bank z.lines live_layout.first) no_bank below ∙ sym (map_bank z room below)
  | inr least ↦ elim (cases_lt z.shards room) [
    | inl above ↦
        let k : ℕ = room - z.shards - 1 in
        let place : room ≡ length (maps z) + 1 + k = omega (arith, above, length-maps z) in
        ap (λ (n : ℕ). get_or (cells z) n no_bank) place ∙ beyond (maps z) (room_bank z.lines 2) (threads z) k
        ∙ get_or-replicate z.threads k (line_bank (line_of_words 0 0)) no_bank (omega (arith, above, lt)) ∙ sym (thread_bank z room above lt)
    | inr most ↦
        let same : room ≡ z.shards = omega (arith, least, most) in
        seam (maps z) (room_bank z.lines 2) (threads z) room (omega (arith, same, length-maps z)) ∙ sym (queue_bank z room same)
  ]
]

-- the law on each of them
pub formatted_banks : FormattedBanksLaw
formatted_banks z room lt = elim (cases_lt room (super_room z)) [
  | inl below ↦ get_or_append_left (cells z) last no_bank room (omega (arith, below, length-cells z)) ∙ cell_bank z room below
  | inr least ↦
      let same : room ≡ super_room z = omega (arith, least, lt) in
      seam (cells z) (line_bank (line_of_words 1 0)) [] room (omega (arith, same, length-cells z)) ∙ sym (super_bank z room same)
]

-- a property of the lines of each bank, and of none
of_each : (P : BankState → Type 0) (z : Sizes) (room : ℕ) → ((k : ℕ) → P (formatted_bank z k)) → P no_bank → P (bank_at (formatted_memory z) room)
of_each P z room each none = elim (cases_lt room (room_count z)) [
  | inl below ↦ subst P (sym (formatted_banks z room below)) (each room)
  | inr least ↦ subst P (sym (get_or_past (formatted_memory z) room no_bank (omega (arith, least, formatted_rooms z)))) none
]

-- the law on what is pending
pub formatted_memory_quiet : FormattedMemoryQuietLaw
formatted_memory_quiet z room line = of_each (λ bank. (line_at bank.lines line).pending ≡ []) z room (λ k. formatted_quiet z k line) refl

-- nothing was asked for
pub memory_unasked : (z : Sizes) (room line : ℕ) → (line_at (bank_at (formatted_memory z) room).lines line).asked ≡ 0
memory_unasked z room line = of_each (λ bank. (line_at bank.lines line).asked ≡ 0) z room (λ k. none_asked z k line) refl

-- the lines of two lists of banks
all_lines-append : (xs ys : List BankState) → all_lines (xs ++ ys) ≡ all_lines xs + all_lines ys
all_lines-append [] ys = sym (grind arith)
all_lines-append (x ∷ xs) ys = let e = all_lines-append xs ys in omega (arith, e)

-- the lines of as many equal banks
all_lines-replicate : (n : ℕ) (b : BankState) → all_lines (replicate n b) ≡ n * length b.lines
all_lines-replicate zero b = sym (grind arith)
all_lines-replicate (suc n) b = let e = all_lines-replicate n b in grind (arith, e)

-- formatted memory has few lines
pub few_lines : (z : Sizes) → AreValid z → all_lines (formatted_memory z) < 2 ^ 32
few_lines z valid =
    let of_maps : all_lines (maps z) ≡ z.shards * z.lines = all_lines-replicate z.shards (room_bank z.lines live_layout.first) ∙ ap (λ (n : ℕ). z.shards * n) (length-room z.lines live_layout.first) in
    let of_threads : all_lines (threads z) ≡ z.threads * 1 = all_lines-replicate z.threads (line_bank (line_of_words 0 0)) in
    let of_queue : length (room_bank z.lines 2).lines ≡ z.lines = length-room z.lines 2 in
    let all : all_lines (formatted_memory z) ≡ z.shards * z.lines + (z.lines + z.threads) + 1 =
    all_lines-append (cells z) last ∙ ap (λ (n : ℕ). n + 1) (all_lines-append (maps z) (room_bank z.lines 2 ∷ threads z) ∙ omega (arith, of_maps, of_threads, of_queue)) in
    let few_shards : z.shards ≤ 8 = valid.few_shards in
    let few_lines : z.lines ≤ 65536 = valid.few_lines in
    let few_threads : z.threads ≤ 16 = valid.few_threads in
    let product : z.shards * z.lines ≤ 8 * 65536 = mul-le-mul few_shards few_lines in
    omega (arith, all, few_lines, few_threads, product)

-- banks whose write-backs are none have none together
no_write_backs : (n : ℕ) (b : BankState) (rest : List BankState) → b.write_backs ≡ 0 → write_backs_on 0 rest ≡ 0 → write_backs_on 0 (replicate n b ++ rest) ≡ 0
no_write_backs zero b rest none is = is
no_write_backs (suc n) b rest none is = ap (λ (k : ℕ). write_backs_on (min (0 + k) (2 ^ 64 - 1)) (replicate n b ++ rest)) none ∙ no_write_backs n b rest none is

-- the law on write-backs
pub formatted_write_backs : FormattedWriteBacksLaw
formatted_write_backs z =
    ap (write_backs_on 0) (append_assoc (maps z) (room_bank z.lines 2 ∷ threads z) last)
    ∙ no_write_backs z.shards (room_bank z.lines live_layout.first) (room_bank z.lines 2 ∷ (threads z ++ last)) refl
    (no_write_backs z.threads (line_bank (line_of_words 0 0)) last refl refl)
