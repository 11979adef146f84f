-- Lists of rooms that grow by one room, and what is still to be read or made.
use Rattle.std.proofs.Common.{◌≡◌, ℕ, ◌+◌, ◌-◌, ◌*◌, ◌<◌, ◌≤◌, ◌^◌, List, [], ◌∷◌, ◌++◌, length, get_or, ap, sym, ◌∙◌, arith, append_assoc, append-nil, below_more}
use Rattle.std.specs.Global.{Vec}
use Rattle.std.proofs.lemmas.List.{map-append, length-map}
use Rattle.std.proofs.lemmas.Grind.{flat_map-append}
use Rattle.std.proofs.Math.ListN.{get_or-append}
use Rattle.std.proofs.Math.Seq.{get_or-append_seam}
use Rattle.line_memory.specs.Line.{BankState, bank_at, all_lines, quiet_bank}
use Rattle.seq_object.specs.Sizes.{line_count, line_total}
use Rattle.room_model.specs.Image.{ImageRooms as Rooms, lines_at, surviving_lines}
use Rattle.store_order.specs.declared.choice.Choice.{Choice}
use Rattle.store_order.specs.Choice.{kept_of}
use Rattle.power_cut.specs.Image.{lists_of, AreWhole}
use Rattle.power_cut.specs.Bytes.{magic, head_bytes, room_bytes, rooms_bytes}
use Rattle.power_cut.specs.Cut.{first_line, choosing, quiet_memory}
use Rattle.byteorder.specs.Endian.{little_bytes}
use Rattle.power_cut.proofs.Counts.{lines_from, lines_from-step, lines_in-shape, line_total-few, all_lines-quiet}
use Rattle.power_cut.proofs.Cuts.{first_line-more, first_line-le}
use Rattle.seq_object.specs.declared.sizes.Sizes.{Sizes}

-- the lists of one more vector
pub lists_of-more : (rooms more : List (Vec (List ℕ))) (v : Vec (List ℕ)) → more ≡ rooms ++ v ∷ [] → lists_of more ≡ lists_of rooms ++ v.items ∷ []
lists_of-more rooms more v is = ap lists_of is ∙ map-append (λ (room : Vec (List ℕ)). room.items) rooms (v ∷ [])

-- one more room has its lines, as those before
pub lines_at-more : (z : Sizes) (rooms : Rooms) (lines : List (List ℕ)) (room : ℕ) → length rooms ≡ room → ((r : ℕ) → r < room → length (lines_at rooms r) ≡ line_count z r) → length lines ≡ line_count z room
    → (r : ℕ) → r < room + 1 → length (lines_at (rooms ++ lines ∷ []) r) ≡ line_count z r
lines_at-more z rooms lines room many before own =
    let last : get_or (rooms ++ lines ∷ []) room [] ≡ lines = ap (λ (n : ℕ). get_or (rooms ++ lines ∷ []) n []) (sym many) ∙ get_or-append_seam rooms lines [] [] in
    below_more (λ r. length (lines_at (rooms ++ lines ∷ []) r) ≡ line_count z r) room
    (λ r within. ap (λ (ls : List (List ℕ)). length ls) (get_or-append rooms (lines ∷ []) [] r (omega (arith, many))) ∙ before r within)
    (ap (λ (ls : List (List ℕ)). length ls) last ∙ own)

-- bytes that are one more room and what follows it
pub rooms_bytes-more : (rooms : Rooms) (lines : List (List ℕ)) (bytes rest own others : List ℕ) → bytes ≡ rooms_bytes rooms ++ rest → rest ≡ own ++ others → own ≡ room_bytes lines → bytes ≡ rooms_bytes (rooms ++ lines ∷ []) ++ others
rooms_bytes-more rooms lines bytes rest own others is split spelled =
    let grown : rooms_bytes (rooms ++ lines ∷ []) ≡ rooms_bytes rooms ++ room_bytes lines = flat_map-append room_bytes rooms (lines ∷ []) ∙ ap (λ (xs : List ℕ). rooms_bytes rooms ++ xs) (append-nil (room_bytes lines)) in
    is
    ∙ ap (λ (xs : List ℕ). rooms_bytes rooms ++ xs) (split ∙ ap (λ (xs : List ℕ). xs ++ others) spelled)
    ∙ sym (append_assoc (rooms_bytes rooms) (room_bytes lines) others)
    ∙ ap (λ (xs : List ℕ). xs ++ others) (sym grown)

-- the bytes of the next room are there
pub room_fits : (z : Sizes) (room n lines long : ℕ) → room < n → long ≡ 64 * lines_from z room (n - room) → lines ≡ line_count z room → 64 * lines ≤ long
room_fits z room n lines long within is own = let step = lines_from-step z room n within in omega (arith, step)

-- the bytes after the next room
pub room_after : (z : Sizes) (room n lines long left : ℕ) → room < n → long ≡ 64 * lines_from z room (n - room) → lines ≡ line_count z room → left + 64 * lines ≡ long → left ≡ 64 * lines_from z (room + 1) (n - (room + 1))
room_after z room n lines long left within is own rest = let step = lines_from-step z room n within in omega (arith, step)

-- what stands before the words is written piece by piece
pub head_written : (z : Sizes) (old a b c d e : List ℕ) → a ≡ old ++ magic → b ≡ a ++ little_bytes 4 1 → c ≡ b ++ little_bytes 4 z.threads → d ≡ c ++ little_bytes 4 z.shards → e ≡ d ++ little_bytes 4 z.lines → e ≡ old ++ head_bytes z
head_written z old a b c d e at_a at_b at_c at_d at_e =
    let v = little_bytes 4 1 in
    let t = little_bytes 4 z.threads in
    let s = little_bytes 4 z.shards in
    let l = little_bytes 4 z.lines in
    at_e
    ∙ ap (λ (xs : List ℕ). xs ++ l) (at_d ∙ ap (λ (xs : List ℕ). xs ++ s) (at_c ∙ ap (λ (xs : List ℕ). xs ++ t) (at_b ∙ ap (λ (xs : List ℕ). xs ++ v) at_a)))
    ∙ regrouped old magic v t s l
  where
    regrouped : (o m v t s l : List ℕ) → ((((o ++ m) ++ v) ++ t) ++ s) ++ l ≡ o ++ (m ++ (v ++ (t ++ (s ++ l))))
    regrouped o m v t s l = simp append_assoc

-- the lines up to the end of a room are few enough to be counted
pub first_fits : (memory : List BankState) (room first : ℕ) (bank : BankState) → room < length memory → bank ≡ bank_at memory room → first ≡ first_line memory room → all_lines memory < 2 ^ 32 → first + length bank.lines < 2 ^ 32
first_fits memory room first bank within is so_far few =
    let own : length bank.lines ≡ length (bank_at memory room).lines = ap (λ (b : BankState). length b.lines) is in
    omega (arith, own, first_line-more memory room within, first_line-le memory (room + 1))

-- the number of the next room's first line
pub first_next : (memory : List BankState) (room first : ℕ) (bank : BankState) (lines : ℕ) → room < length memory → bank ≡ bank_at memory room → first ≡ first_line memory room → lines ≡ length bank.lines → first + lines ≡ first_line memory (room + 1)
first_next memory room first bank lines within is so_far counted =
    let own : length bank.lines ≡ length (bank_at memory room).lines = ap (λ (b : BankState). length b.lines) is in
    omega (arith, own, first_line-more memory room within)

-- what is left of a bank is what the choice leaves of that room of the memory
pub survived : (memory : List BankState) (choice : Choice) (room first : ℕ) (bank : BankState) (lines : List (List ℕ)) → bank ≡ bank_at memory room → first ≡ first_line memory room
    → lines ≡ surviving_lines (kept_of choice first bank.lines) 0 bank.lines → lines ≡ surviving_lines (choosing choice memory room) 0 (bank_at memory room).lines
survived memory choice room first bank lines is so_far left =
    left ∙ ap (λ (f : ℕ). surviving_lines (kept_of choice f bank.lines) 0 bank.lines) so_far ∙ ap (λ (b : BankState). surviving_lines (kept_of choice (first_line memory room) b.lines) 0 b.lines) is

-- a whole image makes few enough banks and lines to be counted
pub quiet_memory-few : (z : Sizes) (rooms : Rooms) (banks : List BankState) → AreWhole z rooms → banks ≡ quiet_memory rooms → (length banks < 2 ^ 32) × (all_lines banks < 2 ^ 32)
quiet_memory-few z rooms banks whole is =
    let many : length banks ≡ length rooms = ap (λ (bs : List BankState). length bs) is ∙ length-map rooms quiet_bank in
    let lines : all_lines banks ≡ line_total z = ap all_lines is ∙ all_lines-quiet rooms ∙ lines_in-shape z rooms whole.shape in
    (omega (arith, many, whole.shape.rooms, whole.valid.few_threads, whole.valid.few_shards), omega (arith, lines, line_total-few z whole.valid))
