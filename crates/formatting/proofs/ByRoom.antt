-- The banks of formatted memory, by the numbers of their rooms.
use Rattle.std.proofs.Common.{◌≡◌, ℕ, ◌<◌, ◌≤◌, ◌==◌, ◌&&◌, zero, suc, Bool, true, false, [], ◌∷◌, length, if◌then◌else◌, refl, arith, ap, sym, ◌∙◌, subst}
use Rattle.std.specs.Prelude.{nat_le, slice_index}
use Rattle.std.proofs.lemmas.Bool.Decides.{nat_tests}
use Rattle.line_memory.specs.Line.{BankState, line_at, bank_load}
use Rattle.seq_object.specs.declared.sizes.Sizes.{Sizes}
use Rattle.seq_object.specs.Sizes.{AreValid, super_room, line_count}
use Rattle.room_model.specs.Cell.{tag_of}
use Rattle.room_model.specs.Chains.{RoomWords, HasSameRecords}
use Rattle.room_model.specs.MapRoom.{live_layout}
use Rattle.room_model.specs.Formatted.{formatted, first_node, formatted_word, formatted_bank, room_bank, line_bank, line_of_words}
use Rattle.formatting.specs.Laws.{FormattedLinesLaw, FormattedQuietLaw, FormattedLoadsLaw, FormattedWordsLaw}
use Rattle.formatting.proofs.Lines.{length-room, formatted_load, base_word, line_word, quiet_at, zero_word, room_words, room_eight, one_eight}

-- what holds by each outcome of a test holds
by_test : (P : Bool → Type 0) (b : Bool) → (b ≡ true → P true) → (b ≡ false → P false) → P b
by_test P true on off = on refl
by_test P false on off = off refl

-- the super room's number is beyond the queue room's
one_line : (z : Sizes) (room : ℕ) → (room == super_room z) ≡ true → nat_le room z.shards ≡ false
one_line z room is = grind (arith, nat_tests, is)

-- a bank, its lines and its words, by the kind of its room
pub by_kind : (P : ℕ → BankState → RoomWords → Type 0) (z : Sizes) (room : ℕ)
    → P 1 (line_bank (line_of_words 1 0)) (λ line w. if w == 0 then 1 else 0)
    → (nat_le room z.shards ≡ true → P z.lines (room_bank z.lines (first_node live_layout z room)) (formatted (first_node live_layout z room)))
    → P 1 (line_bank (line_of_words 0 0)) (λ line w. 0)
    → P (line_count z room) (formatted_bank z room) (formatted_word live_layout z room)
by_kind P z room super cells thread =
    by_test (λ (b : Bool). P (line_count z room) (if b then line_bank (line_of_words 1 0) else if nat_le room z.shards then room_bank z.lines (first_node live_layout z room) else line_bank (line_of_words 0 0))
    (λ line w. if b then (if w == 0 then 1 else 0) else if nat_le room z.shards then formatted (first_node live_layout z room) line w else 0)) (room == super_room z)
    (λ is. subst (λ (b : Bool). P (if b then z.lines else 1) (line_bank (line_of_words 1 0)) (λ line w. if w == 0 then 1 else 0)) (sym (one_line z room is)) super)
    (λ _. by_test (λ (b : Bool). P (if b then z.lines else 1) (if b then room_bank z.lines (first_node live_layout z room) else line_bank (line_of_words 0 0))
    (λ line w. if b then formatted (first_node live_layout z room) line w else 0)) (nat_le room z.shards) cells (λ _. thread))

-- the law on the lines of a bank
pub formatted_lines : FormattedLinesLaw
formatted_lines z room = by_kind (λ lines bank words. length bank.lines ≡ lines) z room refl (λ _. length-room z.lines (first_node live_layout z room)) refl

-- the law on what is pending on them
pub formatted_quiet : FormattedQuietLaw
formatted_quiet z room line =
    by_kind (λ lines bank words. (line_at bank.lines line).pending ≡ []) z room
    (ap (λ l. l.pending) (quiet_at (line_of_words 1 0 ∷ []) line))
    (λ _. ap (λ l. l.pending) (quiet_at (room_words z.lines (first_node live_layout z room)) line))
    (ap (λ l. l.pending) (quiet_at (line_of_words 0 0 ∷ []) line))

-- no stores were asked for on them
pub none_asked : (z : Sizes) (room line : ℕ) → (line_at (formatted_bank z room).lines line).asked ≡ 0
none_asked z room line =
    by_kind (λ lines bank words. (line_at bank.lines line).asked ≡ 0) z room
    (ap (λ l. l.asked) (quiet_at (line_of_words 1 0 ∷ []) line))
    (λ _. ap (λ l. l.asked) (quiet_at (room_words z.lines (first_node live_layout z room)) line))
    (ap (λ l. l.asked) (quiet_at (line_of_words 0 0 ∷ []) line))

-- the words in memory of a bank of one line
one_word : (first line w : ℕ) (words : RoomWords) → ((v : ℕ) → slice_index (line_of_words first 0) v ≡ words 0 v) → line < 1 → slice_index (line_at (line_bank (line_of_words first 0)).lines line).base w ≡ words line w
one_word first zero w words are within = are w
one_word first (suc line) w words are within = absurd (omega (arith, within))

-- the law on words in memory
pub formatted_words : FormattedWordsLaw
formatted_words z room line w valid =
    let some = valid.some_lines in
    by_kind (λ lines bank words. line < lines → slice_index (line_at bank.lines line).base w ≡ words line w) z room
    (one_word 1 line w (λ line w. if w == 0 then 1 else 0) (line_word 1))
    (λ _ _. base_word z.lines (first_node live_layout z room) line w (omega (arith, some)))
    (one_word 0 line w (λ line w. 0) (zero_word 8))

-- the loads of a bank of one line
one_load : (first line w : ℕ) (words : RoomWords) → ((v : ℕ) → slice_index (line_of_words first 0) v ≡ words 0 v) → line < 1 → bank_load (line_bank (line_of_words first 0)) line w ≡ words line w
one_load first zero w words are within = are w
one_load first (suc line) w words are within = absurd (omega (arith, within))

-- the law on loads
pub formatted_loads : FormattedLoadsLaw
formatted_loads z room line w valid =
    let some = valid.some_lines in
    by_kind (λ lines bank words. line < lines → bank_load bank line w ≡ words line w) z room
    (one_load 1 line w (λ line w. if w == 0 then 1 else 0) (line_word 1))
    (λ _ _. formatted_load z.lines (first_node live_layout z room) line w (omega (arith, some)))
    (one_load 0 line w (λ line w. 0) (zero_word 8))

-- a bank by its number, in each part of the list
pub map_bank : (z : Sizes) (room : ℕ) → room < z.shards → formatted_bank z room ≡ room_bank z.lines live_layout.first
map_bank z room lt = grind (arith, nat_tests, lt)

pub queue_bank : (z : Sizes) (room : ℕ) → room ≡ z.shards → formatted_bank z room ≡ room_bank z.lines 2
queue_bank z room is = grind (arith, nat_tests, is)

pub thread_bank : (z : Sizes) (room : ℕ) → z.shards < room → room < super_room z → formatted_bank z room ≡ line_bank (line_of_words 0 0)
thread_bank z room above below = grind (arith, nat_tests, above, below)

pub super_bank : (z : Sizes) (room : ℕ) → room ≡ super_room z → formatted_bank z room ≡ line_bank (line_of_words 1 0)
super_bank z room is = grind (arith, nat_tests, is)

-- each line has eight words
pub eight_words : (z : Sizes) (room line : ℕ) → line < line_count z room → length (line_at (formatted_bank z room).lines line).base ≡ 8
eight_words z room line =
    by_kind (λ lines bank words. line < lines → length (line_at bank.lines line).base ≡ 8) z room (one_eight 1 line) (λ _. room_eight z.lines (first_node live_layout z room) line) (one_eight 0 line)

-- no line is tagged
pub no_tag : (z : Sizes) (room line : ℕ) → AreValid z → line < line_count z room → tag_of (line_at (formatted_bank z room).lines line).base ≡ 0
no_tag z room line valid within =
    formatted_words z room line 6 valid within ∙ by_kind (λ lines bank words. words line 6 ≡ 0) z room refl (λ _. untagged (line == 0) (first_node live_layout z room)) refl
  where
    untagged : (b : Bool) (first : ℕ) → (if b && false then first else 0) ≡ 0
    untagged true first = refl
    untagged false first = refl

-- a map room or the queue room has cells that load as formatted
pub cells_load : (z : Sizes) (room : ℕ) → AreValid z → room ≤ z.shards → HasSameRecords (bank_load (formatted_bank z room)) (formatted (first_node live_layout z room))
cells_load z room valid few line w low =
    let some = valid.some_lines in
    ap (λ (b : BankState). bank_load b line w) (cells_bank z room few) ∙ formatted_load z.lines (first_node live_layout z room) line w (omega (arith, some))
  where
    cells_bank : (z : Sizes) (room : ℕ) → room ≤ z.shards → formatted_bank z room ≡ room_bank z.lines (first_node live_layout z room)
    cells_bank z room few = grind (arith, nat_tests, few)
