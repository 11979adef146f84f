-- What the banks of formatted memory are to those who read them, and the image that a power cut leaves of it.
use Rattle.std.specs.Prelude.{◌≡◌, ℕ, ◌<◌, [], length, slice_index}
use Rattle.line_memory.specs.Line.{bank_at, bank_load, line_at, all_write_backs, IsQuiet}
use Rattle.seq_object.specs.declared.sizes.Sizes.{Sizes}
use Rattle.seq_object.specs.Sizes.{AreValid, room_count, line_count}
use Rattle.room_model.specs.MapRoom.{live_layout}
use Rattle.room_model.specs.Formatted.{formatted_word, formatted_bank, formatted_memory}
use Rattle.room_model.specs.Image.{KeptCounts, IsFormatted, image_of}

-- a bank has its room's lines
abbrev pub FormattedLinesLaw : Type 0
FormattedLinesLaw = (z : Sizes) (room : ℕ) → length (formatted_bank z room).lines ≡ line_count z room

-- nothing is pending on any of its lines
abbrev pub FormattedQuietLaw : Type 0
FormattedQuietLaw = (z : Sizes) (room line : ℕ) → (line_at (formatted_bank z room).lines line).pending ≡ []

-- its loads are the words of formatted memory
abbrev pub FormattedLoadsLaw : Type 0
FormattedLoadsLaw = (z : Sizes) (room line w : ℕ) → AreValid z → line < line_count z room → bank_load (formatted_bank z room) line w ≡ formatted_word live_layout z room line w

-- so are its words in memory
abbrev pub FormattedWordsLaw : Type 0
FormattedWordsLaw = (z : Sizes) (room line w : ℕ) → AreValid z → line < line_count z room → slice_index (line_at (formatted_bank z room).lines line).base w ≡ formatted_word live_layout z room line w

-- formatted memory has as many banks as there are rooms
abbrev pub FormattedRoomsLaw : Type 0
FormattedRoomsLaw = (z : Sizes) → length (formatted_memory z) ≡ room_count z

-- and each by the number of its room
abbrev pub FormattedBanksLaw : Type 0
FormattedBanksLaw = (z : Sizes) (room : ℕ) → room < room_count z → bank_at (formatted_memory z) room ≡ formatted_bank z room

-- nothing is pending in formatted memory
abbrev pub FormattedMemoryQuietLaw : Type 0
FormattedMemoryQuietLaw = (z : Sizes) → IsQuiet (formatted_memory z)

-- nothing was written back in it
abbrev pub FormattedWriteBacksLaw : Type 0
FormattedWriteBacksLaw = (z : Sizes) → all_write_backs (formatted_memory z) ≡ 0

-- whatever a power cut keeps, it leaves the formatted image
abbrev pub FormattedImageLaw : Type 0
FormattedImageLaw = (z : Sizes) (choice : KeptCounts) → AreValid z → IsFormatted live_layout z (image_of (formatted_memory z) choice)
