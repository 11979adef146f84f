-- What a word will load behind planned stores.
use Rattle.std.proofs.Common.{◌≡◌, ℕ, ◌==◌, ◌&&◌, List, [], ◌∷◌, if◌then◌else◌, refl, sym, ap, ◌∙◌}
use Rattle.room_model.specs.declared.write.PlannedStore.{PlannedStore}
use Rattle.room_model.specs.Chains.{RoomWords, with_word}
use Rattle.room_model.specs.Writes.{stored_in}

-- the value of the last of these stores to a word of a line, or this value where there is none
abbrev pub latest_to : ℕ → ℕ → ℕ → List PlannedStore → ℕ
latest_to line word value [] = value
latest_to line word value (s ∷ ss) = latest_to line word (if (line == s.line) && (word == s.word) then s.value else value) ss

-- it is what the word has behind the stores
pub latest_stored : (line word value : ℕ) (ss : List PlannedStore) (r : RoomWords) → r line word ≡ value → latest_to line word value ss ≡ stored_in r ss line word
latest_stored line word value [] r is = sym is
latest_stored line word value (s ∷ ss) r is =
    latest_stored line word (if (line == s.line) && (word == s.word) then s.value else value) ss (with_word r s.line s.word s.value)
    (ap (λ (n : ℕ). if (line == s.line) && (word == s.word) then s.value else n) is)
