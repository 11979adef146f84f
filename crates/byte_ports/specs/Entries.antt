-- The list of entries that stands for a map from names to images.
use Rattle.std.specs.Prelude.{ℕ, List, map, String, Vec}
use Rattle.std.specs.String.{string_bytes}
use Rattle.std.specs.FinMap.{from_entries}
use Rattle.byte_ports.specs.Images.{Named}

-- a name and an image, as they stand in memory, as lists of bytes
abbrev pub entry_of : {A B : Type 0} → String A × Vec ℕ B → List ℕ × List ℕ
entry_of e = (string_bytes e.0, e.1.items)

-- the map of these entries
abbrev pub named_of : {A B : Type 0} → List (String A × Vec ℕ B) → Named
named_of es = from_entries (map entry_of es)
