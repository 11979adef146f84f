-- What an image store keeps, where it tells it: a finite map from names to images. A name is the bytes of a text, and an image is bytes.
-- None stands for a map that is not told, of which nothing is said. A store that tells goes on telling.
use Rattle.std.specs.Prelude.{◌≡◌, ◌≢◌, ℕ, List, Option, Some, None}
use Rattle.std.specs.Ordering.{nat_cmp}
use Rattle.std.specs.Cmp.Lexicographic.{slice_cmp}
use Rattle.std.specs.Coded.{Coded, coded_ℕ, coded_list}
use Rattle.std.specs.FinMap.{FinMap, code, get, insert}

-- images by their names
abbrev pub Named : Type 0
Named = FinMap (slice_cmp nat_cmp) (List ℕ)

-- the code of these maps, as a model's value needs it
abbrev pub named_code : Coded Named
named_code = code (coded_list coded_ℕ) (coded_list coded_ℕ)

-- a look-up of this name gives this answer: the bytes, or None where there is no such name
abbrev pub Finds : Option Named → List ℕ → Option (List ℕ) → Type 0
Finds None name answer = Unit {0}
Finds (Some map) name answer = get map name ≡ answer

-- these bytes are kept under this name
abbrev pub HeldUnder : Option Named → List ℕ → List ℕ → Type 0
HeldUnder told name bytes = Finds told name (Some bytes)

-- the name has these bytes now, and nothing else has changed
abbrev pub SetsName : Option Named → Option Named → List ℕ → List ℕ → Type 0
SetsName None new name bytes = Unit {0}
SetsName (Some old) None name bytes = ⊥
SetsName (Some old) (Some new) name bytes = new ≡ insert old name bytes

-- every name but this one has what it had
abbrev pub OthersSame : Option Named → Option Named → List ℕ → Type 0
OthersSame None new name = Unit {0}
OthersSame (Some old) None name = ⊥
OthersSame (Some old) (Some new) name = (other : List ℕ) → other ≢ name → get new other ≡ get old other
