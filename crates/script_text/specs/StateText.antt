-- The one text of a state.
use Rattle.std.specs.Prelude.{ℕ, ◌+◌, List, [], ◌∷◌, ◌++◌, codes, map}
use Rattle.std.specs.Fmt.{decimal}
use Rattle.seq_object.specs.declared.history.Pair.{Pair}
use Rattle.script_text.specs.Text.{ended}

-- the line of a thread: its number and its position
abbrev pub thread_line : ℕ → ℕ → List ℕ
thread_line thread position = codes "thread " ++ (decimal thread ++ 32 ∷ decimal position)

-- the lines of the threads from this one on, with their positions
abbrev pub thread_lines : ℕ → List ℕ → List (List ℕ)
thread_lines thread [] = []
thread_lines thread (p ∷ ps) = thread_line thread p ∷ thread_lines (thread + 1) ps

-- the line of a pair of the map
abbrev pub pair_line : Pair → List ℕ
pair_line pair = codes "map " ++ (decimal pair.key ++ 32 ∷ decimal pair.value)

-- the line of an item of the queue
abbrev pub item_line : ℕ → List ℕ
item_line value = codes "item " ++ decimal value

-- the lines of a state: its epoch, each thread's position, the pairs as they are given, and the items from front to back
abbrev pub state_lines : ℕ → List ℕ → List Pair → List ℕ → List (List ℕ)
state_lines epoch positions pairs items =
    codes "respct-state 1" ∷
    (codes "epoch " ++ decimal epoch) ∷
    (thread_lines 0 positions ++ (map pair_line pairs ++ (map item_line items ++ codes "end" ∷ [])))

-- the text of a state
abbrev pub state_bytes : ℕ → List ℕ → List Pair → List ℕ → List ℕ
state_bytes epoch positions pairs items = ended (state_lines epoch positions pairs items)
