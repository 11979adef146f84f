-- Each change of a bank keeps its lines whole.
use Rattle.std.proofs.Common.{ℕ, ◌∙◌, ap, set, inl, inr, get_or-set_same, get_or-set_other, length-set, ◌+◌, ◌<◌, ◌≤◌, ◌^◌, List, [], ◌∷◌, ◌++◌, length, map, arith, sym, subst}
use Rattle.std.specs.List.{All}
use Rattle.std.proofs.lemmas.List.{get_or-map, length-map, length-append, length-drop}
use Rattle.std.proofs.lemmas.Bool.Decides.{eqb_tells}
use Rattle.std.proofs.lemmas.List.Elements.{All-push, All-drop, All-get_or, All-from_get_or}
use Rattle.line_memory.specs.Line.{LineState, fenced, stored, written_back, with_spare, store_to, line_at, no_line, IsStore, IsLine, AreLines}
use Rattle.line_memory.proofs.Survivors.{left-words}

-- what holds of each element holds of the element at each place
are_lines-from_all : (lines : List LineState) → All IsLine lines → AreLines lines
are_lines-from_all lines all i lt = All-get_or IsLine lines i no_line lt all

-- a fence frees the room of what it moves
pub is_line-fenced : (l : LineState) → IsLine l → IsLine (fenced l)
is_line-fenced l line =
    let asked : l.asked ≤ length l.pending = line.asked in
    let few : length l.pending + l.spare < 2 ^ 32 = line.few in
    record {
      eight = (left-words l l.asked line).0;
      words = (left-words l l.asked line).1;
      stores = All-drop IsStore l.asked l.pending line.stores;
      asked = omega arith;
      few = omega (arith, length-drop l.asked l.pending);
    }

-- one more line
pub are_lines-push : (lines : List LineState) (l : LineState) → AreLines lines → IsLine l → AreLines (lines ++ l ∷ [])
are_lines-push lines l all line = are_lines-from_all (lines ++ l ∷ []) (All-push IsLine lines l (All-from_get_or IsLine lines no_line all) line)

-- every line fenced
pub are_lines-fenced : (lines : List LineState) → AreLines lines → AreLines (map fenced lines)
are_lines-fenced lines all i lt =
    let within : i < length lines = omega (arith, length-map lines fenced) in
    subst (λ (k : LineState). IsLine k) (sym (get_or-map fenced lines i no_line no_line within)) (is_line-fenced (line_at lines i) (all i within))

-- one line changed
pub are_lines-set : (lines : List LineState) (i : ℕ) (k : LineState) → AreLines lines → IsLine k → AreLines (set lines i k)
are_lines-set lines i k all line j lt = elim (eqb_tells j i) [
  | inl h ↦
      let within : i < length lines = omega (arith, lt, length-set lines i k, h.1) in
      subst IsLine (sym (ap (λ (n : ℕ). line_at (set lines i k) n) h.1 ∙ get_or-set_same lines i k no_line within)) line
  | inr h ↦ subst IsLine (sym (get_or-set_other lines i j k no_line h.1)) (all j (omega (arith, lt, length-set lines i k)))
]

-- a store takes a place
pub is_line-stored : (l : LineState) (word value : ℕ) → IsLine l → word < 8 → value < 2 ^ 64 → 0 < l.spare → IsLine (stored l word value)
is_line-stored l word value line in_line fits some =
    let longer = length-append l.pending (store_to word value ∷ []) in
    record {
      eight = line.eight;
      words = line.words;
      stores = All-push IsStore l.pending (store_to word value) line.stores (record { word = in_line; value = fits });
      asked = let asked = line.asked in omega (arith, asked, longer);
      few = let few = line.few in omega (arith, few, some, longer);
    }

-- a write-back asks for what is pending
pub is_line-written : (l : LineState) → IsLine l → IsLine (written_back l)
is_line-written l line = record { eight = line.eight; words = line.words; stores = line.stores; asked = omega arith; few = line.few }

-- room that can be counted
pub is_line-spare : (l : LineState) (spare : ℕ) → IsLine l → length l.pending + spare < 2 ^ 32 → IsLine (with_spare l spare)
is_line-spare l spare line few = record { eight = line.eight; words = line.words; stores = line.stores; asked = line.asked; few = few }
