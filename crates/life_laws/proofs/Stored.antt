-- Loads after planned stores.
use Rattle.std.proofs.Common.{◌≡◌, ℕ, ◌<◌, ◌==◌, ◌&&◌, Bool, List, [], ◌∷◌, ◌++◌, length, if◌then◌else◌, refl, sym, ap, ◌∙◌, subst, inl, inr, eq-eqb}
use Rattle.std.specs.Prelude.{slice_index, slice_set}
use Rattle.std.specs.List.{All}
use Rattle.std.proofs.lemmas.Bool.{ne_eqb}
use Rattle.std.proofs.lemmas.List.{get_or-set_same, get_or-set_other}
use Rattle.std.proofs.Math.ListN.{length-set}
use Rattle.std.proofs.lemmas.Bool.Decides.{eqb_tells}
use Rattle.std.proofs.lemmas.List.Elements.{All-head, All-tail}
use Rattle.line_memory.specs.declared.store.Store.{Store}
use Rattle.line_memory.specs.Line.{LineState, BankState, latest, loaded, no_line, line_at, bank_load, store_to, stored, with_line}
use Rattle.room_model.specs.declared.write.PlannedStore.{PlannedStore}
use Rattle.room_model.specs.Chains.{RoomWords, with_word}
use Rattle.room_model.specs.Writes.{stored_in}
use Rattle.life_laws.specs.CutExamples.{all_stored}

-- the last store behind others decides
latest-push : (value word : ℕ) (ss : List Store) (s : Store)
    → latest value word (ss ++ s ∷ []) ≡ (if s.word == word then s.value else latest value word ss)
latest-push value word [] s = refl
latest-push value word (x ∷ xs) s = latest-push (if x.word == word then x.value else value) word xs s

-- a load after one more store to the line
load_stored : (l : LineState) (w value word : ℕ) → loaded (stored l w value) word ≡ (if w == word then value else loaded l word)
load_stored l w value word = latest-push (slice_index l.base word) word l.pending (store_to w value)

-- a comparison is the same the other way round
either_way : (a b : ℕ) → (a == b) ≡ (b == a)
either_way a b = elim (eqb_tells a b) [
  | inl h ↦ h.0 ∙ sym (eq-eqb b a (sym h.1))
  | inr h ↦ h.0 ∙ sym (ne_eqb b a (λ e. h.1 (sym e)))
]

-- one store, seen by a load
one_stored : (bank : BankState) (at w value : ℕ) → at < length bank.lines → (line word : ℕ)
    → bank_load (with_line bank at (stored (line_at bank.lines at) w value)) line word ≡ with_word (bank_load bank) at w value line word
one_stored bank at w value lt line word = elim (eqb_tells line at) [
  | inl h ↦
      ap (λ (i : ℕ). loaded (line_at (slice_set bank.lines at (stored (line_at bank.lines at) w value)) i) word) h.1
      ∙ ap (λ (l : LineState). loaded l word) (get_or-set_same bank.lines at (stored (line_at bank.lines at) w value) no_line lt)
      ∙ load_stored (line_at bank.lines at) w value word
      ∙ ap (λ (b : Bool). if b then value else bank_load bank at word) (either_way w word)
      ∙ ap (λ (i : ℕ). if word == w then value else bank_load bank i word) (sym h.1)
      ∙ sym (ap (λ (b : Bool). if b && (word == w) then value else bank_load bank line word) h.0)
  | inr h ↦
      ap (λ (l : LineState). loaded l word) (get_or-set_other bank.lines at line (stored (line_at bank.lines at) w value) no_line h.1)
      ∙ sym (ap (λ (b : Bool). if b && (word == w) then value else bank_load bank line word) h.0)
]

-- the loads of a bank after stores to lines that it has are its loads before, with these stores in them
pub loads_stored : (bank : BankState) (stores : List PlannedStore) → All (λ s. s.line < length bank.lines) stores
    → (line word : ℕ) → bank_load (all_stored bank stores) line word ≡ stored_in (bank_load bank) stores line word
loads_stored bank [] all line word = refl
loads_stored bank (s ∷ ss) all line word =
    let next : BankState = with_line bank s.line (stored (line_at bank.lines s.line) s.word s.value) in
    let lt : s.line < length bank.lines = All-head (λ x. x.line < length bank.lines) s ss all in
    let same : length next.lines ≡ length bank.lines = length-set bank.lines s.line (stored (line_at bank.lines s.line) s.word s.value) in
    let words : bank_load next ≡ with_word (bank_load bank) s.line s.word s.value = λ m i w. one_stored bank s.line s.word s.value lt i w m in
    let rest : All (λ x. x.line < length next.lines) ss =
    subst (λ (n : ℕ). All (λ (x : PlannedStore). x.line < n) ss) (sym same) (All-tail (λ x. x.line < length bank.lines) s ss all) in
    loads_stored next ss rest line word ∙ ap (λ (r : RoomWords). stored_in r ss line word) words
