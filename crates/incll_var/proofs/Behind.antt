-- The room behind all planned stores.
use Rattle.std.proofs.Common.{eq-eqb, ◌≡◌, ◌≢◌, ℕ, ◌<◌, ◌==◌, ◌||◌, ◌&&◌, Bool, true, false, List, [], ◌∷◌, ◌++◌, length, get_or, arith, refl, ap, sym, ◌∙◌, inl, inr, get_or-set_same, get_or-set_other, if◌then◌else◌}
use Rattle.std.proofs.lemmas.Bool.{ne_eqb}
use Rattle.std.proofs.lemmas.Bool.Decides.{eqb_tells}
use Rattle.line_memory.specs.Line.{LineState, BankState, latest, line_at, loaded, stored, store_to, no_line, bank_load, bank_stored}
use Rattle.line_memory.specs.declared.store.Store.{Store}
use Rattle.room_model.specs.declared.write.PlannedStore.{PlannedStore}
use Rattle.room_model.specs.Chains.{RoomWords, with_word}
use Rattle.room_model.specs.Writes.{stored_in}
use Rattle.incll_var.specs.Cells.{CellBankState}
use Rattle.incll_var.specs.Laws.{StoredLoadsLaw, StoredBehindLaw}

-- functions that agree everywhere are equal
pub same_function : (r s : ℕ → ℕ → ℕ) → ((i w : ℕ) → r i w ≡ s i w) → r ≡ s
same_function r s h = λ j i w. h i w j

-- the last value behind one more store
latest-append : (v w : ℕ) (ss : List Store) (word value : ℕ) → latest v w (ss ++ store_to word value ∷ []) ≡ (if word == w then value else latest v w ss)
latest-append v w [] word value = refl
latest-append v w (s ∷ ss) word value = latest-append (if s.word == w then s.value else v) w ss word value

-- equal numbers are equal the other way round
eqb-swap : (a b : ℕ) → (a == b) ≡ (b == a)
eqb-swap a b = elim (eqb_tells a b) [
  | inl h ↦ h.0 ∙ sym (eq-eqb b a (sym h.1))
  | inr h ↦ h.0 ∙ sym (ne_eqb b a (λ q. h.1 (sym q)))
]

-- a store changes one word by loads
pub stored_loads : StoredLoadsLaw
stored_loads bank line word value within = same_function (bank_load (bank_stored bank line word value)) (with_word (bank_load bank) line word value) (λ i w. elim (eqb_tells i line) [
  | inl h ↦
      let l : LineState = line_at bank.lines line in
      let here : line_at (bank_stored bank line word value).lines i ≡ stored l word value = ap (λ (k : ℕ). line_at (bank_stored bank line word value).lines k) h.1 ∙ get_or-set_same bank.lines line (stored l word value) no_line within in
      ap (λ (k : LineState). loaded k w) here
      ∙ latest-append (get_or l.base w 0) w l.pending word value
      ∙ ap (λ (b : Bool). if b then value else loaded l w) (eqb-swap word w)
      ∙ ap (λ (k : ℕ). if w == word then value else bank_load bank k w) (sym h.1)
      ∙ ap (λ (b : Bool). if b && (w == word) then value else bank_load bank i w) (sym h.0)
  | inr h ↦
      let there : line_at (bank_stored bank line word value).lines i ≡ line_at bank.lines i = get_or-set_other bank.lines line i (stored (line_at bank.lines line) word value) no_line h.1 in
      ap (λ (k : LineState). loaded k w) there ∙ ap (λ (b : Bool). if b && (w == word) then value else bank_load bank i w) (sym h.0)
])

-- a store that is made changes nothing behind the plan
pub stored_behind : StoredBehindLaw
stored_behind bank s ss within = ap (λ (r : RoomWords). stored_in r ss) (stored_loads bank s.line s.word s.value within)

-- the same, for values that are equal to these
pub played_behind : (old now : CellBankState) (plan : List PlannedStore) (p : PlannedStore) (ps : List PlannedStore) (bank : BankState) → old ≡ now → plan ≡ p ∷ ps → bank ≡ bank_stored old.bank p.line p.word p.value → p.line < length old.bank.lines
    → stored_in (bank_load bank) ps ≡ stored_in (bank_load now.bank) plan
played_behind old now plan p ps bank is front made within =
    ap (λ (b : BankState). stored_in (bank_load b) ps) made
    ∙ stored_behind old.bank p ps within
    ∙ ap (λ (b : CellBankState). stored_in (bank_load b.bank) (p ∷ ps)) is
    ∙ ap (λ (xs : List PlannedStore). stored_in (bank_load now.bank) xs) (sym front)
