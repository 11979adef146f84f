-- Plans that stores are put into.
use Rattle.std.proofs.Common.{◌≡◌, ℕ, ◌+◌, ◌-◌, ◌≤◌, Bool, true, false, List, [], ◌∷◌, ◌++◌, length, get_or, arith, refl, ap, ◌∙◌, if◌then◌else◌}
use Rattle.std.proofs.lemmas.List.{append_assoc, length-append}
use Rattle.line_memory.specs.Line.{BankState, bank_load}
use Rattle.room_model.specs.declared.write.PlannedStore.{PlannedStore}
use Rattle.room_model.specs.Chains.{RoomWords}
use Rattle.room_model.specs.Writes.{store, write, write_stores, needs_none, backup_stores}
use Rattle.incll_var.specs.Laws.{FiveStoresLaw}
use Rattle.incll_var.specs.Plans.{PlanState, filled, grown, with_places}
use Rattle.room_model.specs.Banks.{loaded_triple}

-- stores behind stores
pub filled-twice : (p : PlanState) (a b : List PlannedStore) → filled (filled p a) b ≡ filled p (a ++ b)
filled-twice p a b =
    let stores : (p.stores ++ a) ++ b ≡ p.stores ++ (a ++ b) = append_assoc p.stores a b in
    let all = length-append a b in
    let spare : p.spare - length a - length b ≡ p.spare - length (a ++ b) = omega (arith, all) in
    λ j. record { stores = stores j; spare = spare j }

-- four stores, one after the other
pub filled-four : (p : PlanState) (a b c d : PlannedStore) → filled (filled (filled (filled p (a ∷ [])) (b ∷ [])) (c ∷ [])) (d ∷ []) ≡ filled p (a ∷ b ∷ c ∷ d ∷ [])
filled-four p a b c d =
    ap (λ (q : PlanState). filled (filled q (c ∷ [])) (d ∷ [])) (filled-twice p (a ∷ []) (b ∷ []))
    ∙ ap (λ (q : PlanState). filled q (d ∷ [])) (filled-twice p (a ∷ b ∷ []) (c ∷ []))
    ∙ filled-twice p (a ∷ b ∷ c ∷ []) (d ∷ [])

-- the same, told by steps
pub filled-steps : (p p1 p2 p3 p4 : PlanState) (a b c d : PlannedStore) → p1 ≡ filled p (a ∷ []) → p2 ≡ filled p1 (b ∷ []) → p3 ≡ filled p2 (c ∷ []) → p4 ≡ filled p3 (d ∷ []) → p4 ≡ filled p (a ∷ b ∷ c ∷ d ∷ [])
filled-steps p p1 p2 p3 p4 a b c d h1 h2 h3 h4 =
    h4
    ∙ ap (λ (q : PlanState). filled q (d ∷ [])) (h3 ∙ ap (λ (q : PlanState). filled q (c ∷ [])) (h2 ∙ ap (λ (q : PlanState). filled q (b ∷ [])) h1))
    ∙ filled-four p a b c d

-- the stores of a backup, by a triple and an epoch that are equal to these
pub backup-told : (t : List ℕ) (n e : ℕ) (bank : BankState) (line : ℕ) → t ≡ loaded_triple bank line → n ≡ e
    → store line 3 (get_or t 0 0) ∷ store line 4 (get_or t 1 0) ∷ store line 5 (get_or t 2 0) ∷ store line 6 n ∷ [] ≡ backup_stores e (bank_load bank) line
backup-told t n e bank line words tag =
    ap (λ (us : List ℕ). store line 3 (get_or us 0 0) ∷ store line 4 (get_or us 1 0) ∷ store line 5 (get_or us 2 0) ∷ store line 6 n ∷ []) words
    ∙ ap (λ (m : ℕ). store line 3 (bank_load bank line 0) ∷ store line 4 (bank_load bank line 1) ∷ store line 5 (bank_load bank line 2) ∷ store line 6 m ∷ []) tag

-- room that is made and filled leaves the room that was there
pub filled-made : (p : PlanState) (n : ℕ) (ss : List PlannedStore) → length ss ≡ n → filled (with_places p n) ss ≡ grown p ss
filled-made p n ss is =
    let spare : p.spare + n - length ss ≡ p.spare = omega (arith, is) in
    λ j. record { stores = p.stores ++ ss; spare = spare j }

-- how many stores a write has
pub write_stores-length : (e : ℕ) (r : RoomWords) (before : List PlannedStore) (line word value : ℕ) → length (write_stores e r before (write line word value)) ≡ (if needs_none e r before line then 1 else 5)
write_stores-length e r before line word value = go (needs_none e r before line)
  where
    go : (b : Bool)
        → length (if b then store line word value ∷ [] else store line 3 (r line 0) ∷ store line 4 (r line 1) ∷ store line 5 (r line 2) ∷ store line 6 e ∷ store line word value ∷ [])
        ≡ (if b then 1 else 5)
    go true = refl
    go false = refl

-- a write has five stores at most
pub five_stores : FiveStoresLaw
five_stores epoch r before x = go (needs_none epoch r before x.line) (write_stores-length epoch r before x.line x.word x.value)
  where
    go : (b : Bool) → length (write_stores epoch r before x) ≡ (if b then 1 else 5) → length (write_stores epoch r before x) ≤ 5
    go true is = omega (arith, is)
    go false is = omega (arith, is)
