-- What is planned on the lines, and how a write and a store that is made change it.
use Rattle.std.proofs.Common.{lit<, eq-eqb, ◌≡◌, ◌≢◌, ℕ, ◌<◌, ◌==◌, ◌||◌, not, Bool, true, false, List, [], ◌∷◌, ◌++◌, length, get_or, set, arith, refl, ap, sym, ◌∙◌, subst, inl, inr, get_or-set_same, get_or-set_other, if◌then◌else◌}
use Rattle.std.proofs.lemmas.Grind.{common_steps}
use Rattle.std.proofs.lemmas.Bool.Decides.{eqb_tells}
use Rattle.std.proofs.lemmas.List.{append-nil}
use Rattle.line_memory.specs.Line.{LineState, BankState, applied, loaded_words, line_at, loaded, store_to, bank_load}
use Rattle.line_memory.specs.declared.store.Store.{Store}
use Rattle.line_memory.proofs.Stores.{applied-append}
use Rattle.room_model.specs.declared.write.PlannedStore.{PlannedStore}
use Rattle.room_model.specs.Cell.{tag_of, triple_of, IsSafe, IsRecoverable}
use Rattle.room_model.specs.Writes.{store, touches, write, write_stores, AreStoresWithin}
use Rattle.incll_var.specs.declared.state.CellState.{CellState}
use Rattle.incll_var.specs.declared.state.CellState.TheVariants.{Torn, Running, Closing, Saved}
use Rattle.incll_var.specs.Plans.{AreSafe, IsLinePlanned, IsPlanned, no_stores, stores_on}
use Rattle.incll_var.specs.Cells.{CellBankState, IsCellIn, IsCellBank, IsRunning, epoch_of}
use Rattle.incll_var.proofs.Safety.{safe-one, safe-five, whole_safe, loaded-whole}

-- these stores, on this line
abbrev on_line : ℕ → List Store → List PlannedStore
on_line line [] = []
on_line line (s ∷ ss) = store line s.word s.value ∷ on_line line ss

-- the stores of one write, to a line that was touched by the plan or not
abbrev write_of : ℕ → LineState → Bool → ℕ → ℕ → List Store
write_of e l touched word value =
    if (loaded l 6 == e) || touched then store_to word value ∷ []
    else store_to 3 (loaded l 0) ∷ store_to 4 (loaded l 1) ∷ store_to 5 (loaded l 2) ∷ store_to 6 e ∷ store_to word value ∷ []

-- the stores of one write are all on its line
write_stores-on_line : (e : ℕ) (bank : BankState) (ps : List PlannedStore) (i word value : ℕ)
    → write_stores e (bank_load bank) ps (write i word value) ≡ on_line i (write_of e (line_at bank.lines i) (touches i ps) word value)
write_stores-on_line e bank ps i word value = go ((loaded (line_at bank.lines i) 6 == e) || touches i ps)
  where
    go : (b : Bool)
        → (if b then store i word value ∷ [] else store i 3 (bank_load bank i 0) ∷ store i 4 (bank_load bank i 1) ∷ store i 5 (bank_load bank i 2) ∷ store i 6 e ∷ store i word value ∷ [])
        ≡ on_line i (if b then store_to word value ∷ [] else store_to 3 (bank_load bank i 0) ∷ store_to 4 (bank_load bank i 1) ∷ store_to 5 (bank_load bank i 2) ∷ store_to 6 e ∷ store_to word value ∷ [])
    go true = refl
    go false = refl

-- a line is touched where the plan has stores on it
touches-stores_on : (i : ℕ) (ps : List PlannedStore) → touches i ps ≡ not (no_stores (stores_on i ps))
touches-stores_on i [] = refl
touches-stores_on i (p ∷ ps) = go (p.line == i) (touches-stores_on i ps)
  where
    go : (b : Bool) → touches i ps ≡ not (no_stores (stores_on i ps)) → (b || touches i ps) ≡ not (no_stores (if b then store_to p.word p.value ∷ stores_on i ps else stores_on i ps))
    go true more = refl
    go false more = more

-- the stores on a line of two plans
pub stores_on-append : (i : ℕ) (ps qs : List PlannedStore) → stores_on i (ps ++ qs) ≡ stores_on i ps ++ stores_on i qs
stores_on-append i [] qs = refl
stores_on-append i (p ∷ ps) qs =
    let more : stores_on i (ps ++ qs) ≡ stores_on i ps ++ stores_on i qs = stores_on-append i ps qs in
    elim (eqb_tells p.line i) [ inl h ↦ grind (arith, common_steps) | inr h ↦ grind (arith, common_steps) ]

-- the stores on a line of stores that are all on one line
stores_on-on_line : (i j : ℕ) (ss : List Store) → stores_on j (on_line i ss) ≡ (if i == j then ss else [])
stores_on-on_line i j [] = elim (eqb_tells i j) [ inl h ↦ grind (arith, common_steps) | inr h ↦ grind (arith, common_steps) ]
stores_on-on_line i j (s ∷ ss) =
    let more : stores_on j (on_line i ss) ≡ (if i == j then ss else []) = stores_on-on_line i j ss in
    elim (eqb_tells i j) [ inl h ↦ grind (arith, common_steps) | inr h ↦ grind (arith, common_steps) ]

-- behind all these stores a safe cell is safe
safe_end : (e : ℕ) (t ws : List ℕ) (ss : List Store) → IsSafe e t ws → AreSafe e t ws ss → IsSafe e t (applied ws ss)
safe_end e t ws [] safe all = safe
safe_end e t ws (s ∷ ss) safe all = safe_end e t (set ws s.word s.value) ss all.0 all.1

-- safe stores behind safe stores
safe_more : (e : ℕ) (t ws : List ℕ) (ss ts : List Store) → AreSafe e t ws ss → AreSafe e t (applied ws ss) ts → AreSafe e t ws (ss ++ ts)
safe_more e t ws [] ts a b = b
safe_more e t ws (s ∷ ss) ts a b = (a.0, safe_more e t (set ws s.word s.value) ss ts a.1 b)

-- one store to the record, behind stores that leave the epoch's tag
one_more : (e : ℕ) (l : LineState) (ss : List Store) (word value : ℕ) → word < 3 → IsRecoverable e l → IsLinePlanned e l ss → tag_of (applied (loaded_words l) ss) ≡ e → IsLinePlanned e l (ss ++ store_to word value ∷ [])
one_more e l ss word value lt kept planned tagged =
    let t = triple_of e l.base in
    let end : IsSafe e t (applied (loaded_words l) ss) = safe_end e t (loaded_words l) ss (whole_safe e l kept) planned.safe in
    record {
      safe = safe_more e t (loaded_words l) ss (store_to word value ∷ []) planned.safe (safe-one e t (applied (loaded_words l) ss) word value lt end tagged, tt);
      tagged = λ h. ap tag_of (applied-append (loaded_words l) ss (store_to word value ∷ [])) ∙ get_or-set_other (applied (loaded_words l) ss) word 6 value 0 (omega arith) ∙ tagged;
    }

-- the five stores of the first write of the line
five_first : (e : ℕ) (l : LineState) (word value : ℕ) → word < 3 → IsRecoverable e l → loaded l 6 ≢ e
    → IsLinePlanned e l (store_to 3 (loaded l 0) ∷ store_to 4 (loaded l 1) ∷ store_to 5 (loaded l 2) ∷ store_to 6 e ∷ store_to word value ∷ [])
five_first e l word value lt kept other =
    let t = triple_of e l.base in
    let all = whole_safe e l kept in
    let tag : tag_of (loaded_words l) ≢ e = λ h. other (loaded-whole e l 6 kept (lit< tt) ∙ h) in
    let five = safe-five e t (loaded_words l) word value lt all tag in
    rw (loaded-whole e l 0 kept (lit< tt), loaded-whole e l 1 kept (lit< tt), loaded-whole e l 2 kept (lit< tt)) (record {
      safe = five;
      tagged = λ h.
          let three = set (set (set (loaded_words l) 3 (get_or (loaded_words l) 0 0)) 4 (get_or (loaded_words l) 1 0)) 5 (get_or (loaded_words l) 2 0) in
          get_or-set_other (set three 6 e) word 6 value 0 (omega arith) ∙ get_or-set_same three 6 e 0 (omega (arith, five.1.1.0.eight));
    })

-- a write keeps what is planned on its line
line_more : (e : ℕ) (l : LineState) (ss : List Store) (word value : ℕ) → word < 3 → IsRecoverable e l → IsLinePlanned e l ss → IsLinePlanned e l (ss ++ write_of e l (not (no_stores ss)) word value)
line_more e l [] word value lt kept planned = elim (eqb_tells (loaded l 6) e) [
  | inl h ↦
      let tagged : tag_of (loaded_words l) ≡ e = sym (loaded-whole e l 6 kept (lit< tt)) ∙ h.1 in
      subst (λ (b : Bool). IsLinePlanned e l (if b || false then store_to word value ∷ [] else store_to 3 (loaded l 0) ∷ store_to 4 (loaded l 1) ∷ store_to 5 (loaded l 2) ∷ store_to 6 e ∷ store_to word value ∷ [])) (sym h.0)
      (one_more e l [] word value lt kept planned tagged)
  | inr h ↦
      subst (λ (b : Bool). IsLinePlanned e l (if b || false then store_to word value ∷ [] else store_to 3 (loaded l 0) ∷ store_to 4 (loaded l 1) ∷ store_to 5 (loaded l 2) ∷ store_to 6 e ∷ store_to word value ∷ [])) (sym h.0)
      (five_first e l word value lt kept h.1)
]
line_more e l (s ∷ ss) word value lt kept planned =
    let one : write_of e l true word value ≡ store_to word value ∷ [] = elim (eqb_tells (loaded l 6) e) [ inl h ↦ grind (arith, common_steps) | inr h ↦ grind (arith, common_steps) ] in
    rw one (one_more e l (s ∷ ss) word value lt kept planned (planned.tagged refl))

-- a write keeps what is planned on each line
lines_more : (e : ℕ) (bank : BankState) (i : ℕ) (ps : List PlannedStore) (word value : ℕ) → i < length bank.lines → word < 3
    → ((j : ℕ) → j < length bank.lines → IsRecoverable e (line_at bank.lines j)) → ((j : ℕ) → j < length bank.lines → IsLinePlanned e (line_at bank.lines j) (stores_on j ps))
    → (j : ℕ) → j < length bank.lines → IsLinePlanned e (line_at bank.lines j) (stores_on j (ps ++ write_stores e (bank_load bank) ps (write i word value)))
lines_more e bank i ps word value within lt kept planned j here =
    let l : LineState = line_at bank.lines i in
    let ts : List Store = write_of e l (not (no_stores (stores_on i ps))) word value in
    let are : write_stores e (bank_load bank) ps (write i word value) ≡ on_line i ts = write_stores-on_line e bank ps i word value ∙ ap (λ (b : Bool). on_line i (write_of e l b word value)) (touches-stores_on i ps) in
    let both : stores_on j (ps ++ on_line i ts) ≡ stores_on j ps ++ (if i == j then ts else []) = stores_on-append j ps (on_line i ts) ∙ ap (λ (xs : List Store). stores_on j ps ++ xs) (stores_on-on_line i j ts) in
    subst (λ (qs : List PlannedStore). IsLinePlanned e (line_at bank.lines j) (stores_on j (ps ++ qs))) (sym are)
    (elim (eqb_tells i j) [
      | inl h ↦
          let on : stores_on i (ps ++ on_line i ts) ≡ stores_on i ps ++ ts = stores_on-append i ps (on_line i ts) ∙ ap (λ (xs : List Store). stores_on i ps ++ xs) (stores_on-on_line i i ts ∙ ap (λ (b : Bool). if b then ts else []) (eq-eqb i i refl)) in
          subst (λ (k : ℕ). IsLinePlanned e (line_at bank.lines k) (stores_on k (ps ++ on_line i ts))) h.1
          (subst (λ (xs : List Store). IsLinePlanned e l xs) (sym on) (line_more e l (stores_on i ps) word value lt (kept i within) (planned i within)))
      | inr h ↦
          let on : stores_on j (ps ++ on_line i ts) ≡ stores_on j ps = both ∙ ap (λ (b : Bool). stores_on j ps ++ (if b then ts else [])) h.0 ∙ append-nil (stores_on j ps) in
          subst (λ (xs : List Store). IsLinePlanned e (line_at bank.lines j) xs) (sym on) (planned j here)
    ])

-- places of two plans
in_range-append : (lines : List LineState) (ps qs : List PlannedStore) → AreStoresWithin (length lines) ps → AreStoresWithin (length lines) qs → AreStoresWithin (length lines) (ps ++ qs)
in_range-append lines [] qs a b = b
in_range-append lines (p ∷ ps) qs a b = (a.0, a.1, in_range-append lines ps qs a.2 b)

-- the stores of a write are to words of its line
in_range-write : (e : ℕ) (bank : BankState) (i : ℕ) (ps : List PlannedStore) (word value : ℕ) → i < length bank.lines → word < 3 → AreStoresWithin (length bank.lines) (write_stores e (bank_load bank) ps (write i word value))
in_range-write e bank i ps word value within lt = go ((bank_load bank i 6 == e) || touches i ps)
  where
    last : AreStoresWithin (length bank.lines) (store i word value ∷ [])
    last = (within, omega arith, tt)

    go : (b : Bool) → AreStoresWithin (length bank.lines) (if b then store i word value ∷ [] else store i 3 (bank_load bank i 0) ∷ store i 4 (bank_load bank i 1) ∷ store i 5 (bank_load bank i 2) ∷ store i 6 e ∷ store i word value ∷ [])
    go true = last
    go false = (within, lit< tt, (within, lit< tt, (within, lit< tt, (within, lit< tt, last))))

-- a running cell is kept
pub running_kept : (state : CellState) (l : LineState) → IsRunning state → IsCellIn state l → IsRecoverable (epoch_of state) l
running_kept (Torn e) l running holds = absurd running
running_kept (Running e) l running holds = holds.kept
running_kept (Closing e) l running holds = absurd running
running_kept (Saved e) l running holds = absurd running

-- a write keeps the plan
pub planned_more : (b : CellBankState) (i : ℕ) (ps : List PlannedStore) (word value : ℕ) → IsCellBank b → IsRunning b.state → i < length b.bank.lines → word < 3
    → IsPlanned (epoch_of b.state) b.bank.lines ps → IsPlanned (epoch_of b.state) b.bank.lines (ps ++ write_stores (epoch_of b.state) (bank_load b.bank) ps (write i word value))
planned_more b i ps word value cells running within lt planned = record {
  places = in_range-append b.bank.lines ps (write_stores (epoch_of b.state) (bank_load b.bank) ps (write i word value)) planned.places (in_range-write (epoch_of b.state) b.bank i ps word value within lt);
  safe = lines_more (epoch_of b.state) b.bank i ps word value within lt (λ j h. running_kept b.state (line_at b.bank.lines j) running (cells.cells j h)) planned.safe;
}
