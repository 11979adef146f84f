-- Balances as a list: of new accounts, behind a transfer, and behind what a cut left.
use Rattle.std.proofs.Common.{◌≡◌, ◌≢◌, ℕ, ◌+◌, ◌-◌, ◌<◌, ◌≤◌, List, [], ◌∷◌, length, map, slice_index, get_or, set, sum, refl, ap, sym, ◌∙◌, arith, inl, inr, length-set, get_or-set_other}
use Rattle.std.proofs.lemmas.List.Sums.{sum_by-set}
use Rattle.room_model.specs.declared.write.Write.{Write}
use Rattle.room_model.specs.Writes.{write}
use Rattle.epoch_cells.specs.Cells.{EpochCellsState, AreEpochCells, cell_count, records, saved_records, after_writes, column}
use Rattle.epoch_cells.specs.Laws.{CutLaw, ColumnCountLaw, ColumnWritesLaw}
use Rattle.account_store.specs.Accounts.{IsAccountStore, balances, moved, account_record}
use Rattle.account_store.specs.Laws.{AccountsCutLaw}

-- the balances of new accounts
pub new_balances : (first : List ℕ) → column 0 (map account_record first) ≡ first
new_balances [] = refl
new_balances (b ∷ bs) = ap (λ (rest : List ℕ). b ∷ rest) (new_balances bs)

-- a transfer leaves the sum of all balances
same_sum : (bs : List ℕ) (from to amount : ℕ) → from < length bs → to < length bs → from ≢ to → amount ≤ slice_index bs from → sum (moved bs from to amount) ≡ sum bs
same_sum bs from to amount within_from within_to two enough =
    let less = slice_index bs from - amount in
    let more = slice_index bs to + amount in
    let taken = sum_by-set (λ (x : ℕ). x) bs from less 0 within_from in
    let many = length-set bs from less in
    let within : to < length (set bs from less) = omega (arith, many) in
    let given = sum_by-set (λ (x : ℕ). x) (set bs from less) to more 0 within in
    let other : get_or (set bs from less) to 0 ≡ get_or bs to 0 = get_or-set_other bs from to less 0 (λ is. two (sym is)) in
    omega (arith, taken, given, other, enough)

-- this amount may be moved
pub record MayMove (s : EpochCellsState) (from to amount : ℕ) : Type 0 where
  pub from_is : from < cell_count s
  pub to_is : to < cell_count s
  pub two : from ≢ to
  pub enough : amount ≤ slice_index (balances s) from

-- the writes of a transfer of this amount
pub record AreOfTransfer (s : EpochCellsState) (from to amount : ℕ) (xs : List Write) : Type 0 where
  pub less : ℕ
  pub more : ℕ
  pub less_is : less ≡ slice_index (balances s) from - amount
  pub more_is : more ≡ slice_index (balances s) to + amount
  pub are : xs ≡ write from 0 less ∷ write to 0 more ∷ []

-- the balances behind them
transferred : ColumnWritesLaw → (s : EpochCellsState) (from to amount : ℕ) (xs : List Write) → MayMove s from to amount → AreOfTransfer s from to amount xs → column 0 (after_writes (records s) xs) ≡ moved (balances s) from to amount
transferred law s from to amount xs may writes =
    let from_is = may.from_is in
    let to_is = may.to_is in
    ap (λ (ws : List Write). column 0 (after_writes (records s) ws)) writes.are
    ∙ law s (write from 0 writes.less ∷ write to 0 writes.more ∷ []) 0 (from_is, omega arith, (to_is, omega arith, tt)) (omega arith)
    ∙ ap (λ (x : ℕ). set (set (balances s) from x) to writes.more) writes.less_is ∙ ap (λ (x : ℕ). set (set (balances s) from (slice_index (balances s) from - amount)) to x) writes.more_is

-- a transfer that was begun leaves a store
pub begun : ColumnCountLaw → ColumnWritesLaw → (s n : EpochCellsState) (from to amount : ℕ) (xs : List Write) → IsAccountStore s → MayMove s from to amount → AreOfTransfer s from to amount xs
    → AreEpochCells n → records n ≡ after_writes (records s) xs → saved_records n ≡ saved_records s → IsAccountStore n
begun count law s n from to amount xs is may writes cells written saved =
    let many = count s 0 in
    let from_is = may.from_is in
    let to_is = may.to_is in
    let moves = ap (column 0) written ∙ transferred law s from to amount xs may writes in
    record {
      cells = cells;
      same_sum = ap (λ (rs : List (List ℕ)). sum (column 0 rs)) saved ∙ is.same_sum
          ∙ sym (ap (λ (bs : List ℕ). sum bs) moves ∙ same_sum (balances s) from to amount (omega (arith, many, from_is)) (omega (arith, many, to_is)) may.two may.enough);
    }

-- what a cut leaves
pub accounts_cut : CutLaw → AccountsCutLaw
accounts_cut law s choice kept is =
    let left = law s choice kept is.cells in
    elim left.state [
      | inl last ↦
          let bs_are = ap (column 0) last in
          record { lawful = left.lawful; state = inl bs_are; same_sum = ap (λ (bs : List ℕ). sum bs) bs_are ∙ is.same_sum }
      | inr next ↦
          let bs_are = ap (column 0) next.1 in
          record { lawful = left.lawful; state = inr (next.0, bs_are); same_sum = ap (λ (bs : List ℕ). sum bs) bs_are }
    ]
