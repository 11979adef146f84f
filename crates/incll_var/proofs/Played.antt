-- One store of a plan is made.
use Rattle.std.proofs.Common.{true, ◌++◌, ◌≡◌, ℕ, ◌<◌, ◌≤◌, Bool, List, [], ◌∷◌, length, set, arith, refl, ap, sym, ◌∙◌, subst, inl, inr, get_or-set_same, get_or-set_other, length-set, if◌then◌else◌}
use Rattle.std.proofs.lemmas.Bool.Decides.{eqb_tells}
use Rattle.line_memory.specs.Line.{LineState, BankState, AreLines, applied, loaded_words, line_at, is_pending, stored, store_to, no_line, bank_stored}
use Rattle.line_memory.specs.declared.store.Store.{Store}
use Rattle.line_memory.proofs.Survivors.{whole-stored}
use Rattle.room_model.specs.declared.write.PlannedStore.{PlannedStore}
use Rattle.room_model.specs.Cell.{tag_of, triple_of, IsRecoverable}
use Rattle.room_model.specs.Writes.{AreStoresWithin}
use Rattle.incll_var.specs.declared.restore.RestoreEvent.{RestoreEvent}
use Rattle.incll_var.specs.declared.state.CellState.{CellState}
use Rattle.incll_var.specs.declared.state.CellState.TheVariants.{Torn, Running, Closing, Saved}
use Rattle.incll_var.specs.Plans.{AreSafe, IsLinePlanned, IsPlanned, HasPlacesFor, stores_on}
use Rattle.incll_var.specs.Cells.{CellBankState, IsCellIn, IsTodo, IsStoredIn, IsCellBank, IsRunning, epoch_of}
use Rattle.flush_list.specs.Lists.{listed_behind}
use Rattle.std.proofs.lemmas.List.{length-append}
use Rattle.std.proofs.lemmas.Bool.{lt-ltb}
use Rattle.incll_var.proofs.Stored.{stored_behind}
use Rattle.incll_var.proofs.Safety.{kept-stored}
use Rattle.incll_var.proofs.Planned.{running_kept}

-- the lines behind the store
abbrev played_on : List LineState → PlannedStore → List LineState
played_on lines p = set lines p.line (stored (line_at lines p.line) p.word p.value)

-- the first of a line's planned stores keeps the line, and leaves the others planned
line_played : (e : ℕ) (l : LineState) (word value : ℕ) (ss : List Store) → IsLinePlanned e l (store_to word value ∷ ss) → IsRecoverable e l
    → IsRecoverable e (stored l word value) × IsLinePlanned e (stored l word value) ss
line_played e l word value ss planned kept =
    let words : loaded_words (stored l word value) ≡ set (loaded_words l) word value = whole-stored l word value in (
      kept-stored e l word value kept planned.safe.0,
      record {
        safe = subst (λ (ws : List ℕ). AreSafe e (triple_of e l.base) ws ss) (sym words) planned.safe.1;
        tagged = λ h. ap (λ (ws : List ℕ). tag_of (applied ws ss)) words ∙ planned.tagged refl;
      },
    )

-- what a line is behind the store
record IsPlayed (e : ℕ) (old l : LineState) (ss : List Store) : Type 0 where
  kept : IsRecoverable e l
  planned : IsLinePlanned e l ss
  asked : l.asked ≡ old.asked
  room : length ss ≤ l.spare

-- each line behind the store
lines_played : (e : ℕ) (lines : List LineState) (p : PlannedStore) (ps : List PlannedStore) → p.line < length lines → ((i : ℕ) → i < length lines → IsLinePlanned e (line_at lines i) (stores_on i (p ∷ ps)))
    → HasPlacesFor lines (p ∷ ps) → ((i : ℕ) → i < length lines → IsRecoverable e (line_at lines i))
    → (i : ℕ) → i < length lines → IsPlayed e (line_at lines i) (line_at (played_on lines p) i) (stores_on i ps)
lines_played e lines p ps within planned room kept i lt = elim (eqb_tells p.line i) [
  | inl h ↦
      let on : stores_on i (p ∷ ps) ≡ store_to p.word p.value ∷ stores_on i ps = ap (λ (b : Bool). if b then store_to p.word p.value ∷ stores_on i ps else stores_on i ps) h.0 in
      let here : line_at (played_on lines p) i ≡ stored (line_at lines i) p.word p.value = subst (λ (j : ℕ). line_at (played_on lines p) j ≡ stored (line_at lines j) p.word p.value) h.1 (get_or-set_same lines p.line (stored (line_at lines p.line) p.word p.value) no_line within) in
      let both = line_played e (line_at lines i) p.word p.value (stores_on i ps) (subst (λ (ss : List Store). IsLinePlanned e (line_at lines i) ss) on (planned i lt)) (kept i lt) in
      let fits : length (store_to p.word p.value ∷ stores_on i ps) ≤ (line_at lines i).spare = subst (λ (ss : List Store). length ss ≤ (line_at lines i).spare) on (room i lt) in
      subst (λ (l : LineState). IsPlayed e (line_at lines i) l (stores_on i ps)) (sym here) (record { kept = both.0; planned = both.1; asked = refl; room = omega (arith, fits) })
  | inr h ↦
      let on : stores_on i (p ∷ ps) ≡ stores_on i ps = ap (λ (b : Bool). if b then store_to p.word p.value ∷ stores_on i ps else stores_on i ps) h.0 in
      let there : line_at (played_on lines p) i ≡ line_at lines i = get_or-set_other lines p.line i (stored (line_at lines p.line) p.word p.value) no_line (λ q. h.1 (sym q)) in
      subst (λ (l : LineState). IsPlayed e (line_at lines i) l (stores_on i ps)) (sym there) (record {
        kept = kept i lt;
        planned = subst (λ (ss : List Store). IsLinePlanned e (line_at lines i) ss) on (planned i lt);
        asked = refl;
        room = subst (λ (ss : List Store). length ss ≤ (line_at lines i).spare) on (room i lt);
      })
]

-- the cells stay as the state has them
cell_played : (state : CellState) (old l : LineState) (ss : List Store) → IsRunning state → IsCellIn state old → IsPlayed (epoch_of state) old l ss → IsCellIn state l
cell_played (Torn e) old l ss running holds h = absurd running
cell_played (Running e) old l ss running holds h = record { kept = h.kept; asked = h.asked ∙ holds.asked }
cell_played (Closing e) old l ss running holds h = absurd running
cell_played (Saved e) old l ss running holds h = absurd running

-- places stay
in_range-played : (lines : List LineState) (p : PlannedStore) (ps : List PlannedStore) → AreStoresWithin (length lines) ps → AreStoresWithin (length (played_on lines p)) ps
in_range-played lines p [] h = tt
in_range-played lines p (q ∷ qs) h = (rw length-set h.0, h.1, in_range-played lines p qs h.2)

-- nothing is to be restored where the cells run, whatever their lines become
pub running_todo : (state : CellState) (lines lines' : List LineState) (todo : List RestoreEvent) → IsRunning state → IsTodo state lines todo → IsTodo state lines' todo
running_todo (Torn e) lines lines' todo running h = absurd running
running_todo (Running e) lines lines' todo running h = h
running_todo (Closing e) lines lines' todo running h = absurd running
running_todo (Saved e) lines lines' todo running h = absurd running

pub stored_pending : (l : LineState) (word value : ℕ) → is_pending (stored l word value) ≡ true
stored_pending l word value = let more = length-append l.pending (store_to word value ∷ []) in lt-ltb 0 (length (l.pending ++ store_to word value ∷ [])) (omega (arith, more))

-- the line of the store is among those that were stored to
played_stored : (state : CellState) (lines : List LineState) (listed : List ℕ) (p : PlannedStore) → IsRunning state → p.line < length lines → IsStoredIn state lines listed
    → IsStoredIn state (played_on lines p) (listed_behind listed p.line)
played_stored (Torn e) lines listed p running lt h = absurd running
played_stored (Running e) lines listed p running lt h = stored_behind lines listed p.line (stored (line_at lines p.line) p.word p.value) h lt (stored_pending (line_at lines p.line) p.word p.value)
played_stored (Closing e) lines listed p running lt h = absurd running
played_stored (Saved e) lines listed p running lt h = absurd running

-- what cells and a plan are before a store of the plan is made
pub record CanPlay (now : CellBankState) (plan : List PlannedStore) : Type 0 where
  pub running : IsRunning now.state
  pub planned : IsPlanned (epoch_of now.state) now.bank.lines plan
  pub room : HasPlacesFor now.bank.lines plan

-- what they are behind it
pub record HasPlayed (state : CellState) (todo : List RestoreEvent) (stored : List ℕ) (bank : BankState) (plan : List PlannedStore) : Type 0 where
  pub cells : IsCellBank (record { bank = bank; state = state; todo = todo; stored = stored })
  pub planned : IsPlanned (epoch_of state) bank.lines plan
  pub room : HasPlacesFor bank.lines plan

played_law : (old : CellBankState) (p : PlannedStore) (ps : List PlannedStore) → AreLines (played_on old.bank.lines p) → IsCellBank old → CanPlay old (p ∷ ps) → HasPlayed old.state old.todo (listed_behind old.stored p.line) (bank_stored old.bank p.line p.word p.value) ps
played_law old p ps whole_lines cells can =
    let lines = old.bank.lines in
    let each : (i : ℕ) → i < length (played_on lines p) → IsPlayed (epoch_of old.state) (line_at lines i) (line_at (played_on lines p) i) (stores_on i ps) = λ i lt.
    lines_played (epoch_of old.state) lines p ps can.planned.places.0 can.planned.safe can.room (λ j h. running_kept old.state (line_at lines j) can.running (cells.cells j h)) i (simp length-set at lt) in
    record {
      cells = record {
        lines = whole_lines;
        cells = λ i lt. cell_played old.state (line_at lines i) (line_at (played_on lines p) i) (stores_on i ps) can.running (cells.cells i (simp length-set at lt)) (each i lt);
        todo = running_todo old.state lines (played_on lines p) old.todo can.running cells.todo;
        stored = played_stored old.state lines old.stored p can.running can.planned.places.0 cells.stored;
      };
      planned = record { places = in_range-played lines p ps can.planned.places.2; safe = λ i lt. (each i lt).planned };
      room = λ i lt. (each i lt).room;
    }

-- the same, for values that are equal to these
pub play_law : (old now : CellBankState) (plan : List PlannedStore) (p : PlannedStore) (ps : List PlannedStore) (bank : BankState) → old ≡ now → plan ≡ p ∷ ps → bank ≡ bank_stored old.bank p.line p.word p.value
    → AreLines bank.lines → IsCellBank old → CanPlay now plan → HasPlayed old.state old.todo (listed_behind old.stored p.line) bank ps
play_law old now plan p ps bank is front made whole_lines cells can =
    let here : CanPlay old (p ∷ ps) = subst (λ (b : CellBankState). CanPlay b (p ∷ ps)) (sym is) (subst (λ (xs : List PlannedStore). CanPlay now xs) front can) in
    subst (λ (b : BankState). HasPlayed old.state old.todo (listed_behind old.stored p.line) b ps) (sym made) (played_law old p ps (subst (λ (b : BankState). AreLines b.lines) made whole_lines) cells here)
