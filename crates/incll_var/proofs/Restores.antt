-- One event of a restore, and what more room means to a restore.
use Rattle.std.proofs.Common.{◌≡◌, ℕ, ◌+◌, zero, suc, ◌++◌, get_or, set, ◌<◌, List, [], ◌∷◌, length, map, arith, refl, subst, sym, ap, ◌∙◌, inl, inr, get_or-set_same, get_or-set_other, length-set}
use Rattle.std.proofs.lemmas.List.{length-append, length-map}
use Rattle.std.proofs.lemmas.Bool.Decides.{eqb_tells}
use Rattle.line_memory.specs.Line.{LineState, BankState, AreLines, line_at, loaded, stored, store_to, written_back, fenced, no_line}
use Rattle.room_model.specs.Cell.{triple_of, IsRecoverable}
use Rattle.incll_var.specs.declared.restore.RestoreEvent.{RestoreEvent}
use Rattle.incll_var.specs.declared.restore.RestoreEvent.TheVariants.{Restores, Asks, Fences}
use Rattle.incll_var.specs.declared.state.CellState.{CellState}
use Rattle.incll_var.specs.declared.state.CellState.TheVariants.{Torn, Running, Closing, Saved}
use Rattle.incll_var.specs.Restore.{Each, CanDo, IsQuietCell, IsRestored, IsRestoring, lines_after, bank_after, triples}
use Rattle.incll_var.specs.Cells.{CellBankState, IsCellIn, IsTodo, IsStoredIn, IsCellBank, IsTorn, MayRestore, epoch_of, AreRestored, places_of, KeepsPlaces}
use Rattle.incll_var.proofs.Behind.{same_function}
use Rattle.incll_var.proofs.Survivors.{quiet_kept}
use Rattle.incll_var.proofs.Closings.{fence_room}
use Rattle.room_model.specs.Banks.{memory_words}

-- an element of which it holds
pub each_at : {X : Type 0} (P : X → Type 0) (xs : List X) (i : ℕ) (d : X) → i < length xs → Each P xs → P (get_or xs i d)
each_at P [] i d lt h = absurd (omega arith)
each_at P (x ∷ xs) zero d lt h = h.0
each_at P (x ∷ xs) (suc i) d lt h = each_at P xs i d (omega arith) h.1

-- from each number to each element
pub each_from : {X : Type 0} (P : X → Type 0) (xs : List X) (d : X) → ((i : ℕ) → i < length xs → P (get_or xs i d)) → Each P xs
each_from P [] d h = tt
each_from P (x ∷ xs) d h = (h 0 (omega arith), each_from P xs d (λ i lt. h (suc i) (omega arith)))

pub each_append : {X : Type 0} (P : X → Type 0) (xs ys : List X) → Each P xs → Each P ys → Each P (xs ++ ys)
each_append P [] ys a b = b
each_append P (x ∷ xs) ys a b = (a.0, each_append P xs ys a.1 b)

pub each_mapped : {X Y : Type 0} (P : X → Type 0) (Q : Y → Type 0) (f : X → Y) → ((x : X) → P x → Q (f x)) → (xs : List X) → Each P xs → Each Q (map f xs)
each_mapped P Q f each [] h = tt
each_mapped P Q f each (x ∷ xs) h = (each x h.0, each_mapped P Q f each xs h.1)

pub each_weaker : {X : Type 0} (P Q : X → Type 0) → ((x : X) → P x → Q x) → (xs : List X) → Each P xs → Each Q xs
each_weaker P Q each [] h = tt
each_weaker P Q each (x ∷ xs) h = (each x h.0, each_weaker P Q each xs h.1)

-- restored cells are kept
all_kept : (m : ℕ) (lines : List LineState) → Each (IsRestored m) lines → Each (IsRecoverable m) lines
all_kept m lines h = each_weaker (IsRestored m) (IsRecoverable m) (λ l r. quiet_kept m m l (omega arith) r.quiet) lines h

-- in each state of a restore every survivor has memory's triple
pub restoring_kept : (m : ℕ) (lines : List LineState) (todo : List RestoreEvent) → IsRestoring m lines todo → Each (IsRecoverable m) lines
restoring_kept m lines [] h = all_kept m lines h
restoring_kept m lines (event ∷ events) h = h.0

-- a triple of memory, past the last line too
triple_at : (m : ℕ) (lines : List LineState) (i : ℕ) → triple_of m (line_at lines i).base ≡ get_or (triples m lines) i (triple_of m [])
triple_at m [] i = refl
triple_at m (l ∷ ls) zero = refl
triple_at m (l ∷ ls) (suc i) = triple_at m ls i

-- the same triples are the same room
pub triples_held : (m : ℕ) (given now : BankState) → triples m now.lines ≡ triples m given.lines → memory_words m now ≡ memory_words m given
triples_held m given now same = same_function (memory_words m now) (memory_words m given) (λ i w. ap (λ (t : List ℕ). get_or t w 0) (triple_at m now.lines i ∙ ap (λ (ts : List (List ℕ)). get_or ts i (triple_of m [])) same ∙ sym (triple_at m given.lines i)))

-- the same words are the same room
pub same_held : (m : ℕ) (given now : BankState) → ((i : ℕ) → (line_at now.lines i).base ≡ (line_at given.lines i).base) → memory_words m now ≡ memory_words m given
same_held m given now same = same_function (memory_words m now) (memory_words m given) (λ i w. ap (λ (ws : List ℕ). get_or (triple_of m ws) w 0) (same i))

-- a line with one more store has as much room
pub stored_room : (l : LineState) (word value : ℕ) → 0 < l.spare → places_of (stored l word value) ≡ places_of l
stored_room l word value room = let more = length-append l.pending (store_to word value ∷ []) in omega (arith, more, room)

-- no event takes room
event_room : (event : RestoreEvent) (bank : BankState) → AreLines bank.lines → CanDo event bank.lines → KeepsPlaces bank (bank_after event bank)
event_room (Restores line w) bank whole_lines can i = elim (eqb_tells i line) [
  | inl h ↦
      let l : LineState = line_at bank.lines line in
      let k : LineState = stored l w (loaded l (w + 3)) in
      let here : line_at (set bank.lines line k) i ≡ k = ap (λ (j : ℕ). line_at (set bank.lines line k) j) h.1 ∙ get_or-set_same bank.lines line k no_line can.0 in
      ap (λ (j : LineState). places_of j) here ∙ stored_room l w (loaded l (w + 3)) can.2 ∙ ap (λ (j : ℕ). places_of (line_at bank.lines j)) (sym h.1)
  | inr h ↦ ap (λ (j : LineState). places_of j) (get_or-set_other bank.lines line i (stored (line_at bank.lines line) w (loaded (line_at bank.lines line) (w + 3))) no_line h.1)
]
event_room (Asks line) bank whole_lines can i = elim (eqb_tells i line) [
  | inl h ↦
      let l : LineState = line_at bank.lines line in
      let here : line_at (set bank.lines line (written_back l)) i ≡ written_back l = ap (λ (j : ℕ). line_at (set bank.lines line (written_back l)) j) h.1 ∙ get_or-set_same bank.lines line (written_back l) no_line can in
      ap (λ (j : LineState). places_of j) here ∙ ap (λ (j : ℕ). places_of (line_at bank.lines j)) (sym h.1)
  | inr h ↦ ap (λ (j : LineState). places_of j) (get_or-set_other bank.lines line i (written_back (line_at bank.lines line)) no_line h.1)
]
event_room Fences bank whole_lines can i = fence_room bank (bank_after Fences bank) whole_lines refl i

-- no event changes the number of lines
pub event_count : (event : RestoreEvent) (bank : BankState) → length (bank_after event bank).lines ≡ length bank.lines
event_count (Restores line w) bank = length-set bank.lines line (stored (line_at bank.lines line) w (loaded (line_at bank.lines line) (w + 3)))
event_count (Asks line) bank = length-set bank.lines line (written_back (line_at bank.lines line))
event_count Fences bank = length-map bank.lines fenced

-- what holds before an event of a restore, and behind it
pub record HasDone (state : CellState) (event : RestoreEvent) (old new : BankState) (events : List RestoreEvent) : Type 0 where
  pub can : CanDo event old.lines
  pub held : memory_words (epoch_of state) new ≡ memory_words (epoch_of state) old
  pub room : KeepsPlaces old new
  pub cells : (i : ℕ) → i < length new.lines → IsCellIn state (line_at new.lines i)
  pub todo : IsTodo state new.lines events

no_more : (event : RestoreEvent) (events : List RestoreEvent) → event ∷ events ≡ [] → ⊥
no_more event events h = absurd (omega (arith, ap length h))

event_done : (state : CellState) (event : RestoreEvent) (bank : BankState) (events : List RestoreEvent) → AreLines bank.lines → MayRestore state → IsTodo state bank.lines (event ∷ events) → HasDone state event bank (bank_after event bank) events
event_done (Torn m) event bank events whole_lines may h = record {
  can = h.1;
  held = triples_held m bank (bank_after event bank) h.2;
  room = event_room event bank whole_lines h.1;
  cells = λ i lt. each_at (IsRecoverable m) (lines_after event bank.lines) i no_line lt (restoring_kept m (lines_after event bank.lines) events h.3);
  todo = h.3;
}
event_done (Running e) event bank events whole_lines may h = absurd may
event_done (Closing e) event bank events whole_lines may h = absurd may
event_done (Saved e) event bank events whole_lines may h = absurd (no_more event events h)

-- the same, for values that are equal to these
pub do_law : (b : CellBankState) (event : RestoreEvent) (bank : BankState) (events : List RestoreEvent) → MayRestore b.state → b.todo ≡ event ∷ events → bank ≡ bank_after event b.bank → IsCellBank b → HasDone b.state event b.bank bank events
do_law b event bank events may front made cells =
    subst (λ (k : BankState). HasDone b.state event b.bank k events) (sym made)
    (event_done b.state event b.bank events cells.lines may (subst (λ (es : List RestoreEvent). IsTodo b.state b.bank.lines es) front cells.todo))

-- a torn bank with nothing left to do is restored
pub ended_restored : (b : CellBankState) → b.todo ≡ [] → IsCellBank b → IsTorn b.state → AreRestored (epoch_of b.state) b.bank.lines
ended_restored b none cells torn = go b.state torn (subst (λ (es : List RestoreEvent). IsTodo b.state b.bank.lines es) none cells.todo)
  where
    go : (state : CellState) → IsTorn state → IsTodo state b.bank.lines [] → AreRestored (epoch_of state) b.bank.lines
    go (Torn e) torn h = λ i lt. each_at (IsRestored e) b.bank.lines i no_line lt h
    go (Running e) torn h = absurd torn
    go (Closing e) torn h = absurd torn
    go (Saved e) torn h = absurd torn

-- no line was stored to where a restore may go on
pub none_stored_to : (state : CellState) (lines : List LineState) (stored : List ℕ) → MayRestore state → IsStoredIn state lines stored → stored ≡ []
none_stored_to (Torn e) lines stored may h = h
none_stored_to (Running e) lines stored may h = absurd may
none_stored_to (Closing e) lines stored may h = absurd may
none_stored_to (Saved e) lines stored may h = h

pub restoring_stored : (state : CellState) (lines lines' : List LineState) (stored : List ℕ) → MayRestore state → IsStoredIn state lines stored → IsStoredIn state lines' stored
restoring_stored (Torn e) lines lines' stored may h = h
restoring_stored (Running e) lines lines' stored may h = absurd may
restoring_stored (Closing e) lines lines' stored may h = absurd may
restoring_stored (Saved e) lines lines' stored may h = h
