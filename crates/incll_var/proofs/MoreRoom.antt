-- Room for stores: where only the room of lines grows, cells, plans and restores stay what they are.
use Rattle.std.proofs.Common.{nat_lt, ◌≡◌, ℕ, ◌+◌, ◌<◌, ◌≤◌, ◌==◌, Bool, true, false, zero, suc, List, [], ◌∷◌, length, map, set, arith, ap, refl, sym, ◌∙◌, subst, inl, inr, if◌then◌else◌, get_or-set_same, get_or-set_other, length-set}
use Rattle.std.proofs.lemmas.Bool.Decides.{eqb_tells}
use Rattle.line_memory.specs.Line.{LineState, BankState, AreLines, HasSameWords, is_pending, is_unasked, line_at, loaded, stored, store_to, written_back, fenced, with_spare, no_line, bank_with_spare}
use Rattle.line_memory.specs.declared.store.Store.{Store}
use Rattle.room_model.specs.declared.write.PlannedStore.{PlannedStore}
use Rattle.room_model.specs.Cell.{triple_of, IsRecoverable}
use Rattle.room_model.specs.Writes.{AreStoresWithin}
use Rattle.incll_var.specs.declared.restore.RestoreEvent.{RestoreEvent}
use Rattle.incll_var.specs.declared.restore.RestoreEvent.TheVariants.{Restores, Asks, Fences}
use Rattle.incll_var.specs.declared.state.CellState.{CellState}
use Rattle.incll_var.specs.declared.state.CellState.TheVariants.{Torn, Running, Closing, Saved}
use Rattle.incll_var.specs.Restore.{Each, CanDo, IsQuietCell, IsRestored, IsRestoring, lines_after, triples}
use Rattle.incll_var.specs.Plans.{IsLinePlanned, IsPlanned, HasPlacesFor, stores_on, line_in}
use Rattle.incll_var.specs.Cells.{CellBankState, IsCellIn, IsClosingCell, IsTodo, IsStoredIn, IsCellBank, HasSameCells}
use Rattle.incll_var.proofs.Stored.{stored_alike, written_alike}
use Rattle.incll_var.specs.Laws.{NoPlanLaw, OneLinePlacesLaw}

-- a line with the same words is the line, but for its room
same_line : (l k : LineState) → HasSameWords l k → k ≡ with_spare l k.spare
same_line l k h = λ j. record { base = h.base j; pending = h.pending j; asked = h.asked j; spare = k.spare }

same_cell : (state : CellState) (l k : LineState) → HasSameWords l k → IsCellIn state l → IsCellIn state k
same_cell (Torn e) l k h cell = subst (IsRecoverable e) (sym (same_line l k h)) cell
same_cell (Running e) l k h cell = record { kept = subst (IsRecoverable e) (sym (same_line l k h)) cell.kept; asked = h.asked ∙ cell.asked }
same_cell (Closing e) l k h cell = subst (IsClosingCell e) (sym (same_line l k h)) (record { kept = cell.kept; asked = cell.asked })
same_cell (Saved e) l k h cell = subst (IsQuietCell e) (sym (same_line l k h)) (record { eight = cell.eight; tag = cell.tag; pending = cell.pending; asked = cell.asked })

-- lines that differ in their room alone
abbrev AreAlike : List LineState → List LineState → Type 0
AreAlike [] [] = Unit {0}
AreAlike [] (k ∷ ks) = ⊥
AreAlike (l ∷ ls) [] = ⊥
AreAlike (l ∷ ls) (k ∷ ks) = HasSameWords l k × AreAlike ls ks

alike : (ls ks : List LineState) → length ks ≡ length ls → ((i : ℕ) → HasSameWords (line_at ls i) (line_at ks i)) → AreAlike ls ks
alike [] [] count h = tt
alike [] (k ∷ ks) count h = absurd (omega (arith, count))
alike (l ∷ ls) [] count h = absurd (omega (arith, count))
alike (l ∷ ls) (k ∷ ks) count h = (h 0, alike ls ks (omega (arith, count)) (λ i. h (suc i)))

alike_count : (ls ks : List LineState) → AreAlike ls ks → length ks ≡ length ls
alike_count [] [] h = refl
alike_count [] (k ∷ ks) h = absurd h
alike_count (l ∷ ls) [] h = absurd h
alike_count (l ∷ ls) (k ∷ ks) h = let more = alike_count ls ks h.1 in omega (arith, more)

alike_at : (ls ks : List LineState) (i : ℕ) → AreAlike ls ks → HasSameWords (line_at ls i) (line_at ks i)
alike_at [] [] i h = record { base = refl; pending = refl; asked = refl; room = omega arith }
alike_at [] (k ∷ ks) i h = absurd h
alike_at (l ∷ ls) [] i h = absurd h
alike_at (l ∷ ls) (k ∷ ks) zero h = h.0
alike_at (l ∷ ls) (k ∷ ks) (suc i) h = alike_at ls ks i h.1

alike_set : (ls ks : List LineState) (i : ℕ) (l k : LineState) → AreAlike ls ks → HasSameWords l k → AreAlike (set ls i l) (set ks i k)
alike_set [] [] i l k h same = tt
alike_set [] (y ∷ ks) i l k h same = absurd h
alike_set (x ∷ ls) [] i l k h same = absurd h
alike_set (x ∷ ls) (y ∷ ks) zero l k h same = (same, h.1)
alike_set (x ∷ ls) (y ∷ ks) (suc i) l k h same = (h.0, alike_set ls ks i l k h.1 same)

alike_each : (P : LineState → Type 0) → ((l k : LineState) → HasSameWords l k → P l → P k) → (ls ks : List LineState) → AreAlike ls ks → Each P ls → Each P ks
alike_each P each [] [] h all = tt
alike_each P each [] (k ∷ ks) h all = absurd h
alike_each P each (l ∷ ls) [] h all = absurd h
alike_each P each (l ∷ ls) (k ∷ ks) h all = (each l k h.0 all.0, alike_each P each ls ks h.1 all.1)

alike_triples : (m : ℕ) (ls ks : List LineState) → AreAlike ls ks → triples m ks ≡ triples m ls
alike_triples m [] [] h = refl
alike_triples m [] (k ∷ ks) h = absurd h
alike_triples m (l ∷ ls) [] h = absurd h
alike_triples m (l ∷ ls) (k ∷ ks) h = ap (λ (ws : List ℕ). triple_of m ws ∷ triples m ks) h.0.base ∙ ap (λ (ts : List (List ℕ)). triple_of m l.base ∷ ts) (alike_triples m ls ks h.1)

-- a store and a fence of lines that are alike
same_stored : (l k : LineState) (w : ℕ) → HasSameWords l k → HasSameWords (stored l w (loaded l (w + 3))) (stored k w (loaded k (w + 3)))
same_stored l k w h = subst (λ (j : LineState). HasSameWords (stored l w (loaded l (w + 3))) (stored j w (loaded j (w + 3)))) (sym (same_line l k h)) (record { base = refl; pending = refl; asked = refl; room = let more = h.room in omega (arith, more) })

same_written : (l k : LineState) → HasSameWords l k → HasSameWords (written_back l) (written_back k)
same_written l k h = record { base = h.base; pending = h.pending; asked = ap (λ (ss : List Store). length ss) h.pending; room = h.room }

same_fenced : (l k : LineState) → HasSameWords l k → HasSameWords (fenced l) (fenced k)
same_fenced l k h = subst (λ (j : LineState). HasSameWords (fenced l) (fenced j)) (sym (same_line l k h)) (record { base = refl; pending = refl; asked = refl; room = let more = h.room in omega (arith, more) })

alike_fenced : (ls ks : List LineState) → AreAlike ls ks → AreAlike (map fenced ls) (map fenced ks)
alike_fenced [] [] h = tt
alike_fenced [] (k ∷ ks) h = absurd h
alike_fenced (l ∷ ls) [] h = absurd h
alike_fenced (l ∷ ls) (k ∷ ks) h = (same_fenced l k h.0, alike_fenced ls ks h.1)

alike_after : (event : RestoreEvent) (ls ks : List LineState) → AreAlike ls ks → AreAlike (lines_after event ls) (lines_after event ks)
alike_after (Restores i w) ls ks h = alike_set ls ks i (stored (line_at ls i) w (loaded (line_at ls i) (w + 3))) (stored (line_at ks i) w (loaded (line_at ks i) (w + 3))) h (same_stored (line_at ls i) (line_at ks i) w (alike_at ls ks i h))
alike_after (Asks i) ls ks h = alike_set ls ks i (written_back (line_at ls i)) (written_back (line_at ks i)) h (same_written (line_at ls i) (line_at ks i) (alike_at ls ks i h))
alike_after Fences ls ks h = alike_fenced ls ks h

alike_can : (event : RestoreEvent) (ls ks : List LineState) → AreAlike ls ks → CanDo event ls → CanDo event ks
alike_can (Restores i w) ls ks h can =
    let count = alike_count ls ks h in
    let within = can.0 in
    let some = can.2 in
    let more = (alike_at ls ks i h).room in
    (omega (arith, count, within), can.1, omega (arith, some, more))
alike_can (Asks i) ls ks h can = let count = alike_count ls ks h in omega (arith, count, can)
alike_can Fences ls ks h can = tt

same_kept : (m : ℕ) (l k : LineState) → HasSameWords l k → IsRecoverable m l → IsRecoverable m k
same_kept m l k h kept = subst (IsRecoverable m) (sym (same_line l k h)) kept

same_restored : (m : ℕ) (l k : LineState) → HasSameWords l k → IsRestored m l → IsRestored m k
same_restored m l k h cell = subst (IsRestored m) (sym (same_line l k h)) (record { quiet = record { eight = cell.quiet.eight; tag = cell.quiet.tag; pending = cell.quiet.pending; asked = cell.quiet.asked }; triple = cell.triple })

-- a restore goes on as before
alike_restoring : (m : ℕ) (ls ks : List LineState) (todo : List RestoreEvent) → AreAlike ls ks → IsRestoring m ls todo → IsRestoring m ks todo
alike_restoring m ls ks [] h all = alike_each (IsRestored m) (same_restored m) ls ks h all
alike_restoring m ls ks (event ∷ events) h all = (
  alike_each (IsRecoverable m) (same_kept m) ls ks h all.0,
  alike_can event ls ks h all.1,
  alike_triples m (lines_after event ls) (lines_after event ks) (alike_after event ls ks h) ∙ all.2 ∙ sym (alike_triples m ls ks h),
  alike_restoring m (lines_after event ls) (lines_after event ks) events (alike_after event ls ks h) all.3,
)

same_todo : (state : CellState) (ls ks : List LineState) (todo : List RestoreEvent) → AreAlike ls ks → IsTodo state ls todo → IsTodo state ks todo
same_todo (Torn e) ls ks todo h is = alike_restoring e ls ks todo h is
same_todo (Running e) ls ks todo h is = is
same_todo (Closing e) ls ks todo h is = is
same_todo (Saved e) ls ks todo h is = is

pending_same : (l k : LineState) → HasSameWords l k → is_pending k ≡ is_pending l
pending_same l k h = ap (λ (ss : List Store). nat_lt 0 (length ss)) h.pending

unasked_same : (l k : LineState) → HasSameWords l k → is_unasked k ≡ is_unasked l
unasked_same l k h = ap (λ (n : ℕ). nat_lt n (length k.pending)) h.asked ∙ ap (λ (ss : List Store). nat_lt l.asked (length ss)) h.pending

same_listed : (state : CellState) (ls ks : List LineState) (stored : List ℕ) → ((i : ℕ) → HasSameWords (line_at ls i) (line_at ks i)) → IsStoredIn state ls stored → IsStoredIn state ks stored
same_listed (Torn e) ls ks stored h is = is
same_listed (Running e) ls ks stored h is = stored_alike ls ks stored (λ i. pending_same (line_at ls i) (line_at ks i) (h i)) is
same_listed (Closing e) ls ks stored h is = (
  stored_alike ls ks stored (λ i. pending_same (line_at ls i) (line_at ks i) (h i)) is.0,
  (is.1.0, written_alike is.1.0 ls ks stored (λ i. unasked_same (line_at ls i) (line_at ks i) (h i)) is.1.1),
)
same_listed (Saved e) ls ks stored h is = is

-- a bank of cells stays one
pub same_cells : (b : CellBankState) (bank : BankState) → HasSameCells b.bank bank → AreLines bank.lines → IsCellBank b → IsCellBank (record b { bank = bank })
same_cells b bank same whole_lines cells = record {
  lines = whole_lines;
  cells = λ i lt. let count = same.count in same_cell b.state (line_at b.bank.lines i) (line_at bank.lines i) (same.lines i) (cells.cells i (omega (arith, count, lt)));
  todo = same_todo b.state b.bank.lines bank.lines b.todo (alike b.bank.lines bank.lines same.count same.lines) cells.todo;
  stored = same_listed b.state b.bank.lines bank.lines b.stored same.lines cells.stored;
}

-- a plan stays one
same_places : (ls ks : List LineState) (ss : List PlannedStore) → length ks ≡ length ls → AreStoresWithin (length ls) ss → AreStoresWithin (length ks) ss
same_places ls ks [] count h = tt
same_places ls ks (s ∷ ss) count h = (let a = h.0 in omega (arith, count, a), h.1, same_places ls ks ss count h.2)

pub same_planned : (e : ℕ) (old new : BankState) (ss : List PlannedStore) → HasSameCells old new → IsPlanned e old.lines ss → IsPlanned e new.lines ss
same_planned e old new ss same planned = record {
  places = same_places old.lines new.lines ss same.count planned.places;
  safe = λ i lt.
      let count = same.count in
      let was = planned.safe i (omega (arith, count, lt)) in
      subst (λ (l : LineState). IsLinePlanned e l (stores_on i ss)) (sym (same_line (line_at old.lines i) (line_at new.lines i) (same.lines i))) (record { safe = was.safe; tagged = was.tagged });
}

-- nothing but room has changed, twice
pub same_twice : (a b c : BankState) → HasSameCells a b → HasSameCells b c → HasSameCells a c
same_twice a b c p q = record {
  write_backs = q.write_backs ∙ p.write_backs;
  count = q.count ∙ p.count;
  lines = λ i.
      let more = (p.lines i).room in
      let again = (q.lines i).room in
      record { base = (q.lines i).base ∙ (p.lines i).base; pending = (q.lines i).pending ∙ (p.lines i).pending; asked = (q.lines i).asked ∙ (p.lines i).asked; room = omega (arith, more, again) };
}

pub same_self : (bank : BankState) → HasSameCells bank bank
same_self bank = record { write_backs = refl; count = refl; lines = λ i. record { base = refl; pending = refl; asked = refl; room = omega arith } }

-- room on one line
pub spare_same : (old new : BankState) (line spare : ℕ) → line < length old.lines → (line_at old.lines line).spare ≤ spare → new ≡ bank_with_spare old line spare → HasSameCells old new
spare_same old new line spare within more made = subst (HasSameCells old) (sym made) (record {
  write_backs = refl;
  count = length-set old.lines line (with_spare (line_at old.lines line) spare);
  lines = λ i. elim (eqb_tells i line) [
    | inl h ↦
        let l : LineState = line_at old.lines line in
        let here : line_at (set old.lines line (with_spare l spare)) i ≡ with_spare l spare = ap (λ (k : ℕ). line_at (set old.lines line (with_spare l spare)) k) h.1 ∙ get_or-set_same old.lines line (with_spare l spare) no_line within in
        subst (λ (k : ℕ). HasSameWords (line_at old.lines k) (line_at (set old.lines line (with_spare l spare)) i)) (sym h.1)
        (subst (HasSameWords l) (sym here) (record { base = refl; pending = refl; asked = refl; room = more }))
    | inr h ↦
        subst (HasSameWords (line_at old.lines i)) (sym (get_or-set_other old.lines line i (with_spare (line_at old.lines line) spare) no_line h.1)) (record { base = refl; pending = refl; asked = refl; room = omega arith })
  ];
})

-- no line has more of a plan's stores than the plan
fewer : (i : ℕ) (ps : List PlannedStore) → length (stores_on i ps) ≤ length ps
fewer i [] = omega arith
fewer i (p ∷ ps) = let rest = fewer i ps in go (p.line == i) rest
  where
    go : (b : Bool) → length (stores_on i ps) ≤ length ps → length (if b then store_to p.word p.value ∷ stores_on i ps else stores_on i ps) ≤ length (p ∷ ps)
    go true rest = omega (arith, rest)
    go false rest = omega (arith, rest)

-- where the line of each store has room for n stores, there is room for n stores
pub room_for : (n : ℕ) (lines : List LineState) (ps : List PlannedStore) → length ps ≤ n → ((k : ℕ) → k < length ps → n ≤ (line_at lines (line_in ps k)).spare) → HasPlacesFor lines ps
room_for n lines ps fits room i lt = short ps n room fits
  where
    short : (ps : List PlannedStore) (n : ℕ) → ((k : ℕ) → k < length ps → n ≤ (line_at lines (line_in ps k)).spare) → length ps ≤ n → length (stores_on i ps) ≤ (line_at lines i).spare
    short [] n room fits = omega arith
    short (p ∷ ps) n room fits = elim (eqb_tells p.line i) [
      | inl h ↦
          let all = fewer i (p ∷ ps) in
          let here : n ≤ (line_at lines i).spare = subst (λ (k : ℕ). n ≤ (line_at lines k).spare) h.1 (room 0 (omega arith)) in
          omega (arith, all, here, fits)
      | inr h ↦
          let rest = short ps n (λ k more. room (suc k) (omega arith)) (omega (arith, fits)) in
          let same : length (stores_on i (p ∷ ps)) ≡ length (stores_on i ps) = ap (λ (b : Bool). length (if b then store_to p.word p.value ∷ stores_on i ps else stores_on i ps)) h.0 in
          omega (arith, rest, same)
    ]

-- the line of a store of a plan in range
pub line_in-within : (lines : List LineState) (ps : List PlannedStore) (k : ℕ) → AreStoresWithin (length lines) ps → k < length ps → line_in ps k < length lines
line_in-within lines [] k places lt = absurd (omega arith)
line_in-within lines (p ∷ ps) zero places lt = places.0
line_in-within lines (p ∷ ps) (suc k) places lt = line_in-within lines ps k places.2 (omega arith)

-- a test as a fact
abbrev Holds : Bool → Type 0
Holds true = Unit {0}
Holds false = ⊥

pub no_plan : NoPlanLaw
no_plan epoch lines = (record { places = tt; safe = λ i lt. record { safe = tt; tagged = λ h. absurd (subst Holds h tt) } }, λ i lt. omega arith)

pub one_line_room : OneLinePlacesLaw
one_line_room lines ss one fits i lt =
    let all = fewer i ss in
    let first : i ≡ 0 = omega (arith, one, lt) in
    let here : length ss ≤ (line_at lines i).spare = subst (λ (k : ℕ). length ss ≤ (line_at lines k).spare) (sym first) fits in
    omega (arith, all, here)
