-- The list that a bank keeps of the lines that were stored to, behind each of its calls.
use Rattle.std.proofs.Common.{◌≡◌, ℕ, ◌+◌, ◌-◌, ◌<◌, ◌≤◌, Bool, true, false, nat_lt, List, [], ◌∷◌, ◌++◌, length, map, take, arith, refl, ap, sym, ◌∙◌, subst, if◌then◌else◌, count_by, set, get_or, Some, slice_get, inl, inr, get_or-set_same, get_or-set_other, length-set, add-one}
use Rattle.std.proofs.lemmas.List.{get_or_past, length-append, length-map, get_or-map}
use Rattle.std.proofs.lemmas.List.Sums.{count_by-le-length, count_by_more_yes, count_by_more_no}
use Rattle.std.proofs.lemmas.Option.{get_or_from_slice_get}
use Rattle.room_model.specs.declared.write.PlannedStore.{PlannedStore}
use Rattle.incll_var.specs.declared.state.CellState.{CellState}
use Rattle.incll_var.specs.declared.state.CellState.TheVariants.{Torn, Running, Closing, Saved}
use Rattle.incll_var.specs.Plans.{HasPlacesFor, stores_on}
use Rattle.std.proofs.lemmas.Bool.{eq-eqb, cases_lt, lt-ltb, ltb-true}
use Rattle.std.proofs.lemmas.Bool.Decides.{eqb_tells}
use Rattle.flush_list.specs.Lists.{FlushListState, is_listed, listed_behind, marked, passed, cleared, unmarked}
use Rattle.line_memory.specs.Line.{LineState, BankState, bank_written_back, AreLines, line_at, no_line, is_unasked, unasked, stored, written_back, fenced, with_spare, store_to}
use Rattle.incll_var.specs.Cells.{CellBankState, IsCellIn, IsCellBank, IsStoredIn, IsClosing, IsRunning, WritesOneBack, next_in, places_of}
use Rattle.incll_var.specs.Stored.{AreStored, AreWritten, KeepsList, first_unasked, has_places}
use Rattle.incll_var.proofs.Restores.{stored_room}
use Rattle.incll_var.proofs.Closings.{line_room, next_law, next_fewer, closing_stored, none_asked_at}
use Rattle.incll_var.proofs.Counts.{counted_kept, counted_most, counted_at_most, counted_alike}
use Rattle.incll_var.proofs.Stored.{marked_lines, open_written, open_given, written_alike, next_is, written_next, some_left, none_left, place_left}

placed_alike : (l k : LineState) → places_of k ≡ places_of l → has_places k ≡ has_places l
placed_alike l k same = ap (λ (n : ℕ). nat_lt 0 n) same

-- a mark changes nothing of what was given, and takes a place for a line that joins
marked_given : (f : FlushListState) (line : ℕ) → (marked f line).given ≡ f.given
marked_given f line = by (is_listed f.lines line)
  where
    by : (b : Bool) → (if b then f else record f { lines = f.lines ++ line ∷ []; spare = f.spare - 1 }).given ≡ f.given
    by true = refl
    by false = refl

marked_places : (f : FlushListState) (line : ℕ) → (is_listed f.lines line ≡ false → 0 < f.spare) → (length (marked f line).lines + (marked f line).spare ≡ length f.lines + f.spare) × (length f.lines ≤ length (marked f line).lines)
marked_places f line some = by (is_listed f.lines line) some
  where
    Fits : FlushListState → Type 0
    Fits g = (length g.lines + g.spare ≡ length f.lines + f.spare) × (length f.lines ≤ length g.lines)

    by : (b : Bool) → (b ≡ false → 0 < f.spare) → Fits (if b then f else record f { lines = f.lines ++ line ∷ []; spare = f.spare - 1 })
    by true some = (refl, omega arith)
    by false some =
        let more = length-append f.lines (line ∷ []) in
        let one = some refl in
        (omega (arith, more, one), omega (arith, more))

-- behind a store
pub list_played : (lines : List LineState) (list : FlushListState) (line : ℕ) (k : LineState) → KeepsList lines list → (is_listed list.lines line ≡ false → 0 < list.spare)
    → ((i : ℕ) → (line_at lines i).asked ≡ 0) → ((i : ℕ) → (line_at (set lines line k) i).asked ≡ 0) → AreStored lines list.lines → AreStored (set lines line k) (listed_behind list.lines line)
    → has_places k ≡ has_places (line_at lines line) → KeepsList (set lines line k) (marked list line)
list_played lines list line k keeps some none none_now was now same =
    let open_was = open_written lines list.lines none (λ i h. sym (was.exact i) ∙ h) in
    let open_now = open_written (set lines line k) (listed_behind list.lines line) none_now (λ i h. sym (now.exact i) ∙ h) in
    let zero_given : list.given ≡ 0 = open_given list.given lines list.lines keeps.within open_was keeps.given in
    let fits = marked_places list line some in
    record {
      given =
          subst (λ (n : ℕ). AreWritten n (set lines line k) (marked list line).lines) (sym (marked_given list line ∙ zero_given))
          (subst (λ (xs : List ℕ). AreWritten 0 (set lines line k) xs) (sym (marked_lines list line)) open_now);
      within = let given = marked_given list line in let within = keeps.within in omega (arith, given, within, fits.1);
      places = let count = counted_kept has_places lines line k same in let places = keeps.places in omega (arith, count, places, fits.0);
      some = let one = keeps.some in omega (arith, one, fits.0);
    }

passed_is : (f : FlushListState) → f.given < length f.lines → passed f ≡ record f { given = f.given + 1 }
passed_is f lt = ap (λ (b : Bool). if b then record f { given = f.given + 1 } else f) (lt-ltb f.given (length f.lines) lt)

-- behind a write-back of the line that is next
pub list_written : (lines : List LineState) (list : FlushListState) → KeepsList lines list → AreStored lines list.lines → list.given < length list.lines
    → KeepsList (set lines (get_or list.lines list.given 0) (written_back (line_at lines (get_or list.lines list.given 0)))) (passed list)
list_written lines list keeps was lt =
    let x : ℕ = get_or list.lines list.given 0 in
    let within = (some_left list.given lines list.lines lt keeps.given).0 in
    let next = written_next list.given lines list.lines was.once lt within keeps.given in
    subst (KeepsList (set lines x (written_back (line_at lines x)))) (sym (passed_is list lt)) (record {
      given = subst (λ (n : ℕ). AreWritten n (set lines x (written_back (line_at lines x))) list.lines) (sym (add-one list.given)) next;
      within = omega (arith, lt);
      places = let count = counted_kept has_places lines x (written_back (line_at lines x)) refl in let places = keeps.places in omega (arith, count, places);
      some = keeps.some;
    })

-- behind a fence
pub list_cleared : (lines : List LineState) (list : FlushListState) → AreLines lines → KeepsList lines list → KeepsList (map fenced lines) (cleared list)
list_cleared lines list whole keeps = record {
  given = tt;
  within = omega arith;
  places =
      let count = counted_alike has_places lines (map fenced lines) (length-map lines fenced) (λ i. same i) in
      let places = keeps.places in omega (arith, count, places);
  some = let one = keeps.some in omega (arith, one);
}
  where
    same : (i : ℕ) → has_places (line_at (map fenced lines) i) ≡ has_places (line_at lines i)
    same i = elim (cases_lt i (length lines)) [
      | inl lt ↦
          ap (λ (l : LineState). has_places l) (get_or-map fenced lines i no_line no_line lt)
          ∙ placed_alike (line_at lines i) (fenced (line_at lines i)) (line_room (line_at lines i) (whole i lt).asked)
      | inr ge ↦ ap (λ (l : LineState). has_places l) (get_or_past (map fenced lines) i no_line (simp length-map ge) ∙ sym (get_or_past lines i no_line ge))
    ]

-- where no line was stored to, and each line has its places
pub list_kept : (ls ks : List LineState) (list : FlushListState) → list.lines ≡ [] → length ks ≡ length ls → ((i : ℕ) → places_of (line_at ks i) ≡ places_of (line_at ls i)) → KeepsList ls list → KeepsList ks list
list_kept ls ks list none count same keeps = record {
  given = subst (λ (xs : List ℕ). AreWritten list.given ks xs) (sym none) tt;
  within = keeps.within;
  places = let counts = counted_alike has_places ls ks count (λ i. placed_alike (line_at ls i) (line_at ks i) (same i)) in let places = keeps.places in omega (arith, counts, places);
  some = keeps.some;
}

-- with room for stores on a line, however much
reserved_unasked : (lines : List LineState) (line spare : ℕ) → line < length lines → (i : ℕ) → is_unasked (line_at (set lines line (with_spare (line_at lines line) spare)) i) ≡ is_unasked (line_at lines i)
reserved_unasked lines line spare lt i = elim (eqb_tells i line) [
  | inl e ↦
      subst (λ (k : ℕ). is_unasked (line_at (set lines line (with_spare (line_at lines line) spare)) k) ≡ is_unasked (line_at lines k)) (sym e.1)
      (ap (λ (l : LineState). is_unasked l) (get_or-set_same lines line (with_spare (line_at lines line) spare) no_line lt))
  | inr e ↦ ap (λ (l : LineState). is_unasked l) (get_or-set_other lines line i (with_spare (line_at lines line) spare) no_line e.1)
]

pub list_reserved : (lines : List LineState) (list new : FlushListState) (line spare : ℕ) → KeepsList lines list → line < length lines → new ≡ record list { spare = new.spare } → list.spare ≤ new.spare
    → count_by has_places (set lines line (with_spare (line_at lines line) spare)) ≤ length list.lines + new.spare → KeepsList (set lines line (with_spare (line_at lines line) spare)) new
list_reserved lines list new line spare keeps lt is more fits =
    subst (KeepsList (set lines line (with_spare (line_at lines line) spare))) (sym is) (record {
      given = written_alike list.given lines (set lines line (with_spare (line_at lines line) spare)) list.lines (reserved_unasked lines line spare lt) keeps.given;
      within = keeps.within;
      places = fits;
      some = let one = keeps.some in omega (arith, one, more);
    })

-- a place for a line that has room for stores already, for the one line of a bank, and for one more line
pub fits_already : (lines : List LineState) (list : FlushListState) (line : ℕ) (k : LineState) → KeepsList lines list → line < length lines → has_places (line_at lines line) ≡ true
    → count_by has_places (set lines line k) ≤ length list.lines + list.spare
fits_already lines list line k keeps lt has = let most = counted_at_most has_places lines line k lt has in let places = keeps.places in omega (arith, most, places)

pub fits_alone : (lines : List LineState) (list : FlushListState) (line : ℕ) (k : LineState) → KeepsList lines list → length lines ≤ 1 → count_by has_places (set lines line k) ≤ length list.lines + list.spare
fits_alone lines list line k keeps one =
    let most = count_by-le-length has_places (set lines line k) in
    let some = keeps.some in
    omega (arith, most, some, one, length-set lines line k)

pub fits_more : (lines : List LineState) (list : FlushListState) (line spare : ℕ) (k : LineState) → KeepsList lines list → list.spare < spare → count_by has_places (set lines line k) ≤ length list.lines + spare
fits_more lines list line spare k keeps more = let most = counted_most has_places lines line k in let places = keeps.places in omega (arith, most, places, more)

-- an empty list with a place for each of the first lines, and one more
pub list_made : (lines : List LineState) (spare : ℕ) → 0 < spare → count_by has_places lines ≤ spare → KeepsList lines (unmarked spare)
list_made lines spare some fits = record { given = tt; within = omega arith; places = omega (arith, fits); some = omega (arith, some) }

pub one_more_line : (lines : List LineState) (i n m : ℕ) → i < length lines → count_by has_places (take i lines) < n → n ≤ m → (has_places (line_at lines i) ≡ true → n < m) → count_by has_places (take (i + 1) lines) < m
one_more_line lines i n m lt fits more some = by (has_places (line_at lines i)) refl
  where
    by : (b : Bool) → has_places (line_at lines i) ≡ b → count_by has_places (take (i + 1) lines) < m
    by true is = let next = count_by_more_yes has_places lines i no_line lt is in let gone = some is in omega (arith, next, gone, fits)
    by false is = let next = count_by_more_no has_places lines i no_line lt is in omega (arith, next, fits, more)

-- what holds behind a write-back of the line that is next
pub record HasWritten (b : CellBankState) (bank : BankState) (list : FlushListState) : Type 0 where
  pub cells : IsCellBank (record b { bank = bank; stored = list.lines })
  pub keeps : KeepsList bank.lines list
  pub one : WritesOneBack b.bank bank
  pub first : bank ≡ bank_written_back b.bank (next_in b)
  pub fewer : unasked b.bank.lines ≡ unasked bank.lines + 1
  pub lines : list.lines ≡ b.stored
  pub more : nat_lt list.given (length list.lines) ≡ true → 0 < unasked bank.lines
  pub only : 0 < unasked bank.lines → nat_lt list.given (length list.lines) ≡ true

-- a line is next
pub given_left : (lines : List LineState) (list : FlushListState) → KeepsList lines list → AreStored lines list.lines → 0 < unasked lines → list.given < length list.lines
given_left lines list keeps was some = elim (cases_lt list.given (length list.lines)) [
  | inl lt ↦ lt
  | inr ge ↦ let none = none_left list.given lines list.lines was ge keeps.given in absurd (omega (arith, some, none))
]

pub next_within : (lines : List LineState) (list : FlushListState) (line : ℕ) → KeepsList lines list → list.given < length list.lines → slice_get list.lines list.given ≡ Some line → line < length lines
next_within lines list line keeps lt is = subst (λ (k : ℕ). k < length lines) (get_or_from_slice_get list.lines list.given line 0 is) (some_left list.given lines list.lines lt keeps.given).0

next_passed : (b : CellBankState) (list : FlushListState) → IsClosing b.state → IsCellBank b → b.stored ≡ list.lines → KeepsList b.bank.lines list → 0 < unasked b.bank.lines
    → AreLines (bank_written_back b.bank (get_or list.lines list.given 0)).lines → HasWritten b (bank_written_back b.bank (get_or list.lines list.given 0)) (passed list)
next_passed b list closing cells is keeps some whole =
    let lines = b.bank.lines in
    let was : AreStored lines list.lines = subst (AreStored lines) is (closing_stored b.state lines b.stored closing cells.stored) in
    let lt : list.given < length list.lines = given_left lines list keeps was some in
    let x : ℕ = get_or list.lines list.given 0 in
    let bank : BankState = bank_written_back b.bank x in
    let within : x < length lines = (some_left list.given lines list.lines lt keeps.given).0 in
    let unasked_now : is_unasked (line_at lines x) ≡ true = (next_is list.given lines list.lines lt keeps.given).1 in
    let first : first_unasked lines list.lines ≡ x = (next_is list.given lines list.lines lt keeps.given).0 in
    let kept : KeepsList bank.lines (passed list) = list_written lines list keeps was lt in
    let same : (passed list).lines ≡ b.stored = ap (λ (f : FlushListState). f.lines) (passed_is list lt) ∙ sym is in
    let written : AreWritten (passed list).given bank.lines b.stored = subst (AreWritten (passed list).given bank.lines) same kept.given in
    let cells_now : IsCellBank (record b { bank = bank }) = next_law b bank x (passed list).given written closing within refl whole cells in
    let stored_now : AreStored bank.lines (passed list).lines = subst (AreStored bank.lines) (sym same) (closing_stored b.state bank.lines b.stored closing cells_now.stored) in
    record {
      cells = subst (λ (xs : List ℕ). IsCellBank (record b { bank = bank; stored = xs })) (sym same) cells_now;
      keeps = kept;
      one = record { line = x; within = within; unasked = unasked_now; is = refl };
      first = ap (λ (k : ℕ). bank_written_back b.bank k) (sym (ap (λ (xs : List ℕ). first_unasked lines xs) is ∙ first));
      fewer = next_fewer b.bank bank x within unasked_now refl;
      lines = same;
      more = λ test. (some_left (passed list).given bank.lines (passed list).lines (ltb-true (passed list).given (length (passed list).lines) test) kept.given).1;
      only = λ left. lt-ltb (passed list).given (length (passed list).lines) (given_left bank.lines (passed list) kept stored_now left);
    }

-- the same, for values that are equal to these
pub list_next : (b : CellBankState) (list new : FlushListState) (line : ℕ) (bank : BankState) → IsClosing b.state → IsCellBank b → b.stored ≡ list.lines → KeepsList b.bank.lines list → 0 < unasked b.bank.lines
    → slice_get list.lines list.given ≡ Some line → bank ≡ bank_written_back b.bank line → new ≡ passed list → AreLines bank.lines → HasWritten b bank new
list_next b list new line bank closing cells is keeps some found made now whole =
    let x_is : get_or list.lines list.given 0 ≡ line = get_or_from_slice_get list.lines list.given line 0 found in
    let bank_is : bank ≡ bank_written_back b.bank (get_or list.lines list.given 0) = made ∙ ap (λ (k : ℕ). bank_written_back b.bank k) (sym x_is) in
    subst (HasWritten b bank) (sym now) (subst (λ (k : BankState). HasWritten b k (passed list)) (sym bank_is)
    (next_passed b list closing cells is keeps some (subst (λ (k : BankState). AreLines k.lines) bank_is whole)))

-- while the cells run, the lines that were stored to are those with something pending, and nothing is asked for
pub running_stored : (state : CellState) (lines : List LineState) (stored : List ℕ) → IsRunning state → IsStoredIn state lines stored → AreStored lines stored
running_stored (Torn e) lines stored running h = absurd running
running_stored (Running e) lines stored running h = h
running_stored (Closing e) lines stored running h = absurd running
running_stored (Saved e) lines stored running h = absurd running

pub running_asked : (state : CellState) (lines : List LineState) → IsRunning state → ((i : ℕ) → i < length lines → IsCellIn state (line_at lines i)) → (i : ℕ) → (line_at lines i).asked ≡ 0
running_asked (Torn e) lines running each = absurd running
running_asked (Running e) lines running each = none_asked_at lines (λ i lt. (each i lt).asked)
running_asked (Closing e) lines running each = absurd running
running_asked (Saved e) lines running each = absurd running

-- the line of the first store of a plan has a place
pub first_place : (lines : List LineState) (p : PlannedStore) (ps : List PlannedStore) → p.line < length lines → HasPlacesFor lines (p ∷ ps) → 0 < (line_at lines p.line).spare
first_place lines p ps lt room =
    let fits : length (stores_on p.line (p ∷ ps)) ≤ (line_at lines p.line).spare = room p.line lt in
    let one : length (stores_on p.line (p ∷ ps)) ≡ length (store_to p.word p.value ∷ stores_on p.line ps) = ap (λ (b : Bool). length (if b then store_to p.word p.value ∷ stores_on p.line ps else stores_on p.line ps)) (eq-eqb p.line p.line refl) in
    omega (arith, fits, one)

-- the list behind a store of a plan
pub list_behind : (state : CellState) (lines lines' : List LineState) (list new : FlushListState) (p : PlannedStore) (ps : List PlannedStore) → IsRunning state → p.line < length lines → HasPlacesFor lines (p ∷ ps)
    → ((i : ℕ) → i < length lines → IsCellIn state (line_at lines i)) → ((i : ℕ) → i < length lines' → IsCellIn state (line_at lines' i)) → IsStoredIn state lines list.lines → IsStoredIn state lines' (listed_behind list.lines p.line)
    → lines' ≡ set lines p.line (stored (line_at lines p.line) p.word p.value) → new ≡ marked list p.line → KeepsList lines list → KeepsList lines' new
list_behind state lines lines' list new p ps running lt room each each' was now made is keeps =
    let some = first_place lines p ps lt room in
    let k : LineState = stored (line_at lines p.line) p.word p.value in
    let was_stored = running_stored state lines list.lines running was in
    let now_stored = subst (λ (ls : List LineState). AreStored ls (listed_behind list.lines p.line)) made (running_stored state lines' (listed_behind list.lines p.line) running now) in
    let none_now = subst (λ (ls : List LineState). (i : ℕ) → (line_at ls i).asked ≡ 0) made (running_asked state lines' running each') in
    subst (KeepsList lines') (sym is) (subst (λ (ls : List LineState). KeepsList ls (marked list p.line)) (sym made)
    (list_played lines list p.line k keeps (λ new. place_left lines list.lines list.spare p.line was_stored keeps.places lt some new) (running_asked state lines running each) none_now was_stored now_stored
    (placed_alike (line_at lines p.line) k (stored_room (line_at lines p.line) p.word p.value some))))
