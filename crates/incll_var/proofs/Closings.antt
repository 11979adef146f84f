-- Closing an epoch: which lines were stored to, their write-backs, and the fence.
use Rattle.std.proofs.Common.{◌≡◌, ℕ, ◌+◌, ◌<◌, ◌≤◌, zero, suc, Bool, true, false, List, [], ◌∷◌, length, take, get_or, map, arith, refl, ap, sym, ◌∙◌, subst, inl, inr, ◌⊎◌, if◌then◌else◌, count_by, get_or-set_same, get_or-set_other, length-set, length-drop}
use Rattle.std.proofs.lemmas.Grind.{common_steps}
use Rattle.std.proofs.lemmas.Bool.{cases_lt}
use Rattle.std.proofs.lemmas.Bool.Decides.{eqb_tells, nat_tests}
use Rattle.std.proofs.lemmas.List.{get_or-map, get_or_past, length-map}
use Rattle.line_memory.specs.Line.{LineState, BankState, AreLines, loaded_words, loaded, line_at, fenced, no_line, is_pending, is_unasked, unasked, written_back, bank_load, bank_fenced, bank_written_back}
use Rattle.line_memory.specs.declared.store.Store.{Store}
use Rattle.line_memory.proofs.Stores.{length-applied}
use Rattle.line_memory.proofs.Survivors.{load_is_whole, whole-fenced, fenced-all}
use Rattle.room_model.specs.Cell.{triple_of, IsSafe, IsRecoverable}
use Rattle.incll_var.specs.declared.restore.RestoreEvent.{RestoreEvent}
use Rattle.incll_var.specs.declared.state.CellState.{CellState}
use Rattle.incll_var.specs.declared.state.CellState.TheVariants.{Torn, Running, Closing, Saved}
use Rattle.incll_var.specs.Restore.{IsQuietCell}
use Rattle.incll_var.specs.Cells.{CellBankState, IsCellIn, IsTodo, IsStoredIn, IsCellBank, IsClosing, MayClose, epoch_of, closing_state, places_of, KeepsPlaces}
use Rattle.incll_var.specs.Stored.{AreStored, AreWritten}
use Rattle.incll_var.proofs.Counts.{counted_less}
use Rattle.incll_var.proofs.Stored.{none_stored, stored_alike, stored_count, open_written, written_pending}
use Rattle.incll_var.proofs.Behind.{same_function}
use Rattle.room_model.specs.Banks.{memory_words}
use Rattle.room_model.specs.Chains.{HasSameRoom}

nothing_left : (ss : List Store) → length ss ≡ 0 → ss ≡ []
nothing_left [] h = refl
nothing_left (s ∷ ss) h = absurd (omega arith)

-- a test that holds of no element holds of none
counted_none : (p : LineState → Bool) (l : LineState) (lines : List LineState) → count_by p (l ∷ lines) ≡ 0 → (p l ≡ false) × (count_by p lines ≡ 0)
counted_none p l lines h = (grind (arith, common_steps), grind (arith, common_steps))

-- a test that holds of none fails at each
counted_at : (p : LineState → Bool) (lines : List LineState) → count_by p lines ≡ 0 → (i : ℕ) → i < length lines → p (line_at lines i) ≡ false
counted_at p [] h i lt = absurd (omega arith)
counted_at p (l ∷ lines) h zero lt = (counted_none p l lines h).0
counted_at p (l ∷ lines) h (suc i) lt = counted_at p lines (counted_none p l lines h).1 i (omega arith)

not_pending : (l : LineState) → is_pending l ≡ false → l.pending ≡ []
not_pending l h = nothing_left l.pending (grind (arith, nat_tests))

-- where two tests agree on each element, they hold of as many
counted_same : (p q : LineState → Bool) (lines : List LineState) → ((i : ℕ) → i < length lines → p (line_at lines i) ≡ q (line_at lines i)) → count_by p lines ≡ count_by q lines
counted_same p q [] h = refl
counted_same p q (l ∷ lines) h =
    let here : p l ≡ q l = h 0 (omega arith) in
    let more : count_by p lines ≡ count_by q lines = counted_same p q lines (λ i lt. h (suc i) (omega arith)) in
    grind (arith, common_steps)

no_line_left : (stored : List ℕ) → length stored ≡ 0 → stored ≡ []
no_line_left [] h = refl
no_line_left (x ∷ xs) h = absurd (omega arith)

-- where no line there is has something asked for, no line has
pub none_asked_at : (lines : List LineState) → ((i : ℕ) → i < length lines → (line_at lines i).asked ≡ 0) → (i : ℕ) → (line_at lines i).asked ≡ 0
none_asked_at lines none i = elim (cases_lt i (length lines)) [
  | inl lt ↦ none i lt
  | inr ge ↦ ap (λ (l : LineState). l.asked) (get_or_past lines i no_line ge)
]

-- a line with nothing asked for is unasked exactly where a store is pending
none_asked : (l : LineState) → l.asked ≡ 0 → is_unasked l ≡ is_pending l
none_asked l none = ap (λ (n : ℕ). is_unasked (record l { asked = n })) none

closable_asked : (state : CellState) (l : LineState) → MayClose state → IsCellIn state l → l.asked ≡ 0
closable_asked (Torn e) l may h = absurd may
closable_asked (Running e) l may h = h.asked
closable_asked (Closing e) l may h = absurd may
closable_asked (Saved e) l may h = h.asked

-- when a closing begins, the lines that were stored to are those that are not written back
pub begun_unasked : (b : CellBankState) → MayClose b.state → IsCellBank b → unasked b.bank.lines ≡ count_by is_pending b.bank.lines
begun_unasked b may cells = counted_same is_unasked is_pending b.bank.lines (λ i lt. none_asked (line_at b.bank.lines i) (closable_asked b.state (line_at b.bank.lines i) may (cells.cells i lt)))

begun_cell : (state : CellState) (n : ℕ) (l : LineState) → MayClose state → (n ≡ 0 → l.pending ≡ []) → IsCellIn state l → IsCellIn (closing_state n state) l
begun_cell (Torn e) n l may none h = absurd may
begun_cell (Running e) n l may none h = elim (eqb_tells n 0) [
  | inl zero_is ↦ subst (λ (b : Bool). IsCellIn (if b then Saved e else Closing e) l) (sym zero_is.0) (record { eight = (h.kept 0).eight; tag = (h.kept 0).tag; pending = none zero_is.1; asked = h.asked })
  | inr other ↦ subst (λ (b : Bool). IsCellIn (if b then Saved e else Closing e) l) (sym other.0) (record { kept = h.kept; asked = inl h.asked })
]
begun_cell (Closing e) n l may none h = absurd may
begun_cell (Saved e) n l may none h = h

begun_todo : (state : CellState) (n : ℕ) (lines : List LineState) (todo : List RestoreEvent) → MayClose state → IsTodo state lines todo → IsTodo (closing_state n state) lines todo
begun_todo (Torn e) n lines todo may h = absurd may
begun_todo (Running e) n lines todo may h = elim (eqb_tells n 0) [
  | inl zero_is ↦ subst (λ (b : Bool). IsTodo (if b then Saved e else Closing e) lines todo) (sym zero_is.0) h
  | inr other ↦ subst (λ (b : Bool). IsTodo (if b then Saved e else Closing e) lines todo) (sym other.0) h
]
begun_todo (Closing e) n lines todo may h = absurd may
begun_todo (Saved e) n lines todo may h = h

-- none of the lines is written back yet
begun_stored : (state : CellState) (n : ℕ) (lines : List LineState) (stored : List ℕ) → MayClose state → n ≡ length stored → ((i : ℕ) → i < length lines → IsCellIn state (line_at lines i))
    → IsStoredIn state lines stored → IsStoredIn (closing_state n state) lines stored
begun_stored (Torn e) n lines stored may is each h = absurd may
begun_stored (Running e) n lines stored may is each h = elim (eqb_tells n 0) [
  | inl zero_is ↦ subst (λ (b : Bool). IsStoredIn (if b then Saved e else Closing e) lines stored) (sym zero_is.0) (no_line_left stored (sym is ∙ zero_is.1))
  | inr other ↦
      subst (λ (b : Bool). IsStoredIn (if b then Saved e else Closing e) lines stored) (sym other.0)
      (h, (0, open_written lines stored (λ i. none_asked_at lines (λ j lt. (each j lt).asked) i) (λ i listed. sym (h.exact i) ∙ listed)))
]
begun_stored (Closing e) n lines stored may is each h = absurd may
begun_stored (Saved e) n lines stored may is each h = h

-- a closing begins
pub begin_law : (b : CellBankState) (n : ℕ) → MayClose b.state → n ≡ length b.stored → n ≡ count_by is_pending b.bank.lines → IsCellBank b → IsCellBank (record b { state = closing_state n b.state })
begin_law b n may listed is cells = record {
  lines = cells.lines;
  cells = λ i lt. begun_cell b.state n (line_at b.bank.lines i) may (λ none. not_pending (line_at b.bank.lines i) (counted_at is_pending b.bank.lines (sym is ∙ none) i lt)) (cells.cells i lt);
  todo = begun_todo b.state n b.bank.lines b.todo may cells.todo;
  stored = begun_stored b.state n b.bank.lines b.stored may listed cells.cells cells.stored;
}

closing_todo : (state : CellState) (lines lines' : List LineState) (todo : List RestoreEvent) → IsClosing state → IsTodo state lines todo → IsTodo state lines' todo
closing_todo (Torn e) lines lines' todo closing h = absurd closing
closing_todo (Running e) lines lines' todo closing h = absurd closing
closing_todo (Closing e) lines lines' todo closing h = h
closing_todo (Saved e) lines lines' todo closing h = absurd closing

written_cell : (state : CellState) (l : LineState) → IsClosing state → IsCellIn state l → IsCellIn state (written_back l)
written_cell (Torn e) l closing h = absurd closing
written_cell (Running e) l closing h = absurd closing
written_cell (Closing e) l closing h = record { kept = h.kept; asked = inr refl }
written_cell (Saved e) l closing h = absurd closing

-- as many lines were stored to as have something pending
pub stored_pending : (b : CellBankState) → MayClose b.state → IsCellBank b → length b.stored ≡ count_by is_pending b.bank.lines
stored_pending b may cells = go b.state may cells.cells cells.stored
  where
    go : (state : CellState) → MayClose state → ((i : ℕ) → i < length b.bank.lines → IsCellIn state (line_at b.bank.lines i)) → IsStoredIn state b.bank.lines b.stored → length b.stored ≡ count_by is_pending b.bank.lines
    go (Torn e) may each h = absurd may
    go (Running e) may each h = sym (stored_count b.bank.lines b.stored h)
    go (Closing e) may each h = absurd may
    go (Saved e) may each h = sym (stored_count b.bank.lines b.stored (subst (AreStored b.bank.lines) (sym h) (none_stored b.bank.lines (λ i lt. (each i lt).pending))))

-- in a closing the lines that were stored to are those with something pending
pub closing_stored : (state : CellState) (lines : List LineState) (stored : List ℕ) → IsClosing state → IsStoredIn state lines stored → AreStored lines stored
closing_stored (Torn e) lines stored closing h = absurd closing
closing_stored (Running e) lines stored closing h = absurd closing
closing_stored (Closing e) lines stored closing h = h.0
closing_stored (Saved e) lines stored closing h = absurd closing

written_stored : (state : CellState) (n : ℕ) (lines lines' : List LineState) (stored : List ℕ) → IsClosing state → ((i : ℕ) → is_pending (line_at lines' i) ≡ is_pending (line_at lines i)) → AreWritten n lines' stored
    → IsStoredIn state lines stored → IsStoredIn state lines' stored
written_stored (Torn e) n lines lines' stored closing same written h = absurd closing
written_stored (Running e) n lines lines' stored closing same written h = absurd closing
written_stored (Closing e) n lines lines' stored closing same written h = (stored_alike lines lines' stored same h.0, (n, written))
written_stored (Saved e) n lines lines' stored closing same written h = absurd closing

-- one line is written back
pub next_law : (b : CellBankState) (bank : BankState) (line n : ℕ) → AreWritten n bank.lines b.stored → IsClosing b.state → line < length b.bank.lines → bank ≡ bank_written_back b.bank line → AreLines bank.lines → IsCellBank b → IsCellBank (record b { bank = bank })
next_law b bank line n written closing within made whole_lines cells = record {
  lines = whole_lines;
  cells = λ j lt. elim (eqb_tells j line) [
    | inl h ↦
        let here : line_at bank.lines j ≡ written_back (line_at b.bank.lines line) = ap (λ (k : BankState). line_at k.lines j) made ∙ ap (λ (k : ℕ). line_at (bank_written_back b.bank line).lines k) h.1 ∙ get_or-set_same b.bank.lines line (written_back (line_at b.bank.lines line)) no_line within in
        subst (λ (l : LineState). IsCellIn b.state l) (sym here) (written_cell b.state (line_at b.bank.lines line) closing (cells.cells line within))
    | inr h ↦
        let there : line_at bank.lines j ≡ line_at b.bank.lines j = ap (λ (k : BankState). line_at k.lines j) made ∙ get_or-set_other b.bank.lines line j (written_back (line_at b.bank.lines line)) no_line h.1 in
        let lt2 : j < length b.bank.lines = omega (arith, lt, ap (λ (k : BankState). length k.lines) made, length-set b.bank.lines line (written_back (line_at b.bank.lines line))) in
        subst (λ (l : LineState). IsCellIn b.state l) (sym there) (cells.cells j lt2)
  ];
  todo = closing_todo b.state b.bank.lines bank.lines b.todo closing cells.todo;
  stored =
      written_stored b.state n b.bank.lines bank.lines b.stored closing
      (λ i. ap (λ (k : BankState). is_pending (line_at k.lines i)) made ∙ written_pending b.bank.lines line within i) written cells.stored;
}

-- one line less is to be written back
pub next_fewer : (bank bank' : BankState) (line : ℕ) → line < length bank.lines → is_unasked (line_at bank.lines line) ≡ true → bank' ≡ bank_written_back bank line → unasked bank.lines ≡ unasked bank'.lines + 1
next_fewer bank bank' line within was made =
    let now : is_unasked (written_back (line_at bank.lines line)) ≡ false = grind (arith, nat_tests) in
    counted_less is_unasked bank.lines line (written_back (line_at bank.lines line)) within was now ∙ ap (λ (k : BankState). unasked k.lines + 1) (sym made)

-- what is not unasked is asked for
all_asked : (l : LineState) → is_unasked l ≡ false → (l.asked ≡ 0) ⊎ (l.asked ≡ length l.pending) → l.asked ≡ length l.pending
all_asked l h either =
    let le : length l.pending ≤ l.asked = grind (arith, nat_tests) in
    elim either [ inl z ↦ omega arith | inr e ↦ e ]

-- what a fence makes of a line all of whose stores were asked for
pub record IsCarried (e : ℕ) (old new : LineState) : Type 0 where
  pub quiet : IsQuietCell e new
  pub triple : triple_of e new.base ≡ triple_of e old.base
  pub words : new.base ≡ loaded_words old

pub line_fenced : (e : ℕ) (l : LineState) → IsRecoverable e l → l.asked ≡ length l.pending → IsCarried e l (fenced l)
line_fenced e l kept asked =
    let both = fenced-all l asked in
    let safe : IsSafe e (triple_of e l.base) (fenced l).base = kept l.asked in
    record { quiet = record { eight = safe.eight; tag = safe.tag; pending = both.1; asked = refl }; triple = safe.recovers; words = both.0 }

-- the cells that are fenced at the end of a closing
ended : (state : CellState) (lines : List LineState) → IsClosing state → unasked lines ≡ 0 → ((i : ℕ) → i < length lines → IsCellIn state (line_at lines i)) → (i : ℕ) → i < length lines → IsCarried (epoch_of state) (line_at lines i) (fenced (line_at lines i))
ended (Torn e) lines closing asked holds i lt = absurd closing
ended (Running e) lines closing asked holds i lt = absurd closing
ended (Closing e) lines closing asked holds i lt = line_fenced e (line_at lines i) (holds i lt).kept (all_asked (line_at lines i) (counted_at is_unasked lines asked i lt) (holds i lt).asked)
ended (Saved e) lines closing asked holds i lt = absurd closing

-- a line behind a fence of its bank
pub fenced_at : (lines : List LineState) (i : ℕ) → i < length lines → line_at (map fenced lines) i ≡ fenced (line_at lines i)
fenced_at lines i lt = get_or-map fenced lines i no_line no_line lt

fenced_past : (lines : List LineState) (i : ℕ) → length lines ≤ i → line_at (map fenced lines) i ≡ line_at lines i
fenced_past lines i ge = get_or_past (map fenced lines) i no_line (simp length-map ge) ∙ sym (get_or_past lines i no_line ge)

closed_todo : (state : CellState) (lines : List LineState) (todo : List RestoreEvent) → IsClosing state → IsTodo state lines todo → todo ≡ []
closed_todo (Torn e) lines todo closing h = absurd closing
closed_todo (Running e) lines todo closing h = absurd closing
closed_todo (Closing e) lines todo closing h = h
closed_todo (Saved e) lines todo closing h = absurd closing

-- the fence at the end of a closing
pub fence_law : (b : CellBankState) (bank : BankState) → IsClosing b.state → unasked b.bank.lines ≡ 0 → bank ≡ bank_fenced b.bank → AreLines bank.lines → IsCellBank b → IsCellBank (record { bank = bank; state = Saved (epoch_of b.state); todo = b.todo; stored = [] })
fence_law b bank closing asked made whole_lines cells =
    let all = ended b.state b.bank.lines closing asked cells.cells in
    let count : length bank.lines ≡ length b.bank.lines = ap (λ (k : BankState). length k.lines) made ∙ length-map b.bank.lines fenced in
    record {
      lines = whole_lines;
      cells = λ i lt.
          let within : i < length b.bank.lines = omega (arith, count, lt) in
          let at : line_at bank.lines i ≡ fenced (line_at b.bank.lines i) = ap (λ (k : BankState). line_at k.lines i) made ∙ fenced_at b.bank.lines i within in
          subst (λ (l : LineState). IsQuietCell (epoch_of b.state) l) (sym at) (all i within).quiet;
      todo = closed_todo b.state b.bank.lines b.todo closing cells.todo;
      stored = refl;
    }

-- memory holds the same triples behind it
pub fence_held : (b : CellBankState) (bank : BankState) → IsClosing b.state → unasked b.bank.lines ≡ 0 → bank ≡ bank_fenced b.bank → IsCellBank b → memory_words (epoch_of b.state) bank ≡ memory_words (epoch_of b.state) b.bank
fence_held b bank closing asked made cells =
    ap (λ (k : BankState). memory_words (epoch_of b.state) k) made
    ∙ same_function (memory_words (epoch_of b.state) (bank_fenced b.bank)) (memory_words (epoch_of b.state) b.bank) (λ i w. elim (cases_lt i (length b.bank.lines)) [
      | inl lt ↦ ap (λ (l : LineState). get_or (triple_of (epoch_of b.state) l.base) w 0) (fenced_at b.bank.lines i lt) ∙ ap (λ (t : List ℕ). get_or t w 0) (ended b.state b.bank.lines closing asked cells.cells i lt).triple
      | inr ge ↦ ap (λ (l : LineState). get_or (triple_of (epoch_of b.state) l.base) w 0) (fenced_past b.bank.lines i ge)
    ])

-- no load changes
pub fence_loads : (bank bank' : BankState) → AreLines bank.lines → bank' ≡ bank_fenced bank → HasSameRoom (bank_load bank') (bank_load bank)
fence_loads bank bank' lines made i w lt =
    ap (λ (k : BankState). bank_load k i w) made
    ∙ elim (cases_lt i (length bank.lines)) [
      | inl within ↦
          let l : LineState = line_at bank.lines i in
          let same : loaded_words (fenced l) ≡ loaded_words l = whole-fenced l in
          ap (λ (k : LineState). loaded k w) (fenced_at bank.lines i within)
          ∙ load_is_whole (fenced l) w (length-applied l.base (take l.asked l.pending) ∙ (lines i within).eight) lt
          ∙ ap (λ (ws : List ℕ). get_or ws w 0) same
          ∙ sym (load_is_whole l w (lines i within).eight lt)
      | inr ge ↦ ap (λ (k : LineState). loaded k w) (fenced_past bank.lines i ge)
    ]

-- no room is lost
pub line_room : (l : LineState) → l.asked ≤ length l.pending → places_of (fenced l) ≡ places_of l
line_room l le = let gone = length-drop l.asked l.pending in omega (arith, gone, le)

pub fence_room : (bank bank' : BankState) → AreLines bank.lines → bank' ≡ bank_fenced bank → KeepsPlaces bank bank'
fence_room bank bank' lines made i =
    ap (λ (k : BankState). places_of (line_at k.lines i)) made
    ∙ elim (cases_lt i (length bank.lines)) [
      | inl within ↦ ap (λ (l : LineState). places_of l) (fenced_at bank.lines i within) ∙ line_room (line_at bank.lines i) (lines i within).asked
      | inr ge ↦ ap (λ (l : LineState). places_of l) (fenced_past bank.lines i ge)
    ]
