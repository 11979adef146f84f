-- A room of cells in hand is closed: its stores are ended, its lines are written back, and a fence brings them into memory.
use Rattle.std.proofs.Common.{◌≡◌, ℕ, ◌+◌, ◌^◌, ◌<◌, ◌≤◌, ◌↔◌, zero, suc, inl, inr, Bool, true, false, IsTrue, List, [], ◌∷◌, length, count_by, refl, ap, sym, ◌∙◌, subst, arith, cond}
use Rattle.std.specs.Prelude.{nat_lt}
use Rattle.std.proofs.lemmas.Grind.{common_steps}
use Rattle.std.proofs.lemmas.Bool.{le-ltb}
use Rattle.line_memory.specs.declared.store.Store.{Store}
use Rattle.line_memory.specs.Line.{LineState, BankState, line_at, is_unasked, unasked, counted}
use Rattle.room_model.specs.Chains.{HasSameRecords}
use Rattle.room_model.specs.Banks.{memory_words}
use Rattle.room_laws.proofs.Tests.{by_test}
use Rattle.incll_var.specs.declared.state.CellState.{CellState}
use Rattle.incll_var.specs.declared.state.CellState.TheVariants.{Torn, Running, Closing, Saved}
use Rattle.incll_var.specs.Restore.{IsQuietCell}
use Rattle.incll_var.specs.Cells.{CellBankState, IsCellIn, IsCellBank, WritesOneBack, IsSavedIn, closing_state, epoch_of, with_state}
use Rattle.planned_cells.specs.Planned.{memory_words_in, saved_cells, with_bank}
use Rattle.rooms.specs.declared.room.Room.{Room}
use Rattle.rooms.specs.declared.room.Room.TheVariants.{Map, Queue, Thread, Super}
use Rattle.rooms.specs.Rooms.{bank_of, cells_of, state_of, with_cells, words_of, IsWhole, HasCells, lines_unasked}
use Rattle.yard_model.specs.Homes.{IsFreeState, position_bound}
use Rattle.room_in_hand.specs.Known.{Knowledge}
use Rattle.room_in_hand.specs.InHand.{resting, flushing, flushed, shut, KeepsRoom, IsResting, IsInHand}
use Rattle.room_in_hand.specs.Events.{begun_use, written_use}
use Rattle.room_in_hand.proofs.Moves.{Moves, cells_are, still_has, history_same, kept_on, resting_on, bound_on, bound_most, lt_true}
use Rattle.seq_object.specs.Sizes.{sizes_of}

-- the cells of a room are cells, by its type
pub are_cells : (x : Room) → HasCells x → IsWhole x → IsCellBank (cells_of x)
are_cells (Map s) has whole = whole.room.cells
are_cells (Queue s) has whole = whole.room.cells
are_cells (Thread t) has whole = whole.cells
are_cells (Super bank) has whole = absurd has

-- a test that fails at each line holds of none
pub counted_none : (p : LineState → Bool) (lines : List LineState) → ((i : ℕ) → i < length lines → p (line_at lines i) ≡ false) → count_by p lines ≡ 0
counted_none p [] each = refl
counted_none p (l ∷ lines) each =
    let here : p l ≡ false = each 0 (omega arith) in
    let rest : count_by p lines ≡ 0 = counted_none p lines (λ i lt. each (suc i) (omega arith)) in
    grind (arith, common_steps)

-- a line on which nothing is pending has no store that was not asked for
pub quiet_asked : (epoch : ℕ) (l : LineState) → IsQuietCell epoch l → is_unasked l ≡ false
quiet_asked epoch l quiet =
    ap (λ (ss : List Store). is_unasked (record l { pending = ss })) quiet.pending
    ∙ ap (λ (k : ℕ). is_unasked (record l { pending = []; asked = k })) quiet.asked

-- saved cells have no line to be written back
pub saved_unasked : (b : CellBankState) (c : ℕ) → IsCellBank b → b.state ≡ Saved c → unasked b.bank.lines ≡ 0
saved_unasked b c cells is = counted_none is_unasked b.bank.lines (λ i lt.
    quiet_asked c (line_at b.bank.lines i) (subst (λ (k : CellState). IsCellIn k (line_at b.bank.lines i)) is (cells.cells i lt)))

-- what memory holds at an epoch stays where what it holds at that of the cells does
same_memory : (epoch : ℕ) (x y : CellBankState) → epoch_of x.state ≡ epoch → epoch_of y.state ≡ epoch → memory_words_in y ≡ memory_words_in x → memory_words epoch y.bank ≡ memory_words epoch x.bank
same_memory epoch x y is also same = sym (ap (λ (k : ℕ). memory_words k y.bank) also) ∙ same ∙ ap (λ (k : ℕ). memory_words k x.bank) is

-- THE BEGIN.

-- of n lines: where there are some, free cells are being closed in the epoch; where there is none, they are saved by it
record HasBegun (epoch closings n : ℕ) (state : CellState) : Type 0 where
  some : 0 < n → closing_state n state ≡ Closing epoch
  none : n ≡ 0 → IsSavedIn (λ c. c ≤ epoch) (closing_state n state)
  bound : position_bound epoch closings state ≤ position_bound epoch closings (closing_state n state)

begun_running : (epoch closings n : ℕ) → HasBegun epoch closings n (Running epoch)
begun_running epoch closings n = record {
  some = λ lt. by_test (λ (b : Bool). cond b (Saved epoch) (Closing epoch) ≡ Closing epoch) n 0 (λ e. absurd (omega (arith, e, lt))) (λ e. refl);
  none = λ is. by_test (λ (b : Bool). IsSavedIn (λ c. c ≤ epoch) (cond b (Saved epoch) (Closing epoch))) n 0 (λ e. omega arith) (λ other. absurd (other is));
  bound = by_test (λ (b : Bool). closings + 1 ≤ position_bound epoch closings (cond b (Saved epoch) (Closing epoch))) n 0
      (λ e. let f : cond (nat_lt epoch epoch) closings (closings + 1) ≡ closings + 1 = ap (λ (b : Bool). cond b closings (closings + 1)) (le-ltb epoch epoch (omega arith)) in omega (arith, f)) (λ e. omega arith);
}

has_begun : (epoch closings n : ℕ) (state : CellState) → IsFreeState epoch false state → ((c : ℕ) → state ≡ Saved c → n ≡ 0) → HasBegun epoch closings n state
has_begun epoch closings n (Torn c) free saved = absurd free
has_begun epoch closings n (Running c) free saved = subst (λ (e : ℕ). HasBegun epoch closings n (Running e)) (sym free) (begun_running epoch closings n)
has_begun epoch closings n (Closing c) free saved = absurd free
has_begun epoch closings n (Saved c) free saved = record {
  some = λ lt. let e = saved c refl in absurd (omega (arith, e, lt));
  none = λ is. elim free [
    | inl lt ↦ omega (arith, lt)
    | inr t ↦ let e = t.0 in omega (arith, e)
  ];
  bound = omega arith;
}

module _ (x y : Room) (n : ℕ) (m : Moves x y (with_state (cells_of x) (closing_state n (state_of x)))) (count : lines_unasked x ≡ n) where
  bank_same : bank_of y ≡ bank_of x
  bank_same = ap (λ (c : CellBankState). c.bank) (cells_are x y (with_state (cells_of x) (closing_state n (state_of x))) m)

  state_is : state_of y ≡ closing_state n (state_of x)
  state_is = ap (λ (c : CellBankState). c.state) (cells_are x y (with_state (cells_of x) (closing_state n (state_of x))) m)

  lines_same : lines_unasked y ≡ lines_unasked x
  lines_same = ap (λ (b : BankState). unasked b.lines) bank_same

  module _ (k : Knowledge) (was : IsInHand resting k x) where
    abbrev rests : IsResting k x
    rests = was.used.0

    saved_none : (c : ℕ) → state_of x ≡ Saved c → n ≡ 0
    saved_none c is = sym count ∙ saved_unasked (cells_of x) c (are_cells x rests.cells was.kept.whole) is

    begins : HasBegun k.epoch k.closings n (state_of x)
    begins = has_begun k.epoch k.closings n (state_of x) was.used.1 saved_none

    kept : KeepsRoom k y
    kept = kept_on x y (with_state (cells_of x) (closing_state n (state_of x))) m k was.kept (ap (memory_words k.epoch) bank_same) (subst (λ (b : BankState). k.opened ≤ b.write_backs) (sym bank_same) was.kept.no_fewer)

    still : IsResting k y
    still = resting_on x y (with_state (cells_of x) (closing_state n (state_of x))) m k rests (
        let f = rests.write_backs in
        let b = begins.bound in
        let s : position_bound k.epoch k.closings (state_of x) ≤ position_bound k.epoch k.closings (state_of y) = subst (λ (st : CellState). position_bound k.epoch k.closings (state_of x) ≤ position_bound k.epoch k.closings st) (sym state_is) b in
        let r = bound_on (sizes_of k.settings) k.epoch k.closings k.room x y (history_same x y (with_state (cells_of x) (closing_state n (state_of x))) m) s in
        let w = ap (λ (c : BankState). c.write_backs) bank_same in
        let l = lines_same in
        omega (arith, f, r, w, l))

    pub begun_some : 0 < n → IsInHand flushing k y
    begun_some lt = record { kept = kept; used = (still, state_is ∙ begins.some lt, let l = lines_same in omega (arith, l, count, lt)) }

    pub begun_none : n ≡ 0 → IsInHand shut k y
    begun_none is = record { kept = kept; used = (still, subst (IsSavedIn (λ c. c ≤ k.epoch)) (sym state_is) (begins.none is)) }

-- by whether there are some
begun_by : (x y : Room) (n : ℕ) (m : Moves x y (with_state (cells_of x) (closing_state n (state_of x)))) → lines_unasked x ≡ n → (k : Knowledge) → IsInHand resting k x
    → (b : Bool) → b ≡ nat_lt 0 n → IsInHand (begun_use b) k y
begun_by x y n m count k was true is = begun_some x y n m count k was (by_lt n (sym is))
  where
    by_lt : (n : ℕ) → nat_lt 0 n ≡ true → 0 < n
    by_lt zero e = let t : true ≡ false = sym e ∙ le-ltb zero zero (omega arith) in absurd (cc)
    by_lt (suc n) e = omega arith
begun_by x y n m count k was false is = begun_none x y n m count k was (by_zero n (sym is))
  where
    by_zero : (n : ℕ) → nat_lt 0 n ≡ false → n ≡ 0
    by_zero zero e = refl
    by_zero (suc n) e = let t : true ≡ false = sym (lt_true zero (suc n) (omega arith)) ∙ e in absurd (cc)

pub begun_kept : (x y : Room) (n : ℕ) (b : Bool) → lines_unasked x ≡ n → b ≡ nat_lt 0 n → HasCells x → y ≡ with_cells x (with_state (cells_of x) (closing_state n (state_of x)))
    → length (bank_of y).lines ≡ length (bank_of x).lines → HasSameRecords (words_of y) (words_of x) → IsWhole y → (k : Knowledge) → IsInHand resting k x → IsInHand (begun_use b) k y
begun_kept x y n b count test has is lines same whole k was = begun_by x y n (record { has = has; is = is; lines = lines; same_words = same; whole = whole }) count k was b test

-- A WRITE-BACK.

pub counted-most : (n : ℕ) → counted n ≤ n + 1
counted-most n = omega arith

pub counted-least : (least n : ℕ) → least ≤ n → least < 2 ^ 64 → least ≤ counted n
counted-least least n le few = omega (arith, le, few)

module _ (x y : Room) (bank : BankState) (m : Moves x y (with_bank (cells_of x) bank)) (one : WritesOneBack (bank_of x) bank) (fewer : lines_unasked x ≡ unasked bank.lines + 1)
    (memory : memory_words_in (cells_of y) ≡ memory_words_in (cells_of x)) (k : Knowledge) (was : IsInHand flushing k x) where
  abbrev flushes : IsResting k x
  flushes = was.used.0

  bank_now : bank_of y ≡ bank
  bank_now = ap (λ (c : CellBankState). c.bank) (cells_are x y (with_bank (cells_of x) bank) m)

  state_same : state_of y ≡ state_of x
  state_same = ap (λ (c : CellBankState). c.state) (cells_are x y (with_bank (cells_of x) bank) m)

  closes : state_of y ≡ Closing k.epoch
  closes = state_same ∙ was.used.1

  count_is : (bank_of y).write_backs ≡ counted (bank_of x).write_backs
  count_is = ap (λ (b : BankState). b.write_backs) (bank_now ∙ one.is)

  back_kept : KeepsRoom k y
  back_kept = kept_on x y (with_bank (cells_of x) bank) m k was.kept (same_memory k.epoch (cells_of x) (cells_of y) (ap epoch_of was.used.1) (ap epoch_of closes) memory)
      (let c = count_is in let l = counted-least k.opened (bank_of x).write_backs was.kept.no_fewer was.kept.counted in omega (arith, c, l))

  back_still : IsResting k y
  back_still = resting_on x y (with_bank (cells_of x) bank) m k flushes (
      let f = flushes.write_backs in
      let s : position_bound k.epoch k.closings (state_of x) ≤ position_bound k.epoch k.closings (state_of y) = subst (λ (st : CellState). position_bound k.epoch k.closings (state_of x) ≤ position_bound k.epoch k.closings st) (sym state_same) (omega arith) in
      let r = bound_on (sizes_of k.settings) k.epoch k.closings k.room x y (history_same x y (with_bank (cells_of x) bank) m) s in
      let c = count_is in
      let t = counted-most (bank_of x).write_backs in
      let l = ap (λ (b : BankState). unasked b.lines) bank_now in
      omega (arith, f, r, c, t, l, fewer))

  back_some : 0 < lines_unasked y → IsInHand flushing k y
  back_some lt = record { kept = back_kept; used = (back_still, closes, lt) }

  back_none : lines_unasked y ≡ 0 → IsInHand flushed k y
  back_none is = record { kept = back_kept; used = (back_still, closes, is) }

  pub back_by : (b : Bool) → (IsTrue b ↔ (0 < unasked bank.lines)) → IsInHand (written_use b) k y
  back_by true more = back_some (let l = ap (λ (c : BankState). unasked c.lines) bank_now in let lt = more.0 refl in omega (arith, l, lt))
  back_by false more = back_none (by (unasked bank.lines) more (ap (λ (c : BankState). unasked c.lines) bank_now))
    where
      by : (n : ℕ) → (IsTrue false ↔ (0 < n)) → lines_unasked y ≡ n → lines_unasked y ≡ 0
      by zero test is = is
      by (suc n) test is = let e : false ≡ true = test.1 (omega arith) in absurd (cc)

pub back_kept_on : (x y : Room) (b : Bool) → HasCells x → WritesOneBack (bank_of x) (bank_of y) → y ≡ with_cells x (with_bank (cells_of x) (bank_of y)) → lines_unasked x ≡ lines_unasked y + 1
    → (IsTrue b ↔ (0 < lines_unasked y)) → length (bank_of y).lines ≡ length (bank_of x).lines → HasSameRecords (words_of y) (words_of x) → memory_words_in (cells_of y) ≡ memory_words_in (cells_of x) → IsWhole y
    → (k : Knowledge) → IsInHand flushing k x → IsInHand (written_use b) k y
back_kept_on x y b has one is fewer more lines same memory whole k was = back_by x y (bank_of y) (record { has = has; is = is; lines = lines; same_words = same; whole = whole }) one fewer memory k was b more

-- THE FENCE.

module _ (x y : Room) (m : Moves x y (saved_cells (cells_of x))) (memory : memory_words_in (cells_of y) ≡ memory_words_in (cells_of x)) (k : Knowledge) (was : IsInHand flushed k x) where
  abbrev waits : IsResting k x
  waits = was.used.0

  saved_now : state_of y ≡ Saved k.epoch
  saved_now = ap (λ (c : CellBankState). c.state) (cells_are x y (saved_cells (cells_of x)) m) ∙ ap (λ (st : CellState). Saved (epoch_of st)) was.used.1

  no_more : (bank_of y).write_backs ≡ (bank_of x).write_backs
  no_more = ap (λ (c : CellBankState). c.bank.write_backs) (cells_are x y (saved_cells (cells_of x)) m)

  none_unasked : lines_unasked y ≡ 0
  none_unasked = saved_unasked (cells_of y) k.epoch (are_cells y (still_has x y (saved_cells (cells_of x)) m) m.whole) saved_now

  fence_kept : KeepsRoom k y
  fence_kept = kept_on x y (saved_cells (cells_of x)) m k was.kept (same_memory k.epoch (cells_of x) (cells_of y) (ap epoch_of was.used.1) (ap epoch_of saved_now) memory)
      (let c = no_more in let l = was.kept.no_fewer in omega (arith, c, l))

  bound_of_saved : k.closings + 1 ≤ position_bound k.epoch k.closings (state_of y)
  bound_of_saved = subst (λ (st : CellState). k.closings + 1 ≤ position_bound k.epoch k.closings st) (sym saved_now)
      (let f : cond (nat_lt k.epoch k.epoch) k.closings (k.closings + 1) ≡ k.closings + 1 = ap (λ (b : Bool). cond b k.closings (k.closings + 1)) (le-ltb k.epoch k.epoch (omega arith)) in omega (arith, f))

  fence_still : IsResting k y
  fence_still = resting_on x y (saved_cells (cells_of x)) m k waits (
      let f = waits.write_backs in
      let a = bound_most k.epoch k.closings (state_of x) in
      let s = bound_of_saved in
      let r = bound_on (sizes_of k.settings) k.epoch k.closings k.room x y (history_same x y (saved_cells (cells_of x)) m) (omega (arith, a, s)) in
      let c = no_more in
      let n = none_unasked in
      omega (arith, f, r, c, n))

  pub fenced_shut : IsInHand shut k y
  fenced_shut = record { kept = fence_kept; used = (fence_still, subst (IsSavedIn (λ c. c ≤ k.epoch)) (sym saved_now) (omega arith)) }

pub fence_kept_on : (x y : Room) → HasCells x → y ≡ with_cells x (saved_cells (cells_of x)) → length (bank_of y).lines ≡ length (bank_of x).lines → HasSameRecords (words_of y) (words_of x)
    → memory_words_in (cells_of y) ≡ memory_words_in (cells_of x) → IsWhole y → (k : Knowledge) → IsInHand flushed k x → IsInHand shut k y
fence_kept_on x y has is lines same memory whole k was = fenced_shut x y (record { has = has; is = is; lines = lines; same_words = same; whole = whole }) memory k was
