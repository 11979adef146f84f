-- A room of cells that is given other cells: what stays of what is known of it.
use Rattle.std.proofs.Common.{◌≡◌, ℕ, ◌+◌, ◌*◌, ◌<◌, ◌≤◌, Bool, true, false, cond, List, [], length, refl, ap, sym, ◌∙◌, subst, arith, suc, ⊎_elim, leb}
use Rattle.std.specs.Prelude.{nat_le, nat_lt}
use Rattle.std.proofs.lemmas.Bool.Decides.{leb_tells}
use Rattle.seq_object.specs.declared.settings.Settings.{Settings}
use Rattle.seq_object.specs.declared.history.Noted.{Noted}
use Rattle.seq_object.specs.declared.sizes.Sizes.{Sizes}
use Rattle.seq_object.specs.Sizes.{sizes_of, super_room}
use Rattle.line_memory.specs.Line.{BankState, bank_load}
use Rattle.room_model.specs.declared.write.PlannedStore.{PlannedStore}
use Rattle.room_model.specs.Chains.{RoomWords, HasSameRecords}
use Rattle.room_model.specs.MapRoom.{live_layout}
use Rattle.room_model.specs.Rooms.{StandsFor, point_in}
use Rattle.room_model.specs.Banks.{memory_words}
use Rattle.room_model.specs.Writes.{stored_in}
use Rattle.room_laws.proofs.MapLaws.{layouts}
use Rattle.room_laws.proofs.Words.{words, point_words}
use Rattle.incll_var.specs.declared.state.CellState.{CellState}
use Rattle.incll_var.specs.declared.state.CellState.TheVariants.{Torn, Running, Closing, Saved}
use Rattle.incll_var.specs.Cells.{CellBankState, IsTorn}
use Rattle.planned_cells.specs.Planned.{words_in}
use Rattle.rooms.specs.declared.room.Room.{Room}
use Rattle.rooms.specs.declared.room.Room.TheVariants.{Map, Queue, Thread, Super}
use Rattle.rooms.specs.Rooms.{bank_of, cells_of, state_of, with_cells, words_of, history_of, end_of, loads, IsIdle, IsWhole, IsRoomOf, IsKindOf, HasCells, lines_unasked}
use Rattle.rooms.proofs.Others.{other_cells, same_number, same_else}
use Rattle.yard_model.specs.Homes.{free_bound, position_bound}
use Rattle.room_in_hand.specs.Known.{Knowledge}
use Rattle.room_in_hand.specs.InHand.{KeepsRoom, IsResting}

-- of cells that are not torn, and no store is left, the words are the loads
words_are_loads : (state : CellState) (bank : BankState) (stores : List PlannedStore) → (IsTorn state → ⊥) → stores ≡ [] → words_in state bank stores ≡ bank_load bank
words_are_loads (Torn c) bank stores whole none = absurd (whole tt)
words_are_loads (Running c) bank stores whole none = ap (λ (ss : List PlannedStore). stored_in (bank_load bank) ss) none
words_are_loads (Closing c) bank stores whole none = ap (λ (ss : List PlannedStore). stored_in (bank_load bank) ss) none
words_are_loads (Saved c) bank stores whole none = ap (λ (ss : List PlannedStore). stored_in (bank_load bank) ss) none

pub rests_by_loads : (x : Room) → IsIdle x → (IsTorn (state_of x) → ⊥) → words_of x ≡ loads x
rests_by_loads (Map s) idle whole = words_are_loads s.cells.state s.cells.bank s.plan.stores whole idle.1
rests_by_loads (Queue s) idle whole = words_are_loads s.cells.state s.cells.bank s.plan.stores whole idle.1
rests_by_loads (Thread t) idle whole = words_are_loads t.cells.state t.cells.bank t.plan.stores whole idle
rests_by_loads (Super bank) idle whole = refl

-- a room of cells is one before the super room
pub below_super : (s : Settings) (r : ℕ) (x : Room) → HasCells x → IsKindOf s r x → r < super_room (sizes_of s)
below_super s r (Map x) has kind = let k = kind.0 in omega (arith, k)
below_super s r (Queue x) has kind = let k = kind.0 in omega (arith, k)
below_super s r (Thread x) has kind = kind.1
below_super s r (Super x) has kind = absurd has

still_cells : (x : Room) (cells : CellBankState) → HasCells x → HasCells (with_cells x cells)
still_cells (Map x) cells has = tt
still_cells (Queue x) cells has = tt
still_cells (Thread x) cells has = tt
still_cells (Super x) cells has = absurd has

-- y is x with these cells
pub record Moves (x y : Room) (cells : CellBankState) : Type 0 where
  pub has : HasCells x
  pub is : y ≡ with_cells x cells
  pub lines : length (bank_of y).lines ≡ length (bank_of x).lines
  pub same_words : HasSameRecords (words_of y) (words_of x)
  pub whole : IsWhole y

module _ (x y : Room) (cells : CellBankState) (m : Moves x y cells) where
  pub cells_are : cells_of y ≡ cells
  cells_are = ap cells_of m.is ∙ other_cells x cells m.has

  pub still_has : HasCells y
  still_has = subst HasCells (sym m.is) (still_cells x cells m.has)

  pub history_same : history_of y ≡ history_of x
  history_same = ap history_of m.is ∙ (same_else x cells).0

  pub end_same : end_of y ≡ end_of x
  end_same = ap end_of m.is ∙ (same_else x cells).1

  pub still_idle : IsIdle x → IsIdle y
  still_idle idle = subst IsIdle (sym m.is) ((same_else x cells).2 idle)

  pub same_room : (s : Settings) (r : ℕ) → IsRoomOf s r x → IsRoomOf s r y
  same_room s r is = subst (IsRoomOf s r) (sym m.is) (same_number s r x cells is (sym (ap (λ (c : CellBankState). length c.bank.lines) cells_are) ∙ m.lines))

  -- what is kept whatever it is used for
  pub kept_on : (k : Knowledge) → KeepsRoom k x → memory_words k.epoch (bank_of y) ≡ memory_words k.epoch (bank_of x) → k.opened ≤ (bank_of y).write_backs → KeepsRoom k y
  kept_on k was memory no_fewer = record {
    whole = m.whole;
    room = same_room k.settings k.room was.room;
    history = history_same ∙ was.history;
    in_memory = λ low. subst (λ (r : RoomWords). StandsFor live_layout (sizes_of k.settings) k.room r k.covered) (sym memory) (was.in_memory low);
    point_in_memory = λ t is. ap (point_in live_layout) memory ∙ was.point_in_memory t is;
    no_position = was.no_position;
    no_fewer = no_fewer;
    counted = was.counted;
  }

  -- what holds while nothing is under way in it
  pub resting_on : (k : Knowledge) → IsResting k x → (bank_of y).write_backs + lines_unasked y ≤ k.opened + free_bound (sizes_of k.settings) k.epoch k.closings false k.room y → IsResting k y
  resting_on k was few = record {
    cells = still_has;
    idle = still_idle was.idle;
    stands = λ low. words live_layout (sizes_of k.settings) k.room (words_of x) (words_of y) k.now layouts.in_use (was.stands low) m.same_words;
    point = λ t is. (point_words live_layout (words_of x) (words_of y) m.same_words ∙ (was.point t is).0, end_same ∙ (was.point t is).1);
    write_backs = few;
  }

-- Tests of numbers.

pub le_true : (r n : ℕ) → r ≤ n → nat_le r n ≡ true
le_true r n le = ⊎_elim (λ (t : (leb r n ≡ true) × (r ≤ n)). t.0) (λ (t : (leb r n ≡ false) × (n < r)). let g = t.1 in absurd (omega (arith, g, le))) (leb_tells r n)

pub lt_true : (r n : ℕ) → r < n → nat_lt r n ≡ true
lt_true r n lt = le_true (suc r) n (omega (arith, lt))

pub le_false : (r n : ℕ) → n < r → nat_le r n ≡ false
le_false r n lt = ⊎_elim (λ (t : (leb r n ≡ true) × (r ≤ n)). let g = t.1 in absurd (omega (arith, g, lt))) (λ (t : (leb r n ≡ false) × (n < r)). t.0) (leb_tells r n)

-- The bound of write-backs.

bound_rises : (a b : Bool) (h g p q s : ℕ) → h ≡ g → p ≤ q → cond a h (cond b p s) ≤ cond a g (cond b q s)
bound_rises true b h g p q s e le = omega (arith, e)
bound_rises false true h g p q s e le = le
bound_rises false false h g p q s e le = omega arith

-- it does not fall where that of its cells' state does not
pub bound_on : (z : Sizes) (epoch closings r : ℕ) (x y : Room) → history_of y ≡ history_of x → position_bound epoch closings (state_of x) ≤ position_bound epoch closings (state_of y)
    → free_bound z epoch closings false r x ≤ free_bound z epoch closings false r y
bound_on z epoch closings r x y same rises = bound_rises (nat_le r z.shards) (nat_lt r (super_room z)) (4 * length (history_of x)) (4 * length (history_of y)) (position_bound epoch closings (state_of x))
    (position_bound epoch closings (state_of y)) (closings + 0) (ap (λ (ns : List Noted). 4 * length ns) (sym same)) rises

saved_bound : (b : Bool) (closings : ℕ) → cond b closings (closings + 1) ≤ closings + 1
saved_bound true closings = omega arith
saved_bound false closings = omega arith

-- it is one for each closing, and one more, at most
pub bound_most : (epoch closings : ℕ) (state : CellState) → position_bound epoch closings state ≤ closings + 1
bound_most epoch closings (Torn c) = omega arith
bound_most epoch closings (Running c) = omega arith
bound_most epoch closings (Closing c) = omega arith
bound_most epoch closings (Saved c) = saved_bound (nat_lt c epoch) closings

-- of a thread's room it is that of its cells' state
pub thread_bound : (z : Sizes) (epoch closings : ℕ) (done : Bool) (r : ℕ) (x : Room) → z.shards < r → r < super_room z → free_bound z epoch closings done r x ≡ position_bound epoch closings (state_of x)
thread_bound z epoch closings done r x above below =
    ap (λ (b : Bool). cond b (4 * length (history_of x)) (cond (nat_lt r (super_room z)) (position_bound epoch closings (state_of x)) (closings + cond done 1 0))) (le_false r z.shards above)
    ∙ ap (λ (b : Bool). cond b (position_bound epoch closings (state_of x)) (closings + cond done 1 0)) (lt_true r (super_room z) below)
