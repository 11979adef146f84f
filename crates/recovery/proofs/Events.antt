-- What the next event of its restore keeps of a room in a recovery.
use Rattle.std.proofs.Common.{◌≡◌, ℕ, ◌<◌, ◌≤◌, false, List, [], ◌∷◌, length, refl, sym, ap, ◌∙◌, subst, arith}
use Rattle.seq_object.specs.declared.settings.Settings.{Settings}
use Rattle.seq_object.specs.Sizes.{sizes_of, thread_room, super_room}
use Rattle.line_memory.specs.Line.{BankState, bank_load}
use Rattle.room_model.specs.MapRoom.{live_layout}
use Rattle.room_model.specs.Chains.{RoomWords, HasSameRecords}
use Rattle.room_model.specs.Rooms.{StandsFor, point_in}
use Rattle.life_model.specs.Life.{Opening, sizes}
use Rattle.incll_var.specs.declared.state.CellState.{CellState}
use Rattle.incll_var.specs.declared.state.CellState.TheVariants.{Torn, Running, Closing, Saved}
use Rattle.incll_var.specs.declared.restore.RestoreEvent.{RestoreEvent}
use Rattle.incll_var.specs.Cells.{CellBankState, IsCellBank, IsSaved, MayRestore, epoch_of, restored_on as cells_on}
use Rattle.incll_var.proofs.RestoreRuns.{restored_room, restored_count}
use Rattle.rooms.specs.declared.room.Room.{Room}
use Rattle.rooms.specs.declared.room.Room.TheVariants.{Map, Queue, Thread, Super}
use Rattle.rooms.specs.Rooms.{bank_of, cells_of, state_of, history_of, IsIdle, IsKindOf, loads, IsWhole}
use Rattle.epoch_word.specs.declared.stage.EpochStage.{EpochStage}
use Rattle.epoch_word.specs.declared.stage.EpochStage.TheVariants.{Before}
use Rattle.recovery.specs.Restored.{are_left, has_left, restored, MayGoOn, IsRestoredFrom}
use Rattle.recovery.specs.Recovering.{IsInRestore, IsRoomIn}
use Rattle.room_model.specs.Banks.{memory_words}
use Rattle.epoch_word.specs.Stages.{IsAtStage}

-- Cells.

-- the epoch of torn or saved cells
pub epoch_is : (m : ℕ) (state : CellState) → IsInRestore m state → epoch_of state ≡ m
epoch_is m (Torn e) at = at
epoch_is m (Running e) at = absurd at
epoch_is m (Closing e) at = absurd at
epoch_is m (Saved e) at = at

-- a restore of them may go on
pub may_go_on : (m : ℕ) (state : CellState) → IsInRestore m state → MayRestore state
may_go_on m (Torn e) at = tt
may_go_on m (Running e) at = absurd at
may_go_on m (Closing e) at = absurd at
may_go_on m (Saved e) at = tt

-- they stay torn or saved
cells_state : (m : ℕ) (state : CellState) (bank : BankState) (todo : List RestoreEvent) → IsInRestore m state → IsInRestore m (cells_on state bank todo).state
cells_state m (Torn e) bank [] at = at
cells_state m (Torn e) bank (event ∷ events) at = at
cells_state m (Running e) bank todo at = absurd at
cells_state m (Closing e) bank todo at = absurd at
cells_state m (Saved e) bank [] at = at
cells_state m (Saved e) bank (event ∷ events) at = at

-- without an event left they are saved
cells_saved : (m : ℕ) (state : CellState) (bank : BankState) (todo : List RestoreEvent) → are_left todo ≡ false → IsSaved (cells_on state bank todo).state
cells_saved m state bank [] none = tt
cells_saved m state bank (event ∷ events) none = absurd (cc)

-- cells in parts
abbrev these : BankState → CellState → List RestoreEvent → List ℕ → CellBankState
these bank state todo stored = record { bank = bank; state = state; todo = todo; stored = stored }

-- where the cells are saved their loads are what memory held
cells_loaded : (m : ℕ) (bank : BankState) (state : CellState) (todo : List RestoreEvent) (stored : List ℕ) → IsCellBank (these bank state todo stored) → IsInRestore m state → (IsSaved state → HasSameRecords (bank_load bank) (memory_words m bank))
    → IsSaved (cells_on state bank todo).state → HasSameRecords (bank_load (cells_on state bank todo).bank) (memory_words m (cells_on state bank todo).bank)
cells_loaded m bank (Torn e) [] stored whole at before saved = subst (λ (n : ℕ). HasSameRecords (bank_load bank) (memory_words n bank)) at (restored_room (these bank (Torn e) [] stored) e whole refl).1
cells_loaded m bank (Torn e) (event ∷ events) stored whole at before saved = absurd saved
cells_loaded m bank (Running e) todo stored whole at before saved = absurd at
cells_loaded m bank (Closing e) todo stored whole at before saved = absurd at
cells_loaded m bank (Saved e) [] stored whole at before saved = before tt
cells_loaded m bank (Saved e) (event ∷ events) stored whole at before saved =
    let none : event ∷ events ≡ [] = whole.todo in absurd (omega (arith, ap (λ (es : List RestoreEvent). length es) none))

-- Rooms.

-- a room of cells is no super room
pub no_super : (s : Settings) (k : ℕ) → k ≡ super_room (sizes_of s) → k < super_room (sizes_of s) → ⊥
no_super s k is lt = omega (arith, is, lt)

pub no_map : (s : Settings) (k : ℕ) → k ≡ super_room (sizes_of s) → k < s.shards → ⊥
no_map s k is lt = omega (arith, is, lt)

pub no_queue : (s : Settings) (k : ℕ) → k ≡ super_room (sizes_of s) → k ≡ s.shards → ⊥
no_queue s k is at = omega (arith, is, at)

-- the cells of a room are whole
pub whole_cells : (s : Settings) (k : ℕ) (x : Room) → k < super_room (sizes_of s) → IsKindOf s k x → IsWhole x → IsCellBank (cells_of x)
whole_cells s k (Map x) lt kind whole = whole.room.cells
whole_cells s k (Queue x) lt kind whole = whole.room.cells
whole_cells s k (Thread x) lt kind whole = whole.cells
whole_cells s k (Super x) lt kind whole = absurd (no_super s k kind lt)

kept_kind : (s : Settings) (k : ℕ) (x : Room) → IsKindOf s k x → IsKindOf s k (restored x)
kept_kind s k (Map x) kind = kind
kept_kind s k (Queue x) kind = kind
kept_kind s k (Thread x) kind = kind
kept_kind s k (Super x) kind = kind

kept_lines : (x : Room) → length (bank_of (restored x)).lines ≡ length (bank_of x).lines
kept_lines (Map x) = restored_count x.cells
kept_lines (Queue x) = restored_count x.cells
kept_lines (Thread x) = restored_count x.cells
kept_lines (Super x) = refl

kept_idle : (x : Room) → IsIdle x → IsIdle (restored x)
kept_idle (Map x) idle = idle
kept_idle (Queue x) idle = idle
kept_idle (Thread x) idle = idle
kept_idle (Super x) idle = idle

kept_history : (x : Room) → history_of x ≡ [] → history_of (restored x) ≡ []
kept_history (Map x) none = none
kept_history (Queue x) none = none
kept_history (Thread x) none = none
kept_history (Super x) none = none

kept_state : (m : ℕ) (x : Room) → IsInRestore m (state_of x) → IsInRestore m (state_of (restored x))
kept_state m (Map x) at = cells_state m x.cells.state x.cells.bank x.cells.todo at
kept_state m (Queue x) at = cells_state m x.cells.state x.cells.bank x.cells.todo at
kept_state m (Thread x) at = cells_state m x.cells.state x.cells.bank x.cells.todo at
kept_state m (Super x) at = at

kept_loaded : (s : Settings) (m k : ℕ) (x : Room) → k < super_room (sizes_of s) → IsKindOf s k x → IsWhole x → IsInRestore m (state_of x) → (IsSaved (state_of x) → HasSameRecords (loads x) (memory_words m (bank_of x)))
    → IsSaved (state_of (restored x)) → HasSameRecords (loads (restored x)) (memory_words m (bank_of (restored x)))
kept_loaded s m k (Map x) lt kind whole at before saved = cells_loaded m x.cells.bank x.cells.state x.cells.todo x.cells.stored whole.room.cells at before saved
kept_loaded s m k (Queue x) lt kind whole at before saved = cells_loaded m x.cells.bank x.cells.state x.cells.todo x.cells.stored whole.room.cells at before saved
kept_loaded s m k (Thread x) lt kind whole at before saved = cells_loaded m x.cells.bank x.cells.state x.cells.todo x.cells.stored whole.cells at before saved
kept_loaded s m k (Super x) lt kind whole at before saved = absurd (no_super s k kind lt)

-- the super room has no restore
kept_epoch : (P : BankState → Type 0) (s : Settings) (k : ℕ) (x : Room) → k ≡ super_room (sizes_of s) → IsKindOf s k x → P (bank_of x) → P (bank_of (restored x))
kept_epoch P s k (Map x) is kind p = absurd (no_map s k is kind.0)
kept_epoch P s k (Queue x) is kind p = absurd (no_queue s k is kind.0)
kept_epoch P s k (Thread x) is kind p = absurd (no_super s k is kind.1)
kept_epoch P s k (Super x) is kind p = p

-- memory holds what it held
held_same : (m : ℕ) (x : Room) → IsInRestore m (state_of x) → IsRestoredFrom x (restored x) → memory_words m (bank_of (restored x)) ≡ memory_words m (bank_of x)
held_same m x at from =
    ap (λ (e : ℕ). memory_words e (bank_of (restored x))) (sym (epoch_is m (state_of (restored x)) (kept_state m x at)))
    ∙ from.in_memory
    ∙ ap (λ (e : ℕ). memory_words e (bank_of x)) (epoch_is m (state_of x) at)

-- a room of commands or of a thread is a room of cells
pub of_commands : (s : Settings) (k : ℕ) → k ≤ s.shards → k < super_room (sizes_of s)
of_commands s k le = omega (arith, le)

pub of_thread : (s : Settings) (k i : ℕ) → i < s.threads → k ≡ thread_room (sizes_of s) i → k < super_room (sizes_of s)
of_thread s k i lt is = omega (arith, lt, is)

-- a room in a recovery stays one
pub room_restored : (o : Opening) (k : ℕ) (x : Room) → IsRoomIn o Before k x → IsRestoredFrom x (restored x) → IsRoomIn o Before k (restored x)
room_restored o k x is from = record {
  kind = record { kind = kept_kind o.settings k x is.kind.kind; lines = kept_lines x ∙ is.kind.lines };
  whole = from.whole;
  idle = kept_idle x is.idle;
  history = kept_history x is.history;
  state = λ lt. kept_state o.epoch x (is.state lt);
  done = λ lt done. absurd done;
  stands = λ le. subst (λ (r : RoomWords). StandsFor live_layout (sizes o) k r o.state.contents) (sym (held_same o.epoch x (is.state (of_commands o.settings k le)) from)) (is.stands le);
  point = λ i lt at. is.point i lt at ∙ ap (λ (r : RoomWords). point_in live_layout r) (sym (held_same o.epoch x (is.state (of_thread o.settings k i lt at)) from));
  loaded = λ lt saved. kept_loaded o.settings o.epoch k x lt is.kind.kind is.whole (is.state lt) (is.loaded lt) saved;
  epoch = λ at. kept_epoch (IsAtStage Before o.epoch) o.settings k x at is.kind.kind (is.epoch at);
}

-- without an event left it is saved
pub room_saved : (s : Settings) (m k : ℕ) (x : Room) → k < super_room (sizes_of s) → IsKindOf s k x → has_left x ≡ false → IsSaved (state_of (restored x))
room_saved s m k (Map x) lt kind none = cells_saved m x.cells.state x.cells.bank x.cells.todo none
room_saved s m k (Queue x) lt kind none = cells_saved m x.cells.state x.cells.bank x.cells.todo none
room_saved s m k (Thread x) lt kind none = cells_saved m x.cells.state x.cells.bank x.cells.todo none
room_saved s m k (Super x) lt kind none = absurd (no_super s k kind lt)

-- a room of cells by its kind
by_kind : (s : Settings) (m k : ℕ) (x : Room) → IsKindOf s k x → (k < super_room (sizes_of s) → IsInRestore m (state_of x)) → MayRestore (state_of x)
by_kind s m k (Map x) kind state = let lt = kind.0 in may_go_on m x.cells.state (state (omega (arith, lt)))
by_kind s m k (Queue x) kind state = let is = kind.0 in may_go_on m x.cells.state (state (omega (arith, is)))
by_kind s m k (Thread x) kind state = may_go_on m x.cells.state (state kind.1)
by_kind s m k (Super x) kind state = tt

-- its restore may go on
pub goes_on : (o : Opening) (stage : EpochStage) (k : ℕ) (x : Room) → IsRoomIn o stage k x → MayGoOn x
goes_on o stage k x is = record { whole = is.whole; may = by_kind o.settings o.epoch k x is.kind.kind is.state }
