-- What enter, the closing and a restore make of a room: the cells change, and the room holds the same.
use Rattle.std.proofs.Common.{◌≡◌, ℕ, Option, Some, None, List, [], length, refl, ap, sym, ◌∙◌, subst}
use Rattle.line_memory.specs.Line.{BankState}
use Rattle.room_model.specs.declared.write.PlannedStore.{PlannedStore}
use Rattle.room_model.specs.Chains.{RoomWords, HasSameRecords}
use Rattle.room_model.specs.Banks.{memory_words}
use Rattle.room_model.specs.Writes.{stored_in}
use Rattle.incll_var.specs.declared.state.CellState.{CellState}
use Rattle.incll_var.specs.declared.state.CellState.TheVariants.{Torn, Running, Closing, Saved}
use Rattle.incll_var.specs.Cells.{CellBankState, IsCellBank, IsRunning, HasSameCells, epoch_of, with_state}
use Rattle.incll_var.specs.Plans.{PlanState}
use Rattle.planned_cells.specs.Planned.{PlannedState, ArePlannedCells, words_in, planned_words, memory_words_in, with_bank}
use Rattle.planned_cells.proofs.Loads.{loads-same, more_held, same_words}
use Rattle.planned_cells.proofs.Rests.{at_rest}
use Rattle.command_room.specs.declared.under_way.UnderWay.{UnderWay}
use Rattle.command_room.specs.Noted.{NotedState}
use Rattle.command_room.specs.Room.{CommandRoomState, words_of, sizes_in, contents_in, IsGoing, IsCommandRoom}
use Rattle.command_room.proofs.Words.{HoldsSame, same_room}

-- the new room is one, and holds what the old one did
pub record Keeps (old new : CommandRoomState) : Type 0 where
  pub room : IsCommandRoom new
  pub contents : contents_in new ≡ contents_in old

-- where no command is under way, no store is left
pub none_left : (under : Option UnderWay) (state : CellState) (stores : List PlannedStore) (spare : ℕ) → under ≡ None → IsGoing under state stores spare → stores ≡ []
none_left None state stores spare idle going = going
none_left (Some command) state stores spare idle going = absurd (cc)

-- where cells do not run no command is under way
pub idle_where : (under : Option UnderWay) (state : CellState) (stores : List PlannedStore) (spare : ℕ) → (IsRunning state → ⊥) → IsGoing under state stores spare → under ≡ None
idle_where None state stores spare still going = refl
idle_where (Some command) state stores spare still going = absurd (still going.0)

-- nothing planned, and no command under way
pub idle_going : (under : Option UnderWay) (state : CellState) (stores : List PlannedStore) (spare : ℕ) → under ≡ None → stores ≡ [] → IsGoing under state stores spare
idle_going None state stores spare idle none = none
idle_going (Some command) state stores spare idle none = absurd (cc)

-- cells that mean the same records
pub kept_law : (s : CommandRoomState) (p : PlannedState) (history : NotedState) → IsCommandRoom s → ArePlannedCells p.cells p.plan → length p.cells.bank.lines ≡ length s.cells.bank.lines → HasSameRecords (planned_words p.cells p.plan) (words_of s)
    → IsGoing s.under_way p.cells.state p.plan.stores history.spare → Keeps s (record s { cells = p.cells; plan = p.plan; history = history })
kept_law s p history was whole count same going =
    let held : HoldsSame (sizes_in s) s.room (words_of s) (planned_words p.cells p.plan) = same_room (sizes_in s) s.room (words_of s) (planned_words p.cells p.plan) was.stands same in
    record {
      room = record {
        sizes = was.sizes;
        number = was.number;
        cells = whole.cells_are;
        lines = count ∙ was.lines;
        stands = held.stands;
        planned = whole.planned;
        has_room = whole.has_places;
        going = going;
      };
      contents = held.holds;
    }

-- a room with no command under way and nothing planned, with the same records
pub moved_law : (s : CommandRoomState) (cells : CellBankState) (plan : PlanState) (history : NotedState) → IsCommandRoom s → s.under_way ≡ None → plan.stores ≡ [] → IsCellBank cells → length cells.bank.lines ≡ length s.cells.bank.lines
    → HasSameRecords (words_in cells.state cells.bank plan.stores) (words_of s) → Keeps s (record s { cells = cells; plan = plan; history = history })
moved_law s cells plan history was idle none whole count same =
    kept_law s (record { cells = cells; plan = plan }) history was (at_rest cells plan whole none) count same (idle_going s.under_way cells.state plan.stores history.spare idle none)

-- cells that change while no command is under way
pub idle_kept : (s : CommandRoomState) (p : PlannedState) → IsCommandRoom s → s.under_way ≡ None → p.plan ≡ s.plan → ArePlannedCells p.cells p.plan → length p.cells.bank.lines ≡ length s.cells.bank.lines
    → HasSameRecords (planned_words p.cells p.plan) (words_of s) → IsCommandRoom (record s { cells = p.cells; plan = p.plan })
idle_kept s p was idle plan whole count same =
    let none : p.plan.stores ≡ [] = ap (λ (k : PlanState). k.stores) plan ∙ none_left s.under_way s.cells.state s.plan.stores s.history.spare idle was.going in
    (kept_law s p s.history was whole count same (idle_going s.under_way p.cells.state p.plan.stores s.history.spare idle none)).room

-- cells that change while they do not run
pub still_kept : (s : CommandRoomState) (p : PlannedState) → IsCommandRoom s → (IsRunning s.cells.state → ⊥) → p.plan ≡ s.plan → ArePlannedCells p.cells p.plan → length p.cells.bank.lines ≡ length s.cells.bank.lines
    → HasSameRecords (planned_words p.cells p.plan) (words_of s) → IsCommandRoom (record s { cells = p.cells; plan = p.plan })
still_kept s p was still plan whole count same = idle_kept s p was (idle_where s.under_way s.cells.state s.plan.stores s.history.spare still was.going) plan whole count same

-- a command that is under way stays so in an epoch that is entered
enter_going : (under : Option UnderWay) (state : CellState) (epoch : ℕ) (stores : List PlannedStore) (spare : ℕ) → IsGoing under state stores spare → IsGoing under (Running epoch) stores spare
enter_going None state epoch stores spare going = going
enter_going (Some command) state epoch stores spare going = (tt, going.1)

-- cells that are entered
pub enter_kept : (s : CommandRoomState) (p : PlannedState) (epoch : ℕ) → IsCommandRoom s → p ≡ record { cells = with_state s.cells (Running epoch); plan = s.plan } → ArePlannedCells p.cells p.plan
    → length p.cells.bank.lines ≡ length s.cells.bank.lines → HasSameRecords (planned_words p.cells p.plan) (words_of s) → IsCommandRoom (record s { cells = p.cells; plan = p.plan })
enter_kept s p epoch was is whole count same =
    (kept_law s p s.history was whole count same
    (subst (λ (k : PlannedState). IsGoing s.under_way k.cells.state k.plan.stores s.history.spare) (sym is) (enter_going s.under_way s.cells.state epoch s.plan.stores s.history.spare was.going))).room

-- more room for stores changes no word
more_words : (state : CellState) (old new : BankState) (stores : List PlannedStore) → HasSameCells old new → words_in state new stores ≡ words_in state old stores
more_words (Torn e) old new stores same = more_held e old new same
more_words (Running e) old new stores same = ap (λ (r : RoomWords). stored_in r stores) (loads-same old new same)
more_words (Closing e) old new stores same = ap (λ (r : RoomWords). stored_in r stores) (loads-same old new same)
more_words (Saved e) old new stores same = ap (λ (r : RoomWords). stored_in r stores) (loads-same old new same)

-- a room with more room for stores and entries
pub more_kept : (s : CommandRoomState) (p : PlannedState) (history : NotedState) → IsCommandRoom s → s.under_way ≡ None → p ≡ record { cells = with_bank s.cells p.cells.bank; plan = s.plan } → HasSameCells s.cells.bank p.cells.bank
    → ArePlannedCells p.cells p.plan → Keeps s (record s { cells = p.cells; plan = p.plan; history = history })
more_kept s p history was idle is same whole =
    let none : p.plan.stores ≡ [] = ap (λ (k : PlannedState). k.plan.stores) is ∙ none_left s.under_way s.cells.state s.plan.stores s.history.spare idle was.going in
    let words : planned_words p.cells p.plan ≡ words_of s =
    ap (λ (k : PlannedState). words_in k.cells.state p.cells.bank k.plan.stores) is ∙ more_words s.cells.state s.cells.bank p.cells.bank s.plan.stores same in
    kept_law s p history was whole same.count (same_words (words_of s) (planned_words p.cells p.plan) words) (idle_going s.under_way p.cells.state p.plan.stores history.spare idle none)

-- and memory holds of it what it held
pub more_held_law : (cells : CellBankState) (p : PlannedState) (plan : PlanState) → p ≡ record { cells = with_bank cells p.cells.bank; plan = plan } → HasSameCells cells.bank p.cells.bank → memory_words_in p.cells ≡ memory_words_in cells
more_held_law cells p plan is same = ap (λ (k : PlannedState). memory_words (epoch_of k.cells.state) p.cells.bank) is ∙ more_held (epoch_of cells.state) cells.bank p.cells.bank same
