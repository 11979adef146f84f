-- In an epoch that is entered the position is not yet written.
use Rattle.std.proofs.Common.{◌≡◌, ℕ, ◌<◌, List, slice_index, arith, ap}
use Rattle.line_memory.specs.declared.store.Store.{Store}
use Rattle.line_memory.specs.Line.{LineState, latest, loaded}
use Rattle.incll_var.specs.declared.state.CellState.{CellState}
use Rattle.incll_var.specs.declared.state.CellState.TheVariants.{Torn, Running, Closing, Saved}
use Rattle.incll_var.specs.Cells.{IsCellIn, IsRunning, IsSaved, MayEnter, epoch_of}
use Rattle.incll_var.specs.Restore.{IsQuietCell}
use Rattle.planned_cells.proofs.Rests.{none_left}
use Rattle.restart_point.specs.Rooms.{line_in}
use Rattle.restart_point.specs.Laws.{UnwrittenLaw}

-- saved cells do not run
saved_still : (state : CellState) → IsSaved state → IsRunning state → ⊥
saved_still (Torn e) saved running = running
saved_still (Running e) saved running = saved
saved_still (Closing e) saved running = running
saved_still (Saved e) saved running = running

-- a saved cell is quiet
quiet : (state : CellState) (l : LineState) → IsSaved state → IsCellIn state l → IsQuietCell (epoch_of state) l
quiet (Torn e) l saved is = absurd saved
quiet (Running e) l saved is = absurd saved
quiet (Closing e) l saved is = absurd saved
quiet (Saved e) l saved is = is

-- the epoch that is entered is a later one
later : (state : CellState) (epoch : ℕ) → IsSaved state → MayEnter state epoch → epoch_of state < epoch
later (Torn e) epoch saved may = absurd saved
later (Running e) epoch saved may = absurd saved
later (Closing e) epoch saved may = absurd saved
later (Saved e) epoch saved may = may

-- the law
pub unwritten : UnwrittenLaw
unwritten room epoch is saved may =
    let l : LineState = line_in room in
    let one = is.one in
    let cell : IsQuietCell (epoch_of room.cells.state) l = quiet room.cells.state l saved (is.cells.cells 0 (omega (arith, one))) in
    let low = cell.tag in
    let less = later room.cells.state epoch saved may in
    let load : loaded l 6 ≡ slice_index l.base 6 = ap (λ (ss : List Store). latest (slice_index l.base 6) 6 ss) cell.pending in
    record {
      running = tt;
      idle = none_left room.cells.state room.plan.stores (saved_still room.cells.state saved) (λ left. (is.under_way left).running);
      quiet = cell.pending;
      tag = λ same. omega (arith, low, less, load, same);
    }
