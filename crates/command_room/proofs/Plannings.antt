-- What a room may plan, and that planned writes may be stored.
use Rattle.std.proofs.Common.{◌≡◌, None, [], ◌∷◌, ◌++◌, refl, sym, ap}
use Rattle.line_memory.specs.Line.{bank_load}
use Rattle.room_model.specs.MapRoom.{live_layout}
use Rattle.room_model.specs.Writes.{write_stores}
use Rattle.room_laws.proofs.OneContents.{is_room}
use Rattle.incll_var.specs.Cells.{IsRunning, epoch_of}
use Rattle.incll_var.specs.Plans.{cleared}
use Rattle.incll_var.proofs.Planned.{planned_more}
use Rattle.command_room.specs.Room.{CommandRoomState, IsCommandRoom, words_of, sizes_in}
use Rattle.command_room.specs.Laws.{PlanningLaw, WritesPlannedLaw, WholeLaw}
use Rattle.planned_cells.proofs.Loads.{same_words}
use Rattle.command_room.proofs.Moves.{moved_law, none_left}
use Rattle.planned_cells.specs.Planned.{IsAtRest, words_in}
use Rattle.planned_cells.proofs.Rests.{running_rests}

-- the law on writes that are planned
pub writes_planned : WritesPlannedLaw
writes_planned cells stores [] whole running within planned = planned
writes_planned cells stores (x ∷ xs) whole running within planned =
    writes_planned cells (stores ++ write_stores (epoch_of cells.state) (bank_load cells.bank) stores x) xs whole running within.2
    (planned_more cells x.line stores x.word x.value whole running within.0 within.1 planned)

-- the law on a room that plans
pub planning : PlanningLaw
planning s plan was idle =
    let none : s.plan.stores ≡ [] = none_left s.under_way s.cells.state s.plan.stores s.history.spare idle was.going in
    (moved_law s s.cells (cleared plan) s.history was idle refl was.cells refl
    (same_words (words_of s) (words_in s.cells.state s.cells.bank []) (ap (words_in s.cells.state s.cells.bank) (sym none)))).room

-- the law on the whole that a room stands for
pub whole_stands : WholeLaw
whole_stands s c was part = is_room.whole live_layout (sizes_in s) s.room (words_of s) c was.stands part

-- where no command is under way no store is left
pub idle_plan : (s : CommandRoomState) → IsCommandRoom s → s.under_way ≡ None → s.plan.stores ≡ []
idle_plan s was idle = none_left s.under_way s.cells.state s.plan.stores s.history.spare idle was.going

-- the words of a room that may begin a command are its loads
pub ready_rests : (s : CommandRoomState) → IsCommandRoom s → IsRunning s.cells.state → s.under_way ≡ None → IsAtRest s.cells s.plan
ready_rests s was running idle = running_rests s.cells s.plan running (idle_plan s was idle)
