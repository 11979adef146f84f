-- A formatted room is one.
use Rattle.std.proofs.Common.{◌≡◌, ℕ, ◌≤◌, ◌==◌, Bool, [], refl, arith, sym, subst, if◌then◌else◌}
use Rattle.seq_object.specs.Sizes.{sizes_of, AreValid}
use Rattle.seq_object.specs.Object.{no_contents}
use Rattle.line_memory.specs.Line.{BankState, bank_load}
use Rattle.room_model.specs.Chains.{RoomWords}
use Rattle.room_model.specs.MapRoom.{live_layout}
use Rattle.room_model.specs.Rooms.{StandsFor}
use Rattle.room_model.specs.Formatted.{formatted, first_node}
use Rattle.room_laws.proofs.Tests.{by_Bool}
use Rattle.room_laws.proofs.Words.{words}
use Rattle.room_laws.proofs.OneContents.{stands_itself}
use Rattle.room_laws.proofs.Formatted.{formatted_room}
use Rattle.incll_var.specs.declared.state.CellState.{CellState}
use Rattle.incll_var.specs.declared.state.CellState.TheVariants.{Torn, Running, Closing, Saved}
use Rattle.incll_var.specs.Cells.{IsSaved}
use Rattle.command_room.specs.Laws.{FormattedRoomLaw}
use Rattle.command_room.proofs.Words.{laid}
use Rattle.room_model.specs.Walks.{IsRoom}
use Rattle.planned_cells.specs.Planned.{words_in}
use Rattle.seq_object.specs.declared.sizes.Sizes.{Sizes}

-- saved cells mean their loads
saved_words : (state : CellState) (bank : BankState) → IsSaved state → words_in state bank [] ≡ bank_load bank
saved_words (Torn e) bank saved = absurd saved
saved_words (Running e) bank saved = absurd saved
saved_words (Closing e) bank saved = absurd saved
saved_words (Saved e) bank saved = refl

-- the first node line is one of the room
first_fits : (z : Sizes) (room : ℕ) → AreValid z → first_node live_layout z room ≤ z.lines
first_fits z room valid = let some = valid.some_lines in by_Bool (λ (b : Bool). (if b then 2 else 9) ≤ z.lines) (room == z.shards) (λ h. omega (arith, some)) (λ h. omega (arith, some))

-- the law on formatted rooms
pub formatted_may : FormattedRoomLaw
formatted_may settings room cells valid number whole lines saved same =
    let z = sizes_of settings in
    let f : RoomWords = formatted (first_node live_layout z room) in
    let r = bank_load cells.bank in
    let stands : StandsFor live_layout z room r no_contents = words live_layout z room f r no_contents laid (formatted_room live_layout z room laid (first_fits z room valid)) same in
    record {
      sizes = valid;
      number = number;
      whole = whole;
      lines = lines;
      stands = subst (IsRoom live_layout z room) (sym (saved_words cells.state cells.bank saved)) (stands_itself live_layout z room r no_contents laid stands);
    }
