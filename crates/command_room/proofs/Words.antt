-- When a room holds the same by other words, and what cells that run mean.
use Rattle.std.proofs.Common.{◌≡◌, ℕ, List, refl, ap, sym, ◌∙◌}
use Rattle.seq_object.specs.declared.settings.Settings.{Settings}
use Rattle.seq_object.specs.Sizes.{sizes_of}
use Rattle.seq_object.specs.Object.{Contents}
use Rattle.line_memory.specs.Line.{BankState, bank_load}
use Rattle.room_model.specs.declared.write.PlannedStore.{PlannedStore}
use Rattle.room_model.specs.Chains.{RoomWords, HasSameRecords}
use Rattle.room_model.specs.MapRoom.{live_layout, IsLayout}
use Rattle.room_model.specs.Rooms.{StandsFor}
use Rattle.room_model.specs.Writes.{stored_in}
use Rattle.room_model.specs.Walks.{contents_of, IsRoom}
use Rattle.room_laws.proofs.Words.{words}
use Rattle.room_laws.proofs.OneContents.{contents, stands_itself}
use Rattle.room_laws.proofs.MapLaws.{layouts}
use Rattle.incll_var.specs.declared.state.CellState.{CellState}
use Rattle.incll_var.specs.declared.state.CellState.TheVariants.{Torn, Running, Closing, Saved}
use Rattle.incll_var.specs.Cells.{IsRunning}
use Rattle.planned_cells.specs.Planned.{words_in}
use Rattle.command_room.specs.Room.{words_of, sizes_in}
use Rattle.command_room.specs.Laws.{SameContentsLaw}
use Rattle.seq_object.specs.declared.sizes.Sizes.{Sizes}

-- the layout in use is one
pub laid : IsLayout live_layout
laid = layouts.in_use

-- a room that other words make the same one
pub record HoldsSame (z : Sizes) (room : ℕ) (old new : RoomWords) : Type 0 where
  pub stands : IsRoom live_layout z room new
  pub holds : contents_of live_layout z room new ≡ contents_of live_layout z room old

-- words with the same records make the same room
pub same_room : (z : Sizes) (room : ℕ) (r q : RoomWords) → IsRoom live_layout z room r → HasSameRecords q r → HoldsSame z room r q
same_room z room r q own same =
    let c : Contents = contents_of live_layout z room r in
    let stands : StandsFor live_layout z room q c = words live_layout z room r q c laid own same in
    record {
      stands = stands_itself live_layout z room q c laid stands;
      holds = contents live_layout z room q c laid stands ∙ sym (contents live_layout z room r c laid own);
    }

-- cells that run mean what stands behind the stores that are left
pub running_words : (state : CellState) (bank : BankState) (stores : List PlannedStore) → IsRunning state → words_in state bank stores ≡ stored_in (bank_load bank) stores
running_words (Torn e) bank stores running = absurd running
running_words (Running e) bank stores running = refl
running_words (Closing e) bank stores running = absurd running
running_words (Saved e) bank stores running = absurd running

-- the law on rooms whose words keep their records
pub same_contents : SameContentsLaw
same_contents s t was settings number same =
    ap (λ (k : Settings). contents_of live_layout (sizes_of k) t.room (words_of t)) settings
    ∙ ap (λ (n : ℕ). contents_of live_layout (sizes_in s) n (words_of t)) number
    ∙ (same_room (sizes_in s) s.room (words_of s) (words_of t) was.stands same).holds
