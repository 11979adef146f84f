-- What the tests rest on: the room that memory holds, and the states of cells.
use Rattle.std.proofs.Common.{◌≡◌, ℕ, Bool, List, [], ◌∷◌, refl, arith, sym, ap, ◌∙◌, subst, length, if◌then◌else◌}
use Rattle.std.proofs.lemmas.Bool.{ne_eqb}
use Rattle.seq_object.specs.declared.settings.Settings.{Settings}
use Rattle.seq_object.specs.Sizes.{sizes_of}
use Rattle.line_memory.specs.Line.{bank_load}
use Rattle.room_model.specs.declared.write.PlannedStore.{PlannedStore}
use Rattle.room_model.specs.Chains.{RoomWords, HasSameRecords}
use Rattle.room_model.specs.MapRoom.{live_layout}
use Rattle.incll_var.specs.declared.state.CellState.{CellState}
use Rattle.incll_var.specs.declared.state.CellState.TheVariants.{Torn, Running, Closing, Saved}
use Rattle.incll_var.specs.Cells.{IsTorn, CellBankState, IsCellBank, IsSaved, closing_state, played, epoch_of}
use Rattle.command_room.specs.Room.{MayBeRoom, sizes_in, memory_words_of, words_of, entered, CommandRoomState}
use Rattle.command_room.proofs.Words.{same_room}
use Rattle.locked_queue.specs.Queue.{IsQueue}
use Rattle.locked_queue.specs.Tests.{IsIdle, IsQueueOf}
use Rattle.planned_cells.proofs.Rests.{rest_words}
use Rattle.command_room.proofs.Plannings.{idle_plan}
use Rattle.room_model.specs.Banks.{memory_words}
use Rattle.room_model.specs.Walks.{IsRoom}
use Rattle.planned_cells.specs.Planned.{words_in}

-- a store leaves the state
pub played-state : (cells : CellBankState) (stores : List PlannedStore) → (played cells stores).state ≡ cells.state
played-state cells [] = refl
played-state cells (s ∷ ss) = refl

-- where a line was stored to, running cells are closing behind the begin of a closing
pub closing-is : (n epoch : ℕ) (state : CellState) → state ≡ Running epoch → (n ≡ 0 → ⊥) → closing_state n state ≡ Closing epoch
closing-is n epoch state is some = ap (closing_state n) is ∙ ap (λ (b : Bool). if b then Saved epoch else Closing epoch) (ne_eqb n 0 some)

-- saved cells are not torn
saved_whole : (state : CellState) → IsSaved state → IsTorn state → ⊥
saved_whole (Torn e) saved torn = saved
saved_whole (Running e) saved torn = torn
saved_whole (Closing e) saved torn = torn
saved_whole (Saved e) saved torn = torn

-- where a later epoch begins on the saved queue room of these settings, memory holds it
pub entered_holds : (settings : Settings) (s : CommandRoomState) (epoch : ℕ) → IsQueue s → IsIdle settings s → IsSaved s.cells.state → HasSameRecords (memory_words_of (entered s epoch)) (bank_load s.cells.bank)
    → IsQueueOf settings (memory_words_of (entered s epoch))
entered_holds settings s epoch queue idle saved same =
    let held : RoomWords = memory_words_of (entered s epoch) in
    let whole : words_of s ≡ bank_load s.cells.bank = rest_words s.cells s.plan (record { left = idle_plan s queue.room idle.idle; whole = saved_whole s.cells.state saved }) in
    let own : IsRoom live_layout (sizes_in s) s.room held = (same_room (sizes_in s) s.room (words_of s) held queue.room.stands (λ line w lt. same line w lt ∙ sym (ap (λ (r : RoomWords). r line w) whole))).stands in
    let there : IsRoom live_layout (sizes_of settings) s.room held = subst (λ (k : Settings). IsRoom live_layout (sizes_of k) s.room held) idle.settings_are own in
    record { stands = subst (λ (n : ℕ). IsRoom live_layout (sizes_of settings) n held) idle.number there }

-- torn cells of sixteen lines whose bank holds at their epoch what saved cells of a queue room hold may be that room
pub torn_may_be : (old cells : CellBankState) (epoch : ℕ) → IsQueueOf (record { threads = 1; shards = 1; lines = 16; every = 1 }) (memory_words (epoch_of old.state) old.bank) → old.state ≡ Saved epoch
    → cells.state ≡ Torn epoch → memory_words epoch cells.bank ≡ memory_words epoch old.bank → IsCellBank cells → length cells.bank.lines ≡ 16 → MayBeRoom (record { threads = 1; shards = 1; lines = 16; every = 1 }) 1 cells
torn_may_be old cells epoch holds saved torn held whole count =
    let one : Settings = record { threads = 1; shards = 1; lines = 16; every = 1 } in
    let words : memory_words (epoch_of old.state) old.bank ≡ words_in cells.state cells.bank [] =
    ap (λ (state : CellState). memory_words (epoch_of state) old.bank) saved ∙ sym held ∙ sym (ap (λ (state : CellState). words_in state cells.bank []) torn) in
    record {
      sizes = record { some_threads = omega arith; few_threads = omega arith; some_shards = omega arith; few_shards = omega arith; some_lines = omega arith; few_lines = omega arith };
      number = omega arith;
      whole = whole;
      lines = count;
      stands = subst (IsRoom live_layout (sizes_of one) 1) words holds.stands;
    }
