-- At the end of a recovery each room is one that a resumed life opens with.
use Rattle.std.proofs.Common.{◌≡◌, ℕ, ◌+◌, ◌<◌, List, length, refl, sym, ap, ◌∙◌, subst, arith}
use Rattle.std.specs.Prelude.{slice_index}
use Rattle.std.proofs.Math.ListN.{get_or-map}
use Rattle.room_model.specs.MapRoom.{live_layout}
use Rattle.life_model.specs.declared.life.Life.{Life}
use Rattle.room_laws.proofs.Words.{words, point_words}
use Rattle.incll_var.specs.declared.state.CellState.{CellState}
use Rattle.incll_var.specs.declared.state.CellState.TheVariants.{Torn, Running, Closing, Saved}
use Rattle.incll_var.specs.Cells.{IsSaved, IsSavedIn}
use Rattle.rooms.specs.declared.room.Room.{Room}
use Rattle.yard_model.specs.declared.view.Beginning.{Beginning}
use Rattle.rooms.specs.Rooms.{bank_of, state_of, loads}
use Rattle.yard_model.specs.Beginnings.{opening_of, sizes_at, first_epoch, recovery_marks}
use Rattle.yard_model.specs.Opens.{IsOpeningRoom}
use Rattle.epoch_word.specs.declared.stage.EpochStage.{EpochStage}
use Rattle.epoch_word.specs.declared.stage.EpochStage.TheVariants.{InMemory}
use Rattle.recovery.specs.Restored.{room_at, no_room}
use Rattle.recovery.specs.Recovering.{RecoveryState, IsInRestore, AreDone, IsRecovery, write_backs_of}
use Rattle.recovery.specs.Laws.{RoomsOpenLaw}
use Rattle.recovery.proofs.Events.{whole_cells, of_commands, of_thread}
use Rattle.recovery.proofs.Safe.{room_here, super_whole}
use Rattle.seq_object.specs.Sizes.{thread_room, super_room, room_count}
use Rattle.room_model.specs.Banks.{memory_words}
use Rattle.epoch_word.specs.Stages.{IsAtStage}
use Rattle.room_laws.proofs.MapLaws.{layouts}
use Rattle.room_model.specs.Rooms.{point_in}
use Rattle.seq_object.specs.History.{point_at}

-- a resumed life begins to run in the epoch behind the image's
runs_next : (b : Beginning) (r : RecoveryState) → IsRecovery (opening_of b) r → first_epoch b ≡ b.epoch + 1
runs_next b r is = ap (λ (life : Life). b.epoch + length (recovery_marks life)) is.life

-- cells that are saved at the image's epoch
saved_at : (m next : ℕ) (state : CellState) → next ≡ m + 1 → IsInRestore m state → IsSaved state → IsSavedIn (λ c. c + 1 ≡ next) state
saved_at m next (Torn e) is at saved = absurd saved
saved_at m next (Running e) is at saved = absurd saved
saved_at m next (Closing e) is at saved = absurd saved
saved_at m next (Saved e) is at saved = omega (arith, is, at)

module _ (b : Beginning) (r : RecoveryState) (is : IsRecovery (opening_of b) r) (at : r.stage ≡ InMemory) (counts : b.write_backs ≡ write_backs_of r.rooms) where
  done : AreDone r.stage
  done = subst AreDone (sym at) tt

  below : (k : ℕ) → k < super_room (sizes_at b) → k < room_count (sizes_at b)
  below k lt = omega (arith, lt)

  opens_at : (k : ℕ) → k < room_count (sizes_at b) → IsOpeningRoom b k (room_at r.rooms k)
  opens_at k lt =
      let room = room_here (opening_of b) r is k lt in
      record {
        kind = room.kind;
        idle = room.idle;
        history = room.history;
        write_backs = sym (ap (λ (ns : List ℕ). slice_index ns k) counts ∙ get_or-map (λ (x : Room). (bank_of x).write_backs) r.rooms k no_room);
        cells = λ cell. whole_cells b.settings k (room_at r.rooms k) cell room.kind.kind room.whole;
        saved = λ cell. saved_at b.epoch (first_epoch b) (state_of (room_at r.rooms k)) (runs_next b r is) (room.state cell) (room.done cell done);
        stands = λ le. words live_layout (sizes_at b) k (memory_words b.epoch (bank_of (room_at r.rooms k))) (loads (room_at r.rooms k)) (opening_of b).state.contents layouts.in_use (room.stands le)
            (λ line w three. let cell = of_commands b.settings k le in room.loaded cell (room.done cell done) line w three);
        eight = λ last. (super_whole b.settings k (room_at r.rooms k) last room.kind.kind room.whole).line.eight;
        nothing_pending = λ last. (subst (λ (s : EpochStage). IsAtStage s b.epoch (bank_of (room_at r.rooms k))) at (room.epoch last)).0.quiet;
        epoch = λ last. (subst (λ (s : EpochStage). IsAtStage s b.epoch (bank_of (room_at r.rooms k))) at (room.epoch last)).1 ∙ sym (runs_next b r is);
      }

  points_at : (i : ℕ) → i < b.settings.threads → point_in live_layout (loads (room_at r.rooms (thread_room (sizes_at b) i))) ≡ point_at b.points i
  points_at i lt =
      let k = thread_room (sizes_at b) i in
      let cell : k < super_room (sizes_at b) = of_thread b.settings k i lt refl in
      let room = room_here (opening_of b) r is k (below k cell) in
      point_words live_layout (memory_words b.epoch (bank_of (room_at r.rooms k))) (loads (room_at r.rooms k)) (λ line w three. room.loaded cell (room.done cell done) line w three) ∙ sym (room.point i lt refl)

pub rooms_open : RoomsOpenLaw
rooms_open b r is at counts = (opens_at b r is at counts, points_at b r is at counts)
