-- What each event of a turn leaves of a room: its end, and the write-backs that it counted.
use Rattle.std.proofs.Common.{◌≡◌, ◌≢◌, ℕ, suc, ◌+◌, ◌-◌, ◌<◌, ◌≤◌, ◌^◌, ◌||◌, cond, Bool, List, [], ◌∷◌, ◌++◌, length, Option, refl, ap, ◌∙◌, arith}
use Rattle.std.specs.Prelude.{slice_index}
use Rattle.std.proofs.lemmas.Bool.{ne_eqb}
use Rattle.seq_object.specs.declared.command.Command.{Command}
use Rattle.seq_object.specs.declared.command.Reply.{Reply}
use Rattle.seq_object.specs.declared.history.Entry.{Entry}
use Rattle.seq_object.specs.declared.history.RestartPoint.{RestartPoint}
use Rattle.line_memory.specs.declared.store.Store.{Store}
use Rattle.line_memory.specs.Line.{counted, bank_load, loaded, latest, line_at}
use Rattle.room_model.specs.declared.write.PlannedStore.{PlannedStore}
use Rattle.room_model.specs.Writes.{store, backup_stores, touches}
use Rattle.incll_var.specs.declared.state.CellState.{CellState}
use Rattle.incll_var.specs.declared.state.CellState.TheVariants.{Torn, Running, Closing, Saved}
use Rattle.incll_var.specs.Cells.{CellBankState, IsCellBank, IsCellIn, IsSavedIn, played, with_state}
use Rattle.incll_var.specs.Plans.{behind_first}
use Rattle.restart_point.specs.declared.thread_end.ThreadEnd.{ThreadEnd}
use Rattle.restart_point.specs.Rooms.{ThreadRoomState, with_cells as with_thread_cells, begun as point_begun, position_stores}
use Rattle.command_room.specs.declared.under_way.UnderWay.{UnderWay}
use Rattle.rooms.specs.declared.room.Room.{Room}
use Rattle.rooms.specs.declared.room.Room.TheVariants.{Map, Queue, Thread, Super}
use Rattle.rooms.specs.Rooms.{bank_of, end_of, cells_of, state_of, IsIdle, HasCells}
use Rattle.room_in_hand.specs.Known.{Knowledge}
use Rattle.room_in_hand.specs.InHand.{working, writing_point, IsInHand}
use Rattle.room_in_hand.specs.Working.{stores_left, stored, HasBegun, entry_noted, point_planned, IsThread}
use Rattle.room_in_hand.specs.Events.{begun, written, fenced}

-- two rooms of the same end and count
pub record CountsAlike (x y : Room) : Type 0 where
  pub end : end_of y ≡ end_of x
  pub write_backs : (bank_of y).write_backs ≡ (bank_of x).write_backs

-- STORES.
played_same : (b : CellBankState) (ss : List PlannedStore) → (played b ss).bank.write_backs ≡ b.bank.write_backs
played_same b [] = refl
played_same b (s ∷ ss) = refl

pub stored_alike : (x : Room) → CountsAlike x (stored x)
stored_alike (Map x) = record { end = refl; write_backs = played_same x.cells x.plan.stores }
stored_alike (Queue x) = record { end = refl; write_backs = played_same x.cells x.plan.stores }
stored_alike (Thread x) = record { end = refl; write_backs = played_same x.cells x.plan.stores }
stored_alike (Super x) = record { end = refl; write_backs = refl }

one_fewer : (ss : List PlannedStore) → 0 < length ss → length ss ≡ suc (length (behind_first ss))
one_fewer [] some_left = absurd (omega (arith, some_left))
one_fewer (s ∷ ss) some_left = refl

pub stores_fewer : (x : Room) → 0 < stores_left x → stores_left x ≡ suc (stores_left (stored x))
stores_fewer (Map x) some_left = one_fewer x.plan.stores some_left
stores_fewer (Queue x) some_left = one_fewer x.plan.stores some_left
stores_fewer (Thread x) some_left = one_fewer x.plan.stores some_left
stores_fewer (Super x) some_left = absurd (omega (arith, some_left))

pub few_for_command : (under : UnderWay) (k : Knowledge) (x : Room) → IsInHand (working under) k x → stores_left x ≤ 22
few_for_command under k (Map x) is = is.used.few_left
few_for_command under k (Queue x) is = is.used.few_left
few_for_command under k (Thread x) is = absurd is.used
few_for_command under k (Super x) is = absurd is.used

pub few_for_point : (point : RestartPoint) (end : ThreadEnd) (k : Knowledge) (x : Room) → IsInHand (writing_point point end) k x → stores_left x ≤ 5
few_for_point point end k (Map x) is = absurd is.used
few_for_point point end k (Queue x) is = absurd is.used
few_for_point point end k (Thread x) is = is.used.few_left
few_for_point point end k (Super x) is = absurd is.used

pub end_for_point : (point : RestartPoint) (end : ThreadEnd) (k : Knowledge) (x : Room) → IsInHand (writing_point point end) k x → end_of x ≡ end
end_for_point point end k (Map x) is = absurd is.used
end_for_point point end k (Queue x) is = absurd is.used
end_for_point point end k (Thread x) is = is.used.end_is
end_for_point point end k (Super x) is = absurd is.used

-- BEGINS.
pub begun_alike : (epoch : ℕ) (command : Command) (reply : Option Reply) (x y : Room) → HasBegun epoch command reply x y → CountsAlike x y
begun_alike epoch command reply (Map s) (Map t) is = record { end = refl; write_backs = is.same.write_backs }
begun_alike epoch command reply (Map s) (Queue t) is = absurd is
begun_alike epoch command reply (Map s) (Thread t) is = absurd is
begun_alike epoch command reply (Map s) (Super t) is = absurd is
begun_alike epoch command reply (Queue s) (Map t) is = absurd is
begun_alike epoch command reply (Queue s) (Queue t) is = record { end = refl; write_backs = is.same.write_backs }
begun_alike epoch command reply (Queue s) (Thread t) is = absurd is
begun_alike epoch command reply (Queue s) (Super t) is = absurd is
begun_alike epoch command reply (Thread s) y is = absurd is
begun_alike epoch command reply (Super s) y is = absurd is

pub noted_alike : (x : Room) (ticket : ℕ) (entry : Entry) → CountsAlike x (entry_noted x ticket entry)
noted_alike (Map x) ticket entry = record { end = refl; write_backs = refl }
noted_alike (Queue x) ticket entry = record { end = refl; write_backs = refl }
noted_alike (Thread x) ticket entry = record { end = refl; write_backs = refl }
noted_alike (Super x) ticket entry = record { end = refl; write_backs = refl }

pub planned_count : (epoch position : ℕ) (end : ThreadEnd) (x : Room) → (bank_of (point_planned epoch position end x)).write_backs ≡ (bank_of x).write_backs
planned_count epoch position end (Map x) = refl
planned_count epoch position end (Queue x) = refl
planned_count epoch position end (Thread x) = refl
planned_count epoch position end (Super x) = refl

-- the write of a restart point has five stores, where its room was saved in an epoch before
old_tag : (state : CellState) (cells : CellBankState) (epoch : ℕ) → cells.state ≡ state → IsSavedIn (λ c. c < epoch) state → IsCellIn state (line_at cells.bank.lines 0) → bank_load cells.bank 0 6 ≢ epoch
old_tag (Torn c) cells epoch is saved cell = absurd saved
old_tag (Running c) cells epoch is saved cell = absurd saved
old_tag (Closing c) cells epoch is saved cell = absurd saved
old_tag (Saved c) cells epoch is saved cell =
    let load : loaded (line_at cells.bank.lines 0) 6 ≡ slice_index (line_at cells.bank.lines 0).base 6 =
    ap (λ (ss : List Store). latest (slice_index (line_at cells.bank.lines 0).base 6) 6 ss) cell.pending in
    let low = cell.tag in
    λ same. omega (arith, low, saved, load, same)

five_in : (epoch position : ℕ) (end : ThreadEnd) (x : ThreadRoomState) → IsCellBank x.cells → 0 < length x.cells.bank.lines → x.plan.stores ≡ [] → IsSavedIn (λ c. c < epoch) x.cells.state
    → length (point_begun (with_thread_cells x (with_state x.cells (Running epoch))) position end).plan.stores ≡ 5
five_in epoch position end x cells some_line idle saved =
    let other = old_tag x.cells.state x.cells epoch refl saved (cells.cells 0 some_line) in
    ap (λ (ss : List PlannedStore). length (ss ++ position_stores (with_state x.cells (Running epoch)) position)) idle
    ∙ ap (λ (b : Bool). length (cond (b || touches 0 []) (store 0 0 position ∷ []) (backup_stores epoch (bank_load x.cells.bank) 0 ++ store 0 0 position ∷ []))) (ne_eqb (bank_load x.cells.bank 0 6) epoch other)

pub five_stores : (epoch position : ℕ) (end : ThreadEnd) (x : Room) → IsThread x → IsCellBank (cells_of x) → 0 < length (bank_of x).lines → IsIdle x → IsSavedIn (λ c. c < epoch) (state_of x)
    → stores_left (point_planned epoch position end x) ≡ 5
five_stores epoch position end (Map x) is cells some_line idle saved = absurd is
five_stores epoch position end (Queue x) is cells some_line idle saved = absurd is
five_stores epoch position end (Thread x) is cells some_line idle saved = five_in epoch position end x cells some_line idle saved
five_stores epoch position end (Super x) is cells some_line idle saved = absurd is

-- CLOSINGS.
pub begun_closing_alike : (x : Room) → CountsAlike x (begun x)
begun_closing_alike (Map x) = record { end = refl; write_backs = refl }
begun_closing_alike (Queue x) = record { end = refl; write_backs = refl }
begun_closing_alike (Thread x) = record { end = refl; write_backs = refl }
begun_closing_alike (Super x) = record { end = refl; write_backs = refl }

pub fenced_alike : (x : Room) → CountsAlike x (fenced x)
fenced_alike (Map x) = record { end = refl; write_backs = refl }
fenced_alike (Queue x) = record { end = refl; write_backs = refl }
fenced_alike (Thread x) = record { end = refl; write_backs = refl }
fenced_alike (Super x) = record { end = refl; write_backs = refl }

pub written_end : (x : Room) → end_of (written x) ≡ end_of x
written_end (Map x) = refl
written_end (Queue x) = refl
written_end (Thread x) = refl
written_end (Super x) = refl

-- a room of cells that is written back counts one more, where its count is not at its type's end
pub one_counted : (n : ℕ) → n < 2 ^ 64 - 1 → counted n ≡ n + 1
one_counted n lt = omega (arith, lt)

pub written_count : (x : Room) → HasCells x → (bank_of x).write_backs < 2 ^ 64 - 1 → (bank_of (written x)).write_backs ≡ (bank_of x).write_backs + 1
written_count (Map x) is lt = one_counted x.cells.bank.write_backs lt
written_count (Queue x) is lt = one_counted x.cells.bank.write_backs lt
written_count (Thread x) is lt = one_counted x.cells.bank.write_backs lt
written_count (Super x) is lt = absurd is
