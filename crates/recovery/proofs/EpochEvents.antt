-- What the events of the epoch write keep of the rooms in a recovery.
use Rattle.std.proofs.Common.{◌≡◌, ◌≢◌, ℕ, ◌+◌, ◌-◌, ◌^◌, ◌<◌, false, List, length, refl, sym, ◌∙◌, subst, arith, length-set}
use Rattle.std.proofs.Math.ListN.{length-map}
use Rattle.line_memory.specs.Line.{BankState, fenced, bank_stored, bank_written_back, bank_fenced}
use Rattle.life_model.specs.Life.{Opening, sizes}
use Rattle.epoch_word.specs.SuperLine.{IsSuperRoom}
use Rattle.epoch_word.proofs.Stages.{store_law, write_back_law, fenced_law}
use Rattle.rooms.specs.declared.room.Room.{Room}
use Rattle.rooms.specs.declared.room.Room.TheVariants.{Map, Queue, Thread, Super}
use Rattle.rooms.specs.Rooms.{IsKindOf, IsWhole}
use Rattle.epoch_word.specs.declared.stage.EpochStage.{EpochStage}
use Rattle.epoch_word.specs.declared.stage.EpochStage.TheVariants.{Before, Stored, AskedFor, InMemory}
use Rattle.recovery.specs.Restored.{MayGoOn, room_at, restored_on, any_left}
use Rattle.recovery.specs.Recovering.{RecoveryState, AreDone, IsRoomIn, IsRecovery, EachFrom, MayStoreIn, MayStore, next_stored, written_back, in_memory, with_last}
use Rattle.recovery.proofs.Events.{no_super, no_map, no_queue, of_commands, of_thread, goes_on}
use Rattle.recovery.proofs.Lists.{IsRoomDone, AreRestoredFrom, each_at, each_set, each_restored, each_done, as_many}
use Rattle.seq_object.specs.Sizes.{super_room, room_count, line_count}
use Rattle.room_model.specs.EpochLine.{loaded_epoch}
use Rattle.epoch_word.specs.Stages.{IsAtStage}

-- A room of cells waits.

-- while the next epoch is stored
waits : (o : Opening) (k : ℕ) (x : Room) → k ≢ super_room (sizes o) → IsRoomDone o k x → IsRoomIn o Stored k x
waits o k x other is = record {
  kind = is.room.kind;
  whole = is.room.whole;
  idle = is.room.idle;
  history = is.room.history;
  state = is.room.state;
  done = λ lt done. is.saved lt;
  stands = is.room.stands;
  point = is.room.point;
  loaded = is.room.loaded;
  epoch = λ at. absurd (other at);
}

-- and behind it
waits_on : (o : Opening) (stage next : EpochStage) (k : ℕ) (x : Room) → AreDone stage → k ≢ super_room (sizes o) → IsRoomIn o stage k x → IsRoomIn o next k x
waits_on o stage next k x was other is = record {
  kind = is.kind;
  whole = is.whole;
  idle = is.idle;
  history = is.history;
  state = is.state;
  done = λ lt done. is.done lt was;
  stands = is.stands;
  point = is.point;
  loaded = is.loaded;
  epoch = λ at. absurd (other at);
}

-- The super room.

-- a bank as the super room of a recovery
pub super_in : (o : Opening) (stage : EpochStage) (k : ℕ) (b : BankState) → k ≡ super_room (sizes o) → length b.lines ≡ line_count (sizes o) k → IsSuperRoom b → IsAtStage stage o.epoch b → IsRoomIn o stage k (Super b)
super_in o stage k b is lines whole word = record {
  kind = record { kind = is; lines = lines };
  whole = whole;
  idle = tt;
  history = refl;
  state = λ lt. absurd (no_super o.settings k is lt);
  done = λ lt. absurd (no_super o.settings k is lt);
  stands = λ le. absurd (no_super o.settings k is (of_commands o.settings k le));
  point = λ i lt at. absurd (no_super o.settings k is (of_thread o.settings k i lt at));
  loaded = λ lt. absurd (no_super o.settings k is lt);
  epoch = λ at. word;
}

room_stored : (o : Opening) (k : ℕ) (x : Room) → k ≡ super_room (sizes o) → IsRoomIn o Before k x → IsKindOf o.settings k x → IsWhole (next_stored x) → IsRoomIn o Stored k (next_stored x)
room_stored o k (Map b) at is kind whole = absurd (no_map o.settings k at kind.0)
room_stored o k (Queue b) at is kind whole = absurd (no_queue o.settings k at kind.0)
room_stored o k (Thread b) at is kind whole = absurd (no_super o.settings k at kind.1)
room_stored o k (Super b) at is kind whole = super_in o Stored k (bank_stored b 0 0 (loaded_epoch b + 1)) at (length-set b.lines 0 _ ∙ is.kind.lines) whole (store_law b o.epoch is.whole (is.epoch at))

room_asked : (o : Opening) (k : ℕ) (x : Room) → k ≡ super_room (sizes o) → IsRoomIn o Stored k x → IsKindOf o.settings k x → IsWhole (written_back x) → IsRoomIn o AskedFor k (written_back x)
room_asked o k (Map b) at is kind whole = absurd (no_map o.settings k at kind.0)
room_asked o k (Queue b) at is kind whole = absurd (no_queue o.settings k at kind.0)
room_asked o k (Thread b) at is kind whole = absurd (no_super o.settings k at kind.1)
room_asked o k (Super b) at is kind whole = super_in o AskedFor k (bank_written_back b 0) at (length-set b.lines 0 _ ∙ is.kind.lines) whole (write_back_law b o.epoch is.whole (is.epoch at))

room_fenced : (o : Opening) (k : ℕ) (x : Room) → k ≡ super_room (sizes o) → IsRoomIn o AskedFor k x → IsKindOf o.settings k x → IsWhole (in_memory x) → IsRoomIn o InMemory k (in_memory x)
room_fenced o k (Map b) at is kind whole = absurd (no_map o.settings k at kind.0)
room_fenced o k (Queue b) at is kind whole = absurd (no_queue o.settings k at kind.0)
room_fenced o k (Thread b) at is kind whole = absurd (no_super o.settings k at kind.1)
room_fenced o k (Super b) at is kind whole = super_in o InMemory k (bank_fenced b) at (length-map b.lines fenced ∙ is.kind.lines) whole (fenced_law b o.epoch is.whole (is.epoch at))

-- The recovery.

-- the last room is the super room
pub last_is : (o : Opening) (rooms : List Room) → length rooms ≡ room_count (sizes o) → super_room (sizes o) ≡ 0 + (length rooms - 1)
last_is o rooms number = omega (arith, number)

pub last_lt : (o : Opening) (rooms : List Room) → length rooms ≡ room_count (sizes o) → length rooms - 1 < length rooms
last_lt o rooms number = omega (arith, number)

-- one with these rooms, at this stage
pub in_stage : (o : Opening) (r : RecoveryState) (rooms : List Room) (stage : EpochStage) → IsRecovery o r → length rooms ≡ length r.rooms → EachFrom (IsRoomIn o stage) 0 rooms → IsRecovery o (record r { rooms = rooms; stage = stage })
in_stage o r rooms stage is count each = record {
  settings = is.settings;
  valid = is.valid;
  life = is.life;
  some = is.some;
  fits = is.fits;
  points = is.points;
  number = count ∙ is.number;
  rooms = each;
}

-- the rooms before an event: each may go on
pub rooms_go_on : (o : Opening) (stage : EpochStage) (rooms : List Room) → EachFrom (IsRoomIn o stage) 0 rooms → (k : ℕ) → k < length rooms → MayGoOn (room_at rooms k)
rooms_go_on o stage rooms each k lt = goes_on o stage k (room_at rooms k) (each_at (IsRoomIn o stage) 0 k k rooms (omega arith) lt each)

-- while rooms are restored
pub restoring_goes : (o : Opening) (r : RecoveryState) → r.stage ≡ Before → IsRecovery o r → AreRestoredFrom r.rooms (restored_on r.rooms) → IsRecovery o (record r { rooms = restored_on r.rooms })
restoring_goes o r at is from =
    subst (λ (s : EpochStage). IsRecovery o (record r { rooms = restored_on r.rooms; stage = s })) (sym at)
    (in_stage o r (restored_on r.rooms) Before is (as_many r.rooms)
    (each_restored o 0 r.rooms from (subst (λ (s : EpochStage). EachFrom (IsRoomIn o s) 0 r.rooms) at is.rooms)))

-- where no event was left each room is done
done_rooms : (o : Opening) (r : RecoveryState) → r.stage ≡ Before → IsRecovery o r → any_left r.rooms ≡ false → AreRestoredFrom r.rooms (restored_on r.rooms) → EachFrom (IsRoomDone o) 0 (restored_on r.rooms)
done_rooms o r at is none from = each_done o 0 r.rooms none from (subst (λ (s : EpochStage). EachFrom (IsRoomIn o s) 0 r.rooms) at is.rooms)

may_store_in : (o : Opening) (k : ℕ) (x : Room) → o.epoch + 1 < 2 ^ 32 → k ≡ super_room (sizes o) → IsRoomIn o Before k x → IsKindOf o.settings k x → MayStoreIn x
may_store_in o k (Map b) fits at is kind = tt
may_store_in o k (Queue b) fits at is kind = tt
may_store_in o k (Thread b) fits at is kind = tt
may_store_in o k (Super b) fits at is kind = let word = is.epoch at in let epoch : loaded_epoch b ≡ o.epoch = word.1 in (word.0.quiet, omega (arith, epoch, fits))

-- and the next epoch may be stored
pub may_store : (o : Opening) (r : RecoveryState) → r.stage ≡ Before → IsRecovery o r → any_left r.rooms ≡ false → AreRestoredFrom r.rooms (restored_on r.rooms)
    → MayStore (room_at (restored_on r.rooms) (length (restored_on r.rooms) - 1))
may_store o r at is none from =
    let number = as_many r.rooms ∙ is.number in
    let n = super_room (sizes o) in
    let last = each_at (IsRoomDone o) 0 (length (restored_on r.rooms) - 1) n (restored_on r.rooms) (last_is o (restored_on r.rooms) number) (last_lt o (restored_on r.rooms) number) (done_rooms o r at is none from) in
    record { whole = last.room.whole; may = may_store_in o n (room_at (restored_on r.rooms) (length (restored_on r.rooms) - 1)) is.fits refl last.room last.room.kind.kind }

pub store_goes : (o : Opening) (r : RecoveryState) → r.stage ≡ Before → IsRecovery o r → any_left r.rooms ≡ false → AreRestoredFrom r.rooms (restored_on r.rooms)
    → IsWhole (next_stored (room_at (restored_on r.rooms) (length (restored_on r.rooms) - 1)))
    → IsRecovery o (record r { rooms = with_last next_stored (restored_on r.rooms); stage = Stored })
store_goes o r at is none from whole =
    let rooms = restored_on r.rooms in
    let number = as_many r.rooms ∙ is.number in
    let n = super_room (sizes o) in
    in_stage o r (with_last next_stored rooms) Stored is (length-set rooms (length rooms - 1) _ ∙ as_many r.rooms)
    (each_set (IsRoomDone o) (IsRoomIn o Stored) next_stored 0 (length rooms - 1) n rooms (last_is o rooms number) (last_lt o rooms number) (waits o)
    (λ last. room_stored o n (room_at rooms (length rooms - 1)) refl last.room last.room.kind.kind whole)
    (done_rooms o r at is none from))

-- the last room
pub last_whole : (o : Opening) (r : RecoveryState) → IsRecovery o r → IsWhole (room_at r.rooms (length r.rooms - 1))
last_whole o r is = (each_at (IsRoomIn o r.stage) 0 (length r.rooms - 1) (super_room (sizes o)) r.rooms (last_is o r.rooms is.number) (last_lt o r.rooms is.number) is.rooms).whole

pub asks_goes : (o : Opening) (r : RecoveryState) → r.stage ≡ Stored → IsRecovery o r → IsWhole (written_back (room_at r.rooms (length r.rooms - 1)))
    → IsRecovery o (record r { rooms = with_last written_back r.rooms; stage = AskedFor })
asks_goes o r at is whole =
    let n = super_room (sizes o) in
    in_stage o r (with_last written_back r.rooms) AskedFor is (length-set r.rooms (length r.rooms - 1) _)
    (each_set (IsRoomIn o Stored) (IsRoomIn o AskedFor) written_back 0 (length r.rooms - 1) n r.rooms (last_is o r.rooms is.number) (last_lt o r.rooms is.number) (λ k x other room. waits_on o Stored AskedFor k x tt other room)
    (λ last. room_asked o n (room_at r.rooms (length r.rooms - 1)) refl last last.kind.kind whole)
    (subst (λ (s : EpochStage). EachFrom (IsRoomIn o s) 0 r.rooms) at is.rooms))

pub fence_goes : (o : Opening) (r : RecoveryState) → r.stage ≡ AskedFor → IsRecovery o r → IsWhole (in_memory (room_at r.rooms (length r.rooms - 1)))
    → IsRecovery o (record r { rooms = with_last in_memory r.rooms; stage = InMemory })
fence_goes o r at is whole =
    let n = super_room (sizes o) in
    in_stage o r (with_last in_memory r.rooms) InMemory is (length-set r.rooms (length r.rooms - 1) _)
    (each_set (IsRoomIn o AskedFor) (IsRoomIn o InMemory) in_memory 0 (length r.rooms - 1) n r.rooms (last_is o r.rooms is.number) (last_lt o r.rooms is.number) (λ k x other room. waits_on o AskedFor InMemory k x tt other room)
    (λ last. room_fenced o n (room_at r.rooms (length r.rooms - 1)) refl last last.kind.kind whole)
    (subst (λ (s : EpochStage). EachFrom (IsRoomIn o s) 0 r.rooms) at is.rooms))
