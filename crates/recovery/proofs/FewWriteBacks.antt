-- The write-backs of a recovery are few.
use Rattle.std.proofs.Common.{◌≡◌, ℕ, zero, suc, ◌+◌, ◌-◌, ◌<◌, ◌≤◌, Bool, true, false, List, [], ◌∷◌, length, set, if◌then◌else◌, refl, sym, subst, arith}
use Rattle.seq_object.specs.History.{total}
use Rattle.line_memory.specs.Line.{BankState, bank_at, counted}
use Rattle.incll_var.specs.declared.state.CellState.{CellState}
use Rattle.incll_var.specs.declared.restore.RestoreEvent.{RestoreEvent}
use Rattle.incll_var.specs.declared.restore.RestoreEvent.TheVariants.{Restores, Asks, Fences}
use Rattle.incll_var.specs.Cells.{restored_on as cells_on}
use Rattle.rooms.specs.declared.room.Room.{Room}
use Rattle.rooms.specs.declared.room.Room.TheVariants.{Map, Queue, Thread, Super}
use Rattle.rooms.specs.Rooms.{bank_of}
use Rattle.epoch_word.specs.declared.stage.EpochStage.{EpochStage}
use Rattle.epoch_word.specs.declared.stage.EpochStage.TheVariants.{Before, Stored, AskedFor, InMemory}
use Rattle.recovery.specs.Restored.{has_left, restored, room_at, restored_on, any_left}
use Rattle.recovery.specs.Recovering.{RecoveryState, EachFrom, asks_left, WritesLittleBack, AllWriteLittleBack, epoch_left, with_last, next_stored, written_back, in_memory, stepped_in}
use Rattle.recovery.specs.Laws.{WriteBacksTotalLaw, WriteBacksKeptLaw}
use Rattle.recovery.proofs.Lists.{each_at, each_weaker, bank_here}
use Rattle.room_yard.specs.World.{memory_of}

-- a count rises by one at most
counted-most : (n : ℕ) → counted n ≤ n + 1
counted-most n = omega arith

-- cells
cells_few : (most n : ℕ) (state : CellState) (bank : BankState) (todo : List RestoreEvent) → bank.write_backs + asks_left todo ≤ most → (cells_on state bank todo).bank.write_backs + asks_left (cells_on state bank todo).todo ≤ most
cells_few most n state bank [] few = few
cells_few most n state bank (Restores i w ∷ events) few = few
cells_few most n state bank (Asks i ∷ events) few = let more = counted-most bank.write_backs in omega (arith, few, more)
cells_few most n state bank (Fences ∷ events) few = few

restored_few : (most : ℕ → ℕ) (k : ℕ) (x : Room) → WritesLittleBack most Before k x → WritesLittleBack most Before k (restored x)
restored_few most k (Map x) few = cells_few (most k) 0 x.cells.state x.cells.bank x.cells.todo few
restored_few most k (Queue x) few = cells_few (most k) 0 x.cells.state x.cells.bank x.cells.todo few
restored_few most k (Thread x) few = cells_few (most k) 0 x.cells.state x.cells.bank x.cells.todo few
restored_few most k (Super x) few = few

rooms_few : (most : ℕ → ℕ) (k : ℕ) (xs : List Room) → EachFrom (WritesLittleBack most Before) k xs → EachFrom (WritesLittleBack most Before) k (restored_on xs)
rooms_few most k [] few = tt
rooms_few most k (x ∷ xs) few = (restored_few most k x few.0, go (has_left x) (rooms_few most (suc k) xs few.1))
  where
    go : (b : Bool) → EachFrom (WritesLittleBack most Before) (suc k) (restored_on xs) → EachFrom (WritesLittleBack most Before) (suc k) (if b then xs else restored_on xs)
    go true tail = few.1
    go false tail = tail

-- a room of cells has none of the epoch's
stage_few : (most : ℕ → ℕ) (old new : EpochStage) (f : Room → Room) (k i : ℕ) (xs : List Room) → ((j : ℕ) (x : Room) → WritesLittleBack most old j x → WritesLittleBack most new j (f x)) → ((j : ℕ) (x : Room) → WritesLittleBack most old j x → WritesLittleBack most new j x)
    → EachFrom (WritesLittleBack most old) k xs → EachFrom (WritesLittleBack most new) k (set xs i (f (room_at xs i)))
stage_few most old new f k i [] here others few = tt
stage_few most old new f k zero (x ∷ xs) here others few = (here k x few.0, each_weaker (WritesLittleBack most old) (WritesLittleBack most new) (suc k) xs (λ j y le p. others j y p) few.1)
stage_few most old new f k (suc i) (x ∷ xs) here others few = (others k x few.0, stage_few most old new f (suc k) i xs here others few.1)

less_left : (most : ℕ → ℕ) (old new : EpochStage) → epoch_left new ≤ epoch_left old → (j : ℕ) (x : Room) → WritesLittleBack most old j x → WritesLittleBack most new j x
less_left most old new le j (Map x) few = few
less_left most old new le j (Queue x) few = few
less_left most old new le j (Thread x) few = few
less_left most old new le j (Super x) few = omega (arith, le, few)

store_few : (most : ℕ → ℕ) (j : ℕ) (x : Room) → WritesLittleBack most Before j x → WritesLittleBack most Stored j (next_stored x)
store_few most j (Map x) few = few
store_few most j (Queue x) few = few
store_few most j (Thread x) few = few
store_few most j (Super x) few = few

ask_few : (most : ℕ → ℕ) (j : ℕ) (x : Room) → WritesLittleBack most Stored j x → WritesLittleBack most AskedFor j (written_back x)
ask_few most j (Map x) few = few
ask_few most j (Queue x) few = few
ask_few most j (Thread x) few = few
ask_few most j (Super x) few = let more = counted-most x.write_backs in omega (arith, few, more)

fence_few : (most : ℕ → ℕ) (j : ℕ) (x : Room) → WritesLittleBack most AskedFor j x → WritesLittleBack most InMemory j (in_memory x)
fence_few most j (Map x) few = few
fence_few most j (Queue x) few = few
fence_few most j (Thread x) few = few
fence_few most j (Super x) few = few

stepped_few : (most : ℕ → ℕ) (stage : EpochStage) (r : RecoveryState) → r.stage ≡ stage → EachFrom (WritesLittleBack most stage) 0 r.rooms → AllWriteLittleBack most (stepped_in stage r)
stepped_few most Before r at few = go (any_left r.rooms)
  where
    go : (b : Bool) → AllWriteLittleBack most (if b then record r { rooms = restored_on r.rooms } else record r { rooms = with_last next_stored (restored_on r.rooms); stage = Stored })
    go true = subst (λ (s : EpochStage). EachFrom (WritesLittleBack most s) 0 (restored_on r.rooms)) (sym at) (rooms_few most 0 r.rooms few)
    go false = stage_few most Before Stored next_stored 0 (length (restored_on r.rooms) - 1) (restored_on r.rooms) (store_few most) (less_left most Before Stored (omega arith)) (rooms_few most 0 r.rooms few)
stepped_few most Stored r at few = stage_few most Stored AskedFor written_back 0 (length r.rooms - 1) r.rooms (ask_few most) (less_left most Stored AskedFor (omega arith)) few
stepped_few most AskedFor r at few = stage_few most AskedFor InMemory in_memory 0 (length r.rooms - 1) r.rooms (fence_few most) (less_left most AskedFor InMemory (omega arith)) few
stepped_few most InMemory r at few = subst (λ (s : EpochStage). EachFrom (WritesLittleBack most s) 0 r.rooms) (sym at) few

pub write_backs_kept : WriteBacksKeptLaw
write_backs_kept most r few = stepped_few most r.stage r refl few

total-least : (f g : ℕ → ℕ) (n : ℕ) → ((k : ℕ) → k < n → f k ≤ g k) → total f n ≤ total g n
total-least f g zero each = omega arith
total-least f g (suc n) each =
    let below = total-least f g n (λ k lt. each k (omega (arith, lt))) in
    let here = each n (omega arith) in
    omega (arith, below, here)

room_most : (most : ℕ → ℕ) (stage : EpochStage) (k : ℕ) (x : Room) → WritesLittleBack most stage k x → (bank_of x).write_backs ≤ most k
room_most most stage k x few = omega (arith, few)

pub write_backs_total : WriteBacksTotalLaw
write_backs_total most r few = total-least (λ k. (bank_at (memory_of r.rooms) k).write_backs) most (length r.rooms) (λ k lt.
    let here = room_most most r.stage k (room_at r.rooms k) (each_at (WritesLittleBack most r.stage) 0 k k r.rooms (omega arith) lt few) in
    subst (λ (b : BankState). b.write_backs ≤ most k) (sym (bank_here r.rooms k)) here)
