-- The laws of how much work a life does: from bounds for each room and worker to those of the life; the lines that the stores of a
-- command make pending; and rounds of a schedule.
use Rattle.std.specs.Prelude.{◌≡◌, ℕ, ◌+◌, ◌*◌, ◌<◌, ◌≤◌, Bool, List, ◌∷◌, length}
use Rattle.line_memory.specs.Line.{BankState, AreLines, bank_stored, unasked, is_unasked_in}
use Rattle.seq_object.specs.declared.command.Command.{Command}
use Rattle.seq_object.specs.Sizes.{thread_room, super_room, room_count, line_total}
use Rattle.seq_object.specs.declared.history.Entry.{Entry}
use Rattle.seq_object.specs.History.{of_room, total}
use Rattle.room_model.specs.declared.write.PlannedStore.{PlannedStore}
use Rattle.room_model.specs.Chains.{RoomWords}
use Rattle.room_model.specs.MapRoom.{Layout}
use Rattle.room_model.specs.Writes.{command_stores, newly_pending}
use Rattle.life_model.specs.declared.life.Life.TheVariants.{Start}
use Rattle.room_model.specs.Image.{ImageRooms}
use Rattle.life_model.specs.Life.{Opening, sizes, closings}
use Rattle.life_model.specs.Work.{WritesFewBack, recovery_write_backs, OffersRounds, in_turn, Worked, HasWorked, one_if, least_work, most_work, turns_for_rounds}
use Rattle.seq_object.specs.declared.sizes.Sizes.{Sizes}

-- where each room's write-backs are few by its own entries, those of all rooms are few
abbrev pub FlushedLittleLaw : Type 0
FlushedLittleLaw = (o : Opening) (image : ImageRooms) (h : List Entry) (marks : List ℕ) (write_backs : ℕ → ℕ) → 0 < o.settings.shards
    → ((room : ℕ) → room ≤ o.settings.shards → write_backs room ≤ 4 * length (of_room (sizes o) room h))
    → ((thread : ℕ) → thread < o.settings.threads → write_backs (thread_room (sizes o) thread) ≤ closings o marks + 1)
    → write_backs (super_room (sizes o)) ≤ closings o marks + 1
    → WritesFewBack o image h marks (recovery_write_backs o image + total write_backs (room_count (sizes o)))

-- what all workers have done is at least what their entries and marks ask for
abbrev pub LeastWorkLaw : Type 0
LeastWorkLaw = (z : Sizes) (worked : ℕ → Worked) → ((thread : ℕ) → thread < z.threads → HasWorked z (worked thread))
    → least_work z (total (λ t. (worked t).entries) z.threads) (total (λ t. (worked t).marks) z.threads) ≤ total (λ t. (worked t).done) z.threads

-- what all workers have done is at most what their entries, epochs and closings allow
abbrev pub MostWorkLaw : Type 0
MostWorkLaw = (z : Sizes) (worked : ℕ → Worked) (closed : ℕ) → ((thread : ℕ) → thread < z.threads → HasWorked z (worked thread))
    → total (λ t. (worked t).marks) z.threads ≡ closed → total (λ t. one_if (worked t).closing) z.threads ≤ 1
    → ((thread : ℕ) → thread < z.threads → (worked thread).epochs ≤ closed + 1)
    → total (λ t. (worked t).done) z.threads ≤ most_work z (total (λ t. (worked t).entries) z.threads) closed

-- a schedule that names all threads in turn, from whichever turn on, offers one round for each time that it goes through them
abbrev pub RoundRobinLaw : Type 0
RoundRobinLaw = (threads turn rounds turns : ℕ) → 0 < threads → threads * rounds ≤ turns
    → OffersRounds threads rounds (in_turn threads turn turns)

-- so the workers of a start are offered that many rounds, and those of a resume where the most that recovery takes comes on top
abbrev pub WorkerRoundsLaw : Type 0
WorkerRoundsLaw = (o : Opening) (rounds turns : ℕ) → 0 < o.settings.threads
    → (o.life ≡ Start → o.settings.threads * rounds ≤ turns → OffersRounds o.settings.threads rounds (turns_for_rounds o (in_turn o.settings.threads 0 turns)))
    × (o.settings.threads * rounds + 5 * line_total (sizes o) ≤ turns
    → OffersRounds o.settings.threads rounds (turns_for_rounds o (in_turn o.settings.threads 0 turns)))

-- the stores of a command make at most four lines pending, whichever lines are pending before
abbrev pub FewLinesLaw : Type 0
FewLinesLaw = (layout : Layout) (z : Sizes) (epoch room : ℕ) (r : RoomWords) (command : Command) (pending : ℕ → Bool)
    → newly_pending pending (command_stores layout z epoch room r command) ≤ 4

-- the lines that have a store that was not asked for, and those that stores to come are the first to give one, are together as many
-- after the first of these stores as before it
abbrev pub NewlyPendingLaw : Type 0
NewlyPendingLaw = (bank : BankState) (s : PlannedStore) (ss : List PlannedStore) → AreLines bank.lines → s.line < length bank.lines
    → unasked (bank_stored bank s.line s.word s.value).lines + newly_pending (is_unasked_in (bank_stored bank s.line s.word s.value)) ss
    ≡ unasked bank.lines + newly_pending (is_unasked_in bank) (s ∷ ss)
