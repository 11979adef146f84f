use Rattle.std.proofs.Common.{◌≡◌, ◌<◌, ℕ, length}
use Rattle.seq_object.specs.Sizes.{line_count}
use Rattle.line_memory.specs.Line.{bank_at}
use Rattle.recovery.proofs.tests.fit.Given as goal

-- the rooms up to here have their lines
abbrev pub invariant-loop-room : goal.invariant-loop-room
invariant-loop-room g l = (k : ℕ) → k < l.room → length (bank_at l.memory k).lines ≡ line_count (record { threads = 1; shards = 1; lines = 16 }) k
