use Rattle.std.proofs.Common.{◌≡◌, take}
use Rattle.seq_object.specs.Sizes.{sizes_of}
use Rattle.room_model.specs.Formatted.{formatted_memory}
use Rattle.formatting.proofs.banks.format.Given as goal

abbrev pub invariant-loop-room : goal.invariant-loop-room
invariant-loop-room l = l.banks.items ≡ take l.room (formatted_memory (sizes_of l.settings))
