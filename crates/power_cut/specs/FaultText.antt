-- The text of each fault of an image, as it stands on standard error behind `image: `.
use Rattle.std.specs.Prelude.{ℕ, List, ◌++◌, codes}
use Rattle.std.specs.Fmt.{decimal}
use Rattle.power_cut.specs.declared.fault.ImageFault.{ImageFault}
use Rattle.power_cut.specs.declared.fault.ImageFault.TheVariants.{Short, Long, Magic, Version, Settings, Epoch, TagAhead, Header, Chain, FreeList, Count, Ends}

-- what is wrong, and the room where it is
abbrev pub in_room : List ℕ → ℕ → List ℕ
in_room what room = what ++ codes ", room " ++ decimal room

-- the text of a fault
abbrev pub fault_text : ImageFault → List ℕ
fault_text Short = codes "short"
fault_text Long = codes "long"
fault_text Magic = codes "magic"
fault_text Version = codes "version"
fault_text Settings = codes "settings"
fault_text Epoch = codes "epoch"
fault_text (TagAhead room line) = in_room (codes "tag ahead") room ++ codes ", line " ++ decimal line
fault_text (Header room) = in_room (codes "header") room
fault_text (Chain room) = in_room (codes "chain") room
fault_text (FreeList room) = in_room (codes "free list") room
fault_text (Count room) = in_room (codes "count") room
fault_text (Ends room) = in_room (codes "ends") room
