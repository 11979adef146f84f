-- Saving an image: no other name changes.
use Rattle.std.proofs.Common.{ℕ, List, Option, Some, None}
use Rattle.byte_ports.specs.Images.{Named, SetsName, OthersSame}
use Rattle.byte_ports.proofs.Maps.{setting}

-- where a name is set, no other name changes
pub others_set : (old new : Option Named) (name bytes : List ℕ) → SetsName old new name bytes → OthersSame old new name
others_set None new name bytes set = tt
others_set (Some old) new name bytes set = (setting old new name bytes set).1
