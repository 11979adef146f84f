-- What a lawful image recovers to, as code gives it.
use Rattle.std.specs.Prelude.{◌≡◌, ℕ, map}
use Rattle.std.specs.FinMap.{get}
use Rattle.seq_object.specs.Object.{Pairs, shard_of}
use Rattle.seq_object.specs.Plain.{listed}
use Rattle.seq_object.specs.History.{State}
use Rattle.room_model.specs.MapRoom.{Layout}
use Rattle.room_model.specs.Image.{ImageRooms as Rooms, epoch_at, recovered_room, Recovers}
use Rattle.room_model.specs.Walks.{map_of}
use Rattle.image_check.specs.declared.recovered.Recovered.{Recovered}
use Rattle.seq_object.specs.declared.sizes.Sizes.{Sizes}

-- at each key the pairs have what the walks in the map room of its shard give
abbrev pub HasAllPairs : Layout → Sizes → Rooms → Pairs → Type 0
HasAllPairs layout z rooms pairs = (key : ℕ) → get pairs key ≡ get (map_of layout z (recovered_room z rooms (shard_of z key))) key

-- the image is lawful, and these are its epoch and the state that it recovers to: the positions by thread, the pairs of all shards in
-- the order of their keys, and the items from front to back
pub record IsRecovered (layout : Layout) (z : Sizes) (rooms : Rooms) (found : Recovered) : Type 0 where
  pub state : State
  pub lawful : Recovers layout z rooms state
  pub epoch : found.epoch ≡ epoch_at z rooms
  pub positions : found.positions.items ≡ map (λ p. p.position) state.points
  pub pairs : found.pairs.items ≡ listed state.contents.pairs
  pub items : found.items.items ≡ state.contents.items
