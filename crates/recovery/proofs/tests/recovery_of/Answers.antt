use Rattle.std.proofs.Common.{◌≡◌, rules}
use Rattle.seq_object.specs.Sizes.{sizes_of}
use Rattle.room_model.specs.MapRoom.{live_layout}
use Rattle.power_cut.specs.Image.{sizes_in, rooms_in}
use Rattle.power_cut.specs.Cut.{quiet_memory}
use Rattle.image_check.specs.Recovered.{IsRecovered}
use Rattle.recovery.proofs.TestImages.{lawful_image, low_epoch}
use Rattle.recovery.proofs.tests.recovery_of.Goals as goal

pub of-requires-clause-lawful : goal.of-requires-clause-lawful
of-requires-clause-lawful g c =
    let checked : IsRecovered live_layout (sizes_in c.args.image) (rooms_in c.args.image) c.expect-found.result = search rules in
    let same : sizes_in c.args.image ≡ sizes_of (record { threads = 1; shards = 1; lines = 16; every = 1 }) = search rules in
    let is : c.expect-memory.result ≡ quiet_memory (rooms_in c.args.image) = search rules in
    lawful_image (sizes_in c.args.image) _ (rooms_in c.args.image) c.expect-found.result c.expect-memory.result checked same is

pub of-requires-clause-below : goal.of-requires-clause-below
of-requires-clause-below g c =
    let checked : IsRecovered live_layout (sizes_in c.args.image) (rooms_in c.args.image) c.expect-found.result = search rules in
    let same : sizes_in c.args.image ≡ sizes_of (record { threads = 1; shards = 1; lines = 16; every = 1 }) = search rules in
    let is : c.expect-memory.result ≡ quiet_memory (rooms_in c.args.image) = search rules in
    let one : c.expect-found.result.epoch ≡ 1 = search rules in
    low_epoch (sizes_in c.args.image) _ (rooms_in c.args.image) c.expect-found.result c.expect-memory.result checked same is one
