use Rattle.power_cut.specs.Image.{sizes_in, rooms_in, AreWhole}
use Rattle.drill.proofs.LifeCalls.{of_lawful, remade_is}
use Rattle.drill.proofs.lives.remade.Goals as goal

pub image_memory-requires : goal.image_memory-requires
image_memory-requires c =
    of_lawful (AreWhole (sizes_in c.in_ok-image.image) (rooms_in c.in_ok-image.image)) c.settings.result c.args.left.now c.settings.ensures c.requires.lawful (c.in_ok-image.ensures).whole

pub returns : goal.returns
returns c = remade_is c.args.n c.args.life c.args.left.now c.keep_behind.result (rooms_in c.in_ok-image.image) c.image_memory.result c.keep_behind.ensures (c.in_ok-image.ensures).rooms c.image_memory.ensures.is
