use Rattle.std.proofs.Common.{Bool, false, refl, sym, ap, ◌∙◌, subst}
use Rattle.room_yard.specs.Answers.{next_word}
use Rattle.room_yard.specs.World.{WorldState}
use Rattle.fresh_world.proofs.Worlds.{IsFreshWorld, world_opens, world_can_open}
use Rattle.fresh_world.proofs.start.fresh.Goals as goal

world_is : (c : goal.After-of) → IsFreshWorld c.args.settings c.args.lengths.now c.of.result
world_is c = subst (λ (w : WorldState). IsFreshWorld c.args.settings c.args.lengths.now w) (sym c.of.ensures) (record {
  number = c.in_ok-rooms.ensures.count;
  fresh = c.in_ok-rooms.ensures.rooms;
  arrival = c.first_word-arrival.ensures ∙ ap (λ (over : Bool). next_word c.args.settings.threads over false 1) c.are_empty-over.ensures;
  clock = refl;
  held = c.in_ok-held.ensures.items;
})

pub returns-clause-opens : goal.returns-clause-opens
returns-clause-opens c = world_opens c.args.settings c.args.lengths.now c.of.result c.requires.valid c.requires.lengths (world_is c)

pub returns-clause-can_open : goal.returns-clause-can_open
returns-clause-can_open c = world_can_open c.args.settings c.args.lengths.now c.of.result c.requires.valid c.requires.lengths (world_is c)
