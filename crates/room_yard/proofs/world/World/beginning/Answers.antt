use Rattle.std.proofs.Common.{rules, List, map, sym, subst}
use Rattle.std.specs.List.{All}
use Rattle.rooms.specs.declared.room.Room.{Room}
use Rattle.room_yard.specs.World.{IsReadable}
use Rattle.room_yard.proofs.Openings.{all_readable, read_opens}
use Rattle.room_yard.proofs.world.World.beginning.Goals as goal

pub pairs_of-requires : goal.pairs_of-requires
pairs_of-requires c = subst (λ (xs : List Room). All IsReadable xs) (sym c.rooms-rooms.ensures) (all_readable c.requires.opens.beginning c.args.self.now c.requires.opens.opens)

pub items_of-requires : goal.items_of-requires
items_of-requires c = subst (λ (xs : List Room). All IsReadable xs) (sym c.rooms-rooms.ensures) (all_readable c.requires.opens.beginning c.args.self.now c.requires.opens.opens)

pub returns-clause-is : goal.returns-clause-is
returns-clause-is c = search rules

pub returns-clause-opens : goal.returns-clause-opens
returns-clause-opens c = λ b begins opens.
    read_opens c.args.settings (map (λ s. s.items) c.args.scripts.now) c.args.limit c.args.self.now b _ (returns-clause-is c) begins opens
