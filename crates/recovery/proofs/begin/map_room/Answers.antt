use Rattle.std.proofs.Common.{arith}
use Rattle.recovery.proofs.Begins.{HasTorn, may_be, map_made, commands_may}
use Rattle.recovery.proofs.begin.map_room.Goals as goal

torn_cells : (c : goal.In_ok-cells) → HasTorn c.args.epoch c.args.bank c.in_ok-cells.cells
torn_cells c = record { state = c.in_ok-cells.ensures.state; held = c.in_ok-cells.ensures.in_memory; same = c.in_ok-cells.ensures.same; whole = c.in_ok-cells.ensures.cells; todo = c.in_ok-cells.ensures.events }

pub torn-requires : goal.torn-requires
torn-requires c = commands_may c.args.settings c.args.epoch c.args.room c.args.bank (omega (arith, c.requires.shard)) c.requires.bank

pub of-requires : goal.of-requires
of-requires c = record { cells = may_be c.args.settings c.args.epoch c.args.room c.args.bank c.in_ok-cells.cells (omega (arith, c.requires.shard)) c.requires.bank (torn_cells c); shard = c.requires.shard }

torn_there : (c : goal.After-of) → HasTorn c.args.epoch c.args.bank c.in_ok-cells.cells
torn_there c = record { state = c.in_ok-cells.ensures.state; held = c.in_ok-cells.ensures.in_memory; same = c.in_ok-cells.ensures.same; whole = c.in_ok-cells.ensures.cells; todo = c.in_ok-cells.ensures.events }

pub returns : goal.returns
returns c = map_made c.args.settings c.args.epoch c.args.room c.args.bank c.in_ok-cells.cells c.of.result c.requires.shard (torn_there c) c.of.ensures.is c.of.ensures.room
