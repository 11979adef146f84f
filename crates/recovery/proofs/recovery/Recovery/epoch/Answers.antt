use Rattle.std.proofs.Common.{◌<◌, ◌^◌, List, length, sym, subst}
use Rattle.rooms.specs.declared.room.Room.{Room}
use Rattle.rooms.specs.Rooms.{bank_of}
use Rattle.room_model.specs.EpochLine.{loaded_epoch}
use Rattle.recovery.specs.Recovering.{last_of}
use Rattle.recovery.proofs.Endings.{last_line, last_fits}
use Rattle.recovery.proofs.recovery.Recovery.epoch.Goals as goal

pub epoch_in-requires-clause-line : goal.epoch_in-requires-clause-line
epoch_in-requires-clause-line c =
    subst (λ (xs : List Room). 0 < length (bank_of (last_of xs)).lines) (sym c.as_slice.ensures.value)
    (last_line c.self.invariant.some (record { settings = c.self.inside.settings; rooms = c.self.inside.rooms.items; stage = c.self.inside.stage }) c.self.invariant.about)

pub epoch_in-requires-clause-fits : goal.epoch_in-requires-clause-fits
epoch_in-requires-clause-fits c =
    subst (λ (xs : List Room). loaded_epoch (bank_of (last_of xs)) < 2 ^ 32) (sym c.as_slice.ensures.value)
    (last_fits c.self.invariant.some (record { settings = c.self.inside.settings; rooms = c.self.inside.rooms.items; stage = c.self.inside.stage }) c.self.invariant.about)
