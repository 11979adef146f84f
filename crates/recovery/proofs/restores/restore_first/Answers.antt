use Rattle.std.proofs.Common.{◌<◌, arith, length, sym, subst, ◌∙◌}
use Rattle.recovery.specs.Restored.{MayGoOn}
use Rattle.recovery.proofs.Turns.{begun, ended, at_hand, passed, stopped}
use Rattle.recovery.proofs.restores.restore_first.Goals as goal

pub loop-room-init : goal.loop-room-init
loop-room-init c = begun c.args.rooms.now c.requires

pub restore_room-requires : goal.restore_room-requires
restore_room-requires c =
    let lt : c.loop-room.room-index < length c.loop-room.rooms = omega (arith, c.loop-room-test.true, c.loop-room.auto.rooms) in
    let at = at_hand c.args.rooms.now c.loop-room.rooms c.loop-room.room-index c.room-item.result lt c.loop-room.invariant in
    subst MayGoOn at.here (c.requires c.loop-room.room-index c.loop-room-test.true)

pub loop-room-preserved : goal.loop-room-preserved
loop-room-preserved c =
    let lt : c.loop-room.room-index < length c.loop-room.rooms = omega (arith, c.loop-room-test.true, c.loop-room.auto.rooms) in
    let at = at_hand c.args.rooms.now c.loop-room.rooms c.loop-room.room-index c.room-item.result lt c.loop-room.invariant in
    passed c.args.rooms.now c.loop-room.rooms c.loop-room.room-index _ c.restore_room.new.room lt c.loop-room.invariant at c.restore_room.ensures.is c.restore_room.ensures.kept
    (sym c.restore_room.ensures.was ∙ c.if-restore_room.false)

pub returns-then-restore_room : goal.returns-then-restore_room
returns-then-restore_room c =
    let lt : c.loop-room.room-index < length c.loop-room.rooms = omega (arith, c.loop-room-test.true, c.loop-room.auto.rooms) in
    let at = at_hand c.args.rooms.now c.loop-room.rooms c.loop-room.room-index c.room-item.result lt c.loop-room.invariant in
    let stop = stopped c.args.rooms.now c.loop-room.rooms c.loop-room.room-index _ c.restore_room.new.room lt c.loop-room.invariant at c.restore_room.ensures.is c.restore_room.ensures.kept
    (sym c.restore_room.ensures.was ∙ c.if-restore_room.true) in
    record { was = sym stop.any; is = stop.is; kept = stop.kept }

pub returns : goal.returns
returns c =
    let end = ended c.args.rooms.now c.loop-room.rooms c.loop-room.room-index (omega (arith, c.loop-room-test.false, c.loop-room.auto.room-index-end)) c.loop-room.invariant in
    record { was = sym end.1; is = end.0; kept = c.loop-room.invariant.kept }
