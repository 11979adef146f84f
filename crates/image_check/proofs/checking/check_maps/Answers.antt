use Rattle.std.proofs.Common.{◌≡◌, ℕ, ◌+◌, None, add-one, ap, sym, ◌∙◌, subst}
use Rattle.room_model.specs.Image.{recovered_room}
use Rattle.image_check.specs.Cells.{words_of, rooms_of, layout_of_view}
use Rattle.image_check.specs.ImageFaults.{first_below, map_room_fault}
use Rattle.image_check.specs.MapFaults.{map_fault}
use Rattle.image_check.specs.Keyed.{pairs_in, HasShardPairs}
use Rattle.image_check.proofs.ImageWalks.{none_kept, one_more_kept, room_found, room_fine}
use Rattle.image_check.proofs.ImageChecks.{first_stays, one_more_none}
use Rattle.image_check.proofs.Views.{shown}
use Rattle.image_check.proofs.checking.check_maps.Goals as goal

pub loop-room-init : goal.loop-room-init
loop-room-init c = none_kept (layout_of_view c.args.view) c.args.view.sizes (rooms_of c.args.view) (pairs_in c.args.pairs.now.entries) c.requires.none

pub returns-in-Some-clause-fault : goal.returns-in-Some-clause-fault
returns-in-Some-clause-fault c =
    let room = c.loop-room.room in
    let fault = map_fault (layout_of_view c.args.view) c.args.view.sizes room (recovered_room c.args.view.sizes (rooms_of c.args.view) room) in
    let found : c.in_ok-fault.field-0 ≡ fault = shown c.args.view room c.cells-cells.result (λ z r. c.in_ok-fault.field-0 ≡ map_fault (layout_of_view c.args.view) z room r) c.requires.view c.cells-cells.ensures.words c.cells-cells.ensures.sizes
    (subst (λ (shard : ℕ). c.in_ok-fault.field-0 ≡ map_fault (layout_of_view c.args.view) c.cells-cells.result.sizes shard (words_of c.cells-cells.result)) c.from.ensures c.in_ok-fault.ensures.fault) in
    sym (first_stays (map_room_fault (layout_of_view c.args.view) c.args.view.sizes (rooms_of c.args.view)) room c.args.view.sizes.shards c.in_room.result c.loop-room.invariant.fault
    (sym (room_found room fault c.in_ok-fault.field-0 c.in-Some.fault c.in_room.result c.in-Some.is found c.in_room.ensures)) c.loop-room-test.true)

pub loop-room-preserved : goal.loop-room-preserved
loop-room-preserved c =
    let room = c.loop-room.room in
    let fault = map_fault (layout_of_view c.args.view) c.args.view.sizes room (recovered_room c.args.view.sizes (rooms_of c.args.view) room) in
    let found : c.in_ok-fault.field-0 ≡ fault = shown c.args.view room c.cells-cells.result (λ z r. c.in_ok-fault.field-0 ≡ map_fault (layout_of_view c.args.view) z room r) c.requires.view c.cells-cells.ensures.words c.cells-cells.ensures.sizes
    (subst (λ (shard : ℕ). c.in_ok-fault.field-0 ≡ map_fault (layout_of_view c.args.view) c.cells-cells.result.sizes shard (words_of c.cells-cells.result)) c.from.ensures c.in_ok-fault.ensures.fault) in
    let none : first_below (map_room_fault (layout_of_view c.args.view) c.args.view.sizes (rooms_of c.args.view)) (room + 1) ≡ None = ap (first_below (map_room_fault (layout_of_view c.args.view) c.args.view.sizes (rooms_of c.args.view))) (add-one room)
    ∙ one_more_none (map_room_fault (layout_of_view c.args.view) c.args.view.sizes (rooms_of c.args.view)) room c.loop-room.invariant.fault (room_fine room fault c.in_ok-fault.field-0 c.in_default.is found) in
    one_more_kept (layout_of_view c.args.view) c.args.view.sizes (rooms_of c.args.view) room (pairs_in c.loop-room.pairs.entries) (pairs_in c.check_map.new.pairs.entries) c.loop-room.invariant none
    (shown c.args.view room c.cells-cells.result (λ z r. HasShardPairs (layout_of_view c.args.view) z room r (pairs_in c.loop-room.pairs.entries) (pairs_in c.check_map.new.pairs.entries)) c.requires.view c.cells-cells.ensures.words c.cells-cells.ensures.sizes
    (subst (λ (shard : ℕ). HasShardPairs (layout_of_view c.args.view) c.cells-cells.result.sizes shard (words_of c.cells-cells.result) (pairs_in c.loop-room.pairs.entries) (pairs_in c.check_map.new.pairs.entries)) c.from.ensures (c.in_ok-fault.ensures.pairs c.in_default.is)))
