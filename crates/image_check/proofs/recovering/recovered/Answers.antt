use Rattle.std.proofs.Common.{◌≡◌, ℕ, subst}
use Rattle.room_model.specs.Image.{recovered_room}
use Rattle.room_model.specs.Walks.{items_of}
use Rattle.image_check.specs.Cells.{rooms_of, layout_of_view}
use Rattle.image_check.specs.Keyed.{pairs_in}
use Rattle.image_check.proofs.ImageChecks.{points_of, places_of_points, recovers}
use Rattle.image_check.proofs.Views.{shown}
use Rattle.image_check.proofs.recovering.recovered.Goals as goal

pub returns : goal.returns
returns c = record {
  state = record { contents = record { pairs = pairs_in c.args.pairs.now.entries; items = items_of c.args.view.sizes (recovered_room c.args.view.sizes (rooms_of c.args.view) c.args.view.sizes.shards) }; points = points_of c.in_ok-positions.field-0.items };
  lawful = recovers (layout_of_view c.args.view) c.args.view.sizes (rooms_of c.args.view) (pairs_in c.args.pairs.now.entries) c.in_ok-positions.field-0.items c.requires.view.whole c.requires.faultless c.requires.pairs c.in_ok-positions.ensures.many c.in_ok-positions.ensures.words;
  epoch = c.requires.view.epoch;
  positions = places_of_points c.in_ok-positions.field-0.items;
  pairs = c.in_ok-listed_pairs.ensures;
  items = subst (λ (room : ℕ). c.in_ok-items.field-0.items ≡ items_of c.args.view.sizes (recovered_room c.args.view.sizes (rooms_of c.args.view) room)) c.queue_room.ensures
      (shown c.args.view c.queue_room.result c.cells-queue.result (λ z r. c.in_ok-items.field-0.items ≡ items_of z r) c.requires.view c.cells-queue.ensures.words c.cells-queue.ensures.sizes c.in_ok-items.ensures);
}
