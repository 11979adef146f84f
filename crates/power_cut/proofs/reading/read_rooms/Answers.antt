use Rattle.std.proofs.Common.{◌≡◌, ℕ, ◌<◌, ◌+◌, ◌-◌, ◌*◌, ◌++◌, List, [], ◌∷◌, length, ap, sym, ◌∙◌, arith, subst, take-append-drop, length-append}
use Rattle.std.specs.Global.{Vec}
use Rattle.std.proofs.lemmas.Grind.{common_steps}
use Rattle.std.proofs.lemmas.List.{length-map}
use Rattle.room_model.specs.Image.{ImageRooms as Rooms, lines_at}
use Rattle.power_cut.specs.Image.{lists_of, HaveWords}
use Rattle.power_cut.specs.Bytes.{rooms_bytes}
use Rattle.power_cut.proofs.Each.{All-none, All-more}
use Rattle.power_cut.proofs.Spelling.{HasLines}
use Rattle.power_cut.proofs.Counts.{lines_from, lines_from-all}
use Rattle.power_cut.proofs.Heaped.{lists_of-more, lines_at-more, rooms_bytes-more, room_fits, room_after}
use Rattle.seq_object.specs.Sizes.{room_count, line_count}
use Rattle.power_cut.proofs.reading.read_rooms.Goals as goal

pub loop-room-init : goal.loop-room-init
loop-room-init c =
    let z = c.args.sizes in
    let none : c.in_ok-rooms.rooms.items ≡ [] = c.in_ok-rooms.ensures.items in
    let all : room_count z - 0 ≡ room_count z = omega arith in
    record {
      many = ap (λ (rooms : List (Vec (List ℕ))). length rooms) none;
      lines = λ r within. absurd (omega arith);
      words = subst (λ (rooms : List (Vec (List ℕ))). HaveWords (lists_of rooms)) (sym none) (All-none HasLines);
      left = c.requires.size ∙ ap (λ (n : ℕ). 64 * n) (sym (ap (lines_from z 0) all ∙ lines_from-all z));
      spelled = ap (λ (rooms : List (Vec (List ℕ))). rooms_bytes (lists_of rooms) ++ c.args.bytes.now) (sym none);
    }

pub split_at-requires : goal.split_at-requires
split_at-requires c =
    let z = c.args.sizes in
    let within : c.loop-room.room < room_count z = omega arith in
    room_fits z c.loop-room.room (room_count z) c.lines_of-lines.result (length c.loop-room.rest.now) within c.loop-room.invariant.left c.lines_of-lines.ensures

pub loop-room-preserved : goal.loop-room-preserved
loop-room-preserved c =
    let z = c.args.sizes in
    let within : c.loop-room.room < room_count z = omega arith in
    let before = lists_of c.loop-room.rooms.items in
    let own = c.in_ok-read_room.field-0.items in
    let many : length before ≡ c.loop-room.room = length-map c.loop-room.rooms.items (λ (room : Vec (List ℕ)). room.items) ∙ c.loop-room.invariant.many in
    let grown : lists_of c.push.new.self.items ≡ before ++ own ∷ [] = lists_of-more c.loop-room.rooms.items c.push.new.self.items c.in_ok-read_room.field-0 (c.in_ok-push.ensures).items in
    let lines : length own ≡ line_count z c.loop-room.room = c.in_ok-read_room.ensures.many ∙ c.lines_of-lines.ensures in
    let whole : c.loop-room.rest.now ≡ c.split_at.result.0.now ++ c.split_at.result.1.now = grind (arith, common_steps, take-append-drop) in
    let left : length c.split_at.result.1.now + 64 * c.lines_of-lines.result ≡ length c.loop-room.rest.now = omega arith in
    record {
      many = omega (arith, ap (λ (rooms : List (Vec (List ℕ))). length rooms) (c.in_ok-push.ensures).items, length-append c.loop-room.rooms.items (c.in_ok-read_room.field-0 ∷ []), c.loop-room.invariant.many);
      lines = subst (λ (rooms : Rooms). (r : ℕ) → r < c.loop-room.room + 1 → length (lines_at rooms r) ≡ line_count z r) (sym grown) (lines_at-more z before own c.loop-room.room many c.loop-room.invariant.lines lines);
      words = subst HaveWords (sym grown) (All-more HasLines before own c.loop-room.invariant.words c.in_ok-read_room.ensures.words);
      left = room_after z c.loop-room.room (room_count z) c.lines_of-lines.result (length c.loop-room.rest.now) (length c.split_at.result.1.now) within c.loop-room.invariant.left c.lines_of-lines.ensures left;
      spelled =
          rooms_bytes-more before own c.args.bytes.now c.loop-room.rest.now c.split_at.result.0.now c.split_at.result.1.now c.loop-room.invariant.spelled whole c.in_ok-read_room.ensures.spelled
          ∙ ap (λ (rooms : Rooms). rooms_bytes rooms ++ c.split_at.result.1.now) (sym grown);
    }
