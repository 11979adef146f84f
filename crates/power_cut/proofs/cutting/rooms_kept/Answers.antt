use Rattle.std.proofs.Common.{◌≡◌, ℕ, ◌<◌, ◌+◌, ◌++◌, ◌^◌, [], ◌∷◌, length, drop, ap, sym, ◌∙◌, arith, subst}
use Rattle.line_memory.specs.Line.{all_lines}
use Rattle.line_memory.proofs.Survivors.{left-words}
use Rattle.room_model.specs.Image.{ImageRooms as Rooms, surviving_lines, surviving_rooms, image_of}
use Rattle.store_order.specs.Choice.{kept_of, IsDrawnTo}
use Rattle.power_cut.specs.Image.{lists_of, HaveWords}
use Rattle.power_cut.specs.Cut.{choosing}
use Rattle.power_cut.proofs.Each.{All-more}
use Rattle.power_cut.proofs.Spelling.{HasLines}
use Rattle.power_cut.proofs.Cuts.{All-lines_left, rooms_left-more}
use Rattle.power_cut.proofs.Heaped.{lists_of-more, first_fits, first_next, survived}
use Rattle.power_cut.proofs.cutting.rooms_kept.Goals as goal

pub survive_next-requires-clause-lines : goal.survive_next-requires-clause-lines
survive_next-requires-clause-lines c =
    let within : c.loop-room.room < length c.args.memory.now = omega arith in
    let few : all_lines c.args.memory.now < 2 ^ 32 = omega arith in
    first_fits c.args.memory.now c.loop-room.room c.loop-room.first c.bank-bank.result.now within c.bank-bank.ensures.is c.loop-room.invariant.first few

pub overflow_add-first : goal.overflow_add-first
overflow_add-first c =
    let within : c.loop-room.room < length c.args.memory.now = omega arith in
    let few : all_lines c.args.memory.now < 2 ^ 32 = omega arith in
    let fits = first_fits c.args.memory.now c.loop-room.room c.loop-room.first c.bank-bank.result.now within c.bank-bank.ensures.is c.loop-room.invariant.first few in
    omega (arith, fits, c.lines.ensures.count)

pub loop-room-preserved : goal.loop-room-preserved
loop-room-preserved c =
    let memory = c.args.memory.now in
    let choice = c.args.choice.now in
    let bank = c.bank-bank.result.now in
    let within : c.loop-room.room < length memory = omega arith in
    let f = kept_of choice c.loop-room.first bank.lines in
    let left : c.in_ok-survive_next.field-0.items ≡ surviving_lines f 0 bank.lines = (c.in_ok-survive_next.ensures).left in
    let own : HasLines c.in_ok-survive_next.field-0.items = subst HasLines (sym left) (All-lines_left left-words f 0 bank.lines c.bank-bank.ensures.whole) in
    let grown : lists_of c.push.new.self.items ≡ lists_of c.loop-room.rooms.items ++ c.in_ok-survive_next.field-0.items ∷ [] = lists_of-more c.loop-room.rooms.items c.push.new.self.items c.in_ok-survive_next.field-0 (c.in_ok-push.ensures).items in
    let kept = survived memory choice c.loop-room.room c.loop-room.first bank c.in_ok-survive_next.field-0.items c.bank-bank.ensures.is c.loop-room.invariant.first left in
    record {
      first = first_next memory c.loop-room.room c.loop-room.first bank c.lines.result within c.bank-bank.ensures.is c.loop-room.invariant.first c.lines.ensures.count;
      drawn = subst (λ (n : ℕ). IsDrawnTo choice n c.survive_next.new.words) (sym (ap (λ (n : ℕ). c.loop-room.first + n) c.lines.ensures.count)) (c.in_ok-survive_next.ensures).drawn;
      words = subst HaveWords (sym grown) (All-more HasLines (lists_of c.loop-room.rooms.items) c.in_ok-survive_next.field-0.items c.loop-room.invariant.words own);
      kept =
          ap (λ (rs : Rooms). rs ++ surviving_rooms (choosing choice memory) (c.loop-room.room + 1) (drop (c.loop-room.room + 1) memory)) grown
          ∙ rooms_left-more (choosing choice memory) memory c.loop-room.room (lists_of c.loop-room.rooms.items) (image_of memory (choosing choice memory)) c.in_ok-survive_next.field-0.items within kept c.loop-room.invariant.kept;
    }
