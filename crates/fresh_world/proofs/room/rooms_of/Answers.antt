use Rattle.std.proofs.Common.{◌≡◌, ◌+◌, [], ◌∷◌, List, ℕ, drop, length, arith, sym, ap, ◌∙◌, subst}
use Rattle.std.proofs.lemmas.List.{length-append}
use Rattle.std.specs.Vec.Iter.{into_iter_items}
use Rattle.seq_object.specs.Sizes.{sizes_of}
use Rattle.line_memory.specs.Line.{BankState}
use Rattle.room_model.specs.Formatted.{formatted_bank}
use Rattle.rooms.specs.declared.room.Room.{Room}
use Rattle.fresh_world.specs.Rooms.{AreFreshFrom}
use Rattle.fresh_world.proofs.Taken.{IsTaken, taken, none_left, number_is, one_more}
use Rattle.fresh_world.proofs.room.rooms_of.Goals as goal

pub overflow_cast-room : goal.overflow_cast-room
overflow_cast-room c =
    let count = number_is (sizes_of c.args.settings) c.args.banks.items c.requires.banks in
    let threads = c.requires.valid.few_threads in
    let shards = c.requires.valid.few_shards in
    omega (arith, count, threads, shards, c.loop-bank.invariant.within, c.len-room.ensures, c.loop-bank.rooms.ok)

pub room_of-requires-clause-within : goal.room_of-requires-clause-within
room_of-requires-clause-within c =
    let at : IsTaken (sizes_of c.args.settings) c.args.banks.items (into_iter_items c.next.new.self) c.in-Some.bank (length c.loop-bank.rooms.items) =
    taken (sizes_of c.args.settings) c.args.banks.items (into_iter_items c.next.new.self) c.in-Some.bank (length c.loop-bank.rooms.items) c.requires.banks (sym c.in-Some.ensures.steps.0 ∙ c.loop-bank.invariant.rest) in
    omega (arith, at.within, c.len-room.ensures, c.loop-bank.rooms.ok)

pub room_of-requires-clause-bank : goal.room_of-requires-clause-bank
room_of-requires-clause-bank c =
    let at : IsTaken (sizes_of c.args.settings) c.args.banks.items (into_iter_items c.next.new.self) c.in-Some.bank (length c.loop-bank.rooms.items) =
    taken (sizes_of c.args.settings) c.args.banks.items (into_iter_items c.next.new.self) c.in-Some.bank (length c.loop-bank.rooms.items) c.requires.banks (sym c.in-Some.ensures.steps.0 ∙ c.loop-bank.invariant.rest) in
    let n : length c.loop-bank.rooms.items ≡ c.len-room.result = omega (arith, c.len-room.ensures, c.loop-bank.rooms.ok) in
    at.here ∙ ap (formatted_bank (sizes_of c.args.settings)) n

pub loop-bank-preserved : goal.loop-bank-preserved
loop-bank-preserved c =
    let at : IsTaken (sizes_of c.args.settings) c.args.banks.items (into_iter_items c.next.new.self) c.in-Some.bank (length c.loop-bank.rooms.items) =
    taken (sizes_of c.args.settings) c.args.banks.items (into_iter_items c.next.new.self) c.in-Some.bank (length c.loop-bank.rooms.items) c.requires.banks (sym c.in-Some.ensures.steps.0 ∙ c.loop-bank.invariant.rest) in
    let n : c.len-room.result ≡ length c.loop-bank.rooms.items = omega (arith, c.len-room.ensures, c.loop-bank.rooms.ok) in
    let more : length c.push.new.self.items ≡ length c.loop-bank.rooms.items + 1 =
    ap (λ (xs : List Room). length xs) c.in_ok-push.ensures.items ∙ length-append c.loop-bank.rooms.items (c.in_ok-room_of.field-0 ∷ []) in
    record {
      can_next = tt;
      is_finite = tt;
      long = omega (arith, c.in-Some.ensures.steps.1, c.loop-bank.invariant.long, ap (λ (bs : List BankState). length bs) c.in-Some.ensures.steps.0);
      rest = at.behind ∙ ap (λ (k : ℕ). drop k c.args.banks.items) (sym more);
      within = omega (arith, at.inside, more);
      fresh = subst (AreFreshFrom c.args.settings c.args.lengths.now 0) (sym c.in_ok-push.ensures.items)
          (one_more c.args.settings c.args.lengths.now 0 c.len-room.result c.loop-bank.rooms.items c.in_ok-room_of.field-0 (omega (arith, n)) c.loop-bank.invariant.fresh c.in_ok-room_of.ensures);
    }

pub returns-clause-count : goal.returns-clause-count
returns-clause-count c =
    none_left c.args.banks.items (into_iter_items c.loop-bank.bank-iterator) (length c.loop-bank.rooms.items) c.loop-bank.invariant.within c.loop-bank.invariant.rest (sym c.loop-bank.invariant.long ∙ c.in-None.ensures.steps.0)
    ∙ number_is (sizes_of c.args.settings) c.args.banks.items c.requires.banks
