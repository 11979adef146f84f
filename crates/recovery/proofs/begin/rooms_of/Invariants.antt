use Rattle.std.proofs.Common.{◌≡◌, ◌≤◌, drop, length}
use Rattle.std.specs.Vec.Iter.{into_iter_items, into_iter_len}
use Rattle.life_model.specs.Life.{Opening}
use Rattle.epoch_word.specs.declared.stage.EpochStage.TheVariants.{Before}
use Rattle.recovery.specs.Recovering.{IsRoomIn, WritesLittleBack, EachFrom}
use Rattle.recovery.specs.Banks.{AreBanksOf, HasEvents, most_at}
use Rattle.recovery.proofs.begin.rooms_of.Given as goal

abbrev pub invariant-loop-bank : goal.invariant-loop-bank
invariant-loop-bank l = record {
  can_next : (goal.iterator-loop-bank).can_next l.bank-iterator;
  is_finite : (goal.iterator-loop-bank).is_finite l.bank-iterator;
  long : into_iter_len l.bank-iterator ≡ length (into_iter_items l.bank-iterator);
  rest : into_iter_items l.bank-iterator ≡ drop (length l.rooms.items) l.fn.banks.items;
  within : length l.rooms.items ≤ length l.fn.banks.items;
  about : (o : Opening) → AreBanksOf o l.fn.settings l.fn.epoch l.fn.banks.items → EachFrom (IsRoomIn o Before) 0 l.rooms.items;
  events : EachFrom (HasEvents l.fn.settings l.fn.epoch l.fn.banks.items) 0 l.rooms.items;
  few : EachFrom (WritesLittleBack (most_at l.fn.settings l.fn.epoch l.fn.banks.items) Before) 0 l.rooms.items;
}
