-- The next epoch is stored in the super room in hand, written back, and brought into memory.
use Rattle.std.proofs.Common.{◌≡◌, ◌+◌, ◌<◌, ◌≤◌, ◌^◌, Some, None, [], length, sym, ◌∙◌, arith}
use Rattle.seq_object.specs.Sizes.{sizes_of, super_room}
use Rattle.line_memory.specs.Line.{BankState, counted}
use Rattle.room_model.specs.EpochLine.{epoch_line, loaded_epoch}
use Rattle.epoch_word.specs.declared.stage.EpochStage.TheVariants.{Before}
use Rattle.epoch_word.specs.SuperLine.{IsSuperRoom}
use Rattle.rooms.specs.declared.room.Room.TheVariants.{Super}
use Rattle.room_in_hand.specs.Known.{Knowledge}
use Rattle.room_in_hand.specs.InHand.{writing_epoch, KeepsRoom, IsHeldAs}

-- another bank with as many lines, and no fewer write-backs
module _ (k : Knowledge) (old new : BankState) (was : KeepsRoom k (Super old)) (none : k.position ≡ None) (whole : IsSuperRoom new) (no_fewer : k.opened ≤ new.write_backs) where
  one_line : length new.lines ≡ length old.lines
  one_line = whole.one ∙ sym was.whole.one

  number : k.room ≡ super_room (sizes_of k.settings)
  number = was.room.kind

  pub kept_with : KeepsRoom k (Super new)
  kept_with = record {
    whole = whole;
    room = record { kind = was.room.kind; lines = one_line ∙ was.room.lines };
    history = was.history;
    in_memory = λ low. let n = number in absurd (omega (arith, low, n));
    point_in_memory = λ t is. let e : None ≡ Some t = sym none ∙ is in absurd (cc);
    no_position = λ low. none;
    no_fewer = no_fewer;
    counted = was.counted;
  }

pub may_store : (bank : BankState) → IsHeldAs (writing_epoch Before) (Super bank) → ((epoch_line bank).pending ≡ []) × (loaded_epoch bank + 1 < 2 ^ 32)
may_store bank (k, i) = (i.used.stands_at.0.quiet, let e = i.used.stands_at.1 in let f = i.used.early in omega (arith, e, f))
