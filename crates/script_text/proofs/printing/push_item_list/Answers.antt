use Rattle.std.proofs.Common.{◌∷◌, get_or, take}
use Rattle.std.specs.String.{string_bytes}
use Rattle.store_order.specs.declared.choice.Kept.{Kept}
use Rattle.script_text.specs.Program.{these}
use Rattle.script_text.specs.Text.{spaced, keep_words, item_text}
use Rattle.script_text.proofs.PrintLaws.{grown, items_pushed}
use Rattle.script_text.proofs.printing.push_item_list.Goals as goal

pub loop-item-preserved : goal.loop-item-preserved
loop-item-preserved c =
    let none : Kept = record { line = 0; count = 0 } in
    grown (string_bytes c.push_item.new.out) (string_bytes c.loop-item.out) (string_bytes c.args.out.now) (spaced (keep_words (these (take c.loop-item.item-index c.args.items.now))))
    (32 ∷ item_text (get_or c.args.items.now c.loop-item.item-index none)) _ c.in_ok-push_item.ensures c.loop-item.invariant (items_pushed c.args.items.now c.loop-item.item-index none c.loop-item-test.true)
