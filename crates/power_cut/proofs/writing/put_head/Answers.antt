use Rattle.std.proofs.lemmas.Result.{on_ok_weaker}
use Rattle.power_cut.proofs.Heaped.{head_written}
use Rattle.power_cut.proofs.writing.put_head.Goals as goal

pub returns : goal.returns
returns c =
    on_ok_weaker c.put_number-4.result
    (λ last. head_written c.args.sizes c.args.bytes.now.items c.extend_from_slice.new.self.items c.put_number.new.bytes.items c.put_number-2.new.bytes.items c.put_number-3.new.bytes.items c.put_number-4.new.bytes.items
    (c.in_ok-extend_from_slice.ensures).items (c.in_ok-put_number.ensures) (c.in_ok-put_number-2.ensures) (c.in_ok-put_number-3.ensures) last)
    c.put_number-4.ensures
