use Rattle.std.proofs.Common.{◌++◌, ◌∷◌, [], List, take, sym, ap, ◌∙◌, arith}
use Rattle.std.proofs.lemmas.List.{take_more}
use Rattle.std.proofs.lemmas.Option.{get_or_from_slice_get}
use Rattle.seq_object.specs.declared.history.Entry.{Entry}
use Rattle.script_run.proofs.ending.drawn.Goals as goal

pub loop-place-preserved : goal.loop-place-preserved
loop-place-preserved c =
    let history = c.args.yard.now.told.history in
    let place = c.loop-place.place in
    let here = get_or_from_slice_get history place c.entry.result c.entry.result c.entry.ensures.entry in
    let within = c.loop-place-test.true in
    let number = c.entries-place-end.ensures.number in
    record {
      drawn = c.push_reserved.ensures.items
          ∙ (ap (λ (es : List Entry). es ++ c.entry.result ∷ []) c.loop-place.invariant.drawn
          ∙ sym (take_more history place c.entry.result (omega (arith, within, number)) ∙ ap (λ (e : Entry). take place history ++ e ∷ []) here));
      capacity = c.push_reserved.ensures.capacity ∙ c.loop-place.invariant.capacity;
    }
