use Rattle.std.proofs.Common.{◌≡◌, ℕ, List, subst, ◌∙◌}
use Rattle.std.specs.Prelude.{OnErr}
use Rattle.byte_ports.specs.Bytes.{AppendedSome}
use Rattle.respct.specs.Checks.{found_text}
use Rattle.respct.proofs.Checks.{text_given}
use Rattle.respct.proofs.checking.tell.Goals as goal

pub returns-in-Ok-clause-refused : goal.returns-in-Ok-clause-refused
returns-in-Ok-clause-refused g c =
    let is : c.in-Ok.text.items ≡ found_text c.args.found.now =
    text_given c.args.found.now c.in-Ok.text.items c.as_slice-positions.result.now c.as_slice-pairs.result.now c.as_slice.result.now c.in-Ok.ensures c.as_slice-positions.ensures.value c.as_slice-pairs.ensures.value c.as_slice.ensures.value in
    subst (λ (text : List ℕ). OnErr c.write_all.result (AppendedSome (g.W.Sink.held c.args.sink.now) (g.W.Sink.held c.write_all.new.sink) text)) (c.as_slice-in-Ok.ensures.value ∙ is) c.write_all.ensures.refused
