use Rattle.std.proofs.Common.{ℕ, List, subst, ◌∙◌}
use Rattle.std.specs.Prelude.{OnErr}
use Rattle.byte_ports.specs.Bytes.{AppendedSome}
use Rattle.respct.proofs.drilling.tell.Goals as goal

pub returns-in-Ok-clause-refused : goal.returns-in-Ok-clause-refused
returns-in-Ok-clause-refused g c =
    subst (λ (text : List ℕ). OnErr c.write_all.result (AppendedSome (g.W.Sink.held c.args.sink.now) (g.W.Sink.held c.write_all.new.sink) text)) (c.as_slice.ensures.value ∙ c.in-Ok.ensures) c.write_all.ensures.refused
