use Rattle.std.proofs.Common.{ℕ, ◌-◌, List, take, drop, length, arith, sym, subst}
use Rattle.std.proofs.lemmas.List.{length-drop, length-take-le}
use Rattle.byte_ports.specs.Bytes.{Appended}
use Rattle.byte_ports.proofs.Takes.{appended_more, take_further}
use Rattle.byte_ports.proofs.sink.write_all.Goals as goal

pub loop-done-preserved : goal.loop-done-preserved
loop-done-preserved g c = record {
  written = subst (λ (xs : List ℕ). Appended (g.W.Sink.held c.args.sink.now) (g.W.Sink.held c.write.new.self) xs) (sym (take_further c.args.bytes.now c.loop-done.done c.in-Ok.n))
      (appended_more (g.W.Sink.held c.args.sink.now) (g.W.Sink.held c.loop-done.sink) (g.W.Sink.held c.write.new.self) (take c.loop-done.done c.args.bytes.now) _ c.loop-done.invariant.written c.in-Ok.ensures.appended);
  within = omega (arith, c.in-Ok.ensures.bound, length-take-le (length c.args.bytes.now - c.loop-done.done) (drop c.loop-done.done c.args.bytes.now) (omega (arith, length-drop c.loop-done.done c.args.bytes.now)));
  later = omega (arith, c.write.ensures.later);
}
