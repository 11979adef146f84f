use Rattle.std.proofs.Common.{ℕ, Option, List, OnOk, subst}
use Rattle.std.specs.Fmt.{AppendsText}
use Rattle.std.specs.String.{string_bytes}
use Rattle.explore_example.proofs.States.{printed_state}
use Rattle.explore_example.proofs.telling.push_state.Goals as goal

pub returns : goal.returns
returns c = subst (λ (o : Option (List ℕ)). OnOk c.write.result (AppendsText (string_bytes c.args.out.now) (string_bytes c.write.new.self) o)) (printed_state c.args.values.now) c.write.ensures.bytes
