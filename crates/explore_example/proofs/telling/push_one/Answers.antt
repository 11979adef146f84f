use Rattle.std.proofs.Common.{codes}
use Rattle.std.specs.String.{string_bytes}
use Rattle.explore_example.specs.Words.{state_text}
use Rattle.explore_example.proofs.Pieces.{grown}
use Rattle.explore_example.proofs.telling.push_one.Goals as goal

pub returns : goal.returns
returns c = grown (string_bytes c.push_state.new.out) (string_bytes c.write.new.self) (string_bytes c.args.out.now) (codes ", allowed is ") (state_text c.args.saved.now) c.in_ok-push_state.ensures c.in_ok-write.ensures.bytes
