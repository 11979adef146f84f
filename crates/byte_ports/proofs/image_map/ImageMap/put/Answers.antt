use Rattle.std.proofs.Common.{ℕ, List, ap, ◌∙◌}
use Rattle.std.specs.FinMap.{insert}
use Rattle.std.specs.String.{string_bytes}
use Rattle.byte_ports.specs.Images.{Named}
use Rattle.byte_ports.proofs.Maps.{named_of-insert}
use Rattle.byte_ports.proofs.image_map.ImageMap.put.Goals as goal

pub returns-clause-ok : goal.returns-clause-ok
returns-clause-ok c =
    named_of-insert c.self.inside.images c.insert.new.self c.in_ok-name.name c.args.bytes c.in_ok-insert.ensures.updates
    ∙ ap (λ (m : Named). insert m (string_bytes c.in_ok-name.name) c.args.bytes.items) c.self.view_is
    ∙ ap (λ (name : List ℕ). insert c.args.self.now name c.args.bytes.items) c.in_ok-name.ensures.ok
