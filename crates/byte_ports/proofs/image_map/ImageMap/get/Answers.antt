use Rattle.std.proofs.Common.{ℕ, List, Some, sym, ap, ◌∙◌}
use Rattle.std.specs.Prelude.{option_map}
use Rattle.std.specs.FinMap.{get}
use Rattle.byte_ports.specs.Images.{Named}
use Rattle.byte_ports.proofs.Maps.{get-named_of}
use Rattle.byte_ports.proofs.image_map.ImageMap.get.Goals as goal

pub returns-in-Some : goal.returns-in-Some
returns-in-Some c =
    ap (λ (xs : List ℕ). Some xs) c.as_slice.ensures.value
    ∙ ap (option_map (λ x. x.items)) c.in-Some.ensures.value
    ∙ sym (get-named_of c.self.inside.images c.args.name.now)
    ∙ ap (λ (m : Named). get m c.args.name.now) c.self.view_is

pub returns-in-None : goal.returns-in-None
returns-in-None c =
    ap (option_map (λ x. x.items)) c.in-None.ensures.value
    ∙ sym (get-named_of c.self.inside.images c.args.name.now)
    ∙ ap (λ (m : Named). get m c.args.name.now) c.self.view_is
