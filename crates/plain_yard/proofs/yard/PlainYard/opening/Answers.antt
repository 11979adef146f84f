use Rattle.std.proofs.Common.{List, map, Some, ap, ◌∙◌}
use Rattle.rooms.specs.declared.room.Room.{Room}
use Rattle.plain_yard.proofs.Openings.{yard_kept, yard_shown}
use Rattle.plain_yard.proofs.yard.PlainYard.opening.Goals as goal

pub invariant_of-result : goal.invariant_of-result
invariant_of-result c = yard_kept c.args.world c.args.beginning c.args.lists c.requires.opens c.requires.lists c.placed.result (c.placed.ensures ∙ ap (λ (l : List Room). map Some l) c.into_parts-parts.ensures.rooms) c.into_parts-parts.result.arrival c.into_parts-parts.ensures.arrival c.into_parts-parts.result.held c.into_parts-parts.ensures.held c.into_parts-parts.ensures.numbers c.into_parts-parts.result.spare c.into_parts-parts.ensures.empty c.into_parts-parts.ensures.banks

pub returns-clause-is : goal.returns-clause-is
returns-clause-is c = yard_shown c.args.world c.args.beginning c.args.lists c.requires.opens c.requires.lists c.placed.result (c.placed.ensures ∙ ap (λ (l : List Room). map Some l) c.into_parts-parts.ensures.rooms) c.into_parts-parts.result.arrival c.into_parts-parts.ensures.arrival c.into_parts-parts.result.held c.into_parts-parts.ensures.held c.into_parts-parts.ensures.numbers c.into_parts-parts.result.spare c.into_parts-parts.ensures.empty c.into_parts-parts.ensures.banks

pub returns-clause-lawful : goal.returns-clause-lawful
returns-clause-lawful c = (yard_kept c.args.world c.args.beginning c.args.lists c.requires.opens c.requires.lists c.placed.result (c.placed.ensures ∙ ap (λ (l : List Room). map Some l) c.into_parts-parts.ensures.rooms) c.into_parts-parts.result.arrival c.into_parts-parts.ensures.arrival c.into_parts-parts.result.held c.into_parts-parts.ensures.held c.into_parts-parts.ensures.numbers c.into_parts-parts.result.spare c.into_parts-parts.ensures.empty c.into_parts-parts.ensures.banks).lawful
