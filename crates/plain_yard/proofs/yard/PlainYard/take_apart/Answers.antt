use Rattle.std.proofs.Common.{ap, ◌∙◌, subst, arith}
use Rattle.room_yard.specs.World.{WorldState}
use Rattle.plain_yard.specs.Shown.{ShownYard, IsLawfulYard}
use Rattle.plain_yard.specs.Apart.{dead_from}
use Rattle.plain_yard.proofs.Apart.{as_many, few_rooms, rooms_home, memory_under, lines_under, dead_named}
use Rattle.plain_yard.proofs.yard.PlainYard.take_apart.Goals as goal

pub of-requires-clause-banks : goal.of-requires-clause-banks
of-requires-clause-banks c = let n = as_many c.self.inside c.args.self c.self.view_is c.self.invariant c.requires.home c.gathered.result.items c.gathered.ensures in let f = c.self.invariant.lists.banks in omega (arith, n, f)

pub of-requires-clause-numbers : goal.of-requires-clause-numbers
of-requires-clause-numbers c = let n = as_many c.self.inside c.args.self c.self.view_is c.self.invariant c.requires.home c.gathered.result.items c.gathered.ensures in let f = c.self.invariant.lists.held in let k = c.dead_among.ensures.room in omega (arith, n, f, k)

pub returns-clause-rooms : goal.returns-clause-rooms
returns-clause-rooms c = rooms_home c.self.inside c.args.self c.self.view_is c.self.invariant c.requires.home c.of.result.rooms (ap (λ (w : WorldState). w.rooms) c.of.ensures ∙ c.gathered.ensures)

pub returns-clause-memory : goal.returns-clause-memory
returns-clause-memory c = memory_under c.self.inside c.args.self c.self.view_is c.self.invariant c.requires.home c.of.result.rooms (ap (λ (w : WorldState). w.rooms) c.of.ensures ∙ c.gathered.ensures)

pub returns-clause-lines : goal.returns-clause-lines
returns-clause-lines c = lines_under c.self.inside c.args.self c.self.view_is c.self.invariant c.requires.home c.of.result.rooms (ap (λ (w : WorldState). w.rooms) c.of.ensures ∙ c.gathered.ensures)

pub returns-clause-held : goal.returns-clause-held
returns-clause-held c = dead_named c.self.inside c.args.self c.self.view_is c.self.invariant c.requires.home c.gathered.result.items c.gathered.ensures c.of.result.held (ap (λ (w : WorldState). w.held) c.of.ensures ∙ c.dead_among.ensures.items ∙ ap (dead_from 0) c.as_slice.ensures.value)

pub returns-clause-number : goal.returns-clause-number
returns-clause-number c = few_rooms c.self.inside c.args.self c.self.view_is c.self.invariant c.requires.home c.of.result.rooms (ap (λ (w : WorldState). w.rooms) c.of.ensures ∙ c.gathered.ensures)

pub returns-clause-lawful : goal.returns-clause-lawful
returns-clause-lawful c = subst (λ (z : ShownYard). IsLawfulYard z) c.self.view_is c.self.invariant.lawful
