use Rattle.std.proofs.Common.{arith, rules, sym, subst, None}
use Rattle.yard_model.specs.declared.view.View.{View}
use Rattle.yard_model.specs.Conditions.{MayLock}
use Rattle.room_yard.specs.Calls.{MayReturn}
use Rattle.room_yard.specs.Answers.{Unlocked}
use Rattle.room_yard.proofs.Returned.{unlocks, goes_back}
use Rattle.shared_yard.specs.Rule.{one_view}
use Rattle.shared_yard.proofs.tests.shares_a_room.Goals as goal

pub unlock-requires : goal.unlock-requires
unlock-requires g c = let one = c.requires.shards.0 in let may : MayLock (one_view c.args.first.now.seat.me.0) 0 = search rules in record {
  may = subst (λ (v : View). MayReturn v 0 c.in-Ok.room) (sym c.in-Err-stand.ensures.refused.view) (unlocks may c.requires.runs.0 (omega (arith, one)) c.in-Ok.ensures.locked);
}

pub returns-clause-first : goal.returns-clause-first
returns-clause-first g c = let one = c.requires.shards.0 in let may : MayLock (one_view c.args.first.now.seat.me.0) 0 = search rules in
    goes_back may c.requires.runs.0 (omega (arith, one)) c.in-Ok.ensures.locked (subst (λ (v : View). Unlocked v None 0 c.in-Ok.room (one_view c.unlock.new.self.seat.me.0) None) c.in-Err-stand.ensures.refused.view c.unlock.ensures.done)
