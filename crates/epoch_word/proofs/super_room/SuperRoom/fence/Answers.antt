use Rattle.std.proofs.Common.{subst}
use Rattle.line_memory.specs.Line.{BankState}
use Rattle.epoch_word.proofs.Epochs.{fence_law, HasFenced}
use Rattle.epoch_word.proofs.super_room.SuperRoom.fence.Goals as goal

behind : (c : goal.After-fence) → HasFenced c.self.inside.bank c.fence.new.self
behind c = fence_law c.self.inside.bank c.fence.new.self c.self.invariant c.fence.ensures.is c.fence.ensures.whole

pub invariant_of-self : goal.invariant_of-self
invariant_of-self c = (behind c).room

pub returns-clause-epoch : goal.returns-clause-epoch
returns-clause-epoch c = (subst (λ (b : BankState). HasFenced b c.fence.new.self) c.self.view_is (behind c)).epoch

pub returns-clause-in_memory : goal.returns-clause-in_memory
returns-clause-in_memory c = (subst (λ (b : BankState). HasFenced b c.fence.new.self) c.self.view_is (behind c)).held

pub returns-clause-room : goal.returns-clause-room
returns-clause-room c = (behind c).room
