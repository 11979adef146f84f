use Rattle.std.proofs.Common.{◌≡◌, false, List, sym, ap, subst, ◌∙◌}
use Rattle.life_model.specs.Life.{Opening}
use Rattle.rooms.specs.declared.room.Room.{Room}
use Rattle.recovery.specs.Restored.{restored_on, any_left}
use Rattle.recovery.specs.Recovering.{RecoveryState, IsRecovery, MayStore, with_last, last_of, next_stored, written_back, in_memory, events_left}
use Rattle.recovery.proofs.Lists.{AreRestoredFrom}
use Rattle.recovery.proofs.Safe.{recovery_safe}
use Rattle.recovery.proofs.GoesOn.{left_stored, left_restored}
use Rattle.recovery.proofs.Endings.{goes_on_kept}
use Rattle.recovery.proofs.EpochEvents.{rooms_go_on, restoring_goes, may_store, store_goes, last_whole, asks_goes, fence_goes}
use Rattle.rooms.specs.Rooms.{IsWhole}
use Rattle.epoch_word.specs.declared.stage.EpochStage.TheVariants as stages
use Rattle.recovery.proofs.recovery.Recovery.step.Goals as goal

-- the same, for rooms that are equal to those behind the event
restore_at : (o : Opening) (r : RecoveryState) (rooms : List Room) → r.stage ≡ stages.Before → IsRecovery o r → rooms ≡ restored_on r.rooms → AreRestoredFrom r.rooms rooms → IsRecovery o (record r { rooms = rooms })
restore_at o r rooms at is made from =
    subst (λ (xs : List Room). IsRecovery o (record r { rooms = xs })) (sym made) (restoring_goes o r at is (subst (AreRestoredFrom r.rooms) made from))

may_store_at : (o : Opening) (r : RecoveryState) (rooms : List Room) → r.stage ≡ stages.Before → IsRecovery o r → any_left r.rooms ≡ false → rooms ≡ restored_on r.rooms → AreRestoredFrom r.rooms rooms → MayStore (last_of rooms)
may_store_at o r rooms at is none made from = subst (λ (xs : List Room). MayStore (last_of xs)) (sym made) (may_store o r at is none (subst (AreRestoredFrom r.rooms) made from))

store_at : (o : Opening) (r : RecoveryState) (rooms new : List Room) → r.stage ≡ stages.Before → IsRecovery o r → any_left r.rooms ≡ false → rooms ≡ restored_on r.rooms → AreRestoredFrom r.rooms rooms
    → new ≡ with_last next_stored rooms → IsWhole (next_stored (last_of rooms)) → IsRecovery o (record r { rooms = new; stage = stages.Stored })
store_at o r rooms new at is none made from stored whole =
    subst (λ (xs : List Room). IsRecovery o (record r { rooms = xs; stage = stages.Stored })) (sym (stored ∙ ap (with_last next_stored) made))
    (store_goes o r at is none (subst (AreRestoredFrom r.rooms) made from) (subst (λ (xs : List Room). IsWhole (next_stored (last_of xs))) made whole))

asks_at : (o : Opening) (r : RecoveryState) (new : List Room) → r.stage ≡ stages.Stored → IsRecovery o r → new ≡ with_last written_back r.rooms → IsWhole (written_back (last_of r.rooms)) → IsRecovery o (record r { rooms = new; stage = stages.AskedFor })
asks_at o r new at is made whole = subst (λ (xs : List Room). IsRecovery o (record r { rooms = xs; stage = stages.AskedFor })) (sym made) (asks_goes o r at is whole)

fence_at : (o : Opening) (r : RecoveryState) (new : List Room) → r.stage ≡ stages.AskedFor → IsRecovery o r → new ≡ with_last in_memory r.rooms → IsWhole (in_memory (last_of r.rooms)) → IsRecovery o (record r { rooms = new; stage = stages.InMemory })
fence_at o r new at is made whole = subst (λ (xs : List Room). IsRecovery o (record r { rooms = xs; stage = stages.InMemory })) (sym made) (fence_goes o r at is whole)

pub restore_next-requires : goal.restore_next-requires
restore_next-requires c = let is = c.self.invariant.about in rooms_go_on c.self.invariant.some c.self.inside.stage c.self.inside.rooms.items is.rooms

pub store_next-requires-clause-may : goal.store_next-requires-clause-may
store_next-requires-clause-may c =
    may_store_at c.self.invariant.some (record { settings = c.self.inside.settings; rooms = c.self.inside.rooms.items; stage = c.self.inside.stage }) c.restore_next.new.rooms.items c.in-Before.is c.self.invariant.about
    (sym c.if-not-restore_next.ensures.was) c.restore_next.ensures.is c.restore_next.ensures.kept

stored_goes : (c : goal.After-self-1) (o : Opening) → IsRecovery o (record { settings = c.self.inside.settings; rooms = c.self.inside.rooms.items; stage = c.self.inside.stage })
    → IsRecovery o (record { settings = c.self.inside.settings; rooms = c.store_next.new.rooms.items; stage = stages.Stored })
stored_goes c o is =
    store_at o (record { settings = c.self.inside.settings; rooms = c.self.inside.rooms.items; stage = c.self.inside.stage }) c.restore_next.new.rooms.items c.store_next.new.rooms.items c.in-Before.is is
    (sym c.if-not-restore_next.ensures.was) c.restore_next.ensures.is c.restore_next.ensures.kept c.store_next.ensures.is c.store_next.ensures.whole

pub invariant_of-self : goal.invariant_of-self
invariant_of-self c = goes_on_kept (record { settings = c.self.inside.settings; rooms = c.self.inside.rooms.items; stage = c.self.inside.stage }) (record { settings = c.self.inside.settings; rooms = c.store_next.new.rooms.items; stage = stages.Stored }) c.self.inside.spare c.self.inside.held c.self.invariant (stored_goes c)

pub returns-then-not-restore_next-clause-about : goal.returns-then-not-restore_next-clause-about
returns-then-not-restore_next-clause-about c = λ o is. stored_goes c o (subst (IsRecovery o) (sym c.self.view_is) is)

restored_goes : (c : goal.Else-not-restore_next) (o : Opening) → IsRecovery o (record { settings = c.self.inside.settings; rooms = c.self.inside.rooms.items; stage = c.self.inside.stage })
    → IsRecovery o (record { settings = c.self.inside.settings; rooms = c.restore_next.new.rooms.items; stage = c.self.inside.stage })
restored_goes c o is =
    restore_at o (record { settings = c.self.inside.settings; rooms = c.self.inside.rooms.items; stage = c.self.inside.stage }) c.restore_next.new.rooms.items c.in-Before.is is c.restore_next.ensures.is c.restore_next.ensures.kept

pub invariant_of-self-else-not-restore_next : goal.invariant_of-self-else-not-restore_next
invariant_of-self-else-not-restore_next c = goes_on_kept (record { settings = c.self.inside.settings; rooms = c.self.inside.rooms.items; stage = c.self.inside.stage }) (record { settings = c.self.inside.settings; rooms = c.restore_next.new.rooms.items; stage = c.self.inside.stage }) c.self.inside.spare c.self.inside.held c.self.invariant (restored_goes c)

pub returns-else-not-restore_next-clause-about : goal.returns-else-not-restore_next-clause-about
returns-else-not-restore_next-clause-about c = λ o is. restored_goes c o (subst (IsRecovery o) (sym c.self.view_is) is)

pub write_back-requires-clause-whole : goal.write_back-requires-clause-whole
write_back-requires-clause-whole c = last_whole c.self.invariant.some (record { settings = c.self.inside.settings; rooms = c.self.inside.rooms.items; stage = c.self.inside.stage }) c.self.invariant.about

asked_goes : (c : goal.After-self-in-Stored-1) (o : Opening) → IsRecovery o (record { settings = c.self.inside.settings; rooms = c.self.inside.rooms.items; stage = c.self.inside.stage })
    → IsRecovery o (record { settings = c.self.inside.settings; rooms = c.write_back.new.rooms.items; stage = stages.AskedFor })
asked_goes c o is =
    asks_at o (record { settings = c.self.inside.settings; rooms = c.self.inside.rooms.items; stage = c.self.inside.stage }) c.write_back.new.rooms.items c.in-Stored.is is c.write_back.ensures.is c.write_back.ensures.whole

pub invariant_of-self-in-Stored : goal.invariant_of-self-in-Stored
invariant_of-self-in-Stored c = goes_on_kept (record { settings = c.self.inside.settings; rooms = c.self.inside.rooms.items; stage = c.self.inside.stage }) (record { settings = c.self.inside.settings; rooms = c.write_back.new.rooms.items; stage = stages.AskedFor }) c.self.inside.spare c.self.inside.held c.self.invariant (asked_goes c)

pub returns-in-Stored-clause-about : goal.returns-in-Stored-clause-about
returns-in-Stored-clause-about c = λ o is. asked_goes c o (subst (IsRecovery o) (sym c.self.view_is) is)

pub fence-requires-clause-whole : goal.fence-requires-clause-whole
fence-requires-clause-whole c = last_whole c.self.invariant.some (record { settings = c.self.inside.settings; rooms = c.self.inside.rooms.items; stage = c.self.inside.stage }) c.self.invariant.about

fenced_goes : (c : goal.After-self-in-AskedFor-1) (o : Opening) → IsRecovery o (record { settings = c.self.inside.settings; rooms = c.self.inside.rooms.items; stage = c.self.inside.stage })
    → IsRecovery o (record { settings = c.self.inside.settings; rooms = c.fence.new.rooms.items; stage = stages.InMemory })
fenced_goes c o is =
    fence_at o (record { settings = c.self.inside.settings; rooms = c.self.inside.rooms.items; stage = c.self.inside.stage }) c.fence.new.rooms.items c.in-AskedFor.is is c.fence.ensures.is c.fence.ensures.whole

pub invariant_of-self-in-AskedFor : goal.invariant_of-self-in-AskedFor
invariant_of-self-in-AskedFor c = goes_on_kept (record { settings = c.self.inside.settings; rooms = c.self.inside.rooms.items; stage = c.self.inside.stage }) (record { settings = c.self.inside.settings; rooms = c.fence.new.rooms.items; stage = stages.InMemory }) c.self.inside.spare c.self.inside.held c.self.invariant (fenced_goes c)

pub returns-in-AskedFor-clause-about : goal.returns-in-AskedFor-clause-about
returns-in-AskedFor-clause-about c = λ o is. fenced_goes c o (subst (IsRecovery o) (sym c.self.view_is) is)

pub returns-then-not-restore_next-clause-safe : goal.returns-then-not-restore_next-clause-safe
returns-then-not-restore_next-clause-safe c = λ o is scripts. recovery_safe o (record { settings = c.self.inside.settings; rooms = c.store_next.new.rooms.items; stage = stages.Stored }) (stored_goes c o (subst (IsRecovery o) (sym c.self.view_is) is)) scripts

pub returns-else-not-restore_next-clause-safe : goal.returns-else-not-restore_next-clause-safe
returns-else-not-restore_next-clause-safe c = λ o is scripts. recovery_safe o (record { settings = c.self.inside.settings; rooms = c.restore_next.new.rooms.items; stage = c.self.inside.stage }) (restored_goes c o (subst (IsRecovery o) (sym c.self.view_is) is)) scripts

pub returns-in-Stored-clause-safe : goal.returns-in-Stored-clause-safe
returns-in-Stored-clause-safe c = λ o is scripts. recovery_safe o (record { settings = c.self.inside.settings; rooms = c.write_back.new.rooms.items; stage = stages.AskedFor }) (asked_goes c o (subst (IsRecovery o) (sym c.self.view_is) is)) scripts

pub returns-in-AskedFor-clause-safe : goal.returns-in-AskedFor-clause-safe
returns-in-AskedFor-clause-safe c = λ o is scripts. recovery_safe o (record { settings = c.self.inside.settings; rooms = c.fence.new.rooms.items; stage = stages.InMemory }) (fenced_goes c o (subst (IsRecovery o) (sym c.self.view_is) is)) scripts

pub returns-then-not-restore_next-clause-left : goal.returns-then-not-restore_next-clause-left
returns-then-not-restore_next-clause-left c = ap events_left (sym c.self.view_is) ∙ left_stored (record { settings = c.self.inside.settings; rooms = c.self.inside.rooms.items; stage = c.self.inside.stage }) c.in-Before.is (sym c.if-not-restore_next.ensures.was)

pub returns-else-not-restore_next-clause-left : goal.returns-else-not-restore_next-clause-left
returns-else-not-restore_next-clause-left c = ap events_left (sym c.self.view_is) ∙ left_restored (record { settings = c.self.inside.settings; rooms = c.self.inside.rooms.items; stage = c.self.inside.stage }) c.restore_next.new.rooms.items c.in-Before.is (sym c.if-not-restore_next.ensures.was) c.restore_next.ensures.is
