use Rattle.std.proofs.Common.{◌≡◌, ◌<◌, ◌^◌, ◌∙◌, ℕ, List, length, refl, sym, ap, subst}
use Rattle.std.specs.Prelude.{not}
use Rattle.std.proofs.lemmas.List.{get_or_default}
use Rattle.rooms.specs.declared.room.Room.{Room}
use Rattle.rooms.specs.Rooms.{bank_of, is_empty_queue}
use Rattle.room_model.specs.EpochLine.{loaded_epoch}
use Rattle.room_yard.specs.World.{WorldState, memory_of}
use Rattle.room_yard.specs.Answers.{next_word}
use Rattle.recovery.specs.Restored.{no_room, room_at}
use Rattle.recovery.specs.Recovering.{RecoveryState, IsRecovery, last_of}
use Rattle.recovery.specs.Ends.{AreTold, are_at_end}
use Rattle.recovery.specs.Laws.{IsWorldOf}
use Rattle.recovery.proofs.Endings.{last_line, last_fits, queue_line, queue_within, here_in}
use Rattle.recovery.proofs.WorldMemory.{memory_told, memory_fits}
use Rattle.recovery.proofs.Worlds.{world_opens}
use Rattle.recovery.proofs.recovery.Recovery.into_world.Goals as goal

pub has_item-fed-requires : goal.has_item-fed-requires
has_item-fed-requires c =
    let r : RecoveryState = record { settings = c.self.inside.settings; rooms = c.self.inside.rooms.items; stage = c.self.inside.stage } in
    let here : room_at c.self.inside.rooms.items c.self.inside.settings.shards ≡ c.index.result.now =
    get_or_default c.self.inside.rooms.items c.self.inside.settings.shards no_room c.index.result.now (queue_within c.self.invariant.some r c.self.invariant.about) ∙ sym c.index.ensures in
    subst (λ (x : Room). 1 < length (bank_of x).lines) here (queue_line c.self.invariant.some r c.self.invariant.about)

pub epoch_in-epoch-requires-clause-line : goal.epoch_in-epoch-requires-clause-line
epoch_in-epoch-requires-clause-line c =
    subst (λ (xs : List Room). 0 < length (bank_of (last_of xs)).lines) (sym c.as_slice.ensures.value)
    (last_line c.self.invariant.some (record { settings = c.self.inside.settings; rooms = c.self.inside.rooms.items; stage = c.self.inside.stage }) c.self.invariant.about)

pub epoch_in-epoch-requires-clause-fits : goal.epoch_in-epoch-requires-clause-fits
epoch_in-epoch-requires-clause-fits c =
    subst (λ (xs : List Room). loaded_epoch (bank_of (last_of xs)) < 2 ^ 32) (sym c.as_slice.ensures.value)
    (last_fits c.self.invariant.some (record { settings = c.self.inside.settings; rooms = c.self.inside.rooms.items; stage = c.self.inside.stage }) c.self.invariant.about)

pub tell_ends-over-requires-clause-rooms : goal.tell_ends-over-requires-clause-rooms
tell_ends-over-requires-clause-rooms c =
    here_in c.self.invariant.some (record { settings = c.self.inside.settings; rooms = c.self.inside.rooms.items; stage = c.self.inside.stage }) c.self.invariant.about

world_is : (c : goal.After-of) → IsWorldOf (record { settings = c.self.inside.settings; rooms = c.self.inside.rooms.items; stage = c.self.inside.stage }) c.args.lengths.now c.of.result
world_is c =
    let r : RecoveryState = record { settings = c.self.inside.settings; rooms = c.self.inside.rooms.items; stage = c.self.inside.stage } in
    let many : length c.args.lengths.now ≡ c.self.inside.settings.threads = c.requires.lengths ∙ sym (ap (λ (s : RecoveryState). s.settings.threads) c.self.view_is) in
    let over : c.tell_ends-over.result ≡ are_at_end c.self.inside.settings.shards c.args.lengths.now c.self.inside.rooms.items c.self.inside.settings.threads =
    c.tell_ends-over.ensures.at_end ∙ ap (are_at_end c.self.inside.settings.shards c.args.lengths.now c.self.inside.rooms.items) many in
    let queue : room_at c.self.inside.rooms.items c.self.inside.settings.shards ≡ c.index.result.now =
    get_or_default c.self.inside.rooms.items c.self.inside.settings.shards no_room c.index.result.now (queue_within c.self.invariant.some r c.self.invariant.about) ∙ sym c.index.ensures in
    let fed : c.has_item-fed.result ≡ not (is_empty_queue (room_at c.self.inside.rooms.items c.self.inside.settings.shards)) = c.has_item-fed.ensures ∙ ap (λ (x : Room). not (is_empty_queue x)) (sym queue) in
    let epoch : c.epoch_in-epoch.result ≡ loaded_epoch (bank_of (last_of c.self.inside.rooms.items)) = c.epoch_in-epoch.ensures ∙ ap (λ (xs : List Room). loaded_epoch (bank_of (last_of xs))) c.as_slice.ensures.value in
    subst (λ (w : WorldState). IsWorldOf r c.args.lengths.now w) (sym c.of.ensures) (record {
      told = subst (λ (n : ℕ). AreTold c.self.inside.settings.shards c.args.lengths.now n c.self.inside.rooms.items c.tell_ends-over.new.rooms.items) many c.tell_ends-over.ensures.told;
      arrival = c.word_of_epoch-arrival.ensures ∙ (λ j. next_word c.self.inside.settings.threads (over j) (fed j) (epoch j));
      clock = refl;
      held = c.self.invariant.no_held;
    })

pub returns-clause-is : goal.returns-clause-is
returns-clause-is c = subst (λ (r : RecoveryState). IsWorldOf r c.args.lengths.now c.of.result) c.self.view_is (world_is c)

memory_is : (c : goal.After-of) → memory_of c.of.result.rooms ≡ memory_of c.args.self.rooms
memory_is c = let world = subst (λ (r : RecoveryState). IsWorldOf r c.args.lengths.now c.of.result) c.self.view_is (world_is c) in
    memory_told c.args.self.settings.shards c.args.lengths.now c.args.self.settings.threads c.args.self.rooms c.of.result.rooms world.told

pub returns-clause-memory : goal.returns-clause-memory
returns-clause-memory c = memory_is c

pub returns-clause-fits : goal.returns-clause-fits
returns-clause-fits c = memory_fits c.self.invariant.some c.args.self c.of.result.rooms (subst (λ (r : RecoveryState). IsRecovery c.self.invariant.some r) c.self.view_is c.self.invariant.about) (memory_is c)

pub returns-clause-opens : goal.returns-clause-opens
returns-clause-opens c = λ b is counts all begins.
    world_opens b c.args.self c.args.lengths.now c.of.result is c.requires.finished counts all begins (subst (λ (r : RecoveryState). IsWorldOf r c.args.lengths.now c.of.result) c.self.view_is (world_is c))
