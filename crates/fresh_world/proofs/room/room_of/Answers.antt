use Rattle.std.proofs.Common.{◌≡◌, ◌+◌, ◌-◌, ◌<◌, ◌≤◌, ℕ, arith, sym, ap, ◌∙◌, subst, refl}
use Rattle.seq_object.specs.Sizes.{sizes_of}
use Rattle.room_model.specs.Formatted.{formatted_bank}
use Rattle.formatting.proofs.ByRoom.{thread_bank, super_bank}
use Rattle.fresh_world.specs.Rooms.{IsFreshRoom}
use Rattle.fresh_world.proofs.Rooms.{if_ok}
use Rattle.fresh_world.proofs.room.room_of.Goals as goal

above : (k shards : ℕ) → shards ≤ k → (k ≡ shards → ⊥) → shards < k
above k shards le ne = omega (arith, le, ne)

below : (k shards threads : ℕ) → shards < k → k - shards - 1 < threads → k < shards + 1 + threads
below k shards threads lt le = omega (arith, lt, le)

behind : (k shards : ℕ) → shards < k → shards + 1 + (k - shards - 1) ≡ k
behind k shards lt = omega (arith, lt)

last : (k shards threads : ℕ) → shards < k → threads ≤ k - shards - 1 → k < shards + 2 + threads → k ≡ shards + 1 + threads
last k shards threads lt more within = omega (arith, lt, more, within)

pub queue_room-requires-clause-bank : goal.queue_room-requires-clause-bank
queue_room-requires-clause-bank c = c.requires.bank ∙ ap (formatted_bank (sizes_of c.args.settings)) c.if-room-settings-2.true

pub thread_room-requires : goal.thread_room-requires
thread_room-requires c =
    let up = above c.args.room c.args.settings.shards c.if-room-settings.false c.if-room-settings-2.false in
    c.requires.bank ∙ thread_bank (sizes_of c.args.settings) c.args.room up (below c.args.room c.args.settings.shards c.args.settings.threads up c.if-thread-settings.true)

pub last_room-requires : goal.last_room-requires
last_room-requires c =
    let up = above c.args.room c.args.settings.shards c.if-room-settings.false c.if-room-settings-2.false in
    c.requires.bank ∙ super_bank (sizes_of c.args.settings) c.args.room (last c.args.room c.args.settings.shards c.args.settings.threads up c.if-thread-settings.false c.requires.within)

pub returns-then-room-settings : goal.returns-then-room-settings
returns-then-room-settings c = if_ok _ (IsFreshRoom c.args.settings c.args.lengths.now c.args.room) (λ x each. each c.args.lengths.now) c.map_room.result c.map_room.ensures

pub returns-then-room-settings-2 : goal.returns-then-room-settings-2
returns-then-room-settings-2 c =
    if_ok _ (IsFreshRoom c.args.settings c.args.lengths.now c.args.room)
    (λ x each. subst (λ (k : ℕ). IsFreshRoom c.args.settings c.args.lengths.now k x) (sym c.if-room-settings-2.true) (each c.args.lengths.now)) c.queue_room.result c.queue_room.ensures

pub returns-then-thread-settings : goal.returns-then-thread-settings
returns-then-thread-settings c =
    let up = above c.args.room c.args.settings.shards c.if-room-settings.false c.if-room-settings-2.false in
    if_ok _ (IsFreshRoom c.args.settings c.args.lengths.now c.args.room)
    (λ x each. subst (λ (k : ℕ). IsFreshRoom c.args.settings c.args.lengths.now k x) (behind c.args.room c.args.settings.shards up)
    (each c.args.settings c.args.lengths.now (c.args.room - c.args.settings.shards - 1) c.if-thread-settings.true refl)) c.thread_room.result c.thread_room.ensures

pub returns-else-thread-settings : goal.returns-else-thread-settings
returns-else-thread-settings c =
    let up = above c.args.room c.args.settings.shards c.if-room-settings.false c.if-room-settings-2.false in
    if_ok _ (IsFreshRoom c.args.settings c.args.lengths.now c.args.room)
    (λ x each. subst (λ (k : ℕ). IsFreshRoom c.args.settings c.args.lengths.now k x) (sym (last c.args.room c.args.settings.shards c.args.settings.threads up c.if-thread-settings.false c.requires.within))
    (each c.args.settings c.args.lengths.now)) c.last_room.result c.last_room.ensures
