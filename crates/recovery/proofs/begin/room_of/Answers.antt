use Rattle.std.proofs.Common.{◌≡◌, ◌<◌, ◌≤◌, ◌+◌, ◌-◌, ℕ, arith, subst}
use Rattle.recovery.specs.Banks.{MayBecome, Becomes}
use Rattle.recovery.proofs.Begins.{thread_may, word_may, if_ok}
use Rattle.recovery.proofs.begin.room_of.Goals as goal

pub queue_room-requires : goal.queue_room-requires
queue_room-requires c = subst (λ (k : ℕ). MayBecome c.args.settings c.args.epoch k c.args.bank) c.if-room-settings-2.true c.requires.bank

above : (k shards : ℕ) → shards ≤ k → (k ≡ shards → ⊥) → shards < k
above k shards le ne = omega (arith, le, ne)

below : (k shards threads : ℕ) → shards < k → k - shards ≤ threads → k < shards + 1 + threads
below k shards threads lt le = omega (arith, lt, le)

last : (k shards threads : ℕ) → shards < k → threads < k - shards → k < shards + 2 + threads → k ≡ shards + 1 + threads
last k shards threads lt more within = omega (arith, lt, more, within)

pub thread_room-requires : goal.thread_room-requires
thread_room-requires c =
    let up = above c.args.room c.args.settings.shards c.if-room-settings.false c.if-room-settings-2.false in
    let both = thread_may c.args.settings c.args.epoch c.args.room c.args.bank up (below c.args.room c.args.settings.shards c.args.settings.threads up c.if-room-settings-3.true) c.requires.bank in
    record { one = both.0; settled = both.1 }

pub last_room-requires : goal.last_room-requires
last_room-requires c =
    let up = above c.args.room c.args.settings.shards c.if-room-settings.false c.if-room-settings-2.false in
    word_may c.args.settings c.args.epoch c.args.room c.args.bank (last c.args.room c.args.settings.shards c.args.settings.threads up c.if-room-settings-3.false c.requires.within) c.requires.bank

pub returns-then-room-settings-3 : goal.returns-then-room-settings-3
returns-then-room-settings-3 c =
    let up = above c.args.room c.args.settings.shards c.if-room-settings.false c.if-room-settings-2.false in
    if_ok _ (Becomes c.args.settings c.args.epoch c.args.room c.args.bank) (λ x each. each c.args.settings c.args.room up (below c.args.room c.args.settings.shards c.args.settings.threads up c.if-room-settings-3.true)) c.thread_room.result c.thread_room.ensures

pub returns-else-room-settings-3 : goal.returns-else-room-settings-3
returns-else-room-settings-3 c =
    let up = above c.args.room c.args.settings.shards c.if-room-settings.false c.if-room-settings-2.false in
    if_ok _ (Becomes c.args.settings c.args.epoch c.args.room c.args.bank)
    (λ x each. each c.args.settings c.args.room c.args.epoch (last c.args.room c.args.settings.shards c.args.settings.threads up c.if-room-settings-3.false c.requires.within)) c.last_room.result c.last_room.ensures
