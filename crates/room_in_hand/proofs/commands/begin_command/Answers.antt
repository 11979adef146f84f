use Rattle.std.proofs.Common.{◌≡◌, sym, subst, OnErr, IfOk}
use Rattle.rooms.specs.declared.room.Room.{Room}
use Rattle.rooms.specs.declared.room.Room.TheVariants.{Map, Queue}
use Rattle.seq_object.specs.Sizes.{sizes_of}
use Rattle.seq_object.specs.Object.{room_of, reply_to}
use Rattle.room_in_hand.specs.Known.{Knowledge}
use Rattle.room_in_hand.specs.InHand.{resting, IsInHand}
use Rattle.room_in_hand.specs.Working.{begun_command_use}
use Rattle.room_in_hand.proofs.Beginnings.{MapCalls, map_reply, map_begun, map_refused_on, QueueCalls, queue_reply, queue_begun, queue_kept_refused, on_err}
use Rattle.room_in_hand.proofs.commands.begin_command.Goals as goal

pub returns-in_err-reply-in-Map-clause-refused : goal.returns-in_err-reply-in-Map-clause-refused
returns-in_err-reply-in-Map-clause-refused c =
    let e = c.enter.ensures in
    let b = c.begin.ensures in
    let calls : MapCalls c.in-Map.map c.enter.new.self c.begin.new.self c.args.epoch = record { is = e.is; lines = e.lines; words = e.words; whole = e.whole; same = b.same; room = b.room } in
    on_err ((k : Knowledge) → k.epoch ≡ c.args.epoch → IsInHand resting k c.args.room.now → IsInHand resting k (Map c.begin.new.self)) c.from_residual.result
    (λ k at was. map_refused_on c.in-Map.map c.enter.new.self c.begin.new.self c.args.epoch calls k (subst (λ (x : Room). IsInHand resting k x) c.in-Map.is was) at c.in_err-reply-in-Map.ensures.refused)

pub returns-in_ok-reply-in-Map-clause-reply : goal.returns-in_ok-reply-in-Map-clause-reply
returns-in_ok-reply-in-Map-clause-reply c = λ k here was.
    let e = c.enter.ensures in
    let b = c.begin.ensures in
    let calls : MapCalls c.in-Map.map c.enter.new.self c.begin.new.self c.args.epoch = record { is = e.is; lines = e.lines; words = e.words; whole = e.whole; same = b.same; room = b.room } in
    map_reply c.in-Map.map c.enter.new.self c.begin.new.self c.args.epoch calls k (subst (λ (x : Room). IsInHand resting k x) c.in-Map.is was) c.args.command c.in_ok-reply-in-Map.reply here c.in_ok-reply-in-Map.ensures.reply

pub returns-in_ok-reply-in-Map-clause-kept : goal.returns-in_ok-reply-in-Map-clause-kept
returns-in_ok-reply-in-Map-clause-kept c = λ k at here was.
    let e = c.enter.ensures in
    let b = c.begin.ensures in
    let o = c.in_ok-reply-in-Map.ensures in
    let calls : MapCalls c.in-Map.map c.enter.new.self c.begin.new.self c.args.epoch = record { is = e.is; lines = e.lines; words = e.words; whole = e.whole; same = b.same; room = b.room } in
    map_begun c.in-Map.map c.enter.new.self c.begin.new.self c.args.epoch calls k (subst (λ (x : Room). IsInHand resting k x) c.in-Map.is was) c.args.command c.in_ok-reply-in-Map.reply at here o.ok o.reply o.contents

pub returns-in-Queue-clause-reply : goal.returns-in-Queue-clause-reply
returns-in-Queue-clause-reply c =
    let e = c.enter-in-Queue.ensures in
    let b = c.begin-in-Queue.ensures in
    let calls : QueueCalls c.in-Queue.queue c.enter-in-Queue.new.self c.begin-in-Queue.new.self c.args.epoch = record { is = e.is; lines = e.lines; words = e.words; whole = e.whole; same = b.same; room = b.room } in
    subst (λ (x : Room). IfOk c.begin-in-Queue.result (λ reply. (k : Knowledge) → room_of (sizes_of k.settings) c.args.command ≡ k.room → IsInHand resting k x → reply ≡ reply_to (sizes_of k.settings) k.now c.args.command))
    (sym c.in-Queue.is) (queue_reply c.in-Queue.queue c.enter-in-Queue.new.self c.begin-in-Queue.new.self c.args.epoch calls c.args.command c.begin-in-Queue.result b.reply)

pub returns-in-Queue-clause-kept : goal.returns-in-Queue-clause-kept
returns-in-Queue-clause-kept c =
    let e = c.enter-in-Queue.ensures in
    let b = c.begin-in-Queue.ensures in
    let calls : QueueCalls c.in-Queue.queue c.enter-in-Queue.new.self c.begin-in-Queue.new.self c.args.epoch = record { is = e.is; lines = e.lines; words = e.words; whole = e.whole; same = b.same; room = b.room } in
    subst (λ (x : Room). IfOk c.begin-in-Queue.result (λ reply. (k : Knowledge) → k.epoch ≡ c.args.epoch → room_of (sizes_of k.settings) c.args.command ≡ k.room → IsInHand resting k x
    → IsInHand (begun_command_use c.args.command reply) k (Queue c.begin-in-Queue.new.self)))
    (sym c.in-Queue.is) (queue_begun c.in-Queue.queue c.enter-in-Queue.new.self c.begin-in-Queue.new.self c.args.epoch calls c.args.command c.begin-in-Queue.result b.ok b.reply b.contents)

pub returns-in-Queue-clause-refused : goal.returns-in-Queue-clause-refused
returns-in-Queue-clause-refused c =
    let e = c.enter-in-Queue.ensures in
    let b = c.begin-in-Queue.ensures in
    let calls : QueueCalls c.in-Queue.queue c.enter-in-Queue.new.self c.begin-in-Queue.new.self c.args.epoch = record { is = e.is; lines = e.lines; words = e.words; whole = e.whole; same = b.same; room = b.room } in
    subst (λ (x : Room). OnErr c.begin-in-Queue.result ((k : Knowledge) → k.epoch ≡ c.args.epoch → IsInHand resting k x → IsInHand resting k (Queue c.begin-in-Queue.new.self)))
    (sym c.in-Queue.is) (queue_kept_refused c.in-Queue.queue c.enter-in-Queue.new.self c.begin-in-Queue.new.self c.args.epoch calls c.args.command c.begin-in-Queue.result b.refused)
