use Rattle.std.proofs.Common.{◌≡◌, Some, sym, ap, ◌∙◌, subst}
use Rattle.seq_object.specs.Object.{Contents, reply_to, contents_after}
use Rattle.line_memory.specs.Line.{bank_load}
use Rattle.incll_var.specs.Cells.{IsCellBank, epoch_of}
use Rattle.incll_var.specs.Plans.{IsPlanned}
use Rattle.incll_var.proofs.MoreRoom.{same_planned}
use Rattle.planned_cells.specs.Planned.{PlannedState, memory_words_in}
use Rattle.planned_cells.proofs.Loads.{loads-same}
use Rattle.command_room.specs.Room.{CommandRoomState, contents_in, memory_words_of, sizes_in, IsCommandRoom, with_plan, going_on, begun}
use Rattle.command_room.proofs.Begins.{HasBegun, begin_law, begin_planned_law, reply_law, unplanned_contents}
use Rattle.command_room.proofs.room.CommandRoom.begin_planned.Goals as goal

pub make_room-requires-clause-places : goal.make_room-requires-clause-places
make_room-requires-clause-places c = (begin_planned_law (with_plan c.args.self.now c.args.plan) c.args.command c.args.reply c.requires).places

pub returns-in-Err-clause-reply : goal.returns-in-Err-clause-reply
returns-in-Err-clause-reply c =
    ap (λ (d : Contents). reply_to (sizes_in c.args.self.now) d c.args.command) (sym (unplanned_contents c.args.self.now c.args.plan c.make_room.ensures.nothing))
    ∙ reply_law (with_plan c.args.self.now c.args.plan) c.args.command c.args.reply c.requires

pub returns-in-Err-clause-kept : goal.returns-in-Err-clause-kept
returns-in-Err-clause-kept c = c.put_back.ensures.contents ∙ c.make_room.ensures.contents

pub returns-in-Err-clause-loads : goal.returns-in-Err-clause-loads
returns-in-Err-clause-loads c =
    ap (λ (k : CommandRoomState). bank_load k.cells.bank) c.put_back.ensures.is ∙ loads-same c.args.self.now.cells.bank c.make_room.new.self.cells.bank c.make_room.ensures.same

pub returns-in-Err-clause-in_memory : goal.returns-in-Err-clause-in_memory
returns-in-Err-clause-in_memory c = ap memory_words_of c.put_back.ensures.is ∙ c.make_room.ensures.in_memory

-- the room that was made ready
planned : (c : goal.After-put_plan-arg-1) → IsPlanned (epoch_of c.make_room.new.self.cells.state) c.make_room.new.self.cells.bank.lines c.args.plan.stores
planned c =
    let s = c.args.self.now in
    let m = c.make_room.new.self in
    subst (λ (k : CommandRoomState). IsPlanned (epoch_of k.cells.state) m.cells.bank.lines c.args.plan.stores) (sym c.make_room.ensures.is)
    (same_planned (epoch_of s.cells.state) s.cells.bank m.cells.bank c.args.plan.stores c.make_room.ensures.same (begin_planned_law (with_plan s c.args.plan) c.args.command c.args.reply c.requires))

pub put_plan-requires-clause-planned : goal.put_plan-requires-clause-planned
put_plan-requires-clause-planned c = subst (λ (k : CommandRoomState). IsPlanned (epoch_of k.cells.state) k.cells.bank.lines c.args.plan.stores) (sym c.self.view_is) (planned c)

-- the room in which the command is under way
begins : (c : goal.After-self-1) → HasBegun (with_plan c.args.self.now c.args.plan) c.args.command (begun (with_plan c.args.self.now c.args.plan) c.make_room.new.self.cells.bank c.make_room.new.self.history.spare c.args.command c.args.reply)
begins c =
    begin_law (with_plan c.args.self.now c.args.plan) c.args.command c.args.reply c.make_room.new.self.cells.bank c.make_room.new.self.history.spare c.requires c.make_room.ensures.same
    (subst (λ (k : CommandRoomState). IsCellBank k.cells) c.make_room.ensures.is c.make_room.ensures.room.cells) c.in_default.ensures.stores c.in_default.ensures.entry

is : (c : goal.After-self-1) → record {
  settings = c.self.inside.settings;
  room = c.self.inside.room;
  cells = c.put_plan.new.self.cells;
  plan = c.put_plan.new.self.plan;
  under_way = Some (record { command = c.args.command; reply = c.args.reply });
  history = c.self.inside.history;
} ≡ begun (with_plan c.args.self.now c.args.plan) c.make_room.new.self.cells.bank c.make_room.new.self.history.spare c.args.command c.args.reply
is c =
    ap (λ (p : PlannedState). record {
      settings = c.self.inside.settings;
      room = c.self.inside.room;
      cells = p.cells;
      plan = p.plan;
      under_way = Some (record { command = c.args.command; reply = c.args.reply });
      history = c.self.inside.history;
    }) c.put_plan.ensures.is
    ∙ ap (λ (k : CommandRoomState). going_on (with_plan k c.args.plan) c.args.command c.args.reply) c.self.view_is
    ∙ ap (λ (k : CommandRoomState). going_on (with_plan k c.args.plan) c.args.command c.args.reply) c.make_room.ensures.is

pub invariant_of-self : goal.invariant_of-self
invariant_of-self c = subst IsCommandRoom (sym (is c)) (begins c).room

pub returns-clause-room : goal.returns-clause-room
returns-clause-room c = subst IsCommandRoom (sym (is c)) (begins c).room

pub returns-clause-reply : goal.returns-clause-reply
returns-clause-reply c =
    ap (λ (d : Contents). reply_to (sizes_in c.args.self.now) d c.args.command) (sym (unplanned_contents c.args.self.now c.args.plan c.make_room.ensures.nothing))
    ∙ reply_law (with_plan c.args.self.now c.args.plan) c.args.command c.args.reply c.requires

pub returns-clause-contents : goal.returns-clause-contents
returns-clause-contents c =
    ap contents_in (is c) ∙ (begins c).contents ∙ ap (λ (d : Contents). contents_after (sizes_in c.args.self.now) d c.args.command) (unplanned_contents c.args.self.now c.args.plan c.make_room.ensures.nothing)

-- its bank is the one in which room was made
bank : (c : goal.After-self-1) → c.put_plan.new.self.cells.bank ≡ c.make_room.new.self.cells.bank
bank c = ap (λ (p : PlannedState). p.cells.bank) c.put_plan.ensures.is ∙ ap (λ (k : CommandRoomState). k.cells.bank) c.self.view_is

pub returns-clause-loads : goal.returns-clause-loads
returns-clause-loads c = ap bank_load (bank c) ∙ loads-same c.args.self.now.cells.bank c.make_room.new.self.cells.bank c.make_room.ensures.same

pub returns-clause-in_memory : goal.returns-clause-in_memory
returns-clause-in_memory c =
    ap (λ (p : PlannedState). memory_words_in p.cells) c.put_plan.ensures.is ∙ ap memory_words_of c.self.view_is ∙ c.make_room.ensures.in_memory
