use Rattle.std.proofs.Common.{◌≡◌, refl, ap, sym, ◌∙◌, subst}
use Rattle.seq_object.specs.declared.settings.Settings.{Settings}
use Rattle.seq_object.specs.Sizes.{sizes_of}
use Rattle.line_memory.specs.Line.{bank_load}
use Rattle.room_model.specs.MapRoom.{live_layout}
use Rattle.room_model.specs.Writes.{writes_of, answer_of}
use Rattle.incll_var.specs.Cells.{CellBankState}
use Rattle.incll_var.specs.Plans.{PlanState}
use Rattle.line_alloc.specs.Headers.{planned}
use Rattle.command_room.specs.Room.{CommandRoomState, contents_in, with_plan}
use Rattle.planned_cells.specs.Planned.{no_plan}
use Rattle.locked_queue.specs.Plans.{MayPlan}
use Rattle.locked_queue.specs.Queue.{IsQueue}
use Rattle.locked_queue.proofs.Begins.{Waits, may_plan, waits_law}
use Rattle.locked_queue.proofs.room.QueueRoom.begin.Goals as goal

-- the cells and the settings that are read are the room's
cells_are : (s inside taken : CommandRoomState) (cells : CellBankState) → cells ≡ taken.cells → taken ≡ with_plan inside no_plan → inside ≡ s → cells ≡ s.cells
cells_are s inside taken cells read took is = read ∙ ap (λ (k : CommandRoomState). k.cells) took ∙ ap (λ (k : CommandRoomState). k.cells) is

settings_are : (s inside taken : CommandRoomState) (settings : Settings) → settings ≡ taken.settings → taken ≡ with_plan inside no_plan → inside ≡ s → settings ≡ s.settings
settings_are s inside taken settings read took is = read ∙ ap (λ (k : CommandRoomState). k.settings) took ∙ ap (λ (k : CommandRoomState). k.settings) is

-- a command may be planned over what is read
may_read : (s : CommandRoomState) (settings : Settings) (cells : CellBankState) → settings ≡ s.settings → cells ≡ s.cells → MayPlan (sizes_of s.settings) s.cells → MayPlan (sizes_of settings) cells
may_read s settings cells same is may = subst (λ (k : Settings). MayPlan (sizes_of k) cells) (sym same) (subst (λ (k : CellBankState). MayPlan (sizes_of s.settings) k) (sym is) may)

pub plan_command-requires-clause-room : goal.plan_command-requires-clause-room
plan_command-requires-clause-room c =
    let s = c.args.self.now in
    may_read s c.settings.result c.cells.result.now
    (settings_are s c.self.inside.room c.take_plan-plan.new.self c.settings.result c.settings.ensures.settings c.take_plan-plan.ensures.is c.self.view_is)
    (cells_are s c.self.inside.room c.take_plan-plan.new.self c.cells.result.now c.cells.ensures.cells c.take_plan-plan.ensures.is c.self.view_is)
    (may_plan s c.args.command (record { queue = subst IsQueue c.self.view_is c.self.invariant; running = c.requires.running; idle = c.requires.idle; mine = c.requires.mine }))

-- a take of an empty queue
waits : (c : goal.After-put_back) → Waits c.args.self.now c.plan_command.new.plan c.args.command
waits c =
    let s = c.args.self.now in
    let plan : c.take_plan-plan.result ≡ s.plan = c.take_plan-plan.ensures.plan ∙ ap (λ (k : CommandRoomState). k.plan) c.self.view_is in
    let cells : c.cells.result.now ≡ s.cells = cells_are s c.self.inside.room c.take_plan-plan.new.self c.cells.result.now c.cells.ensures.cells c.take_plan-plan.ensures.is c.self.view_is in
    let settings : c.settings.result ≡ s.settings = settings_are s c.self.inside.room c.take_plan-plan.new.self c.settings.result c.settings.ensures.settings c.take_plan-plan.ensures.is c.self.view_is in
    waits_law s c.plan_command.new.plan c.args.command (record {
      queue = subst IsQueue c.self.view_is c.self.invariant;
      running = c.requires.running;
      idle = c.requires.idle;
      mine = c.requires.mine;
    })
    (c.in-Ok-None.ensures.stores
    ∙ ap (λ (k : Settings). planned c.cells.result.now c.take_plan-plan.result (writes_of live_layout (sizes_of k) (bank_load c.cells.result.now.bank) c.args.command)) settings
    ∙ ap (λ (k : CellBankState). planned k c.take_plan-plan.result (writes_of live_layout (sizes_of s.settings) (bank_load k.bank) c.args.command)) cells
    ∙ ap (λ (p : PlanState). planned s.cells p (writes_of live_layout (sizes_of s.settings) (bank_load s.cells.bank) c.args.command)) plan)
    (sym c.in-Ok-None.field-0-is ∙ c.in-Ok-None.ensures.answer
    ∙ ap (λ (k : Settings). answer_of live_layout (sizes_of k) (bank_load c.cells.result.now.bank) c.args.command) settings
    ∙ ap (λ (k : CellBankState). answer_of live_layout (sizes_of s.settings) (bank_load k.bank) c.args.command) cells)

pub returns-in-Ok-None-clause-reply : goal.returns-in-Ok-None-clause-reply
returns-in-Ok-None-clause-reply c = (waits c).reply

pub returns-in-Ok-None-clause-none : goal.returns-in-Ok-None-clause-none
returns-in-Ok-None-clause-none c = (λ none. ((waits c).take, (waits c).empty), λ both. refl)

pub returns-in-Ok-None-clause-contents : goal.returns-in-Ok-None-clause-contents
returns-in-Ok-None-clause-contents c = c.put_back.ensures.contents ∙ c.take_plan-plan.ensures.contents ∙ ap contents_in c.self.view_is ∙ (waits c).contents
