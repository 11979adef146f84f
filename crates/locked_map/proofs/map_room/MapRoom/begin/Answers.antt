use Rattle.std.proofs.Common.{◌≡◌, None, ap, sym, ◌∙◌, subst}
use Rattle.seq_object.specs.declared.settings.Settings.{Settings}
use Rattle.seq_object.specs.Sizes.{sizes_of}
use Rattle.room_model.specs.MapRoom.{live_layout}
use Rattle.incll_var.specs.Cells.{CellBankState, IsRunning}
use Rattle.command_room.specs.Room.{CommandRoomState}
use Rattle.locked_map.specs.Plans.{MayPlan}
use Rattle.locked_map.proofs.Begins.{may_plan}
use Rattle.locked_map.proofs.map_room.MapRoom.begin.Goals as goal

pub plan_command-requires-clause-room : goal.plan_command-requires-clause-room
plan_command-requires-clause-room c =
    let s = c.self.inside.room in
    let running : IsRunning s.cells.state = subst (λ (k : CommandRoomState). IsRunning k.cells.state) (sym c.self.view_is) c.requires.running in
    let idle : s.under_way ≡ None = subst (λ (k : CommandRoomState). k.under_way ≡ None) (sym c.self.view_is) c.requires.idle in
    let settings : c.settings.result ≡ s.settings = c.settings.ensures.settings ∙ ap (λ (k : CommandRoomState). k.settings) c.take_plan-plan.ensures.is in
    let cells : c.cells.result.now ≡ s.cells = c.cells.ensures.cells ∙ ap (λ (k : CommandRoomState). k.cells) c.take_plan-plan.ensures.is in
    subst (λ (k : Settings). MayPlan live_layout (sizes_of k) c.cells.result.now) (sym settings) (subst (λ (k : CellBankState). MayPlan live_layout (sizes_of s.settings) k) (sym cells) (may_plan s c.self.invariant running idle))
