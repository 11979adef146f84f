use Rattle.std.proofs.Common.{◌≡◌, Bool, if◌then◌else◌, eq-eqb, sym, ap, ◌∙◌}
use Rattle.std.proofs.lemmas.Bool.{ne_eqb}
use Rattle.line_memory.specs.Line.{line_at}
use Rattle.restart_point.specs.declared.thread_end.ThreadEnd.TheVariants.{Ready, Ended}
use Rattle.fresh_world.specs.Rooms.{first_end}
use Rattle.fresh_world.proofs.Rooms.{line_settled, thread_fresh}
use Rattle.fresh_world.proofs.room.thread_room.Goals as goal
use Rattle.fresh_world.proofs.room.thread_room.Goals.{then-commands-eq0, else-commands-eq0}

pub clean-requires : goal.clean-requires
clean-requires c = line_settled c.args.bank c.requires

end_is : (c : goal.In_ok-of) → c.if-commands-eq0.end ≡ first_end c.args.commands
end_is c = elim c.if-commands-eq0.branch [
  | then-commands-eq0 w ↦ w.end-is ∙ sym (ap (λ (b : Bool). if b then Ended else Ready) (eq-eqb c.args.commands 0 w.if-commands-eq0.true))
  | else-commands-eq0 w ↦ w.end-is ∙ sym (ap (λ (b : Bool). if b then Ended else Ready) (ne_eqb c.args.commands 0 w.if-commands-eq0.false))
]

pub returns : goal.returns
returns c =
    thread_fresh c.args.commands (line_at c.in_ok-of.field-0.cells.bank.lines 0).spare c.args.bank c.in_ok-cells.cells c.in_ok-of.field-0 c.requires c.in_ok-cells.ensures.is c.in_ok-of.ensures.cells c.in_ok-of.ensures.idle
    (c.in_ok-of.ensures.end ∙ end_is c) c.in_ok-of.ensures.room
