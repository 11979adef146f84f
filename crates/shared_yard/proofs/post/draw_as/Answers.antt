use Rattle.std.proofs.Common.{rules, ◌+◌, ◌%◌, ◌^◌, sym, subst}
use mathlib.Core.Option.{none}
use Rattle.atomic_table.specs.Table.{step, Allows}
use Rattle.seq_object.specs.declared.history.Entry.{Entry}
use Rattle.shared_yard.specs.Rule.{IsLawfulTable}
use Rattle.shared_yard.specs.Plays.{Draws}
use Rattle.shared_yard.proofs.Owed.{draw_allows}
use Rattle.shared_yard.proofs.post.draw_as.Goals as goal

pub fetch_add-requires : goal.fetch_add-requires
fetch_add-requires g c = (
  search rules,
  search rules,
  subst (λ (e : Entry). Allows IsLawfulTable c.args.yard.now.table.shared.table_id.slots c.args.seat.now.id c.args.seat.now.me 1 (λ n. (n + 1) % 2 ^ 64) (Draws e (step c.args.yard.now.table.shared.table_id.slots 1 1 0 none) c.args.seat.now.me))
      (sym c.requires.entry) (draw_allows _ _ _ c.requires.one _ c.requires.may),
)
