use Rattle.std.proofs.Common.{◌≡◌, ℕ, ◌+◌, ◌++◌, List, drop, length, ap, ◌∙◌, arith}
use Rattle.line_memory.specs.Line.{line_at, survivor}
use Rattle.room_model.specs.Image.{surviving_lines}
use Rattle.store_order.specs.Choice.{kept_of}
use Rattle.store_order.specs.declared.choice.Choice.TheVariants.{Seed}
use Rattle.store_order.proofs.Drawn.{state_after-more, kept_drawn, lines_left-more}
use Rattle.store_order.proofs.survivors.left_of_seed.Goals as goal

pub loop-line-preserved : goal.loop-line-preserved
loop-line-preserved c =
    let f = kept_of (Seed c.args.seed) c.args.first c.args.bank.now.lines in
    let l = line_at c.args.bank.now.lines c.loop-line.line in
    let counted : c.from.result ≡ length l.pending = c.from.ensures ∙ c.pending-pending.ensures in
    let kept = ap (λ (k : ℕ). survivor l k) (kept_drawn c.args.seed (c.args.first + c.loop-line.line) c.loop-line.words c.next_drawn.result _ _ c.loop-line.invariant.words c.next_drawn.ensures.word counted) in
    record {
      words = state_after-more c.args.seed c.args.first c.loop-line.line c.loop-line.words _ c.loop-line.invariant.words c.next_drawn.ensures.state;
      made =
          ap (λ (made : List (List ℕ)). made ++ surviving_lines f (c.loop-line.line + 1) (drop (c.loop-line.line + 1) c.args.bank.now.lines)) (c.in_ok-push.ensures).items
          ∙ lines_left-more f c.args.bank.now.lines c.loop-line.line _ _ _ (omega arith) (c.line_left.ensures ∙ kept) c.loop-line.invariant.made;
    }
