use Rattle.std.proofs.Common.{◌≡◌, ℕ, ◌-◌, sym, ap, ◌∙◌, subst, length}
use Rattle.std.specs.FinMap.{from_entries, insert}
use Rattle.line_memory.specs.Line.{bank_load}
use Rattle.seq_object.specs.Object.{Pairs}
use Rattle.seq_object.proofs.Entries.{entries_put}
use Rattle.room_walks.proofs.Walks.{met, stopped}
use Rattle.locked_map.proofs.Listings.{IsAdding, at_stop, further}
use Rattle.locked_map.proofs.listing.add_chain.Goals as goal

pub returns : goal.returns
returns c = λ w.
    at_stop (bank_load c.args.cells.now.bank) (length c.args.cells.now.bank.lines) c.args.first (from_entries c.args.pairs.now.entries) (from_entries c.loop-line.pairs.entries) c.loop-line.walk.left c.loop-line.walk.line
    (stopped c.loop-line.walk (sym c.in_default.is ∙ c.next.ensures.line)) (c.loop-line.invariant.1 w)

pub loop-line-preserved : goal.loop-line-preserved
loop-line-preserved c =
    let r = bank_load c.args.cells.now.bank in
    let n = length c.args.cells.now.bank.lines in
    let before : Pairs = from_entries c.args.pairs.now.entries in
    let was : Pairs = from_entries c.loop-line.pairs.entries in
    let at = c.loop-line.walk.line in
    let step = met r c.loop-line.walk c.next.new.self c.in-Some.line (sym c.in-Some.is ∙ c.next.ensures.line) c.next.ensures.behind in
    let next : c.next.new.self.line ≡ r at 2 = step.next ∙ ap (r at) c.loop-line.invariant.0 in (
      step.word ∙ c.loop-line.invariant.0,
      λ w.
          let put : from_entries c.insert.new.self.entries ≡ insert was (r at 0) (r at 1) =
          entries_put c.loop-line.pairs.entries c.insert.new.self.entries c.read.result c.read-in-Some.result c.in_ok-insert.ensures.updates.0
          ∙ ap (λ (k : ℕ). insert was k c.read-in-Some.result) (c.read.ensures ∙ ap (λ (k : ℕ). r k 0) step.here) ∙ ap (λ (v : ℕ). insert was (r at 0) v) (c.read-in-Some.ensures ∙ ap (λ (k : ℕ). r k 1) step.here) in
          subst (λ (pairs : Pairs). IsAdding r n c.args.first before pairs c.next.new.self.left c.next.new.self.line) (sym put)
          (subst (λ (k : ℕ). IsAdding r n c.args.first before (insert was (r at 0) (r at 1)) k c.next.new.self.line) (sym step.left)
          (subst (λ (k : ℕ). IsAdding r n c.args.first before (insert was (r at 0) (r at 1)) (c.loop-line.walk.left - 1) k) (sym next)
          (further r n c.args.first before was c.loop-line.walk.left at step.more step.some (c.loop-line.invariant.1 w)))),
    )
