use Rattle.std.proofs.Common.{◌≡◌, ◌∙◌, sym, below_more, ◌≢◌, true}
use Rattle.std.specs.Str.{bytes_eq}
use Rattle.std.proofs.lemmas.Slice.Eq.{bytes_eq-Decides}
use Rattle.line_memory.specs.Line.{line_at, survivor}
use Rattle.store_order.proofs.More.{left-more}
use Rattle.store_order.proofs.left.is_survivor.Goals as goal

pub loop-k-preserved : goal.loop-k-preserved
loop-k-preserved c = record {
  made = c.put_word.ensures ∙ left-more (line_at c.args.bank.now.lines c.args.line) c.loop-k.k _ _ c.loop-k.now c.pending_at-word.ensures c.loop-k.invariant.made;
  none = below_more (λ j. c.args.words.now ≢ survivor (line_at c.args.bank.now.lines c.args.line) j) c.loop-k.k c.loop-k.invariant.none (λ is. let yes : bytes_eq c.loop-k.now c.args.words.now ≡ true = (bytes_eq-Decides c.loop-k.now c.args.words.now).1 (c.loop-k.invariant.made ∙ sym is) in let same : c.eq.result ≡ bytes_eq c.loop-k.now c.args.words.now = c.eq.ensures in let no = c.if-eq.false in cc);
}
