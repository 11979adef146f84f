use Rattle.std.proofs.Common.{ℕ, ◌+◌, arith, ap, sym, ◌∙◌}
use Rattle.room_walks.proofs.Walks.{met}
use Rattle.image_check.specs.Cells.{words_of}
use Rattle.image_check.specs.Meeting.{is_new}
use Rattle.image_check.specs.MapFaults.{may_join}
use Rattle.image_check.specs.Keyed.{pairs_in, IsNoted}
use Rattle.image_check.proofs.Walks.{walk_ends, walk_on, walk_stops, walk_tires}
use Rattle.image_check.proofs.Noting.{noted_none, noted_some, refuse_line, refuse_place, refuse_key, note_line}
use Rattle.image_check.proofs.chains.walk_bucket.Goals as goal

pub returns-then-not-meet-clause-walked : goal.returns-then-not-meet-clause-walked
returns-then-not-meet-clause-walked c = λ others before noted.
    let step = met (words_of c.args.cells) c.loop-line.walk c.next.new.self c.in-Some.line (sym c.in-Some.is ∙ c.next.ensures.line) c.next.ensures.behind in
    noted_none (words_of c.args.cells) c.args.cells.sizes c.args.chain.shard others c.meet.new.marks (pairs_in c.loop-line.pairs.entries) _ (walk_stops (words_of c.args.cells) (λ x. words_of c.args.cells x 2) (may_join c.args.nodes.first (words_of c.args.cells) c.args.cells.sizes c.args.chain.shard c.args.chain.bucket) c.args.cells.sizes.lines c.args.chain.start (IsNoted (words_of c.args.cells) c.args.cells.sizes c.args.chain.shard others c.args.marks.now c.args.met (pairs_in c.args.pairs.now.entries)) (IsNoted (words_of c.args.cells) c.args.cells.sizes c.args.chain.shard others c.loop-line.marks c.loop-line.now (pairs_in c.loop-line.pairs.entries)) c.loop-line.walk c.next.new.self c.in-Some.line step (c.loop-line.invariant.going others)
    (λ met kept. refuse_line c.args.nodes.first (words_of c.args.cells) c.args.cells.sizes c.args.chain.shard c.args.chain.bucket met c.in-Some.line (ap (λ (k : ℕ). is_new c.args.nodes.first k met c.in-Some.line) (sym c.requires.is_fresh) ∙ sym (c.meet.ensures.first c.loop-line.now met kept.marked) ∙ c.if-not-meet.true)) before noted)

pub returns-then-not-is_placed-clause-walked : goal.returns-then-not-is_placed-clause-walked
returns-then-not-is_placed-clause-walked c = λ others before noted.
    let step = met (words_of c.args.cells) c.loop-line.walk c.next.new.self c.in-Some.line (sym c.in-Some.is ∙ c.next.ensures.line) c.next.ensures.behind in
    noted_none (words_of c.args.cells) c.args.cells.sizes c.args.chain.shard others c.meet.new.marks (pairs_in c.loop-line.pairs.entries) _ (walk_stops (words_of c.args.cells) (λ x. words_of c.args.cells x 2) (may_join c.args.nodes.first (words_of c.args.cells) c.args.cells.sizes c.args.chain.shard c.args.chain.bucket) c.args.cells.sizes.lines c.args.chain.start (IsNoted (words_of c.args.cells) c.args.cells.sizes c.args.chain.shard others c.args.marks.now c.args.met (pairs_in c.args.pairs.now.entries)) (IsNoted (words_of c.args.cells) c.args.cells.sizes c.args.chain.shard others c.loop-line.marks c.loop-line.now (pairs_in c.loop-line.pairs.entries)) c.loop-line.walk c.next.new.self c.in-Some.line step (c.loop-line.invariant.going others)
    (λ met kept. refuse_place c.args.nodes.first (words_of c.args.cells) c.args.cells.sizes c.args.chain.shard c.args.chain.bucket met c.in-Some.line c.read-key.result c.read-key.ensures c.if-not-is_placed.ensures) before noted)

pub returns-then-not-is_new-clause-walked : goal.returns-then-not-is_new-clause-walked
returns-then-not-is_new-clause-walked c = λ others before noted.
    let step = met (words_of c.args.cells) c.loop-line.walk c.next.new.self c.in-Some.line (sym c.in-Some.is ∙ c.next.ensures.line) c.next.ensures.behind in
    noted_none (words_of c.args.cells) c.args.cells.sizes c.args.chain.shard others c.meet.new.marks (pairs_in c.keep_pair.new.pairs.entries) _ (walk_stops (words_of c.args.cells) (λ x. words_of c.args.cells x 2) (may_join c.args.nodes.first (words_of c.args.cells) c.args.cells.sizes c.args.chain.shard c.args.chain.bucket) c.args.cells.sizes.lines c.args.chain.start (IsNoted (words_of c.args.cells) c.args.cells.sizes c.args.chain.shard others c.args.marks.now c.args.met (pairs_in c.args.pairs.now.entries)) (IsNoted (words_of c.args.cells) c.args.cells.sizes c.args.chain.shard others c.loop-line.marks c.loop-line.now (pairs_in c.loop-line.pairs.entries)) c.loop-line.walk c.next.new.self c.in-Some.line step (c.loop-line.invariant.going others)
    (λ met kept. refuse_key c.args.nodes.first (words_of c.args.cells) c.args.cells.sizes c.args.chain.shard c.args.chain.bucket met c.in-Some.line c.read-key.result others (pairs_in c.loop-line.pairs.entries) c.in_ok-is_new.is_new c.read-key.ensures c.if-not-is_placed.ensures c.in_ok-is_new.ensures.answer c.if-not-is_new.true kept.keyed) before noted)

pub loop-line-preserved : goal.loop-line-preserved
loop-line-preserved c =
    let step = met (words_of c.args.cells) c.loop-line.walk c.next.new.self c.in-Some.line (sym c.in-Some.is ∙ c.next.ensures.line) c.next.ensures.behind in
    let counts = c.loop-line.invariant.few in
    let some = step.more in
    let left = step.left in
    record {
      going = λ others. walk_on (words_of c.args.cells) 2 (may_join c.args.nodes.first (words_of c.args.cells) c.args.cells.sizes c.args.chain.shard c.args.chain.bucket) c.args.cells.sizes.lines c.args.chain.start (IsNoted (words_of c.args.cells) c.args.cells.sizes c.args.chain.shard others c.args.marks.now c.args.met (pairs_in c.args.pairs.now.entries)) (IsNoted (words_of c.args.cells) c.args.cells.sizes c.args.chain.shard others c.loop-line.marks c.loop-line.now (pairs_in c.loop-line.pairs.entries))
          (IsNoted (words_of c.args.cells) c.args.cells.sizes c.args.chain.shard others c.meet.new.marks (record { count = c.loop-line.now.count + 1; latest = c.in-Some.line }) (pairs_in c.keep_pair.new.pairs.entries)) c.loop-line.walk c.next.new.self c.in-Some.line step c.loop-line.invariant.word (c.loop-line.invariant.going others)
          (λ met kept. note_line c.args.nodes.first (words_of c.args.cells) c.args.cells.sizes c.args.chain.shard c.args.chain.bucket met c.loop-line.marks c.meet.new.marks c.loop-line.now (record { count = c.loop-line.now.count + 1; latest = c.in-Some.line }) c.in-Some.line c.read-key.result c.read.result others (pairs_in c.loop-line.pairs.entries) (pairs_in c.keep_pair.new.pairs.entries) c.in_ok-is_new.is_new
          (ap (λ (k : ℕ). is_new c.args.nodes.first k met c.in-Some.line) (sym c.requires.is_fresh) ∙ sym (c.meet.ensures.first c.loop-line.now met kept.marked) ∙ c.if-not-meet.false) (c.meet.ensures.marked c.if-not-meet.false c.loop-line.now met kept.marked)
          c.read-key.ensures c.read.ensures c.if-not-is_placed.ensures c.in_ok-is_new.ensures.answer c.if-not-is_new.false c.in_ok-is_new.ensures.kept kept);
      word = step.word ∙ c.loop-line.invariant.word;
      size = c.meet.ensures.size ∙ c.loop-line.invariant.size;
      few = omega (arith, counts, some, left);
    }

pub returns-then-walk-eq0-clause-walked : goal.returns-then-walk-eq0-clause-walked
returns-then-walk-eq0-clause-walked c = λ others before noted.
    noted_some (words_of c.args.cells) c.args.cells.sizes c.args.chain.shard others c.loop-line.now c.loop-line.marks (pairs_in c.loop-line.pairs.entries) _ (walk_ends (words_of c.args.cells) (λ x. words_of c.args.cells x 2) (may_join c.args.nodes.first (words_of c.args.cells) c.args.cells.sizes c.args.chain.shard c.args.chain.bucket) c.args.cells.sizes.lines c.args.chain.start (IsNoted (words_of c.args.cells) c.args.cells.sizes c.args.chain.shard others c.args.marks.now c.args.met (pairs_in c.args.pairs.now.entries)) (IsNoted (words_of c.args.cells) c.args.cells.sizes c.args.chain.shard others c.loop-line.marks c.loop-line.now (pairs_in c.loop-line.pairs.entries)) c.loop-line.walk c.next.new.self (sym c.in_default.is ∙ c.next.ensures.line) c.next.ensures.behind c.if-walk-eq0.true (c.loop-line.invariant.going others) before noted)

pub returns-else-walk-eq0-clause-walked : goal.returns-else-walk-eq0-clause-walked
returns-else-walk-eq0-clause-walked c = λ others before noted.
    noted_none (words_of c.args.cells) c.args.cells.sizes c.args.chain.shard others c.loop-line.marks (pairs_in c.loop-line.pairs.entries) _ (walk_tires (words_of c.args.cells) (λ x. words_of c.args.cells x 2) (may_join c.args.nodes.first (words_of c.args.cells) c.args.cells.sizes c.args.chain.shard c.args.chain.bucket) c.args.cells.sizes.lines c.args.chain.start (IsNoted (words_of c.args.cells) c.args.cells.sizes c.args.chain.shard others c.args.marks.now c.args.met (pairs_in c.args.pairs.now.entries)) (IsNoted (words_of c.args.cells) c.args.cells.sizes c.args.chain.shard others c.loop-line.marks c.loop-line.now (pairs_in c.loop-line.pairs.entries)) c.loop-line.walk c.next.new.self (sym c.in_default.is ∙ c.next.ensures.line) c.next.ensures.behind c.if-walk-eq0.false (c.loop-line.invariant.going others) before noted)
