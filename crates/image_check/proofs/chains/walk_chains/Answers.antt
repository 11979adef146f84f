use Rattle.std.proofs.Common.{◌≡◌, ℕ, ◌+◌, ◌≤◌, suc, IfSome, length, arith, subst, ◌∙◌}
use Rattle.room_model.specs.MapRoom.{layout_of}
use Rattle.image_check.specs.Cells.{words_of}
use Rattle.image_check.specs.Meeting.{met_from}
use Rattle.image_check.specs.MapFaults.{may_join}
use Rattle.image_check.specs.Keyed.{pairs_in, HasNoted}
use Rattle.image_check.proofs.BucketWalks.{AreNoted, bucket_refused, bucket_noted}
use Rattle.image_check.proofs.chains.walk_chains.Goals as goal

pub returns-in-None-clause-walked : goal.returns-in-None-clause-walked
returns-in-None-clause-walked c =
    bucket_refused (layout_of c.args.heads) c.args.cells.sizes c.args.shard (words_of c.args.cells) (pairs_in c.args.pairs.now.entries) c.loop-bucket.bucket c.first_node.result c.head.result c.loop-bucket.marks c.walk_bucket.new.marks c.loop-bucket.now (pairs_in c.loop-bucket.pairs.entries) (pairs_in c.walk_bucket.new.pairs.entries)
    (omega (arith, c.loop-bucket-test.true)) c.first_node.ensures c.head.ensures c.loop-bucket.invariant.noted
    (λ before noted. subst (λ o. HasNoted (words_of c.args.cells) c.args.cells.sizes c.args.shard (pairs_in c.args.pairs.now.entries) o c.walk_bucket.new.marks (pairs_in c.walk_bucket.new.pairs.entries) (met_from (λ x. words_of c.args.cells x 2) (may_join c.first_node.result (words_of c.args.cells) c.args.cells.sizes c.args.shard c.loop-bucket.bucket) before c.args.cells.sizes.lines c.head.result)) c.in-None.is
    (c.in_ok-walk_bucket.ensures.walked (pairs_in c.args.pairs.now.entries) before noted))

pub loop-bucket-preserved : goal.loop-bucket-preserved
loop-bucket-preserved c =
    let size : length c.walk_bucket.new.marks ≡ length c.loop-bucket.marks = c.walk_bucket.auto.marks in
    let few : c.in-Some.met.count ≤ c.loop-bucket.now.count + c.args.cells.sizes.lines = subst (λ o. IfSome o (λ some. some.count ≤ c.loop-bucket.now.count + c.args.cells.sizes.lines)) c.in-Some.is c.in_ok-walk_bucket.ensures.few in
    let counts = c.loop-bucket.invariant.few in
    let next : suc c.loop-bucket.bucket ≡ c.loop-bucket.bucket + 1 = omega arith in
    record {
      noted = subst (λ (n : ℕ). AreNoted (layout_of c.args.heads) c.args.cells.sizes c.args.shard (words_of c.args.cells) (pairs_in c.args.pairs.now.entries) n c.walk_bucket.new.marks c.in-Some.met (pairs_in c.walk_bucket.new.pairs.entries)) next
          (bucket_noted (layout_of c.args.heads) c.args.cells.sizes c.args.shard (words_of c.args.cells) (pairs_in c.args.pairs.now.entries) c.loop-bucket.bucket c.first_node.result c.head.result c.loop-bucket.marks c.walk_bucket.new.marks c.loop-bucket.now c.in-Some.met (pairs_in c.loop-bucket.pairs.entries) (pairs_in c.walk_bucket.new.pairs.entries)
          c.first_node.ensures c.head.ensures c.loop-bucket.invariant.noted
          (λ before noted. subst (λ o. HasNoted (words_of c.args.cells) c.args.cells.sizes c.args.shard (pairs_in c.args.pairs.now.entries) o c.walk_bucket.new.marks (pairs_in c.walk_bucket.new.pairs.entries) (met_from (λ x. words_of c.args.cells x 2) (may_join c.first_node.result (words_of c.args.cells) c.args.cells.sizes c.args.shard c.loop-bucket.bucket) before c.args.cells.sizes.lines c.head.result)) c.in-Some.is
          (c.in_ok-walk_bucket.ensures.walked (pairs_in c.args.pairs.now.entries) before noted)));
      size = size ∙ c.loop-bucket.invariant.size;
      few = omega (arith, few, counts);
    }
