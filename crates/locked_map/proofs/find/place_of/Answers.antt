use Rattle.std.proofs.Common.{◌≡◌, ℕ, ◌^◌, ◌<◌, ◌≤◌, arith, sym, ap, ◌∙◌, subst, length}
use Rattle.line_memory.specs.Line.{bank_load}
use Rattle.seq_object.specs.Sizes.{sizes_of}
use Rattle.room_model.specs.MapRoom.{layout_of, head, bucket_of}
use Rattle.room_model.specs.Walks.{IsWalk}
use Rattle.locked_map.proofs.Finding.{first_small}
use Rattle.locked_map.proofs.Places.{laid, walk_from, bounds, first_loaded, place_law}
use Rattle.locked_map.proofs.find.place_of.Goals as goal

pub load-first-requires-clause-line : goal.load-first-requires-clause-line
load-first-requires-clause-line c =
    let layout = layout_of c.args.heads in
    let fits : layout.head_line (bucket_of (sizes_of c.args.settings) c.args.key) < (sizes_of c.args.settings).lines = (bounds layout (sizes_of c.args.settings) c.args.cells.now c.args.key (laid c.args.heads) c.requires).head in
    let is : c.head_line-head_line.result ≡ layout.head_line (bucket_of (sizes_of c.args.settings) c.args.key) = c.head_line-head_line.ensures.is ∙ ap layout.head_line c.bucket_of-bucket.ensures.bucket in
    let same = c.requires.lines in
    omega (arith, fits, is, same)

-- the first node, as it is loaded
first : (c : goal.After-load-first) → c.load-first.result ≡ head (layout_of c.args.heads) (bank_load c.args.cells.now.bank) (bucket_of (sizes_of c.args.settings) c.args.key)
first c =
    first_loaded (layout_of c.args.heads) (sizes_of c.args.settings) (bank_load c.args.cells.now.bank) c.args.key c.bucket_of-bucket.result c.head_line-head_line.result c.head_word-head_word.result c.load-first.result
    c.bucket_of-bucket.ensures.bucket c.head_line-head_line.ensures.is c.head_word-head_word.ensures.is c.load-first.ensures

walks : (c : goal.After-load-first) → IsWalk (bank_load c.args.cells.now.bank) (length c.args.cells.now.bank.lines) (length c.args.cells.now.bank.lines) c.load-first.result
walks c =
    let n = length c.args.cells.now.bank.lines in
    subst (λ (line : ℕ). IsWalk (bank_load c.args.cells.now.bank) n n line) (sym (first c)) (walk_from (layout_of c.args.heads) (sizes_of c.args.settings) c.args.cells.now c.args.key (laid c.args.heads) c.requires)

pub overflow_cast-first : goal.overflow_cast-first
overflow_cast-first c =
    let n = length c.args.cells.now.bank.lines in
    let few = c.requires.sizes.few_lines in
    let same = c.requires.lines in
    let fits : n ≤ 2 ^ 32 = omega (arith, few, same) in
    let small : c.load-first.result < 2 ^ 32 = first_small (bank_load c.args.cells.now.bank) n n c.load-first.result (2 ^ 32) fits (omega arith) (walks c) in
    omega (arith, small)

pub walk-node-requires : goal.walk-node-requires
walk-node-requires c = walks c

pub returns : goal.returns
returns c =
    let layout = layout_of c.args.heads in
    place_law layout (sizes_of c.args.settings) c.args.cells.now c.args.key (record { head_line = c.head_line-head_line.result; head_word = c.head_word-head_word.result; first = c.load-first.result; node = c.walk-node.result.0; before = c.walk-node.result.1 })
    (laid c.args.heads) c.requires (subst (λ (b : ℕ). b < 8) c.bucket_of-bucket.ensures.bucket c.bucket_of-bucket.ensures.few)
    (c.head_line-head_line.ensures.is ∙ ap layout.head_line c.bucket_of-bucket.ensures.bucket) (c.head_word-head_word.ensures.is ∙ ap layout.head_word c.bucket_of-bucket.ensures.bucket)
    (first_loaded layout (sizes_of c.args.settings) (bank_load c.args.cells.now.bank) c.args.key c.bucket_of-bucket.result c.head_line-head_line.result c.head_word-head_word.result c.load-first.result
    c.bucket_of-bucket.ensures.bucket c.head_line-head_line.ensures.is c.head_word-head_word.ensures.is c.load-first.ensures)
    c.walk-node.ensures.node c.walk-node.ensures.before
