use Rattle.std.proofs.Common.{◌≡◌, ◌<◌, length, get_or, arith, ap, sym, ◌∙◌}
use Rattle.line_memory.specs.Line.{LineState, loaded}
use Rattle.line_memory.proofs.Stores.{latest-applied}
use Rattle.line_memory.proofs.line.Line.load.Goals as goal

-- the words kept are the base with all pending stores made, and a word of these is its latest value
pub returns : goal.returns
returns c =
    let eight : length c.self.inside.base ≡ 8 = c.self.invariant.3 in
    let within : c.args.word < length c.self.inside.base = omega arith in
    ap (λ words. get_or words c.args.word 0) c.self.invariant.4 ∙ sym (latest-applied c.self.inside.base c.self.inside.pending.items c.args.word within) ∙ ap (λ (l : LineState). loaded l c.args.word) c.self.view_is
