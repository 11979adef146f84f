use Rattle.std.proofs.Common.{◌≡◌, ◌<◌, ◌+◌, ℕ, List, length, set, get_or, drop, ap, sym, ◌∙◌, arith, add-one, length-set}
use Rattle.std.proofs.lemmas.List.{get_or_default, drop_all}
use Rattle.line_memory.specs.Line.{LineState, line_at, no_line, fenced}
use Rattle.line_memory.specs.Asked.{fenced_at}
use Rattle.line_memory.proofs.Asked.{within_at, within_count, fenced_next, fenced_all}
use Rattle.line_memory.proofs.bank.fence_each.Goals as goal

pub bounds-lines-line : goal.bounds-lines-line
bounds-lines-line c = within_at c.loop-line.lines c.args.asked.now c.loop-line.line-index c.loop-line.invariant.within (omega arith)

pub loop-line-preserved : goal.loop-line-preserved
loop-line-preserved c =
    let i : ℕ = get_or c.args.asked.now c.loop-line.line-index 0 in
    let lt : c.loop-line.line-index < length c.args.asked.now = omega arith in
    let there : i < length c.loop-line.lines = within_at c.loop-line.lines c.args.asked.now c.loop-line.line-index c.loop-line.invariant.within lt in
    let here : get_or c.loop-line.lines i c.index-lines-line.result ≡ line_at c.loop-line.lines i = get_or_default c.loop-line.lines i c.index-lines-line.result no_line there in
    let new : c.fence.new.self ≡ fenced (line_at c.loop-line.lines i) = c.fence.ensures ∙ ap (λ (l : LineState). fenced l) here in
    record {
      fenced =
          ap (λ (l : LineState). fenced_at (drop (c.loop-line.line-index + 1) c.args.asked.now) (set c.loop-line.lines i l)) new
          ∙ ap (λ (k : ℕ). fenced_at (drop k c.args.asked.now) (set c.loop-line.lines i (fenced (line_at c.loop-line.lines i)))) (add-one c.loop-line.line-index)
          ∙ sym (fenced_next c.loop-line.lines c.args.asked.now c.loop-line.line-index lt)
          ∙ c.loop-line.invariant.fenced;
      within = within_count c.loop-line.lines (set c.loop-line.lines i c.fence.new.self) c.args.asked.now (length-set c.loop-line.lines i c.fence.new.self) c.loop-line.invariant.within;
    }

pub returns : goal.returns
returns c =
    ap (λ (is : List ℕ). fenced_at is c.loop-line.lines) (sym (drop_all c.loop-line.line-index c.args.asked.now (omega arith)))
    ∙ c.loop-line.invariant.fenced ∙ fenced_all c.args.asked.now c.args.lines.now c.requires.within c.requires.all
