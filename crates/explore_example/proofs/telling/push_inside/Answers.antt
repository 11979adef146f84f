use Rattle.std.proofs.Common.{◌≡◌, ℕ, ◌+◌, List, ◌∷◌, ◌++◌, drop, ap, sym, ◌∙◌, append_assoc, arith}
use Rattle.std.proofs.lemmas.List.{drop_more}
use Rattle.std.specs.String.{string_bytes}
use Rattle.crash_explorer.specs.declared.answer.CutInside.{CutInside}
use Rattle.explore_example.specs.Words.{cut_text, inside_text}
use Rattle.explore_example.proofs.telling.push_inside.Goals as goal

pub loop-cut-preserved : goal.loop-cut-preserved
loop-cut-preserved c =
    let cuts = c.args.cuts.now in
    let i = c.loop-cut.cut-index in
    let cut = c.cut-item.result in
    let rest = drop (i + 1) cuts in
    let old = string_bytes c.loop-cut.out in
    let here : drop i cuts ≡ cut ∷ rest = drop_more cuts i cut (omega arith) ∙ ap (λ (x : CutInside). x ∷ rest) (sym c.cut-item.is) in
    let pushed : string_bytes c.push_cut.new.out ≡ old ++ cut_text cut = c.in_ok-push_cut.ensures in
    ap (λ (t : List ℕ). t ++ inside_text rest) pushed ∙ append_assoc old (cut_text cut) (inside_text rest) ∙ sym (ap (λ (cs : List CutInside). old ++ inside_text cs) here) ∙ c.loop-cut.invariant
