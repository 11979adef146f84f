use Rattle.std.proofs.Common.{◌≡◌, ℕ, List, ◌++◌, codes, ap, ◌∙◌}
use Rattle.std.specs.String.{string_bytes}
use Rattle.std.specs.Fmt.{decimal}
use Rattle.explore_example.specs.Words.{lines_text}
use Rattle.explore_example.proofs.Pieces.{grown}
use Rattle.explore_example.proofs.telling.push_cut.Goals as goal

pub returns : goal.returns
returns c =
    let cut = c.args.cut.now in
    let event = codes ", and behind event " ++ decimal cut.event ++ codes " of its recovery" in
    let kept : string_bytes c.push_lines.new.out ≡ string_bytes c.write.new.self ++ lines_text 0 cut.kept.items cut.pending.items =
    c.in_ok-push_lines.ensures
    ∙ ap (λ (ks : List ℕ). string_bytes c.write.new.self ++ lines_text 0 ks c.as_slice-pending.result.now) c.as_slice-kept.ensures.value
    ∙ ap (λ (ps : List ℕ). string_bytes c.write.new.self ++ lines_text 0 cut.kept.items ps) c.as_slice-pending.ensures.value in
    grown _ (string_bytes c.write.new.self) (string_bytes c.args.out.now) event _ kept c.in_ok-write.ensures.bytes
