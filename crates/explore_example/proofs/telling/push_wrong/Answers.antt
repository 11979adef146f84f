use Rattle.std.proofs.Common.{◌≡◌, ℕ, List, ◌++◌, codes, ap, ◌∙◌}
use Rattle.std.specs.String.{string_bytes}
use Rattle.std.specs.Fmt.{decimal}
use Rattle.explore_example.specs.Words.{lines_text, inside_text, outcome_text, allowed_text, last_text}
use Rattle.crash_explorer.specs.declared.answer.CutInside.{CutInside}
use Rattle.explore_example.specs.Runs.{last_event}
use Rattle.explore_example.proofs.Pieces.{grown}
use Rattle.explore_example.proofs.telling.push_wrong.Goals as goal

pub returns : goal.returns
returns c =
    let start = string_bytes c.args.out.now in
    let store = c.args.store.now in
    let wrong = c.args.wrong.now in
    let event = codes "  cut behind event " ++ decimal wrong.event in
    let lines = event ++ lines_text 0 wrong.kept.items wrong.pending.items in
    let inside = lines ++ inside_text wrong.inside.items in
    let outcome = inside ++ outcome_text wrong.outcome in
    let allowed = outcome ++ allowed_text store.is_closing store.saved store.values in
    let kept : string_bytes c.push_lines.new.out ≡ string_bytes c.write.new.self ++ lines_text 0 wrong.kept.items wrong.pending.items =
    c.in_ok-push_lines.ensures
    ∙ ap (λ (ks : List ℕ). string_bytes c.write.new.self ++ lines_text 0 ks c.as_slice-2.result.now) c.as_slice.ensures.value
    ∙ ap (λ (ps : List ℕ). string_bytes c.write.new.self ++ lines_text 0 wrong.kept.items ps) c.as_slice-2.ensures.value in
    let upto_lines : string_bytes c.push_lines.new.out ≡ start ++ lines = grown _ (string_bytes c.write.new.self) start event _ kept c.in_ok-write.ensures.bytes in
    let cuts : string_bytes c.push_inside.new.out ≡ string_bytes c.push_lines.new.out ++ inside_text wrong.inside.items =
    c.in_ok-push_inside.ensures ∙ ap (λ (cs : List CutInside). string_bytes c.push_lines.new.out ++ inside_text cs) c.as_slice-cuts.ensures.value in
    let upto_inside : string_bytes c.push_inside.new.out ≡ start ++ inside = grown _ (string_bytes c.push_lines.new.out) start lines _ cuts upto_lines in
    let upto_outcome : string_bytes c.push_outcome.new.out ≡ start ++ outcome = grown _ (string_bytes c.push_inside.new.out) start inside _ c.in_ok-push_outcome.ensures upto_inside in
    let upto_allowed : string_bytes c.push_allowed.new.out ≡ start ++ allowed = grown _ (string_bytes c.push_outcome.new.out) start outcome _ c.in_ok-push_allowed.ensures upto_outcome in
    let upto_end : string_bytes c.writeln.new.self ≡ start ++ (allowed ++ codes "\n") = grown _ (string_bytes c.push_allowed.new.out) start allowed _ c.in_ok-writeln.ensures.bytes upto_allowed in
    grown _ (string_bytes c.writeln.new.self) start (allowed ++ codes "\n") (last_text wrong.event (last_event store)) c.in_ok-push_last.ensures upto_end
