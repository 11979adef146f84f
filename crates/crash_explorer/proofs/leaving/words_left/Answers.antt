use Rattle.std.proofs.Common.{List, ℕ, subst, sym, ap, ◌∙◌, arith, length}
use Rattle.crash_explorer.specs.Cut.{AreWithin, bare, by_counts, pending_of}
use Rattle.crash_explorer.proofs.Advancing.{within-length}
use Rattle.crash_explorer.proofs.Keeping.{length-pending, listed-left, bare-left, bare-pending}
use Rattle.crash_explorer.proofs.leaving.words_left.Goals as goal

pub entries_of-requires : goal.entries_of-requires
entries_of-requires c =
    let lines = c.args.bank.now.lines in
    omega (arith, within-length c.args.kept.now (pending_of (bare lines)) c.requires, ap (λ (xs : List ℕ). length xs) (bare-pending lines), length-pending lines, c.lines-lines.ensures.count)

pub returns : goal.returns
returns c =
    let kept = c.args.kept.now in
    let lines = c.args.bank.now.lines in
    let within : AreWithin kept (pending_of lines) = subst (λ (ms : List ℕ). AreWithin kept ms) (bare-pending lines) c.requires in
    c.in_ok-left.ensures ∙ listed-left kept c.in_ok-entries.entries lines c.in_ok-entries.ensures within ∙ sym (bare-left (by_counts kept) 0 lines)
