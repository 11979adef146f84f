use Rattle.std.proofs.Common.{◌≡◌, ℕ, ◌<◌, [], length, arith, rules}
use Rattle.line_memory.specs.Line.{line_at}
use Rattle.room_model.specs.Cell.{tag_of}
use Rattle.locked_map.proofs.tests.formatted_cells.Goals as goal

pub clean-requires : goal.clean-requires
clean-requires g c =
    let quiet : (line : ℕ) → (line_at c.expect-bank.result.lines line).pending ≡ [] = search rules in
    let tags : (line : ℕ) → line < length c.expect-bank.result.lines → tag_of (line_at c.expect-bank.result.lines line).base ≡ 0 = search rules in
    λ i lt. let tag = tags i lt in record { pending = quiet i; tag = omega (arith, tag) }
