use Rattle.std.proofs.Common.{◌≡◌, ℕ, ◌+◌, ◌<◌, ◌≤◌, ◌^◌, ◌∷◌, ◌++◌, [], List, take, sym, ap, ◌∙◌, subst, arith}
use Rattle.std.proofs.lemmas.List.{take_all, take_more}
use Rattle.line_memory.specs.Line.{BankState, no_bank, line_of, all_lines, all_write_backs, IsQuiet}
use Rattle.seq_object.specs.declared.sizes.Sizes.{Sizes}
use Rattle.seq_object.specs.Sizes.{room_count, sizes_of}
use Rattle.room_model.specs.Formatted.{formatted_bank, formatted_memory}
use Rattle.formatting.proofs.Memory.{formatted_rooms, formatted_banks, formatted_memory_quiet, formatted_write_backs, memory_unasked, few_lines}
use Rattle.formatting.proofs.banks.format.Goals as goal

-- one bank more
one_more : (z : Sizes) (room : ℕ) (old new : List BankState) (bank : BankState) → room < room_count z → old ≡ take room (formatted_memory z) → bank ≡ formatted_bank z room
    → new ≡ old ++ bank ∷ [] → new ≡ take (room + 1) (formatted_memory z)
one_more z room old new bank lt so_far is grown =
    grown ∙ ap (λ (bs : List BankState). bs ++ bank ∷ []) so_far ∙ ap (λ (b : BankState). take room (formatted_memory z) ++ b ∷ []) (is ∙ sym (formatted_banks z room lt))
    ∙ sym (take_more (formatted_memory z) room no_bank (omega (arith, lt, formatted_rooms z)))

-- all of them
all_banks : (z y : Sizes) (count room : ℕ) (banks : List BankState) → y ≡ z → count ≡ room_count y → count ≤ room → banks ≡ take room (formatted_memory z) → banks ≡ formatted_memory z
all_banks z y count room banks same many past is =
    let counted : count ≡ room_count z = many ∙ ap room_count same in
    is ∙ take_all room (formatted_memory z) (omega (arith, past, counted, formatted_rooms z))

pub loop-room-preserved : goal.loop-room-preserved
loop-room-preserved c =
    let z = sizes_of c.args.settings.now in
    let count : c.room_count-count.result ≡ room_count z = c.room_count-count.ensures ∙ ap room_count c.sizes-sizes.ensures in
    let test = c.loop-room-test.true in
    one_more z c.loop-room.room c.loop-room.banks.items c.push.new.self.items c.in_ok-format_room.field-0 (omega (arith, count, test)) c.loop-room.invariant
    ((c.in_ok-format_room.ensures).is ∙ ap (λ (y : Sizes). formatted_bank y c.loop-room.room) c.sizes-sizes.ensures) (c.in_ok-push.ensures).items

pub of-requires-clause-lines : goal.of-requires-clause-lines
of-requires-clause-lines c =
    let all = all_banks (sizes_of c.args.settings.now) c.sizes-sizes.result c.room_count-count.result c.loop-room.room c.loop-room.banks.items c.sizes-sizes.ensures c.room_count-count.ensures c.loop-room-test.false c.loop-room.invariant in
    subst (λ (bs : List BankState). all_lines bs < 2 ^ 32) (sym all) (few_lines (sizes_of c.args.settings.now) c.requires)

pub returns-clause-quiet : goal.returns-clause-quiet
returns-clause-quiet c =
    let all = all_banks (sizes_of c.args.settings.now) c.sizes-sizes.result c.room_count-count.result c.loop-room.room c.loop-room.banks.items c.sizes-sizes.ensures c.room_count-count.ensures c.loop-room-test.false c.loop-room.invariant in
    subst IsQuiet (sym (c.of.ensures ∙ all)) (formatted_memory_quiet (sizes_of c.args.settings.now))

pub returns-clause-asked : goal.returns-clause-asked
returns-clause-asked c =
    let all = all_banks (sizes_of c.args.settings.now) c.sizes-sizes.result c.room_count-count.result c.loop-room.room c.loop-room.banks.items c.sizes-sizes.ensures c.room_count-count.ensures c.loop-room-test.false c.loop-room.invariant in
    λ room line. ap (λ (bs : List BankState). (line_of bs room line).asked) (c.of.ensures ∙ all) ∙ memory_unasked (sizes_of c.args.settings.now) room line

pub returns-clause-flushed : goal.returns-clause-flushed
returns-clause-flushed c =
    let all = all_banks (sizes_of c.args.settings.now) c.sizes-sizes.result c.room_count-count.result c.loop-room.room c.loop-room.banks.items c.sizes-sizes.ensures c.room_count-count.ensures c.loop-room-test.false c.loop-room.invariant in
    ap all_write_backs (c.of.ensures ∙ all) ∙ formatted_write_backs (sizes_of c.args.settings.now)
