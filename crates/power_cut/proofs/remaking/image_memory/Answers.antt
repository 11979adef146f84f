use Rattle.std.proofs.Common.{◌≡◌, ℕ, ◌++◌, List, [], ◌∷◌, length, ap, sym, ◌∙◌, arith, append-nil, subst}
use Rattle.std.specs.Global.{Vec}
use Rattle.std.specs.Vec.Iter.{into_iter_items, into_iter_len}
use Rattle.line_memory.specs.Line.{BankState, IsQuiet}
use Rattle.power_cut.specs.Image.{lists_of, sizes_in, rooms_in}
use Rattle.power_cut.specs.Cut.{quiet_memory}
use Rattle.power_cut.proofs.Counts.{lines_in, lines_in-shape, line_total-few}
use Rattle.power_cut.specs.declared.image.Image.{Image}
use Rattle.power_cut.proofs.Quiet.{quiet_memory-quiet}
use Rattle.power_cut.proofs.Heaped.{quiet_memory-few}
use Rattle.power_cut.proofs.remaking.image_memory.Goals as goal

-- a list of no things is empty
no_things : {X : Type 0} (xs : List X) → length xs ≡ 0 → xs ≡ []
no_things [] none = cc
no_things (x ∷ xs) none = absurd (omega arith)

pub loop-lines-init : goal.loop-lines-init
loop-lines-init c =
    let it = c.into_iter-lines-iterator.result in
    let image = c.args.image in
    let items : into_iter_items it ≡ image.rooms.items = c.into_iter-lines-iterator.ensures.into_iter_gives.0 in
    let lines = ap (λ (rooms : List (Vec (List ℕ))). lines_in (lists_of rooms)) items ∙ lines_in-shape (sizes_in image) (rooms_in image) c.requires.shape in
    record {
      can_next = tt;
      is_finite = tt;
      long = omega (arith, c.into_iter-lines-iterator.ensures.into_iter_gives.1, ap (λ (rooms : List (Vec (List ℕ))). length rooms) items, image.rooms.ok);
      few = omega (arith, lines, line_total-few (sizes_in image) c.requires.valid);
      made =
          ap (λ (banks : List BankState). banks ++ quiet_memory (lists_of (into_iter_items it))) c.in_ok-banks.ensures.items
          ∙ ap (λ (rooms : List (Vec (List ℕ))). quiet_memory (lists_of rooms)) items;
    }

-- where all rooms are made, they are the memory
made : (image : Image) (banks : List BankState) (rest : List (Vec (List ℕ))) (n : ℕ) → n ≡ length rest → n ≡ 0 → banks ++ quiet_memory (lists_of rest) ≡ quiet_memory (rooms_in image) → banks ≡ quiet_memory (rooms_in image)
made image banks rest n long gone are =
    sym (append-nil banks) ∙ ap (λ (rooms : List (Vec (List ℕ))). banks ++ quiet_memory (lists_of rooms)) (sym (no_things rest (omega (arith, gone, long)))) ∙ are

pub of-requires-2-clause-lines : goal.of-requires-2-clause-lines
of-requires-2-clause-lines c =
    let it = c.loop-lines.lines-iterator in
    let all = made c.args.image c.loop-lines.banks.items (into_iter_items it) (into_iter_len it) c.loop-lines.invariant.long c.in-None.ensures.steps.0 c.loop-lines.invariant.made in
    (quiet_memory-few (sizes_in c.args.image) (rooms_in c.args.image) c.loop-lines.banks.items c.requires all).1

pub returns-clause-quiet : goal.returns-clause-quiet
returns-clause-quiet c =
    let it = c.loop-lines.lines-iterator in
    let all = made c.args.image c.loop-lines.banks.items (into_iter_items it) (into_iter_len it) c.loop-lines.invariant.long c.in-None.ensures.steps.0 c.loop-lines.invariant.made in
    subst IsQuiet (sym (c.of-2.ensures ∙ all)) (quiet_memory-quiet (rooms_in c.args.image))
