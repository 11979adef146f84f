use Rattle.std.proofs.Common.{ℕ, ◌++◌, List, map, sym, ap, subst, ◌∙◌}
use Rattle.std.specs.FinMap.{entries}
use Rattle.seq_object.specs.declared.history.Pair.{Pair}
use Rattle.command_room.specs.Room.{contents_in}
use Rattle.rooms.specs.declared.room.Room.{Room}
use Rattle.room_yard.specs.World.{IsReadable, pairs_at}
use Rattle.room_yard.proofs.Gathered.{taken_apart}
use Rattle.room_yard.proofs.beginning.add_pairs.Goals as goal

pub returns-in_ok-append_pairs : goal.returns-in_ok-append_pairs
returns-in_ok-append_pairs c =
    let old : List (ℕ × ℕ) = c.args.pairs.now in
    c.in_ok-append_pairs.ensures
    ∙ ap (λ (l : List Pair). old ++ map (λ (p : Pair). (p.key, p.value)) l) (c.as_slice.ensures.value ∙ c.in_ok-entries.ensures.pairs (subst IsReadable c.in-Map.is c.requires))
    ∙ ap (λ (l : List (ℕ × ℕ)). old ++ l) (taken_apart (entries (contents_in c.in-Map.map).pairs))
    ∙ ap (λ (x : Room). old ++ pairs_at x) (sym c.in-Map.is)
