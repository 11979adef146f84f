-- The life of a lawful world is legal; its closings are the released checkpoints, and few.
use Rattle.std.proofs.Common.{◌≡◌, suc, List, [], ◌∷◌, ◌++◌, length, refl, ap, arith}
use Rattle.life_model.specs.declared.life.Life.{Life}
use Rattle.life_model.specs.declared.life.Life.TheVariants.{Start, Resume}
use Rattle.life_model.specs.Life.{closings}
use Rattle.life_laws.proofs.Steps.{room_by_room_life}
use Rattle.yard_model.specs.declared.view.Beginning.{Beginning}
use Rattle.yard_model.specs.declared.view.Checkpoint.{Checkpoint}
use Rattle.yard_model.specs.Beginnings.{opening_of, recovery_marks, lengths_of, marks_of}
use Rattle.yard_model.specs.Lives.{LifeIsLegalLaw, LifeClosesOncePerEntryLaw, LifeTicksLittleLaw}
use Rattle.yard_laws.proofs.Beginning.{as_life}
use Rattle.yard_laws.proofs.Knowns.{last_few}

pub life_is_legal : LifeIsLegalLaw
life_is_legal b w h cs l = room_by_room_life (opening_of b) h (marks_of b cs) (let s = l.bounds.beginning.settings.sizes.some_shards in omega (arith, s)) l.loads.legal l.epochs.order

pub length_lengths : (cs : List Checkpoint) → length (lengths_of cs) ≡ length cs
length_lengths [] = refl
length_lengths (m ∷ cs) = ap suc (length_lengths cs)

-- the closings of the life are the released checkpoints
pub closings_same : (b : Beginning) (cs : List Checkpoint) → closings (opening_of b) (marks_of b cs) ≡ length cs
closings_same b cs = by b.life
  where
    by : (life : Life) → closings (as_life life (opening_of b)) (recovery_marks life ++ lengths_of cs) ≡ length cs
    by Start = length_lengths cs
    by Resume = let f = length_lengths cs in omega (arith, f)

pub closes_once_per_entry : LifeClosesOncePerEntryLaw
closes_once_per_entry b w h cs l none = let f = l.epochs.takeless none in let g = last_few b w h cs l in let c = closings_same b cs in omega (arith, f, g, c)

pub ticks_little : LifeTicksLittleLaw
ticks_little b w h cs l = let f = l.bounds.limit in omega (arith, f)
