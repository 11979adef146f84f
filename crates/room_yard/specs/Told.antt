-- What a handle tells of its yard beside its thread's view: all of it, or the thread's own checkpoints.
use Rattle.std.specs.Prelude.{◌≡◌, length, List, [], ◌∷◌, ◌++◌, Option, Some, None}
use Rattle.seq_object.specs.declared.history.Entry.{Entry}
use Rattle.yard_model.specs.declared.view.View.{View}
use Rattle.yard_model.specs.declared.view.Checkpoint.{Checkpoint}
use Rattle.yard_model.specs.World.{YardState, ViewIs}
use Rattle.yard_model.specs.Lawful.{Lawful}
use Rattle.yard_model.specs.declared.view.OwnMark.{OwnMark}

-- The whole state of a yard.
pub record Told : Type 0 where
  pub world : YardState
  pub history : List Entry  -- all entries, in the order in which they were drawn
  pub checkpoints : List Checkpoint  -- the checkpoints that were released, in order

-- where the state is told it is lawful, and the view is its thread's in it
abbrev pub IsTold : Option Told → View → Type 0
IsTold None v = Unit {0}
IsTold (Some a) v = Lawful v.beginning a.world a.history a.checkpoints × ViewIs a.world v.thread v

-- a fact on the state before a call and behind it, where it is told; it is told at both or at neither
abbrev pub BothTell : Option Told → Option Told → (Told → Told → Type 0) → Type 0
BothTell None None fact = Unit {0}
BothTell None (Some b) fact = ⊥
BothTell (Some a) None fact = ⊥
BothTell (Some a) (Some b) fact = fact a b

-- the state with this world, and with an entry or a checkpoint more
abbrev pub in_world : Told → YardState → Told
in_world a w = record a { world = w }

abbrev pub with_entry : Told → YardState → Entry → Told
with_entry a w e = record { world = w; history = a.history ++ e ∷ []; checkpoints = a.checkpoints }

abbrev pub with_checkpoint : Told → YardState → Checkpoint → Told
with_checkpoint a w m = record { world = w; history = a.history; checkpoints = a.checkpoints ++ m ∷ [] }

-- where the thread's own checkpoints are told, they are as many as its view says
abbrev pub HasOwn : Option (List OwnMark) → View → Type 0
HasOwn None v = Unit {0}
HasOwn (Some cs) v = length cs ≡ v.checkpoints

-- the thread's own checkpoints with one more, where they are told
abbrev pub with_own : Option (List OwnMark) → OwnMark → Option (List OwnMark)
with_own None m = None
with_own (Some cs) m = Some (cs ++ m ∷ [])
