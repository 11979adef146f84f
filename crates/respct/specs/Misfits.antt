-- Whether an image fits the script that is to go on from it: the first misfit, and its text.
use Rattle.std.specs.Prelude.{◌≡◌, ℕ, ◌==◌, ◌<◌, ◌≤◌, zero, suc, nat_le, nat_lt, if◌then◌else◌, Option, Some, None, List, ◌++◌, length, codes, slice_index}
use Rattle.std.specs.Fmt.{decimal}
use Rattle.seq_object.specs.declared.command.Command.{Command}
use Rattle.seq_object.specs.declared.settings.Settings.{Settings}
use Rattle.seq_object.specs.declared.sizes.Sizes.{Sizes}
use Rattle.seq_object.specs.Sizes.{sizes_of}
use Rattle.life_model.specs.Life.{script_of}
use Rattle.script_text.specs.Program.{Program}
use Rattle.respct.specs.declared.fitting.Misfit.{Misfit}
use Rattle.respct.specs.declared.fitting.MisfitKind.{MisfitKind}
use Rattle.respct.specs.declared.fitting.MisfitKind.TheVariants.{Threads, Shards, Lines, Position, Epoch}

-- the first epoch from which no life goes on
abbrev pub epoch_end : ℕ
epoch_end = 4278190080

-- what does not fit: the image's number, and the script's
abbrev pub misfit : MisfitKind → ℕ → ℕ → Misfit
misfit kind image script = record { kind = kind; image = image; script = script }

-- the first misfit where there is one, and else the other
abbrev pub or_misfit : Option Misfit → Option Misfit → Option Misfit
or_misfit (Some m) other = Some m
or_misfit None other = other

-- two numbers are to be the same
abbrev pub unless_same : MisfitKind → ℕ → ℕ → Option Misfit
unless_same kind image script = if image == script then None else Some (misfit kind image script)

-- a number is to be at most another one
abbrev pub unless_within : MisfitKind → ℕ → ℕ → Option Misfit
unless_within kind image script = if nat_le image script then None else Some (misfit kind image script)

-- a number is to be below another one
abbrev pub unless_below : MisfitKind → ℕ → ℕ → Option Misfit
unless_below kind image script = if nat_lt image script then None else Some (misfit kind image script)

-- the threads, then the shards, then the lines
abbrev pub sizes_misfit : Sizes → Settings → Option Misfit
sizes_misfit z settings = or_misfit (unless_same Threads z.threads settings.threads)
    (or_misfit (unless_same Shards z.shards settings.shards) (unless_same Lines z.lines settings.lines))

-- a thread's position is to be within its script
abbrev pub position_misfit : List ℕ → List (List Command) → ℕ → Option Misfit
position_misfit positions scripts thread = unless_within (Position thread) (slice_index positions thread) (length (script_of scripts thread))

-- the first misfit of the positions of so many threads, from thread 0 on
abbrev pub positions_misfit : List ℕ → List (List Command) → ℕ → Option Misfit
positions_misfit positions scripts zero = None
positions_misfit positions scripts (suc n) = or_misfit (positions_misfit positions scripts n) (position_misfit positions scripts n)

-- the first misfit of an image of these sizes, that recovers at this epoch to these positions, and a program
abbrev pub first_misfit : Sizes → ℕ → List ℕ → Program → Option Misfit
first_misfit z epoch positions p =
    or_misfit (sizes_misfit z p.settings) (or_misfit (positions_misfit positions p.threads z.threads) (unless_below Epoch epoch epoch_end))

-- the image fits the program: the settings have its sizes, each thread's position is within its script, and the epoch is not too large
pub record AreFitting (z : Sizes) (epoch : ℕ) (positions : List ℕ) (p : Program) : Type 0 where
  pub sizes : sizes_of p.settings ≡ z
  pub places : (thread : ℕ) → thread < z.threads → slice_index positions thread ≤ length (script_of p.threads thread)
  pub early : epoch < epoch_end

-- an image without a misfit fits
abbrev pub FittingLaw : Type 0
FittingLaw = (z : Sizes) (epoch : ℕ) (positions : List ℕ) (p : Program) → first_misfit z epoch positions p ≡ None → AreFitting z epoch positions p

-- the word of what does not fit
abbrev pub kind_text : MisfitKind → List ℕ
kind_text Threads = codes "threads"
kind_text Shards = codes "shards"
kind_text Lines = codes "lines"
kind_text (Position thread) = codes "position of thread " ++ decimal thread
kind_text Epoch = codes "epoch"

-- the text of a misfit: its word, the image's number and the script's
abbrev pub misfit_text : Misfit → List ℕ
misfit_text m = kind_text m.kind ++ codes " " ++ decimal m.image ++ codes ", " ++ decimal m.script
