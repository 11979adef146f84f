-- What a life begins with, and what its history and the checkpoints that were released make of it.
use Rattle.std.specs.Prelude.{◌≡◌, ℕ, zero, suc, ◌+◌, ◌^◌, ◌<◌, ◌≤◌, ◌&&◌, Bool, true, false, is_none, List, [], ◌∷◌, ◌++◌, length, map, take, slice_index}
use Rattle.std.specs.List.{All}
use Rattle.std.specs.FinMap.{from_entries}
use Rattle.seq_object.specs.declared.command.Command.{Command}
use Rattle.seq_object.specs.declared.history.Entry.{Entry}
use Rattle.seq_object.specs.Sizes.{sizes_of, IsValid}
use Rattle.seq_object.specs.Object.{Contents}
use Rattle.life_model.specs.declared.life.Life.{Life}
use Rattle.life_model.specs.declared.life.Life.TheVariants.{Start, Resume}
use Rattle.life_model.specs.Crash.{epoch_after}
use Rattle.life_model.specs.Life.{Opening, script_of, opening_place, next_command, covered, BeginsRightly, contents_now}
use Rattle.yard_model.specs.declared.view.Beginning.{Beginning}
use Rattle.yard_model.specs.declared.view.Checkpoint.{Checkpoint}
use Rattle.seq_object.specs.declared.sizes.Sizes.{Sizes}

-- the life's opening: its settings and scripts, and the epoch and state of its memory
abbrev pub opening_of : Beginning → Opening
opening_of b = record {
  settings = b.settings;
  scripts = b.scripts;
  life = b.life;
  epoch = b.epoch;
  state = record { contents = record { pairs = from_entries b.pairs; items = b.items }; points = b.points };
}

-- the sizes of its memory
abbrev pub sizes_at : Beginning → Sizes
sizes_at b = sizes_of b.settings

-- the marks before the first checkpoint: a resume has the mark of its recovery, which covers no entry
abbrev pub recovery_marks : Life → List ℕ
recovery_marks Start = []
recovery_marks Resume = 0 ∷ []

-- how many entries each of these checkpoints covers
abbrev pub lengths_of : List Checkpoint → List ℕ
lengths_of cs = map (λ (m : Checkpoint). m.length) cs

-- the marks of the life
abbrev pub marks_of : Beginning → List Checkpoint → List ℕ
marks_of b cs = recovery_marks b.life ++ lengths_of cs

-- the epoch in which the life begins to run
abbrev pub first_epoch : Beginning → ℕ
first_epoch b = epoch_after (opening_of b) (recovery_marks b.life)

-- the epoch that runs, behind these checkpoints
abbrev pub epoch_now : Beginning → List Checkpoint → ℕ
epoch_now b cs = first_epoch b + length cs

-- how many entries the last mark covers
abbrev pub covered_by : List Checkpoint → ℕ
covered_by cs = covered (lengths_of cs)

-- the entries that the last mark covers
abbrev pub covered_part : List Entry → List Checkpoint → List Entry
covered_part h cs = take (covered_by cs) h

-- each of so many threads has a used script at the beginning
abbrev pub are_used_below : Beginning → ℕ → Bool
are_used_below b zero = true
are_used_below b (suc n) = is_none (next_command (opening_of b) [] n) && are_used_below b n

-- whether the last of these checkpoints ended the life, and this where there is none
abbrev pub over_from : Bool → List Checkpoint → Bool
over_from over [] = over
over_from over (m ∷ cs) = over_from m.over cs

-- whether the life is over: its last checkpoint ended it, or it began with every script used
abbrev pub is_over : Beginning → List Checkpoint → Bool
is_over b cs = over_from (are_used_below b b.settings.threads) cs

-- of these checkpoints none but the last ended the life
abbrev pub OnlyLastIsOver : List Checkpoint → Type 0
OnlyLastIsOver [] = Unit {0}
OnlyLastIsOver (m ∷ []) = Unit {0}
OnlyLastIsOver (m ∷ n ∷ cs) = (m.over ≡ false) × OnlyLastIsOver (n ∷ cs)

-- whether there is an item
abbrev pub has_items : List ℕ → Bool
has_items [] = false
has_items (item ∷ items) = true

-- what the object held behind them
abbrev pub covered_contents : Beginning → List Entry → List Checkpoint → Contents
covered_contents b h cs = contents_now (opening_of b) (covered_part h cs)

-- whether the epoch began with an item in the queue
abbrev pub is_fed : Beginning → List Entry → List Checkpoint → Bool
is_fed b h cs = has_items (covered_contents b h cs).items

-- the number of write-backs of a room at the beginning
abbrev pub write_backs_at : Beginning → ℕ → ℕ
write_backs_at b room = slice_index b.write_backs room

-- what is asked of a beginning
pub record IsBeginning (b : Beginning) : Type 0 where
  -- settings within their limits
  pub settings : IsValid b.settings
  -- one script for each thread
  pub scripts : length b.scripts ≡ b.settings.threads
  -- each of at most 4,096 commands
  pub short : All (λ (script : List Command). length script ≤ 4096) b.scripts
  -- one restart point for each thread
  pub points : length b.points ≡ b.settings.threads
  -- no restart point is past its script's end
  pub places : (thread : ℕ) → thread < b.settings.threads → opening_place (opening_of b) thread ≤ length (script_of b.scripts thread)
  -- a start begins with nothing, in epoch 1
  pub begun : BeginsRightly (opening_of b) [] (recovery_marks b.life)
  -- the image's epoch is 1 at least
  pub epoch : 1 ≤ b.epoch
  -- the first epoch leaves room for the checkpoints
  pub early : first_epoch b ≤ 4278190080
  -- the power is off at 2^63 at the latest
  pub limit : b.limit ≤ 2 ^ 63
