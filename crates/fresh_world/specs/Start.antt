-- What a start begins with, as the world has it that it opens with.
use Rattle.std.specs.Prelude.{◌≡◌, ℕ, ◌≤◌, ◌^◌, List, [], length, map, replicate}
use Rattle.std.specs.List.{All}
use Rattle.seq_object.specs.declared.command.Command.{Command}
use Rattle.seq_object.specs.declared.settings.Settings.{Settings}
use Rattle.seq_object.specs.Sizes.{IsValid, sizes_of, room_count}
use Rattle.seq_object.specs.History.{Scripts, first_points}
use Rattle.life_model.specs.declared.life.Life.TheVariants.{Start}
use Rattle.life_model.specs.Life.{start_of}
use Rattle.yard_model.specs.declared.view.Beginning.{Beginning}
use Rattle.yard_model.specs.Beginnings.{opening_of, IsBeginning}

-- the scripts have these lengths, each at most 4,096 commands
pub record AreLengths (scripts : Scripts) (lengths : List ℕ) : Type 0 where
  pub are : map (λ (script : List Command). length script) scripts ≡ lengths
  pub short : All (λ (script : List Command). length script ≤ 4096) scripts

-- what a start of these settings and scripts begins with: nothing is held, each thread is at its first restart point, the epoch is 1, and
-- no line was written back
abbrev pub start_beginning : Settings → Scripts → ℕ → Beginning
start_beginning settings scripts limit = record {
  settings = settings;
  scripts = scripts;
  life = Start;
  epoch = 1;
  pairs = [];
  items = [];
  points = first_points settings.threads;
  limit = limit;
  write_backs = replicate (room_count (sizes_of settings)) 0;
}

-- it is how a start begins
abbrev pub StartOpeningLaw : Type 0
StartOpeningLaw = (settings : Settings) (scripts : Scripts) (limit : ℕ) → opening_of (start_beginning settings scripts limit) ≡ start_of settings scripts

-- and all holds of it that is asked of a beginning
abbrev pub StartBeginsLaw : Type 0
StartBeginsLaw = (settings : Settings) (scripts : Scripts) (lengths : List ℕ) (limit : ℕ) → IsValid settings → length lengths ≡ settings.threads → AreLengths scripts lengths → limit ≤ 2 ^ 63
    → IsBeginning (start_beginning settings scripts limit)
