-- Facts on one view's epoch and counts. The beginning is b, the history of all entries h, and the released checkpoints cs.
use Rattle.std.specs.Prelude.{◌≡◌, ◌≢◌, ℕ, ◌+◌, ◌^◌, ◌<◌, ◌≤◌, Bool, true, List, length, None}
use Rattle.seq_object.specs.declared.history.Entry.{Entry}
use Rattle.life_model.specs.Life.{entries_between, next_command}
use Rattle.yard_model.specs.declared.view.Phase.{Phase}
use Rattle.yard_model.specs.declared.view.Phase.TheVariants.{Standing, Closing}
use Rattle.yard_model.specs.declared.view.Beginning.{Beginning}
use Rattle.yard_model.specs.declared.view.Checkpoint.{Checkpoint}
use Rattle.yard_model.specs.Beginnings.{opening_of, epoch_now, covered_by, is_fed}
use Rattle.yard_model.specs.Knows.{stands, HasCause}

-- EPOCHS. In each epoch a thread leaves once at most, draws as many entries as its quota lacks, and stands with a cause.

-- a thread's entries since the last mark
abbrev pub since_mark : List Entry → List Checkpoint → ℕ → ℕ
since_mark h cs i = entries_between h (covered_by cs) (length h) i

pub record IsInEpoch (b : Beginning) (h : List Entry) (cs : List Checkpoint) (i : ℕ) (phase : Phase) (ran quota : ℕ) (found_empty : Bool) : Type 0 where
  -- it ran in no later epoch
  pub no_later : ran ≤ epoch_now b cs
  -- where it runs or closes it ran in this epoch
  pub runs : phase ≢ Standing → ran ≡ epoch_now b cs
  -- where it ran in this epoch its entries since the mark and its quota make a whole quota
  pub since : ran ≡ epoch_now b cs → since_mark h cs i + quota ≡ b.settings.every
  -- where it did not run in this epoch, it has none
  pub idle : ran ≢ epoch_now b cs → since_mark h cs i ≡ 0
  -- where it ran in this epoch and has no entry since the mark, it has a next command
  pub has_next : ran ≡ epoch_now b cs → since_mark h cs i ≡ 0 → next_command (opening_of b) h i ≢ None
  -- where it ran in this epoch and stands, it has a cause
  pub cause : stands phase ≡ true → ran ≡ epoch_now b cs → HasCause quota found_empty (next_command (opening_of b) h i)
  -- where it ran in this epoch and found the queue empty that began with an item, an entry was drawn since the mark
  pub emptied : ran ≡ epoch_now b cs → found_empty ≡ true → is_fed b h cs ≡ true → covered_by cs < length h

-- BOUNDS of a view's counts.
pub record IsBounded (phase : Phase) (ticks checkpoints : ℕ) : Type 0 where
  -- it told the tick word of at most 2^32 events
  pub few_ticks : ticks ≤ 2 ^ 32
  -- the checkpoints that it released are at most 2^19
  pub few_checkpoints : checkpoints ≤ 2 ^ 19
  -- and one fewer while it closes one more
  pub may_release : phase ≡ Closing → checkpoints < 2 ^ 19
