-- What each progress of a replay meets, by the lawful yard and the workers.
use Rattle.std.specs.Prelude.{◌≡◌, ◌≢◌, ℕ, ◌+◌, ◌*◌, ◌<◌, ◌≤◌, ◌⊎◌, true, false, Some, None}
use Rattle.seq_object.specs.declared.command.Command.{Command}
use Rattle.seq_object.specs.declared.sizes.Sizes.{Sizes}
use Rattle.seq_object.specs.Sizes.{room_count}
use Rattle.seq_object.specs.Object.{IsTakeless}
use Rattle.seq_object.specs.History.{total}
use Rattle.restart_point.specs.declared.thread_end.ThreadEnd.TheVariants.{Ready}
use Rattle.block_allow.specs.Verdicts.{leaves}
use Rattle.yard_model.specs.Knows.{stands, is_closing, HasCause}
use Rattle.rounds.specs.Progress.{AtPoint, OnClosing, ThreadProgress, Progress, phase_of, is_holding, entries_to_come, drawn_since}

-- a progress in a life in which each thread may carry out so many commands in an epoch, and all scripts have so many from the opening on
pub record IsSound (z : Sizes) (every commands : ℕ) (s : Progress) : Type 0 where
  -- no thread ran in a later epoch, and one that is not at its restart point ran in this one
  pub no_later : (i : ℕ) → i < z.threads → (s.threads i).ran ≤ s.shared.epoch
  pub runs : (i : ℕ) → i < z.threads → (s.threads i).activity ≢ AtPoint → (s.threads i).ran ≡ s.shared.epoch
  -- one thread closes at most, and meanwhile each stands
  pub one_closer : (i j : ℕ) → i < z.threads → j < z.threads → is_closing (phase_of (s.threads i).activity) ≡ true
      → is_closing (phase_of (s.threads j).activity) ≡ true → i ≡ j
  pub all_stand : (i j : ℕ) → i < z.threads → j < z.threads → is_closing (phase_of (s.threads i).activity) ≡ true
      → stands (phase_of (s.threads j).activity) ≡ true
  -- no more rooms are done than there are
  pub few_rooms : (i r k : ℕ) → i < z.threads → (s.threads i).activity ≡ OnClosing r k → 4 * r + k ≤ 4 * room_count z
  -- a life that is not over goes on: some thread ran in this epoch, or may leave in it
  pub goes_on : s.shared.over ≡ false → (i : ℕ) × (i < z.threads) × (((s.threads i).ran ≡ s.shared.epoch) ⊎ (leaves (s.threads i).end s.shared.fed ≡ true))
  -- the entries, and those of the commands that are under way, are at most the commands
  pub few_entries : s.shared.entries + total (λ i. entries_to_come (s.threads i).activity) z.threads ≤ commands
  -- lines were seldom written back
  pub few_write_backs : s.shared.write_backs ≤ 4 * s.shared.entries + (z.threads + 1) * (s.shared.closed + 1)
  -- the entries since the last checkpoint are those of the threads
  pub all_since : s.shared.covered + total (λ i. drawn_since every s.shared.epoch (s.threads i)) z.threads ≡ s.shared.entries
  -- a thread that stands and ran in this epoch has a cause, and one without an entry in it has a next command
  pub cause : (i : ℕ) → i < z.threads → stands (phase_of (s.threads i).activity) ≡ true → (s.threads i).ran ≡ s.shared.epoch
      → HasCause (s.threads i).quota (s.threads i).found_empty (s.threads i).next
  pub has_next : (i : ℕ) → i < z.threads → (s.threads i).ran ≡ s.shared.epoch → drawn_since every s.shared.epoch (s.threads i) ≡ 0
      → (s.threads i).next ≢ None
  -- where a thread found the queue empty in an epoch that began with an item, an entry was drawn in it
  pub emptied : (i : ℕ) → i < z.threads → (s.threads i).ran ≡ s.shared.epoch → (s.threads i).found_empty ≡ true
      → s.shared.fed ≡ true → s.shared.covered < s.shared.entries
  -- a thread that stands, ran in this epoch and has no entry in it waits
  pub waits : (i : ℕ) → i < z.threads → stands (phase_of (s.threads i).activity) ≡ true → (s.threads i).ran ≡ s.shared.epoch
      → drawn_since every s.shared.epoch (s.threads i) ≡ 0 → (s.threads i).end ≢ Ready

-- no thread's next command is a take
abbrev pub NoneTakes : Sizes → Progress → Type 0
NoneTakes z s = (i : ℕ) → i < z.threads → (command : Command) → (s.threads i).next ≡ Some command → IsTakeless command

-- a thread alone: where its room was written in this epoch and its quota is whole, it waits; where it stands behind its run its room was
-- written; and where it runs and holds a room, that is still to come
pub record WaitsRightly (every : ℕ) (x : ThreadProgress) : Type 0 where
  pub waits : x.wrote ≡ true → every ≤ x.quota → x.end ≢ Ready
  pub stood : stands (phase_of x.activity) ≡ true → x.ran ≢ 0 → x.wrote ≡ true
  pub unwritten : is_holding x.activity ≡ true → x.wrote ≡ false
