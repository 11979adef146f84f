-- The events of a store: those of a write, of a closing, of two epochs, and of a recovery.
use Rattle.std.specs.Prelude.{◌≡◌, ℕ, ◌+◌, nat_eq, List, [], ◌∷◌, ◌++◌, slice_index, if◌then◌else◌}
use Rattle.explore_example.specs.declared.event.Event.{Event}
use Rattle.explore_example.specs.declared.event.Event.TheVariants.{Write, Store, WriteBack, Fence, Closing, Closed}
use Rattle.explore_example.specs.declared.mistake.Mistake.{Mistake}
use Rattle.explore_example.specs.declared.mistake.Mistake.TheVariants.{None as right, RecordFirst, Unfenced, EpochEarly, RecoveryEarly}

-- the events of the first write of a variable in an epoch, where it had this value before
abbrev pub write_events : Mistake → ℕ → ℕ → ℕ → ℕ → List Event
write_events RecordFirst epoch variable old value = Write variable value ∷ Store (1 + variable) 0 value ∷ Store (1 + variable) 1 old ∷ Store (1 + variable) 2 epoch ∷ []
write_events mistake epoch variable old value = Write variable value ∷ Store (1 + variable) 1 old ∷ Store (1 + variable) 2 epoch ∷ Store (1 + variable) 0 value ∷ []

-- the events of a closing of an epoch
abbrev pub closing_events : Mistake → ℕ → List Event
closing_events Unfenced epoch = Closing ∷ WriteBack 1 ∷ WriteBack 2 ∷ Fence ∷ Store 0 0 (epoch + 1) ∷ WriteBack 0 ∷ Closed ∷ []
closing_events EpochEarly epoch = Closing ∷ WriteBack 1 ∷ WriteBack 2 ∷ Store 0 0 (epoch + 1) ∷ Fence ∷ WriteBack 0 ∷ Fence ∷ Closed ∷ []
closing_events mistake epoch = Closing ∷ WriteBack 1 ∷ WriteBack 2 ∷ Fence ∷ Store 0 0 (epoch + 1) ∷ WriteBack 0 ∷ Fence ∷ Closed ∷ []

-- the events of two epochs: both variables are written in the first, and one of them in the second
abbrev pub all_events : Mistake → List Event
all_events mistake = write_events mistake 1 0 0 10 ++ write_events mistake 1 1 0 20 ++ closing_events mistake 1 ++ write_events mistake 2 0 10 11 ++ closing_events mistake 2

-- the events that restore the cell of a line, with these words, at an epoch: its backup is stored to its record where its tag is the epoch
abbrev pub restore_events : ℕ → ℕ → List ℕ → List Event
restore_events epoch line cell = if nat_eq (slice_index cell 2) epoch then Store line 0 (slice_index cell 1) ∷ WriteBack line ∷ [] else []

-- the last events of a recovery of an epoch
abbrev pub end_events : Mistake → ℕ → List Event
end_events RecoveryEarly epoch = Store 0 0 (epoch + 1) ∷ Fence ∷ WriteBack 0 ∷ Fence ∷ []
end_events mistake epoch = Fence ∷ Store 0 0 (epoch + 1) ∷ WriteBack 0 ∷ Fence ∷ []

-- the events of a recovery of an epoch, where the cells have these words
abbrev pub recovery_events : Mistake → ℕ → List ℕ → List ℕ → List Event
recovery_events mistake epoch first second = restore_events epoch 1 first ++ restore_events epoch 2 second ++ end_events mistake epoch

-- the second list is the first with one event moved to an earlier place
pub record IsOneMoved (whole other : List Event) : Type 0 where
  pub before : List Event
  pub between : List Event
  pub moved : Event
  pub behind : List Event
  pub whole_is : whole ≡ before ++ (between ++ moved ∷ behind)
  pub other_is : other ≡ before ++ moved ∷ (between ++ behind)

-- the second list is the first with one event left out
pub record IsOneLeftOut (whole other : List Event) : Type 0 where
  pub before : List Event
  pub missing : Event
  pub behind : List Event
  pub whole_is : whole ≡ before ++ missing ∷ behind
  pub other_is : other ≡ before ++ behind

-- a write of the store that stores a record first has one event of the right store's moved; the others make the right store's
pub record WriteLaw : Type 0 where
  pub record_first : (epoch variable old value : ℕ) → IsOneMoved (write_events right epoch variable old value) (write_events RecordFirst epoch variable old value)
  pub unfenced : (epoch variable old value : ℕ) → write_events Unfenced epoch variable old value ≡ write_events right epoch variable old value
  pub epoch_early : (epoch variable old value : ℕ) → write_events EpochEarly epoch variable old value ≡ write_events right epoch variable old value
  pub recovery_early : (epoch variable old value : ℕ) → write_events RecoveryEarly epoch variable old value ≡ write_events right epoch variable old value

-- a closing without its last fence has one event of the right store's left out, one with the epoch early has one moved; the other makes
-- the right store's
pub record ClosingLaw : Type 0 where
  pub record_first : (epoch : ℕ) → closing_events RecordFirst epoch ≡ closing_events right epoch
  pub unfenced : (epoch : ℕ) → IsOneLeftOut (closing_events right epoch) (closing_events Unfenced epoch)
  pub epoch_early : (epoch : ℕ) → IsOneMoved (closing_events right epoch) (closing_events EpochEarly epoch)
  pub recovery_early : (epoch : ℕ) → closing_events RecoveryEarly epoch ≡ closing_events right epoch

-- the end of a recovery with the epoch early has one event of the right store's moved; the others make the right store's
pub record RecoveryLaw : Type 0 where
  pub record_first : (epoch : ℕ) → end_events RecordFirst epoch ≡ end_events right epoch
  pub unfenced : (epoch : ℕ) → end_events Unfenced epoch ≡ end_events right epoch
  pub epoch_early : (epoch : ℕ) → end_events EpochEarly epoch ≡ end_events right epoch
  pub recovery_early : (epoch : ℕ) → IsOneMoved (end_events right epoch) (end_events RecoveryEarly epoch)
