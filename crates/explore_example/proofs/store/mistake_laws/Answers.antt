use Rattle.std.proofs.Common.{◌+◌, [], ◌∷◌, refl}
use Rattle.explore_example.specs.declared.event.Event.TheVariants.{Write, Store, WriteBack, Fence, Closing, Closed}
use Rattle.explore_example.proofs.store.mistake_laws.Goals as goal

pub returns-clause-writes : goal.returns-clause-writes
returns-clause-writes c = record {
  record_first = λ epoch variable old value. record {
    before = Write variable value ∷ [];
    between = Store (1 + variable) 1 old ∷ Store (1 + variable) 2 epoch ∷ [];
    moved = Store (1 + variable) 0 value;
    behind = [];
    whole_is = refl;
    other_is = refl;
  };
  unfenced = λ epoch variable old value. refl;
  epoch_early = λ epoch variable old value. refl;
  recovery_early = λ epoch variable old value. refl;
}

pub returns-clause-closings : goal.returns-clause-closings
returns-clause-closings c = record {
  record_first = λ epoch. refl;
  unfenced = λ epoch. record {
    before = Closing ∷ WriteBack 1 ∷ WriteBack 2 ∷ Fence ∷ Store 0 0 (epoch + 1) ∷ WriteBack 0 ∷ [];
    missing = Fence;
    behind = Closed ∷ [];
    whole_is = refl;
    other_is = refl;
  };
  epoch_early = λ epoch. record {
    before = Closing ∷ WriteBack 1 ∷ WriteBack 2 ∷ [];
    between = Fence ∷ [];
    moved = Store 0 0 (epoch + 1);
    behind = WriteBack 0 ∷ Fence ∷ Closed ∷ [];
    whole_is = refl;
    other_is = refl;
  };
  recovery_early = λ epoch. refl;
}

pub returns-clause-recoveries : goal.returns-clause-recoveries
returns-clause-recoveries c = record {
  record_first = λ epoch. refl;
  unfenced = λ epoch. refl;
  epoch_early = λ epoch. refl;
  recovery_early = λ epoch. record {
    before = [];
    between = Fence ∷ [];
    moved = Store 0 0 (epoch + 1);
    behind = WriteBack 0 ∷ Fence ∷ [];
    whole_is = refl;
    other_is = refl;
  };
}
