-- From a check to which status it is.
use Rattle.std.proofs.Common.{ℕ, List, Option, Some, None, Result, Ok, Err, inl, inr, refl, ap}
use Rattle.byte_ports.specs.declared.refusal.StoreRefusal.TheVariants as stores
use Rattle.power_cut.specs.declared.fault.ImageFault.{ImageFault}
use Rattle.respct.specs.declared.loading.NotLoaded.TheVariants as images
use Rattle.respct.specs.declared.checking.NotChecked.{NotChecked}
use Rattle.respct.specs.declared.checking.NotChecked.TheVariants.{Unloaded, Unwritten}
use Rattle.respct.specs.declared.status.Status.TheVariants as statuses
use Rattle.respct.specs.Status.{status_of_check}
use Rattle.respct.specs.Loads.{IsFirstFault, IsMissingUnlessStarved, IsFaultUnlessStarved}
use Rattle.respct.specs.Checks.{IsCheckedUnlessStarved, IsUncheckedBy, IsCheckDecided}
use Rattle.respct.specs.Answers.{IsUnlessStarved, LeadsCheckTo}
use Rattle.respct.proofs.Loads.{one_fault_law}

-- the text was written, unless memory ran out
written : (result : Result (Unit {0}) NotChecked) → IsCheckedUnlessStarved result → IsUnlessStarved statuses.Finished (status_of_check result)
written (Ok done) d = inl refl
written (Err (Unloaded images.Failed)) d = absurd (cc d)
written (Err (Unloaded images.Missing)) d = absurd (cc d)
written (Err (Unloaded (images.Fault f))) d = absurd (cc d)
written (Err (Unloaded images.OutOfMemory)) d = inr refl
written (Err (Unwritten stores.Failed)) d = absurd (cc d)
written (Err (Unwritten stores.OutOfMemory)) d = inr refl

-- there is no image, unless memory ran out
missing : (result : Result (Unit {0}) NotChecked) → IsUncheckedBy IsMissingUnlessStarved result → IsUnlessStarved statuses.NoImage (status_of_check result)
missing (Ok done) d = absurd d
missing (Err (Unloaded images.Failed)) (inl d) = absurd (cc d)
missing (Err (Unloaded images.Failed)) (inr d) = absurd (cc d)
missing (Err (Unloaded images.Missing)) d = inl refl
missing (Err (Unloaded (images.Fault f))) (inl d) = absurd (cc d)
missing (Err (Unloaded (images.Fault f))) (inr d) = absurd (cc d)
missing (Err (Unloaded images.OutOfMemory)) d = inr refl
missing (Err (Unwritten refusal)) d = absurd d

-- the bytes have this first fault
faulty : (bytes : List ℕ) (result : Result (Unit {0}) NotChecked) (f : ImageFault) → IsFirstFault bytes f → IsUncheckedBy (IsFaultUnlessStarved bytes) result
    → IsUnlessStarved (statuses.Image f) (status_of_check result)
faulty bytes (Ok done) f first d = absurd d
faulty bytes (Err (Unloaded images.Failed)) f first d = absurd d
faulty bytes (Err (Unloaded images.Missing)) f first d = absurd d
faulty bytes (Err (Unloaded (images.Fault g))) f first d = inl (ap statuses.Image (one_fault_law bytes g f d first))
faulty bytes (Err (Unloaded images.OutOfMemory)) f first d = inr refl
faulty bytes (Err (Unwritten refusal)) f first d = absurd d

-- to which status it leads, by what is kept under the name
pub judges : (kept : Option (List ℕ)) (result : Result (Unit {0}) NotChecked) → IsCheckDecided kept result → LeadsCheckTo kept (status_of_check result)
judges None result d = missing result d
judges (Some bytes) result d = record {
  lawful = λ z rooms s. written result (d.lawful z rooms s);
  other = λ none f first. faulty bytes result f first (d.other none);
}
