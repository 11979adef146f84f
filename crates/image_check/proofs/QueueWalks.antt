-- What the walks of code say of the fault of the queue room, and of a room's free lines.
use Rattle.std.proofs.Common.{◌≡◌, ℕ, ◌+◌, ◌≢◌, ◌==◌, ◌&&◌, Bool, true, false, Option, Some, None, List, [], length, refl, ap, sym, ◌∙◌, subst, if◌then◌else◌, eq-eqb}
use Rattle.std.proofs.lemmas.Bool.{ne_eqb}
use Rattle.room_model.specs.Chains.{RoomWords}
use Rattle.image_check.specs.declared.room_fault.Header.{Header}
use Rattle.image_check.specs.declared.room_fault.RoomFault.{RoomFault}
use Rattle.image_check.specs.declared.room_fault.RoomFault.TheVariants.{BadChain, BadEnds, BadCount}
use Rattle.image_check.specs.declared.walking.Met.{Met}
use Rattle.image_check.specs.Meeting.{is_new, met_from}
use Rattle.image_check.specs.Marks.{HasMarksOf, HasWalked, IsClear}
use Rattle.image_check.specs.QueueFaults.{header_of, met_free, fault_of_free, met_queue, fault_of_queue}
use Rattle.seq_object.specs.declared.sizes.Sizes.{Sizes}

-- a walk that was refused
none_walked : (marks : List Bool) (o : Option (List ℕ)) → HasWalked None marks o → o ≡ None
none_walked marks None h = refl
none_walked marks (Some met) h = absurd h

-- what a walk that ended has met
record HasMet (marks : List Bool) (now : Met) (o : Option (List ℕ)) : Type 0 where
  pub met : List ℕ
  pub is : o ≡ Some met
  pub marked : HasMarksOf marks now met

some_walked : (marks : List Bool) (now : Met) (o : Option (List ℕ)) → HasWalked (Some now) marks o → HasMet marks now o
some_walked marks now None h = absurd h
some_walked marks now (Some met) h = record { met = met; is = refl; marked = h }

-- clear marks are those of no lines
pub nothing_met : (marks : List Bool) → IsClear marks → HasMarksOf marks (record { count = 0; latest = 0 }) []
nothing_met marks clear = record { marked = clear; count = refl; latest_is = refl }

-- the count behind the free list
pub free_counts : (first : ℕ) (z : Sizes) (r : RoomWords) (head : Header) (now all : Met) (old_marks marks : List Bool) (before : List ℕ) → head ≡ header_of r → HasMarksOf old_marks now before
    → HasWalked (Some all) marks (met_from (λ x. r x 0) (is_new first head.fresh) before z.lines head.free)
    → (if (head.count == now.count) && (all.count + first == head.fresh) then None else Some BadCount) ≡ fault_of_free first r (length before) (met_free first z r before)
free_counts first z r head now all old_marks marks before same marked =
    subst (λ (h : Header). HasWalked (Some all) marks (met_from (λ x. r x 0) (is_new first h.fresh) before z.lines h.free) → (if (h.count == now.count) && (all.count + first == h.fresh) then None else Some BadCount) ≡ fault_of_free first r (length before) (met_free first z r before)) (sym same) (λ walked.
    let told = some_walked marks all (met_free first z r before) walked in
    ap (λ (k : ℕ). if (r 0 2 == k) && (all.count + first == r 0 1) then None else Some BadCount) marked.count
    ∙ ap (λ (k : ℕ). if (r 0 2 == length before) && (k + first == r 0 1) then None else Some BadCount) told.marked.count
    ∙ sym (ap (fault_of_free first r (length before)) told.is))

-- the queue's chain is walked
pub queue_walked : (z : Sizes) (r : RoomWords) (head : Header) (start : ℕ) (o : Option Met) (marks : List Bool) → head ≡ header_of r → start ≡ r 1 0
    → HasWalked o marks (met_from (λ x. r x 1) (is_new 2 head.fresh) [] z.lines start) → HasWalked o marks (met_queue z r)
queue_walked z r head start o marks same starts walked =
    subst (λ (k : ℕ). HasWalked o marks (met_from (λ x. r x 1) (is_new 2 (r 0 1)) [] z.lines k)) starts (subst (λ (h : Header). HasWalked o marks (met_from (λ x. r x 1) (is_new 2 h.fresh) [] z.lines start)) same walked)

pub queue_astray : (z : Sizes) (r : RoomWords) (marks : List Bool) → HasWalked None marks (met_queue z r) → Some BadChain ≡ fault_of_queue z r (met_queue z r)
queue_astray z r marks h = sym (ap (fault_of_queue z r) (none_walked marks (met_queue z r) h))

-- what is left is the test of the last line
queue_ends : (z : Sizes) (r : RoomWords) (now : Met) (marks : List Bool) (h : HasWalked (Some now) marks (met_queue z r)) (t : Bool) → (r 1 1 == now.latest) ≡ t
    → fault_of_queue z r (met_queue z r) ≡ (let told = some_walked marks now (met_queue z r) h in if t then fault_of_free 2 r (length told.met) (met_free 2 z r told.met) else Some BadEnds)
queue_ends z r now marks h t is =
    let told = some_walked marks now (met_queue z r) h in
    ap (fault_of_queue z r) told.is
    ∙ ap (λ (k : ℕ). if r 1 1 == k then fault_of_free 2 r (length told.met) (met_free 2 z r told.met) else Some BadEnds) (sym told.marked.latest_is)
    ∙ ap (λ (b : Bool). if b then fault_of_free 2 r (length told.met) (met_free 2 z r told.met) else Some BadEnds) is

pub queue_ends_fault : (z : Sizes) (r : RoomWords) (now : Met) (marks : List Bool) (last : ℕ) → HasWalked (Some now) marks (met_queue z r) → last ≡ r 1 1 → last ≢ now.latest → Some BadEnds ≡ fault_of_queue z r (met_queue z r)
queue_ends_fault z r now marks last h is other = sym (queue_ends z r now marks h false (ne_eqb (r 1 1) now.latest (λ e. other (is ∙ e))))

pub queue_free_fault : (z : Sizes) (r : RoomWords) (now : Met) (marks : List Bool) (last : ℕ) (result : Option RoomFault) → HasWalked (Some now) marks (met_queue z r) → last ≡ r 1 1 → last ≡ now.latest
    → ((before : List ℕ) → HasMarksOf marks now before → result ≡ fault_of_free 2 r (length before) (met_free 2 z r before)) → result ≡ fault_of_queue z r (met_queue z r)
queue_free_fault z r now marks last result h is same free =
    let told = some_walked marks now (met_queue z r) h in
    free told.met told.marked ∙ sym (queue_ends z r now marks h true (eq-eqb (r 1 1) now.latest (sym is ∙ same)))
