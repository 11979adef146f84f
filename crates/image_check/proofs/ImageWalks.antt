-- The checks of an image, room by room.
use Rattle.std.proofs.Common.{◌≡◌, ℕ, ◌+◌, ◌<◌, ◌≤◌, Bool, Option, Some, None, arith, refl, ap, sym, ◌∙◌, inl, inr, if◌then◌else◌}
use Rattle.std.proofs.lemmas.Bool.Decides.{eqb_tells}
use Rattle.std.specs.FinMap.{get, empty, get-empty}
use Rattle.std.specs.Ordering.{nat_cmp}
use Rattle.seq_object.specs.Object.{Pairs, shard_of}
use Rattle.room_model.specs.MapRoom.{Layout}
use Rattle.room_model.specs.Image.{ImageRooms as Rooms, recovered_room}
use Rattle.room_model.specs.Walks.{map_of}
use Rattle.power_cut.specs.declared.fault.ImageFault.{ImageFault}
use Rattle.image_check.specs.declared.room_fault.RoomFault.{RoomFault}
use Rattle.image_check.specs.ImageFaults.{first_below, with_room, fault_in, map_room_fault}
use Rattle.image_check.specs.Keyed.{HasShardPairs}
use Rattle.seq_object.specs.declared.sizes.Sizes.{Sizes}

-- a room's fault, where it has one, is the image's
pub room_found : (room : ℕ) (o p : Option RoomFault) (fault : RoomFault) (found : ImageFault) → p ≡ Some fault → p ≡ o → found ≡ with_room room fault → Some found ≡ fault_in room o
room_found room o p fault found is same named = ap (λ (f : ImageFault). Some f) named ∙ ap (fault_in room) (sym is ∙ same)

pub room_fine : (room : ℕ) (o p : Option RoomFault) → p ≡ None → p ≡ o → fault_in room o ≡ None
room_fine room o p is same = ap (fault_in room) (sym same ∙ is)

-- the first map rooms have no fault, and their pairs are kept
pub record AreKept (layout : Layout) (z : Sizes) (rooms : Rooms) (n : ℕ) (pairs : Pairs) : Type 0 where
  pub fault : first_below (map_room_fault layout z rooms) n ≡ None
  pub here : (key : ℕ) → shard_of z key < n → get pairs key ≡ get (map_of layout z (recovered_room z rooms (shard_of z key))) key
  pub later : (key : ℕ) → n ≤ shard_of z key → get pairs key ≡ None

pub none_kept : (layout : Layout) (z : Sizes) (rooms : Rooms) (pairs : Pairs) → pairs ≡ empty → AreKept layout z rooms 0 pairs
none_kept layout z rooms pairs none = record {
  fault = refl;
  here = λ key lt. absurd (omega (arith, lt));
  later = λ key le. ap (λ (p : Pairs). get p key) none ∙ get-empty nat_cmp key;
}

pub one_more_kept : (layout : Layout) (z : Sizes) (rooms : Rooms) (n : ℕ) (others pairs : Pairs) → AreKept layout z rooms n others → first_below (map_room_fault layout z rooms) (n + 1) ≡ None
    → HasShardPairs layout z n (recovered_room z rooms n) others pairs → AreKept layout z rooms (n + 1) pairs
one_more_kept layout z rooms n others pairs kept none has = record {
  fault = none;
  here = λ key lt. has key ∙ elim (eqb_tells (shard_of z key) n) [
    | inl e ↦
        ap (λ (b : Bool). if b then get (map_of layout z (recovered_room z rooms n)) key else get others key) e.0
        ∙ ap (λ (k : ℕ). get (map_of layout z (recovered_room z rooms k)) key) (sym e.1)
    | inr e ↦
        ap (λ (b : Bool). if b then get (map_of layout z (recovered_room z rooms n)) key else get others key) e.0
        ∙ kept.here key (omega (arith, lt, e.1))
  ];
  later = λ key le. has key ∙ elim (eqb_tells (shard_of z key) n) [
    | inl e ↦ absurd (omega (arith, e.1, le))
    | inr e ↦
        ap (λ (b : Bool). if b then get (map_of layout z (recovered_room z rooms n)) key else get others key) e.0
        ∙ kept.later key (omega (arith, le))
  ];
}
