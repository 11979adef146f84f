-- The world at the end has the memory of the recovery: an end that is told is not in memory.
use Rattle.std.proofs.Common.{◌≡◌, ◌≢◌, ℕ, ◌+◌, ◌-◌, ◌<◌, ◌≤◌, ◌^◌, List, length, refl, sym, ap, ◌∙◌, subst, inl, inr, arith}
use Rattle.std.proofs.lemmas.Bool.{cases_lt}
use Rattle.std.proofs.lemmas.List.{ext_get_or, get_or-map, length-map}
use Rattle.line_memory.specs.Line.{BankState, no_bank, all_lines}
use Rattle.life_model.specs.Life.{Opening}
use Rattle.rooms.specs.declared.room.Room.{Room}
use Rattle.rooms.specs.declared.room.Room.TheVariants.{Map, Queue, Thread, Super}
use Rattle.rooms.specs.Rooms.{bank_of}
use Rattle.room_yard.specs.World.{memory_of}
use Rattle.recovery.specs.Restored.{no_room, room_at}
use Rattle.recovery.specs.Recovering.{RecoveryState, IsRecovery}
use Rattle.recovery.specs.Ends.{told, AreTold}
use Rattle.recovery.proofs.Endings.{few_rooms, few_lines}

told_bank : (n : ℕ) (x : Room) → bank_of (told n x) ≡ bank_of x
told_bank n (Map x) = refl
told_bank n (Queue x) = refl
told_bank n (Thread x) = refl
told_bank n (Super x) = refl

module _ (shards : ℕ) (lengths : List ℕ) (n : ℕ) (old new : List Room) (so : AreTold shards lengths n old new) where
  bank_same : (k : ℕ) → bank_of (room_at new k) ≡ bank_of (room_at old k)
  bank_same k = elim (cases_lt k (shards + 1)) [
    | inl below ↦ ap bank_of (so.others k (λ i lt same. omega (arith, below, same)))
    | inr above ↦ elim (cases_lt k (shards + 1 + n)) [
      | inl inside ↦
          let at : shards + 1 + (k - (shards + 1)) ≡ k = omega (arith, above) in
          subst (λ (j : ℕ). bank_of (room_at new j) ≡ bank_of (room_at old j)) at
          (ap bank_of (so.told_ends (k - (shards + 1)) (omega (arith, above, inside))) ∙ told_bank _ (room_at old (shards + 1 + (k - (shards + 1)))))
      | inr past ↦ ap bank_of (so.others k (λ i lt same. omega (arith, past, lt, same)))
    ]
  ]

  pub memory_told : memory_of new ≡ memory_of old
  memory_told = ext_get_or no_bank (memory_of new) (memory_of old) (length-map new bank_of ∙ so.count ∙ sym (length-map old bank_of)) (λ k lt.
      let inside : k < length new = let count = length-map new bank_of in omega (arith, lt, count) in
      let also : k < length old = let count = so.count in omega (arith, inside, count) in
      get_or-map bank_of new k no_room no_bank inside ∙ bank_same k ∙ sym (get_or-map bank_of old k no_room no_bank also))

-- it fits a memory
pub memory_fits : (o : Opening) (r : RecoveryState) (rooms : List Room) → IsRecovery o r → memory_of rooms ≡ memory_of r.rooms → (length rooms < 2 ^ 32) × (all_lines (memory_of rooms) < 2 ^ 32)
memory_fits o r rooms is same =
    let few = few_rooms o r is in
    let count : length rooms ≡ length r.rooms = sym (length-map rooms bank_of) ∙ ap (λ (bs : List BankState). length bs) same ∙ length-map r.rooms bank_of in
    (omega (arith, few, count), subst (λ (bs : List BankState). all_lines bs < 2 ^ 32) (sym same) (few_lines o r is))
