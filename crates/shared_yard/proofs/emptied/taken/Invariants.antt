use Rattle.std.proofs.Common.{◌≡◌, ◌≤◌, ◌<◌, ℕ, true, false, length, take}
use Rattle.std.specs.Prelude.{vec_capacity, option_to_list, slice_index_or}
use Rattle.std.specs.List.{flat_map}
use Rattle.std.specs.Slots.{slots_items, slots_filled, slots_len}
use Rattle.shared_yard.proofs.emptied.taken.Given as goal

abbrev pub invariant-loop-slot : goal.invariant-loop-slot
invariant-loop-slot l = record {
  items : slots_items l.closed.slots ≡ slots_items l.initial.closed.slots;
  count : slots_len l.closed.slots ≡ slots_len l.initial.closed.slots;
  made : l.gathered.items ≡ flat_map option_to_list (take l.slot (slots_items l.closed.slots));
  few : length l.gathered.items ≤ l.slot;
  capacity : vec_capacity l.gathered ≡ vec_capacity l.fn.rooms;
  emptied : (k : ℕ) → k < l.slot → slice_index_or (slots_filled l.closed.slots) k false ≡ false;
  full : (k : ℕ) → l.slot ≤ k → k < slots_len l.closed.slots → slice_index_or (slots_filled l.closed.slots) k false ≡ true;
}
