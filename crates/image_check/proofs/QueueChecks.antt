-- The queue room has no fault exactly where it is a queue room.
use Rattle.std.proofs.Common.{◌≡◌, ℕ, ◌+◌, ◌-◌, ◌<◌, ◌≤◌, ◌≢◌, ◌==◌, ◌&&◌, ◌||◌, nat_le, Bool, true, false, Option, Some, None, List, [], ◌∷◌, map, length, arith, refl, ap, sym, ◌∙◌, subst, inl, inr, if◌then◌else◌, eq-eqb}
use Rattle.std.proofs.lemmas.Bool.Decides.{eqb_tells, nat_tests}
use Rattle.room_model.specs.Chains.{RoomWords, times, is_node}
use Rattle.room_model.specs.QueueRoom.{IsQueueRoom}
use Rattle.room_laws.specs.Stocks.{HeaderSays}
use Rattle.room_laws.proofs.Stock.{stock_size}
use Rattle.room_laws.proofs.Queues.{stock_of_queue}
use Rattle.room_laws.proofs.QueueLaws.{queue_items_law}
use Rattle.room_laws.proofs.StockLaws.{queue_header_law}
use Rattle.image_check.specs.declared.room_fault.RoomFault.{RoomFault}
use Rattle.image_check.specs.declared.room_fault.RoomFault.TheVariants.{BadHeader, BadChain, BadEnds, BadFreeList, BadCount}
use Rattle.image_check.specs.Meeting.{latest, is_new}
use Rattle.image_check.specs.QueueFaults.{header_of, is_header, met_free, fault_of_free, met_queue, fault_of_queue}
use Rattle.image_check.specs.Laws.{QueueSoundLaw, QueueCompleteLaw}
use Rattle.image_check.proofs.MetLines.{false_true, behind, AllMay, IsMet, met_tells, met_chain, behind_keeps, times-behind, length-behind, latest-behind, AreNodes, nodes_more, all_new, all_nodes}
use Rattle.seq_object.specs.declared.sizes.Sizes.{Sizes}

abbrev is_some : Option RoomFault → Type 0
is_some None = ⊥
is_some (Some f) = Unit {0}

pub some_fault : (f : RoomFault) → Some f ≡ None → ⊥
some_fault f e = subst is_some e tt

-- a test that has no fault is true
pub no_fault : (b : Bool) (o : Option RoomFault) (f : RoomFault) → (if b then o else Some f) ≡ None → (b ≡ true) × (o ≡ None)
no_fault true o f h = (refl, h)
no_fault false o f h = absurd (some_fault f h)

pub both : (a b : Bool) → a && b ≡ true → (a ≡ true) × (b ≡ true)
both true b h = (refl, h)
both false b h = absurd (false_true h)

pub same_number : (a b : ℕ) → (a == b) ≡ true → a ≡ b
same_number a b h = elim (eqb_tells a b) [ inl e ↦ e.1 | inr e ↦ absurd (false_true (sym e.0 ∙ h)) ]

-- a header in range
pub header_tells : (first : ℕ) (z : Sizes) (r : RoomWords) → is_header first z (header_of r) ≡ true → (first ≤ r 0 1) × (r 0 1 ≤ z.lines)
header_tells first z r h = of (r 0 0) (r 0 1) (r 0 2) h
  where
    of : (free fresh count : ℕ) → nat_le first fresh && nat_le fresh z.lines && ((free == 0) || is_node first fresh free) && nat_le count (fresh - first) ≡ true → (first ≤ fresh) × (fresh ≤ z.lines)
    of free fresh count g = grind (arith, nat_tests)

pub header_is : (first : ℕ) (z : Sizes) (held : ℕ) (r : RoomWords) → first ≤ r 0 1 → HeaderSays first z held r → is_header first z (header_of r) ≡ true
header_is first z held r low says = of (r 0 0) (r 0 1) (r 0 2) low says.fresh_fits says.free_low says.free_high (let a = says.count in let b = says.held_fits in omega (arith, a, b))
  where
    of : (free fresh count : ℕ) → first ≤ fresh → fresh ≤ z.lines → (free ≢ 0 → first ≤ free) → (free ≢ 0 → free < fresh) → count + first ≤ fresh
        → nat_le first fresh && nat_le fresh z.lines && ((free == 0) || is_node first fresh free) && nat_le count (fresh - first) ≡ true
    of free fresh count a b c d e = grind (arith, nat_tests)

-- what a free list without a fault says
pub record HasNoFreeFault (first : ℕ) (r : RoomWords) (held : ℕ) (o : Option (List ℕ)) : Type 0 where
  pub all : List ℕ
  pub is : o ≡ Some all
  pub count : r 0 2 ≡ held
  pub size : length all + first ≡ r 0 1

pub free_tells : (first : ℕ) (r : RoomWords) (held : ℕ) (o : Option (List ℕ)) → fault_of_free first r held o ≡ None → HasNoFreeFault first r held o
free_tells first r held None h = absurd (some_fault BadFreeList h)
free_tells first r held (Some all) h =
    let tests = both (r 0 2 == held) (length all + first == r 0 1) (no_fault ((r 0 2 == held) && (length all + first == r 0 1)) None BadCount h).0 in
    record { all = all; is = refl; count = same_number (r 0 2) held tests.0; size = same_number (length all + first) (r 0 1) tests.1 }

record HasNoChainFault (z : Sizes) (r : RoomWords) (o : Option (List ℕ)) : Type 0 where
  pub met : List ℕ
  pub is : o ≡ Some met
  pub last : r 1 1 ≡ latest met
  pub rest : fault_of_free 2 r (length met) (met_free 2 z r met) ≡ None

chain_tells : (z : Sizes) (r : RoomWords) (o : Option (List ℕ)) → fault_of_queue z r o ≡ None → HasNoChainFault z r o
chain_tells z r None h = absurd (some_fault BadChain h)
chain_tells z r (Some met) h =
    let test = no_fault (r 1 1 == latest met) (fault_of_free 2 r (length met) (met_free 2 z r met)) BadEnds h in
    record { met = met; is = refl; last = same_number (r 1 1) (latest met) test.0; rest = test.1 }

no_lines : (first fresh : ℕ) → AreNodes first fresh []
no_lines first fresh x = omega arith

-- the room that two walks met
room_met : (z : Sizes) (r : RoomWords) (met all : List ℕ) → 2 ≤ r 0 1 → r 0 1 ≤ z.lines → r 1 1 ≡ latest met → r 0 2 ≡ length met → length all + 2 ≡ r 0 1
    → (held : IsMet (λ x. r x 1) (is_new 2 (r 0 1)) [] z.lines (r 1 0) met) → IsMet (λ x. r x 0) (is_new 2 (r 0 1)) met z.lines (r 0 0) all → IsQueueRoom z r (map (λ x. r x 0) held.chain)
room_met z r met all low high last count size held free =
    let chain = held.chain in
    let times_met : (x : ℕ) → times x met ≡ times x chain + times x [] = λ x. ap (λ (ys : List ℕ). times x ys) held.all_is ∙ times-behind x [] chain in
    let times_all : (x : ℕ) → times x all ≡ times x free.chain + times x met = λ x. ap (λ (ys : List ℕ). times x ys) free.all_is ∙ times-behind x met free.chain in
    let met_size : length met ≡ length chain + 0 = ap (λ (ys : List ℕ). length ys) held.all_is ∙ length-behind [] chain in
    let all_size : length all ≡ length free.chain + length met = ap (λ (ys : List ℕ). length ys) free.all_is ∙ length-behind met free.chain in
    let keeps : (xs : List ℕ) (y : ℕ) → is_new 2 (r 0 1) xs y ≡ true → AreNodes 2 (r 0 1) xs → AreNodes 2 (r 0 1) (y ∷ xs) = λ xs y. nodes_more 2 (r 0 1) xs y in
    let nodes_met : AreNodes 2 (r 0 1) met = subst (AreNodes 2 (r 0 1)) (sym held.all_is) (behind_keeps (AreNodes 2 (r 0 1)) (is_new 2 (r 0 1)) keeps [] chain held.may_be (no_lines 2 (r 0 1))) in
    let nodes_all : AreNodes 2 (r 0 1) all = subst (AreNodes 2 (r 0 1)) (sym free.all_is) (behind_keeps (AreNodes 2 (r 0 1)) (is_new 2 (r 0 1)) keeps met free.chain free.may_be nodes_met) in
    record {
      chain = chain;
      free = free.chain;
      low = low;
      high = high;
      chained = held.chained;
      last = last ∙ ap (λ (ys : List ℕ). latest ys) held.all_is ∙ latest-behind [] chain;
      freed = free.chained;
      each = λ x. (let a = times_met x in let b = times_all x in omega (arith, a, b)) ∙ all_nodes 2 (r 0 1) all low nodes_all size x;
      count = omega (arith, count, met_size);
      listed = refl;
    }

pub queue_sound_law : QueueSoundLaw
queue_sound_law z r h =
    let test = no_fault (is_header 2 z (header_of r)) (fault_of_queue z r (met_queue z r)) BadHeader h in
    let header = header_tells 2 z r test.0 in
    let held = chain_tells z r (met_queue z r) test.1 in
    let free = free_tells 2 r (length held.met) (met_free 2 z r held.met) held.rest in
    let chain = met_tells (λ x. r x 1) (is_new 2 (r 0 1)) [] z.lines (r 1 0) held.met held.is in
    let free_chain = met_tells (λ x. r x 0) (is_new 2 (r 0 1)) held.met z.lines (r 0 0) free.all free.is in
    let room = room_met z r held.met free.all header.0 header.1 held.last free.count free.size chain free_chain in
    subst (IsQueueRoom z r) (sym (queue_items_law z r (map (λ x. r x 0) chain.chain) room)) room

pub queue_complete_law : QueueCompleteLaw
queue_complete_law z r items room =
    let chain = room.chain in
    let met = behind [] chain in
    let size = stock_size 2 z chain room.free r (stock_of_queue z r items room) in
    let high = room.high in
    let header = header_is 2 z (length items) r room.low (queue_header_law z r items room) in
    let each : (x : ℕ) → times x chain + times x room.free ≡ (if is_node 2 (r 0 1) x then 1 else 0) = room.each in
    let may_chain : AllMay (is_new 2 (r 0 1)) [] chain = all_new 2 (r 0 1) [] chain (λ x. let a = each x in omega (arith, a)) in
    let may_free : AllMay (is_new 2 (r 0 1)) met room.free = all_new 2 (r 0 1) met room.free (λ x. let a = each x in let b = times-behind x [] chain in omega (arith, a, b)) in
    let held : met_queue z r ≡ Some met = met_chain (λ x. r x 1) (is_new 2 (r 0 1)) [] z.lines (r 1 0) chain room.chained may_chain (omega (arith, size, high)) in
    let free : met_free 2 z r met ≡ Some (behind met room.free) = met_chain (λ x. r x 0) (is_new 2 (r 0 1)) met z.lines (r 0 0) room.free room.freed may_free (omega (arith, size, high)) in
    let last : (r 1 1 == latest met) ≡ true = eq-eqb (r 1 1) (latest met) (room.last ∙ sym (latest-behind [] chain)) in
    let met_size = length-behind [] chain in
    let all_size = length-behind met room.free in
    let count_is = room.count in
    let count : (r 0 2 == length met) ≡ true = eq-eqb (r 0 2) (length met) (omega (arith, count_is, met_size)) in
    let sum : (length (behind met room.free) + 2 == r 0 1) ≡ true = eq-eqb (length (behind met room.free) + 2) (r 0 1) (omega (arith, met_size, all_size, size)) in
    ap (λ (b : Bool). if b then fault_of_queue z r (met_queue z r) else Some BadHeader) header
    ∙ ap (fault_of_queue z r) held
    ∙ ap (λ (b : Bool). if b then fault_of_free 2 r (length met) (met_free 2 z r met) else Some BadEnds) last
    ∙ ap (fault_of_free 2 r (length met)) free
    ∙ ap (λ (b : Bool). if b && (length (behind met room.free) + 2 == r 0 1) then None else Some BadCount) count
    ∙ ap (λ (b : Bool). if b then None else Some BadCount) sum
