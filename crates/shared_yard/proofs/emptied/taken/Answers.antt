use Rattle.std.proofs.Common.{◌≡◌, ◌+◌, ◌∷◌, ◌++◌, ◌<◌, [], Bool, false, List, length, take, sym, ap, ◌∙◌, arith, Option, Some}
use Rattle.std.specs.Prelude.{vec_capacity, option_to_list, slice_index_or}
use Rattle.std.specs.List.{flat_map}
use Rattle.std.specs.Slots.{slots_items, slots_filled, slots_len}
use Rattle.std.specs.Mem.Slots.{slots_counts}
use Rattle.std.specs.Global.{Vec}
use Rattle.std.proofs.lemmas.List.{length_push}
use mathlib.Core.Option.{some}
use Rattle.rooms.specs.declared.room.Room.{Room}
use Rattle.shared_yard.proofs.Emptying.{emptied_more, full_still, gathered_more, gathered_none}
use Rattle.shared_yard.proofs.emptied.taken.Goals.{in-Some, in_default}
use Rattle.shared_yard.proofs.emptied.taken.Goals as goal

pub loop-slot-preserved : goal.loop-slot-preserved
loop-slot-preserved c = let inv = c.loop-slot.invariant in let l = c.loop-slot in
    let counts = (slots_counts l.closed.slots).1 in let t = c.loop-slot-test.true in let n = c.slot_count-slot-end.ensures in let count = inv.count in
    let inside : l.slot < slots_len l.closed.slots = omega (arith, t, n, count) in
    let items : slots_items c.take.new.self.slots ≡ slots_items l.closed.slots = c.take.ensures.others.0 in
    let same : flat_map option_to_list (take (l.slot + 1) (slots_items l.closed.slots)) ≡ flat_map option_to_list (take (l.slot + 1) (slots_items c.take.new.self.slots)) = ap (λ (xs : List (Option Room)). flat_map option_to_list (take (l.slot + 1) xs)) (sym items) in
    elim c.match-take.branch [
      | in-Some w ↦ record {
        items = items ∙ inv.items;
        count = c.take.ensures.others.2 ∙ inv.count;
        made = (ap (λ (v : Vec Room). v.items) w.gathered-is ∙ w.push_reserved.ensures.items) ∙ ap (λ (xs : List Room). xs ++ w.in-Some.room ∷ []) inv.made
            ∙ sym (gathered_more (slots_items l.closed.slots) l.slot (Some w.in-Some.room) (c.take.ensures.value ∙ ap some w.in-Some.is)) ∙ same;
        few = let f = inv.few in let e = ap (λ (v : Vec Room). length v.items) w.gathered-is ∙ ap (λ (xs : List Room). length xs) w.push_reserved.ensures.items ∙ length_push l.gathered.items w.in-Some.room in omega (arith, f, e);
        capacity = ap (λ (v : Vec Room). vec_capacity v) w.gathered-is ∙ w.push_reserved.ensures.capacity ∙ inv.capacity;
        emptied = λ k lt. ap (λ (fs : List Bool). slice_index_or fs k false) c.take.ensures.others.1 ∙ emptied_more (slots_filled l.closed.slots) l.slot (slots_len l.closed.slots) counts inside inv.emptied k lt;
        full = λ k le lt. ap (λ (fs : List Bool). slice_index_or fs k false) c.take.ensures.others.1 ∙ full_still (slots_filled l.closed.slots) l.slot (slots_len l.closed.slots) counts inside inv.full k le (let e = c.take.ensures.others.2 in omega (arith, lt, e));
      }
      | in_default w ↦ record {
        items = items ∙ inv.items;
        count = c.take.ensures.others.2 ∙ inv.count;
        made = ap (λ (v : Vec Room). v.items) w.gathered-is ∙ inv.made ∙ sym (gathered_none (slots_items l.closed.slots) l.slot c.take.result w.in_default.not-Some c.take.ensures.value) ∙ same;
        few = let f = inv.few in let e = ap (λ (v : Vec Room). length v.items) w.gathered-is in omega (arith, f, e);
        capacity = ap (λ (v : Vec Room). vec_capacity v) w.gathered-is ∙ inv.capacity;
        emptied = λ k lt. ap (λ (fs : List Bool). slice_index_or fs k false) c.take.ensures.others.1 ∙ emptied_more (slots_filled l.closed.slots) l.slot (slots_len l.closed.slots) counts inside inv.emptied k lt;
        full = λ k le lt. ap (λ (fs : List Bool). slice_index_or fs k false) c.take.ensures.others.1 ∙ full_still (slots_filled l.closed.slots) l.slot (slots_len l.closed.slots) counts inside inv.full k le (let e = c.take.ensures.others.2 in omega (arith, lt, e));
      }
    ]
