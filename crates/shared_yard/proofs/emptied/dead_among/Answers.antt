use Rattle.std.proofs.Common.{ℕ, ◌+◌, List, length, sym, ap, ◌∙◌, subst, arith}
use Rattle.std.specs.Prelude.{vec_capacity, slice_index}
use Rattle.std.specs.Slots.{slots_items}
use Rattle.std.specs.Global.{Vec}
use Rattle.std.proofs.lemmas.List.{length_push}
use Rattle.shared_yard.specs.Endings.{AreDeadBelow}
use Rattle.shared_yard.proofs.Emptying.{index_is}
use Rattle.shared_yard.proofs.Endings.{dead_more, alive_more}
use Rattle.shared_yard.proofs.emptied.dead_among.Goals.{then-word, else-word}
use Rattle.shared_yard.proofs.emptied.dead_among.Goals as goal

pub loop-room-preserved : goal.loop-room-preserved
loop-room-preserved c = elim c.if-word.branch [
  | then-word w ↦ record {
    named = subst (AreDeadBelow _ _) (sym (ap (λ (v : Vec ℕ). v.items) w.dead-is ∙ w.push_reserved.ensures.items))
        (dead_more _ _ _ c.loop-room.invariant.named (index_is (slots_items c.args.closed.now.words) (3 + c.loop-room.room) 0 c.word.result c.word.ensures ∙ w.if-word.true));
    fits = let f = c.loop-room.invariant.fits in let e = ap (λ (v : Vec ℕ). length v.items) w.dead-is ∙ ap (λ (ns : List ℕ). length ns) w.push_reserved.ensures.items ∙ length_push c.loop-room.dead.items c.loop-room.room in omega (arith, f, e);
    capacity = ap (λ (v : Vec ℕ). vec_capacity v) w.dead-is ∙ w.push_reserved.ensures.capacity ∙ c.loop-room.invariant.capacity;
  }
  | else-word w ↦ record {
    named = subst (AreDeadBelow _ _) (sym (ap (λ (v : Vec ℕ). v.items) w.dead-is))
        (alive_more _ _ _ c.loop-room.invariant.named (λ e. w.if-word.false (sym (index_is (slots_items c.args.closed.now.words) (3 + c.loop-room.room) 0 c.word.result c.word.ensures) ∙ e)));
    fits = let f = c.loop-room.invariant.fits in let e = ap (λ (v : Vec ℕ). length v.items) w.dead-is in omega (arith, f, e);
    capacity = ap (λ (v : Vec ℕ). vec_capacity v) w.dead-is ∙ c.loop-room.invariant.capacity;
  }
]

pub returns-clause-items : goal.returns-clause-items
returns-clause-items c = let a = c.loop-room.auto.room-end in let b = c.loop-room-test.false in let n = c.slot_count-room-end.ensures in
    subst (λ (n : ℕ). AreDeadBelow n (λ r. slice_index (slots_items c.args.closed.now.words) (3 + r)) c.loop-room.dead.items) (omega (arith, a, b, n)) c.loop-room.invariant.named
