use Rattle.std.proofs.Common.{ℕ, ◌++◌, ◌∷◌, [], List, length, sym, ap, ◌∙◌, arith}
use Rattle.std.specs.Prelude.{vec_capacity}
use Rattle.std.specs.Global.{Vec}
use Rattle.std.proofs.lemmas.List.{take_all, length_push}
use Rattle.plain_yard.specs.Apart.{dead_from}
use Rattle.plain_yard.proofs.Apart.{dead_more, alive_more}
use Rattle.plain_yard.proofs.emptied.dead_among.Goals.{then-lock, else-lock}
use Rattle.plain_yard.proofs.emptied.dead_among.Goals as goal

pub loop-room-preserved : goal.loop-room-preserved
loop-room-preserved c = elim c.if-lock.branch [
  | then-lock w ↦ record {
    named = ap (λ (v : Vec ℕ). v.items) w.dead-is ∙ w.push_reserved.ensures.items ∙ ap (λ (ns : List ℕ). ns ++ c.loop-room.room ∷ []) c.loop-room.invariant.named
        ∙ sym (dead_more c.args.locks.now c.loop-room.room c.loop-room-test.true w.if-lock.true);
    fits = let f = c.loop-room.invariant.fits in let e = ap (λ (v : Vec ℕ). length v.items) w.dead-is ∙ ap (λ (ns : List ℕ). length ns) w.push_reserved.ensures.items ∙ length_push c.loop-room.dead.items c.loop-room.room in omega (arith, f, e);
    capacity = ap (λ (v : Vec ℕ). vec_capacity v) w.dead-is ∙ w.push_reserved.ensures.capacity ∙ c.loop-room.invariant.capacity;
  }
  | else-lock w ↦ record {
    named = ap (λ (v : Vec ℕ). v.items) w.dead-is ∙ c.loop-room.invariant.named ∙ sym (alive_more c.args.locks.now c.loop-room.room c.loop-room-test.true w.if-lock.false);
    fits = let f = c.loop-room.invariant.fits in let e = ap (λ (v : Vec ℕ). length v.items) w.dead-is in omega (arith, f, e);
    capacity = ap (λ (v : Vec ℕ). vec_capacity v) w.dead-is ∙ c.loop-room.invariant.capacity;
  }
]

pub push_reserved-requires : goal.push_reserved-requires
push_reserved-requires c = let f = c.loop-room.invariant.fits in let k = c.loop-room.invariant.capacity in let r = c.requires.room in let t = c.loop-room-test.true in let o = c.loop-room.dead.ok.0 in omega (arith, f, k, r, t, o)

pub returns-clause-items : goal.returns-clause-items
returns-clause-items c = c.loop-room.invariant.named ∙ ap (dead_from 0) (take_all c.loop-room.room c.args.locks.now c.loop-room-test.false)
