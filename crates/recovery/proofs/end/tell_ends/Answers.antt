use Rattle.std.proofs.Common.{◌≡◌, ◌&&◌, Bool, true, false, ◌+◌, ◌<◌, ◌∙◌, ℕ, length, get_or, arith, ap, sym, subst, refl}
use Rattle.std.proofs.lemmas.List.{get_or_default}
use Rattle.recovery.specs.Restored.{no_room, room_at}
use Rattle.recovery.specs.Ends.{MayBeTold, told, is_at_end, are_at_end}
use Rattle.recovery.proofs.Endings.{none_told, not_yet, one_more, one_end_more}
use Rattle.recovery.proofs.end.tell_ends.Goals as goal
use Rattle.recovery.proofs.end.tell_ends.Goals.{then-tell_end, else-tell_end}

pub loop-thread-init : goal.loop-thread-init
loop-thread-init c = record { told = none_told c.args.shards c.args.lengths.now c.args.rooms.now.items; over = refl }

pub tell_end-requires : goal.tell_end-requires
tell_end-requires c =
    let n = c.loop-thread.thread in
    let place : ℕ = c.args.shards + 1 + n in
    let same = c.loop-thread.invariant.told.count in
    let lt : place < length c.args.rooms.now.items = omega (arith, c.requires.within, c.loop-thread-test.true) in
    let here : room_at c.loop-thread.rooms.items place ≡ c.index_mut.result.now = get_or_default c.loop-thread.rooms.items place no_room c.index_mut.result.now (omega (arith, lt, same)) ∙ sym c.index_mut.ensures.value in
    subst MayBeTold (sym (not_yet c.args.shards c.args.lengths.now n c.args.rooms.now.items c.loop-thread.rooms.items c.loop-thread.invariant.told) ∙ here) (c.requires.rooms place lt)

-- a test of two, by the first
both_true : (first second both all : Bool) → first ≡ true → both ≡ second → (first && second) ≡ all → both ≡ all
both_true true second both all is same more = same ∙ more
both_true false second both all is same more = absurd (cc)

first_false : (first second both all : Bool) → first ≡ false → both ≡ false → (first && second) ≡ all → both ≡ all
first_false true second both all is same more = absurd (cc)
first_false false second both all is same more = same ∙ more

pub loop-thread-preserved : goal.loop-thread-preserved
loop-thread-preserved c =
    let n = c.loop-thread.thread in
    let place : ℕ = c.args.shards + 1 + n in
    let same = c.loop-thread.invariant.told.count in
    let lt : place < length c.loop-thread.rooms.items = omega (arith, c.requires.within, c.loop-thread-test.true, same) in
    let here : room_at c.loop-thread.rooms.items place ≡ c.index_mut.result.now = get_or_default c.loop-thread.rooms.items place no_room c.index_mut.result.now lt ∙ sym c.index_mut.ensures.value in
    let this : c.tell_end.result ≡ is_at_end (get_or c.args.lengths.now n 0) c.index_mut.result.now = c.tell_end.ensures.at_end ∙ ap (λ (k : ℕ). is_at_end k c.index_mut.result.now) c.from.ensures in
    let more : (c.tell_end.result && c.loop-thread.over) ≡ are_at_end c.args.shards c.args.lengths.now c.args.rooms.now.items (n + 1) =
    one_end_more c.args.shards c.args.lengths.now n c.args.rooms.now.items c.loop-thread.rooms.items c.index_mut.result.now c.tell_end.result c.loop-thread.over c.loop-thread.invariant.told here this c.loop-thread.invariant.over in
    record {
      told = one_more c.args.shards c.args.lengths.now n c.args.rooms.now.items c.loop-thread.rooms.items c.tell_end.new.room lt c.loop-thread.invariant.told
          (c.tell_end.ensures.is ∙ ap (λ (k : ℕ). told k c.index_mut.result.now) c.from.ensures ∙ ap (told (get_or c.args.lengths.now n 0)) (sym here));
      over = elim c.if-tell_end.branch [
        | then-tell_end w ↦ both_true c.tell_end.result c.loop-thread.over c.if-tell_end.over (are_at_end c.args.shards c.args.lengths.now c.args.rooms.now.items (n + 1)) w.if-tell_end.true w.over-is more
        | else-tell_end w ↦ first_false c.tell_end.result c.loop-thread.over c.if-tell_end.over (are_at_end c.args.shards c.args.lengths.now c.args.rooms.now.items (n + 1)) w.if-tell_end.false (w.over-is ∙ w.if-tell_end.false) more
      ];
    }
