use Rattle.std.proofs.Common.{◌≡◌, ◌+◌, ◌<◌, length, List, ℕ, true, slice_index, slice_set, subst, sym, ◌∙◌, ap, arith, add-one}
use Rattle.crash_explorer.specs.Order.{Earlier, advanced, ahead}
use Rattle.crash_explorer.proofs.Advancing.{has_next, advanced_from, has_next_from, full_next, full_more, free_next, free_more, none_next, within-length, within-set, next-earlier, last-earlier, next-nearer, last-ahead}
use Rattle.crash_explorer.proofs.counts.turn.Goals as goal

pub bounds-most-i : goal.bounds-most-i
bounds-most-i c = omega (arith, within-length c.loop-i.kept c.args.most.now c.loop-i.invariant.within)

pub returns-then-kept-i-clause-within : goal.returns-then-kept-i-clause-within
returns-then-kept-i-clause-within c = within-set c.loop-i.i (slice_index c.loop-i.kept c.loop-i.i + 1) c.loop-i.kept c.args.most.now c.loop-i.invariant.within (omega (arith, c.if-kept-i.true))

pub returns-then-kept-i-clause-next : goal.returns-then-kept-i-clause-next
returns-then-kept-i-clause-next c =
    let ks = c.loop-i.kept in
    let ms = c.args.most.now in
    let i = c.loop-i.i in
    let lt : i < length ks = omega arith in
    let moved : slice_set ks i (slice_index ks i + 1) ≡ advanced c.args.kept.now ms = sym (free_next i ks ms lt c.loop-i.invariant.within c.if-kept-i.true) ∙ c.loop-i.invariant.now in
    let more : has_next c.args.kept.now ms ≡ true = sym c.loop-i.invariant.more ∙ free_more i ks ms lt c.loop-i.invariant.within c.if-kept-i.true in
    λ yes v wv e. next-earlier c.args.kept.now ms v c.requires more wv (subst (λ (xs : List ℕ). Earlier v xs) moved e)

pub returns-then-kept-i-clause-nearer : goal.returns-then-kept-i-clause-nearer
returns-then-kept-i-clause-nearer c =
    let ks = c.loop-i.kept in
    let ms = c.args.most.now in
    let i = c.loop-i.i in
    let lt : i < length ks = omega arith in
    let moved : slice_set ks i (slice_index ks i + 1) ≡ advanced c.args.kept.now ms = sym (free_next i ks ms lt c.loop-i.invariant.within c.if-kept-i.true) ∙ c.loop-i.invariant.now in
    let more : has_next c.args.kept.now ms ≡ true = sym c.loop-i.invariant.more ∙ free_more i ks ms lt c.loop-i.invariant.within c.if-kept-i.true in
    λ yes. ap (λ (xs : List ℕ). ahead xs ms + 1) moved ∙ next-nearer c.args.kept.now ms c.requires more

pub returns-then-kept-i-clause-is : goal.returns-then-kept-i-clause-is
returns-then-kept-i-clause-is c =
    let ks = c.loop-i.kept in
    let ms = c.args.most.now in
    let i = c.loop-i.i in
    let lt : i < length ks = omega arith in
    λ yes. sym (free_next i ks ms lt c.loop-i.invariant.within c.if-kept-i.true) ∙ c.loop-i.invariant.now

pub loop-i-preserved : goal.loop-i-preserved
loop-i-preserved c =
    let ks = c.loop-i.kept in
    let ms = c.args.most.now in
    let i = c.loop-i.i in
    let lt : i < length ks = omega arith in
    record {
      within = within-set i 0 ks ms c.loop-i.invariant.within (omega arith);
      now = ap (λ (n : ℕ). advanced_from n (slice_set ks i 0) ms) (add-one i) ∙ full_next i ks ms lt c.loop-i.invariant.within c.if-kept-i.false ∙ c.loop-i.invariant.now;
      more = ap (λ (n : ℕ). has_next_from n (slice_set ks i 0) ms) (add-one i) ∙ full_more i ks ms lt c.loop-i.invariant.within c.if-kept-i.false ∙ c.loop-i.invariant.more;
    }

pub returns-clause-last : goal.returns-clause-last
returns-clause-last c =
    let none = (none_next c.loop-i.i c.loop-i.kept c.args.most.now (omega arith) c.loop-i.invariant.within).1 in
    λ no v wv. last-earlier c.args.kept.now c.args.most.now v c.requires (sym c.loop-i.invariant.more ∙ none) wv

pub returns-clause-none : goal.returns-clause-none
returns-clause-none c =
    let none = (none_next c.loop-i.i c.loop-i.kept c.args.most.now (omega arith) c.loop-i.invariant.within).1 in
    λ no. last-ahead c.args.kept.now c.args.most.now c.requires (sym c.loop-i.invariant.more ∙ none)
