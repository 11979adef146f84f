use Rattle.std.proofs.Common.{arith, ◌≡◌, ℕ, ◌<◌, ◌++◌, List, [], ◌∷◌, length, sym, ap, ◌∙◌, subst, None}
use Rattle.std.proofs.lemmas.List.{length_push}
use mathlib.Core.Option.{some}
use lib.ListN.{get_elem?}
use Rattle.restart_point.specs.declared.thread_end.ThreadEnd.TheVariants.{Ready}
use Rattle.yard_model.specs.Opens.{opening_view}
use Rattle.room_yard.specs.Calls.{MayTryLeave}
use Rattle.shared_yard.specs.declared.known.Known.{Known}
use Rattle.shared_yard.specs.declared.seat.YardSeat.{YardSeat}
use Rattle.shared_yard.specs.declared.yard.SharedYard.{SharedYard}
use Rattle.shared_yard.specs.Seats.{known_at, IsSeatOf, AreOpeningSeats}
use Rattle.shared_yard.proofs.tests.apart.Goals as goal

two : (l m k : List YardSeat) (a b : YardSeat) → l ≡ m ++ b ∷ [] → m ≡ k ++ a ∷ [] → length l ≡ 2 → l ≡ a ∷ b ∷ []
two l m [] a b e f n = e ∙ ap (λ (m : List YardSeat). m ++ b ∷ []) f
two l m (x ∷ k) a b e f n = let p = ap (λ (l : List YardSeat). length l) e ∙ length_push m b in let q = ap (λ (m : List YardSeat). length m) f ∙ length_push (x ∷ k) a in absurd (omega (arith, n, p, q))

-- what is known of the seat at a place
of_seat : (y : SharedYard) (l : List YardSeat) (i : ℕ) (s : YardSeat) → AreOpeningSeats y l → ((i : ℕ) → i < 2 → MayTryLeave (opening_view y.beginning i) Ready) → i < 2 → get_elem? l i ≡ some s
    → (IsSeatOf y s × MayTryLeave (known_at s).view Ready × ((known_at s).view.grip ≡ None)) × ((known_at s).view.thread ≡ i)
of_seat y l i s are may lt at = let is = are.each i s at in (
  (is.0, subst (λ (k : Known). MayTryLeave k.view Ready) (sym is.1) (may i lt), ap (λ (k : Known). k.view.grip) is.1),
  ap (λ (k : Known). k.view.thread) is.1,
)

pub returns-clause-first : goal.returns-clause-first
returns-clause-first c = let l = two c.args.seats.items _ _ c.in-Some-pop.first c.in-Some.second c.in-Some.ensures.items c.in-Some-pop.ensures.items (c.requires.seats.number ∙ c.requires.threads) in
    (of_seat c.args.yard.now c.args.seats.items 0 c.in-Some-pop.first c.requires.seats c.requires.may (omega arith) (ap (λ (l : List YardSeat). get_elem? l 0) l)).0

pub returns-clause-second : goal.returns-clause-second
returns-clause-second c = let l = two c.args.seats.items _ _ c.in-Some-pop.first c.in-Some.second c.in-Some.ensures.items c.in-Some-pop.ensures.items (c.requires.seats.number ∙ c.requires.threads) in
    (of_seat c.args.yard.now c.args.seats.items 1 c.in-Some.second c.requires.seats c.requires.may (omega arith) (ap (λ (l : List YardSeat). get_elem? l 1) l)).0

pub returns-clause-threads : goal.returns-clause-threads
returns-clause-threads c = let l = two c.args.seats.items _ _ c.in-Some-pop.first c.in-Some.second c.in-Some.ensures.items c.in-Some-pop.ensures.items (c.requires.seats.number ∙ c.requires.threads) in (
  (of_seat c.args.yard.now c.args.seats.items 0 c.in-Some-pop.first c.requires.seats c.requires.may (omega arith) (ap (λ (l : List YardSeat). get_elem? l 0) l)).1,
  (of_seat c.args.yard.now c.args.seats.items 1 c.in-Some.second c.requires.seats c.requires.may (omega arith) (ap (λ (l : List YardSeat). get_elem? l 1) l)).1,
)
