-- The pairs of a map room, listed by walks.
use Rattle.std.proofs.Common.{◌≡◌, ◌≢◌, ℕ, ◌+◌, ◌-◌, ◌<◌, ◌≤◌, ◌==◌, zero, suc, Bool, cond, Option, Some, None, List, [], ◌∷◌, ◌++◌, map, length, arith, add-one, refl, sym, ap, ◌∙◌, subst, inl, inr, if◌then◌else◌, eq-eqb}
use Rattle.std.proofs.lemmas.Bool.Decides.{eqb_tells}
use Rattle.std.proofs.lemmas.Bool.{ne_eqb}
use Rattle.std.specs.Ordering.{nat_cmp}
use Rattle.std.specs.FinMap.{get, insert, empty, get-empty}
use Rattle.seq_object.specs.Object.{Pairs}
use Rattle.seq_object.proofs.Pairs.{got_put, one_map}
use Rattle.room_model.specs.Chains.{RoomWords, IsChain, times}
use Rattle.room_model.specs.MapRoom.{Layout, IsLayout, head, found, IsMapRoom}
use Rattle.room_model.specs.Walks.{IsWalk, pairs_from, pairs_below}
use Rattle.room_laws.proofs.Lists.{times-here}
use Rattle.room_laws.proofs.Keys.{joined, or_else, found-here, found-there, HaveOwnKeys, apart-joined}
use Rattle.room_laws.proofs.Maps.{get_joined, chain_length, chain_node}
use Rattle.room_laws.proofs.Pairs.{pair_of, all_walked}
use Rattle.locked_map.specs.Listing.{with_all, AreWalks}
use Rattle.seq_object.specs.declared.sizes.Sizes.{Sizes}

-- pairs put in in two pieces
pub with_all-append : (pairs : Pairs) (es fs : List (ℕ × ℕ)) → with_all pairs (es ++ fs) ≡ with_all (with_all pairs es) fs
with_all-append pairs [] fs = refl
with_all-append pairs (e ∷ es) fs = with_all-append (insert pairs e.0 e.1) es fs

-- what is left of a walk gives what the whole gives
pub record IsAdding (r : RoomWords) (lines first : ℕ) (before pairs : Pairs) (left line : ℕ) : Type 0 where
  pub all : with_all pairs (pairs_from r left line) ≡ with_all before (pairs_from r lines first)
  pub walk : IsWalk r lines left line

-- the walk has come to its end
pub at_end : (r : RoomWords) (lines first : ℕ) (before pairs : Pairs) (left line : ℕ) → left ≡ 0 → IsAdding r lines first before pairs left line → pairs ≡ with_all before (pairs_from r lines first)
at_end r lines first before pairs left line none h = subst (λ (n : ℕ). with_all pairs (pairs_from r n line) ≡ with_all before (pairs_from r lines first)) none h.all

-- the chain has come to its end
pub at_zero : (r : RoomWords) (lines first : ℕ) (before pairs : Pairs) (left line : ℕ) → line ≡ 0 → IsAdding r lines first before pairs left line → pairs ≡ with_all before (pairs_from r lines first)
at_zero r lines first before pairs zero line none h = h.all
at_zero r lines first before pairs (suc m) line none h =
    sym (ap (λ (b : Bool). with_all pairs (if b then [] else (r line 0, r line 1) ∷ pairs_from r m (r line 2))) (eq-eqb line 0 none)) ∙ h.all

-- one pair more
pub further : (r : RoomWords) (lines first : ℕ) (before pairs : Pairs) (left line : ℕ) → 0 < left → line ≢ 0 → IsAdding r lines first before pairs left line
    → IsAdding r lines first before (insert pairs (r line 0) (r line 1)) (left - 1) (r line 2)
further r lines first before pairs zero line pos some h = absurd (omega arith)
further r lines first before pairs (suc m) line pos some h =
    let less : m ≡ suc m - 1 = omega arith in
    subst (λ (k : ℕ). IsAdding r lines first before (insert pairs (r line 0) (r line 1)) k (r line 2)) less (record {
      all = sym (ap (λ (b : Bool). with_all pairs (if b then [] else (r line 0, r line 1) ∷ pairs_from r m (r line 2))) (ne_eqb line 0 some)) ∙ h.all;
      walk = (h.walk some).1;
    })

-- the pairs of one bucket more
pub one_chain_more : (layout : Layout) (z : Sizes) (r : RoomWords) (lines b first : ℕ) (was pairs : Pairs) → z.lines ≡ lines → b < 8 → first ≡ head layout r b → AreWalks layout lines r
    → was ≡ with_all empty (pairs_below layout z r b) → (IsWalk r lines lines first → pairs ≡ with_all was (pairs_from r lines first)) → pairs ≡ with_all empty (pairs_below layout z r (b + 1))
one_chain_more layout z r lines b first was pairs same lt is all had added =
    let walk : IsWalk r lines lines first = subst (λ (line : ℕ). IsWalk r lines lines line) (sym is) (all b lt) in
    added walk ∙ ap (λ (p : Pairs). with_all p (pairs_from r lines first)) had ∙ ap (λ (k : ℕ). with_all (with_all empty (pairs_below layout z r b)) (pairs_from r k first)) (sym same)
    ∙ ap (λ (line : ℕ). with_all (with_all empty (pairs_below layout z r b)) (pairs_from r z.lines line)) is
    ∙ sym (with_all-append empty (pairs_below layout z r b) (pairs_from r z.lines (head layout r b))) ∙ ap (λ (k : ℕ). with_all empty (pairs_below layout z r k)) (sym (add-one b))

-- lines whose keys are each their own, put in one after the other: at a key stands what the lines have, or else what stood there
got_all : (r : RoomWords) (xs : List ℕ) (pairs : Pairs) (q : ℕ) → HaveOwnKeys r xs → get (with_all pairs (map (pair_of r) xs)) q ≡ or_else (found r q xs) (get pairs q)
got_all r [] pairs q own = refl
got_all r (x ∷ xs) pairs q own =
    let rest : get (with_all (insert pairs (r x 0) (r x 1)) (map (pair_of r) xs)) q ≡ or_else (found r q xs) (get (insert pairs (r x 0) (r x 1)) q) = got_all r xs (insert pairs (r x 0) (r x 1)) q own.1 in
    let put : get (insert pairs (r x 0) (r x 1)) q ≡ cond (q == r x 0) (Some (r x 1)) (get pairs q) = got_put pairs (r x 0) (r x 1) q in
    rest ∙ ap (or_else (found r q xs)) put ∙ elim (eqb_tells q (r x 0)) [
      | inl h ↦
          ap (λ (b : Bool). or_else (found r q xs) (cond b (Some (r x 1)) (get pairs q))) h.0
          ∙ ap (λ (o : Option ℕ). or_else o (Some (r x 1))) (ap (λ (k : ℕ). found r k xs) h.1 ∙ own.0)
          ∙ sym (ap (λ (o : Option ℕ). or_else o (get pairs q)) (found-here r q x xs (sym h.1)))
      | inr h ↦
          ap (λ (b : Bool). or_else (found r q xs) (cond b (Some (r x 1)) (get pairs q))) h.0
          ∙ sym (ap (λ (o : Option ℕ). or_else o (get pairs q)) (found-there r q x xs (λ e. h.1 (sym e))))
    ]

-- a walk over a chain of the room's lines stays in the room, and ends
walk : (r : RoomWords) (lines fuel start : ℕ) (xs : List ℕ) → IsChain (λ x. r x 2) start xs → ((x : ℕ) → 0 < times x xs → x < lines) → length xs ≤ fuel → IsWalk r lines fuel start
walk r lines zero start [] chain within fits = chain
walk r lines zero start (x ∷ xs) chain within fits = absurd (omega arith)
walk r lines (suc fuel) start [] chain within fits = λ some. absurd (some chain)
walk r lines (suc fuel) start (x ∷ xs) chain within fits =
    let here = times-here x xs in
    let lt : x < lines = within x (omega (arith, here)) in
    let rest : IsWalk r lines fuel (r x 2) = walk r lines fuel (r x 2) xs chain.2 (λ y t. within y (omega arith)) (omega arith) in
    subst (λ (s : ℕ). s ≢ 0 → (s < lines) × IsWalk r lines fuel (r s 2)) (sym chain.0) (λ some. (lt, rest))

-- the walks from the heads of a map room
pub walks : (layout : Layout) (z : Sizes) (shard : ℕ) (r : RoomWords) (pairs : Pairs) → IsLayout layout → IsMapRoom layout z shard r pairs → AreWalks layout z.lines r
walks layout z shard r pairs laid room b below =
    let high = room.high in
    walk r z.lines z.lines (head layout r b) (room.chain b) (room.chained b below) (λ x t. let n = (chain_node layout z shard r pairs room b x below t).1 in omega (arith, n, high))
    (chain_length layout z shard r pairs laid room b below)

-- the pairs that the walks meet, put in one after the other, are those of the room
pub all_pairs : (layout : Layout) (z : Sizes) (shard : ℕ) (r : RoomWords) (pairs : Pairs) → IsLayout layout → IsMapRoom layout z shard r pairs → with_all empty (pairs_below layout z r 8) ≡ pairs
all_pairs layout z shard r pairs laid room = one_map (with_all empty (pairs_below layout z r 8)) pairs (λ q.
    ap (λ (es : List (ℕ × ℕ)). get (with_all empty es) q) (all_walked layout z r room.chain 8 room.chained (λ b lt. chain_length layout z shard r pairs laid room b lt))
    ∙ got_all r (joined room.chain 8) empty q (apart-joined r z shard room.chain 8 room.keys)
    ∙ ap (or_else (found r q (joined room.chain 8))) (get-empty nat_cmp q) ∙ plain (found r q (joined room.chain 8))
    ∙ sym (get_joined layout z shard r pairs room q))
  where
    plain : (o : Option ℕ) → or_else o None ≡ o
    plain (Some v) = refl
    plain None = refl

-- a walk that meets no more has come to its end
pub at_stop : (r : RoomWords) (lines first : ℕ) (before pairs : Pairs) (left line : ℕ) → (line ≢ 0 → left ≡ 0) → IsAdding r lines first before pairs left line → pairs ≡ with_all before (pairs_from r lines first)
at_stop r lines first before pairs left zero ends h = at_zero r lines first before pairs left 0 refl h
at_stop r lines first before pairs left (suc k) ends h = at_end r lines first before pairs left (suc k) (ends (λ (e : suc k ≡ 0). omega (arith, e))) h
