-- The pairs of a map room, as a function of its words.
use Rattle.std.proofs.Common.{◌≡◌, ℕ, ◌<◌, ◌≤◌, ◌==◌, zero, suc, Bool, Option, Some, List, [], ◌∷◌, ◌++◌, map, length, arith, refl, ap, sym, ◌∙◌, inl, inr, if◌then◌else◌, eq-eqb}
use Rattle.std.proofs.lemmas.Bool.Decides.{eqb_tells}
use Rattle.std.proofs.lemmas.Bool.{ne_eqb}
use Rattle.std.proofs.lemmas.List.{map-append}
use Rattle.std.specs.Ordering.{nat_cmp}
use Rattle.std.specs.FinMap.{find, get-from_entries, same_map, nat_cmp-IsAntisymmetric}
use Rattle.std.proofs.lemmas.Cmp.{nat_cmp_total}
use Rattle.room_model.specs.Chains.{IsChain, RoomWords}
use Rattle.room_model.specs.MapRoom.{Layout, head, found}
use Rattle.room_model.specs.Walks.{pairs_from, pairs_below, map_of}
use Rattle.room_laws.specs.Rooms.{MapPairsLaw}
use Rattle.seq_object.proofs.Pairs.{same_test}
use Rattle.room_laws.proofs.Keys.{joined}
use Rattle.room_laws.proofs.Maps.{get_joined, chain_length}
use Rattle.seq_object.specs.declared.sizes.Sizes.{Sizes}

-- the key and the value of a line
abbrev pub pair_of : RoomWords → ℕ → ℕ × ℕ
pair_of r x = (r x 0, r x 1)

-- the walk over a chain gives its pairs
pub walked : (r : RoomWords) (fuel start : ℕ) (xs : List ℕ) → IsChain (λ x. r x 2) start xs → length xs ≤ fuel → pairs_from r fuel start ≡ map (pair_of r) xs
walked r zero start [] chain fits = refl
walked r zero start (x ∷ xs) chain fits = absurd (omega arith)
walked r (suc fuel) start [] chain fits = ap (λ (b : Bool). if b then [] else (r start 0, r start 1) ∷ pairs_from r fuel (r start 2)) (eq-eqb start 0 chain)
walked r (suc fuel) start (x ∷ xs) chain fits =
    let rest : pairs_from r fuel (r x 2) ≡ map (pair_of r) xs = walked r fuel (r x 2) xs chain.2 (omega arith) in
    ap (pairs_from r (suc fuel)) chain.0 ∙ ap (λ (b : Bool). if b then [] else (r x 0, r x 1) ∷ pairs_from r fuel (r x 2)) (ne_eqb x 0 chain.1) ∙ ap (λ (ys : List (ℕ × ℕ)). (r x 0, r x 1) ∷ ys) rest

-- the walks over all chains give the pairs of their lines
pub all_walked : (layout : Layout) (z : Sizes) (r : RoomWords) (chain : ℕ → List ℕ) (n : ℕ) → ((b : ℕ) → b < n → IsChain (λ x. r x 2) (head layout r b) (chain b)) → ((b : ℕ) → b < n → length (chain b) ≤ z.lines)
    → pairs_below layout z r n ≡ map (pair_of r) (joined chain n)
all_walked layout z r chain zero chained fits = refl
all_walked layout z r chain (suc n) chained fits =
    let front : pairs_below layout z r n ≡ map (pair_of r) (joined chain n) = all_walked layout z r chain n (λ b lt. chained b (omega arith)) (λ b lt. fits b (omega arith)) in
    let last : pairs_from r z.lines (head layout r n) ≡ map (pair_of r) (chain n) = walked r z.lines (head layout r n) (chain n) (chained n (omega arith)) (fits n (omega arith)) in
    ap (λ (es : List (ℕ × ℕ)). es ++ pairs_from r z.lines (head layout r n)) front ∙ ap (λ (es : List (ℕ × ℕ)). map (pair_of r) (joined chain n) ++ es) last ∙ sym (map-append (pair_of r) (joined chain n) (chain n))

-- a test of two numbers, turned round
turned : (a b : ℕ) → (a == b) ≡ (b == a)
turned a b = elim (eqb_tells a b) [
  | inl h ↦ h.0 ∙ sym (eq-eqb b a (sym h.1))
  | inr h ↦ h.0 ∙ sym (ne_eqb b a (λ e. h.1 (sym e)))
]

-- the pairs have what the lines have
pub find-pairs : (r : RoomWords) (key : ℕ) (xs : List ℕ) → find nat_cmp key (map (pair_of r) xs) ≡ found r key xs
find-pairs r key [] = refl
find-pairs r key (x ∷ xs) =
    let rest : find nat_cmp key (map (pair_of r) xs) ≡ found r key xs = find-pairs r key xs in
    ap (λ (b : Bool). if b then Some (r x 1) else find nat_cmp key (map (pair_of r) xs)) (same_test key (r x 0) ∙ turned key (r x 0)) ∙ ap (λ (o : Option ℕ). if r x 0 == key then Some (r x 1) else o) rest

-- the law on the pairs of a map room
pub map_pairs_law : MapPairsLaw
map_pairs_law layout z shard r pairs laid room = same_map nat_cmp_total nat_cmp-IsAntisymmetric (map_of layout z r) pairs
    (λ key. get-from_entries nat_cmp_total (pairs_below layout z r 8) key
    ∙ ap (find nat_cmp key) (all_walked layout z r room.chain 8 room.chained (λ b lt. chain_length layout z shard r pairs laid room b lt)) ∙ find-pairs r key (joined room.chain 8)
    ∙ sym (get_joined layout z shard r pairs room key))
