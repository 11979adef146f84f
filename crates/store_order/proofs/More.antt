use Rattle.std.proofs.Common.{◌≡◌, ℕ, ◌+◌, zero, suc, List, [], ◌∷◌, Some, take, set, ap, sym, ◌∙◌, slice_get, add-one}
use Rattle.line_memory.specs.Line.{LineState, applied, survivor}
use Rattle.line_memory.specs.declared.store.Store.{Store}

-- one more store is made
applied-take_more : (ws : List ℕ) (ss : List Store) (k : ℕ) (s : Store) → slice_get ss k ≡ Some s → applied ws (take (suc k) ss) ≡ set (applied ws (take k ss)) s.word s.value
applied-take_more ws [] k s h = cc
applied-take_more ws (t ∷ ss) zero s h = let same : t ≡ s = cc in ap (λ (u : Store). set ws u.word u.value) same
applied-take_more ws (t ∷ ss) (suc k) s h = applied-take_more (set ws t.word t.value) ss k s h

-- a line that keeps one more store
pub left-more : (l : LineState) (k word value : ℕ) (words : List ℕ) → slice_get l.pending k ≡ Some (record { word = word; value = value }) → words ≡ survivor l k → set words word value ≡ survivor l (k + 1)
left-more l k word value words h is =
    ap (λ (ws : List ℕ). set ws word value) is ∙ sym (applied-take_more l.base l.pending k (record { word = word; value = value }) h) ∙ ap (λ (n : ℕ). survivor l n) (sym (add-one k))
