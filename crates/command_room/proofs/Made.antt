-- How far the stores of a command are made.
use Rattle.std.proofs.Common.{◌≡◌, ℕ, ◌+◌, ◌<◌, zero, suc, List, [], ◌∷◌, ◌++◌, length, take, drop, refl, arith, ap, sym, ◌∙◌, subst, append-nil}
use Rattle.std.proofs.lemmas.List.{take-append-drop}
use Rattle.line_memory.specs.Line.{bank_load}
use Rattle.room_model.specs.declared.write.PlannedStore.{PlannedStore}
use Rattle.room_model.specs.Chains.{RoomWords, with_word}
use Rattle.room_model.specs.Writes.{stored_in, AreStoresWithin}
use Rattle.room_laws.proofs.Planned.{stored-append}
use Rattle.incll_var.specs.Cells.{CellBankState, played}
use Rattle.incll_var.specs.Plans.{behind_first}
use Rattle.incll_var.proofs.Behind.{stored_loads}
use Rattle.command_room.specs.Laws.{NoneMadeLaw, OneMoreMadeLaw, AllMadeLaw}
use Rattle.planned_cells.proofs.Loads.{loads-same}

-- the law on a command that is begun
pub none_made : NoneMadeLaw
none_made s bank spare command reply same = record { loads = loads-same s.cells.bank bank same; left = refl }

-- one more of a list is taken
take-next : (n : ℕ) (ss rest : List PlannedStore) (p : PlannedStore) → drop n ss ≡ p ∷ rest → take (suc n) ss ≡ take n ss ++ p ∷ []
take-next zero [] rest p e = absurd (cc)
take-next zero (q ∷ qs) rest p e = let same : q ≡ p = cc in ap (λ (k : PlannedStore). k ∷ []) same
take-next (suc n) [] rest p e = absurd (cc)
take-next (suc n) (q ∷ qs) rest p e = ap (λ (ps : List PlannedStore). q ∷ ps) (take-next n qs rest p e)

-- one more of a list is left behind
drop-next : (n : ℕ) (ss rest : List PlannedStore) (p : PlannedStore) → drop n ss ≡ p ∷ rest → drop (suc n) ss ≡ rest
drop-next zero [] rest p e = absurd (cc)
drop-next zero (q ∷ qs) rest p e = cc
drop-next (suc n) [] rest p e = absurd (cc)
drop-next (suc n) (q ∷ qs) rest p e = drop-next n qs rest p e

-- the next store, of a list of them
one_more : (b : CellBankState) (r : RoomWords) (stores left : List PlannedStore) (n : ℕ) → AreStoresWithin (length b.bank.lines) left → 0 < length left → bank_load b.bank ≡ stored_in r (take n stores) → left ≡ drop n stores
    → (bank_load (played b left).bank ≡ stored_in r (take (suc n) stores)) × (behind_first left ≡ drop (suc n) stores)
one_more b r stores [] n placed some loads rest = absurd (omega (arith, some))
one_more b r stores (p ∷ ps) n placed some loads rest = (
  stored_loads b.bank p.line p.word p.value placed.0
      ∙ ap (λ (q : RoomWords). with_word q p.line p.word p.value) loads
      ∙ sym (stored-append r (take n stores) (p ∷ []))
      ∙ ap (stored_in r) (sym (take-next n stores ps p (sym rest))),
  sym (drop-next n stores ps p (sym rest)),
)

-- the law on one more store
pub one_more_made : OneMoreMadeLaw
one_more_made s r stores n was some made =
    let next = one_more s.cells r stores s.plan.stores n was.planned.places some made.loads made.left in
    let count : suc n ≡ n + 1 = omega arith in
    record {
      loads = subst (λ (k : ℕ). bank_load (played s.cells s.plan.stores).bank ≡ stored_in r (take k stores)) count next.0;
      left = subst (λ (k : ℕ). behind_first s.plan.stores ≡ drop k stores) count next.1;
    }

-- the law on a command whose stores are all made
pub all_made : AllMadeLaw
all_made s r stores n none made =
    let nothing : drop n stores ≡ [] = sym made.left ∙ none in
    let whole : take n stores ≡ stores = sym (append-nil (take n stores)) ∙ ap (λ (ss : List PlannedStore). take n stores ++ ss) (sym nothing) ∙ take-append-drop n stores in
    made.loads ∙ ap (stored_in r) whole
