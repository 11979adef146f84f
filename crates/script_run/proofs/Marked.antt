-- The marks that are told are those of the checkpoints, behind one checkpoint more too.
use Rattle.std.proofs.Common.{◌≡◌, ℕ, suc, ◌+◌, Bool, List, [], ◌∷◌, ◌++◌, length, refl, ap, ◌∙◌, arith}
use Rattle.std.proofs.lemmas.List.{map-append, length-append}
use Rattle.life_model.specs.declared.life.Mark.{Mark}
use Rattle.life_model.specs.Life.{marks_from, reported}
use Rattle.yard_model.specs.declared.view.Beginning.{Beginning}
use Rattle.yard_model.specs.declared.view.Checkpoint.{Checkpoint}
use Rattle.yard_model.specs.Beginnings.{opening_of, marks_of, recovery_marks, lengths_of, epoch_now}
use Rattle.yard_model.specs.Steps.{checkpoint_at}

-- one more of a list is one more mark, of the epoch behind theirs
marks_from_more : (e : ℕ) (l : List ℕ) (n : ℕ) → marks_from e (l ++ n ∷ []) ≡ marks_from e l ++ record { epoch = e + length l; length = n } ∷ []
marks_from_more e [] n = let same : e ≡ e + 0 = omega arith in ap (λ (k : ℕ). record { epoch = k; length = n } ∷ []) same
marks_from_more e (m ∷ l) n =
    let same : suc e + length l ≡ e + suc (length l) = omega arith in
    ap (λ (ms : List Mark). record { epoch = e; length = m } ∷ ms) (marks_from_more (suc e) l n
    ∙ ap (λ (k : ℕ). marks_from (suc e) l ++ record { epoch = k; length = n } ∷ []) same)

append_twice : (r l m : List ℕ) → r ++ (l ++ m) ≡ (r ++ l) ++ m
append_twice [] l m = refl
append_twice (n ∷ r) l m = ap (λ (k : List ℕ). n ∷ k) (append_twice r l m)

-- one checkpoint more is one length more
marks_of_more : (b : Beginning) (cs : List Checkpoint) (n : ℕ) (over : Bool) → marks_of b (cs ++ checkpoint_at n over ∷ []) ≡ marks_of b cs ++ n ∷ []
marks_of_more b cs n over =
    ap (λ (l : List ℕ). recovery_marks b.life ++ l) (map-append (λ (m : Checkpoint). m.length) cs (checkpoint_at n over ∷ []))
    ∙ append_twice (recovery_marks b.life) (lengths_of cs) (n ∷ [])

length_map : (cs : List Checkpoint) → length (lengths_of cs) ≡ length cs
length_map [] = refl
length_map (c ∷ cs) = ap suc (length_map cs)

-- and one mark more, which is this one where it began the next epoch
pub reported_more : (b : Beginning) (cs : List Checkpoint) (mark : Mark) (over : Bool) → mark.epoch ≡ epoch_now b cs + 1
    → reported (opening_of b) (marks_of b (cs ++ checkpoint_at mark.length over ∷ [])) ≡ reported (opening_of b) (marks_of b cs) ++ mark ∷ []
reported_more b cs mark over epoch =
    let lengths = length-append (recovery_marks b.life) (lengths_of cs) in
    let number = length_map cs in
    let same : b.epoch + 1 + length (marks_of b cs) ≡ mark.epoch = omega (arith, lengths, number, epoch) in
    ap (marks_from (b.epoch + 1)) (marks_of_more b cs mark.length over)
    ∙ (marks_from_more (b.epoch + 1) (marks_of b cs) mark.length
    ∙ ap (λ (k : ℕ). marks_from (b.epoch + 1) (marks_of b cs) ++ record { epoch = k; length = mark.length } ∷ []) same)
