-- Lists of released checkpoints, and ends of threads.
use Rattle.std.proofs.Common.{◌≡◌, ℕ, zero, suc, ◌<◌, ◌≤◌, ◌||◌, not, cond, Bool, true, false, List, [], ◌∷◌, ◌++◌, length, sym, refl, ap, ◌∙◌, subst, arith, Some}
use Rattle.std.proofs.lemmas.Bool.{ne_eqb}
use Rattle.std.specs.Prelude.{slice_get}
use Rattle.std.specs.List.{All, list_any}
use Rattle.std.proofs.lemmas.List.Elements.{All-head, All-tail}
use Rattle.seq_object.specs.declared.history.Entry.{Entry}
use Rattle.seq_object.specs.declared.command.Command.{Command}
use Rattle.seq_object.specs.declared.command.Command.TheVariants.{Take}
use Rattle.seq_object.specs.Object.{IsTakeless}
use Rattle.seq_object.specs.History.{of_thread}
use Rattle.life_model.specs.declared.life.Life.{Life}
use Rattle.life_model.specs.declared.life.Life.TheVariants.{Start, Resume}
use Rattle.life_model.specs.Life.{last_mark}
use Rattle.restart_point.specs.declared.thread_end.ThreadEnd.{ThreadEnd}
use Rattle.block_allow.specs.Verdicts.{leaves}
use Rattle.yard_model.specs.declared.view.Beginning.{Beginning}
use Rattle.yard_model.specs.declared.view.Checkpoint.{Checkpoint}
use Rattle.yard_model.specs.Beginnings.{recovery_marks, lengths_of, marks_of, covered_by, over_from, OnlyLastIsOver}

-- a checkpoint at the end is the last one
last_from : (low : ℕ) (cs : List Checkpoint) (m : Checkpoint) → last_mark low (lengths_of (cs ++ m ∷ [])) ≡ m.length
last_from low [] m = refl
last_from low (x ∷ cs) m = last_from x.length cs m

pub last_append : (cs : List Checkpoint) (m : Checkpoint) → covered_by (cs ++ m ∷ []) ≡ m.length
last_append cs m = last_from 0 cs m

lengths_append : (cs : List Checkpoint) (m : Checkpoint) → lengths_of (cs ++ m ∷ []) ≡ lengths_of cs ++ m.length ∷ []
lengths_append [] m = refl
lengths_append (x ∷ cs) m = ap (λ (ns : List ℕ). x.length ∷ ns) (lengths_append cs m)

pub marks_append : (b : Beginning) (cs : List Checkpoint) (m : Checkpoint) → marks_of b (cs ++ m ∷ []) ≡ marks_of b cs ++ m.length ∷ []
marks_append b cs m = by b.life
  where
    by : (life : Life) → recovery_marks life ++ lengths_of (cs ++ m ∷ []) ≡ (recovery_marks life ++ lengths_of cs) ++ m.length ∷ []
    by Start = lengths_append cs m
    by Resume = ap (λ (ns : List ℕ). 0 ∷ ns) (lengths_append cs m)

pub over_append : (over : Bool) (cs : List Checkpoint) (m : Checkpoint) → over_from over (cs ++ m ∷ []) ≡ m.over
over_append over [] m = refl
over_append over (x ∷ cs) m = over_append x.over cs m

pub only_append : (over : Bool) (cs : List Checkpoint) (m : Checkpoint) → OnlyLastIsOver cs → over_from over cs ≡ false → OnlyLastIsOver (cs ++ m ∷ [])
only_append over [] m only last = tt
only_append over (x ∷ []) m only last = (last, tt)
only_append over (x ∷ y ∷ cs) m only last = (only.0, only_append x.over (y ∷ cs) m only.1 last)

-- where none may leave, this one may not
pub none_of : (es : List ThreadEnd) (fed : Bool) (k : ℕ) (x : ThreadEnd) → not (list_any (λ (end : ThreadEnd). leaves end fed) es) ≡ true → slice_get es k ≡ Some x → leaves x fed ≡ false
none_of [] fed k x none f = absurd (cc)
none_of (y ∷ es) fed zero x none f = first (leaves y fed) refl none
  where
    first : (c : Bool) → leaves y fed ≡ c → not (c || list_any (λ (end : ThreadEnd). leaves end fed) es) ≡ true → leaves x fed ≡ false
    first true e n = absurd (cc)
    first false e n = let s : y ≡ x = cc in ap (λ (z : ThreadEnd). leaves z fed) (sym s) ∙ e
none_of (y ∷ es) fed (suc k) x none f = rest (leaves y fed) (λ n. none_of es fed k x n f) none
  where
    rest : (c : Bool) → (not (list_any (λ (end : ThreadEnd). leaves end fed) es) ≡ true → leaves x fed ≡ false) → not (c || list_any (λ (end : ThreadEnd). leaves end fed) es) ≡ true → leaves x fed ≡ false
    rest true later n = absurd (cc)
    rest false later n = later n

pub all_of : (es : List ThreadEnd) (fed : Bool) → ((k : ℕ) (x : ThreadEnd) → k < length es → slice_get es k ≡ Some x → leaves x fed ≡ false) → not (list_any (λ (end : ThreadEnd). leaves end fed) es) ≡ true
all_of [] fed each = refl
all_of (y ∷ es) fed each = ap (λ (c : Bool). not (c || list_any (λ (end : ThreadEnd). leaves end fed) es)) (each 0 y (omega arith) refl) ∙ all_of es fed (λ k x lt f. each (suc k) x (omega (arith, lt)) f)

-- a thread past the last has no entry
pub past_none : (n k : ℕ) (h : List Entry) → All (λ (e : Entry). e.thread < n) h → n ≤ k → length (of_thread k h) ≡ 0
past_none n k [] known le = refl
past_none n k (e ∷ h) known le = let lt = All-head (λ (e : Entry). e.thread < n) e h known in
    ap (λ (c : Bool). length (cond c (e ∷ of_thread k h) (of_thread k h))) (ne_eqb e.thread k (λ q. omega (arith, lt, le, q)))
    ∙ past_none n k h (All-tail (λ (e : Entry). e.thread < n) e h known) le

-- a script without a take has none at any place
pub no_take_at : (script : List Command) (k : ℕ) → All IsTakeless script → slice_get script k ≡ Some Take → ⊥
no_take_at [] k all e = absurd (cc)
no_take_at (c ∷ cs) zero all e = let same : c ≡ Take = cc in subst IsTakeless same (All-head IsTakeless c cs all)
no_take_at (c ∷ cs) (suc k) all e = no_take_at cs k (All-tail IsTakeless c cs all) e
