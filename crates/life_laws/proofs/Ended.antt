-- Marks that end a life.
use Rattle.std.proofs.Common.{◌≡◌, ◌≢◌, ℕ, ◌+◌, ◌<◌, ◌⊎◌, zero, suc, List, [], ◌∷◌, ◌++◌, length, take, refl, sym, ap, ◌∙◌, subst, inl, inr, ⊎_elim, arith}
use Rattle.std.proofs.lemmas.List.{take-append-le}
use Rattle.std.proofs.Math.Seq.{take-length}
use Rattle.seq_object.specs.declared.history.Entry.{Entry}
use Rattle.life_model.specs.declared.life.Life.{Life}
use Rattle.life_model.specs.declared.life.Life.TheVariants.{Start, Resume}
use Rattle.life_model.specs.Life.{Opening, next_command, covered, IsPause, entries_between, IsStretch, closings}
use Rattle.life_laws.specs.LifeLaws.{MayMarkLaw, MarkedLaw, SavedDrawLaw}
use Rattle.life_laws.specs.EndLaws.{FinishedMarkLaw, StalledMarkLaw}
use Rattle.life_laws.proofs.Steps.{last-push, last_within}

-- a thread that has spent its quota, or pauses with some left, has come to a stretch's end
pub may_mark : MayMarkLaw
may_mark o h marks since thread =
    let count = entries_between h (covered marks) (length h) thread in
    ⊎_elim
    (λ (none : count ≡ 0). inl none)
    (λ (some : (quota : ℕ) × (count + quota ≡ o.settings.every) × ((quota ≡ 0) ⊎ IsPause (next_command o h thread))). ⊎_elim
    (λ (spent : some.0 ≡ 0). inr (inl (omega (arith, some.1, spent))))
    (λ (pause : IsPause (next_command o h thread)). elim_quota some.0 some.1
    (subst (λ (es : List Entry). IsPause (next_command o es thread)) (sym (take-length h)) pause))
    some.2)
    (since thread)
  where
    elim_quota : (quota : ℕ) → entries_between h (covered marks) (length h) thread + quota ≡ o.settings.every
        → IsPause (next_command o (take (length h) h) thread) → IsStretch o h (covered marks) (length h) thread
    elim_quota zero sum pause = inr (inl (omega (arith, sum)))
    elim_quota (suc quota) sum pause = inr (inr (omega (arith, sum), pause))

-- a list with something behind it is not empty
pushed : (marks : List ℕ) (m : ℕ) → marks ++ m ∷ [] ≢ []
pushed [] m e = absurd (cc)
pushed (k ∷ ks) m e = absurd (cc)

-- the mark that is pushed saves all
pub finished_mark : FinishedMarkLaw
finished_mark o h marks used = (used, inl (pushed marks (length h), last-push 0 marks (length h)))

-- a mark that is pushed is one more
longer : (marks : List ℕ) (m : ℕ) → length (marks ++ m ∷ []) ≡ length marks + 1
longer [] m = refl
longer (k ∷ ks) m = let rest = longer ks m in omega (arith, rest)

-- behind recovery's mark a mark is of a closing
closed : (life : Life) (o : Opening) (marks : List ℕ) (m : ℕ) → (life ≡ Resume → marks ≢ []) → 0 < closings (record o { life = life }) (marks ++ m ∷ [])
closed Start o marks m some = omega (arith, longer marks m)
closed Resume o [] m some = absurd (some refl refl)
closed Resume o (k ∷ ks) m some = omega (arith, longer ks m)

-- what a mark of all entries says of the marks
pub marked : MarkedLaw
marked o h marks = record {
  last = last-push 0 marks (length h);
  all = ap (λ (n : ℕ). take n h) (last-push 0 marks (length h)) ∙ take-length h;
  epoch = omega (arith, longer marks (length h));
  closed = λ recovered. one_closing o.life marks (length h) recovered;
}
  where
    one_closing : (life : Life) (marks : List ℕ) (m : ℕ) → (life ≡ Resume → marks ≢ [])
        → closings (record o { life = life }) (marks ++ m ∷ []) ≡ closings (record o { life = life }) marks + 1
    one_closing Start marks m some = longer marks m
    one_closing Resume [] m some = absurd (some refl refl)
    one_closing Resume (k ∷ ks) m some = omega (arith, longer ks m)

-- what was covered is a prefix of what was drawn
pub saved_draw : SavedDrawLaw
saved_draw o h marks e order = take-append-le (covered marks) h (e ∷ []) (last_within 0 marks (length h) order.rising)

-- the mark that is pushed is of a closing, and saves all
pub stalled_mark : StalledMarkLaw
stalled_mark o h marks waiting recovered ends waits empty = record {
  closed = closed o.life o marks (length h) recovered;
  all = last-push 0 marks (length h);
  ends = ends;
  waiting = waiting;
  waits = waits;
  empty = empty;
}
