-- A run over enough rounds comes to an end.
use Rattle.std.proofs.Common.{◌≡◌, ℕ, ◌+◌, ◌*◌, ◌<◌, ◌≤◌, ◌⊎◌, ◌==◌, zero, suc, Bool, true, false, List, [], ◌∷◌, take, drop, refl, sym, ap, ◌∙◌, subst, inl, inr, arith, if◌then◌else◌}
use Rattle.std.specs.List.{Contains}
use Rattle.std.proofs.Math.Nat.{mul-le-mul_left}
use Rattle.seq_object.specs.declared.sizes.Sizes.{Sizes}
use Rattle.seq_object.specs.History.{total}
use Rattle.seq_object.proofs.Totals.{total-le}
use Rattle.seq_object.specs.Sizes.{room_count}
use Rattle.life_model.specs.Work.{NamesAll, OffersRounds}
use Rattle.life_model.specs.Work.{one_if}
use Rattle.rounds.specs.Progress.{ThreadProgress, Progress}
use Rattle.rounds.specs.Events.{MakesEvent, RestsOrWaits, Progresses}
use Rattle.rounds.specs.Sound.{IsSound, NoneTakes}
use Rattle.rounds.specs.Spent.{spent, takeless_rounds, enough_rounds, one_if_ready, one_if_was_ready, ClosesWithEntry, ClosesWithEntryOrWait}
use Rattle.rounds.specs.Laws.{EndsLaw, EndsTakesLaw, TakelessClosingsLaw, ClosingsLaw}
use Rattle.rounds.proofs.Sums.{total-const, which}
use Rattle.rounds.proofs.Spends.{spends, spent_few, one_few}
use Rattle.rounds.proofs.GoesOn.{progress}
use Rattle.rounds.proofs.Seldom.{seldom, takes, ready_few}

module _ (z : Sizes) (every : ℕ) (meets : Progress → Type 0) where
  -- a run that is over stays so
  over_stays : (s t : Progress) (turns : List ℕ) → s.shared.over ≡ true → s ≡ t → Progresses z every meets s turns t
  over_stays s t [] over same = same
  over_stays s t (i ∷ turns) over same = inl (over, same)

  -- and ends where it is
  over_ends : (s t : Progress) (turns : List ℕ) → s.shared.over ≡ true → Progresses z every meets s turns t → t.shared.over ≡ true
  over_ends s t [] over run = subst (λ (u : Progress). u.shared.over ≡ true) run over
  over_ends s t (i ∷ turns) over (inl ended) = subst (λ (u : Progress). u.shared.over ≡ true) ended.1 over
  over_ends s t (i ∷ turns) over (inr going) = let q : false ≡ true = sym going.0 ∙ over in absurd (grind arith)

  -- a run in two pieces
  split : (m : ℕ) (s t : Progress) (turns : List ℕ) → Progresses z every meets s turns t
      → (u : Progress) × Progresses z every meets s (take m turns) u × Progresses z every meets u (drop m turns) t
  split zero s t turns run = (s, refl, run)
  split (suc m) s t [] run = (s, refl, run)
  split (suc m) s t (i ∷ turns) (inl ended) = (s, inl (ended.0, refl), over_stays s t (drop m turns) ended.0 ended.1)
  split (suc m) s t (i ∷ turns) (inr (not_over, (v, turn, good, run))) =
      let rest = split m v t turns run in
      (rest.0, inr (not_over, (v, turn, good, rest.1)), rest.2)

  -- what each event keeps is kept
  along : (keeps : Progress → Type 0) → ((i : ℕ) (s t : Progress) → i < z.threads → meets s → MakesEvent z every i s t → keeps s → keeps t)
      → (s t : Progress) (turns : List ℕ) → Progresses z every meets s turns t → meets s → keeps s → meets t × keeps t
  along keeps step s t [] run good kept = subst (λ (u : Progress). meets u × keeps u) run (good, kept)
  along keeps step s t (i ∷ turns) (inl ended) good kept = subst (λ (u : Progress). meets u × keeps u) ended.1 (good, kept)
  along keeps step s t (i ∷ turns) (inr (not_over, (u, (lt, inl event), better, run))) good kept =
      along keeps step u t turns run better (step i s u lt good event kept)
  along keeps step s t (i ∷ turns) (inr (not_over, (u, (lt, inr rest), better, run))) good kept =
      along keeps step u t turns run better (subst keeps (sym rest.1) kept)

  module _ (commands : ℕ) (sound : (s : Progress) → meets s → IsSound z every commands s) where
    -- a thread is named by the first turn or by a later one
    first_or_later : (i j : ℕ) (turns : List ℕ) → Contains (i ∷ turns) j → (i ≡ j) ⊎ Contains turns j
    first_or_later i j turns (zero, lt, at) = inl at
    first_or_later i j turns (suc k, lt, at) = inr (k, omega arith, at)

    -- some turns: the run is over, or an event was made, or all that were named rested
    pass : (s t : Progress) (turns : List ℕ) → Progresses z every meets s turns t → meets s
        → (t.shared.over ≡ true) ⊎ ((spent z s + 1 ≤ spent z t) ⊎ (s ≡ t) × ((j : ℕ) → Contains turns j → RestsOrWaits z s j))
    pass s t [] run good = inr (inr (run, λ j at. absurd (omega (arith, at.1))))
    pass s t (i ∷ turns) (inl ended) good = inl (subst (λ (u : Progress). u.shared.over ≡ true) ended.1 ended.0)
    pass s t (i ∷ turns) (inr (not_over, (u, (lt, inl event), better, run))) good = by (pass u t turns run better)
      where
        more : spent z s + 1 ≤ spent z u
        more = spends z every commands i s u lt (sound s good) event

        by : (t.shared.over ≡ true) ⊎ ((spent z u + 1 ≤ spent z t) ⊎ (u ≡ t) × ((j : ℕ) → Contains turns j → RestsOrWaits z u j))
            → (t.shared.over ≡ true) ⊎ ((spent z s + 1 ≤ spent z t) ⊎ (s ≡ t) × ((j : ℕ) → Contains (i ∷ turns) j → RestsOrWaits z s j))
        by (inl over) = inl over
        by (inr (inl later)) = inr (inl (omega (arith, more, later)))
        by (inr (inr stays)) = inr (inl (let same : spent z u ≡ spent z t = ap (spent z) stays.0 in omega (arith, more, same)))
    pass s t (i ∷ turns) (inr (not_over, (u, (lt, inr rest), better, run))) good = by (pass u t turns run better)
      where
        same : spent z u ≡ spent z s
        same = ap (spent z) rest.1

        by : (t.shared.over ≡ true) ⊎ ((spent z u + 1 ≤ spent z t) ⊎ (u ≡ t) × ((j : ℕ) → Contains turns j → RestsOrWaits z u j))
            → (t.shared.over ≡ true) ⊎ ((spent z s + 1 ≤ spent z t) ⊎ (s ≡ t) × ((j : ℕ) → Contains (i ∷ turns) j → RestsOrWaits z s j))
        by (inl over) = inl over
        by (inr (inl later)) = inr (inl (omega (arith, same, later)))
        by (inr (inr stays)) = inr (inr (sym rest.1 ∙ stays.0, λ j at. named j (first_or_later i j turns at)))
          where
            named : (j : ℕ) → (i ≡ j) ⊎ Contains turns j → RestsOrWaits z s j
            named j (inl first) = subst (λ (k : ℕ). RestsOrWaits z s k) first rest.0
            named j (inr later) = subst (λ (v : Progress). RestsOrWaits z v j) rest.1 (stays.1 j later)

    -- a round: the run is over, or an event was made
    round : (s t : Progress) (turns : List ℕ) → NamesAll z.threads turns → Progresses z every meets s turns t → meets s
        → (t.shared.over ≡ true) ⊎ (spent z s + 1 ≤ spent z t)
    round s t turns names run good = by (pass s t turns run good) (which s.shared.over)
      where
        by : (t.shared.over ≡ true) ⊎ ((spent z s + 1 ≤ spent z t) ⊎ (s ≡ t) × ((j : ℕ) → Contains turns j → RestsOrWaits z s j))
            → (s.shared.over ≡ true) ⊎ (s.shared.over ≡ false) → (t.shared.over ≡ true) ⊎ (spent z s + 1 ≤ spent z t)
        by (inl over) judged = inl over
        by (inr (inl more)) judged = inr more
        by (inr (inr stays)) (inl over) = inl (over_ends s t turns over run)
        by (inr (inr stays)) (inr not_over) =
            let acts = progress z every commands s (sound s good) not_over in
            absurd (acts.2 (stays.1 acts.0 (names acts.0 acts.1)))

    -- so many rounds: the run is over, or so many events were made
    rounds : (k : ℕ) (s t : Progress) (turns : List ℕ) → OffersRounds z.threads k turns → Progresses z every meets s turns t → meets s
        → (t.shared.over ≡ true) ⊎ (spent z s + k ≤ spent z t)
    rounds zero s t turns offers run good = by (pass s t turns run good)
      where
        by : (t.shared.over ≡ true) ⊎ ((spent z s + 1 ≤ spent z t) ⊎ (s ≡ t) × ((j : ℕ) → Contains turns j → RestsOrWaits z s j))
            → (t.shared.over ≡ true) ⊎ (spent z s + 0 ≤ spent z t)
        by (inl over) = inl over
        by (inr (inl more)) = inr (omega (arith, more))
        by (inr (inr stays)) = inr (let same : spent z s ≡ spent z t = ap (spent z) stays.0 in omega (arith, same))
    rounds (suc k) s t turns (n, names, offers) run good =
        let cut = split n s t turns run in
        let better : meets cut.0 = (along (λ v. Unit {0}) (λ i v w lt m e kept. tt) s cut.0 (take n turns) cut.1 good tt).0 in
        later cut.0 cut.2 (round s cut.0 (take n turns) names cut.1 good) (rounds k cut.0 t (drop n turns) offers cut.2 better)
      where
        later : (u : Progress) → Progresses z every meets u (drop n turns) t → (u.shared.over ≡ true) ⊎ (spent z s + 1 ≤ spent z u)
            → (t.shared.over ≡ true) ⊎ (spent z u + k ≤ spent z t) → (t.shared.over ≡ true) ⊎ (spent z s + suc k ≤ spent z t)
        later u rest (inl over) behind = inl (over_ends u t (drop n turns) over rest)
        later u rest (inr more) (inl over) = inl over
        later u rest (inr more) (inr rise) = inr (omega (arith, more, rise))

    -- where the rounds are more than can be spent it is over
    ends : (k m : ℕ) (s t : Progress) (turns : List ℕ) → Progresses z every meets s turns t → meets s → OffersRounds z.threads k (drop m turns)
        → (spent z t < k) → t.shared.over ≡ true
    ends k m s t turns run good offers few = by (split m s t turns run)
      where
        by : (u : Progress) × Progresses z every meets s (take m turns) u × Progresses z every meets u (drop m turns) t → t.shared.over ≡ true
        by (u, front, rest) =
            let better : meets u = (along (λ v. Unit {0}) (λ i v w lt m e k. tt) s u (take m turns) front good tt).0 in
            judged (rounds k u t (drop m turns) offers rest better)
          where
            judged : (t.shared.over ≡ true) ⊎ (spent z u + k ≤ spent z t) → t.shared.over ≡ true
            judged (inl over) = over
            judged (inr more) = absurd (omega (arith, more, few))

-- the closings of a run without a take
takeless_kept : (z : Sizes) (every commands : ℕ) (s t : Progress) (turns : List ℕ) → 0 < every → IsSound z every commands s → NoneTakes z s → s.shared.closed ≡ 0
    → Progresses z every (λ u. IsSound z every commands u × NoneTakes z u) s turns t → IsSound z every commands t × ClosesWithEntry t
takeless_kept z every commands s t turns pos sound takeless opens run =
    let kept = along z every (λ u. IsSound z every commands u × NoneTakes z u) ClosesWithEntry
    (λ i v w lt good event once. seldom z every commands i v w lt pos good.0 good.1 event once) s t turns run (sound, takeless) (omega (arith, opens)) in
    (kept.0.0, kept.1)

pub takeless_closings : TakelessClosingsLaw
takeless_closings z every commands s t turns pos sound takeless opens run =
    let kept = takeless_kept z every commands s t turns pos sound takeless opens run in
    omega (arith, kept.1, kept.0.all_since)

pub takeless_ends : EndsLaw
takeless_ends z every commands m s t turns valid pos sound takeless opens run offers =
    ends z every (λ u. IsSound z every commands u × NoneTakes z u) commands (λ u good. good.0) (takeless_rounds z commands) m s t turns run (sound, takeless) offers few
  where
    kept : IsSound z every commands t × ClosesWithEntry t
    kept = takeless_kept z every commands s t turns pos sound takeless opens run

    few : spent z t < takeless_rounds z commands
    few =
        let epochs : (13 * z.threads + 4 * room_count z + 3) * (t.shared.closed + 1) ≤ (13 * z.threads + 4 * room_count z + 3) * (commands + 1) =
        mul-le-mul_left (13 * z.threads + 4 * room_count z + 3) (omega (arith, kept.1, kept.0.all_since, kept.0.few_entries)) in
        let rooms : (commands + 1) * (13 * z.threads + 4 * room_count z + 33) ≤ (commands + 1) * (16 * room_count z + 64) =
        mul-le-mul_left (commands + 1) (omega (arith, valid.few_threads)) in
        omega (arith, epochs, rooms, spent_few z every commands t kept.0)

-- and of one with a take
takes_kept : (z : Sizes) (every commands : ℕ) (s t : Progress) (turns : List ℕ) → 0 < every → IsSound z every commands s → s.shared.closed ≡ 0
    → Progresses z every (IsSound z every commands) s turns t → IsSound z every commands t × ClosesWithEntryOrWait z t
takes_kept z every commands s t turns pos sound opens run =
    along z every (IsSound z every commands) (ClosesWithEntryOrWait z)
    (λ i v w lt good event twice. takes z every commands i v w lt pos good event twice) s t turns run sound opening
  where
    one : (x : ThreadProgress) → one_if_was_ready s.shared.epoch s.shared.fed x ≤ 1
    one x = at (x.ran == s.shared.epoch)
      where
        at : (b : Bool) → (if b then one_if (if s.shared.fed then false else true) else one_if_ready x.end) ≤ 1
        at true = one_few (if s.shared.fed then false else true)
        at false = ready_few x.end

    opening : ClosesWithEntryOrWait z s
    opening =
        let few : total (λ i. one_if_was_ready s.shared.epoch s.shared.fed (s.threads i)) z.threads ≤ total (λ i. 1) z.threads =
        total-le (λ i. one_if_was_ready s.shared.epoch s.shared.fed (s.threads i)) (λ i. 1) z.threads (λ i lt. one (s.threads i)) in
        omega (arith, few, opens, total-const 1 z.threads)

pub closings : ClosingsLaw
closings z every commands s t turns pos sound opens run =
    let kept = takes_kept z every commands s t turns pos sound opens run in
    omega (arith, kept.1, kept.0.all_since)

pub takes_ends : EndsTakesLaw
takes_ends z every commands m s t turns valid pos sound opens run offers =
    ends z every (IsSound z every commands) commands (λ u good. good) (enough_rounds z commands) m s t turns run sound offers few
  where
    kept : IsSound z every commands t × ClosesWithEntryOrWait z t
    kept = takes_kept z every commands s t turns pos sound opens run

    few : spent z t < enough_rounds z commands
    few =
        let epochs : (13 * z.threads + 4 * room_count z + 3) * (t.shared.closed + 1) ≤ (13 * z.threads + 4 * room_count z + 3) * (2 * commands + z.threads + 1) =
        mul-le-mul_left (13 * z.threads + 4 * room_count z + 3) (omega (arith, kept.1, kept.0.all_since, kept.0.few_entries)) in
        let rooms : (2 * commands + z.threads + 1) * (13 * z.threads + 4 * room_count z + 33) ≤ (2 * commands + z.threads + 1) * (16 * room_count z + 64) =
        mul-le-mul_left (2 * commands + z.threads + 1) (omega (arith, valid.few_threads)) in
        omega (arith, epochs, rooms, spent_few z every commands t kept.0)
