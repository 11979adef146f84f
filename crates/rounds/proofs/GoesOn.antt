-- Where a life is not over, some thread's turn makes an event.
use Rattle.std.proofs.Common.{◌≡◌, ℕ, ◌<◌, ◌⊎◌, ◌||◌, Bool, true, false, sym, ap, ◌∙◌, inl, inr, arith, if◌then◌else◌}
use Rattle.std.proofs.lemmas.Bool.Decides.{eqb_tells}
use Rattle.restart_point.specs.declared.thread_end.ThreadEnd.{ThreadEnd}
use Rattle.restart_point.specs.declared.thread_end.ThreadEnd.TheVariants.{Ended}
use Rattle.block_allow.specs.Verdicts.{leaves}
use Rattle.yard_model.specs.Knows.{stands, is_closing}
use Rattle.rounds.specs.Progress.{Activity, phase_of, is_holding, AtPoint, EmptyHanded, OnCommand, OnDrawn, OnEmptyQueue, OnOwnRoom, OnClosing}
use Rattle.rounds.specs.Events.{MayNotLeave, MayNotClaim, RestsOrWaits}
use Rattle.rounds.specs.Laws.{ProgressLaw}
use Rattle.rounds.proofs.Sums.{some_below}

-- a thread that has a room in its hand, or closes
abbrev is_busy : Activity → Bool
is_busy d = is_closing (phase_of d) || is_holding d

-- it neither stands nor is free
busy_acts : (d : Activity) → is_busy d ≡ true → (d ≡ AtPoint) ⊎ (d ≡ EmptyHanded) → ⊥
busy_acts d busy (inl e) = let q : false ≡ true = sym (ap is_busy e) ∙ busy in cc
busy_acts d busy (inr e) = let q : false ≡ true = sym (ap is_busy e) ∙ busy in cc

-- one that is not busy is no closer and holds nothing
not_closer : (d : Activity) → is_busy d ≡ false → is_closing (phase_of d) ≡ true → ⊥
not_closer AtPoint free closes = cc
not_closer EmptyHanded free closes = cc
not_closer (OnCommand n) free closes = cc
not_closer OnDrawn free closes = cc
not_closer OnEmptyQueue free closes = cc
not_closer (OnOwnRoom n) free closes = cc
not_closer (OnClosing r k) free closes = cc

not_holding : (d : Activity) → is_busy d ≡ false → is_holding d ≡ true → ⊥
not_holding AtPoint free holds = cc
not_holding EmptyHanded free holds = cc
not_holding (OnCommand n) free holds = cc
not_holding OnDrawn free holds = cc
not_holding OnEmptyQueue free holds = cc
not_holding (OnOwnRoom n) free holds = cc
not_holding (OnClosing r k) free holds = cc

-- a thread that does not stand runs
abbrev is_running : Activity → Bool
is_running d = if stands (phase_of d) then false else true

pub progress : ProgressLaw
progress z every commands s sound not_over = elim (some_below (λ i. is_busy (s.threads i).activity) z.threads) [
  | inl busy ↦ (
    busy.0,
    busy.1,
    λ rests. elim rests [
      | inl r ↦ busy_acts (s.threads busy.0).activity busy.2 (inl r.0)
      | inr r ↦ busy_acts (s.threads busy.0).activity busy.2 (inr r.0)
    ],
  )
  | inr none ↦ elim (some_below (λ i. is_running (s.threads i).activity) z.threads) [
    | inl runs ↦ (
      runs.0,
      runs.1,
      λ rests. elim rests [
        | inl r ↦ let q : false ≡ true = sym (ap is_running r.0) ∙ runs.2 in absurd (grind arith)
        | inr r ↦ not_holding (s.threads r.1.0).activity (none r.1.0 r.1.1) r.1.2
      ],
    )
    | inr stand ↦ all_stand none stand (sound.goes_on not_over)
  ]
]
  where
    nobody_closes : ((j : ℕ) → j < z.threads → is_busy (s.threads j).activity ≡ false) → (j : ℕ) × (j < z.threads) × (is_closing (phase_of (s.threads j).activity) ≡ true) → ⊥
    nobody_closes none c = not_closer (s.threads c.0).activity (none c.0 c.1) c.2

    shows_over : s.shared.over ≡ true → ⊥
    shows_over over = let q : false ≡ true = sym not_over ∙ over in grind arith

    runs_none : (d : Activity) → is_running d ≡ false → stands (phase_of d) ≡ false → ⊥
    runs_none AtPoint a b = cc
    runs_none EmptyHanded a b = cc
    runs_none (OnCommand n) a b = cc
    runs_none OnDrawn a b = cc
    runs_none OnEmptyQueue a b = cc
    runs_none (OnOwnRoom n) a b = cc
    runs_none (OnClosing r k) a b = cc

    claims : ((j : ℕ) → j < z.threads → is_busy (s.threads j).activity ≡ false) → ((j : ℕ) → j < z.threads → is_running (s.threads j).activity ≡ false)
        → (i : ℕ) → (s.threads i).ran ≡ s.shared.epoch → MayNotClaim z s i → ⊥
    claims none stand i ran (inl c) = runs_none (s.threads c.0).activity (stand c.0 c.1) c.2
    claims none stand i ran (inr (inl c)) = nobody_closes none c
    claims none stand i ran (inr (inr (inl c))) = shows_over c
    claims none stand i ran (inr (inr (inr c))) = c (sym ran)

    ended_stays : (end : ThreadEnd) (fed : Bool) → end ≡ Ended → leaves end fed ≡ true → ⊥
    ended_stays end fed e may = let q : false ≡ true = sym (ap (λ (x : ThreadEnd). leaves x fed) e) ∙ may in grind arith

    leaving : ((j : ℕ) → j < z.threads → is_busy (s.threads j).activity ≡ false) → (i : ℕ) → (s.threads i).ran < s.shared.epoch → leaves (s.threads i).end s.shared.fed ≡ true → MayNotLeave z s i → ⊥
    leaving none i earlier may (inl c) = ended_stays (s.threads i).end s.shared.fed c may
    leaving none i earlier may (inr (inl c)) = nobody_closes none c
    leaving none i earlier may (inr (inr (inl c))) = shows_over c
    leaving none i earlier may (inr (inr (inr (inl c)))) = omega (arith, c, earlier)
    leaving none i earlier may (inr (inr (inr (inr c)))) = let q : false ≡ true = sym c ∙ may in grind arith

    holds_none : ((j : ℕ) → j < z.threads → is_busy (s.threads j).activity ≡ false) → (j : ℕ) × (j < z.threads) × (is_holding (s.threads j).activity ≡ true) → ⊥
    holds_none none c = not_holding (s.threads c.0).activity (none c.0 c.1) c.2

    all_stand : ((j : ℕ) → j < z.threads → is_busy (s.threads j).activity ≡ false) → ((j : ℕ) → j < z.threads → is_running (s.threads j).activity ≡ false)
        → (i : ℕ) × (i < z.threads) × (((s.threads i).ran ≡ s.shared.epoch) ⊎ (leaves (s.threads i).end s.shared.fed ≡ true))
        → (i : ℕ) × (i < z.threads) × (RestsOrWaits z s i → ⊥)
    all_stand none stand (i, lt, inl ran) = (
      i,
      lt,
      λ rests. elim rests [
        | inl r ↦ claims none stand i ran r.2
        | inr r ↦ holds_none none r.1
      ],
    )
    all_stand none stand (i, lt, inr may) = (
      i,
      lt,
      λ rests. elim rests [
        | inl r ↦ elim (eqb_tells (s.threads i).ran s.shared.epoch) [
          | inl same ↦ claims none stand i same.1 r.2
          | inr apart ↦ leaving none i (omega (arith, apart.1, sound.no_later i lt)) may r.1
        ]
        | inr r ↦ holds_none none r.1
      ],
    )
