-- A life closes seldom.
use Rattle.std.proofs.Common.{◌≡◌, ◌≢◌, ℕ, ◌+◌, ◌-◌, ◌<◌, ◌≤◌, ◌⊎◌, zero, suc, Bool, true, false, Some, refl, sym, ap, ◌∙◌, inl, inr, arith, eq-eqb, if◌then◌else◌}
use Rattle.std.proofs.lemmas.Bool.{ne_eqb}
use Rattle.std.proofs.lemmas.Bool.Decides.{eqb_tells}
use Rattle.seq_object.specs.declared.command.Command.TheVariants.{Take}
use Rattle.seq_object.specs.declared.sizes.Sizes.{Sizes}
use Rattle.seq_object.specs.History.{total}
use Rattle.seq_object.proofs.Totals.{total-le, total-same}
use Rattle.seq_object.specs.Sizes.{room_count}
use Rattle.life_model.specs.Work.{one_if}
use Rattle.restart_point.specs.declared.thread_end.ThreadEnd.{ThreadEnd}
use Rattle.restart_point.specs.declared.thread_end.ThreadEnd.TheVariants.{Ready, Waits, Ended}
use Rattle.block_allow.specs.Verdicts.{leaves}
use Rattle.yard_model.specs.Knows.{stands, is_closing, HasCause}
use Rattle.rounds.specs.Progress.{Activity, ThreadProgress, SharedProgress, Progress, phase_of, drawn_since, AtPoint, EmptyHanded, OnOwnRoom, OnClosing}
use Rattle.rounds.specs.Events.{ThreadEvent, MayHappen, ThreadBehind, shared_behind, LeavesPoint, BeginsOwnRoom, UnlocksOwn, ReleasesEpoch}
use Rattle.rounds.specs.Sound.{IsSound, NoneTakes}
use Rattle.rounds.specs.Spent.{one_if_ready, one_if_was_ready, ClosesWithEntryOrWait}
use Rattle.rounds.specs.Laws.{SeldomLaw, TakesLaw}
use Rattle.rounds.proofs.Sums.{total-add, total-moved, total-has, total-lt, which}
use Rattle.rounds.proofs.Spends.{is_release, still}

-- none, or some
some_or_none : (n : ℕ) → (n ≡ 0) ⊎ (0 < n)
some_or_none zero = inl refl
some_or_none (suc n) = inr (omega arith)

-- the entries of a thread that ran in this epoch
since_here : (every epoch : ℕ) (x : ThreadProgress) → x.ran ≡ epoch → drawn_since every epoch x ≡ every - x.quota
since_here every epoch x ran = ap (λ (b : Bool). if b then every - x.quota else 0) (eq-eqb x.ran epoch ran)

module _ (z : Sizes) (every commands : ℕ) (s : Progress) (pos : 0 < every) (sound : IsSound z every commands s) (i : ℕ) (lt : i < z.threads)
    (closes : (s.threads i).activity ≡ OnClosing (room_count z) 0) where
  -- the closer ran in this epoch
  ran_here : (s.threads i).ran ≡ s.shared.epoch
  ran_here = sound.runs i lt (λ q. closes_stands (sym closes ∙ q))
    where
      closes_stands : OnClosing (room_count z) 0 ≡ AtPoint → ⊥
      closes_stands q = grind arith

  -- without an entry it found the queue empty
  found_nothing : drawn_since every s.shared.epoch (s.threads i) ≡ 0 → ((s.threads i).next ≡ Some Take) × ((s.threads i).found_empty ≡ true)
  found_nothing none = by (sound.cause i lt (ap (λ (d : Activity). stands (phase_of d)) closes) ran_here)
    where
      by : HasCause (s.threads i).quota (s.threads i).found_empty (s.threads i).next → ((s.threads i).next ≡ Some Take) × ((s.threads i).found_empty ≡ true)
      by (inl spent) = absurd (omega (arith, pos, none, spent, since_here every s.shared.epoch (s.threads i) ran_here))
      by (inr (inl used)) = absurd (sound.has_next i lt ran_here none used)
      by (inr (inr found)) = found

  -- so there is an entry where no thread takes
  takeless_entry : NoneTakes z s → s.shared.covered < s.shared.entries
  takeless_entry takeless = by (some_or_none (drawn_since every s.shared.epoch (s.threads i)))
    where
      by : (drawn_since every s.shared.epoch (s.threads i) ≡ 0) ⊎ (0 < drawn_since every s.shared.epoch (s.threads i)) → s.shared.covered < s.shared.entries
      by (inl none) = absurd (takeless i lt Take (found_nothing none).0)
      by (inr some) = omega (arith, some, sound.all_since, total-has (λ j. drawn_since every s.shared.epoch (s.threads j)) i z.threads lt)

pub seldom : SeldomLaw
seldom z every commands i s t lt pos sound takeless made once = by_event made.event made.may made.shared
  where
    quiet : (e : ThreadEvent) → is_release e ≡ false → t.shared ≡ shared_behind e s.shared → t.shared.closed ≤ t.shared.covered
    quiet e not_release shared =
        let rests = still e s.shared not_release in
        let closed : t.shared.closed ≡ s.shared.closed = ap (λ (a : SharedProgress). a.closed) shared ∙ rests.1 in
        let covered : t.shared.covered ≡ s.shared.covered = ap (λ (a : SharedProgress). a.covered) shared ∙ rests.2 in
        omega (arith, once, closed, covered)

    by_event : (e : ThreadEvent) → MayHappen z e s.shared (s.threads i) → t.shared ≡ shared_behind e s.shared → t.shared.closed ≤ t.shared.covered
    by_event (ReleasesEpoch over fed) may shared =
        let closed : t.shared.closed ≡ suc s.shared.closed = ap (λ (a : SharedProgress). a.closed) shared in
        let covered : t.shared.covered ≡ s.shared.entries = ap (λ (a : SharedProgress). a.covered) shared in
        omega (arith, once, closed, covered, takeless_entry z every commands s pos sound i lt may takeless)
    by_event e may shared = quiet e refl shared

-- with a take

-- of a thread that ran in this epoch, and of one that did not
ready_ran : (epoch : ℕ) (fed : Bool) (x : ThreadProgress) → x.ran ≡ epoch → one_if_was_ready epoch fed x ≡ one_if (if fed then false else true)
ready_ran epoch fed x ran = ap (λ (b : Bool). if b then one_if (if fed then false else true) else one_if_ready x.end) (eq-eqb x.ran epoch ran)

ready_rested : (epoch : ℕ) (fed : Bool) (x : ThreadProgress) → x.ran ≢ epoch → one_if_was_ready epoch fed x ≡ one_if_ready x.end
ready_rested epoch fed x ran = ap (λ (b : Bool). if b then one_if (if fed then false else true) else one_if_ready x.end) (ne_eqb x.ran epoch ran)

pub ready_few : (end : ThreadEnd) → one_if_ready end ≤ 1
ready_few Ready = omega arith
ready_few Waits = omega arith
ready_few Ended = omega arith

-- an end that is not ready
not_ready : (end : ThreadEnd) → end ≢ Ready → one_if_ready end ≡ 0
not_ready Ready ne = absurd (ne refl)
not_ready Waits ne = refl
not_ready Ended ne = refl

-- who leaves while the queue had no item was ready
leaver_ready : (end : ThreadEnd) (fed : Bool) → leaves end fed ≡ true → one_if (if fed then false else true) ≤ one_if_ready end
leaver_ready Ready true may = omega arith
leaver_ready Ready false may = omega arith
leaver_ready Waits true may = omega arith
leaver_ready Waits false may = let q : false ≡ true = may in absurd (grind arith)
leaver_ready Ended true may = omega arith
leaver_ready Ended false may = let q : false ≡ true = may in absurd (grind arith)

-- no event but a release makes a thread ready that was not
no_readier : (z : Sizes) (every : ℕ) (e : ThreadEvent) (a : SharedProgress) (x y : ThreadProgress) → is_release e ≡ false → (x.activity ≢ AtPoint → x.ran ≡ a.epoch) → MayHappen z e a x → ThreadBehind e every a x y
    → one_if_was_ready a.epoch a.fed y ≤ one_if_was_ready a.epoch a.fed x
no_readier z every LeavesPoint a x y not_release ran may after =
    let before = ready_rested a.epoch a.fed x (λ q. omega (arith, q, may.1)) in
    let behind = ready_ran a.epoch a.fed y (ap (λ (k : ThreadProgress). k.ran) after) in
    omega (arith, before, behind, leaver_ready x.end a.fed may.2)
no_readier z every (UnlocksOwn end) a x y not_release ran may after =
    let here : x.ran ≡ a.epoch = ran (λ q. writes (sym may.0 ∙ q)) in
    let before = ready_ran a.epoch a.fed x here in
    let behind = ready_ran a.epoch a.fed y (ap (λ (k : ThreadProgress). k.ran) after ∙ here) in
    omega (arith, before, behind)
  where
    writes : OnOwnRoom 0 ≡ AtPoint → ⊥
    writes q = grind arith
no_readier z every BeginsOwnRoom a x y not_release ran may after =
    let here : x.ran ≡ a.epoch = ran (λ q. runs (sym may.0 ∙ q)) in
    let before = ready_ran a.epoch a.fed x here in
    let behind = ready_ran a.epoch a.fed y (ap (λ (k : ThreadProgress). k.ran) after ∙ here) in
    omega (arith, before, behind)
  where
    runs : EmptyHanded ≡ AtPoint → ⊥
    runs q = grind arith
no_readier z every (ReleasesEpoch over fed) a x y not_release ran may after = cc
no_readier z every e a x y not_release ran may after = let same : one_if_was_ready a.epoch a.fed y ≡ one_if_was_ready a.epoch a.fed x = ap (one_if_was_ready a.epoch a.fed) after in omega (arith, same)

module _ (z : Sizes) (every commands i : ℕ) (s t : Progress) (lt : i < z.threads) (pos : 0 < every) (sound : IsSound z every commands s)
    (others : (j : ℕ) → j ≢ i → t.threads j ≡ s.threads j) (twice : ClosesWithEntryOrWait z s) where
  quiet_takes : (e : ThreadEvent) → is_release e ≡ false → MayHappen z e s.shared (s.threads i) → ThreadBehind e every s.shared (s.threads i) (t.threads i)
      → t.shared ≡ shared_behind e s.shared → ClosesWithEntryOrWait z t
  quiet_takes e not_release may after shared =
      let rests = still e s.shared not_release in
      let epoch : t.shared.epoch ≡ s.shared.epoch = ap (λ (a : SharedProgress). a.epoch) shared ∙ rests.0 in
      let closed : t.shared.closed ≡ s.shared.closed = ap (λ (a : SharedProgress). a.closed) shared ∙ rests.1 in
      let covered : t.shared.covered ≡ s.shared.covered = ap (λ (a : SharedProgress). a.covered) shared ∙ rests.2 in
      let fed : t.shared.fed ≡ s.shared.fed = ap (λ (a : SharedProgress). a.fed) shared ∙ rests.3 in
      let moved = total-moved (λ j. one_if_was_ready s.shared.epoch s.shared.fed (s.threads j)) (λ j. one_if_was_ready t.shared.epoch t.shared.fed (t.threads j)) i z.threads lt
      (λ j ne. λ k. one_if_was_ready (epoch k) (fed k) (others j ne k)) in
      let same : one_if_was_ready t.shared.epoch t.shared.fed (t.threads i) ≡ one_if_was_ready s.shared.epoch s.shared.fed (t.threads i) = λ k. one_if_was_ready (epoch k) (fed k) (t.threads i) in
      let here = no_readier z every e s.shared (s.threads i) (t.threads i) not_release (sound.runs i lt) may after in
      omega (arith, twice, closed, covered, moved, same, here)

  module _ (over fed : Bool) (may : MayHappen z (ReleasesEpoch over fed) s.shared (s.threads i)) (after : ThreadBehind (ReleasesEpoch over fed) every s.shared (s.threads i) (t.threads i))
      (shared : t.shared ≡ shared_behind (ReleasesEpoch over fed) s.shared) where
    -- each thread's end is as before, and it did not run in the new epoch
    end_same : (j : ℕ) → ((t.threads j).end ≡ (s.threads j).end) × ((t.threads j).ran ≡ (s.threads j).ran)
    end_same j = elim (eqb_tells j i) [
      | inl same ↦
          let behind : t.threads j ≡ record (s.threads i) { activity = AtPoint } = ap t.threads same.1 ∙ after in
          (ap (λ (x : ThreadProgress). x.end) behind ∙ ap (λ (k : ℕ). (s.threads k).end) (sym same.1), ap (λ (x : ThreadProgress). x.ran) behind ∙ ap (λ (k : ℕ). (s.threads k).ran) (sym same.1))
      | inr other ↦ (ap (λ (x : ThreadProgress). x.end) (others j other.1), ap (λ (x : ThreadProgress). x.ran) (others j other.1))
    ]

    ready_now : (j : ℕ) → j < z.threads → one_if_was_ready t.shared.epoch t.shared.fed (t.threads j) ≡ one_if_ready (s.threads j).end
    ready_now j less =
        let ran = (end_same j).1 in
        let before = sound.no_later j less in
        let epoch : t.shared.epoch ≡ suc s.shared.epoch = ap (λ (a : SharedProgress). a.epoch) shared in
        ready_rested t.shared.epoch t.shared.fed (t.threads j) (λ q. omega (arith, q, ran, before, epoch)) ∙ ap one_if_ready (end_same j).0

    -- each stands
    each_stands : (j : ℕ) → j < z.threads → stands (phase_of (s.threads j).activity) ≡ true
    each_stands j less = sound.all_stand i j lt less (ap (λ (d : Activity). is_closing (phase_of d)) may)

    -- who is ready now was ready, or has an entry
    ready_before : (j : ℕ) → j < z.threads → one_if_ready (s.threads j).end ≤ one_if_was_ready s.shared.epoch s.shared.fed (s.threads j) + drawn_since every s.shared.epoch (s.threads j)
    ready_before j less = elim (eqb_tells (s.threads j).ran s.shared.epoch) [
      | inl ran ↦ elim (some_or_none (drawn_since every s.shared.epoch (s.threads j))) [
        | inl none ↦ let waits = not_ready (s.threads j).end (sound.waits j less (each_stands j less) ran.1 none) in omega (arith, waits)
        | inr some ↦ omega (arith, some, ready_few (s.threads j).end)
      ]
      | inr rested ↦ omega (arith, ready_rested s.shared.epoch s.shared.fed (s.threads j) rested.1)
    ]

    -- where there is no entry the closer was ready and waits
    closer_waits : drawn_since every s.shared.epoch (s.threads i) ≡ 0 → s.shared.entries ≤ s.shared.covered
        → one_if_ready (s.threads i).end + 1 ≤ one_if_was_ready s.shared.epoch s.shared.fed (s.threads i) + drawn_since every s.shared.epoch (s.threads i)
    closer_waits none no_entry =
        let ran = ran_here z every commands s pos sound i lt may in
        let found = found_nothing z every commands s pos sound i lt may none in
        let waits = not_ready (s.threads i).end (sound.waits i lt (each_stands i lt) ran none) in
        omega (arith, waits, unfed (which s.shared.fed) ran found.1)
      where
        unfed : (s.shared.fed ≡ true) ⊎ (s.shared.fed ≡ false) → (s.threads i).ran ≡ s.shared.epoch → (s.threads i).found_empty ≡ true
            → one_if_was_ready s.shared.epoch s.shared.fed (s.threads i) ≡ 1
        unfed (inl fed_now) ran found = absurd (omega (arith, sound.emptied i lt ran found fed_now, no_entry))
        unfed (inr not_fed) ran found = ready_ran s.shared.epoch s.shared.fed (s.threads i) ran ∙ ap (λ (b : Bool). one_if (if b then false else true)) not_fed

    released_takes : ClosesWithEntryOrWait z t
    released_takes =
        let closed : t.shared.closed ≡ suc s.shared.closed = ap (λ (a : SharedProgress). a.closed) shared in
        let covered : t.shared.covered ≡ s.shared.entries = ap (λ (a : SharedProgress). a.covered) shared in
        let now = λ (j : ℕ). one_if_ready (s.threads j).end in
        let before = λ (j : ℕ). one_if_was_ready s.shared.epoch s.shared.fed (s.threads j) in
        let drawn = λ (j : ℕ). drawn_since every s.shared.epoch (s.threads j) in
        let ends : total (λ j. one_if_was_ready t.shared.epoch t.shared.fed (t.threads j)) z.threads ≡ total now z.threads =
        total-same now (λ j. one_if_was_ready t.shared.epoch t.shared.fed (t.threads j)) z.threads ready_now in
        let parts : total (λ j. before j + drawn j) z.threads ≡ total before z.threads + total drawn z.threads = total-add before drawn z.threads in
        let each : total now z.threads ≤ total (λ j. before j + drawn j) z.threads = total-le now (λ j. before j + drawn j) z.threads ready_before in
        elim (some_or_none (total drawn z.threads)) [
          | inl none ↦
              let here : drawn i ≡ 0 = let few = total-has drawn i z.threads lt in omega (arith, few, none) in
              let less : total now z.threads + 1 ≤ total (λ j. before j + drawn j) z.threads =
              total-lt now (λ j. before j + drawn j) i z.threads lt (closer_waits here (omega (arith, none, sound.all_since))) ready_before in
              omega (arith, twice, closed, covered, ends, parts, less, none, sound.all_since)
          | inr some ↦ omega (arith, twice, closed, covered, ends, parts, each, some, sound.all_since)
        ]

  by_event_takes : (e : ThreadEvent) → MayHappen z e s.shared (s.threads i) → ThreadBehind e every s.shared (s.threads i) (t.threads i) → t.shared ≡ shared_behind e s.shared → ClosesWithEntryOrWait z t
  by_event_takes (ReleasesEpoch over fed) may after shared = released_takes over fed may after shared
  by_event_takes e may after shared = quiet_takes e refl may after shared

pub takes : TakesLaw
takes z every commands i s t lt pos sound made twice = by_event_takes z every commands i s t lt pos sound made.others twice made.event made.may made.behind made.shared
