-- What the events of a thread keep of it alone.
use Rattle.std.proofs.Common.{◌≡◌, ◌≢◌, ℕ, ◌+◌, ◌-◌, ◌≤◌, suc, Bool, true, false, refl, sym, ap, ◌∙◌, subst, arith}
use Rattle.seq_object.specs.declared.sizes.Sizes.{Sizes}
use Rattle.restart_point.specs.declared.thread_end.ThreadEnd.TheVariants.{Ready}
use Rattle.restart_point.specs.declared.thread_end.ThreadEnd.{ThreadEnd}
use Rattle.yard_model.specs.Knows.{stands}
use Rattle.yard_model.specs.Knows.{stands}
use Rattle.rounds.specs.Progress.{Activity, ThreadProgress, SharedProgress, phase_of, is_holding, AtPoint, EmptyHanded, OnCommand, OnDrawn, OnEmptyQueue, OnOwnRoom, OnClosing}
use Rattle.rounds.specs.Events.{ThreadEvent, MayHappen, at_stage, one_room_more, ThreadBehind, shared_behind, LeavesPoint, BeginsCommand, FindsQueueEmpty, StoresForCommand, DrawsEntry, UnlocksCommand, UnlocksEmptyQueue, BeginsOwnRoom, StoresToOwn, UnlocksOwn, StandsAgain, ClaimsClosing, ClosesFurther, ClosesByWriteBack, ClosesNextRoom, ReleasesEpoch}
use Rattle.rounds.specs.Sound.{WaitsRightly}
use Rattle.rounds.specs.Laws.{RanLaw, WaitsLaw}
use Rattle.rounds.proofs.Spends.{is_release, still}

-- a thread that is told apart from one that stands
moves : (f : Activity → Bool) (d e : Activity) → d ≡ e → f d ≡ true → f e ≡ false → ⊥
moves f d e same yes_there no_here = let q : true ≡ false = sym yes_there ∙ (ap f same ∙ no_here) in grind arith

abbrev stands_only : Activity → Bool
stands_only AtPoint = true
stands_only EmptyHanded = false
stands_only (OnCommand n) = false
stands_only OnDrawn = false
stands_only OnEmptyQueue = false
stands_only (OnOwnRoom n) = false
stands_only (OnClosing r k) = false

-- one that makes another event than to leave or to claim does not stand
acts : (e d : Activity) → d ≡ e → stands_only e ≡ false → d ≢ AtPoint
acts e d same no_stand q = let p : true ≡ false = ap stands_only (sym q ∙ same) ∙ no_stand in grind arith

ran_after : (z : Sizes) (every : ℕ) (e : ThreadEvent) (a : SharedProgress) (x y : ThreadProgress) → (x.activity ≢ AtPoint → x.ran ≡ a.epoch) → MayHappen z e a x → ThreadBehind e every a x y → y.ran ≡ a.epoch
ran_after z every LeavesPoint a x y ran may after = ap (λ (k : ThreadProgress). k.ran) after
ran_after z every (BeginsCommand n) a x y ran may after = ap (λ (k : ThreadProgress). k.ran) after ∙ ran (acts EmptyHanded x.activity may.0 refl)
ran_after z every FindsQueueEmpty a x y ran may after = ap (λ (k : ThreadProgress). k.ran) after ∙ ran (acts EmptyHanded x.activity may.0 refl)
ran_after z every (StoresForCommand n) a x y ran may after = ap (λ (k : ThreadProgress). k.ran) after ∙ ran (acts (OnCommand (suc n)) x.activity may.0 refl)
ran_after z every DrawsEntry a x y ran may after = ap (λ (k : ThreadProgress). k.ran) after ∙ ran (acts (OnCommand 0) x.activity may.0 refl)
ran_after z every UnlocksCommand a x y ran may after = ap (λ (k : ThreadProgress). k.ran) after ∙ ran (acts OnDrawn x.activity may.0 refl)
ran_after z every UnlocksEmptyQueue a x y ran may after = ap (λ (k : ThreadProgress). k.ran) after ∙ ran (acts OnEmptyQueue x.activity may.0 refl)
ran_after z every BeginsOwnRoom a x y ran may after = ap (λ (k : ThreadProgress). k.ran) after ∙ ran (acts EmptyHanded x.activity may.0 refl)
ran_after z every (StoresToOwn n) a x y ran may after = ap (λ (k : ThreadProgress). k.ran) after ∙ ran (acts (OnOwnRoom (suc n)) x.activity may.0 refl)
ran_after z every (UnlocksOwn end) a x y ran may after = ap (λ (k : ThreadProgress). k.ran) after ∙ ran (acts (OnOwnRoom 0) x.activity may.0 refl)
ran_after z every StandsAgain a x y ran may after = ap (λ (k : ThreadProgress). k.ran) after ∙ ran (acts EmptyHanded x.activity may.0 refl)
ran_after z every ClaimsClosing a x y ran may after = ap (λ (k : ThreadProgress). k.ran) after ∙ may.1
ran_after z every (ClosesFurther k) a x y ran may after = ap (λ (k : ThreadProgress). k.ran) after ∙ ran (acts (OnClosing may.0 may.1) x.activity may.2 refl)
ran_after z every ClosesByWriteBack a x y ran may after = ap (λ (k : ThreadProgress). k.ran) after ∙ ran (acts (OnClosing may.0 may.1) x.activity may.2 refl)
ran_after z every ClosesNextRoom a x y ran may after = ap (λ (k : ThreadProgress). k.ran) after ∙ ran (acts (OnClosing may.0 may.1) x.activity may.2 refl)
ran_after z every (ReleasesEpoch over fed) a x y ran may after = ap (λ (k : ThreadProgress). k.ran) after ∙ ran (acts (OnClosing (z.shards + 2 + z.threads) 0) x.activity may refl)

pub ran : RanLaw
ran z every commands i s t lt sound made rests = by_event made.event made.may made.behind made.shared
  where
    quiet : (e : ThreadEvent) → is_release e ≡ false → MayHappen z e s.shared (s.threads i) → ThreadBehind e every s.shared (s.threads i) (t.threads i) → t.shared ≡ shared_behind e s.shared → (t.threads i).ran ≡ t.shared.epoch
    quiet e not_release may after shared =
        ran_after z every e s.shared (s.threads i) (t.threads i) (sound.runs i lt) may after
        ∙ sym (ap (λ (a : SharedProgress). a.epoch) shared ∙ (still e s.shared not_release).0)

    by_event : (e : ThreadEvent) → MayHappen z e s.shared (s.threads i) → ThreadBehind e every s.shared (s.threads i) (t.threads i) → t.shared ≡ shared_behind e s.shared → (t.threads i).ran ≡ t.shared.epoch
    by_event (ReleasesEpoch over fed) may after shared =
        let more : t.shared.closed ≡ suc s.shared.closed = ap (λ (a : SharedProgress). a.closed) shared in
        absurd (omega (arith, more, rests))
    by_event e may after shared = quiet e refl may after shared

-- what makes up that a thread waits rightly
abbrev WaitsParts : ℕ → ThreadProgress → Type 0
WaitsParts every x = (x.wrote ≡ true → every ≤ x.quota → x.end ≢ Ready) × (stands (phase_of x.activity) ≡ true → x.ran ≢ 0 → x.wrote ≡ true) × (is_holding x.activity ≡ true → x.wrote ≡ false)

-- a thread whose fields are these waits
waits_as : (every : ℕ) (x y : ThreadProgress) → y ≡ x → WaitsParts every x → WaitsParts every y
waits_as every x y same waits = subst (WaitsParts every) (sym same) waits

none_true : (A : Type 0) (b : Bool) → b ≡ false → b ≡ true → A
none_true A b no_b yes_b = let q : false ≡ true = sym no_b ∙ yes_b in absurd (grind arith)

kept_parts : (z : Sizes) (every : ℕ) (e : ThreadEvent) (a : SharedProgress) (x y : ThreadProgress) → MayHappen z e a x → ThreadBehind e every a x y
    → ((end : ThreadEnd) → e ≡ UnlocksOwn end → every ≤ x.quota → end ≢ Ready)
    → WaitsParts every x → WaitsParts every y
kept_parts z every LeavesPoint a x y may after end w = waits_as every (record x { activity = EmptyHanded; ran = a.epoch; quota = every; wrote = false; found_empty = false }) y after
    (λ q. none_true (every ≤ every → x.end ≢ Ready) false refl q, λ q. none_true (a.epoch ≢ 0 → false ≡ true) false refl q, λ q. refl)
kept_parts z every (BeginsCommand n) a x y may after end w = waits_as every (record x { activity = OnCommand n }) y after
    (w.0, λ q. none_true (x.ran ≢ 0 → x.wrote ≡ true) false refl q, λ q. may.1)
kept_parts z every FindsQueueEmpty a x y may after end w = waits_as every (record x { activity = OnEmptyQueue }) y after
    (w.0, λ q. none_true (x.ran ≢ 0 → x.wrote ≡ true) false refl q, λ q. may.1)
kept_parts z every (StoresForCommand n) a x y may after end w = waits_as every (record x { activity = OnCommand n }) y after
    (w.0, λ q. none_true (x.ran ≢ 0 → x.wrote ≡ true) false refl q, λ q. w.2 (ap is_holding may.0))
kept_parts z every DrawsEntry a x y may after end w = waits_as every (record x { activity = OnDrawn; quota = x.quota - 1; next = y.next }) y after
    (λ q. none_true (every ≤ x.quota - 1 → x.end ≢ Ready) x.wrote (w.2 (ap is_holding may.0)) q, λ q. none_true (x.ran ≢ 0 → x.wrote ≡ true) false refl q, λ q. w.2 (ap is_holding may.0))
kept_parts z every UnlocksCommand a x y may after end w = waits_as every (record x { activity = EmptyHanded }) y after
    (w.0, λ q. none_true (x.ran ≢ 0 → x.wrote ≡ true) false refl q, λ q. none_true (x.wrote ≡ false) false refl q)
kept_parts z every UnlocksEmptyQueue a x y may after end w = waits_as every (record x { activity = EmptyHanded; found_empty = true }) y after
    (w.0, λ q. none_true (x.ran ≢ 0 → x.wrote ≡ true) false refl q, λ q. none_true (x.wrote ≡ false) false refl q)
kept_parts z every BeginsOwnRoom a x y may after end w = waits_as every (record x { activity = OnOwnRoom 5; end = y.end }) y after
    (λ q. none_true (every ≤ x.quota → y.end ≢ Ready) x.wrote may.1 q, λ q. none_true (x.ran ≢ 0 → x.wrote ≡ true) false refl q, λ q. may.1)
kept_parts z every (StoresToOwn n) a x y may after end w = waits_as every (record x { activity = OnOwnRoom n }) y after
    (w.0, λ q. none_true (x.ran ≢ 0 → x.wrote ≡ true) false refl q, λ q. w.2 (ap is_holding may.0))
kept_parts z every (UnlocksOwn end) a x y may after told w = waits_as every (record x { activity = EmptyHanded; wrote = true; end = end }) y after
    (λ q. told end refl, λ q. none_true (x.ran ≢ 0 → true ≡ true) false refl q, λ q. none_true (true ≡ false) false refl q)
kept_parts z every StandsAgain a x y may after end w = waits_as every (record x { activity = AtPoint }) y after
    (w.0, λ q r. may.1, λ q. none_true (x.wrote ≡ false) false refl q)
kept_parts z every ClaimsClosing a x y may after end w = waits_as every (record x { activity = OnClosing 0 0 }) y after
    (w.0, λ q r. w.1 (ap (λ (d : Activity). stands (phase_of d)) may.0) r, λ q. none_true (x.wrote ≡ false) false refl q)
kept_parts z every (ClosesFurther k) a x y may after end w = waits_as every (record x { activity = at_stage k x.activity }) y after
    (w.0, λ q r. w.1 (ap (λ (d : Activity). stands (phase_of d)) may.2) r, λ q. none_true (x.wrote ≡ false) (is_holding (at_stage k x.activity)) (ap (λ (d : Activity). is_holding (at_stage k d)) may.2) q)
kept_parts z every ClosesByWriteBack a x y may after end w = waits_as every x y after w
kept_parts z every ClosesNextRoom a x y may after end w = waits_as every (record x { activity = one_room_more x.activity }) y after
    (w.0, λ q r. w.1 (ap (λ (d : Activity). stands (phase_of d)) may.2) r, λ q. none_true (x.wrote ≡ false) (is_holding (one_room_more x.activity)) (ap (λ (d : Activity). is_holding (one_room_more d)) may.2) q)
kept_parts z every (ReleasesEpoch over fed) a x y may after end w = waits_as every (record x { activity = AtPoint }) y after
    (w.0, λ q r. w.1 (ap (λ (d : Activity). stands (phase_of d)) may) r, λ q. none_true (x.wrote ≡ false) false refl q)

pub waits : WaitsLaw
waits z every e a x y may behind told before = as_one (kept_parts z every e a x y may behind told (before.waits, before.stood, before.unwritten))
  where
    as_one : WaitsParts every y → WaitsRightly every y
    as_one parts = record { waits = parts.0; stood = parts.1; unwritten = parts.2 }
