-- Each event spends one more, and so much is spent at most.
use Rattle.std.proofs.Common.{◌≡◌, ◌≢◌, ℕ, ◌+◌, ◌-◌, ◌*◌, ◌<◌, ◌≤◌, ◌⊎◌, ◌==◌, suc, Bool, true, false, refl, sym, ap, ◌∙◌, inl, inr, arith, eq-eqb, if◌then◌else◌}
use Rattle.std.proofs.lemmas.Bool.{ne_eqb}
use Rattle.std.proofs.lemmas.Bool.Decides.{eqb_tells}
use Rattle.std.proofs.Math.Nat.{mul-le-mul_left}
use Rattle.seq_object.specs.declared.sizes.Sizes.{Sizes}
use Rattle.seq_object.specs.History.{total}
use Rattle.seq_object.proofs.Totals.{total-le, total-same, total_none}
use Rattle.seq_object.specs.Sizes.{room_count}
use Rattle.life_model.specs.Work.{one_if}
use Rattle.yard_model.specs.Knows.{stands, is_closing}
use Rattle.rounds.specs.Progress.{Activity, ThreadProgress, SharedProgress, Progress, phase_of, entries_to_come, AtPoint, EmptyHanded, OnCommand, OnDrawn, OnEmptyQueue, OnOwnRoom, OnClosing}
use Rattle.rounds.specs.Events.{ThreadEvent, MayHappen, at_stage, one_room_more, ThreadBehind, shared_behind, LeavesPoint, BeginsCommand, FindsQueueEmpty, StoresForCommand, DrawsEntry, UnlocksCommand, UnlocksEmptyQueue, BeginsOwnRoom, StoresToOwn, UnlocksOwn, StandsAgain, ClaimsClosing, ClosesFurther, ClosesByWriteBack, ClosesNextRoom, ReleasesEpoch}
use Rattle.rounds.specs.Sound.{IsSound}
use Rattle.rounds.specs.Spent.{spent_in, spent_by, most_each_epoch, spent}
use Rattle.rounds.specs.Laws.{SpendsLaw, SpentLaw}
use Rattle.rounds.proofs.Sums.{total-add, total-times, total-const, total-moved, one_at_most}

abbrev pub is_release : ThreadEvent → Bool
is_release LeavesPoint = false
is_release (BeginsCommand n) = false
is_release FindsQueueEmpty = false
is_release (StoresForCommand n) = false
is_release DrawsEntry = false
is_release UnlocksCommand = false
is_release UnlocksEmptyQueue = false
is_release BeginsOwnRoom = false
is_release (StoresToOwn n) = false
is_release (UnlocksOwn end) = false
is_release StandsAgain = false
is_release ClaimsClosing = false
is_release (ClosesFurther k) = false
is_release ClosesByWriteBack = false
is_release ClosesNextRoom = false
is_release (ReleasesEpoch over fed) = true

-- the epoch and the closings rest but at a release
pub still : (e : ThreadEvent) (a : SharedProgress) → is_release e ≡ false → ((shared_behind e a).epoch ≡ a.epoch) × ((shared_behind e a).closed ≡ a.closed) × ((shared_behind e a).covered ≡ a.covered) × ((shared_behind e a).fed ≡ a.fed)
still LeavesPoint a not_release = (refl, refl, refl, refl)
still (BeginsCommand n) a not_release = (refl, refl, refl, refl)
still FindsQueueEmpty a not_release = (refl, refl, refl, refl)
still (StoresForCommand n) a not_release = (refl, refl, refl, refl)
still DrawsEntry a not_release = (refl, refl, refl, refl)
still UnlocksCommand a not_release = (refl, refl, refl, refl)
still UnlocksEmptyQueue a not_release = (refl, refl, refl, refl)
still BeginsOwnRoom a not_release = (refl, refl, refl, refl)
still (StoresToOwn n) a not_release = (refl, refl, refl, refl)
still (UnlocksOwn end) a not_release = (refl, refl, refl, refl)
still StandsAgain a not_release = (refl, refl, refl, refl)
still ClaimsClosing a not_release = (refl, refl, refl, refl)
still (ClosesFurther k) a not_release = (refl, refl, refl, refl)
still ClosesByWriteBack a not_release = (refl, refl, refl, refl)
still ClosesNextRoom a not_release = (refl, refl, refl, refl)
still (ReleasesEpoch over fed) a not_release = cc

-- what a thread did, once it is known what it is about
as_about : (epoch : ℕ) (x : ThreadProgress) (d : Activity) → x.activity ≡ d → spent_by epoch x ≡ spent_in epoch x.ran x.wrote x.found_empty d
as_about epoch x d e = ap (spent_in epoch x.ran x.wrote x.found_empty) e

-- a thread that stands and did not run in this epoch did nothing in it
idle : (epoch : ℕ) (x : ThreadProgress) → x.activity ≡ AtPoint → x.ran ≢ epoch → spent_by epoch x ≡ 0
idle epoch x stands ne = as_about epoch x AtPoint stands ∙ ap (λ (b : Bool). if b then 10 + 2 * one_if x.found_empty else 0) (ne_eqb x.ran epoch ne)

-- one that stands and ran in it
stood : (epoch : ℕ) (x : ThreadProgress) → x.activity ≡ AtPoint → x.ran ≡ epoch → spent_by epoch x ≡ 10 + 2 * one_if x.found_empty
stood epoch x stands ran = as_about epoch x AtPoint stands ∙ ap (λ (b : Bool). if b then 10 + 2 * one_if x.found_empty else 0) (eq-eqb x.ran epoch ran)

-- one event, at its thread
local : (z : Sizes) (every : ℕ) (e : ThreadEvent) (a : SharedProgress) (x y : ThreadProgress) → is_release e ≡ false → (x.activity ≢ AtPoint → x.ran ≡ a.epoch) → MayHappen z e a x → ThreadBehind e every a x y
    → 25 * a.entries + a.write_backs + spent_by a.epoch x + 1 ≤ 25 * (shared_behind e a).entries + (shared_behind e a).write_backs + spent_by a.epoch y
local z every LeavesPoint a x y not_release ran may after =
    let before = idle a.epoch x may.0 (λ q. omega (arith, q, may.1)) in
    let behind : spent_by a.epoch y ≡ 2 = ap (spent_by a.epoch) after in
    omega (arith, before, behind)
local z every (BeginsCommand n) a x y not_release ran may after =
    let before = as_about a.epoch x EmptyHanded may.0 in
    let unwritten : one_if x.wrote ≡ 0 = ap one_if may.1 in
    let behind : spent_by a.epoch y ≡ 3 + 2 * one_if x.found_empty + (22 - n) = ap (spent_by a.epoch) after in
    omega (arith, before, behind, unwritten)
local z every FindsQueueEmpty a x y not_release ran may after =
    let before = as_about a.epoch x EmptyHanded may.0 in
    let unwritten : one_if x.wrote ≡ 0 = ap one_if may.1 in
    let unfound : one_if x.found_empty ≡ 0 = ap one_if may.2 in
    let behind : spent_by a.epoch y ≡ 3 = ap (spent_by a.epoch) after in
    omega (arith, before, behind, unwritten, unfound)
local z every (StoresForCommand n) a x y not_release ran may after =
    let before = as_about a.epoch x (OnCommand (suc n)) may.0 in
    let behind : spent_by a.epoch y ≡ 3 + 2 * one_if x.found_empty + (22 - n) = ap (spent_by a.epoch) after in
    omega (arith, before, behind, may.1)
local z every DrawsEntry a x y not_release ran may after =
    let before = as_about a.epoch x (OnCommand 0) may.0 in
    let behind : spent_by a.epoch y ≡ 1 + 2 * one_if x.found_empty = ap (spent_by a.epoch) after in
    omega (arith, before, behind)
local z every UnlocksCommand a x y not_release ran may after =
    let before = as_about a.epoch x OnDrawn may.0 in
    let behind : spent_by a.epoch y ≡ 2 + 2 * one_if x.found_empty + 7 * one_if x.wrote = ap (spent_by a.epoch) after in
    omega (arith, before, behind)
local z every UnlocksEmptyQueue a x y not_release ran may after =
    let before = as_about a.epoch x OnEmptyQueue may.0 in
    let behind : spent_by a.epoch y ≡ 4 + 7 * one_if x.wrote = ap (spent_by a.epoch) after in
    omega (arith, before, behind)
local z every BeginsOwnRoom a x y not_release ran may after =
    let before = as_about a.epoch x EmptyHanded may.0 in
    let unwritten : one_if x.wrote ≡ 0 = ap one_if may.1 in
    let behind : spent_by a.epoch y ≡ 3 + 2 * one_if x.found_empty + 0 = ap (spent_by a.epoch) after in
    omega (arith, before, behind, unwritten)
local z every (StoresToOwn n) a x y not_release ran may after =
    let before = as_about a.epoch x (OnOwnRoom (suc n)) may.0 in
    let behind : spent_by a.epoch y ≡ 3 + 2 * one_if x.found_empty + (5 - n) = ap (spent_by a.epoch) after in
    omega (arith, before, behind, may.1)
local z every (UnlocksOwn end) a x y not_release ran may after =
    let before = as_about a.epoch x (OnOwnRoom 0) may.0 in
    let behind : spent_by a.epoch y ≡ 2 + 2 * one_if x.found_empty + 7 = ap (spent_by a.epoch) after in
    omega (arith, before, behind)
local z every StandsAgain a x y not_release ran may after =
    let before = as_about a.epoch x EmptyHanded may.0 in
    let written : one_if x.wrote ≡ 1 = ap one_if may.1 in
    let here : x.ran ≡ a.epoch = ran (λ q. free_stands (sym may.0 ∙ q)) in
    let behind : spent_by a.epoch y ≡ 10 + 2 * one_if x.found_empty =
    ap (spent_by a.epoch) after ∙ stood a.epoch (record x { activity = AtPoint }) refl here in
    omega (arith, before, behind, written)
  where
    free_stands : EmptyHanded ≡ AtPoint → ⊥
    free_stands q = grind arith
local z every ClaimsClosing a x y not_release ran may after =
    let before = stood a.epoch x may.0 may.1 in
    let behind : spent_by a.epoch y ≡ 11 + 2 * one_if x.found_empty + 0 = ap (spent_by a.epoch) after in
    omega (arith, before, behind)
local z every (ClosesFurther k) a x y not_release ran may after =
    let before = as_about a.epoch x (OnClosing may.0 may.1) may.2 in
    let behind : spent_by a.epoch y ≡ 11 + 2 * one_if x.found_empty + (4 * may.0 + k) =
    ap (spent_by a.epoch) after ∙ ap (λ (d : Activity). spent_in a.epoch x.ran x.wrote x.found_empty (at_stage k d)) may.2 in
    omega (arith, before, behind, may.3)
local z every ClosesByWriteBack a x y not_release ran may after =
    let behind : spent_by a.epoch y ≡ spent_by a.epoch x = ap (spent_by a.epoch) after in
    omega (arith, behind)
local z every ClosesNextRoom a x y not_release ran may after =
    let before = as_about a.epoch x (OnClosing may.0 may.1) may.2 in
    let behind : spent_by a.epoch y ≡ 11 + 2 * one_if x.found_empty + (4 * suc may.0 + 0) =
    ap (spent_by a.epoch) after ∙ ap (λ (d : Activity). spent_in a.epoch x.ran x.wrote x.found_empty (one_room_more d)) may.2 in
    omega (arith, before, behind, may.3)
local z every (ReleasesEpoch over fed) a x y not_release ran may after = cc

-- one at most
pub one_few : (b : Bool) → one_if b ≤ 1
one_few true = omega arith
one_few false = omega arith

-- what a thread did in an epoch is little
few_in : (rooms epoch ran : ℕ) (wrote found : Bool) (d : Activity) → ((r k : ℕ) → d ≡ OnClosing r k → 4 * r + k ≤ 4 * rooms)
    → spent_in epoch ran wrote found d ≤ 12 + 15 * entries_to_come d + (4 * rooms + 1) * one_if (is_closing (phase_of d))
few_in rooms epoch ran wrote found AtPoint few = at (ran == epoch)
  where
    at : (b : Bool) → (if b then 10 + 2 * one_if found else 0) ≤ 12 + 15 * 0 + (4 * rooms + 1) * 0
    at true = omega (arith, one_few found)
    at false = omega arith
few_in rooms epoch ran wrote found EmptyHanded few = omega (arith, one_few found, one_few wrote)
few_in rooms epoch ran wrote found (OnCommand n) few = omega (arith, one_few found)
few_in rooms epoch ran wrote found OnDrawn few = omega (arith, one_few found)
few_in rooms epoch ran wrote found OnEmptyQueue few = omega arith
few_in rooms epoch ran wrote found (OnOwnRoom n) few = omega (arith, one_few found)
few_in rooms epoch ran wrote found (OnClosing r k) few = omega (arith, one_few found, few r k refl)

module _ (z : Sizes) (every commands : ℕ) (s : Progress) (sound : IsSound z every commands s) where
  -- so is what all threads did
  pub few_spent : total (λ i. spent_by s.shared.epoch (s.threads i)) z.threads ≤ 12 * z.threads + 15 * total (λ i. entries_to_come (s.threads i).activity) z.threads + (4 * room_count z + 1)
  few_spent =
      let n = z.threads in
      let works = λ (i : ℕ). entries_to_come (s.threads i).activity in
      let closes = λ (i : ℕ). one_if (is_closing (phase_of (s.threads i).activity)) in
      let each : total (λ i. spent_by s.shared.epoch (s.threads i)) n ≤ total (λ i. 12 + 15 * works i + (4 * room_count z + 1) * closes i) n =
      total-le (λ i. spent_by s.shared.epoch (s.threads i)) (λ i. 12 + 15 * works i + (4 * room_count z + 1) * closes i) n
      (λ i lt. few_in (room_count z) s.shared.epoch (s.threads i).ran (s.threads i).wrote (s.threads i).found_empty (s.threads i).activity (λ r k e. sound.few_rooms i r k lt e)) in
      let parts : total (λ i. 12 + 15 * works i + (4 * room_count z + 1) * closes i) n ≡ total (λ i. 12 + 15 * works i) n + total (λ i. (4 * room_count z + 1) * closes i) n =
      total-add (λ i. 12 + 15 * works i) (λ i. (4 * room_count z + 1) * closes i) n in
      let front : total (λ i. 12 + 15 * works i) n ≡ total (λ i. 12) n + total (λ i. 15 * works i) n = total-add (λ i. 12) (λ i. 15 * works i) n in
      let last : total (λ i. (4 * room_count z + 1) * closes i) n ≡ (4 * room_count z + 1) * total closes n = total-times (4 * room_count z + 1) closes n in
      let one : total closes n ≤ 1 = one_at_most (λ i. is_closing (phase_of (s.threads i).activity)) n (λ i j lt less a b. sound.one_closer i j lt less a b) in
      let once : (4 * room_count z + 1) * total closes n ≤ (4 * room_count z + 1) * 1 = mul-le-mul_left (4 * room_count z + 1) one in
      omega (arith, each, parts, front, last, once, total-const 12 n, total-times 15 works n)

  -- while one closes, each other stands
  pub others_stand : (i j : ℕ) → i < z.threads → j < z.threads → is_closing (phase_of (s.threads i).activity) ≡ true → j ≢ i → (s.threads j).activity ≡ AtPoint
  others_stand i j lt less closes ne = stands_only (s.threads j).activity (sound.all_stand i j lt less closes) (λ c. ne (sound.one_closer j i less lt c closes))
    where
      stands_only : (d : Activity) → stands (phase_of d) ≡ true → (is_closing (phase_of d) ≡ true → ⊥) → d ≡ AtPoint
      stands_only AtPoint st no_closer = refl
      stands_only EmptyHanded st no_closer = cc
      stands_only (OnCommand n) st no_closer = cc
      stands_only OnDrawn st no_closer = cc
      stands_only OnEmptyQueue st no_closer = cc
      stands_only (OnOwnRoom n) st no_closer = cc
      stands_only (OnClosing r k) st no_closer = absurd (no_closer refl)

  -- and no command is under way
  none_under_way : (i : ℕ) → i < z.threads → is_closing (phase_of (s.threads i).activity) ≡ true → total (λ j. entries_to_come (s.threads j).activity) z.threads ≡ 0
  none_under_way i lt closes =
      total-same (λ k. 0) (λ j. entries_to_come (s.threads j).activity) z.threads (λ j less. none (s.threads j).activity (sound.all_stand i j lt less closes)) ∙ total_none z.threads
    where
      none : (d : Activity) → stands (phase_of d) ≡ true → entries_to_come d ≡ 0
      none AtPoint st = refl
      none EmptyHanded st = refl
      none (OnCommand n) st = cc
      none OnDrawn st = refl
      none OnEmptyQueue st = refl
      none (OnOwnRoom n) st = refl
      none (OnClosing r k) st = refl

  module _ (i : ℕ) (t : Progress) (lt : i < z.threads) (others : (j : ℕ) → j ≢ i → t.threads j ≡ s.threads j) where
    -- an event that is no release
    quiet : (e : ThreadEvent) → is_release e ≡ false → MayHappen z e s.shared (s.threads i) → ThreadBehind e every s.shared (s.threads i) (t.threads i)
        → t.shared ≡ shared_behind e s.shared → spent z s + 1 ≤ spent z t
    quiet e not_release may after shared =
        let rests = still e s.shared not_release in
        let epoch : t.shared.epoch ≡ s.shared.epoch = ap (λ (a : SharedProgress). a.epoch) shared ∙ rests.0 in
        let closed : t.shared.closed ≡ s.shared.closed = ap (λ (a : SharedProgress). a.closed) shared ∙ rests.1 in
        let entries : t.shared.entries ≡ (shared_behind e s.shared).entries = ap (λ (a : SharedProgress). a.entries) shared in
        let written : t.shared.write_backs ≡ (shared_behind e s.shared).write_backs = ap (λ (a : SharedProgress). a.write_backs) shared in
        let here = local z every e s.shared (s.threads i) (t.threads i) not_release (sound.runs i lt) may after in
        let moved = total-moved (λ j. spent_by s.shared.epoch (s.threads j)) (λ j. spent_by t.shared.epoch (t.threads j)) i z.threads lt
        (λ j ne. λ k. spent_by (epoch k) (others j ne k)) in
        let same : spent_by t.shared.epoch (t.threads i) ≡ spent_by s.shared.epoch (t.threads i) = ap (λ (n : ℕ). spent_by n (t.threads i)) epoch in
        let per : most_each_epoch z * t.shared.closed ≡ most_each_epoch z * s.shared.closed = ap (λ (n : ℕ). most_each_epoch z * n) closed in
        omega (arith, here, moved, same, per, entries, written)

    -- a release
    releases : (over fed : Bool) → MayHappen z (ReleasesEpoch over fed) s.shared (s.threads i) → ThreadBehind (ReleasesEpoch over fed) every s.shared (s.threads i) (t.threads i)
        → t.shared ≡ shared_behind (ReleasesEpoch over fed) s.shared → spent z s + 1 ≤ spent z t
    releases over fed may after shared =
        let closes : is_closing (phase_of (s.threads i).activity) ≡ true = ap (λ (d : Activity). is_closing (phase_of d)) may in
        let epoch : t.shared.epoch ≡ suc s.shared.epoch = ap (λ (a : SharedProgress). a.epoch) shared in
        let closed : t.shared.closed ≡ suc s.shared.closed = ap (λ (a : SharedProgress). a.closed) shared in
        let entries : t.shared.entries ≡ s.shared.entries = ap (λ (a : SharedProgress). a.entries) shared in
        let written : t.shared.write_backs ≡ s.shared.write_backs = ap (λ (a : SharedProgress). a.write_backs) shared in
        let none : total (λ j. spent_by t.shared.epoch (t.threads j)) z.threads ≡ 0 =
        total-same (λ k. 0) (λ j. spent_by t.shared.epoch (t.threads j)) z.threads (λ j less. nothing closes epoch after j less (eqb_tells j i)) ∙ total_none z.threads in
        let per : most_each_epoch z * t.shared.closed ≡ most_each_epoch z * suc s.shared.closed = ap (λ (n : ℕ). most_each_epoch z * n) closed in
        omega (arith, none, per, entries, written, few_spent, none_under_way i lt closes)
      where
        nothing : is_closing (phase_of (s.threads i).activity) ≡ true → t.shared.epoch ≡ suc s.shared.epoch → ThreadBehind (ReleasesEpoch over fed) every s.shared (s.threads i) (t.threads i)
            → (j : ℕ) → j < z.threads → ((j == i) ≡ true) × (j ≡ i) ⊎ ((j == i) ≡ false) × (j ≢ i) → spent_by t.shared.epoch (t.threads j) ≡ 0
        nothing closes epoch after j less (inl same) =
            let ran : (s.threads j).ran ≤ s.shared.epoch = sound.no_later j less in
            let behind : t.threads j ≡ record (s.threads i) { activity = AtPoint } = ap t.threads same.1 ∙ after in
            let ran_same : (t.threads j).ran ≡ (s.threads j).ran = ap (λ (x : ThreadProgress). x.ran) behind ∙ ap (λ (k : ℕ). (s.threads k).ran) (sym same.1) in
            idle t.shared.epoch (t.threads j) (ap (λ (x : ThreadProgress). x.activity) behind) (λ q. omega (arith, q, ran, ran_same, epoch))
        nothing closes epoch after j less (inr other) =
            let ran : (s.threads j).ran ≤ s.shared.epoch = sound.no_later j less in
            let behind = others j other.1 in
            let ran_same : (t.threads j).ran ≡ (s.threads j).ran = ap (λ (x : ThreadProgress). x.ran) behind in
            idle t.shared.epoch (t.threads j) (ap (λ (x : ThreadProgress). x.activity) behind ∙ others_stand i j lt less closes other.1) (λ q. omega (arith, q, ran, ran_same, epoch))

    by_event : (e : ThreadEvent) → MayHappen z e s.shared (s.threads i) → ThreadBehind e every s.shared (s.threads i) (t.threads i)
        → t.shared ≡ shared_behind e s.shared → spent z s + 1 ≤ spent z t
    by_event (ReleasesEpoch over fed) may after shared = releases over fed may after shared
    by_event e may after shared = quiet e refl may after shared

pub spends : SpendsLaw
spends z every commands i s t lt sound made = by_event z every commands s sound i t lt made.others made.event made.may made.behind made.shared

pub spent_few : SpentLaw
spent_few z every commands s sound = omega (arith, few_spent z every commands s sound, sound.few_entries, sound.few_write_backs)
