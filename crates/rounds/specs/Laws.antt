-- The laws of how a progress ends, and of how seldom it closes.
use Rattle.std.specs.Prelude.{◌≡◌, ◌≢◌, ℕ, ◌+◌, ◌*◌, ◌<◌, ◌≤◌, true, false, List, drop}
use Rattle.seq_object.specs.declared.sizes.Sizes.{Sizes}
use Rattle.seq_object.specs.Sizes.{AreValid, room_count}
use Rattle.life_model.specs.Work.{OffersRounds}
use Rattle.restart_point.specs.declared.thread_end.ThreadEnd.{ThreadEnd}
use Rattle.restart_point.specs.declared.thread_end.ThreadEnd.TheVariants.{Ready}
use Rattle.rounds.specs.Progress.{ThreadProgress, SharedProgress, Progress}
use Rattle.rounds.specs.Events.{ThreadEvent, UnlocksOwn, MayHappen, ThreadBehind, MakesEvent, RestsOrWaits, Progresses}
use Rattle.rounds.specs.Sound.{IsSound, NoneTakes, WaitsRightly}
use Rattle.rounds.specs.Spent.{spent, takeless_rounds, enough_rounds, ClosesWithEntry, ClosesWithEntryOrWait}

-- ONE TURN.

-- where a life is not over the turn of some thread makes an event, whenever it comes
abbrev pub ProgressLaw : Type 0
ProgressLaw = (z : Sizes) (every commands : ℕ) (s : Progress) → IsSound z every commands s → s.shared.over ≡ false
    → (i : ℕ) × (i < z.threads) × (RestsOrWaits z s i → ⊥)

-- each event spends one more
abbrev pub SpendsLaw : Type 0
SpendsLaw = (z : Sizes) (every commands i : ℕ) (s t : Progress) → i < z.threads → IsSound z every commands s → MakesEvent z every i s t
    → spent z s + 1 ≤ spent z t

-- and so much is spent at most
abbrev pub SpentLaw : Type 0
SpentLaw = (z : Sizes) (every commands : ℕ) (s : Progress) → IsSound z every commands s
    → spent z s ≤ (13 * z.threads + 4 * room_count z + 3) * (s.shared.closed + 1) + 29 * commands

-- an event keeps that each closing has an entry, without a take
abbrev pub SeldomLaw : Type 0
SeldomLaw = (z : Sizes) (every commands i : ℕ) (s t : Progress) → i < z.threads → 0 < every → IsSound z every commands s → NoneTakes z s
    → MakesEvent z every i s t → ClosesWithEntry s → ClosesWithEntry t

-- and with a take that each has one, or some thread that was ready waits behind it
abbrev pub TakesLaw : Type 0
TakesLaw = (z : Sizes) (every commands i : ℕ) (s t : Progress) → i < z.threads → 0 < every → IsSound z every commands s
    → MakesEvent z every i s t → ClosesWithEntryOrWait z s → ClosesWithEntryOrWait z t

-- behind an event that releases nothing its thread ran in the epoch that runs, so the life goes on
abbrev pub RanLaw : Type 0
RanLaw = (z : Sizes) (every commands i : ℕ) (s t : Progress) → i < z.threads → IsSound z every commands s → MakesEvent z every i s t
    → t.shared.closed ≡ s.shared.closed → (t.threads i).ran ≡ t.shared.epoch

-- each event keeps that a thread waits rightly, if the end that is written is not Ready where the quota is whole
abbrev pub WaitsLaw : Type 0
WaitsLaw = (z : Sizes) (every : ℕ) (e : ThreadEvent) (a : SharedProgress) (x y : ThreadProgress) → MayHappen z e a x → ThreadBehind e every a x y
    → ((end : ThreadEnd) → e ≡ UnlocksOwn end → every ≤ x.quota → end ≢ Ready)
    → WaitsRightly every x → WaitsRightly every y

-- WHOLE SCHEDULES.

-- without a take the turns of a schedule that offers enough rounds, or behind so many of its turns does so, end the life
abbrev pub EndsLaw : Type 0
EndsLaw = (z : Sizes) (every commands m : ℕ) (s t : Progress) (turns : List ℕ) → AreValid z → 0 < every
    → IsSound z every commands s → NoneTakes z s → s.shared.closed ≡ 0
    → Progresses z every (λ u. IsSound z every commands u × NoneTakes z u) s turns t
    → OffersRounds z.threads (takeless_rounds z commands) (drop m turns)
    → t.shared.over ≡ true

-- so do those of a schedule that offers more, with a take
abbrev pub EndsTakesLaw : Type 0
EndsTakesLaw = (z : Sizes) (every commands m : ℕ) (s t : Progress) (turns : List ℕ) → AreValid z → 0 < every
    → IsSound z every commands s → s.shared.closed ≡ 0
    → Progresses z every (IsSound z every commands) s turns t
    → OffersRounds z.threads (enough_rounds z commands) (drop m turns)
    → t.shared.over ≡ true

-- without a take the closings are at most one for each entry
abbrev pub TakelessClosingsLaw : Type 0
TakelessClosingsLaw = (z : Sizes) (every commands : ℕ) (s t : Progress) (turns : List ℕ) → 0 < every
    → IsSound z every commands s → NoneTakes z s → s.shared.closed ≡ 0
    → Progresses z every (λ u. IsSound z every commands u × NoneTakes z u) s turns t
    → t.shared.closed ≤ t.shared.entries

-- with a take at most two for each entry and one for each thread
abbrev pub ClosingsLaw : Type 0
ClosingsLaw = (z : Sizes) (every commands : ℕ) (s t : Progress) (turns : List ℕ) → 0 < every
    → IsSound z every commands s → s.shared.closed ≡ 0
    → Progresses z every (IsSound z every commands) s turns t
    → t.shared.closed ≤ 2 * t.shared.entries + z.threads
