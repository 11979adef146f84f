-- What a life of one history leaves goes on from one history, and draws few entries.
use Rattle.std.proofs.Common.{◌≡◌, ◌≢◌, ℕ, zero, suc, ◌+◌, ◌*◌, ◌<◌, ◌≤◌, ◌==◌, Bool, true, false, cond, List, [], ◌∷◌, ◌++◌, length, refl, sym, ap, ◌∙◌, subst, inl, inr, ⊎_elim, arith, eq-eqb}
use Rattle.std.proofs.lemmas.Bool.{cases_lt}
use Rattle.std.proofs.lemmas.List.{get_or_past}
use Rattle.std.specs.List.{All}
use Rattle.seq_object.specs.declared.command.Command.{Command}
use Rattle.seq_object.specs.declared.history.Entry.{Entry}
use Rattle.seq_object.specs.declared.history.RestartPoint.{RestartPoint}
use Rattle.seq_object.specs.declared.settings.Settings.{Settings}
use Rattle.seq_object.specs.declared.sizes.Sizes.{Sizes}
use Rattle.seq_object.specs.Sizes.{sizes_of}
use Rattle.seq_object.specs.History.{Scripts, State, of_thread, AreCommands, after, first_state, point_at, total}
use Rattle.seq_object.proofs.Histories.{in_script, point}
use Rattle.seq_object.proofs.Totals.{thread_count}
use Rattle.line_memory.specs.Line.{BankState}
use Rattle.room_model.specs.MapRoom.{live_layout}
use Rattle.room_model.specs.Image.{ImageRooms, KeptCounts, image_of, nothing_kept, epoch_at}
use Rattle.life_model.specs.declared.life.Life.{Life}
use Rattle.life_model.specs.declared.life.Life.TheVariants.{Start, Resume}
use Rattle.life_model.specs.Life.{Opening, sizes, script_of, opening_place, closings, IsLegalLife}
use Rattle.life_model.specs.Crash.{IsCrashSafe}
use Rattle.life_model.specs.Lives.{IsLife, ResumesFrom, HasOneHistory, recovered_history}
use Rattle.life_model.specs.Told.{ReportState, TellsOf, life_told}
use Rattle.life_laws.proofs.States.{one_state}
use Rattle.life_laws.proofs.Chain.{first_life, next_life, first_at, length-first, no_entries}
use Rattle.power_cut.specs.Cut.{quiet_memory}
use Rattle.power_cut.proofs.Quiet.{image_of-quiet}
use Rattle.script_run.specs.Jobs.{OpensOver, IsResumeOver}

-- A LIFE THAT OPENS OVER A MEMORY

-- has these settings and scripts
pub opened_so : (life : Life) (s : Settings) (c : Scripts) (over : List BankState) (o : Opening) → OpensOver life s c over o → (o.settings ≡ s) × (o.scripts ≡ c)
opened_so Start s c over o is = (ap (λ (x : Opening). x.settings) is, ap (λ (x : Opening). x.scripts) is)
opened_so Resume s c over o is = (is.settings_are, is.scripts_are)

-- and is a life of them
pub life_of : (life : Life) (s : Settings) (c : Scripts) (over left : List BankState) (o : Opening) (r : ReportState) (choice : KeptCounts) → OpensOver life s c over o
    → TellsOf o (image_of over nothing_kept) 0 r left → IsLife (sizes_of s) c (life_told o r left choice)
life_of life s c over left o r choice opens told =
    let so = opened_so life s c over o opens in
    subst (λ (x : Settings). IsLife (sizes_of x) c (life_told o r left choice)) so.0
    (subst (λ (y : Scripts). IsLife (sizes o) y (life_told o r left choice)) so.1 (told.lived choice))

-- an image holds what some history left
abbrev pub HoldsHistory : Settings → Scripts → ImageRooms → Type 0
HoldsHistory s c image = (h : List Entry) × HasOneHistory (sizes_of s) c image h

-- a start leaves such an image
pub start_holds : (s : Settings) (c : Scripts) (over left : List BankState) (o : Opening) (r : ReportState) (choice : KeptCounts) → OpensOver Start s c over o
    → TellsOf o (image_of over nothing_kept) 0 r left → HoldsHistory s c (image_of left choice)
start_holds s c over left o r choice opens told =
    (recovered_history (life_told o r left choice), first_life (sizes_of s) c (life_told o r left choice) (life_of Start s c over left o r choice opens told) (ap (λ (x : Opening). x.life) opens))

-- a resume over the memory of an image resumes from that image
pub from_image : (s : Settings) (c : Scripts) (image : ImageRooms) (o : Opening) → IsResumeOver s c (quiet_memory image) o → ResumesFrom (sizes_of s) image o
from_image s c image o opens = subst (λ (i : ImageRooms). ResumesFrom (sizes_of s) i o) (image_of-quiet image nothing_kept) opens.from

-- and so does a resume from one
pub resume_holds : (s : Settings) (c : Scripts) (image : ImageRooms) (left : List BankState) (o : Opening) (r : ReportState) (choice : KeptCounts) → HoldsHistory s c image
    → OpensOver Resume s c (quiet_memory image) o → TellsOf o (image_of (quiet_memory image) nothing_kept) 0 r left → HoldsHistory s c (image_of left choice)
resume_holds s c image left o r choice held opens told = (
  held.0 ++ recovered_history (life_told o r left choice),
  next_life (sizes_of s) c image held.0 (life_told o r left choice) held.1 (life_of Resume s c (quiet_memory image) left o r choice opens told) (from_image s c image o opens),
)

-- PLACES

-- the state in which a history leaves a thread
pub place_behind : (z : Sizes) (h : List Entry) (thread : ℕ) → thread < z.threads → (point_at (after z (first_state z) h).points thread).position ≡ length (of_thread thread h)
place_behind z h thread lt =
    let place : RestartPoint → ℕ = λ p. p.position in
    let within : thread < length (first_state z).points = subst (λ (n : ℕ). thread < n) (sym (length-first z.threads)) lt in
    let whole : (point_at (after z (first_state z) h).points thread).position ≡ (point_at (first_state z).points thread).position + length (of_thread thread h) =
    ap place (point z (first_state z) h thread within) in
    let first : (point_at (first_state z).points thread).position ≡ 0 = ap place (first_at z.threads thread) in
    omega (arith, whole, first)

-- is within its script
pub place_within : (z : Sizes) (c : Scripts) (image : ImageRooms) (h : List Entry) (thread : ℕ) → HasOneHistory z c image h → length (of_thread thread h) ≤ length (script_of c thread)
place_within z c image h thread held =
    let most : 0 + length (of_thread thread h) ≤ length (script_of c thread) = in_script (script_of c thread) 0 (of_thread thread h) (held.commands thread) (omega arith) in
    omega (arith, most)

-- so is each place from which a resume goes on
pub resume_places : (s : Settings) (c : Scripts) (image : ImageRooms) (o : Opening) → HoldsHistory s c image → ResumesFrom (sizes_of s) image o
    → (thread : ℕ) → thread < s.threads → opening_place o thread ≤ length (script_of c thread)
resume_places s c image o held from thread lt =
    let z : Sizes = sizes_of s in
    let same : o.state ≡ after z (first_state z) held.0 = one_state live_layout z image o.state (after z (first_state z) held.0) from.state held.1.recovers in
    let place : opening_place o thread ≡ length (of_thread thread held.0) = ap (λ (x : State). (point_at x.points thread).position) same ∙ place_behind z held.0 thread lt in
    let within : length (of_thread thread held.0) ≤ length (script_of c thread) = place_within z c image held.0 thread held.1 in
    omega (arith, place, within)

-- ENTRIES

-- an entry of a thread is one of its own
some_own : (e : Entry) (es : List Entry) → length (of_thread e.thread (e ∷ es)) ≢ 0
some_own e es none =
    let one : length (of_thread e.thread (e ∷ es)) ≡ length (e ∷ of_thread e.thread es) =
    ap (λ (b : Bool). length (cond b (e ∷ of_thread e.thread es) (of_thread e.thread es))) (eq-eqb e.thread e.thread refl) in
    omega (arith, one, none)

-- a thread that has none among more has none among fewer
none_before : (t : ℕ) (e : Entry) (es : List Entry) → length (of_thread t (e ∷ es)) ≡ 0 → length (of_thread t es) ≡ 0
none_before t e es none = by_test (e.thread == t) none
  where
    by_test : (b : Bool) → length (cond b (e ∷ of_thread t es) (of_thread t es)) ≡ 0 → length (of_thread t es) ≡ 0
    by_test true some = absurd (omega (arith, some))
    by_test false same = same

-- the entries are those of the first so many threads, where no other thread has one
named_below : (n : ℕ) (h : List Entry) → ((t : ℕ) → n ≤ t → length (of_thread t h) ≡ 0) → All (λ e. e.thread < n) h
named_below n [] none k d lt = absurd (omega arith)
named_below n (e ∷ es) none zero d lt = ⊎_elim (λ (below : e.thread < n). below) (λ (le : n ≤ e.thread). absurd (some_own e es (none e.thread le))) (cases_lt e.thread n)
named_below n (e ∷ es) none (suc k) d lt = named_below n es (λ t le. none_before t e es (none t le)) k d (omega arith)

-- so the entries of a history of four threads are those of each
pub entries_of_four : (h : List Entry) → ((t : ℕ) → 4 ≤ t → length (of_thread t h) ≡ 0)
    → length h ≡ length (of_thread 0 h) + length (of_thread 1 h) + length (of_thread 2 h) + length (of_thread 3 h)
entries_of_four h none =
    let all : total (λ t. length (of_thread t h)) 4 ≡ length h = thread_count 4 h (named_below 4 h none) in
    let sum : total (λ t. length (of_thread t h)) 4 ≡ 0 + length (of_thread 0 h) + length (of_thread 1 h) + length (of_thread 2 h) + length (of_thread 3 h) = refl in
    omega (arith, all, sum)

-- a thread past the last has no entry
pub none_past : (scripts : Scripts) (place thread : ℕ) (own : List Entry) → length scripts ≤ thread → AreCommands (script_of scripts thread) place own → length own ≡ 0
none_past scripts place thread own past are =
    ap length (no_entries place own (subst (λ (script : List Command). AreCommands script place own) (get_or_past scripts thread [] past) are))

-- a legal life of four threads with so few commands each draws few entries, where it goes on from places within its scripts
pub entries_few : (o : Opening) (h : List Entry) (marks : List ℕ) (most : ℕ) → IsLegalLife o h marks → o.settings.threads ≡ 4
    → ((t : ℕ) → length (script_of o.scripts t) ≤ most) → ((t : ℕ) → t < 4 → opening_place o t ≤ length (script_of o.scripts t)) → length h ≤ 4 * most
entries_few o h marks most legal four few places =
    let none : (t : ℕ) → 4 ≤ t → length (of_thread t h) ≡ 0 = λ t le.
    none_past o.scripts (opening_place o t) t (of_thread t h) (omega (arith, legal.order.threads, four, le)) (legal.order.commands t) in
    let own : (t : ℕ) → t < 4 → length (of_thread t h) ≤ most = λ t lt.
    let within : opening_place o t + length (of_thread t h) ≤ length (script_of o.scripts t) = in_script (script_of o.scripts t) (opening_place o t) (of_thread t h) (legal.order.commands t) (places t lt) in
    omega (arith, within, few t) in
    omega (arith, entries_of_four h none, own 0 (omega arith), own 1 (omega arith), own 2 (omega arith), own 3 (omega arith))

-- EPOCHS

-- marks are those of closings, and one of a recovery
pub marks_few : (o : Opening) (marks : List ℕ) → length marks ≤ closings o marks + 1
marks_few o marks = by_life o.life
  where
    by_life : (life : Life) → length marks ≤ closings (record o { life = life }) marks + 1
    by_life Start = omega arith
    by_life Resume = omega arith

-- what a power cut leaves has an epoch for each mark, and at most one more
pub epoch_left : (o : Opening) (h : List Entry) (marks : List ℕ) (memory : List BankState) (choice : KeptCounts) → IsCrashSafe o h marks memory
    → epoch_at (sizes o) (image_of memory choice) ≤ o.epoch + length marks + 1
epoch_left o h marks memory choice safe = elim (safe choice) [ inl a ↦ omega (arith, a.epoch) | inr a ↦ omega (arith, a.epoch) ]
