-- The progress that a lawful yard shows is sound.
use Rattle.std.proofs.Common.{◌≡◌, ◌≢◌, ℕ, ◌+◌, ◌-◌, ◌*◌, ◌<◌, ◌≤◌, ◌⊎◌, ◌==◌, Bool, true, false, List, length, take, drop, Option, Some, None, refl, sym, ap, ◌∙◌, subst, inl, inr, arith, if◌then◌else◌}
use mathlib.Core.Option.{Option as Maybe, some}
use lib.ListN.{get_elem?}
use Rattle.std.proofs.lemmas.Bool.Decides.{eqb_tells}
use Rattle.std.proofs.lemmas.List.{length-drop, take_all}
use Rattle.std.proofs.lemmas.List.Elements.{All-drop, All-take}
use Rattle.std.proofs.lemmas.Option.{slice_get_cases}
use Rattle.std.specs.Prelude.{slice_get, get_or}
use Rattle.std.specs.List.{All}
use Rattle.seq_object.specs.declared.command.Command.{Command}
use Rattle.seq_object.specs.declared.history.Entry.{Entry}
use Rattle.seq_object.specs.History.{total, of_thread}
use Rattle.seq_object.proofs.Totals.{total-le, total-same, thread_count}
use Rattle.seq_object.proofs.Histories.{in_script}
use Rattle.life_model.specs.Life.{script_of, opening_place, place_after, next_command}
use Rattle.seq_object.specs.Sizes.{thread_room, room_count}
use Rattle.restart_point.specs.declared.thread_end.ThreadEnd.{ThreadEnd}
use Rattle.restart_point.specs.declared.thread_end.ThreadEnd.TheVariants.{Ready}
use Rattle.block_allow.specs.Verdicts.{leaves}
use Rattle.rounds.specs.Progress.{Activity, AtPoint, EmptyHanded, OnCommand, OnDrawn, OnEmptyQueue, OnOwnRoom, OnClosing, phase_of, is_holding, entries_to_come, drawn_since}
use Rattle.rounds.specs.Sound.{IsSound}
use Rattle.life_laws.proofs.Works.{total-add}
use Rattle.rooms.specs.declared.room.Room.{Room}
use Rattle.yard_model.specs.declared.view.Phase.{Phase}
use Rattle.yard_model.specs.declared.view.Phase.TheVariants.{Standing, Running, Closing}
use Rattle.yard_model.specs.declared.view.Beginning.{Beginning}
use Rattle.yard_model.specs.declared.view.View.{View}
use Rattle.yard_model.specs.declared.view.Grip.{Grip}
use Rattle.yard_model.specs.declared.view.Checkpoint.{Checkpoint}
use Rattle.rooms.specs.Rooms.{end_of}
use Rattle.yard_model.specs.Beginnings.{opening_of, sizes_at, epoch_now, covered_by, is_fed}
use Rattle.yard_model.specs.Knows.{stands, is_closing, HasCause, MayHold}
use Rattle.yard_model.specs.World.{YardState, ViewIs, Home, lock_of, dead}
use Rattle.yard_model.specs.Epochs.{since_mark}
use Rattle.yard_model.specs.Lawful.{Lawful}
use Rattle.yard_laws.proofs.Lists.{there}
use Rattle.yard_laws.proofs.Views.{any_there}
use Rattle.yard_laws.proofs.Arrivals.{below_threads}
use Rattle.yard_laws.proofs.Knowns.{last_few}
use Rattle.yard_progress.specs.Shown.{ran_told, quota_told, found_told, thread_told, progress_of, IsAbout, ShowsHands, all_commands}
use Rattle.yard_progress.specs.Laws.{SoundLaw, HolderLaw}

-- what a thread is about, by its phase
pub about_stands : (phase : Phase) (grip : Option Grip) (done : ℕ) (next : Option Command) (d : Activity) → IsAbout phase grip done next d → stands (phase_of d) ≡ stands phase
about_stands phase grip done next AtPoint about = sym (ap stands about)
about_stands phase grip done next EmptyHanded about = sym (ap stands about.0)
about_stands phase grip done next (OnCommand n) about = sym (ap stands about.0)
about_stands phase grip done next OnDrawn about = sym (ap stands about.0)
about_stands phase grip done next OnEmptyQueue about = sym (ap stands about.0)
about_stands phase grip done next (OnOwnRoom n) about = sym (ap stands about.0)
about_stands phase grip done next (OnClosing r k) about = sym (ap stands about.0)

pub about_closes : (phase : Phase) (grip : Option Grip) (done : ℕ) (next : Option Command) (d : Activity) → IsAbout phase grip done next d → is_closing (phase_of d) ≡ is_closing phase
about_closes phase grip done next AtPoint about = sym (ap is_closing about)
about_closes phase grip done next EmptyHanded about = sym (ap is_closing about.0)
about_closes phase grip done next (OnCommand n) about = sym (ap is_closing about.0)
about_closes phase grip done next OnDrawn about = sym (ap is_closing about.0)
about_closes phase grip done next OnEmptyQueue about = sym (ap is_closing about.0)
about_closes phase grip done next (OnOwnRoom n) about = sym (ap is_closing about.0)
about_closes phase grip done next (OnClosing r k) about = sym (ap is_closing about.0)

-- one that does not stand is not Standing
about_moves : (phase : Phase) (grip : Option Grip) (done : ℕ) (next : Option Command) (d : Activity) → IsAbout phase grip done next d → d ≢ AtPoint → phase ≢ Standing
about_moves phase grip done next AtPoint about moves q = absurd (moves refl)
about_moves phase grip done next EmptyHanded about moves q = let e : true ≡ false = sym (ap stands q) ∙ ap stands about.0 in absurd (grind arith)
about_moves phase grip done next (OnCommand n) about moves q = let e : true ≡ false = sym (ap stands q) ∙ ap stands about.0 in absurd (grind arith)
about_moves phase grip done next OnDrawn about moves q = let e : true ≡ false = sym (ap stands q) ∙ ap stands about.0 in absurd (grind arith)
about_moves phase grip done next OnEmptyQueue about moves q = let e : true ≡ false = sym (ap stands q) ∙ ap stands about.0 in absurd (grind arith)
about_moves phase grip done next (OnOwnRoom n) about moves q = let e : true ≡ false = sym (ap stands q) ∙ ap stands about.0 in absurd (grind arith)
about_moves phase grip done next (OnClosing r k) about moves q = let e : false ≡ true = sym (ap is_closing q) ∙ ap is_closing about.0 in absurd (grind arith)

-- a closing view
closing_only : (phase : Phase) → is_closing phase ≡ true → phase ≡ Closing
closing_only Standing e = cc
closing_only Running e = cc
closing_only Closing e = refl

-- a command that is under way is a next command
under_few : (phase : Phase) (grip : Option Grip) (done : ℕ) (next : Option Command) (d : Activity) → IsAbout phase grip done next d → (entries_to_come d ≡ 0) ⊎ (entries_to_come d ≡ 1) × (next ≢ None)
under_few phase grip done next AtPoint about = inl refl
under_few phase grip done next EmptyHanded about = inl refl
under_few phase grip done next (OnCommand n) about = inr (refl, about.2)
under_few phase grip done next OnDrawn about = inl refl
under_few phase grip done next OnEmptyQueue about = inl refl
under_few phase grip done next (OnOwnRoom n) about = inl refl
under_few phase grip done next (OnClosing r k) about = inl refl

module _ (b : Beginning) (w : YardState) (h : List Entry) (cs : List Checkpoint) (activities : ℕ → Activity) (ends : ℕ → ThreadEnd) (write_backs : ℕ)
    (l : Lawful b w h cs) (hands : ShowsHands b w h cs activities ends write_backs) where
  -- each thread has a view
  viewed : (i : ℕ) → i < b.settings.threads → (v : View) × ViewIs w i v
  viewed i lt = there w.views i (let n = l.sized.views in omega (arith, lt, n))

  -- that closes, or stands
  phase_closes : (i : ℕ) (v : View) → ViewIs w i v → is_closing (phase_of (activities i)) ≡ true → v.phase ≡ Closing
  phase_closes i v at closing = closing_only v.phase (sym (about_closes v.phase v.grip v.closed.rooms (next_command (opening_of b) h i) (activities i) (hands.about i v at)) ∙ closing)

  phase_stands : (i : ℕ) (v : View) → ViewIs w i v → stands (phase_of (activities i)) ≡ stands v.phase
  phase_stands i v at = about_stands v.phase v.grip v.closed.rooms (next_command (opening_of b) h i) (activities i) (hands.about i v at)

  -- while one closes, each stands
  all_stand : (i : ℕ) (v : View) → ViewIs w i v → v.phase ≡ Closing → (j : ℕ) (u : View) → ViewIs w j u → stands u.phase ≡ true
  all_stand i v at closing j u there_is = l.arrival.full j u there_is (any_there (λ (c : View). is_closing c.phase) w.views i v at (ap is_closing closing))

  -- a grip
  some_grip : (o : Option Grip) → o ≢ None → (g : Grip) × (o ≡ Some g)
  some_grip None ne = absurd (ne refl)
  some_grip (Some g) ne = (g, refl)

  -- no more rooms are done than there are
  few_done : (i r k : ℕ) (v : View) → ViewIs w i v → activities i ≡ OnClosing r k → 4 * r + k ≤ 4 * room_count (sizes_at b)
  few_done i r k v at closing = by (subst (IsAbout v.phase v.grip v.closed.rooms (next_command (opening_of b) h i)) closing (hands.about i v at)) (eqb_tells k 0)
    where
      by : (v.phase ≡ Closing) × (r ≡ v.closed.rooms) × (k ≤ 3) × (k ≢ 0 → v.grip ≢ None) → ((k == 0) ≡ true) × (k ≡ 0) ⊎ ((k == 0) ≡ false) × (k ≢ 0) → 4 * r + k ≤ 4 * room_count (sizes_at b)
      by about (inl nothing) = let learnt = l.bounds.learnt i v at about.0 in omega (arith, about.1, nothing.1, learnt.rooms)
      by about (inr something) =
          let grip = some_grip v.grip (about.3 something.1) in
          let may = (l.locks.views i v at).may_hold grip.0 grip.1 in
          let next : grip.0.room ≡ v.closed.rooms = subst (λ (p : Phase). MayHold (sizes_at b) i p v.closed.rooms grip.0.room) about.0 may.0 in
          omega (arith, about.1, about.2, next, may.1)

  -- the entries since the last checkpoint
  since_is : (i : ℕ) → i < b.settings.threads → drawn_since b.settings.every (epoch_now b cs) ((progress_of b w h cs activities ends write_backs).threads i) ≡ since_mark h cs i
  since_is i lt = by (viewed i lt)
    where
      at_view : (v : View) → ViewIs w i v → drawn_since b.settings.every (epoch_now b cs) (thread_told (some v) (activities i) (next_command (opening_of b) h i) (ends i)) ≡ since_mark h cs i
      at_view v at = elim (eqb_tells v.ran (epoch_now b cs)) [
        | inl ran ↦
            let e = (l.epochs.views i v at).since ran.1 in
            ap (λ (c : Bool). if c then b.settings.every - v.quota else 0) ran.0 ∙ omega (arith, e)
        | inr rested ↦
            let e = (l.epochs.views i v at).idle rested.1 in
            ap (λ (c : Bool). if c then b.settings.every - v.quota else 0) rested.0 ∙ sym e
      ]

      by : (v : View) × ViewIs w i v → drawn_since b.settings.every (epoch_now b cs) ((progress_of b w h cs activities ends write_backs).threads i) ≡ since_mark h cs i
      by (v, at) = subst (λ (o : Maybe View). drawn_since b.settings.every (epoch_now b cs) (thread_told o (activities i) (next_command (opening_of b) h i) (ends i)) ≡ since_mark h cs i) (sym at) (at_view v at)

  sum_since : covered_by cs + total (λ i. drawn_since b.settings.every (epoch_now b cs) ((progress_of b w h cs activities ends write_backs).threads i)) b.settings.threads ≡ length h
  sum_since =
      let n = b.settings.threads in
      let same : total (λ i. drawn_since b.settings.every (epoch_now b cs) ((progress_of b w h cs activities ends write_backs).threads i)) n ≡ total (λ i. since_mark h cs i) n =
      total-same (λ i. since_mark h cs i) (λ i. drawn_since b.settings.every (epoch_now b cs) ((progress_of b w h cs activities ends write_backs).threads i)) n since_is in
      let known : All (λ (e : Entry). e.thread < n) (drop (covered_by cs) (take (length h) h)) =
      All-drop (λ (e : Entry). e.thread < n) (covered_by cs) (take (length h) h) (All-take (λ (e : Entry). e.thread < n) (length h) h l.entries.known) in
      let counted : total (λ i. since_mark h cs i) n ≡ length (drop (covered_by cs) (take (length h) h)) = thread_count n (drop (covered_by cs) (take (length h) h)) known in
      let whole : length (take (length h) h) ≡ length h = ap length (take_all (length h) h (omega arith)) in
      omega (arith, same, counted, whole, length-drop (covered_by cs) (take (length h) h), last_few b w h cs l)

  -- the entries and what is under way are at most the commands
  few_here : (i : ℕ) → i < b.settings.threads → length (of_thread i h) + entries_to_come (activities i) ≤ length (script_of b.scripts i)
  few_here i lt = by (viewed i lt)
    where
      most : opening_place (opening_of b) i + length (of_thread i h) ≤ length (script_of b.scripts i)
      most = in_script (script_of b.scripts i) (opening_place (opening_of b) i) (of_thread i h) (l.epochs.order.commands i) (l.bounds.beginning.places i lt)

      within : next_command (opening_of b) h i ≢ None → place_after (opening_of b) h i < length (script_of b.scripts i)
      within some_next = judged (slice_get_cases (script_of b.scripts i) (place_after (opening_of b) h i)).1
        where
          judged : ((c : Command) × (place_after (opening_of b) h i < length (script_of b.scripts i)) × (slice_get (script_of b.scripts i) (place_after (opening_of b) h i) ≡ Some c) × (get_or (script_of b.scripts i) (place_after (opening_of b) h i) c ≡ c))
              ⊎ (length (script_of b.scripts i) ≤ place_after (opening_of b) h i) × (slice_get (script_of b.scripts i) (place_after (opening_of b) h i) ≡ None)
              → place_after (opening_of b) h i < length (script_of b.scripts i)
          judged (inl found) = found.1
          judged (inr past) = absurd (some_next past.1)

      by : (v : View) × ViewIs w i v → length (of_thread i h) + entries_to_come (activities i) ≤ length (script_of b.scripts i)
      by (v, at) = elim (under_few v.phase v.grip v.closed.rooms (next_command (opening_of b) h i) (activities i) (hands.about i v at)) [
        | inl nothing ↦ omega (arith, nothing, most)
        | inr one ↦ omega (arith, one.0, within one.1)
      ]

  few_all : length h + total (λ i. entries_to_come (activities i)) b.settings.threads ≤ all_commands b
  few_all =
      let n = b.settings.threads in
      let counted : total (λ i. length (of_thread i h)) n ≡ length h = thread_count n h l.entries.known in
      let parts : total (λ i. length (of_thread i h) + entries_to_come (activities i)) n ≡ total (λ i. length (of_thread i h)) n + total (λ i. entries_to_come (activities i)) n =
      total-add (λ i. length (of_thread i h)) (λ i. entries_to_come (activities i)) n in
      let each : total (λ i. length (of_thread i h) + entries_to_come (activities i)) n ≤ all_commands b =
      total-le (λ i. length (of_thread i h) + entries_to_come (activities i)) (λ i. length (script_of b.scripts i)) n few_here in
      omega (arith, counted, parts, each)

  ran_is : (i : ℕ) (v : View) → ViewIs w i v → ran_told (get_elem? w.views i) ≡ v.ran
  ran_is i v at = ap ran_told at

  -- a thread that stands and has no entry since the last checkpoint waits
  waits_here : (i : ℕ) (v : View) → ViewIs w i v → stands v.phase ≡ true → v.ran ≡ epoch_now b cs → since_mark h cs i ≡ 0 → ends i ≢ Ready
  waits_here i v at stand ran none_since =
      let whole = (l.epochs.views i v at).since ran in
      hands.waits i v at (hands.wrote i v at stand ran) (omega (arith, whole, none_since))

  shows_sound : IsSound (sizes_at b) b.settings.every (all_commands b) (progress_of b w h cs activities ends write_backs)
  shows_sound = record {
    no_later = λ i lt. let v = viewed i lt in let e = (l.epochs.views i v.0 v.1).no_later in omega (arith, e, ran_is i v.0 v.1);
    runs = λ i lt moves. let v = viewed i lt in
        ran_is i v.0 v.1 ∙ (l.epochs.views i v.0 v.1).runs (about_moves v.0.phase v.0.grip v.0.closed.rooms (next_command (opening_of b) h i) (activities i) (hands.about i v.0 v.1) moves);
    one_closer = λ i j lt less a c. let v = viewed i lt in let u = viewed j less in
        l.arrival.one_closer i v.0 v.1 j u.0 u.1 (phase_closes i v.0 v.1 a) (phase_closes j u.0 u.1 c);
    all_stand = λ i j lt less a. let v = viewed i lt in let u = viewed j less in
        phase_stands j u.0 u.1 ∙ all_stand i v.0 v.1 (phase_closes i v.0 v.1 a) j u.0 u.1;
    few_rooms = λ i r k lt e. let v = viewed i lt in few_done i r k v.0 v.1 e;
    goes_on = λ not_over. going (hands.goes_on not_over);
    few_entries = few_all;
    few_write_backs = hands.few_write_backs;
    all_since = sum_since;
    cause = λ i lt stand ran. let v = viewed i lt in
        subst (λ (o : Maybe View). HasCause (quota_told o) (found_told o) (next_command (opening_of b) h i)) (sym v.1)
        ((l.epochs.views i v.0 v.1).cause (sym (phase_stands i v.0 v.1) ∙ stand) (sym (ran_is i v.0 v.1) ∙ ran));
    has_next = λ i lt ran nothing. let v = viewed i lt in
        (l.epochs.views i v.0 v.1).has_next (sym (ran_is i v.0 v.1) ∙ ran) (sym (since_is i lt) ∙ nothing);
    emptied = λ i lt ran found fed. let v = viewed i lt in
        (l.epochs.views i v.0 v.1).emptied (sym (ran_is i v.0 v.1) ∙ ran) (sym (ap found_told v.1) ∙ found) fed;
    waits = λ i lt stand ran nothing. let v = viewed i lt in
        waits_here i v.0 v.1 (sym (phase_stands i v.0 v.1) ∙ stand) (sym (ran_is i v.0 v.1) ∙ ran) (sym (since_is i lt) ∙ nothing);
  }
    where
      going : (i : ℕ) × (v : View) × ViewIs w i v × ((v.ran ≡ epoch_now b cs) ⊎ ((x : Room) × Home w (thread_room (sizes_at b) i) x × (leaves (end_of x) (is_fed b h cs) ≡ true)))
          → (i : ℕ) × (i < b.settings.threads) × ((ran_told (get_elem? w.views i) ≡ epoch_now b cs) ⊎ (leaves (ends i) (is_fed b h cs) ≡ true))
      going (i, v, at, inl ran) = (i, below_threads b w h cs l i v at, inl (ran_is i v at ∙ ran))
      going (i, v, at, inr (x, home, may)) = (i, below_threads b w h cs l i v at, inr (ap (λ (end : ThreadEnd). leaves end (is_fed b h cs)) (hands.told i x home) ∙ may))

  -- who holds a room while a thread runs
  holds_room : (i r : ℕ) (v : View) → ViewIs w i v → v.phase ≡ Running → r < room_count (sizes_at b) → lock_of w r ≢ 0 → lock_of w r ≢ dead
      → (j : ℕ) × (j < b.settings.threads) × (is_holding (activities j) ≡ true)
  holds_room i r v at runs lt taken alive =
      let who = l.locks.holder r (lock_of w r - 1) lt (omega (arith, taken)) alive in
      let j = lock_of w r - 1 in
      let g = who.2.0 in
      (j, below_threads b w h cs l j who.0 who.1, busy j who.0 who.1 who.2.0 who.2.1 (activities j) (hands.about j who.0 who.1))
    where
      busy : (j : ℕ) (u : View) → ViewIs w j u → (g : Grip) → u.grip ≡ Some g → (d : Activity) → IsAbout u.phase u.grip u.closed.rooms (next_command (opening_of b) h j) d → is_holding d ≡ true
      busy j u there_is g grip AtPoint about =
          absurd (subst (λ (p : Phase). MayHold (sizes_at b) j p u.closed.rooms g.room) about ((l.locks.views j u there_is).may_hold g grip).0)
      busy j u there_is g grip EmptyHanded about = let e : None ≡ Some g = sym about.1 ∙ grip in absurd (grind arith)
      busy j u there_is g grip (OnCommand n) about = refl
      busy j u there_is g grip OnDrawn about = refl
      busy j u there_is g grip OnEmptyQueue about = refl
      busy j u there_is g grip (OnOwnRoom n) about = refl
      busy j u there_is g grip (OnClosing a k) about =
          let e : false ≡ true = sym (ap stands runs) ∙ all_stand j u there_is about.0 i v at in absurd (grind arith)

pub sound : SoundLaw
sound b w h cs activities ends write_backs l hands = shows_sound b w h cs activities ends write_backs l hands

pub holder : HolderLaw
holder b w h cs activities ends write_backs i r v l hands at runs lt taken alive = holds_room b w h cs activities ends write_backs l hands i r v at runs lt taken alive
