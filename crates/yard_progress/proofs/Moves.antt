-- The steps of a yard in the progress that it shows.
use Rattle.std.proofs.Common.{◌≡◌, ◌≢◌, ℕ, ◌-◌, ◌<◌, ◌⊎◌, ◌&&◌, ◌||◌, not, zero, suc, Bool, true, false, List, [], ◌∷◌, ◌++◌, length, set, Option, Some, None, refl, sym, ap, ◌∙◌, inl, inr, arith, eq-eqb, length-append, length-set, if◌then◌else◌}
use mathlib.Core.Option.{some}
use lib.ListN.{get_elem?}
use Rattle.std.proofs.lemmas.Bool.{cases_Bool, ne_eqb}
use Rattle.std.specs.Prelude.{slice_get, is_none}
use Rattle.std.specs.List.{list_any}
use Rattle.seq_object.specs.declared.command.Command.{Command}
use Rattle.seq_object.specs.declared.history.Entry.{Entry}
use Rattle.life_model.specs.Life.{next_command}
use Rattle.seq_object.specs.Sizes.{thread_room, room_count}
use Rattle.restart_point.specs.declared.thread_end.ThreadEnd.{ThreadEnd}
use Rattle.restart_point.specs.declared.thread_end.ThreadEnd.TheVariants.{Ready, Waits, Ended}
use Rattle.block_allow.specs.Verdicts.{leaves}
use Rattle.rounds.specs.Progress.{Activity, AtPoint, EmptyHanded, OnDrawn}
use Rattle.rounds.specs.Events.{LeavesPoint, DrawsEntry, ReleasesEpoch}
use Rattle.yard_model.specs.declared.view.Beginning.{Beginning}
use Rattle.yard_model.specs.declared.view.View.{View}
use Rattle.yard_model.specs.declared.view.Grip.{Grip}
use Rattle.yard_model.specs.declared.view.Checkpoint.{Checkpoint}
use Rattle.rooms.specs.declared.room.Room.{Room}
use Rattle.rooms.specs.Rooms.{end_of}
use Rattle.yard_model.specs.Beginnings.{opening_of, sizes_at, epoch_now, covered_by, are_used_below, is_over, is_fed}
use Rattle.yard_model.specs.World.{YardState, ViewIs, Home, clock}
use Rattle.yard_model.specs.Closings.{HasLearnt}
use Rattle.yard_model.specs.Views.{released, drew, left_in}
use Rattle.yard_model.specs.Conditions.{MayRelease, MayDraw}
use Rattle.yard_model.specs.Steps.{at_release, at_leave, checkpoint_at}
use Rattle.yard_model.specs.Lawful.{Lawful}
use Rattle.yard_laws.proofs.Lists.{there, at_inside, set_here, set_else}
use Rattle.yard_laws.proofs.Free.{all_free}
use Rattle.yard_laws.proofs.Release.{last_here, fed_right, over_right}
use Rattle.yard_laws.proofs.Draw.{fed_same, next_same}
use Rattle.yard_progress.specs.Shown.{ran_told, quota_told, thread_told, updated, GoesOn}
use Rattle.yard_progress.specs.Laws.{OpensGoingLaw, OpensShownLaw, ReleasesGoingLaw, ReleaseShownLaw, DrawShownLaw, ViewShownLaw, LeaveShownLaw}

updated_here : {A : Type 0} (f : ℕ → A) (i : ℕ) (a : A) → updated f i a i ≡ a
updated_here f i a = ap (λ (c : Bool). if c then a else f i) (eq-eqb i i refl)

updated_else : {A : Type 0} (f : ℕ → A) (i j : ℕ) (a : A) → j ≢ i → updated f i a j ≡ f j
updated_else f i j a ne = ap (λ (c : Bool). if c then a else f j) (ne_eqb j i ne)

-- the threads after a view has changed
thread_here : (vs : List View) (activities : ℕ → Activity) (i : ℕ) (v u : View) (d : Activity) (next : Option Command) (end : ThreadEnd) → get_elem? vs i ≡ some v
    → thread_told (get_elem? (set vs i u) i) (updated activities i d i) next end ≡ thread_told (some u) d next end
thread_here vs activities i v u d next end at =
    let view : get_elem? (set vs i u) i ≡ some u = set_here vs i u (at_inside vs i v at) in
    let about = updated_here activities i d in
    λ k. thread_told (view k) (about k) next end

thread_else : (vs : List View) (activities : ℕ → Activity) (i j : ℕ) (u : View) (d : Activity) (next : Option Command) (end : ThreadEnd) → j ≢ i
    → thread_told (get_elem? (set vs i u) j) (updated activities i d j) next end ≡ thread_told (get_elem? vs j) (activities j) next end
thread_else vs activities i j u d next end ne =
    let view : get_elem? (set vs i u) j ≡ get_elem? vs j = set_else vs i j u ne in
    let about = updated_else activities i j d ne in
    λ k. thread_told (view k) (about k) next end

pub view_shown : ViewShownLaw
view_shown b w after h cs activities ends write_backs more i v u d end at views = (
  refl,
  (λ k. thread_told (get_elem? (views k) i) (updated activities i d i) (next_command (opening_of b) h i) (updated_here ends i end k))
      ∙ thread_here w.views activities i v u d (next_command (opening_of b) h i) end at,
  λ j ne. (λ k. thread_told (get_elem? (views k) j) (updated activities i d j) (next_command (opening_of b) h j) (updated_else ends i j end ne k))
      ∙ thread_else w.views activities i j u d (next_command (opening_of b) h j) (ends j) ne,
)

pub leave_shown : LeaveShownLaw
leave_shown b w h cs activities ends write_backs i v l at stands earlier may not_over =
    let shown = view_shown b w (at_leave w i (left_in v (epoch_now b cs))) h cs activities ends write_backs write_backs i v (left_in v (epoch_now b cs)) EmptyHanded (ends i) at refl in
    let ran : ran_told (get_elem? w.views i) ≡ v.ran = ap ran_told at in
    let every : v.beginning.settings.every ≡ b.settings.every = ap (λ (c : Beginning). c.settings.every) (l.sized.beginnings i v at) in
    record {
      event = LeavesPoint;
      may = (stands, omega (arith, ran, earlier), may, not_over);
      behind = shown.1 ∙ (λ k. record (thread_told (some (left_in v (epoch_now b cs))) EmptyHanded (next_command (opening_of b) h i) (ends i)) { quota = every k });
      shared = shown.0;
      others = shown.2;
    }

-- RELEASE

-- where not none may leave, some end may
some_of : (es : List ThreadEnd) (fed : Bool) → not (list_any (λ (end : ThreadEnd). leaves end fed) es) ≡ false → (k : ℕ) × (x : ThreadEnd) × (k < length es) × (slice_get es k ≡ Some x) × (leaves x fed ≡ true)
some_of [] fed not_none = let q : true ≡ false = not_none in absurd (grind arith)
some_of (y ∷ es) fed not_none = elim (cases_Bool (leaves y fed)) [
  | inl may ↦ (0, y, omega arith, refl, may)
  | inr stays ↦
      let rest = some_of es fed (sym (ap (λ (c : Bool). not (c || list_any (λ (end : ThreadEnd). leaves end fed) es)) stays) ∙ not_none) in
      (suc rest.0, rest.1, omega (arith, rest.2), rest.3, rest.4)
]

module _ (b : Beginning) (w : YardState) (h : List Entry) (cs : List Checkpoint) (i : ℕ) (v : View) (over fed : Bool) (n word : ℕ)
    (l : Lawful b w h cs) (at : ViewIs w i v) (may : MayRelease v over fed n) where
  learnt : HasLearnt b h (Home w) v.closed
  learnt = l.bounds.learnt i v at may.phase

  rooms_closed : v.closed.rooms ≡ room_count (sizes_at b)
  rooms_closed = may.all_done ∙ ap (λ (c : Beginning). room_count (sizes_at c)) (l.sized.beginnings i v at)

  later : epoch_now b (cs ++ checkpoint_at n over ∷ []) ≡ suc (epoch_now b cs)
  later = let f = length-append cs (checkpoint_at n over ∷ []) in omega (arith, f)

  more_marks : length (cs ++ checkpoint_at n over ∷ []) ≡ suc (length cs)
  more_marks = let f = length-append cs (checkpoint_at n over ∷ []) in omega (arith, f)

  number_of_ends : length v.closed.ends ≡ b.settings.threads
  number_of_ends = let k = learnt.number in let r = rooms_closed in omega (arith, k, r)

  released_goes : GoesOn b (at_release w word i (released v)) h (cs ++ checkpoint_at n over ∷ [])
  released_goes not_over = by (some_of v.closed.ends fed (sym may.is_over ∙ (sym (over_right b w h cs i v over fed n word l at may) ∙ not_over)))
    where
      may_as : (x y : ThreadEnd) (c : Bool) → Some x ≡ Some y → c ≡ fed → leaves x fed ≡ true → leaves y c ≡ true
      may_as x y c same is goes = let e : y ≡ x = cc in (λ k. leaves (e k) (is k)) ∙ goes

      home_of : (j : ℕ) → j < b.settings.threads → (x : Room) × Home w (thread_room (sizes_at b) j) x
      home_of j few = l.locks.free (thread_room (sizes_at b) j) (omega (arith, few))
          (inl (all_free b w h cs i v l at may.on may.nothing_held may.phase (thread_room (sizes_at b) j) (omega (arith, few))))

      view_of : (j : ℕ) → j < b.settings.threads → (u : View) × ViewIs (at_release w word i (released v)) j u
      view_of j few = there (set w.views i (released v)) j (let m = l.sized.views in let c = length-set w.views i (released v) in omega (arith, few, m, c))

      by : (k : ℕ) × (x : ThreadEnd) × (k < length v.closed.ends) × (slice_get v.closed.ends k ≡ Some x) × (leaves x fed ≡ true)
          → (j : ℕ) × (u : View) × ViewIs (at_release w word i (released v)) j u
          × ((u.ran ≡ epoch_now b (cs ++ checkpoint_at n over ∷ []))
          ⊎ ((x : Room) × Home w (thread_room (sizes_at b) j) x × (leaves (end_of x) (is_fed b h (cs ++ checkpoint_at n over ∷ [])) ≡ true)))
      by (j, end, lt, is, goes) =
          let few : j < b.settings.threads = omega (arith, lt, number_of_ends) in
          let home = home_of j few in
          let view = view_of j few in
          (j, view.0, view.1, inr (home.0, home.1, may_as end (end_of home.0) (is_fed b h (cs ++ checkpoint_at n over ∷ [])) (sym is ∙ learnt.ends j home.0 home.1 lt) (fed_right b w h cs i v over fed n word l at may) goes))

pub releases_going : ReleasesGoingLaw
releases_going b w h cs i v over fed n word l at may = released_goes b w h cs i v over fed n word l at may

pub release_shown : ReleaseShownLaw
release_shown b w h cs activities ends write_backs i v over fed n word l at may closes = record {
  event = ReleasesEpoch over fed;
  may = closes;
  behind = thread_here w.views activities i v (released v) AtPoint (next_command (opening_of b) h i) (ends i) at
      ∙ (λ k. thread_told (sym at k) AtPoint (next_command (opening_of b) h i) (ends i));
  shared = λ k. record {
    epoch = later b w h cs i v over fed n word l at may k;
    fed = fed_right b w h cs i v over fed n word l at may k;
    over = over_right b w h cs i v over fed n word l at may k;
    closed = more_marks b w h cs i v over fed n word l at may k;
    covered = last_here b w h cs i v over fed n word l at may k;
    entries = length h;
    write_backs = write_backs;
  };
  others = λ j ne. thread_else w.views activities i j (released v) AtPoint (next_command (opening_of b) h j) (ends j) ne;
}

-- DRAW
module _ (b : Beginning) (w : YardState) (h : List Entry) (cs : List Checkpoint) (i : ℕ) (v : View) (g : Grip) (e : Entry)
    (l : Lawful b w h cs) (at : ViewIs w i v) (may : MayDraw v g e) where
  one_more : length (h ++ e ∷ []) ≡ suc (length h)
  one_more = let f = length-append h (e ∷ []) in omega (arith, f)

pub draw_shown : DrawShownLaw
draw_shown b w h cs activities ends write_backs i v g e l at may works = record {
  event = DrawsEntry;
  may = (works, let q : quota_told (get_elem? w.views i) ≡ v.quota = ap quota_told at in omega (arith, q, may.quota));
  behind = thread_here w.views activities i v (drew v g (clock w) e) OnDrawn (next_command (opening_of b) (h ++ e ∷ []) i) (ends i) at
      ∙ (λ k. record (thread_told (sym at k) OnDrawn (next_command (opening_of b) (h ++ e ∷ []) i) (ends i)) { quota = quota_told (sym at k) - 1 });
  shared = λ k. record {
    epoch = epoch_now b cs;
    fed = fed_same b w h cs i v g e l at may k;
    over = is_over b cs;
    closed = length cs;
    covered = covered_by cs;
    entries = one_more b w h cs i v g e l at may k;
    write_backs = write_backs;
  };
  others = λ j ne. (λ k. thread_told (get_elem? (set w.views i (drew v g (clock w) e)) j) (updated activities i OnDrawn j) (next_same b w h cs i v g e l at may j ne k) (ends j))
      ∙ thread_else w.views activities i j (drew v g (clock w) e) OnDrawn (next_command (opening_of b) h j) (ends j) ne;
}

-- OPENING
some_unused : (b : Beginning) (n : ℕ) → are_used_below b n ≡ false → (i : ℕ) × (i < n) × (is_none (next_command (opening_of b) [] i) ≡ false)
some_unused b zero used = let q : true ≡ false = used in absurd (grind arith)
some_unused b (suc n) used = elim (cases_Bool (is_none (next_command (opening_of b) [] n))) [
  | inl none_here ↦
      let rest = some_unused b n (sym (ap (λ (c : Bool). c && are_used_below b n) none_here) ∙ used) in
      (rest.0, omega (arith, rest.1), rest.2)
  | inr some_here ↦ (n, omega arith, some_here)
]

pub opens_going : OpensGoingLaw
opens_going b w opens not_over =
    let found = some_unused b b.settings.threads not_over in
    let i = found.0 in
    let view = there w.views i (let m = opens.number_of_views in omega (arith, m, found.1)) in
    let home = opens.home (thread_room (sizes_at b) i) (omega (arith, found.1)) in
    let position = opens.positions i home.0 found.1 home.1 in
    (i, view.0, view.1, inr (home.0, home.1, ready (end_of home.0) (is_fed b [] []) (λ e. used (next_command (opening_of b) [] i) found.2 (position.ended.0 e)) position.no_wait))
  where
    used : (o : Option Command) → is_none o ≡ false → o ≡ None → ⊥
    used o some_there none_there = let q : true ≡ false = sym (ap is_none none_there) ∙ some_there in grind arith

    ready : (end : ThreadEnd) (fed : Bool) → end ≢ Ended → end ≢ Waits → leaves end fed ≡ true
    ready Ready fed a c = refl
    ready Waits fed a c = absurd (c refl)
    ready Ended fed a c = absurd (a refl)

pub opens_shown : OpensShownLaw
opens_shown b w ends opens told = record {
  about = λ i v at. ap (λ (c : View). c.phase) (opens.views i v at);
  told = told;
  few_write_backs = omega arith;
  goes_on = opens_going b w opens;
  waits = λ i v at wrote. let e : v.wrote ≡ false = ap (λ (c : View). c.wrote) (opens.views i v at) in let q : false ≡ true = sym e ∙ wrote in absurd (grind arith);
  wrote = λ i v at stand ran. let e : v.ran ≡ 0 = ap (λ (c : View). c.ran) (opens.views i v at) in let early = opens.beginning.epoch in absurd (omega (arith, e, ran, early));
}
