-- A thread at its restart point: it stands, leaves, and claims the closing.
use Rattle.std.proofs.Common.{◌≡◌, ℕ, ◌+◌, ◌-◌, ◌*◌, ◌<◌, ◌≤◌, ◌^◌, ◌&&◌, ◌⊎◌, Bool, true, false, cond, Option, Some, None, refl, ap, sym, ◌∙◌, subst, arith, inl, inr, ⊎_elim}
use Rattle.std.specs.Prelude.{◌≢◌, Ok, Result}
use Rattle.std.specs.declared.alloc.AllocError.{AllocError}
use Rattle.std.proofs.lemmas.Bool.{le-leb, lt-ltb, le-ltb}
use Rattle.std.proofs.lemmas.Bool.Decides.{leb_tells}
use Rattle.std.proofs.lemmas.Nat.{mul-le}
use Rattle.seq_object.specs.declared.settings.Settings.{Settings}
use Rattle.seq_object.specs.Sizes.{sizes_of, room_count}
use Rattle.restart_point.specs.declared.thread_end.ThreadEnd.{ThreadEnd}
use Rattle.restart_point.specs.declared.thread_end.ThreadEnd.TheVariants.{Ready, Waits, Ended}
use Rattle.yard_model.specs.declared.view.Phase.{Phase}
use Rattle.yard_model.specs.declared.view.Phase.TheVariants.{Standing, Running, Closing}
use Rattle.yard_model.specs.declared.view.GivenBack.{GivenBack}
use Rattle.yard_model.specs.declared.view.Look.{Look}
use Rattle.yard_model.specs.declared.view.View.{View}
use Rattle.yard_model.specs.Beginnings.{first_epoch}
use Rattle.yard_model.specs.Views.{left_in, stood, claimed, looked, turned_off}
use Rattle.yard_model.specs.Conditions.{MayLeave, MayStand, MayClaim}
use Rattle.room_yard.specs.declared.answers.Rest.{Rest}
use Rattle.room_yard.specs.declared.answers.HoldsLock.{HoldsLock}
use Rattle.room_yard.specs.Told.{Told, IsTold}
use Rattle.room_yard.specs.Calls.{MayTryLeave, MayTryClaim, MayTryStand, ForbidsLeave, ForbidsClaim}
use Rattle.room_yard.specs.Answers.{HasLeft, LeaveRests, StandIsRefused, Claimed, ClaimRests, TurnedOff, FoundForbidden, MetAnother}
use Rattle.coordinator.specs.Closers.{CloserState, IsCloser, BeginsToClose, new_closer}
use Rattle.worker_model.specs.declared.hand.Hand.{Hand}
use Rattle.worker_model.specs.declared.hand.Hand.TheVariants.{Empty, Closes}
use Rattle.worker_model.specs.declared.hand.Turn.{Turn}
use Rattle.worker_model.specs.declared.hand.Turn.TheVariants.{Did, Over}
use Rattle.worker_model.specs.Counts.{when, epochs_run, may_claim, least_empty, most_empty}
use Rattle.worker_model.specs.Workers.{WorkerState, IsWorker}
use Rattle.worker_model.specs.Turns.{with_hand, did, left_behind, shows_over, ClaimsBy, Leaves, FindsOver, RestsAndClaims, GoesOnStanding}
use Rattle.worker.specs.Rows.{MayTakeRow}

-- the view is the same but for the looks
pub record HasLooks (v w : View) : Type 0 where
  pub count : ℕ
  pub look : Look
  pub is : w ≡ record v { looks = count; look = look }

looked_by : (v w : View) (rest : Rest) (forbids allows : Type 0) → FoundForbidden v rest forbids w ⊎ MetAnother v rest allows w → HasLooks v w
looked_by v w rest forbids allows cause = ⊎_elim
    (λ (found : FoundForbidden v rest forbids w). record { count = (looked v 2 rest.found).looks; look = (looked v 2 rest.found).look; is = found.view })
    (λ (met : MetAnother v rest allows w). record { count = (looked (looked v 2 rest.found) 2 rest.met).looks; look = (looked v 2 rest.met).look; is = met.view })
    cause

pub leave_looks : (v w : View) (t u : Option Told) (end : ThreadEnd) (rest : Rest) → LeaveRests v t end rest w u → HasLooks v w
leave_looks v w t u end rest is = looked_by v w rest (ForbidsLeave v end rest.found) (MayLeave v end rest.found) is.cause

pub claim_looks : (v w : View) (t u : Option Told) (rest : Rest) → ClaimRests v t rest w u → HasLooks v w
claim_looks v w t u rest is = looked_by v w rest (ForbidsClaim v rest.found) (MayClaim v rest.found) is.cause

-- so many where it holds are at most so many
pub when_most : (n : ℕ) (b : Bool) → when n b ≤ n
when_most n true = omega arith
when_most n false = omega arith

-- the epochs that were run, where it ran in one of this life and where it did not
pub epochs_where_ran : (v : View) → 0 < v.ran → epochs_run v ≡ v.ran + 1 - first_epoch v.beginning
epochs_where_ran v ran = ap (λ (b : Bool). cond b (v.ran + 1 - first_epoch v.beginning) 0) (lt-ltb 0 v.ran ran)

pub epochs_where_not : (v : View) → v.ran ≤ 0 → epochs_run v ≡ 0
epochs_where_not v none = ap (λ (b : Bool). cond b (v.ran + 1 - first_epoch v.beginning) 0) (le-ltb 0 v.ran none)

-- with a later epoch they are one more at least
pub later_runs_one_more : (v : View) (epoch : ℕ) → (0 < v.ran → first_epoch v.beginning ≤ v.ran) → v.ran < epoch → first_epoch v.beginning ≤ epoch
    → epochs_run v + 1 ≤ epoch + 1 - first_epoch v.beginning
later_runs_one_more v epoch first later within = elim (leb_tells v.ran 0) [
  | inl h ↦ let e = epochs_where_not v h.1 in omega (arith, e, later, within)
  | inr h ↦ let ran = h.1 in let e = epochs_where_ran v ran in let f = first ran in omega (arith, e, f, later, within)
]

module _ (c : WorkerState) (v : View) (t : Option Told) (may : MayTakeRow c Empty v t) where
  was : IsWorker (with_hand c Empty) v
  was = may.worker

  given : v.given_back ≡ None
  given = was.run.given may.on

  -- IT STANDS.
  module _ (phase : v.phase ≡ Running) (written : c.wrote ≡ true) where
    wrote : v.wrote ≡ true
    wrote = sym was.fits.wrote ∙ written

    may_stand : v.grip ≡ None → MayStand v
    may_stand none = record { on = may.on; phase = phase; nothing_held = none; wrote = wrote; cause = (was.told.written wrote).1 }

    pub may_try_stand : MayTryStand v
    may_try_stand = record { on = may.on; free = may_stand }

    pub not_refused : (u : Option Told) (held : HoldsLock) (w : View) → StandIsRefused v t held w u → ⊥
    not_refused u held w refused =
        let none = was.hand.none in
        let some : v.grip ≡ Some refused.holds.0 = refused.holds.1 in
        let apart : None ≡ Some refused.holds.0 = sym none ∙ some in
        cc

    least_running : least_empty v.phase v.given_back v ≡ 8
    least_running = ap (λ (p : Phase). least_empty p v.given_back v) phase ∙ ap (λ (k : Option GivenBack). least_empty Running k v) given ∙ ap (λ (b : Bool). 1 + when 7 b) wrote

    most_running : most_empty c.settings v.phase v.given_back v ≡ 8 + when 2 v.found_empty
    most_running = ap (λ (p : Phase). most_empty c.settings p v.given_back v) phase ∙ ap (λ (k : Option GivenBack). most_empty c.settings Running k v) given
        ∙ ap (λ (b : Bool). 1 + when 2 v.found_empty + when 7 b) wrote ∙ (omega arith)

    stands : IsWorker (did c Empty) (stood v)
    stands =
        let l = was.least in
        let m = was.most in
        let lr = least_running in
        let mr = most_running in
        let most_lr = when_most 9 (may_claim v) in
        let most_mr = when_most 2 v.found_empty in
        record {
          fits = record {
            thread = was.fits.thread;
            settings = was.fits.settings;
            script = was.fits.script;
            place = was.fits.place;
            quota = was.fits.quota;
            epoch = was.fits.epoch;
            wrote = was.fits.wrote;
            found_empty = was.fits.found_empty;
            marks = was.fits.marks;
          };
          within = record { valid = was.within.valid; thread = was.within.thread; short = was.within.short; position = was.within.position; quota = was.within.quota };
          hand = record { none = was.hand.none; closing = λ e. let x : Standing ≡ Closing = e in absurd (cc) };
          told = record {
            standing = λ _. (was.told.written wrote).0;
            written = was.told.written;
            waits = was.told.waits;
            stood = λ _ _. wrote;
            found = was.told.found;
          };
          run = record { first = was.run.first; last = was.run.last; running = λ e. absurd (e refl); given = was.run.given };
          least = omega (arith, l, lr, most_lr);
          most = omega (arith, m, mr, most_mr);
        }

    pub stands_there : (w : View) → w ≡ stood v → IsWorker (did c Empty) w
    stands_there w is = subst (λ (x : View). IsWorker (did c Empty) x) (sym is) stands

  -- IT STOOD.
  module _ (phase : v.phase ≡ Standing) where
    not_running : v.phase ≢ Running
    not_running = λ e. let x : Standing ≡ Running = sym phase ∙ e in cc

    least_there : (w : View) → w.phase ≡ Standing → least_empty w.phase w.given_back w ≡ when 9 (may_claim w)
    least_there w is = ap (λ (p : Phase). least_empty p w.given_back w) is

    most_there : (w : View) → w.phase ≡ Standing → most_empty c.settings w.phase w.given_back w ≡ 12
    most_there w is = ap (λ (p : Phase). most_empty c.settings p w.given_back w) is

    least_standing : least_empty v.phase v.given_back v ≡ when 9 (may_claim v)
    least_standing = least_there v phase

    most_standing : most_empty c.settings v.phase v.given_back v ≡ 12
    most_standing = most_there v phase

    -- it leaves
    pub may_try_leave : c.end ≢ Ended → MayTryLeave v c.end
    may_try_leave apart = record { on = may.on; phase = phase; not_ended = apart; next = λ none. apart ((was.told.standing not_running).ended.1 none) }

    leaves : (word found epoch : ℕ) → v.ran < epoch → first_epoch v.beginning ≤ epoch → IsWorker (left_behind c epoch) (left_in (looked v word found) epoch)
    leaves word found epoch later within =
        let l = was.least in
        let m = was.most in
        let ls = least_standing in
        let ms = most_standing in
        let some : 0 < epoch = omega (arith, later) in
        let now = epochs_where_ran (left_in (looked v word found) epoch) some in
        let more = later_runs_one_more v epoch was.run.first later within in
        let every = ap (λ (s : Settings). s.every) was.fits.settings in
        let last = was.run.last in
        let up : v.last_checkpoint ≤ epoch = omega (arith, last, later) in
        let k = given in
        let lk : least_empty Running v.given_back (left_in (looked v word found) epoch) ≡ 1 = ap (λ (k : Option GivenBack). least_empty Running k (left_in (looked v word found) epoch)) k in
        let mk : most_empty c.settings Running v.given_back (left_in (looked v word found) epoch) ≡ 1 = ap (λ (k : Option GivenBack). most_empty c.settings Running k (left_in (looked v word found) epoch)) k in
        record {
          fits = record {
            thread = was.fits.thread;
            settings = was.fits.settings;
            script = was.fits.script;
            place = was.fits.place;
            quota = omega (arith, every);
            epoch = refl;
            wrote = refl;
            found_empty = refl;
            marks = was.fits.marks;
          };
          within = record { valid = was.within.valid; thread = was.within.thread; short = was.within.short; position = was.within.position; quota = omega arith };
          hand = record { none = was.hand.none; closing = λ e. let x : Running ≡ Closing = e in absurd (cc) };
          told = record {
            standing = λ e. absurd (e refl);
            written = λ e. let x : false ≡ true = e in absurd (cc);
            waits = λ e _. let x : false ≡ true = e in absurd (cc);
            stood = λ e _. let x : Running ≡ Standing = e in absurd (cc);
            found = λ e. let x : false ≡ true = e in absurd (cc);
          };
          run = record { first = λ _. within; last = omega (arith, up); running = λ _. (some, up); given = was.run.given };
          least = omega (arith, l, lk);
          most = omega (arith, m, ms, now, more, mk);
        }

    pub has_left : (d : WorkerState) (end : ThreadEnd) (epoch : ℕ) (w : View) (u : Option Told) → d ≡ left_behind c epoch → HasLeft v t end epoch w u → IsWorker d w
    has_left d end epoch w u is left =
        let later : v.ran < epoch = let h = left.allowed.later in let e = left.shown in omega (arith, h, e) in
        subst (λ (x : View). IsWorker d x) (sym left.view) (subst (λ (x : WorkerState). IsWorker x (left_in (looked v 2 left.found) epoch)) (sym is) (leaves 2 left.found epoch later left.within))

    -- it looked, with room for so many more marks
    looks : (spare count : ℕ) (look : Look) → IsWorker (record c { hand = Empty; spare = spare }) (record v { looks = count; look = look })
    looks spare count look = let l = was.least in let m = was.most in let ls = least_standing in let ms = most_standing in
        let lw = least_there (record v { looks = count; look = look }) phase in let mw = most_there (record v { looks = count; look = look }) phase in record {
          fits = record {
            thread = was.fits.thread;
            settings = was.fits.settings;
            script = was.fits.script;
            place = was.fits.place;
            quota = was.fits.quota;
            epoch = was.fits.epoch;
            wrote = was.fits.wrote;
            found_empty = was.fits.found_empty;
            marks = was.fits.marks;
          };
          within = record { valid = was.within.valid; thread = was.within.thread; short = was.within.short; position = was.within.position; quota = was.within.quota };
          hand = record { none = was.hand.none; closing = was.hand.closing };
          told = record { standing = was.told.standing; written = was.told.written; waits = was.told.waits; stood = was.told.stood; found = was.told.found };
          run = record { first = was.run.first; last = was.run.last; running = was.run.running; given = was.run.given };
          least = omega (arith, l, ls, lw);
          most = omega (arith, m, ms, mw);
        }

    -- it is a worker behind looks, and may take a row again
    pub may_again : (w : View) (u : Option Told) → HasLooks v w → IsTold u w → MayTakeRow c Empty w u
    may_again w u seen told = record {
      worker = subst (λ (x : View). IsWorker (with_hand c Empty) x) (sym seen.is) (looks c.spare seen.count seen.look);
      taken = may.taken;
      on = ap (λ (x : View). x.saw_off) seen.is ∙ may.on;
      few = may.few;
      told = told;
    }

    pub stands_still : (w : View) → HasLooks v w → w.phase ≡ Standing
    stands_still w seen = ap (λ (x : View). x.phase) seen.is ∙ phase

    pub can_rest : (w : View) → HasLooks v w → IsWorker c w
    can_rest w seen = subst (λ (h : Hand). IsWorker (with_hand c h) w) (sym may.taken)
        (subst (λ (x : View). IsWorker (with_hand c Empty) x) (sym seen.is) (looks c.spare seen.count seen.look))

    -- with room made for a mark
    pub may_with_room : (d : WorkerState) → d ≡ record c { spare = d.spare } → MayTakeRow d Empty v t
    may_with_room d is = subst (λ (x : WorkerState). MayTakeRow x Empty v t) (sym is) (record {
      worker = looks d.spare v.looks v.look;
      taken = may.taken;
      on = may.on;
      few = may.few;
      told = may.told;
    })

    -- the power is turned off
    turns_off : (spare : ℕ) → IsWorker (record c { hand = Empty; spare = spare }) (turned_off v)
    turns_off spare = let l = was.least in let m = was.most in let ls = least_standing in let ms = most_standing in
        let lw = least_there (turned_off v) phase in let mw = most_there (turned_off v) phase in record {
          fits = record {
            thread = was.fits.thread;
            settings = was.fits.settings;
            script = was.fits.script;
            place = was.fits.place;
            quota = was.fits.quota;
            epoch = was.fits.epoch;
            wrote = was.fits.wrote;
            found_empty = was.fits.found_empty;
            marks = was.fits.marks;
          };
          within = record { valid = was.within.valid; thread = was.within.thread; short = was.within.short; position = was.within.position; quota = was.within.quota };
          hand = record { none = was.hand.none; closing = λ _. refl };
          told = record { standing = was.told.standing; written = was.told.written; waits = was.told.waits; stood = was.told.stood; found = was.told.found };
          run = record { first = was.run.first; last = was.run.last; running = was.run.running; given = λ e. let x : true ≡ false = e in absurd (cc) };
          least = omega (arith, l, ls, lw);
          most = omega (arith, m, ms, mw);
        }

    -- the closing is claimed
    few_checkpoints : v.checkpoints < 2 ^ 19
    few_checkpoints =
        let l = was.least in
        let few = may.few in
        let product = mul-le 20 v.checkpoints (2 * room_count (sizes_of c.settings) + 16) v.checkpoints (omega arith) (omega arith) in
        let limit : 2 ^ 19 ≡ 524288 = refl in
        omega (arith, l, few, product, limit)

    pub may_try_claim : MayTryClaim v
    may_try_claim = record { on = may.on; phase = phase; few_checkpoints = few_checkpoints }

    begins : (found : ℕ) → 0 < v.ran → BeginsToClose c.settings (claimed (looked v 2 found))
    begins found ran = record {
      on = may.on;
      phase = refl;
      wrote = was.told.stood phase ran;
      settings = was.fits.settings;
      none_held = was.hand.none;
      none_done = refl;
    }

    nine : 0 < v.ran → v.last_checkpoint ≤ v.ran → when 9 (may_claim v) ≡ 9
    nine ran once =
        let a = lt-ltb 0 v.ran ran in
        let b = le-leb v.last_checkpoint v.ran once in
        λ j. when 9 (a j && b j)

    claims : (spare found : ℕ) → 0 < spare → 0 < v.ran → v.last_checkpoint ≤ v.ran → IsCloser (new_closer c.settings) (claimed (looked v 2 found))
        → IsWorker (record c { hand = Closes (new_closer c.settings); spare = spare; done = c.done + 1 }) (claimed (looked v 2 found))
    claims spare found some ran once is =
        let l = was.least in
        let m = was.most in
        let ls = least_standing in
        let ms = most_standing in
        let n = nine ran once in
        record {
          fits = record {
            thread = was.fits.thread;
            settings = was.fits.settings;
            script = was.fits.script;
            place = was.fits.place;
            quota = was.fits.quota;
            epoch = was.fits.epoch;
            wrote = was.fits.wrote;
            found_empty = was.fits.found_empty;
            marks = was.fits.marks;
          };
          within = record { valid = was.within.valid; thread = was.within.thread; short = was.within.short; position = was.within.position; quota = was.within.quota };
          hand = record { closes = is.closes; spare = some };
          told = record {
            standing = λ _. was.told.standing not_running;
            written = was.told.written;
            waits = was.told.waits;
            stood = λ e _. let x : Closing ≡ Standing = e in absurd (cc);
            found = was.told.found;
          };
          run = record { first = was.run.first; last = was.run.last; running = λ _. (ran, once); given = was.run.given };
          least = omega (arith, l, ls, n);
          most = omega (arith, m, ms);
        }

    module _ (d : WorkerState) (w : View) (u : Option Told) (k : CloserState) (claim : Claimed v t w u) (is : k ≡ new_closer c.settings) (new : d ≡ did c (Closes k)) where
      all : d ≡ record c { hand = Closes (new_closer c.settings); spare = c.spare; done = c.done + 1 }
      all = new ∙ ap (λ (q : CloserState). did c (Closes q)) is

      same_spare : c.spare ≡ d.spare
      same_spare = sym (ap (λ (x : WorkerState). x.spare) all)

      pub claimed_worker : 0 < c.spare → ((x : View) → BeginsToClose c.settings x → IsCloser k x) → IsWorker d w
      claimed_worker some may_begin =
          let x = claimed (looked v 2 claim.found) in
          let closer : IsCloser (new_closer c.settings) x = subst (λ (q : CloserState). IsCloser q x) is (may_begin x (begins claim.found claim.ran)) in
          let worker = claims c.spare claim.found some claim.ran claim.once closer in
          subst (λ (y : View). IsWorker d y) (sym claim.view) (subst (λ (e : WorkerState). IsWorker e x) (sym all) worker)

      pub has_claimed : 0 < c.spare → ClaimsBy (Ok Did) c v t d w u
      has_claimed some = record {
        claimed = claim;
        spare = subst (λ (n : ℕ). 0 < n) same_spare some;
        worker = all ∙ (λ j. record c { hand = Closes (new_closer c.settings); spare = same_spare j; done = c.done + 1 });
      }

    -- no memory was had
    pub lacks_worker : (d : WorkerState) (w : View) (u : Option Told) → d ≡ record c { spare = d.spare } → TurnedOff v t w u → IsWorker d w
    lacks_worker d w u is off = subst (λ (x : View). IsWorker d x) (sym off.view) (subst (λ (x : WorkerState). IsWorker x (turned_off v)) (sym is)
        (subst (λ (h : Hand). IsWorker (record c { hand = h; spare = d.spare }) (turned_off v)) (sym may.taken) (turns_off d.spare)))

-- WHAT A ROW CAME TO.

-- by the end that it told
module _ (c : WorkerState) (v : View) (t : Option Told) (r : Result Turn AllocError) (d : WorkerState) (w : View) (u : Option Told) where
  by_end : (end : ThreadEnd) → end ≢ Ended → Leaves c v t r d w u ⊎ (FindsOver c v t r d w u ⊎ RestsAndClaims c v t r d w u) → GoesOnStanding end c v t r d w u
  by_end Ready apart is = is
  by_end Waits apart is = is
  by_end Ended apart is = absurd (apart refl)

  pub ended_claims : c.end ≡ Ended → ClaimsBy r c v t d w u → GoesOnStanding c.end c v t r d w u
  ended_claims is x = subst (λ (end : ThreadEnd). GoesOnStanding end c v t r d w u) (sym is) x

  pub goes_left : c.end ≢ Ended → (epoch : ℕ) → r ≡ Ok Did → HasLeft v t c.end epoch w u → d ≡ left_behind c epoch → GoesOnStanding c.end c v t r d w u
  goes_left apart epoch did_one left is = by_end c.end apart (inl (record { did_one = did_one; epoch = epoch; left = left; worker = is }))

  pub goes_over : c.end ≢ Ended → (rest : Rest) → r ≡ Ok Over → LeaveRests v t c.end rest w u → shows_over rest.met ≡ true → d ≡ c → GoesOnStanding c.end c v t r d w u
  goes_over apart rest is_over rests shown is = by_end c.end apart (inr (inl (record { is_over = is_over; rest = rest; rests = rests; shown = shown; worker = is })))

  pub goes_claiming : (end : ThreadEnd) → end ≡ c.end → end ≢ Ended → (rest : Rest) (between : View) (told : Option Told) → LeaveRests v t end rest between told → shows_over rest.met ≡ false
      → ClaimsBy r c between told d w u → GoesOnStanding c.end c v t r d w u
  goes_claiming end is apart rest between told rests shown x = subst (λ (e : ThreadEnd). GoesOnStanding e c v t r d w u) is (by_end end apart (inr (inr (record {
    rest = rest;
    between = between;
    told = told;
    rests = subst (λ (e : ThreadEnd). LeaveRests v t e rest between told) is rests;
    shown = shown;
    claims = x;
  }))))
