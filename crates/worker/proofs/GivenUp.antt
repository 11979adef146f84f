-- What a thread has in hand that saw the power off may be given up, and is a worker's with nothing in hand then.
use Rattle.std.proofs.Common.{◌≡◌, ℕ, ◌+◌, ◌-◌, ◌*◌, ◌≤◌, true, false, length, Option, Some, None, refl, ap, sym, ◌∙◌, subst, arith}
use Rattle.seq_object.specs.declared.settings.Settings.{Settings}
use Rattle.seq_object.specs.Sizes.{sizes_of, room_count}
use Rattle.life_model.specs.Work.{closing_events}
use Rattle.rooms.specs.declared.room.Room.{Room}
use Rattle.yard_model.specs.declared.view.Phase.{Phase}
use Rattle.yard_model.specs.declared.view.Phase.TheVariants.{Running, Closing}
use Rattle.yard_model.specs.declared.view.GivenBack.{GivenBack}
use Rattle.yard_model.specs.declared.view.View.{View}
use Rattle.yard_model.specs.declared.view.Grip.{Grip}
use Rattle.yard_model.specs.Knows.{point_of, place_of}
use Rattle.room_yard.specs.Told.{Told}
use Rattle.room_in_hand.specs.InHand.{RoomUse, resting, working, writing_point}
use Rattle.room_in_hand.specs.Laws.{IsOfRunning}
use Rattle.room_in_hand.proofs.Running.{runner_gives_up}
use Rattle.coordinator.specs.declared.hand.Hand.{Hand as CloserHand}
use Rattle.coordinator.specs.declared.hand.Hand.TheVariants.{Empty as NoRoom, Flushing, Flushed, Shut, Epoch, AllDone, Over}
use Rattle.coordinator.specs.Closers.{CloserState, HandIs}
use Rattle.coordinator.specs.Steps.{GivesBack}
use Rattle.worker_model.specs.declared.hand.Hand.{Hand}
use Rattle.worker_model.specs.declared.hand.Hand.TheVariants.{Empty, Commands, Drawn, NoItem, Own, Closes, Refused}
use Rattle.worker_model.specs.Counts.{least_empty, most_empty, least_of_hand, most_of_hand, epochs_run}
use Rattle.worker_model.specs.Workers.{WorkerState, Holds, HandFits, IsWorker, ahead}
use Rattle.worker_model.specs.Turns.{GivesHandUp, GivesRoomUp, given_up}
use Rattle.worker.specs.GivingUp.{MayGiveRoom, MayGiveHand}
use Rattle.worker.proofs.Counted.{no_more, no_fewer, few_events, few_when}

-- IT MAY.
module _ (c : WorkerState) (v : View) (off : v.saw_off ≡ true) where
  room : (role : RoomUse) (x : Room) (g : Grip) → IsOfRunning role v g → Holds role v x g → MayGiveRoom x v
  room role x g of holds = record { grip = g; held = holds.held; may = runner_gives_up role v g x of off holds.phase holds.held holds.in_hand }

  pub may_give : (hand : Hand) → HandFits c hand v → MayGiveHand hand v
  may_give Empty fits = tt
  may_give (Commands reply x) fits = room (working (record { command = fits.command; reply = reply })) x fits.grip (fits.next, fits.none_drawn) fits.holds
  may_give (Drawn x) fits = room resting x fits.grip tt fits.holds
  may_give (NoItem x) fits = room resting x fits.grip tt fits.holds
  may_give (Own x) fits = room (writing_point (point_of v) c.end) x fits.grip tt fits.holds
  may_give (Closes closer) fits = record { off = off; closes = fits.closes }
  may_give (Refused x) fits = room resting x fits.grip tt fits.holds

-- NOTHING IS IN HAND.

-- the view with no room in hand, and so much given back
abbrev emptied : View → Option GivenBack → View
emptied v given = record v { grip = None; given_back = given }

module _ (c : WorkerState) (v : View) (was : IsWorker c v) (off : v.saw_off ≡ true) where
  rest : (given : Option GivenBack) → least_empty v.phase given (emptied v given) ≤ least_of_hand c.hand v → most_of_hand c.settings c.hand v ≤ most_empty c.settings v.phase given (emptied v given)
      → IsWorker (given_up c) (emptied v given)
  rest given fewer more = record {
    fits = record {
      thread = was.fits.thread;
      settings = was.fits.settings;
      script = was.fits.script;
      place = let p : place_of v ≡ c.position + ahead c.hand = was.fits.place in omega (arith, p);
      quota = let q = was.fits.quota in omega (arith, q);
      epoch = was.fits.epoch;
      wrote = was.fits.wrote;
      found_empty = was.fits.found_empty;
      marks = was.fits.marks;
    };
    within = record {
      valid = was.within.valid;
      thread = was.within.thread;
      short = was.within.short;
      position = let p = was.within.position in omega (arith, p);
      quota = let q = was.within.quota in omega (arith, q);
    };
    hand = record { none = refl; closing = λ _. off };
    told = record { standing = was.told.standing; written = was.told.written; waits = was.told.waits; stood = was.told.stood; found = was.told.found };
    run = record {
      first = was.run.first;
      last = was.run.last;
      running = was.run.running;
      given = λ on. let e : true ≡ false = sym off ∙ on in absurd (cc);
    };
    least = no_more (2 * length v.own + (2 * room_count (sizes_of c.settings) + 16) * v.checkpoints) (least_of_hand c.hand v) (least_empty v.phase given (emptied v given)) c.done was.least fewer;
    most = no_fewer (25 * length v.own + 12 * epochs_run v + closing_events (sizes_of c.settings) * v.checkpoints) (most_of_hand c.settings c.hand v) (most_empty c.settings v.phase given (emptied v given)) (c.done + 12) was.most more;
  }

  -- a thread that runs gave its room back
  ran : (x : Room) (g : Grip) (k : GivenBack) → v.phase ≡ Running → most_of_hand c.settings c.hand v ≤ 37 → IsWorker (given_up c) (emptied v (Some k))
  ran x g k phase few = rest (Some k)
      (let l = ap (λ (p : Phase). least_empty p (Some k) (emptied v (Some k))) phase in omega (arith, l))
      (let m = ap (λ (p : Phase). most_empty c.settings p (Some k) (emptied v (Some k))) phase in omega (arith, m, few))

  gave_room : (x : Room) (t u : Option Told) (w : View) → v.phase ≡ Running → most_of_hand c.settings c.hand v ≤ 37 → GivesRoomUp x v t w u → IsWorker (given_up c) w
  gave_room x t u w phase few gives =
      subst (IsWorker (given_up c)) (sym (gives.2.view gives.0 gives.1)) (ran x gives.0 _ phase few)

  -- one that closes gave its room back, or held none
  closed : (given : Option GivenBack) → v.phase ≡ Closing → most_of_hand c.settings c.hand v ≤ 12 + closing_events (sizes_of c.settings) → IsWorker (given_up c) (emptied v given)
  closed given phase few = rest given
      (let l = ap (λ (p : Phase). least_empty p given (emptied v given)) phase in omega (arith, l))
      (let m = ap (λ (p : Phase). most_empty c.settings p given (emptied v given)) phase in omega (arith, m, few))

  -- a view that holds none
  none_held : v.grip ≡ None → v ≡ emptied v v.given_back
  none_held none = λ j. record v { grip = none j }

  gave_back : (s : CloserState) (hand : CloserHand) (r : ℕ) (t u : Option Told) (w : View) → v.phase ≡ Closing → most_of_hand c.settings c.hand v ≤ 12 + closing_events (sizes_of c.settings)
      → HandIs s.settings s.learnt hand v → GivesBack hand r v t w u → IsWorker (given_up c) w
  gave_back s NoRoom r t u w phase few is gives = subst (IsWorker (given_up c)) (sym (gives.0 ∙ none_held is.none)) (closed v.given_back phase few)
  gave_back s (Flushing x) r t u w phase few is gives = subst (IsWorker (given_up c)) (sym (gives.view is.grip is.held)) (closed _ phase few)
  gave_back s (Flushed x) r t u w phase few is gives = subst (IsWorker (given_up c)) (sym (gives.view is.grip is.held)) (closed _ phase few)
  gave_back s (Shut x) r t u w phase few is gives = subst (IsWorker (given_up c)) (sym (gives.view is.grip is.held)) (closed _ phase few)
  gave_back s (Epoch stage x) r t u w phase few is gives = subst (IsWorker (given_up c)) (sym (gives.view is.grip is.held)) (closed _ phase few)
  gave_back s AllDone r t u w phase few is gives = subst (IsWorker (given_up c)) (sym (gives.0 ∙ none_held is.none)) (closed v.given_back phase few)
  gave_back s Over r t u w phase few is gives = absurd is

  gave_by : (hand : Hand) → c.hand ≡ hand → HandFits c hand v → (t u : Option Told) (w : View) → GivesHandUp hand v t w u → IsWorker (given_up c) w
  gave_by Empty is fits t u w gives = subst (IsWorker (given_up c)) (sym (gives.0 ∙ none_held fits.none))
      (rest v.given_back
      (let l = ap (λ (h : Hand). least_of_hand h v) is in let e = ap (λ (q : View). least_empty v.phase v.given_back q) (none_held fits.none) in omega (arith, l, e))
      (let m = ap (λ (h : Hand). most_of_hand c.settings h v) is in let e = ap (λ (q : View). most_empty c.settings v.phase v.given_back q) (none_held fits.none) in omega (arith, m, e)))
  gave_by (Commands reply x) is fits t u w gives = gave_room x t u w fits.holds.phase (let m = ap (λ (h : Hand). most_of_hand c.settings h v) is in omega (arith, m)) gives
  gave_by (Drawn x) is fits t u w gives = gave_room x t u w fits.holds.phase (let m = ap (λ (h : Hand). most_of_hand c.settings h v) is in omega (arith, m)) gives
  gave_by (NoItem x) is fits t u w gives = gave_room x t u w fits.holds.phase (let m = ap (λ (h : Hand). most_of_hand c.settings h v) is in omega (arith, m)) gives
  gave_by (Own x) is fits t u w gives = gave_room x t u w fits.holds.phase (let m = ap (λ (h : Hand). most_of_hand c.settings h v) is in let f = few_when 2 v.found_empty in omega (arith, m, f)) gives
  gave_by (Closes closer) is fits t u w gives = gave_back closer closer.hand closer.learnt.rooms t u w fits.closes.phase
      (let m = ap (λ (h : Hand). most_of_hand c.settings h v) is in
      let few = few_events closer v fits.closes in
      let e = ap (λ (s : Settings). closing_events (sizes_of s)) (fits.closes.settings ∙ sym was.fits.settings) in
      omega (arith, m, few, e))
      fits.closes.hand gives
  gave_by (Refused x) is fits t u w gives = gave_room x t u w fits.holds.phase (let m = ap (λ (h : Hand). most_of_hand c.settings h v) is in omega (arith, m)) gives

  pub gave_up : (t u : Option Told) (w : View) → GivesHandUp c.hand v t w u → IsWorker (given_up c) w
  gave_up t u w gives = gave_by c.hand refl was.hand t u w gives

-- c is the worker, and k the same with its fields; hand is what was taken out of it, and n how many entries are drawn of it
module _ (c k : WorkerState) (same : k ≡ c) (hand : Hand) (taken : hand ≡ k.hand) (v : View) (was : IsWorker c v) (off : v.saw_off ≡ true) where
  its_hand : hand ≡ c.hand
  its_hand = taken ∙ ap (λ (q : WorkerState). q.hand) same

  pub may_give_taken : MayGiveHand hand v
  may_give_taken = subst (λ (h : Hand). MayGiveHand h v) (sym its_hand) (may_give c v off c.hand was.hand)

  pub gave_taken : (n : ℕ) (left : Hand) (t u : Option Told) (w : View) → n ≡ ahead hand → left ≡ Empty → GivesHandUp hand v t w u
      → IsWorker (record k { position = k.position + n; quota = k.quota - n; hand = left }) w
  gave_taken n left t u w counts is gives =
      let e : n ≡ ahead k.hand = counts ∙ ap ahead taken in
      subst (λ (q : WorkerState). IsWorker q w) (λ j. record k { position = k.position + sym e j; quota = k.quota - sym e j; hand = sym is j })
      (subst (λ (q : WorkerState). IsWorker (given_up q) w) (sym same)
      (gave_up c v was off t u w (subst (λ (h : Hand). GivesHandUp h v t w u) its_hand gives)))
