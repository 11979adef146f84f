-- A look at the power, a tick, and the turning off of the power leave a worker as it was; and what a worker has done lies between the least
-- and the most of a life's work.
use Rattle.std.proofs.Common.{◌≡◌, ℕ, zero, suc, ◌+◌, ◌*◌, ◌||◌, Bool, true, false, Option, Some, None, refl, ap, arith}
use Rattle.std.specs.Prelude.{nat_le, not, length}
use Rattle.seq_object.specs.declared.settings.Settings.{Settings}
use Rattle.seq_object.specs.Sizes.{sizes_of, room_count}
use Rattle.life_model.specs.Work.{closing_events, one_if}
use Rattle.yard_model.specs.declared.view.Phase.{Phase}
use Rattle.yard_model.specs.declared.view.Phase.TheVariants.{Standing, Running, Closing}
use Rattle.yard_model.specs.declared.view.GivenBack.{GivenBack}
use Rattle.yard_model.specs.declared.view.View.{View}
use Rattle.yard_model.specs.Knows.{is_closing}
use Rattle.coordinator.specs.declared.hand.Hand.{Hand as CloserHand}
use Rattle.coordinator.specs.declared.hand.Hand.TheVariants.{Empty as NoRoom, Flushing, Flushed, Shut, Epoch, AllDone, Over}
use Rattle.coordinator.specs.declared.learnt.Learnt.{Learnt}
use Rattle.coordinator.specs.Closers.{CloserState, Closes as ClosesFor, HandIs}
use Rattle.worker_model.specs.declared.hand.Hand.{Hand}
use Rattle.worker_model.specs.declared.hand.Hand.TheVariants.{Empty, Commands, Drawn, NoItem, Own, Closes, Refused}
use Rattle.worker_model.specs.Counts.{least_empty, most_empty, least_of_hand, most_of_hand, epochs_run}
use Rattle.worker_model.specs.Workers.{WorkerState, HandFits, IsWorker}
use Rattle.worker_model.specs.Laws.{StaysBehindPowerLaw, StaysBehindTickLaw, StaysBehindOffLaw, WorkedLaw}
use Rattle.worker.proofs.Counted.{no_more, no_fewer, few_in_hand}

-- the view with these ticks, and with this seen and done of the power
abbrev with_power : View → ℕ → Bool → Bool → Bool → View
with_power v ticks on off called = record v { ticks = ticks; saw_on = on; saw_off = off; called_off = called }

-- that leaves a worker as it was where no power is seen on again
module _ (c : WorkerState) (v : View) (ticks : ℕ) (on off called : Bool) (stays : v.saw_off ≡ true → off ≡ true) (was_on : off ≡ false → v.saw_off ≡ false) where
  abbrev w : View
  w = with_power v ticks on off called

  closing_hand : (s : Settings) (l : Learnt) (hand : CloserHand) → HandIs s l hand v → HandIs s l hand w
  closing_hand s l NoRoom is = record { none = is.none; left = is.left }
  closing_hand s l (Flushing x) is = record { grip = is.grip; held = is.held; next = is.next; in_hand = is.in_hand }
  closing_hand s l (Flushed x) is = record { grip = is.grip; held = is.held; next = is.next; in_hand = is.in_hand }
  closing_hand s l (Shut x) is = record { grip = is.grip; held = is.held; next = is.next; in_hand = is.in_hand }
  closing_hand s l (Epoch stage x) is = record { grip = is.grip; held = is.held; next = is.next; in_hand = is.in_hand }
  closing_hand s l AllDone is = record { none = is.none; all = is.all }
  closing_hand s l Over is = is

  closes : (closer : CloserState) → ClosesFor closer v → ClosesFor closer w
  closes closer is = record {
    phase = is.phase;
    wrote = is.wrote;
    settings = is.settings;
    learnt = is.learnt;
    sizes = is.sizes;
    hand = closing_hand closer.settings closer.learnt closer.hand is.hand;
  }

  hand_stays : (hand : Hand) → HandFits c hand v → HandFits c hand w
  hand_stays Empty fits = record { none = fits.none; closing = λ closing. stays (fits.closing closing) }
  hand_stays (Commands reply x) fits = record {
    grip = fits.grip;
    command = fits.command;
    holds = record { phase = fits.holds.phase; held = fits.holds.held; in_hand = fits.holds.in_hand };
    next = fits.next;
    none_drawn = fits.none_drawn;
    quota = fits.quota;
    unwritten = fits.unwritten;
    not_found = fits.not_found;
  }
  hand_stays (Drawn x) fits = record {
    grip = fits.grip;
    holds = record { phase = fits.holds.phase; held = fits.holds.held; in_hand = fits.holds.in_hand };
    commands = fits.commands;
    noted = fits.noted;
    drawn = fits.drawn;
    unwritten = fits.unwritten;
    not_found = fits.not_found;
  }
  hand_stays (NoItem x) fits = record {
    grip = fits.grip;
    holds = record { phase = fits.holds.phase; held = fits.holds.held; in_hand = fits.holds.in_hand };
    queue = fits.queue;
    empty = fits.empty;
    next = fits.next;
    none_drawn = fits.none_drawn;
    quota = fits.quota;
    unwritten = fits.unwritten;
    not_found = fits.not_found;
  }
  hand_stays (Own x) fits = record {
    grip = fits.grip;
    holds = record { phase = fits.holds.phase; held = fits.holds.held; in_hand = fits.holds.in_hand };
    own = fits.own;
    end_is = fits.end_is;
    cause = fits.cause;
    waits = fits.waits;
    unwritten = fits.unwritten;
  }
  hand_stays (Closes closer) fits = record { closes = closes closer fits.closes; spare = fits.spare }
  hand_stays (Refused x) fits = record {
    grip = fits.grip;
    holds = record { phase = fits.holds.phase; held = fits.holds.held; in_hand = fits.holds.in_hand };
    off = stays fits.off;
  }

  same_least_empty : (phase : Phase) (given : Option GivenBack) → least_empty phase given w ≡ least_empty phase given v
  same_least_empty Standing given = refl
  same_least_empty Running (Some k) = refl
  same_least_empty Running None = refl
  same_least_empty Closing given = refl

  same_most_empty : (phase : Phase) (given : Option GivenBack) → most_empty c.settings phase given w ≡ most_empty c.settings phase given v
  same_most_empty Standing given = refl
  same_most_empty Running (Some k) = refl
  same_most_empty Running None = refl
  same_most_empty Closing given = refl

  same_least : (hand : Hand) → least_of_hand hand w ≡ least_of_hand hand v
  same_least Empty = same_least_empty v.phase v.given_back
  same_least (Commands reply x) = refl
  same_least (Drawn x) = refl
  same_least (NoItem x) = refl
  same_least (Own x) = refl
  same_least (Closes closer) = refl
  same_least (Refused x) = refl

  same_most : (hand : Hand) → most_of_hand c.settings hand w ≡ most_of_hand c.settings hand v
  same_most Empty = same_most_empty v.phase v.given_back
  same_most (Commands reply x) = refl
  same_most (Drawn x) = refl
  same_most (NoItem x) = refl
  same_most (Own x) = refl
  same_most (Closes closer) = refl
  same_most (Refused x) = refl

  worker_stays : IsWorker c v → IsWorker c w
  worker_stays was = record {
    fits = record {
      thread = was.fits.thread;
      settings = was.fits.settings;
      script = was.fits.script;
      place = was.fits.place;
      quota = was.fits.quota;
      epoch = was.fits.epoch;
      wrote = was.fits.wrote;
      found_empty = was.fits.found_empty;
      marks = was.fits.marks;
    };
    within = was.within;
    hand = hand_stays c.hand was.hand;
    told = record { standing = was.told.standing; written = was.told.written; waits = was.told.waits; stood = was.told.stood; found = was.told.found };
    run = record { first = was.run.first; last = was.run.last; running = was.run.running; given = λ is. was.run.given (was_on is) };
    least = no_more (2 * length v.own + (2 * room_count (sizes_of c.settings) + 16) * v.checkpoints) (least_of_hand c.hand v) (least_of_hand c.hand w) c.done was.least (let e = same_least c.hand in omega (arith, e));
    most = no_fewer (25 * length v.own + 12 * epochs_run v + closing_events (sizes_of c.settings) * v.checkpoints) (most_of_hand c.settings c.hand v) (most_of_hand c.settings c.hand w) (c.done + 12) was.most (let e = same_most c.hand in omega (arith, e));
  }

-- once seen off it stays so
stays_off : (a b : Bool) → a ≡ true → a || b ≡ true
stays_off a b is = ap (λ (x : Bool). x || b) is

was_on_before : (a b : Bool) → a || b ≡ false → a ≡ false
was_on_before true b is = is
was_on_before false b is = refl

pub stays_behind_power : StaysBehindPowerLaw
stays_behind_power c v found = worker_stays c v v.ticks (v.saw_on || not (nat_le v.beginning.limit found)) (v.saw_off || nat_le v.beginning.limit found) v.called_off
    (stays_off v.saw_off (nat_le v.beginning.limit found)) (was_on_before v.saw_off (nat_le v.beginning.limit found))

pub stays_behind_tick : StaysBehindTickLaw
stays_behind_tick c v = worker_stays c v (v.ticks + 1) false v.saw_off v.called_off (λ is. is) (λ is. is)

pub stays_behind_off : StaysBehindOffLaw
stays_behind_off c v = worker_stays c v v.ticks v.saw_on true true (λ is. refl) (λ is. absurd (cc))

-- WHAT IT HAS DONE.

product : (a b n : ℕ) → n * (a + b) ≡ n * a + n * b
product a b zero = omega arith
product a b (suc n) =
    let h = product a b n in
    let x : suc n * (a + b) ≡ n * (a + b) + (a + b) = omega arith in
    let y : suc n * a ≡ n * a + a = omega arith in
    let z : suc n * b ≡ n * b + b = omega arith in
    omega (arith, h, x, y, z)

pub has_worked : WorkedLaw
has_worked c v was =
    let l = was.least in
    let m = was.most in
    let few = few_in_hand c v was.fits.settings c.hand was.hand in
    let p = product v.checkpoints (one_if (is_closing v.phase)) (closing_events (sizes_of c.settings)) in
    (omega (arith, l), omega (arith, m, few, p))
