-- A release of a plain yard.
use Rattle.std.proofs.Common.{◌≡◌, ℕ, suc, ◌+◌, ◌-◌, ◌/◌, ◌^◌, ◌<◌, ◌≤◌, Bool, true, false, List, [], ◌∷◌, ◌++◌, length, set, sym, refl, ap, ◌∙◌, subst, arith, Some}
use Rattle.std.specs.List.{All}
use Rattle.std.specs.Prelude.{nat_lt}
use Rattle.std.specs.Vec.{with_item}
use Rattle.std.proofs.lemmas.List.Elements.{All-set}
use mathlib.Core.Option.{some}
use lib.ListN.{get_elem?}
use Rattle.seq_object.specs.declared.history.Entry.{Entry}
use Rattle.life_model.specs.declared.life.Mark.{Mark}
use Rattle.restart_point.specs.ArrivalWord.{is_set}
use Rattle.yard_model.specs.declared.view.Phase.TheVariants.{Standing, Closing}
use Rattle.yard_model.specs.declared.view.Beginning.{Beginning}
use Rattle.yard_model.specs.declared.view.View.{View}
use Rattle.yard_model.specs.declared.view.Checkpoint.{Checkpoint}
use Rattle.yard_model.specs.Beginnings.{first_epoch, epoch_now, covered_by, is_over}
use Rattle.yard_model.specs.World.{Shows}
use Rattle.yard_model.specs.Lawful.{Lawful}
use Rattle.yard_model.specs.Steps.{checkpoint_at}
use Rattle.yard_laws.proofs.Epochs.{epoch_fits}
use Rattle.yard_laws.proofs.Marks.{last_append}
use Rattle.yard_laws.proofs.Lists.{at_inside, set_here}
use Rattle.room_yard.specs.Told.{Told, IsTold}
use Rattle.room_yard.specs.Calls.{MayEndEpoch}
use Rattle.room_yard.specs.Answers.{EndedEpoch, next_word}
use Rattle.room_yard.proofs.Told.{release_answers}
use Rattle.room_yard.proofs.Words.{next_word_shows}
use Rattle.plain_yard.specs.declared.seat.Drawn.{Drawn}
use Rattle.plain_yard.specs.declared.seat.Seat.{Seat}
use Rattle.plain_yard.specs.declared.yard.PlainYard.TheInside.{Inside}
use Rattle.plain_yard.specs.Seats.{release_seat}
use Rattle.plain_yard.specs.Shown.{ShownYard, view_at, IsThread}
use Rattle.plain_yard.specs.Meaning.{entries_in, drawn_before, checkpoints_up_to, view_in}
use Rattle.plain_yard.specs.Kept.{state_in, checkpoints_in, told_in, shown_yard, HasPlaces, WasHeld, IsKeptYard}
use Rattle.plain_yard.proofs.Views.{views_here, set_views}
use Rattle.plain_yard.proofs.Fields.{view_is, seat_places, seat_held}
use Rattle.plain_yard.proofs.Steps.{goes}
use Rattle.plain_yard.proofs.Grows.{all_before}

abbrev pub released_yard : Inside → ℕ → Seat → ℕ → ℕ → Inside
released_yard p i r word covered = record p { seats = with_item p.seats i r; arrival = word; covered = covered }

module _ (p : Inside) (y : ShownYard) (is : shown_yard p ≡ y) (kept : IsKeptYard p) (i : ℕ) (thread : IsThread y i) (s : Seat) (at : get_elem? p.seats.items i ≡ some s)
    (over fed : Bool) (may : MayEndEpoch (view_at y i) over fed) where
  abbrev b : Beginning
  b = p.beginning

  abbrev h : List Entry
  h = entries_in p.log.items

  abbrev v : View
  v = view_in b h i s

  may_here : MayEndEpoch v over fed
  may_here = subst (λ (z : View). MayEndEpoch z over fed) (view_is p y is i thread s at) may

  told_here : IsTold (Some (told_in p)) v
  told_here = (kept.lawful, views_here b h p.seats.items i s at)

  runs : s.ran ≡ epoch_now b (checkpoints_in p)
  runs = (kept.lawful.epochs.views i v told_here.1).runs (λ (c : s.phase ≡ Standing). let f : Standing ≡ Closing = sym c ∙ may_here.note.phase in absurd (cc))

  now : p.arrival / 2 ^ 32 ≡ epoch_now b (checkpoints_in p)
  now = kept.lawful.arrival.word.epoch

  early : s.ran + 1 < 2 ^ 32
  early = let f = epoch_fits b (state_in p) h (checkpoints_in p) kept.lawful in let r = runs in omega (arith, f, r)

  pub epoch_small : s.ran + 1 < 4294967296
  epoch_small = let f = early in omega (arith, f)

  pub few_threads : p.beginning.settings.threads ≤ 16
  few_threads = kept.lawful.bounds.beginning.settings.sizes.few_threads

  pub checkpoints_small : s.checkpoints + 1 < 4294967296
  checkpoints_small = let f = (kept.lawful.bounds.views i v told_here.1).may_release may_here.note.phase in omega (arith, f)

  abbrev word : ℕ
  word = next_word p.beginning.settings.threads over fed (s.ran + 1)

  shown : Shows word (λ j. nat_lt j p.beginning.settings.threads) false over fed (s.ran + 1)
  shown = next_word_shows p.beginning.settings.threads over fed (s.ran + 1) few_threads early

  abbrev first : ℕ
  first = first_epoch b

  abbrev epochs_done : ℕ
  epochs_done = p.arrival / 2 ^ 32 - first

  goes_on : is_set p.arrival 17 ≡ false
  goes_on = kept.lawful.arrival.word.over ∙ by (is_over b (checkpoints_in p)) refl
    where
      by : (c : Bool) → is_over b (checkpoints_in p) ≡ c → c ≡ false
      by true e = let f : Standing ≡ Closing = sym (kept.lawful.arrival.over_stands i v told_here.1 e) ∙ may_here.note.phase in absurd (cc)
      by false e = refl

  one_more : word / 2 ^ 32 - first ≡ suc epochs_done
  one_more = let a = shown.epoch in let r = runs in let n = now in omega (arith, a, r, n)

  all : drawn_before p.log.items (first + suc epochs_done) ≡ length p.log.items
  all = all_before p.log.items (first + suc epochs_done) (λ j d lt. let e = kept.epochs j d lt in let r = runs in let n = now in omega (arith, e, r, n))

  module _ (length_now : ℕ) (is_length : length_now ≡ length p.log.items) (r : Seat) (is_seat : r ≡ release_seat s) (next : ℕ) (is_next : next ≡ word) where
    abbrev q : Inside
    q = released_yard p i r next length_now

    abbrev m : Mark
    m = record { epoch = s.ran + 1; length = length p.log.items }

    answer : (w : View) × (c : Told) × IsTold (Some c) w × EndedEpoch v (Some (told_in p)) over fed m w (Some c)
    answer = release_answers (told_in p) v over fed told_here may_here

    view : view_in b h i r ≡ answer.0
    view = ap (view_in b h i) is_seat ∙ sym answer.3.view

    next_checkpoints : checkpoints_in q ≡ checkpoints_in p ++ checkpoint_at (length p.log.items) over ∷ []
    next_checkpoints = (λ j. checkpoints_up_to p.log.items first (is_set (is_next j) 17) (is_next j / 2 ^ 32 - first))
        ∙ ((λ j. checkpoints_up_to p.log.items first (shown.over j) (one_more j))
        ∙ (λ j. checkpoints_up_to p.log.items first (sym goes_on j) epochs_done ++ record { length = all j; over = over } ∷ []))

    told : told_in q ≡ answer.1
    told = (λ j. record {
      world = record { words = p.tick ∷ length p.log.items ∷ is_next j ∷ p.locks.items; rooms = p.rooms.items; views = (set_views b h p.seats.items i r ∙ ap (set (state_in p).views i) view) j };
      history = h;
      checkpoints = next_checkpoints j;
    }) ∙ sym answer.3.world.1

    pub release_kept : IsKeptYard q
    release_kept = record {
      lawful = subst (λ (z : Beginning × Told). Lawful z.0 z.1.world z.1.history z.1.checkpoints) (λ j. (ap (λ (v : View). v.beginning) (sym view) j, sym told j)) answer.2.0;
      covered = is_length ∙ (sym (last_append (checkpoints_in p) (checkpoint_at (length p.log.items) over)) ∙ ap (λ (cs : List Checkpoint). covered_by cs) (sym next_checkpoints));
      epochs = subst (λ (k : ℕ). All (λ (d : Drawn). d.epoch ≤ k / 2 ^ 32) p.log.items) (sym is_next) (λ j d lt. let e = kept.epochs j d lt in let a = shown.epoch in let r = runs in let n = now in omega (arith, e, a, r, n));
      places = All-set HasPlaces p.seats.items i r (subst HasPlaces (sym is_seat) ((seat_places p kept i s at).0, omega arith)) kept.places;
      held = All-set (WasHeld (length p.log.items)) p.seats.items i r (subst (WasHeld (length p.log.items)) (sym is_seat) (seat_held p kept i s at)) kept.held;
      room = kept.room;
      lists = kept.lists;
    }

    pub release_told : EndedEpoch (view_at y i) (Some y.told) over fed (record { epoch = s.ran + 1; length = length_now }) (view_at (shown_yard q) i) (Some (told_in q))
    release_told = goes (λ v t w u. EndedEpoch v t over fed (record { epoch = s.ran + 1; length = length_now }) w u) p y is i thread s at q r (set_here p.seats.items i r (at_inside p.seats.items i s at)) answer.0 answer.1 view told
        (subst (λ (n : ℕ). EndedEpoch v (Some (told_in p)) over fed (record { epoch = s.ran + 1; length = n }) answer.0 (Some answer.1)) (sym is_length) answer.3)
