-- A draw of a plain yard.
use Rattle.std.proofs.Common.{◌≡◌, ℕ, ◌+◌, ◌-◌, ◌/◌, ◌^◌, ◌<◌, ◌≤◌, List, [], ◌∷◌, ◌++◌, length, set, get_or, sym, ap, ◌∙◌, subst, arith, Option, Some, None, length-append}
use Rattle.std.specs.List.{All}
use Rattle.std.specs.Vec.{vec_len, vec_capacity, with_item}
use Rattle.std.specs.Global.{Vec}
use Rattle.std.proofs.lemmas.List.{map-append, length-map}
use Rattle.std.proofs.lemmas.List.Elements.{All-set, All-push}
use mathlib.Core.Option.{some}
use lib.ListN.{get_elem?}
use Rattle.seq_object.specs.declared.history.Entry.{Entry}
use Rattle.restart_point.specs.ArrivalWord.{is_set}
use Rattle.yard_model.specs.declared.view.Phase.TheVariants.{Standing, Running}
use Rattle.yard_model.specs.declared.view.Beginning.{Beginning}
use Rattle.yard_model.specs.declared.view.View.{View}
use Rattle.yard_model.specs.Beginnings.{first_epoch, epoch_now, covered_by}
use Rattle.yard_model.specs.Lawful.{Lawful}
use Rattle.yard_model.specs.Views.{drew}
use Rattle.yard_laws.proofs.Lists.{at_inside, set_here}
use Rattle.room_yard.specs.Told.{Told, IsTold}
use Rattle.room_yard.specs.Calls.{MayDrawEntry}
use Rattle.room_yard.specs.Answers.{Drew}
use Rattle.room_yard.proofs.Told.{draw_answers}
use Rattle.plain_yard.specs.declared.seat.Drawn.{Drawn}
use Rattle.plain_yard.specs.declared.seat.Holding.{Holding}
use Rattle.plain_yard.specs.declared.seat.Seat.{Seat}
use Rattle.plain_yard.specs.declared.yard.PlainYard.TheInside.{Inside}
use Rattle.plain_yard.specs.Seats.{draws, draw_seat}
use Rattle.plain_yard.specs.Shown.{ShownYard, view_at, IsThread}
use Rattle.plain_yard.specs.Meaning.{entries_in, checkpoints_up_to, view_in, views_in}
use Rattle.plain_yard.specs.Kept.{state_in, checkpoints_in, told_in, shown_yard, HasPlaces, HeldBefore, WasHeld, IsKeptYard}
use Rattle.plain_yard.proofs.Views.{views_here}
use Rattle.plain_yard.proofs.Fields.{view_is, seat_places, seat_held}
use Rattle.plain_yard.proofs.Steps.{goes}
use Rattle.plain_yard.proofs.Fits.{one_more_fits}
use Rattle.plain_yard.proofs.Grows.{views_grow, drew_view, checkpoints_more}

abbrev pub drawn_yard : Inside → ℕ → Seat → Vec Drawn → Inside
drawn_yard p i r log = record p { seats = with_item p.seats i r; log = log }

-- what was held before is still
held_later : (m n : ℕ) → m ≤ n → (o : Option Holding) → HeldBefore m o → HeldBefore n o
held_later m n le None held = held
held_later m n le (Some k) held = (let a = held.0 in omega (arith, a, le), let a = held.1 in omega (arith, a, le))

module _ (p : Inside) (y : ShownYard) (is : shown_yard p ≡ y) (kept : IsKeptYard p) (i : ℕ) (thread : IsThread y i) (s : Seat) (at : get_elem? p.seats.items i ≡ some s)
    (e : Entry) (may : MayDrawEntry (view_at y i) e) where
  abbrev b : Beginning
  b = p.beginning

  abbrev h : List Entry
  h = entries_in p.log.items

  abbrev v : View
  v = view_in b h i s

  may_here : MayDrawEntry v e
  may_here = subst (λ (z : View). MayDrawEntry z e) (view_is p y is i thread s at) may

  told_here : IsTold (Some (told_in p)) v
  told_here = (kept.lawful, views_here b h p.seats.items i s at)

  number : length h ≡ length p.log.items
  number = length-map p.log.items (λ (d : Drawn). d.entry)

  pub fits : vec_len p.log < vec_capacity p.log
  fits = let f = one_more_fits b (state_in p) h (checkpoints_in p) kept.lawful i v may_here.0 e told_here.1 may_here.1 in let r = kept.room in let o = p.log.ok.0 in omega (arith, f, r, o)

  pub quota_left : 0 < s.quota
  quota_left = may_here.1.quota

  abbrev d : Drawn
  d = record { entry = e; epoch = s.ran }

  runs : s.ran ≡ epoch_now b (checkpoints_in p)
  runs = (kept.lawful.epochs.views i v told_here.1).runs (λ (c : s.phase ≡ Standing). let f : Standing ≡ Running = sym c ∙ may_here.1.phase in absurd (cc))

  now : p.arrival / 2 ^ 32 ≡ epoch_now b (checkpoints_in p)
  now = kept.lawful.arrival.word.epoch

  module _ (place : ℕ) (is_place : place ≡ length p.log.items) (r : Seat) (is_seat : r ≡ draw_seat place e s) (log : Vec Drawn) (items : log.items ≡ p.log.items ++ d ∷ []) (room : vec_capacity log ≡ vec_capacity p.log) where
    abbrev q : Inside
    q = drawn_yard p i r log

    answer : (w : View) × (c : Told) × IsTold (Some c) w × Drew v (Some (told_in p)) e (length p.log.items) w (Some c)
    answer = draw_answers (told_in p) v e told_here may_here

    entries : entries_in log.items ≡ h ++ e ∷ []
    entries = ap entries_in items ∙ map-append (λ (d : Drawn). d.entry) p.log.items (d ∷ [])

    longer : length log.items ≡ length p.log.items + 1
    longer = ap (λ (l : List Drawn). length l) items ∙ length-append p.log.items (d ∷ [])

    held : All (WasHeld (length h)) p.seats.items
    held = subst (λ (n : ℕ). All (WasHeld n) p.seats.items) (sym number) kept.held

    view : view_in b (entries_in log.items) i r ≡ answer.0
    view = (λ j. view_in b (entries j) i (is_seat j)) ∙ (drew_view b h e i s may_here.0 place may_here.1.thread (is_place ∙ sym number) (subst (λ (n : ℕ). WasHeld n s) (sym number) (seat_held p kept i s at)) may_here.1.held
        ∙ (ap (λ (n : ℕ). drew v may_here.0 n e) is_place ∙ sym (answer.3.view may_here.0 may_here.1.held)))

    same_checkpoints : checkpoints_in q ≡ checkpoints_in p
    same_checkpoints = ap (λ (l : List Drawn). checkpoints_up_to l (first_epoch b) (is_set p.arrival 17) (p.arrival / 2 ^ 32 - first_epoch b)) items
        ∙ checkpoints_more d p.log.items (first_epoch b) (is_set p.arrival 17) (p.arrival / 2 ^ 32 - first_epoch b) (let a = runs in let c = now in omega (arith, a, c))

    told : told_in q ≡ answer.1
    told = (λ j. record {
      world = record {
        words = p.tick ∷ longer j ∷ p.arrival ∷ p.locks.items;
        rooms = p.rooms.items;
        views = (ap (λ (es : List Entry). views_in b es 0 (set p.seats.items i r)) entries ∙ (views_grow b h e p.seats.items i r may_here.1.thread held
            ∙ ap (set (state_in p).views i) (ap (λ (es : List Entry). view_in b es i r) (sym entries) ∙ view))) j;
      };
      history = entries j;
      checkpoints = same_checkpoints j;
    }) ∙ sym answer.3.world.1

    pub draw_kept : IsKeptYard q
    draw_kept = record {
      lawful = subst (λ (z : Beginning × Told). Lawful z.0 z.1.world z.1.history z.1.checkpoints) (λ j. (ap (λ (v : View). v.beginning) (sym view) j, sym told j)) answer.2.0;
      covered = kept.covered ∙ ap (λ cs. covered_by cs) (sym same_checkpoints);
      epochs = subst (λ (l : List Drawn). All (λ (d : Drawn). d.epoch ≤ p.arrival / 2 ^ 32) l) (sym items) (All-push (λ (d : Drawn). d.epoch ≤ p.arrival / 2 ^ 32) p.log.items d kept.epochs (let a = runs in let c = now in omega (arith, a, c)));
      places = All-set HasPlaces p.seats.items i r (subst HasPlaces (sym is_seat) (seat_places p kept i s at)) kept.places;
      held = All-set (WasHeld (length log.items)) p.seats.items i r (subst (WasHeld (length log.items)) (sym is_seat) (drawn_held s.holding (seat_held p kept i s at))) (λ j c lt. later (get_or p.seats.items j c) (kept.held j c lt));
      room = let a = kept.room in omega (arith, a, room);
      lists = kept.lists;
    }
      where
        later : (c : Seat) → WasHeld (length p.log.items) c → WasHeld (length log.items) c
        later c = held_later (length p.log.items) (length log.items) (omega (arith, longer)) c.holding

        drawn_held : (o : Option Holding) → HeldBefore (length p.log.items) o → HeldBefore (length log.items) (draws place e o)
        drawn_held None f = f
        drawn_held (Some k) f = held_later (length p.log.items) (length log.items) (omega (arith, longer)) (Some k) f

    pub draw_told : Drew (view_at y i) (Some y.told) e place (view_at (shown_yard q) i) (Some (told_in q))
    draw_told = goes (λ v t w u. Drew v t e place w u) p y is i thread s at q r (set_here p.seats.items i r (at_inside p.seats.items i s at)) answer.0 answer.1 view told
        (subst (λ (n : ℕ). Drew v (Some (told_in p)) e n answer.0 (Some answer.1)) (sym is_place) answer.3)
