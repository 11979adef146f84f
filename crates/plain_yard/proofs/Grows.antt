-- What an entry more changes in what a plain yard means.
use Rattle.std.proofs.Common.{◌≡◌, ◌≢◌, ℕ, zero, suc, ◌+◌, ◌<◌, ◌≤◌, ◌-◌, cond, Bool, false, List, [], ◌∷◌, ◌++◌, length, set, sym, refl, ap, ◌∙◌, arith, Option, Some, None, eq-eqb, append-nil}
use Rattle.std.specs.Prelude.{nat_lt}
use Rattle.std.specs.List.{All}
use Rattle.std.proofs.lemmas.Bool.{ne_eqb, le-ltb, lt-ltb}
use Rattle.std.proofs.lemmas.List.{take-append-le}
use Rattle.std.proofs.lemmas.List.Sums.{sum_by_push, sum_by-cons}
use Rattle.seq_object.specs.declared.history.Entry.{Entry}
use Rattle.yard_model.specs.declared.view.Beginning.{Beginning}
use Rattle.yard_model.specs.declared.view.Grip.{Grip}
use Rattle.yard_model.specs.Entries.{placed, is_of_thread, thread_entries, room_entries}
use Rattle.yard_model.specs.Beginnings.{sizes_at}
use Rattle.yard_laws.proofs.Draw.{picked_append}
use Rattle.yard_model.specs.Views.{drew, with_drawn}
use Rattle.plain_yard.specs.declared.seat.Drawn.{Drawn}
use Rattle.plain_yard.specs.declared.seat.Holding.{Holding}
use Rattle.plain_yard.specs.declared.seat.Seat.{Seat}
use Rattle.plain_yard.specs.Seats.{draws, draw_seat}
use Rattle.plain_yard.specs.Meaning.{drawn_before, checkpoints_up_to, position_in, grip_in, view_in, views_in}
use Rattle.plain_yard.specs.Kept.{HeldBefore, WasHeld}

module _ (b : Beginning) (h : List Entry) (e : Entry) where
  abbrev longer : List Entry
  longer = h ++ e ∷ []

  own_else : (j : ℕ) → e.thread ≢ j → thread_entries j longer ≡ thread_entries j h
  own_else j n = picked_append (is_of_thread j) 0 h e ∙ (ap (λ (c : Bool). thread_entries j h ++ cond c (placed (0 + length h) e ∷ []) []) (ne_eqb e.thread j n) ∙ append-nil (thread_entries j h))

  own_here : (j : ℕ) → e.thread ≡ j → thread_entries j longer ≡ thread_entries j h ++ placed (length h) e ∷ []
  own_here j is = let z : 0 + length h ≡ length h = omega arith in picked_append (is_of_thread j) 0 h e ∙ (λ k. thread_entries j h ++ cond (eq-eqb e.thread j is k) (placed (z k) e ∷ []) [])

  grip_same : (o : Option Holding) → HeldBefore (length h) o → grip_in b longer o ≡ grip_in b h o
  grip_same None held = refl
  grip_same (Some k) held = (λ j. Some record {
    room = k.room;
    history = room_entries (sizes_at b) k.room (take-append-le k.before h (e ∷ []) held.0 j);
    covered = length (room_entries (sizes_at b) k.room (take-append-le k.covered h (e ∷ []) held.1 j));
    position = position_in k.position;
    drawn = k.drawn;
  })

  view_else : (j : ℕ) (s : Seat) → e.thread ≢ j → WasHeld (length h) s → view_in b longer j s ≡ view_in b h j s
  view_else j s n held = (λ k. record (view_in b h j s) { grip = grip_same s.holding held k; own = own_else j n k })

  views_past : (k : ℕ) (ss : List Seat) → e.thread < k → All (WasHeld (length h)) ss → views_in b longer k ss ≡ views_in b h k ss
  views_past k [] lt all = refl
  views_past k (s ∷ ss) lt all = (λ j. view_else k s (λ q. omega (arith, lt, q)) (all 0 s (omega arith)) j ∷ views_past (suc k) ss (omega (arith, lt)) (λ i d q. all (suc i) d (omega (arith, q))) j)

  views_from : (k : ℕ) (ss : List Seat) (i : ℕ) (s : Seat) → e.thread ≡ k + i → All (WasHeld (length h)) ss → views_in b longer k (set ss i s) ≡ set (views_in b h k ss) i (view_in b longer (k + i) s)
  views_from k [] i s is all = refl
  views_from k (x ∷ xs) zero s is all = let z : k ≡ k + 0 = omega arith in (λ j. view_in b longer (z j) s ∷ views_past (suc k) xs (omega (arith, is)) (λ i d q. all (suc i) d (omega (arith, q))) j)
  views_from k (x ∷ xs) (suc i) s is all = let z : suc k + i ≡ k + suc i = omega arith in
      let rest : views_in b longer (suc k) (set xs i s) ≡ set (views_in b h (suc k) xs) i (view_in b longer (k + suc i) s)
      = views_from (suc k) xs i s (is ∙ sym z) (λ i d q. all (suc i) d (omega (arith, q))) ∙ ap (λ (n : ℕ). set (views_in b h (suc k) xs) i (view_in b longer n s)) z in
      (λ j. view_else k x (λ q. omega (arith, is, q)) (all 0 x (omega arith)) j ∷ rest j)

  pub views_grow : (ss : List Seat) (i : ℕ) (s : Seat) → e.thread ≡ i → All (WasHeld (length h)) ss → views_in b longer 0 (set ss i s) ≡ set (views_in b h 0 ss) i (view_in b longer i s)
  views_grow ss i s is all = let z : 0 + i ≡ i = omega arith in views_from 0 ss i s (is ∙ sym z) all ∙ ap (λ (n : ℕ). set (views_in b h 0 ss) i (view_in b longer n s)) z

  -- the view of the thread that drew
  drew_grip : (place : ℕ) (o : Option Holding) (g : Grip) → HeldBefore (length h) o → grip_in b h o ≡ Some g → grip_in b longer (draws place e o) ≡ Some (with_drawn g (placed place e))
  drew_grip place None g held is = absurd (cc)
  drew_grip place (Some k) g held is = ap (drawn_in place) (grip_same (Some k) held ∙ is)
    where
      drawn_in : ℕ → Option Grip → Option Grip
      drawn_in place None = None
      drawn_in place (Some g) = Some (with_drawn g (placed place e))

  pub drew_view : (i : ℕ) (s : Seat) (g : Grip) (place : ℕ) → e.thread ≡ i → place ≡ length h → WasHeld (length h) s → grip_in b h s.holding ≡ Some g
      → view_in b longer i (draw_seat place e s) ≡ drew (view_in b h i s) g place e
  drew_view i s g place is at held grip = (λ j. record (view_in b h i s) {
    grip = drew_grip place s.holding g held grip j;
    own = (own_here i is ∙ ap (λ (n : ℕ). thread_entries i h ++ placed n e ∷ []) (sym at)) j;
    quota = s.quota - 1;
  })

-- an entry of this epoch or a later one counts for no mark up to it
module _ (d : Drawn) where
  before_same : (log : List Drawn) (k : ℕ) → k ≤ d.epoch → drawn_before (log ++ d ∷ []) k ≡ drawn_before log k
  before_same log k le = sum_by_push (λ (x : Drawn). cond (nat_lt x.epoch k) 1 0) log d ∙ (ap (λ (c : Bool). drawn_before log k + cond c 1 0) (le-ltb d.epoch k le) ∙ plus_none (drawn_before log k))
    where
      plus_none : (n : ℕ) → n + 0 ≡ n
      plus_none n = omega arith

  pub checkpoints_more : (log : List Drawn) (first : ℕ) (over : Bool) (n : ℕ) → first + n ≤ d.epoch → checkpoints_up_to (log ++ d ∷ []) first over n ≡ checkpoints_up_to log first over n
  checkpoints_more log first over zero le = refl
  checkpoints_more log first over (suc n) le = (λ j. checkpoints_more log first false n (omega (arith, le)) j ++ record { length = before_same log (first + suc n) le j; over = over } ∷ [])

-- where all were drawn before an epoch, that counts all
pub all_before : (log : List Drawn) (k : ℕ) → All (λ (d : Drawn). d.epoch < k) log → drawn_before log k ≡ length log
all_before [] k all = refl
all_before (x ∷ log) k all = sum_by-cons (λ (x : Drawn). cond (nat_lt x.epoch k) 1 0) x log
    ∙ ((λ j. cond (lt-ltb x.epoch k (all 0 x (omega arith)) j) 1 0 + all_before log k (λ i d q. all (suc i) d (omega (arith, q))) j) ∙ omega arith)
