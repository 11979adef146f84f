-- The epoch line behind each event, and what a cut leaves of it.
use Rattle.std.proofs.Common.{◌≡◌, ℕ, ◌+◌, ◌<◌, ◌≤◌, zero, suc, List, [], ◌∷◌, length, take, drop, get_or, set, arith, refl, ap, sym, ◌∙◌, subst, inl, inr, ◌⊎◌, get_or-set_same, length-set}
use Rattle.std.proofs.lemmas.Bool.{cases_lt}
use Rattle.std.proofs.lemmas.List.{get_or-map, length-map}
use Rattle.line_memory.specs.declared.store.Store.{Store}
use Rattle.line_memory.specs.Line.{BankState, LineState, AreLines, IsLine, applied, latest, loaded, survivor, store_to, fenced, no_line, bank_fenced}
use Rattle.epoch_word.specs.SuperLine.{IsEpochLine, IsSuperRoom, IsAsked, IsInMemory, SurvivorLaw, NextLaw}
use Rattle.room_model.specs.EpochLine.{epoch_line, loaded_epoch}

-- the store of the next epoch
abbrev next_store : LineState → List Store
next_store l = store_to 0 (get_or l.base 0 0 + 1) ∷ []

-- with nothing pending the load is what memory holds
pub none_loaded : (l : LineState) → l.pending ≡ [] → loaded l 0 ≡ get_or l.base 0 0
none_loaded l none = ap (λ (ss : List Store). latest (get_or l.base 0 0) 0 ss) none

-- with the next epoch's store pending the load is the next epoch
next_loaded : (l : LineState) → l.pending ≡ next_store l → loaded l 0 ≡ get_or l.base 0 0 + 1
next_loaded l next = ap (λ (ss : List Store). latest (get_or l.base 0 0) 0 ss) next

-- of nothing, nothing is taken, and nothing dropped
nothing_taken : (k : ℕ) (ss : List Store) → ss ≡ [] → take k ss ≡ []
nothing_taken zero ss h = refl
nothing_taken (suc k) ss h = subst (λ (ts : List Store). take (suc k) ts ≡ []) (sym h) refl

nothing_dropped : (k : ℕ) (ss : List Store) → ss ≡ [] → drop k ss ≡ []
nothing_dropped zero ss h = h
nothing_dropped (suc k) ss h = subst (λ (ts : List Store). drop (suc k) ts ≡ []) (sym h) refl

-- what the line keeps of nothing, and of one store
pub none_left : (l : LineState) (k : ℕ) → l.pending ≡ [] → survivor l k ≡ l.base
none_left l k none = ap (λ (ss : List Store). applied l.base ss) (nothing_taken k l.pending none)

next_left : (l : LineState) (k : ℕ) → length l.base ≡ 8 → l.pending ≡ next_store l → (get_or (survivor l k) 0 0 ≡ get_or l.base 0 0) ⊎ (get_or (survivor l k) 0 0 ≡ get_or l.base 0 0 + 1)
next_left l zero eight next = inl refl
next_left l (suc k) eight next = inr (
    ap (λ (ss : List Store). get_or (applied l.base (take (suc k) ss)) 0 0) next
    ∙ ap (λ (ss : List Store). get_or (applied (set l.base 0 (get_or l.base 0 0 + 1)) ss) 0 0) (nothing_taken k [] refl)
    ∙ get_or-set_same l.base 0 (get_or l.base 0 0 + 1) 0 (omega arith)
    )

pub survivor_law : SurvivorLaw
survivor_law bank kept room = elim room.line.pending [
  | inl none ↦ inl (ap (λ (ws : List ℕ). get_or ws 0 0) (none_left (epoch_line bank) kept none))
  | inr next ↦ elim (next_left (epoch_line bank) kept room.line.eight next) [
    | inl before ↦ inl before
    | inr after ↦ inr (after ∙ sym (next_loaded (epoch_line bank) next))
  ]
]

pub next_law : NextLaw
next_law bank room = elim room.line.pending [
  | inl none ↦ inl (none_loaded (epoch_line bank) none)
  | inr next ↦ inr (next_loaded (epoch_line bank) next)
]

-- what a fence makes of the line
pub record IsFenced (old new : LineState) : Type 0 where
  pub line : IsEpochLine new
  pub load : loaded new 0 ≡ loaded old 0
  pub held : old.asked ≡ length old.pending → (get_or new.base 0 0 ≡ loaded new 0) × (new.pending ≡ [])

-- a line with nothing pending
fenced_none : (l : LineState) → IsEpochLine l → l.pending ≡ [] → IsFenced l (fenced l)
fenced_none l line none =
    let base : (fenced l).base ≡ l.base = none_left l l.asked none in
    let gone : (fenced l).pending ≡ [] = nothing_dropped l.asked l.pending none in
    let load : loaded (fenced l) 0 ≡ get_or l.base 0 0 = none_loaded (fenced l) gone ∙ ap (λ (ws : List ℕ). get_or ws 0 0) base in
    let was : loaded l 0 ≡ get_or l.base 0 0 = none_loaded l none in
    record {
      line = record {
        eight = ap (λ (ws : List ℕ). length ws) base ∙ line.eight;
        some = subst (λ (ws : List ℕ). 1 ≤ get_or ws 0 0) (sym base) line.some;
        fits = let fits = line.fits in omega (arith, load, was, fits);
        pending = inl gone;
        room = let room = line.room in let zero_is = ap (λ (ss : List Store). length ss) none in omega (arith, room, zero_is);
      };
      load = load ∙ sym was;
      held = λ asked. (sym (none_loaded (fenced l) gone), gone);
    }

-- a line whose next epoch was not asked for
fenced_unasked : (l : LineState) → IsEpochLine l → l.pending ≡ next_store l → l.asked ≡ 0 → IsFenced l (fenced l)
fenced_unasked l line next none =
    let base : (fenced l).base ≡ l.base = ap (λ (k : ℕ). survivor l k) none in
    let pending : (fenced l).pending ≡ l.pending = ap (λ (k : ℕ). drop k l.pending) none in
    let told : (fenced l).pending ≡ next_store (fenced l) = pending ∙ next ∙ ap (λ (ws : List ℕ). store_to 0 (get_or ws 0 0 + 1) ∷ []) (sym base) in
    let load : loaded (fenced l) 0 ≡ loaded l 0 = next_loaded (fenced l) told ∙ ap (λ (ws : List ℕ). get_or ws 0 0 + 1) base ∙ sym (next_loaded l next) in
    record {
      line = record {
        eight = ap (λ (ws : List ℕ). length ws) base ∙ line.eight;
        some = subst (λ (ws : List ℕ). 1 ≤ get_or ws 0 0) (sym base) line.some;
        fits = let fits = line.fits in omega (arith, load, fits);
        pending = inr told;
        room = let one = ap (λ (ss : List Store). length ss) told in omega (arith, one);
      };
      load = load;
      held = λ asked. let one = ap (λ (ss : List Store). length ss) next in absurd (omega (arith, asked, one, none));
    }

-- a line whose next epoch was asked for
fenced_asked : (l : LineState) → IsEpochLine l → l.pending ≡ next_store l → l.asked ≡ 1 → IsFenced l (fenced l)
fenced_asked l line next one =
    let e : ℕ = get_or l.base 0 0 in
    let base : (fenced l).base ≡ set l.base 0 (e + 1) = ap (λ (k : ℕ). survivor l k) one ∙ ap (λ (ss : List Store). applied l.base (take 1 ss)) next in
    let gone : (fenced l).pending ≡ [] = ap (λ (k : ℕ). drop k l.pending) one ∙ ap (λ (ss : List Store). drop 1 ss) next in
    let eight = line.eight in
    let value : get_or (fenced l).base 0 0 ≡ e + 1 = ap (λ (ws : List ℕ). get_or ws 0 0) base ∙ get_or-set_same l.base 0 (e + 1) 0 (omega (arith, eight)) in
    let load : loaded (fenced l) 0 ≡ e + 1 = none_loaded (fenced l) gone ∙ value in
    let was : loaded l 0 ≡ e + 1 = next_loaded l next in
    record {
      line = record {
        eight = ap (λ (ws : List ℕ). length ws) base ∙ length-set l.base 0 (e + 1) ∙ line.eight;
        some = omega (arith, value);
        fits = let fits = line.fits in omega (arith, load, was, fits);
        pending = inl gone;
        room = omega (arith, one);
      };
      load = load ∙ sym was;
      held = λ asked. (sym (none_loaded (fenced l) gone), gone);
    }

pub fenced_line : (l : LineState) → IsLine l → IsEpochLine l → IsFenced l (fenced l)
fenced_line l is line = elim line.pending [
  | inl none ↦ fenced_none l line none
  | inr next ↦
      let one = ap (λ (ss : List Store). length ss) next in
      let most = is.asked in
      elim (cases_lt l.asked 1) [
        | inl less ↦ fenced_unasked l line next (omega (arith, less))
        | inr more ↦ fenced_asked l line next (omega (arith, more, most, one))
      ]
]

-- what a fence makes of the room
pub record HasFenced (old new : BankState) : Type 0 where
  pub room : IsSuperRoom new
  pub epoch : loaded_epoch new ≡ loaded_epoch old
  pub held : IsAsked old → IsInMemory new

pub fence_law : (bank new : BankState) → IsSuperRoom bank → new ≡ bank_fenced bank → AreLines new.lines → HasFenced bank new
fence_law bank new room made lines =
    let one = room.one in
    let within : 0 < length bank.lines = omega (arith, one) in
    let l : LineState = epoch_line bank in
    let is : epoch_line new ≡ fenced l = ap (λ (b : BankState). epoch_line b) made ∙ get_or-map fenced bank.lines 0 no_line no_line within in
    let line = subst (λ (k : LineState). IsFenced l k) (sym is) (fenced_line l (room.lines 0 within) room.line) in
    record {
      room = record { lines = lines; one = ap (λ (b : BankState). length b.lines) made ∙ length-map bank.lines fenced ∙ room.one; line = line.line };
      epoch = line.load;
      held = λ asked. record { held = (line.held asked).0; quiet = (line.held asked).1 };
    }
