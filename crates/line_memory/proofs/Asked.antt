-- The list of the lines with something asked for, behind each change of a bank, and that a fence of these lines is one of all lines.
use Rattle.std.proofs.Common.{◌≡◌, ℕ, ◌+◌, ◌<◌, ◌≤◌, Bool, true, false, nat_eq, nat_lt, ◌||◌, ◌&&◌, zero, suc, drop, drop-cons, List, [], ◌∷◌, ◌++◌, length, map, set, get_or, min, sum_by, if◌then◌else◌, refl, ap, sym, subst, ◌∙◌, true≢false, inl, inr, arith, add-zero, get_or-set_same, get_or-set_other, length-set}
use Rattle.std.specs.List.{list_any}
use Rattle.std.proofs.lemmas.Bool.{cases_lt, ltb-false}
use Rattle.std.proofs.lemmas.Bool.Decides.{eqb_tells, nat_tests}
use Rattle.std.proofs.lemmas.List.{map-set, set-get_or, ext_get_or, get_or-map, get_or_past, length-map, length-append}
use Rattle.std.proofs.lemmas.List.Sums.{sum_by-set, sum_by-cons}
use Rattle.std.proofs.lemmas.List.Folds.{list_any-append}
use Rattle.std.proofs.lemmas.Grind.{common_steps}
use Rattle.line_memory.specs.Line.{LineState, line_at, no_line, fenced, written_back, quiet_line}
use Rattle.line_memory.specs.Asked.{HasAsked, AreWithin, AreAllAsked, asks_once, fenced_at, is_first_ask}

-- each line counts once at most
few_asked : (lines : List LineState) → sum_by asks_once lines ≤ length lines
few_asked [] = omega arith
few_asked (l ∷ lines) =
    let rest = few_asked lines in
    let here : sum_by asks_once (l ∷ lines) ≡ asks_once l + sum_by asks_once lines = sum_by-cons asks_once l lines in
    omega (arith, rest, here)

-- a line with nothing asked for is not counted, so there are fewer in the list than lines
pub place_left : (lines : List LineState) (asked : List ℕ) (room i : ℕ) → HasAsked lines asked room → i < length lines → (line_at lines i).asked ≡ 0 → length asked < room
place_left lines asked room i has lt none =
    let one : LineState = record no_line { asked = 1 } in
    let more : sum_by asks_once (set lines i one) + asks_once (line_at lines i) ≡ sum_by asks_once lines + 1 = sum_by-set asks_once lines i one no_line lt in
    let most = few_asked (set lines i one) in
    let count = has.count in
    let fits = has.places in
    omega (arith, more, most, length-set lines i one, count, fits, ap (λ (n : ℕ). min 1 n) none)

zero_sum : (lines : List LineState) → ((i : ℕ) → (line_at lines i).asked ≡ 0) → sum_by asks_once lines ≡ 0
zero_sum [] none = refl
zero_sum (l ∷ lines) none =
    let here = none 0 in
    let rest = zero_sum lines (λ i. none (suc i)) in
    let sums : sum_by asks_once (l ∷ lines) ≡ asks_once l + sum_by asks_once lines = sum_by-cons asks_once l lines in
    omega (arith, here, rest, sums)

-- with nothing asked for the list is empty
pub none_asked : (lines : List LineState) (room : ℕ) → ((i : ℕ) → (line_at lines i).asked ≡ 0) → length lines ≤ room → HasAsked lines [] room
none_asked lines room none fits = record {
  within = tt;
  all = λ i some. let no = none i in absurd (omega (arith, some, no));
  count = sym (zero_sum lines none);
  places = fits;
}

-- quiet lines
pub quiet_asked : (bases : List (List ℕ)) (room : ℕ) → length bases ≤ room → HasAsked (map quiet_line bases) [] room
quiet_asked bases room fits = none_asked (map quiet_line bases) room none (let count = length-map bases quiet_line in omega (arith, count, fits))
  where
    none : (i : ℕ) → (line_at (map quiet_line bases) i).asked ≡ 0
    none i = elim (cases_lt i (length bases)) [
      | inl lt ↦ ap (λ (l : LineState). l.asked) (get_or-map quiet_line bases i [] no_line lt)
      | inr ge ↦ ap (λ (l : LineState). l.asked) (get_or_past (map quiet_line bases) i no_line (simp length-map ge))
    ]

-- lines that are fenced
pub fenced_asked : (lines : List LineState) (room : ℕ) → length lines ≤ room → HasAsked (map fenced lines) [] room
fenced_asked lines room fits = none_asked (map fenced lines) room none (let count = length-map lines fenced in omega (arith, count, fits))
  where
    none : (i : ℕ) → (line_at (map fenced lines) i).asked ≡ 0
    none i = elim (cases_lt i (length lines)) [
      | inl lt ↦ ap (λ (l : LineState). l.asked) (get_or-map fenced lines i no_line no_line lt)
      | inr ge ↦ ap (λ (l : LineState). l.asked) (get_or_past (map fenced lines) i no_line (simp length-map ge))
    ]

pub within_count : (lines lines' : List LineState) (asked : List ℕ) → length lines' ≡ length lines → AreWithin lines asked → AreWithin lines' asked
within_count lines lines' [] count h = tt
within_count lines lines' (i ∷ is) count h = (let here = h.0 in omega (arith, here, count), within_count lines lines' is count h.1)

within_push : (lines : List LineState) (asked : List ℕ) (i : ℕ) → i < length lines → AreWithin lines asked → AreWithin lines (asked ++ i ∷ [])
within_push lines [] i lt h = (lt, tt)
within_push lines (j ∷ js) i lt h = (h.0, within_push lines js i lt h.1)

-- the line at a place of the list
pub within_at : (lines : List LineState) (asked : List ℕ) (k : ℕ) → AreWithin lines asked → k < length asked → get_or asked k 0 < length lines
within_at lines [] k h lt = absurd (omega arith)
within_at lines (i ∷ is) zero h lt = h.0
within_at lines (i ∷ is) (suc k) h lt = within_at lines is k h.1 (omega arith)

-- the asked number behind a change of one line
asked_behind : (lines : List LineState) (i : ℕ) (k : LineState) → i < length lines → (j : ℕ) → (j ≡ i → (line_at (set lines i k) j).asked ≡ k.asked) × ((j ≡ i → ⊥) → (line_at (set lines i k) j).asked ≡ (line_at lines j).asked)
asked_behind lines i k lt j = (
  λ is. ap (λ (n : ℕ). (line_at (set lines i k) n).asked) is ∙ ap (λ (l : LineState). l.asked) (get_or-set_same lines i k no_line lt),
  λ other. ap (λ (l : LineState). l.asked) (get_or-set_other lines i j k no_line other),
)

-- a change of a line that counts as before
pub asked_kept : (lines : List LineState) (asked : List ℕ) (room i : ℕ) (k : LineState) → HasAsked lines asked room → i < length lines → asks_once k ≡ asks_once (line_at lines i) → HasAsked (set lines i k) asked room
asked_kept lines asked room i k has lt same = record {
  within = within_count lines (set lines i k) asked (length-set lines i k) has.within;
  all = λ j some. elim (eqb_tells j i) [
    | inl h ↦
        let new : 0 < k.asked = subst (λ (n : ℕ). 0 < n) ((asked_behind lines i k lt j).0 h.1) some in
        let old : 0 < (line_at lines i).asked = omega (arith, new, same) in
        has.all j (subst (λ (n : ℕ). 0 < (line_at lines n).asked) (sym h.1) old)
    | inr h ↦ has.all j (subst (λ (n : ℕ). 0 < n) ((asked_behind lines i k lt j).1 h.1) some)
  ];
  count = let sums = sum_by-set asks_once lines i k no_line lt in let count = has.count in omega (arith, sums, count, same);
  places = let fits = has.places in omega (arith, fits, length-set lines i k);
}

-- a line that asks for the first time joins the list
asked_more : (lines : List LineState) (asked : List ℕ) (room i : ℕ) (k : LineState) → HasAsked lines asked room → i < length lines → (line_at lines i).asked ≡ 0 → 0 < k.asked → HasAsked (set lines i k) (asked ++ i ∷ []) room
asked_more lines asked room i k has lt none some_now = record {
  within = within_push (set lines i k) asked i (let count = length-set lines i k in omega (arith, count, lt)) (within_count lines (set lines i k) asked (length-set lines i k) has.within);
  all = λ j some. elim (eqb_tells j i) [
    | inl h ↦ list_any-append (nat_eq j) asked (i ∷ []) ∙ ap (λ (b : Bool). list_any (nat_eq j) asked || (b || false)) h.0 ∙ or_true (list_any (nat_eq j) asked)
    | inr h ↦ list_any-append (nat_eq j) asked (i ∷ []) ∙ ap (λ (b : Bool). b || (nat_eq j i || false)) (has.all j (subst (λ (n : ℕ). 0 < n) ((asked_behind lines i k lt j).1 h.1) some))
  ];
  count =
      let sums = sum_by-set asks_once lines i k no_line lt in
      let count = has.count in
      let longer = length-append asked (i ∷ []) in
      omega (arith, sums, count, longer, none, some_now);
  places = let fits = has.places in omega (arith, fits, length-set lines i k);
}
  where
    or_true : (b : Bool) → (b || true) ≡ true
    or_true true = refl
    or_true false = refl

first_true : (l : LineState) → is_first_ask l ≡ true → (l.asked ≡ 0) × (0 < length l.pending)
first_true l h = (grind (arith, nat_tests, common_steps, h), grind (arith, nat_tests, common_steps, h))

first_false : (l : LineState) → l.asked ≤ length l.pending → is_first_ask l ≡ false → asks_once (written_back l) ≡ asks_once l
first_false l le h = elim (eqb_tells l.asked 0) [
  | inl none ↦
      let no : length l.pending ≤ 0 = ltb-false 0 (length l.pending) (ap (λ (b : Bool). b && nat_lt 0 (length l.pending)) (sym none.0) ∙ h) in
      let zero_is = none.1 in
      omega (arith, no, zero_is)
  | inr some ↦ let not_zero = some.1 in omega (arith, not_zero, le)
]

-- the list behind a write-back
pub asked_written : (lines : List LineState) (asked : List ℕ) (room i : ℕ) → HasAsked lines asked room → i < length lines → (line_at lines i).asked ≤ length (line_at lines i).pending
    → HasAsked (set lines i (written_back (line_at lines i))) (if is_first_ask (line_at lines i) then asked ++ i ∷ [] else asked) room
asked_written lines asked room i has lt le = by (is_first_ask l) refl
  where
    l : LineState
    l = line_at lines i

    by : (b : Bool) → is_first_ask l ≡ b → HasAsked (set lines i (written_back l)) (if b then asked ++ i ∷ [] else asked) room
    by true h = let both = first_true l h in asked_more lines asked room i (written_back l) has lt both.0 both.1
    by false h = asked_kept lines asked room i (written_back l) has lt (first_false l le h)

-- there is a place for a line that asks for the first time
pub first_fits : (lines : List LineState) (asked : List ℕ) (room i : ℕ) → HasAsked lines asked room → i < length lines → is_first_ask (line_at lines i) ≡ true → length asked < room
first_fits lines asked room i has lt h = place_left lines asked room i has lt (first_true (line_at lines i) h).0

-- a fence of a line with nothing asked for changes nothing
fenced_once : (l : LineState) → l.asked ≡ 0 → fenced l ≡ l
fenced_once l none =
    subst (λ (n : ℕ). fenced (record l { asked = n }) ≡ record l { asked = n }) (sym none) (ap (λ (n : ℕ). record l { asked = 0; spare = n }) (add-zero l.spare))

-- a fence of the lines with something asked for is one of all lines
pub fenced_all : (asked : List ℕ) (lines : List LineState) → AreWithin lines asked → AreAllAsked lines asked → fenced_at asked lines ≡ map fenced lines
fenced_all [] lines within all = ext_get_or no_line lines (map fenced lines) (sym (length-map lines fenced)) (λ i lt. sym (get_or-map fenced lines i no_line no_line lt ∙ fenced_once (line_at lines i) (none i)))
  where
    none : (i : ℕ) → (line_at lines i).asked ≡ 0
    none i = elim (cases_lt 0 (line_at lines i).asked) [ inl some ↦ absurd (true≢false (sym (all i some))) | inr ge ↦ omega (arith, ge) ]
fenced_all (i ∷ is) lines within all =
    let made : List LineState = set lines i (fenced (line_at lines i)) in
    fenced_all is made (within_count lines made is (length-set lines i (fenced (line_at lines i))) within.1) (rest (λ j. asked_behind lines i (fenced (line_at lines i)) within.0 j))
    ∙ map-set fenced lines i (fenced (line_at lines i))
    ∙ ap (λ (l : LineState). set (map fenced lines) i l) (fenced_once (fenced (line_at lines i)) refl ∙ sym (get_or-map fenced lines i no_line no_line within.0))
    ∙ set-get_or (map fenced lines) i no_line
  where
    made : List LineState
    made = set lines i (fenced (line_at lines i))

    rest : ((j : ℕ) → (j ≡ i → (line_at made j).asked ≡ 0) × ((j ≡ i → ⊥) → (line_at made j).asked ≡ (line_at lines j).asked)) → AreAllAsked made is
    rest behind j some = elim (eqb_tells j i) [
      | inl h ↦ let none = (behind j).0 h.1 in absurd (omega (arith, some, none))
      | inr h ↦ sym (ap (λ (b : Bool). b || list_any (nat_eq j) is) h.0) ∙ all j (subst (λ (n : ℕ). 0 < n) ((behind j).1 h.1) some)
    ]

-- one more line of the list is fenced
pub fenced_next : (lines : List LineState) (asked : List ℕ) (k : ℕ) → k < length asked
    → fenced_at (drop k asked) lines ≡ fenced_at (drop (suc k) asked) (set lines (get_or asked k 0) (fenced (line_at lines (get_or asked k 0))))
fenced_next lines asked k lt = ap (λ (is : List ℕ). fenced_at is lines) (drop-cons asked k 0 lt)
