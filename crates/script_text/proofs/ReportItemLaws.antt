-- The entries, marks and held rooms that are read are written so, and what is written so is read.
use Rattle.std.proofs.Common.{◌≡◌, ℕ, zero, suc, ◌+◌, ◌-◌, ◌<◌, ◌≤◌, ◌^◌, Bool, true, false, cond, leb, eqb, ◌&&◌, List, [], ◌∷◌, ◌++◌, map, take, drop, Result, Ok, Err, length, refl, sym, ap, ◌∙◌, arith, subst, inl, inr, codes, rules}
use Rattle.std.specs.List.{All}
use Rattle.std.specs.Str.{bytes_eq}
use Rattle.std.specs.Fmt.{decimal}
use Rattle.std.proofs.lemmas.Bool.{leb-true, le-leb, eqb-true, eq-eqb, cases_lt}
use Rattle.std.proofs.lemmas.List.Elements.{All-head, All-tail, All-cons}
use Rattle.seq_object.specs.declared.history.Entry.{Entry}
use Rattle.life_model.specs.declared.life.Mark.{Mark}
use Rattle.life_model.specs.Life.{AreRising, lengths, marks_from}
use Rattle.life_model.specs.Present.{AreAscending}
use Rattle.script_text.specs.declared.fault.ScriptFault.{ScriptFault}
use Rattle.script_text.specs.Pieces.{words}
use Rattle.script_text.specs.Faults.{bad_setting, out_of_range, ◌>>=◌, fault}
use Rattle.script_text.specs.Reading.{Left, number_at}
use Rattle.script_text.specs.Head.{setting_of_words}
use Rattle.script_text.specs.Text.{spaced, setting_words}
use Rattle.script_text.specs.ReportText.{entry_line, saved_line, held_line, item_lines, command_and_reply}
use Rattle.script_text.specs.ReportLimits.{last_epoch, room_limit, IsPlacedEntry, IsEntryOfWords}
use Rattle.script_text.specs.ReportReading.{begins_with, named_of_words, entry_at, mark_at, items_among, items_at, held_among, held_at}
use Rattle.script_text.proofs.Free.{free, and_left, and_right, and_both, joined-pieces, pieces-joined, solid-decimal, AreFree-solid, cut_at}
use Rattle.script_text.proofs.Fronts.{with_front_and_rest}
use Rattle.script_text.proofs.NumberLaws.{bind_ok, bind_to, guard_ok, ok_is, done, number_ok, number_again}
use Rattle.script_text.proofs.LineLaws.{same_bytes, bytes_same, chosen, line_again, setting_words_ok, setting_words_again}
use Rattle.script_text.proofs.MarkLaws.{top}
use Rattle.script_text.proofs.ReportEntryLaws.{entry_ok, entry_again}
use Rattle.script_text.proofs.ReportSteps.{with_items, with_none, entry_step, mark_step, with_no_room, held_step}

-- ---- a number behind its name

-- a number that was read behind its name has these words
pub named_ok : (line : ℕ) (name : List ℕ) (ws : List (List ℕ)) (n : ℕ) → named_of_words line name ws ≡ Ok n → (ws ≡ setting_words name n) × (n < 2 ^ 64)
named_ok line name [] n e = absurd cc
named_ok line name (a ∷ []) n e = absurd cc
named_ok line name (a ∷ b ∷ []) n e =
    let g = guard_ok (bytes_eq a name) (number_at line b) (fault line bad_setting) n e in
    let got = number_ok line b n g.1 in
    (ap (λ (w : List ℕ). w ∷ b ∷ []) (same_bytes a name g.0) ∙ ap (λ (w : List ℕ). name ∷ w ∷ []) got.0, got.1)
named_ok line name (a ∷ b ∷ c ∷ ws) n e = absurd cc

-- a number behind its name is read
pub named_again : (line : ℕ) (name : List ℕ) (n : ℕ) → n < 2 ^ 64 → named_of_words line name (setting_words name n) ≡ Ok n
named_again line name n small =
    ap (λ (b : Bool). cond b (number_at line (decimal n)) (Err (fault line bad_setting))) (bytes_same name) ∙ number_again line n small

-- the words of a name and a number are cut again
pub named_words : (name : List ℕ) (n : ℕ) → free 32 name ≡ true → n < 2 ^ 64 → words (spaced (setting_words name n)) ≡ setting_words name n
named_words name n clear small = pieces-joined 32 name (decimal n ∷ []) (clear, AreFree-solid 32 (decimal n ∷ []) (omega arith) (solid-decimal n small, tt))

-- ---- marks

-- a mark that was read is written as its line
mark_ok : (line last seen : ℕ) (text : List ℕ) (m : Mark) → mark_at line last seen text ≡ Ok m → (text ≡ saved_line m.epoch) × (m.epoch ≡ last + 1) × (m.epoch ≤ last_epoch) × (m.length ≡ seen)
mark_ok line last seen text m e =
    let n = bind_ok (named_of_words line (codes "saved") (words text)) _ m e in
    let got = named_ok line (codes "saved") (words text) n.0 n.1 in
    let g = guard_ok (eqb n.0 (last + 1) && leb n.0 last_epoch) (Ok (record { epoch = n.0; length = seen })) (fault line out_of_range) m n.2 in
    let is : n.0 ≡ last + 1 = eqb-true n.0 (last + 1) (and_left (eqb n.0 (last + 1)) (leb n.0 last_epoch) g.0) in
    let below = leb-true n.0 last_epoch (and_right (eqb n.0 (last + 1)) (leb n.0 last_epoch) g.0) in
    let found : Mark = record { epoch = n.0; length = seen } in
    subst (λ (m : Mark). (text ≡ saved_line m.epoch) × (m.epoch ≡ last + 1) × (m.epoch ≤ last_epoch) × (m.length ≡ seen)) (ok_is found m g.1)
    (joined-pieces 32 text (setting_words (codes "saved") n.0) got.0, is, omega (arith, below), refl)

-- the line of a mark is read as that mark
mark_again : (line last : ℕ) (m : Mark) → m.epoch ≡ last + 1 → m.epoch ≤ last_epoch → mark_at line last m.length (saved_line m.epoch) ≡ Ok m
mark_again line last m is below =
    let small : m.epoch < 2 ^ 64 = omega (arith, below) in
    let go : (eqb m.epoch (last + 1) && leb m.epoch last_epoch) ≡ true = and_both (eqb m.epoch (last + 1)) (leb m.epoch last_epoch) (eq-eqb m.epoch (last + 1) is) (le-leb m.epoch last_epoch below) in
    bind_to (named_of_words line (codes "saved") (words (saved_line m.epoch))) _ m.epoch (done m) (ap (named_of_words line (codes "saved")) (named_words (codes "saved") m.epoch refl small) ∙ named_again line (codes "saved") m.epoch small)
    (ap (λ (b : Bool). cond b (done m) (Err (fault line out_of_range))) go)

-- an entry in front of marks that cover it
entry_in_front : (seen high : ℕ) (e : Entry) (es : List Entry) (ms : List Mark) → AreRising (seen + 1) (lengths ms) high → item_lines seen (e ∷ es) ms ≡ entry_line e ∷ item_lines (seen + 1) es ms
entry_in_front seen high e es [] rising = refl
entry_in_front seen high e es (m ∷ ms) rising =
    let more : m.length - seen ≡ suc (m.length - (seen + 1)) = omega (arith, rising.0) in
    ap (λ (k : ℕ). map entry_line (take k (e ∷ es)) ++ (saved_line m.epoch ∷ item_lines m.length (drop k (e ∷ es)) ms)) more

-- a mark in front of all entries that are left
mark_in_front : (seen : ℕ) (es : List Entry) (m : Mark) (ms : List Mark) → m.length ≡ seen → item_lines seen es (m ∷ ms) ≡ saved_line m.epoch ∷ item_lines seen es ms
mark_in_front seen es m ms is =
    let none : m.length - seen ≡ 0 = omega (arith, is) in
    ap (λ (k : ℕ). map entry_line (take k es) ++ (saved_line m.epoch ∷ item_lines m.length (drop k es) ms)) none
    ∙ ap (λ (n : ℕ). saved_line m.epoch ∷ item_lines n es ms) is

-- marks that rise from here on rise from below
pub rising_from : (low seen : ℕ) (ns : List ℕ) (high top : ℕ) → low ≤ seen → high ≡ top → AreRising seen ns high → AreRising low ns top
rising_from low seen [] high top below same h = omega (arith, same)
rising_from low seen (n ∷ ns) high top below same h = (omega (arith, h.0), subst (AreRising n ns) same h.1)

-- a mark whose epoch follows this one, and those that follow it
mark_from : (last : ℕ) (m : Mark) (ms : List Mark) → m.epoch ≡ last + 1 → ms ≡ marks_from (m.epoch + 1) (lengths ms) → (m ∷ ms) ≡ marks_from (last + 1) (lengths (m ∷ ms))
mark_from last m ms next others =
    let second : m.epoch + 1 ≡ suc (last + 1) = omega (arith, next) in
    ap (λ (ns : List Mark). m ∷ ns) (others ∙ ap (λ (n : ℕ). marks_from n (lengths ms)) second) ∙ ap (λ (n : ℕ). record { epoch = n; length = m.length } ∷ marks_from (suc (last + 1)) (lengths ms)) next

-- entries and marks behind so many entries and this epoch, and what is left behind them
pub record TakesItems (last seen : ℕ) (ps : List (List ℕ)) (es : List Entry) (ms : List Mark) (behind : Left) : Type 0 where
  pub takes : ps ≡ item_lines seen es ms ++ behind.pieces
  pub rising : AreRising seen (lengths ms) (seen + length es)
  pub epochs : ms ≡ marks_from (last + 1) (lengths ms)
  pub few : last + length ms ≤ last_epoch
  pub placed : All IsPlacedEntry es
  pub fits : All IsEntryOfWords es

-- entries and marks that were read are written as the lines that were taken
pub items_ok : (last seen : ℕ) (ps : List (List ℕ)) (n : ℕ) (es : List Entry) (ms : List Mark) (behind : Left) → last ≤ last_epoch → items_among last seen ps n ≡ Ok ((es, ms), behind) → TakesItems last seen ps es ms behind
items_ok last seen [] n es ms behind small e = absurd cc
items_ok last seen (p ∷ []) n es ms behind small e = absurd cc
items_ok last seen (p ∷ q ∷ ps) n es ms behind small e =
    let here : Left = record { pieces = p ∷ q ∷ ps; line = n } in
    let stop : Result ((List Entry × List Mark) × Left) ScriptFault = Ok (([], []), here) in
    let on_entry : Result ((List Entry × List Mark) × Left) ScriptFault = entry_at n p >>= λ entry. items_among last (seen + 1) (q ∷ ps) (n + 1) >>= λ others. Ok ((entry ∷ others.0.0, others.0.1), others.1) in
    let on_mark : Result ((List Entry × List Mark) × Left) ScriptFault = mark_at n last seen p >>= λ mark. items_among mark.epoch seen (q ∷ ps) (n + 1) >>= λ others. Ok ((others.0.0, mark ∷ others.0.1), others.1) in
    elim (chosen (begins_with (codes "entry") (words p)) on_entry (cond (begins_with (codes "saved") (words p)) on_mark stop) (Ok ((es, ms), behind)) e) [
      | inl at ↦
          let c = bind_ok (entry_at n p) _ ((es, ms), behind) at.1 in
          let o = bind_ok (items_among last (seen + 1) (q ∷ ps) (n + 1)) _ ((es, ms), behind) c.2 in
          let first = entry_ok n p c.0 c.1 in
          let rest = items_ok last (seen + 1) (q ∷ ps) (n + 1) o.0.0.0 o.0.0.1 o.0.1 small o.1 in
          subst (λ (x : (List Entry × List Mark) × Left). TakesItems last seen (p ∷ q ∷ ps) x.0.0 x.0.1 x.1) (ok_is ((c.0 ∷ o.0.0.0, o.0.0.1), o.0.1) ((es, ms), behind) o.2)
          (record {
            takes = ap (λ (t : List ℕ). t ∷ q ∷ ps) first.0 ∙ ap (λ (ts : List (List ℕ)). entry_line c.0 ∷ ts) rest.takes ∙ ap (λ (ts : List (List ℕ)). ts ++ o.0.1.pieces) (sym (entry_in_front seen (seen + 1 + length o.0.0.0) c.0 o.0.0.0 o.0.0.1 rest.rising));
            rising = rising_from seen (seen + 1) (lengths o.0.0.1) (seen + 1 + length o.0.0.0) (seen + length (c.0 ∷ o.0.0.0)) (omega arith) (omega arith) rest.rising;
            epochs = rest.epochs;
            few = rest.few;
            placed = All-cons IsPlacedEntry c.0 o.0.0.0 first.1 rest.placed;
            fits = All-cons IsEntryOfWords c.0 o.0.0.0 first.2 rest.fits;
          })
      | inr other ↦ elim (chosen (begins_with (codes "saved") (words p)) on_mark stop (Ok ((es, ms), behind)) other.1) [
        | inl at ↦
            let c = bind_ok (mark_at n last seen p) _ ((es, ms), behind) at.1 in
            let o = bind_ok (items_among c.0.epoch seen (q ∷ ps) (n + 1)) _ ((es, ms), behind) c.2 in
            let first = mark_ok n last seen p c.0 c.1 in
            let rest = items_ok c.0.epoch seen (q ∷ ps) (n + 1) o.0.0.0 o.0.0.1 o.0.1 first.2 o.1 in
            subst (λ (x : (List Entry × List Mark) × Left). TakesItems last seen (p ∷ q ∷ ps) x.0.0 x.0.1 x.1) (ok_is ((o.0.0.0, c.0 ∷ o.0.0.1), o.0.1) ((es, ms), behind) o.2)
            (record {
              takes = ap (λ (t : List ℕ). t ∷ q ∷ ps) first.0 ∙ ap (λ (ts : List (List ℕ)). saved_line c.0.epoch ∷ ts) rest.takes ∙ ap (λ (ts : List (List ℕ)). ts ++ o.0.1.pieces) (sym (mark_in_front seen o.0.0.0 c.0 o.0.0.1 first.3));
              rising = (omega (arith, first.3), subst (λ (k : ℕ). AreRising k (lengths o.0.0.1) (seen + length o.0.0.0)) (sym first.3) rest.rising);
              epochs = mark_from last c.0 o.0.0.1 first.1 rest.epochs;
              few = omega (arith, rest.few, first.1);
              placed = rest.placed;
              fits = rest.fits;
            })
        | inr none ↦ subst (λ (x : (List Entry × List Mark) × Left). TakesItems last seen (p ∷ q ∷ ps) x.0.0 x.0.1 x.1) (ok_is (([], []), here) ((es, ms), behind) none.1)
            (record { takes = refl; rising = omega arith; epochs = refl; few = omega (arith, small); placed = search rules; fits = search rules })
      ]
    ]

-- ---- and back

-- at the front stands a line of neither an entry nor a mark, and more follows it
abbrev pub StopsItems : List (List ℕ) → Type 0
StopsItems [] = ⊥
StopsItems (p ∷ ps) = (begins_with (codes "entry") (words p) ≡ false) × (begins_with (codes "saved") (words p) ≡ false) × (0 < length ps)

-- something is left where the entries and marks end
some_left : (front more : List (List ℕ)) → StopsItems more → 0 < length (front ++ more)
some_left [] [] stops = absurd stops
some_left [] (p ∷ ps) stops = omega arith
some_left (l ∷ ls) more stops = omega arith

pub record ReadsItems (last seen : ℕ) (left : Left) (es : List Entry) (ms : List Mark) (more : List (List ℕ)) : Type 0 where
  pub line : ℕ
  pub reads : items_at last seen left ≡ Ok ((es, ms), record { pieces = more; line = line })

-- no entry and no mark is read where their lines end at once
stop_again : (last seen : ℕ) (left : Left) (more : List (List ℕ)) → left.pieces ≡ more → StopsItems more → items_at last seen left ≡ Ok (([], []), record { pieces = more; line = left.line })
stop_again last seen left [] is stops = absurd stops
stop_again last seen left (p ∷ []) is stops = absurd (omega (arith, stops.2))
stop_again last seen left (p ∷ q ∷ ps) is stops =
    ap (λ (ps : List (List ℕ)). items_among last seen ps left.line) is ∙ rw (stops.0, stops.1) refl

-- the line of an entry is read, and then what follows it
entry_then : (last seen : ℕ) (left : Left) (e : Entry) (es : List Entry) (ms : List Mark) (rest more : List (List ℕ)) → IsPlacedEntry e → IsEntryOfWords e → left.pieces ≡ entry_line e ∷ rest → 0 < length rest
    → ReadsItems last (seen + 1) (record { pieces = rest; line = left.line + 1 }) es ms more → ReadsItems last seen left (e ∷ es) ms more
entry_then last seen left e es ms rest more placed fits is some others =
    let behind : Left = record { pieces = rest; line = left.line + 1 } in
    let begins : begins_with (codes "entry") (words (entry_line e)) ≡ true = ap (begins_with (codes "entry")) (cut_at 32 (codes "entry") (decimal e.thread ++ (32 ∷ (decimal e.index ++ (32 ∷ command_and_reply e)))) refl) in
    let taken : entry_at left.line (entry_line e) ≡ Ok e = entry_again left.line e placed fits in
    record {
      line = others.line;
      reads = sym (with_none (items_at last seen left)) ∙ entry_step last seen left (entry_line e) behind e [] [] (line_again left (entry_line e) rest is some) begins taken ∙ ap (with_items (e ∷ []) []) others.reads;
    }

-- the line of a mark is read, and then what follows it
mark_then : (last : ℕ) (left : Left) (m : Mark) (es : List Entry) (ms : List Mark) (rest more : List (List ℕ)) → m.epoch ≡ last + 1 → m.epoch ≤ last_epoch → left.pieces ≡ saved_line m.epoch ∷ rest → 0 < length rest
    → ReadsItems m.epoch m.length (record { pieces = rest; line = left.line + 1 }) es ms more → ReadsItems last m.length left es (m ∷ ms) more
mark_then last left m es ms rest more next below is some others =
    let behind : Left = record { pieces = rest; line = left.line + 1 } in
    let other : begins_with (codes "entry") (words (saved_line m.epoch)) ≡ false = ap (begins_with (codes "entry")) (cut_at 32 (codes "saved") (decimal m.epoch) refl) in
    let begins : begins_with (codes "saved") (words (saved_line m.epoch)) ≡ true = ap (begins_with (codes "saved")) (cut_at 32 (codes "saved") (decimal m.epoch) refl) in
    let taken : mark_at left.line last m.length (saved_line m.epoch) ≡ Ok m = mark_again left.line last m next below in
    record {
      line = others.line;
      reads = sym (with_none (items_at last m.length left)) ∙ mark_step last m.length left (saved_line m.epoch) behind m [] [] (line_again left (saved_line m.epoch) rest is some) other begins taken ∙ ap (with_items [] (m ∷ [])) others.reads;
    }

-- entries and marks that may be read from here on
pub record AreItems (last seen : ℕ) (es : List Entry) (ms : List Mark) : Type 0 where
  pub rising : AreRising seen (lengths ms) (seen + length es)
  pub epochs : ms ≡ marks_from (last + 1) (lengths ms)
  pub few : last + length ms ≤ last_epoch
  pub placed : All IsPlacedEntry es
  pub fits : All IsEntryOfWords es

-- behind an entry that no mark stands in front of
behind_entry : (last seen : ℕ) (e : Entry) (es : List Entry) (ms : List Mark) → AreItems last seen (e ∷ es) ms → AreRising (seen + 1) (lengths ms) (seen + length (e ∷ es)) → AreItems last (seen + 1) es ms
behind_entry last seen e es ms are rising = record {
  rising = rising_from (seen + 1) (seen + 1) (lengths ms) (seen + length (e ∷ es)) (seen + 1 + length es) (omega arith) (omega arith) rising;
  epochs = are.epochs;
  few = are.few;
  placed = All-tail IsPlacedEntry e es are.placed;
  fits = All-tail IsEntryOfWords e es are.fits;
}

-- behind a mark of all entries above it
behind_mark : (last : ℕ) (es : List Entry) (m : Mark) (ms : List Mark) → AreItems last m.length es (m ∷ ms) → (m.epoch ≡ last + 1) × (m.epoch ≤ last_epoch) × AreItems m.epoch m.length es ms
behind_mark last es m ms are =
    let next : m.epoch ≡ last + 1 = ap (λ (ms : List Mark). first_epoch ms) are.epochs in
    let others : ms ≡ marks_from (suc (last + 1)) (lengths ms) = ap (λ (ms : List Mark). drop 1 ms) are.epochs in (
      next,
      omega (arith, next, are.few),
      record {
        rising = are.rising.1;
        epochs = others ∙ ap (λ (k : ℕ). marks_from k (lengths ms)) (omega (arith, next));
        few = omega (arith, next, are.few);
        placed = are.placed;
        fits = are.fits;
      },
    )
  where
    first_epoch : List Mark → ℕ
    first_epoch [] = 0
    first_epoch (m ∷ ms) = m.epoch

-- a mark at the front is read, and then what follows it
mark_front : (last seen : ℕ) (left : Left) (es : List Entry) (m : Mark) (ms : List Mark) (more : List (List ℕ)) → AreItems last seen es (m ∷ ms) → left.pieces ≡ item_lines seen es (m ∷ ms) ++ more → StopsItems more → m.length ≡ seen
    → ((rest : Left) → AreItems m.epoch m.length es ms → rest.pieces ≡ item_lines m.length es ms ++ more → ReadsItems m.epoch m.length rest es ms more) → ReadsItems last seen left es (m ∷ ms) more
mark_front last seen left es m ms more are is stops here others =
    let rest = item_lines m.length es ms ++ more in
    let behind = behind_mark last es m ms (subst (λ (k : ℕ). AreItems last k es (m ∷ ms)) (sym here) are) in
    let front : left.pieces ≡ saved_line m.epoch ∷ rest =
    is ∙ ap (λ (k : ℕ). item_lines k es (m ∷ ms) ++ more) (sym here) ∙ ap (λ (ls : List (List ℕ)). ls ++ more) (mark_in_front m.length es m ms refl) in
    subst (λ (k : ℕ). ReadsItems last k left es (m ∷ ms) more) here
    (mark_then last left m es ms rest more behind.0 behind.1 front (some_left (item_lines m.length es ms) more stops) (others (record { pieces = rest; line = left.line + 1 }) behind.2 refl))

-- the lines of entries and marks are read as those, where there are at most so many of both
items_within : (n last seen : ℕ) (left : Left) (es : List Entry) (ms : List Mark) (more : List (List ℕ)) → length es + length ms ≤ n → AreItems last seen es ms → left.pieces ≡ item_lines seen es ms ++ more → StopsItems more → ReadsItems last seen left es ms more
items_within n last seen left [] [] more few are is stops = record { line = left.line; reads = stop_again last seen left more is stops }
items_within zero last seen left (e ∷ es) ms more few are is stops = absurd (omega (arith, few))
items_within zero last seen left [] (m ∷ ms) more few are is stops = absurd (omega (arith, few))
items_within (suc n) last seen left (e ∷ es) [] more few are is stops =
    let rest = item_lines (seen + 1) es [] ++ more in
    entry_then last seen left e es [] rest more (All-head IsPlacedEntry e es are.placed) (All-head IsEntryOfWords e es are.fits) is (some_left (item_lines (seen + 1) es []) more stops)
    (items_within n last (seen + 1) (record { pieces = rest; line = left.line + 1 }) es [] more (omega (arith, few)) (behind_entry last seen e es [] are (omega arith)) refl stops)
items_within (suc n) last seen left [] (m ∷ ms) more few are is stops =
    let here : m.length ≡ seen = omega (arith, are.rising.0, top m.length (lengths ms) (seen + 0) are.rising.1) in
    mark_front last seen left [] m ms more are is stops here (λ rest others on. items_within n m.epoch m.length rest [] ms more (omega (arith, few)) others on stops)
items_within (suc n) last seen left (e ∷ es) (m ∷ ms) more few are is stops = elim (cases_lt seen m.length) [
  | inl below ↦
      let rising : AreRising (seen + 1) (lengths (m ∷ ms)) (seen + length (e ∷ es)) = (omega (arith, below), are.rising.1) in
      let rest = item_lines (seen + 1) es (m ∷ ms) ++ more in
      entry_then last seen left e es (m ∷ ms) rest more (All-head IsPlacedEntry e es are.placed) (All-head IsEntryOfWords e es are.fits)
      (is ∙ ap (λ (ls : List (List ℕ)). ls ++ more) (entry_in_front seen (seen + length (e ∷ es)) e es (m ∷ ms) rising))
      (some_left (item_lines (seen + 1) es (m ∷ ms)) more stops)
      (items_within n last (seen + 1) (record { pieces = rest; line = left.line + 1 }) es (m ∷ ms) more (omega (arith, few)) (behind_entry last seen e es (m ∷ ms) are rising) refl stops)
  | inr ge ↦
      let here : m.length ≡ seen = omega (arith, ge, are.rising.0) in
      mark_front last seen left (e ∷ es) m ms more are is stops here (λ rest others on. items_within n m.epoch m.length rest (e ∷ es) ms more (omega (arith, few)) others on stops)
]

-- the lines of entries and marks are read as those
pub items_again : (last seen : ℕ) (left : Left) (es : List Entry) (ms : List Mark) (more : List (List ℕ)) → AreItems last seen es ms → left.pieces ≡ item_lines seen es ms ++ more → StopsItems more → ReadsItems last seen left es ms more
items_again last seen left es ms more are is stops = items_within (length es + length ms) last seen left es ms more (omega arith) are is stops

-- ---- held rooms

-- rooms that ascend from low on
abbrev AscendFrom : ℕ → List ℕ → Type 0
AscendFrom low [] = Unit {0}
AscendFrom low (r ∷ rs) = (low ≤ r) × (r < room_limit) × AscendFrom (r + 1) rs

-- they ascend
pub ascending_of : (low : ℕ) (rs : List ℕ) → AscendFrom low rs → AreAscending rs × All (λ room. room < room_limit) rs
ascending_of low [] h = (tt, search rules)
ascending_of low (r ∷ []) h = (tt, All-cons (λ room. room < room_limit) r [] h.1 (search rules))
ascending_of low (r ∷ s ∷ rs) h =
    let rest = ascending_of (r + 1) (s ∷ rs) h.2 in
    ((omega (arith, h.2.0), rest.0), All-cons (λ room. room < room_limit) r (s ∷ rs) h.1 rest.1)

-- rooms that ascend do so from below the first
pub ascends_from : (low : ℕ) (r : ℕ) (rs : List ℕ) → low ≤ r → AreAscending (r ∷ rs) → All (λ room. room < room_limit) (r ∷ rs) → AscendFrom low (r ∷ rs)
ascends_from low r [] below up all = (below, All-head (λ room. room < room_limit) r [] all, tt)
ascends_from low r (s ∷ rs) below up all =
    (below, All-head (λ room. room < room_limit) r (s ∷ rs) all, ascends_from (r + 1) s rs (omega (arith, up.0)) up.1 (All-tail (λ room. room < room_limit) r (s ∷ rs) all))

-- rooms that ascend do so from 0 on
pub ascends : (rs : List ℕ) → AreAscending rs → All (λ room. room < room_limit) rs → AscendFrom 0 rs
ascends [] up all = tt
ascends (r ∷ rs) up all = ascends_from 0 r rs (omega arith) up all

-- held rooms that were read are written as the lines that were taken
pub held_ok : (low : ℕ) (ps : List (List ℕ)) (n : ℕ) (rs : List ℕ) (behind : Left) → held_among low ps n ≡ Ok (rs, behind) → (ps ≡ map held_line rs ++ behind.pieces) × AscendFrom low rs
held_ok low [] n rs behind e = absurd cc
held_ok low (p ∷ []) n rs behind e = absurd cc
held_ok low (p ∷ q ∷ ps) n rs behind e =
    let here : Left = record { pieces = p ∷ q ∷ ps; line = n } in
    let on_room : Result (List ℕ × Left) ScriptFault = setting_of_words n (codes "held") low 25 (words p) >>= λ room. held_among (room + 1) (q ∷ ps) (n + 1) >>= λ others. Ok (room ∷ others.0, others.1) in
    elim (chosen (begins_with (codes "held") (words p)) on_room (Ok ([], here)) (Ok (rs, behind)) e) [
      | inl at ↦
          let c = bind_ok (setting_of_words n (codes "held") low 25 (words p)) _ (rs, behind) at.1 in
          let o = bind_ok (held_among (c.0 + 1) (q ∷ ps) (n + 1)) _ (rs, behind) c.2 in
          let first = setting_words_ok n (codes "held") low 25 (words p) c.0 c.1 in
          let rest = held_ok (c.0 + 1) (q ∷ ps) (n + 1) o.0.0 o.0.1 o.1 in
          subst (λ (x : List ℕ × Left). ((p ∷ q ∷ ps) ≡ map held_line x.0 ++ x.1.pieces) × AscendFrom low x.0) (ok_is (c.0 ∷ o.0.0, o.0.1) (rs, behind) o.2) (
            ap (λ (t : List ℕ). t ∷ q ∷ ps) (joined-pieces 32 p (setting_words (codes "held") c.0) first.0) ∙ ap (λ (ts : List (List ℕ)). held_line c.0 ∷ ts) rest.0,
            (first.1, omega (arith, first.2), rest.1),
          )
      | inr other ↦ subst (λ (x : List ℕ × Left). ((p ∷ q ∷ ps) ≡ map held_line x.0 ++ x.1.pieces) × AscendFrom low x.0) (ok_is ([], here) (rs, behind) other.1) (refl, tt)
    ]

-- at the front stands a line of no held room, and more follows it
abbrev pub StopsHeld : List (List ℕ) → Type 0
StopsHeld [] = ⊥
StopsHeld (p ∷ ps) = (begins_with (codes "held") (words p) ≡ false) × (0 < length ps)

-- something is left where the held rooms end
pub rooms_left : (front more : List (List ℕ)) → StopsHeld more → 0 < length (front ++ more)
rooms_left [] [] stops = absurd stops
rooms_left [] (p ∷ ps) stops = omega arith
rooms_left (l ∷ ls) more stops = omega arith

pub record ReadsHeld (low : ℕ) (left : Left) (rs : List ℕ) (more : List (List ℕ)) : Type 0 where
  pub line : ℕ
  pub reads : held_at low left ≡ Ok (rs, record { pieces = more; line = line })

-- no room is read where their lines end at once
room_stop : (low : ℕ) (left : Left) (more : List (List ℕ)) → left.pieces ≡ more → StopsHeld more → held_at low left ≡ Ok ([], record { pieces = more; line = left.line })
room_stop low left [] is stops = absurd stops
room_stop low left (p ∷ []) is stops = absurd (omega (arith, stops.1))
room_stop low left (p ∷ q ∷ ps) is stops = ap (λ (ps : List (List ℕ)). held_among low ps left.line) is ∙ rw (stops.0) refl

-- the lines of held rooms are read as those
pub held_again : (low : ℕ) (left : Left) (rs : List ℕ) (more : List (List ℕ)) → AscendFrom low rs → left.pieces ≡ map held_line rs ++ more → StopsHeld more → ReadsHeld low left rs more
held_again low left [] more up is stops = record { line = left.line; reads = room_stop low left more is stops }
held_again low left (r ∷ rs) more up is stops =
    let rest = map held_line rs ++ more in
    let behind : Left = record { pieces = rest; line = left.line + 1 } in
    let small : r < 2 ^ 64 = omega (arith, up.1) in
    let begins : begins_with (codes "held") (words (held_line r)) ≡ true = ap (begins_with (codes "held")) (cut_at 32 (codes "held") (decimal r) refl) in
    let taken : setting_of_words left.line (codes "held") low 25 (words (held_line r)) ≡ Ok r =
    ap (setting_of_words left.line (codes "held") low 25) (named_words (codes "held") r refl small) ∙ setting_words_again left.line (codes "held") low 25 r small up.0 (omega (arith, up.1)) in
    let others = held_again (r + 1) behind rs more up.2 refl stops in
    record {
      line = others.line;
      reads = sym (with_no_room (held_at low left)) ∙ held_step low left (held_line r) behind r [] (line_again left (held_line r) rest is (rooms_left (map held_line rs) more stops)) begins taken ∙ ap (with_front_and_rest (r ∷ [])) others.reads;
    }
