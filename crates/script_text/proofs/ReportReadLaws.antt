-- The report that is read is written so, and what is written so is read.
use Rattle.std.proofs.Common.{◌≡◌, ℕ, suc, ◌+◌, ◌-◌, ◌<◌, ◌≤◌, ◌^◌, Bool, true, false, cond, List, [], ◌∷◌, ◌++◌, map, take, drop, Result, Ok, Err, length, refl, sym, ap, ◌∙◌, arith, subst, inl, inr, codes, append_assoc}
use Rattle.std.specs.List.{All}
use Rattle.std.specs.Str.{bytes_eq}
use Rattle.std.specs.Fmt.{decimal}
use Rattle.std.proofs.lemmas.List.Elements.{All-head, All-tail, All-take, All-drop}
use Rattle.seq_object.specs.declared.history.Entry.{Entry}
use Rattle.life_model.specs.declared.life.Mark.{Mark}
use Rattle.life_model.specs.declared.life.Outcome.{Outcome}
use Rattle.life_model.specs.declared.life.Outcome.TheVariants as outcomes
use Rattle.life_model.specs.Life.{lengths, marks_from}
use Rattle.life_model.specs.Told.{ReportState}
use Rattle.script_text.specs.declared.fault.ScriptFault.{ScriptFault}
use Rattle.script_text.specs.Pieces.{pieces, words}
use Rattle.script_text.specs.Faults.{bad_head, no_command, ◌>>=◌, fault}
use Rattle.script_text.specs.Reading.{Left, line_at}
use Rattle.script_text.specs.Head.{fixed_line_at, setting_at}
use Rattle.script_text.specs.Text.{spaced, setting_words}
use Rattle.script_text.specs.Whole.{nothing_among}
use Rattle.script_text.specs.ReportText.{entry_line, saved_line, held_line, life_line, end_line, item_lines, last_lines, report_lines, report_bytes}
use Rattle.script_text.specs.ReportLimits.{last_epoch, room_limit, IsPlacedEntry, IsEntryOfWords, HasReportText, IsReportText}
use Rattle.script_text.specs.ReportReading.{begins_with, life_of_text, life_at, named_of_words, items_at, held_at, flushed_at, outcome_of_text, outcome_at, report_at, report_in, ReportTextLaw}
use Rattle.script_text.proofs.Free.{free, AreFree, AreFree-append, solid, free-spaced, solid-decimal, pieces-ended, ended-pieces, joined-pieces, cut_at}
use Rattle.script_text.proofs.NumberLaws.{bind_ok, bind_to, guard_ok, ok_is, done}
use Rattle.script_text.proofs.LineLaws.{same_bytes, chosen, line_ok, line_again, fixed_ok, fixed_again, setting_ok, setting_again, clear_setting}
use Rattle.script_text.proofs.WholeLaws.{nothing_ok}
use Rattle.script_text.proofs.ReportEntryLaws.{entry_free}
use Rattle.script_text.proofs.ReportItemLaws.{named_ok, named_again, named_words, items_ok, items_again, rising_from, StopsItems, StopsHeld, ascending_of, ascends, held_ok, held_again, rooms_left}

-- ---- a line that is read as a whole

-- a line that is read as a whole
abbrev text_line : {X : Type 0} → (ℕ → List ℕ → Result X ScriptFault) → Left → Result (X × Left) ScriptFault
text_line of_text left = line_at left >>= λ l. of_text left.line l.0 >>= λ x. Ok (x, l.1)

-- a line that was read stood in front
text_line_ok : {X : Type 0} (of_text : ℕ → List ℕ → Result X ScriptFault) (left : Left) (x : X) (behind : Left) → text_line of_text left ≡ Ok (x, behind) → (t : List ℕ) × (left.pieces ≡ t ∷ behind.pieces) × (of_text left.line t ≡ Ok x)
text_line_ok {X} of_text left x behind e =
    let b = bind_ok (line_at left) (λ l. of_text left.line l.0 >>= λ x. Ok (x, l.1)) (x, behind) e in
    let w = bind_ok (of_text left.line b.0.0) (λ x. Ok (x, b.0.1)) (x, behind) b.2 in
    let same = ok_is (w.0, b.0.1) (x, behind) w.2 in
    (b.0.0, line_ok left b.0.0 b.0.1 b.1 ∙ ap (λ (p : X × Left). b.0.0 ∷ p.1.pieces) same, w.1 ∙ ap (λ (p : X × Left). done p.0) same)

-- a line in front of more is read
text_line_again : {X : Type 0} (of_text : ℕ → List ℕ → Result X ScriptFault) (left : Left) (x : X) (t : List ℕ) (more : List (List ℕ)) → of_text left.line t ≡ Ok x → left.pieces ≡ t ∷ more → 0 < length more
    → text_line of_text left ≡ Ok (x, record { pieces = more; line = left.line + 1 })
text_line_again {X} of_text left x t more gives is some =
    let behind : Left = record { pieces = more; line = left.line + 1 } in
    bind_to (line_at left) (λ l. of_text left.line l.0 >>= λ x. Ok (x, l.1)) (t, behind) (done (x, behind)) (line_again left t more is some)
    (ap (λ (r : Result X ScriptFault). r >>= λ x. Ok (x, behind)) gives)

-- how a life began, by the line that was read
life_ok : (line : ℕ) (t : List ℕ) (b : Bool) → life_of_text line t ≡ Ok b → t ≡ life_line b
life_ok line t b e = elim (chosen (bytes_eq t (life_line false)) (Ok false) (cond (bytes_eq t (life_line true)) (Ok true) (Err (fault line bad_head))) (Ok b) e) [
  | inl p ↦ same_bytes t (life_line false) p.0 ∙ ap life_line (ok_is false b p.1)
  | inr p ↦ let g = guard_ok (bytes_eq t (life_line true)) (Ok true) (fault line bad_head) b p.1 in same_bytes t (life_line true) g.0 ∙ ap life_line (ok_is true b g.1)
]

-- and back
life_again : (line : ℕ) (b : Bool) → life_of_text line (life_line b) ≡ Ok b
life_again line true = refl
life_again line false = refl

-- how a life ended, by the line that was read
end_ok : (line : ℕ) (t : List ℕ) (o : Outcome) → outcome_of_text line t ≡ Ok o → t ≡ end_line o
end_ok line t o e =
    let starved_or : Result Outcome ScriptFault = cond (bytes_eq t (end_line outcomes.Starved)) (Ok outcomes.Starved) (Err (fault line no_command)) in
    let cut_or : Result Outcome ScriptFault = cond (bytes_eq t (end_line outcomes.Cut)) (Ok outcomes.Cut) starved_or in
    let stalled_or : Result Outcome ScriptFault = cond (bytes_eq t (end_line outcomes.Stalled)) (Ok outcomes.Stalled) cut_or in
    elim (chosen (bytes_eq t (end_line outcomes.Finished)) (Ok outcomes.Finished) stalled_or (Ok o) e) [
      | inl p ↦ same_bytes t (end_line outcomes.Finished) p.0 ∙ ap end_line (ok_is outcomes.Finished o p.1)
      | inr p ↦ elim (chosen (bytes_eq t (end_line outcomes.Stalled)) (Ok outcomes.Stalled) cut_or (Ok o) p.1) [
        | inl q ↦ same_bytes t (end_line outcomes.Stalled) q.0 ∙ ap end_line (ok_is outcomes.Stalled o q.1)
        | inr q ↦ elim (chosen (bytes_eq t (end_line outcomes.Cut)) (Ok outcomes.Cut) starved_or (Ok o) q.1) [
          | inl s ↦ same_bytes t (end_line outcomes.Cut) s.0 ∙ ap end_line (ok_is outcomes.Cut o s.1)
          | inr s ↦
              let g = guard_ok (bytes_eq t (end_line outcomes.Starved)) (Ok outcomes.Starved) (fault line no_command) o s.1 in
              same_bytes t (end_line outcomes.Starved) g.0 ∙ ap end_line (ok_is outcomes.Starved o g.1)
        ]
      ]
    ]

-- and back
end_again : (line : ℕ) (o : Outcome) → outcome_of_text line (end_line o) ≡ Ok o
end_again line outcomes.Finished = refl
end_again line outcomes.Stalled = refl
end_again line outcomes.Cut = refl
end_again line outcomes.Starved = refl

-- the last line was read with nothing behind it
outcome_ok : (left : Left) (o : Outcome) → outcome_at left ≡ Ok o → left.pieces ≡ end_line o ∷ [] ∷ []
outcome_ok left o e =
    let b = bind_ok (line_at left) _ o e in
    let w = bind_ok (outcome_of_text left.line b.0.0) _ o b.2 in
    let z = bind_ok (nothing_among b.0.1.pieces b.0.1.line) (λ _. Ok w.0) o w.2 in
    line_ok left b.0.0 b.0.1 b.1
    ∙ ap (λ (t : List ℕ). t ∷ b.0.1.pieces) (end_ok left.line b.0.0 w.0 w.1 ∙ ap end_line (ok_is w.0 o z.2))
    ∙ ap (λ (ps : List (List ℕ)). end_line o ∷ ps) (nothing_ok b.0.1.pieces b.0.1.line z.0 z.1)

-- the last line with nothing behind it is read
outcome_again : (left : Left) (o : Outcome) → left.pieces ≡ end_line o ∷ [] ∷ [] → outcome_at left ≡ Ok o
outcome_again left o is =
    let behind : Left = record { pieces = [] ∷ []; line = left.line + 1 } in
    bind_to (line_at left) _ (end_line o, behind) (done o) (line_again left (end_line o) ([] ∷ []) is (omega arith))
    (bind_to (outcome_of_text left.line (end_line o)) _ o (done o) (end_again left.line o) refl)

-- ---- all lines

-- the number of write-backs, by the words of its line
abbrev flushed_of_text : ℕ → List ℕ → Result ℕ ScriptFault
flushed_of_text line text = named_of_words line (codes "flushed") (words text)

-- the parts of a report's lines in another grouping
regroup : (is hs ls : List (List ℕ)) → (is ++ (hs ++ ls)) ++ [] ∷ [] ≡ is ++ (hs ++ (ls ++ [] ∷ []))
regroup is hs ls = append_assoc is (hs ++ ls) ([] ∷ []) ∙ ap (λ (xs : List (List ℕ)). is ++ xs) (append_assoc hs ls ([] ∷ []))

-- what was read are a report's lines
report_ok : (left : Left) (r : ReportState) → report_at left ≡ Ok r → (left.pieces ≡ report_lines r ++ [] ∷ []) × HasReportText r
report_ok left r e =
    let a = bind_ok (fixed_line_at bad_head (codes "respct-report 1") left) _ r e in
    let l = bind_ok (life_at a.0) _ r a.2 in
    let b = bind_ok (setting_at (codes "began") 1 last_epoch l.0.1) _ r l.2 in
    let i = bind_ok (items_at b.0.0 0 b.0.1) _ r b.2 in
    let h = bind_ok (held_at 0 i.0.1) _ r i.2 in
    let f = bind_ok (flushed_at h.0.1) _ r h.2 in
    let o = bind_ok (outcome_at f.0.1) _ r f.2 in
    let fa = fixed_ok bad_head (codes "respct-report 1") left a.0 a.1 in
    let fl = text_line_ok life_of_text a.0 l.0.0 l.0.1 l.1 in
    let fb = setting_ok (codes "began") 1 last_epoch l.0.1 b.0.0 b.0.1 b.1 in
    let fi = items_ok b.0.0 0 b.0.1.pieces b.0.1.line i.0.0.0 i.0.0.1 i.0.1 fb.2 i.1 in
    let fh = held_ok 0 i.0.1.pieces i.0.1.line h.0.0 h.0.1 h.1 in
    let ff = text_line_ok flushed_of_text h.0.1 f.0.0 f.0.1 f.1 in
    let fn = named_ok h.0.1.line (codes "flushed") (words ff.0) f.0.0 ff.2 in
    let fo = outcome_ok f.0.1 o.0 o.1 in
    let up = ascending_of 0 h.0.0 fh.1 in
    let found : ReportState = record { resumed = l.0.0; began = b.0.0; entries = i.0.0.0; marks = i.0.0.1; held = h.0.0; flushed = f.0.0; outcome = o.0 } in
    let last : h.0.1.pieces ≡ last_lines found ++ [] ∷ [] =
    ff.1 ∙ ap (λ (t : List ℕ). t ∷ f.0.1.pieces) (joined-pieces 32 ff.0 (setting_words (codes "flushed") f.0.0) fn.0) ∙ ap (λ (ps : List (List ℕ)). spaced (setting_words (codes "flushed") f.0.0) ∷ ps) fo in
    let body : b.0.1.pieces ≡ (item_lines 0 i.0.0.0 i.0.0.1 ++ (map held_line h.0.0 ++ last_lines found)) ++ [] ∷ [] =
    fi.takes ∙ ap (λ (ps : List (List ℕ)). item_lines 0 i.0.0.0 i.0.0.1 ++ ps) (fh.0 ∙ ap (λ (ps : List (List ℕ)). map held_line h.0.0 ++ ps) last)
    ∙ sym (regroup (item_lines 0 i.0.0.0 i.0.0.1) (map held_line h.0.0) (last_lines found)) in
    let lines : left.pieces ≡ report_lines found ++ [] ∷ [] =
    fa ∙ ap (λ (ps : List (List ℕ)). codes "respct-report 1" ∷ ps)
    (fl.1 ∙ ap (λ (t : List ℕ). t ∷ l.0.1.pieces) (life_ok a.0.line fl.0 l.0.0 fl.2) ∙ ap (λ (ps : List (List ℕ)). life_line l.0.0 ∷ ps)
    (fb.0 ∙ ap (λ (ps : List (List ℕ)). spaced (setting_words (codes "began") b.0.0) ∷ ps) body)) in
    let has : HasReportText found = record {
      words = (fi.fits, fn.1);
      entries = fi.placed;
      marks = rising_from 0 0 (lengths i.0.0.1) (0 + length i.0.0.0) (length i.0.0.0) (omega arith) (omega arith) fi.rising;
      epochs = fi.epochs;
      first = fb.1;
      last = fi.few;
      rooms = up.1;
      ascending = up.0;
    } in
    subst (λ (r : ReportState). (left.pieces ≡ report_lines r ++ [] ∷ []) × HasReportText r) (ok_is found r o.2) (lines, has)

-- what a text gives is the report whose text it is
pub report_found : (bytes : List ℕ) (r : ReportState) → report_in bytes ≡ Ok r → IsReportText bytes r
report_found bytes r e =
    let got = report_ok (record { pieces = pieces 10 bytes; line = 1 }) r e in
    record { within = got.1; text = ended-pieces bytes (report_lines r) got.0 }

-- ---- and back

-- the entries and marks end at a held room or at the number of write-backs
stops : (held : List ℕ) (flushed : ℕ) (more : List (List ℕ)) → 0 < length more → StopsItems (map held_line held ++ (spaced (setting_words (codes "flushed") flushed) ∷ more))
stops [] n more some = (ap (begins_with (codes "entry")) (cut_at 32 (codes "flushed") (decimal n) refl), ap (begins_with (codes "saved")) (cut_at 32 (codes "flushed") (decimal n) refl), some)
stops (r ∷ rs) n more some = (
  ap (begins_with (codes "entry")) (cut_at 32 (codes "held") (decimal r) refl),
  ap (begins_with (codes "saved")) (cut_at 32 (codes "held") (decimal r) refl),
  rooms_left (map held_line rs) (spaced (setting_words (codes "flushed") n) ∷ more) (held_stops n more some),
)
  where
    held_stops : (n : ℕ) (more : List (List ℕ)) → 0 < length more → StopsHeld (spaced (setting_words (codes "flushed") n) ∷ more)
    held_stops n more some = (ap (begins_with (codes "held")) (cut_at 32 (codes "flushed") (decimal n) refl), some)

-- the lines of a report are read as that report
report_again : (left : Left) (r : ReportState) → HasReportText r → left.pieces ≡ report_lines r ++ [] ∷ [] → report_at left ≡ Ok r
report_again left r has is =
    let ends : List (List ℕ) = end_line r.outcome ∷ [] ∷ [] in
    let last : List (List ℕ) = spaced (setting_words (codes "flushed") r.flushed) ∷ ends in
    let rooms : List (List ℕ) = map held_line r.held ++ last in
    let body : List (List ℕ) = item_lines 0 r.entries r.marks ++ rooms in
    let began : List ℕ = spaced (setting_words (codes "began") r.began) in
    let front : left.pieces ≡ codes "respct-report 1" ∷ life_line r.resumed ∷ began ∷ body =
    is ∙ ap (λ (ps : List (List ℕ)). codes "respct-report 1" ∷ life_line r.resumed ∷ began ∷ ps) (regroup (item_lines 0 r.entries r.marks) (map held_line r.held) (last_lines r)) in
    let l1 : Left = record { pieces = life_line r.resumed ∷ began ∷ body; line = left.line + 1 } in
    let l2 : Left = record { pieces = began ∷ body; line = left.line + 1 + 1 } in
    let l3 : Left = record { pieces = body; line = left.line + 1 + 1 + 1 } in
    let stop = stops r.held r.flushed ends (omega arith) in
    let items = items_again r.began 0 l3 r.entries r.marks rooms (record {
      rising = rising_from 0 0 (lengths r.marks) (length r.entries) (0 + length r.entries) (omega arith) (omega arith) has.marks;
      epochs = has.epochs;
      few = has.last;
      placed = has.entries;
      fits = has.words.0;
    }) refl stop in
    let l4 : Left = record { pieces = rooms; line = items.line } in
    let held = held_again 0 l4 r.held last (ascends r.held has.ascending has.rooms) refl (ap (begins_with (codes "held")) (cut_at 32 (codes "flushed") (decimal r.flushed) refl), omega arith) in
    let l5 : Left = record { pieces = last; line = held.line } in
    let l6 : Left = record { pieces = ends; line = held.line + 1 } in
    let all : Result ReportState ScriptFault = Ok r in
    let began_small : r.began < 2 ^ 64 = omega (arith, has.last) in
    let flushed : flushed_of_text held.line (spaced (setting_words (codes "flushed") r.flushed)) ≡ Ok r.flushed =
    ap (named_of_words held.line (codes "flushed")) (named_words (codes "flushed") r.flushed refl has.words.1) ∙ named_again held.line (codes "flushed") r.flushed has.words.1 in
    bind_to (fixed_line_at bad_head (codes "respct-report 1") left) _ l1 all (fixed_again bad_head (codes "respct-report 1") left l1.pieces front (omega arith))
    (bind_to (life_at l1) _ (r.resumed, l2) all (text_line_again life_of_text l1 r.resumed (life_line r.resumed) (began ∷ body) (life_again l1.line r.resumed) refl (omega arith))
    (bind_to (setting_at (codes "began") 1 last_epoch l2) _ (r.began, l3) all (setting_again (codes "began") 1 last_epoch l2 r.began body (clear_setting (codes "began") r.began refl began_small) began_small has.first (omega (arith, has.last)) refl (some_body (item_lines 0 r.entries r.marks) rooms stop))
    (bind_to (items_at r.began 0 l3) _ ((r.entries, r.marks), l4) all items.reads
    (bind_to (held_at 0 l4) _ (r.held, l5) all held.reads
    (bind_to (flushed_at l5) _ (r.flushed, l6) all (text_line_again flushed_of_text l5 r.flushed (spaced (setting_words (codes "flushed") r.flushed)) ends flushed refl (omega arith))
    (bind_to (outcome_at l6) _ r.outcome all (outcome_again l6 r.outcome refl) refl))))))
  where
    some_body : (front more : List (List ℕ)) → StopsItems more → 0 < length (front ++ more)
    some_body [] [] stops = absurd stops
    some_body [] (p ∷ ps) stops = omega arith
    some_body (l ∷ ls) more stops = omega arith

-- no line of entries has a line feed
entries_free : (es : List Entry) → All IsPlacedEntry es → All IsEntryOfWords es → AreFree 10 (map entry_line es)
entries_free [] placed fits = tt
entries_free (e ∷ es) placed fits =
    (entry_free e (All-head IsPlacedEntry e es placed) (All-head IsEntryOfWords e es fits), entries_free es (All-tail IsPlacedEntry e es placed) (All-tail IsEntryOfWords e es fits))

-- the line of a name and a number has no line feed
named_free : (name : List ℕ) (n : ℕ) → solid name ≡ true → n < 2 ^ 64 → free 10 (spaced (setting_words name n)) ≡ true
named_free name n above small = free-spaced (setting_words name n) (above, (solid-decimal n small, tt))

-- no line of entries and marks has a line feed
items_free : (last seen : ℕ) (es : List Entry) (ms : List Mark) → ms ≡ marks_from (last + 1) (lengths ms) → last + length ms ≤ last_epoch → All IsPlacedEntry es → All IsEntryOfWords es → AreFree 10 (item_lines seen es ms)
items_free last seen es [] epochs few placed fits = entries_free es placed fits
items_free last seen es (m ∷ ms) epochs few placed fits =
    let k = m.length - seen in
    let next : m.epoch ≡ last + 1 = ap (λ (ms : List Mark). first_epoch ms) epochs in
    let others : ms ≡ marks_from (suc (last + 1)) (lengths ms) = ap (λ (ms : List Mark). drop 1 ms) epochs in
    let next_on : suc (last + 1) ≡ last + 1 + 1 = omega arith in
    AreFree-append 10 (map entry_line (take k es)) (saved_line m.epoch ∷ item_lines m.length (drop k es) ms) (entries_free (take k es) (All-take IsPlacedEntry k es placed) (All-take IsEntryOfWords k es fits)) (
      named_free (codes "saved") m.epoch refl (omega (arith, next, few)),
      items_free (last + 1) m.length (drop k es) ms (others ∙ ap (λ (n : ℕ). marks_from n (lengths ms)) next_on) (omega (arith, few)) (All-drop IsPlacedEntry k es placed) (All-drop IsEntryOfWords k es fits),
    )
  where
    first_epoch : List Mark → ℕ
    first_epoch [] = 0
    first_epoch (m ∷ ms) = m.epoch

-- no line of a held room has a line feed
rooms_free : (rs : List ℕ) → All (λ room. room < room_limit) rs → AreFree 10 (map held_line rs)
rooms_free [] below = tt
rooms_free (r ∷ rs) below =
    let first = All-head (λ room. room < room_limit) r rs below in
    (named_free (codes "held") r refl (omega (arith, first)), rooms_free rs (All-tail (λ room. room < room_limit) r rs below))

-- no line of a report has a line feed
report_free : (r : ReportState) → HasReportText r → AreFree 10 (report_lines r)
report_free r has = (
  refl,
  (
    life_free r.resumed,
    (
      named_free (codes "began") r.began refl (omega (arith, has.last)),
      AreFree-append 10 (item_lines 0 r.entries r.marks) (map held_line r.held ++ last_lines r) (items_free r.began 0 r.entries r.marks has.epochs has.last has.entries has.words.0)
          (AreFree-append 10 (map held_line r.held) (last_lines r) (rooms_free r.held has.rooms) (named_free (codes "flushed") r.flushed refl has.words.1, (end_free r.outcome, tt))),
    ),
  ),
)
  where
    life_free : (b : Bool) → free 10 (life_line b) ≡ true
    life_free true = refl
    life_free false = refl

    end_free : (o : Outcome) → free 10 (end_line o) ≡ true
    end_free outcomes.Finished = refl
    end_free outcomes.Stalled = refl
    end_free outcomes.Cut = refl
    end_free outcomes.Starved = refl

-- a report's text gives the report
pub report_only : (bytes : List ℕ) (r : ReportState) → IsReportText bytes r → report_in bytes ≡ Ok r
report_only bytes r is =
    ap (λ (ps : List (List ℕ)). report_at (record { pieces = ps; line = 1 })) (ap (pieces 10) is.text ∙ pieces-ended (report_lines r) (report_free r is.within))
    ∙ report_again (record { pieces = report_lines r ++ [] ∷ []; line = 1 }) r is.within refl

-- a report is read from its text, what is read is written so, and no text is that of two reports
pub report_texts : ReportTextLaw
report_texts = record {
  read = λ r has. report_only (report_bytes r) r (record { within = has; text = refl });
  written = report_found;
  one = λ bytes q r is also. ok_is q r (sym (report_only bytes q is) ∙ report_only bytes r also);
}
