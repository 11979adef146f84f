-- Reading the entries, the marks and the held rooms of a report line by line.
use Rattle.std.proofs.Common.{◌≡◌, ℕ, ◌+◌, ◌<◌, ◌==◌, true, false, List, [], ◌∷◌, ◌++◌, length, Result, Ok, Err, if◌then◌else◌, refl, sym, ap, ◌∙◌, arith, codes, append_assoc}
use Rattle.std.proofs.lemmas.List.Splits.{length-slice_split}
use Rattle.seq_object.specs.declared.history.Entry.{Entry}
use Rattle.life_model.specs.declared.life.Mark.{Mark}
use Rattle.script_text.specs.declared.fault.ScriptFault.{ScriptFault}
use Rattle.script_text.specs.Faults.{no_command, ◌>>=◌, fault}
use Rattle.script_text.specs.Pieces.{pieces, words}
use Rattle.script_text.specs.Reading.{Left, line_among, line_at}
use Rattle.script_text.specs.Head.{setting_of_words}
use Rattle.script_text.specs.ReportReading.{begins_with, entry_of_pieces, entry_at, mark_at, items_among, items_at, held_among, held_at}
use Rattle.script_text.proofs.Fronts.{with_front_and_rest, front_and_rest_more}
use Rattle.script_text.proofs.NumberLaws.{ok_is}

-- a line with two equals signs is of no entry
three_pieces : (line : ℕ) (a b : List ℕ) (ps : List (List ℕ)) → 0 < length ps → entry_of_pieces line (a ∷ b ∷ ps) ≡ Err (fault line no_command)
three_pieces line a b [] h = absurd (omega arith)
three_pieces line a b (p ∷ ps) h = refl

-- a line whose second equals sign was found is of no entry
pub no_entry_of : (line : ℕ) (text a rest b more : List ℕ) → pieces 61 text ≡ a ∷ pieces 61 rest → pieces 61 rest ≡ b ∷ pieces 61 more → entry_at line text ≡ Err (fault line no_command)
no_entry_of line text a rest b more first second =
    ap (entry_of_pieces line) (first ∙ ap (λ (ps : List (List ℕ)). a ∷ ps) second) ∙ three_pieces line a b (pieces 61 more) (omega (arith, length-slice_split (λ c. c == 61) more))

-- entries and marks that were read before, what is still read, and what is left behind it
abbrev pub with_items : List Entry → List Mark → Result ((List Entry × List Mark) × Left) ScriptFault → Result ((List Entry × List Mark) × Left) ScriptFault
with_items entries marks read = read >>= λ x. Ok ((entries ++ x.0.0, marks ++ x.0.1), x.1)

-- nothing was read before
pub with_none : (read : Result ((List Entry × List Mark) × Left) ScriptFault) → with_items [] [] read ≡ read
with_none (Ok x) = refl
with_none (Err f) = refl

-- one entry more is in front
entry_more : (entries : List Entry) (marks : List Mark) (e : Entry) (read : Result ((List Entry × List Mark) × Left) ScriptFault)
    → with_items entries marks (read >>= λ x. Ok ((e ∷ x.0.0, x.0.1), x.1)) ≡ with_items (entries ++ e ∷ []) marks read
entry_more entries marks e (Ok x) = ap (λ (es : List Entry). Ok ((es, marks ++ x.0.1), x.1)) (sym (append_assoc entries (e ∷ []) x.0.0))
entry_more entries marks e (Err f) = refl

-- one mark more is in front
mark_more : (entries : List Entry) (marks : List Mark) (m : Mark) (read : Result ((List Entry × List Mark) × Left) ScriptFault)
    → with_items entries marks (read >>= λ x. Ok ((x.0.0, m ∷ x.0.1), x.1)) ≡ with_items entries (marks ++ m ∷ []) read
mark_more entries marks m (Ok x) = ap (λ (ms : List Mark). Ok ((entries ++ x.0.0, ms), x.1)) (sym (append_assoc marks (m ∷ []) x.0.1))
mark_more entries marks m (Err f) = refl

-- what a line leads to, where this is left with it, and that behind it
abbrev from_item : ℕ → ℕ → List ℕ → Left → Left → Result ((List Entry × List Mark) × Left) ScriptFault
from_item last seen text left behind =
    if begins_with (codes "entry") (words text) then (
    entry_at left.line text >>= λ entry.
    items_at last (seen + 1) behind >>= λ others.
    Ok ((entry ∷ others.0.0, others.0.1), others.1)
    ) else
    if begins_with (codes "saved") (words text) then (
    mark_at left.line last seen text >>= λ mark.
    items_at mark.epoch seen behind >>= λ others.
    Ok ((others.0.0, mark ∷ others.0.1), others.1)
    ) else
    Ok (([], []), left)

-- reading goes on with the line that comes next
item_among : (last seen : ℕ) (ps : List (List ℕ)) (n : ℕ) (text : List ℕ) (behind : Left) → line_among ps n ≡ Ok (text, behind) → items_among last seen ps n ≡ from_item last seen text (record { pieces = ps; line = n }) behind
item_among last seen [] n text behind e = absurd cc
item_among last seen (p ∷ []) n text behind e = absurd cc
item_among last seen (p ∷ q ∷ ps) n text behind e =
    let rest : Left = record { pieces = q ∷ ps; line = n + 1 } in
    let same = ok_is (p, rest) (text, behind) e in
    let front : p ≡ text = ap (λ (x : List ℕ × Left). x.0) same in
    let back : rest ≡ behind = ap (λ (x : List ℕ × Left). x.1) same in
    let left : Left = record { pieces = p ∷ q ∷ ps; line = n } in
    ap (λ (b : Left). from_item last seen p left b) back ∙ ap (λ (t : List ℕ). from_item last seen t left behind) front

-- one line
item_step : (last seen : ℕ) (left : Left) (text : List ℕ) (behind : Left) → line_at left ≡ Ok (text, behind) → items_at last seen left ≡ from_item last seen text left behind
item_step last seen left text behind e = item_among last seen left.pieces left.line text behind e

-- the line of an entry
pub entry_step : (last seen : ℕ) (left : Left) (text : List ℕ) (behind : Left) (e : Entry) (entries : List Entry) (marks : List Mark) → line_at left ≡ Ok (text, behind) → begins_with (codes "entry") (words text) ≡ true → entry_at left.line text ≡ Ok e
    → with_items entries marks (items_at last seen left) ≡ with_items (entries ++ e ∷ []) marks (items_at last (seen + 1) behind)
entry_step last seen left text behind e entries marks at begins is =
    ap (with_items entries marks) (item_step last seen left text behind at ∙ rw (begins, is) refl) ∙ entry_more entries marks e (items_at last (seen + 1) behind)

-- the line of a mark
pub mark_step : (last seen : ℕ) (left : Left) (text : List ℕ) (behind : Left) (m : Mark) (entries : List Entry) (marks : List Mark) → line_at left ≡ Ok (text, behind) → begins_with (codes "entry") (words text) ≡ false → begins_with (codes "saved") (words text) ≡ true
    → mark_at left.line last seen text ≡ Ok m → with_items entries marks (items_at last seen left) ≡ with_items entries (marks ++ m ∷ []) (items_at m.epoch seen behind)
mark_step last seen left text behind m entries marks at other begins is =
    ap (with_items entries marks) (item_step last seen left text behind at ∙ rw (other, begins, is) refl) ∙ mark_more entries marks m (items_at m.epoch seen behind)

-- no room was read before
pub with_no_room : (read : Result (List ℕ × Left) ScriptFault) → with_front_and_rest [] read ≡ read
with_no_room (Ok x) = refl
with_no_room (Err f) = refl

-- what a line leads to among the held rooms
abbrev from_room : ℕ → List ℕ → Left → Left → Result (List ℕ × Left) ScriptFault
from_room low text left behind =
    if begins_with (codes "held") (words text) then (
    setting_of_words left.line (codes "held") low 25 (words text) >>= λ room.
    held_at (room + 1) behind >>= λ others.
    Ok (room ∷ others.0, others.1)
    ) else
    Ok ([], left)

-- reading goes on with the line that comes next
room_among : (low : ℕ) (ps : List (List ℕ)) (n : ℕ) (text : List ℕ) (behind : Left) → line_among ps n ≡ Ok (text, behind) → held_among low ps n ≡ from_room low text (record { pieces = ps; line = n }) behind
room_among low [] n text behind e = absurd cc
room_among low (p ∷ []) n text behind e = absurd cc
room_among low (p ∷ q ∷ ps) n text behind e =
    let rest : Left = record { pieces = q ∷ ps; line = n + 1 } in
    let same = ok_is (p, rest) (text, behind) e in
    let front : p ≡ text = ap (λ (x : List ℕ × Left). x.0) same in
    let back : rest ≡ behind = ap (λ (x : List ℕ × Left). x.1) same in
    let left : Left = record { pieces = p ∷ q ∷ ps; line = n } in
    ap (λ (b : Left). from_room low p left b) back ∙ ap (λ (t : List ℕ). from_room low t left behind) front

-- one line
room_step : (low : ℕ) (left : Left) (text : List ℕ) (behind : Left) → line_at left ≡ Ok (text, behind) → held_at low left ≡ from_room low text left behind
room_step low left text behind e = room_among low left.pieces left.line text behind e

-- the line of a held room
pub held_step : (low : ℕ) (left : Left) (text : List ℕ) (behind : Left) (room : ℕ) (rooms : List ℕ) → line_at left ≡ Ok (text, behind) → begins_with (codes "held") (words text) ≡ true → setting_of_words left.line (codes "held") low 25 (words text) ≡ Ok room
    → with_front_and_rest rooms (held_at low left) ≡ with_front_and_rest (rooms ++ room ∷ []) (held_at (room + 1) behind)
held_step low left text behind room rooms at begins is =
    ap (with_front_and_rest rooms) (room_step low left text behind at ∙ rw (begins, is) refl) ∙ front_and_rest_more rooms room (held_at (room + 1) behind)
