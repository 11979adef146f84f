-- The report of a text, or the first line that is not in its place.
use Rattle.std.specs.Prelude.{◌≡◌, ◌==◌, ℕ, ◌+◌, List, [], ◌∷◌, codes, Bool, true, false, ◌&&◌, nat_le, Result, Ok, Err, if◌then◌else◌}
use Rattle.std.specs.Str.{bytes_eq}
use Rattle.seq_object.specs.declared.command.Command.{Command}
use Rattle.seq_object.specs.declared.command.Reply.{Reply}
use Rattle.seq_object.specs.declared.command.Reply.TheVariants.{New, Old, Full, Found, Gone, Absent, Done, Empty}
use Rattle.seq_object.specs.declared.history.Entry.{Entry}
use Rattle.life_model.specs.declared.life.Mark.{Mark}
use Rattle.life_model.specs.declared.life.Outcome.{Outcome}
use Rattle.life_model.specs.declared.life.Outcome.TheVariants as outcomes
use Rattle.life_model.specs.Told.{ReportState}
use Rattle.script_text.specs.declared.fault.ScriptFault.{ScriptFault}
use Rattle.script_text.specs.declared.report.Report.{Report}
use Rattle.script_text.specs.declared.report_reading.ReportRefusal.{ReportRefusal}
use Rattle.script_text.specs.declared.report_reading.ReportRefusal.TheVariants as refusals
use Rattle.script_text.specs.Pieces.{pieces, words}
use Rattle.script_text.specs.Faults.{bad_head, bad_setting, no_command, out_of_range, no_end, ◌>>=◌, fault}
use Rattle.script_text.specs.Reading.{Left, line_at, number_at, limited_at}
use Rattle.script_text.specs.Head.{fixed_line_at, setting_of_words, setting_at}
use Rattle.script_text.specs.CommandWords.{bare_command, value_command, pair_command}
use Rattle.script_text.specs.Whole.{nothing_among}
use Rattle.script_text.specs.ReportText.{report_of, life_line, end_line, report_bytes}
use Rattle.script_text.specs.ReportLimits.{last_epoch, HasReportText, IsReportText}

-- the first word of a line is this one
abbrev pub begins_with : List ℕ → List (List ℕ) → Bool
begins_with name [] = false
begins_with name (w ∷ ws) = bytes_eq w name

-- how a life began, by its line
abbrev pub life_of_text : ℕ → List ℕ → Result Bool ScriptFault
life_of_text line text =
    if bytes_eq text (life_line false) then Ok false else
    if bytes_eq text (life_line true) then Ok true else
    Err (fault line bad_head)

-- how a life began, and what is left behind the line that says it
abbrev pub life_at : Left → Result (Bool × Left) ScriptFault
life_at left =
    line_at left >>= λ l.
    life_of_text left.line l.0 >>= λ resumed.
    Ok (resumed, l.1)

-- a number behind its name, by the words of its line
abbrev pub named_of_words : ℕ → List ℕ → List (List ℕ) → Result ℕ ScriptFault
named_of_words line name [] = Err (fault line bad_setting)
named_of_words line name (a ∷ []) = Err (fault line bad_setting)
named_of_words line name (a ∷ b ∷ []) = if bytes_eq a name then number_at line b else Err (fault line bad_setting)
named_of_words line name (a ∷ b ∷ c ∷ ws) = Err (fault line bad_setting)

-- what is read beside a word that has to be empty
abbrev pub beside_blank : {A : Type 0} → ℕ → List ℕ → Result A ScriptFault → Result A ScriptFault
beside_blank line [] read = read
beside_blank line (b ∷ bs) read = Err (fault line no_command)

-- the command of an entry, by the words up to the equals sign, of which the last is empty
abbrev pub call_of_words : ℕ → List (List ℕ) → Result Command ScriptFault
call_of_words line [] = Err (fault line no_command)
call_of_words line (a ∷ []) = Err (fault line no_command)
call_of_words line (a ∷ z ∷ []) = beside_blank line z (bare_command line a)
call_of_words line (a ∷ b ∷ z ∷ []) = beside_blank line z (value_command line a b)
call_of_words line (a ∷ b ∷ c ∷ z ∷ []) = beside_blank line z (pair_command line a b c)
call_of_words line (a ∷ b ∷ c ∷ d ∷ e ∷ ws) = Err (fault line no_command)

-- the reply of one word
abbrev pub bare_reply : ℕ → List ℕ → Result Reply ScriptFault
bare_reply line name =
    if bytes_eq name (codes "new") then Ok New else
    if bytes_eq name (codes "full") then Ok Full else
    if bytes_eq name (codes "none") then Ok Absent else
    if bytes_eq name (codes "done") then Ok Done else
    if bytes_eq name (codes "empty") then Ok Empty else
    Err (fault line no_command)

-- the reply of two words
abbrev pub value_reply : ℕ → List ℕ → List ℕ → Result Reply ScriptFault
value_reply line name word =
    if bytes_eq name (codes "old") then (number_at line word >>= λ n. Ok (Old n)) else
    if bytes_eq name (codes "is") then (number_at line word >>= λ n. Ok (Found n)) else
    if bytes_eq name (codes "was") then (number_at line word >>= λ n. Ok (Gone n)) else
    Err (fault line no_command)

-- the reply of an entry, by the words behind the equals sign, of which the first is empty
abbrev pub reply_of_words : ℕ → List (List ℕ) → Result Reply ScriptFault
reply_of_words line [] = Err (fault line no_command)
reply_of_words line (z ∷ []) = Err (fault line no_command)
reply_of_words line (z ∷ a ∷ []) = beside_blank line z (bare_reply line a)
reply_of_words line (z ∷ a ∷ b ∷ []) = beside_blank line z (value_reply line a b)
reply_of_words line (z ∷ a ∷ b ∷ c ∷ ws) = Err (fault line no_command)

-- an entry with this reply, by the words up to the equals sign
abbrev pub entry_of_words : ℕ → Reply → List (List ℕ) → Result Entry ScriptFault
entry_of_words line reply [] = Err (fault line no_command)
entry_of_words line reply (w ∷ []) = Err (fault line no_command)
entry_of_words line reply (w ∷ t ∷ []) = Err (fault line no_command)
entry_of_words line reply (w ∷ t ∷ i ∷ ws) =
    if bytes_eq w (codes "entry") then (
    limited_at line 0 15 t >>= λ thread.
    limited_at line 0 4095 i >>= λ index.
    call_of_words line ws >>= λ command.
    Ok (record { thread = thread; index = index; command = command; reply = reply })
    ) else
    Err (fault line no_command)

-- an entry by the pieces of its line round the equals sign
abbrev pub entry_of_pieces : ℕ → List (List ℕ) → Result Entry ScriptFault
entry_of_pieces line [] = Err (fault line no_command)
entry_of_pieces line (a ∷ []) = Err (fault line no_command)
entry_of_pieces line (a ∷ b ∷ []) =
    reply_of_words line (words b) >>= λ reply.
    entry_of_words line reply (words a)
entry_of_pieces line (a ∷ b ∷ c ∷ ps) = Err (fault line no_command)

-- the entry of a line that begins as one
abbrev pub entry_at : ℕ → List ℕ → Result Entry ScriptFault
entry_at line text = entry_of_pieces line (pieces 61 text)

-- the mark of a line behind so many entries, where this epoch was begun last
abbrev pub mark_at : ℕ → ℕ → ℕ → List ℕ → Result Mark ScriptFault
mark_at line last seen text =
    named_of_words line (codes "saved") (words text) >>= λ epoch.
    if epoch == last + 1 && nat_le epoch last_epoch then Ok (record { epoch = epoch; length = seen }) else Err (fault line out_of_range)

-- the entries and the marks up to the first line that is of neither, where so many entries stand above and this epoch was begun
-- last, and what is left from that line on
abbrev pub items_among : ℕ → ℕ → List (List ℕ) → ℕ → Result ((List Entry × List Mark) × Left) ScriptFault
items_among last seen [] n = Err (fault n no_end)
items_among last seen (p ∷ []) n = Err (fault n no_end)
items_among last seen (p ∷ q ∷ ps) n =
    if begins_with (codes "entry") (words p) then (
    entry_at n p >>= λ entry.
    items_among last (seen + 1) (q ∷ ps) (n + 1) >>= λ others.
    Ok ((entry ∷ others.0.0, others.0.1), others.1)
    ) else
    if begins_with (codes "saved") (words p) then (
    mark_at n last seen p >>= λ mark.
    items_among mark.epoch seen (q ∷ ps) (n + 1) >>= λ others.
    Ok ((others.0.0, mark ∷ others.0.1), others.1)
    ) else
    Ok (([], []), record { pieces = p ∷ q ∷ ps; line = n })

-- the entries and the marks, of what is left
abbrev pub items_at : ℕ → ℕ → Left → Result ((List Entry × List Mark) × Left) ScriptFault
items_at last seen left = items_among last seen left.pieces left.line

-- the held rooms from low on, up to the first line that names none, and what is left from that line on
abbrev pub held_among : ℕ → List (List ℕ) → ℕ → Result (List ℕ × Left) ScriptFault
held_among low [] n = Err (fault n no_end)
held_among low (p ∷ []) n = Err (fault n no_end)
held_among low (p ∷ q ∷ ps) n =
    if begins_with (codes "held") (words p) then (
    setting_of_words n (codes "held") low 25 (words p) >>= λ room.
    held_among (room + 1) (q ∷ ps) (n + 1) >>= λ others.
    Ok (room ∷ others.0, others.1)
    ) else
    Ok ([], record { pieces = p ∷ q ∷ ps; line = n })

-- the held rooms, of what is left
abbrev pub held_at : ℕ → Left → Result (List ℕ × Left) ScriptFault
held_at low left = held_among low left.pieces left.line

-- the number of write-backs, and what is left behind the line that says it
abbrev pub flushed_at : Left → Result (ℕ × Left) ScriptFault
flushed_at left =
    line_at left >>= λ l.
    named_of_words left.line (codes "flushed") (words l.0) >>= λ n.
    Ok (n, l.1)

-- how a life ended, by its line
abbrev pub outcome_of_text : ℕ → List ℕ → Result Outcome ScriptFault
outcome_of_text line text =
    if bytes_eq text (end_line outcomes.Finished) then Ok outcomes.Finished else
    if bytes_eq text (end_line outcomes.Stalled) then Ok outcomes.Stalled else
    if bytes_eq text (end_line outcomes.Cut) then Ok outcomes.Cut else
    if bytes_eq text (end_line outcomes.Starved) then Ok outcomes.Starved else
    Err (fault line no_command)

-- how a life ended, with nothing behind the line that says it
abbrev pub outcome_at : Left → Result Outcome ScriptFault
outcome_at left =
    line_at left >>= λ l.
    outcome_of_text left.line l.0 >>= λ outcome.
    nothing_among l.1.pieces l.1.line >>= λ _.
    Ok outcome

-- the report of all that is left
abbrev pub report_at : Left → Result ReportState ScriptFault
report_at left =
    fixed_line_at bad_head (codes "respct-report 1") left >>= λ first.
    life_at first >>= λ life.
    setting_at (codes "began") 1 last_epoch life.1 >>= λ began.
    items_at began.0 0 began.1 >>= λ items.
    held_at 0 items.1 >>= λ held.
    flushed_at held.1 >>= λ flushed.
    outcome_at flushed.1 >>= λ outcome.
    Ok (record {
      resumed = life.0;
      began = began.0;
      entries = items.0.0;
      marks = items.0.1;
      held = held.0;
      flushed = flushed.0;
      outcome = outcome;
    })

-- the report of a text, or its first fault
abbrev pub report_in : List ℕ → Result ReportState ScriptFault
report_in bytes = report_at (record { pieces = pieces 10 bytes; line = 1 })

-- a refusal tells the line of the fault that reading gives, unless memory ran out
abbrev pub FailsAt : ReportRefusal → Result ReportState ScriptFault → Type 0
FailsAt refusals.OutOfMemory read = Unit {0}
FailsAt (refusals.Fault line) read = (f : ScriptFault) × (read ≡ Err f) × (f.line ≡ line)

-- what the reader of reports returned is what reading gives, unless memory ran out
abbrev pub GivesReport : Result Report ReportRefusal → Result ReportState ScriptFault → Type 0
GivesReport (Ok report) read = read ≡ Ok (report_of report)
GivesReport (Err e) read = FailsAt e read

-- reading and writing reports are inverse, and no text is that of two reports
pub record ReportTextLaw : Type 0 where
  pub read : (r : ReportState) → HasReportText r → report_in (report_bytes r) ≡ Ok r
  pub written : (bytes : List ℕ) (r : ReportState) → report_in bytes ≡ Ok r → IsReportText bytes r
  pub one : (bytes : List ℕ) (q r : ReportState) → IsReportText bytes q → IsReportText bytes r → q ≡ r
