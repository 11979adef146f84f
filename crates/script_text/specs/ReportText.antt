-- The one text of a report.
use Rattle.std.specs.Prelude.{ℕ, ◌-◌, List, [], ◌∷◌, ◌++◌, codes, map, take, drop, length, Bool, true, false}
use Rattle.std.specs.Fmt.{decimal}
use Rattle.seq_object.specs.declared.command.Reply.{Reply}
use Rattle.seq_object.specs.declared.command.Reply.TheVariants as replies
use Rattle.seq_object.specs.declared.history.Entry.{Entry}
use Rattle.life_model.specs.declared.life.Mark.{Mark}
use Rattle.life_model.specs.Life.{AreRising, lengths}
use Rattle.life_model.specs.Told.{ReportState}
use Rattle.life_model.specs.declared.life.Outcome.{Outcome}
use Rattle.life_model.specs.declared.life.Outcome.TheVariants as outcomes
use Rattle.script_text.specs.declared.report.Report.{Report}
use Rattle.script_text.specs.Text.{ended, command_line}

-- what a report says
abbrev pub report_of : Report → ReportState
report_of r = record {
  resumed = r.resumed;
  began = r.began;
  entries = r.entries.items;
  marks = r.marks.items;
  held = r.held.items;
  flushed = r.flushed;
  outcome = r.outcome;
}

-- a reply, in its entry's line
abbrev pub reply_text : Reply → List ℕ
reply_text replies.New = codes "new"
reply_text (replies.Old value) = codes "old " ++ decimal value
reply_text replies.Full = codes "full"
reply_text (replies.Found value) = codes "is " ++ decimal value
reply_text (replies.Gone value) = codes "was " ++ decimal value
reply_text replies.Absent = codes "none"
reply_text replies.Done = codes "done"
reply_text replies.Empty = codes "empty"

-- the end of an entry's line: its command and its reply
abbrev pub command_and_reply : Entry → List ℕ
command_and_reply e = command_line e.command ++ (codes " = " ++ reply_text e.reply)

-- the line of an entry: its thread, its place in that thread's script, its command and its reply
abbrev pub entry_line : Entry → List ℕ
entry_line e = codes "entry " ++ (decimal e.thread ++ (32 ∷ (decimal e.index ++ (32 ∷ command_and_reply e))))

-- the line of a mark, by its epoch
abbrev pub saved_line : ℕ → List ℕ
saved_line epoch = codes "saved " ++ decimal epoch

-- the lines of the entries and of the marks, where so many entries stand above: each mark stands behind the entries that it
-- saves, and the entries that no mark saves stand last
abbrev pub item_lines : ℕ → List Entry → List Mark → List (List ℕ)
item_lines above entries [] = map entry_line entries
item_lines above entries (m ∷ ms) =
    map entry_line (take (m.length - above) entries) ++
    (saved_line m.epoch ∷ item_lines m.length (drop (m.length - above) entries) ms)

-- the line of a room that was held at the end
abbrev pub held_line : ℕ → List ℕ
held_line room = codes "held " ++ decimal room

-- the line of how the life began
abbrev pub life_line : Bool → List ℕ
life_line true = codes "life resume"
life_line false = codes "life start"

-- the line of how the life ended
abbrev pub end_line : Outcome → List ℕ
end_line outcomes.Finished = codes "end finished"
end_line outcomes.Stalled = codes "end stalled"
end_line outcomes.Cut = codes "end cut"
end_line outcomes.Starved = codes "end starved"

-- the lines above the entries
abbrev pub front_lines : ReportState → List (List ℕ)
front_lines r = codes "respct-report 1" ∷ life_line r.resumed ∷ (codes "began " ++ decimal r.began) ∷ []

-- the lines below the held rooms
abbrev pub last_lines : ReportState → List (List ℕ)
last_lines r = (codes "flushed " ++ decimal r.flushed) ∷ end_line r.outcome ∷ []

-- the lines of a report
abbrev pub report_lines : ReportState → List (List ℕ)
report_lines r = front_lines r ++ (item_lines 0 r.entries r.marks ++ (map held_line r.held ++ last_lines r))

-- the text of a report
abbrev pub report_bytes : ReportState → List ℕ
report_bytes r = ended (report_lines r)

-- each mark of the report has its place among the entries: their lengths do not fall, and are at most the number of entries
abbrev pub AreMarksRising : ReportState → Type 0
AreMarksRising r = AreRising 0 (lengths r.marks) (length r.entries)
