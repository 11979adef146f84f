-- The reports that have a text: their numbers are within the limits of the grammar, and their marks, epochs and held rooms in order.
use Rattle.std.specs.Prelude.{◌≡◌, ℕ, ◌+◌, ◌<◌, ◌≤◌, ◌^◌, List, length, All}
use Rattle.seq_object.specs.declared.command.Reply.{Reply}
use Rattle.seq_object.specs.declared.command.Reply.TheVariants.{New, Old, Full, Found, Gone, Absent, Done, Empty}
use Rattle.seq_object.specs.declared.history.Entry.{Entry}
use Rattle.life_model.specs.Life.{lengths, marks_from}
use Rattle.life_model.specs.Present.{AreAscending}
use Rattle.life_model.specs.Told.{ReportState}
use Rattle.script_text.specs.Program.{most_commands}
use Rattle.script_text.specs.Text.{IsCommand}
use Rattle.script_text.specs.ReportText.{report_bytes, AreMarksRising}

-- the threads of a report are below this number
abbrev pub thread_limit : ℕ
thread_limit = 16

-- the rooms of a report are below this number
abbrev pub room_limit : ℕ
room_limit = 26

-- the greatest epoch
abbrev pub last_epoch : ℕ
last_epoch = 4294967295

-- an entry is of a thread that a script may have, at a place that a script may have
abbrev pub IsPlacedEntry : Entry → Type 0
IsPlacedEntry e = (e.thread < thread_limit) × (e.index < most_commands)

-- the value of a reply is a number of 64 bits
abbrev pub IsReply : Reply → Type 0
IsReply New = Unit {0}
IsReply (Old value) = value < 2 ^ 64
IsReply Full = Unit {0}
IsReply (Found value) = value < 2 ^ 64
IsReply (Gone value) = value < 2 ^ 64
IsReply Absent = Unit {0}
IsReply Done = Unit {0}
IsReply Empty = Unit {0}

-- the keys and values of an entry are numbers of 64 bits
abbrev pub IsEntryOfWords : Entry → Type 0
IsEntryOfWords e = IsCommand e.command × IsReply e.reply

-- the keys and values of a report and its number of write-backs are numbers of 64 bits
abbrev pub IsReportOfWords : ReportState → Type 0
IsReportOfWords r = All IsEntryOfWords r.entries × (r.flushed < 2 ^ 64)

-- the reports that have a text
pub record HasReportText (r : ReportState) : Type 0 where
  pub words : IsReportOfWords r
  pub entries : All IsPlacedEntry r.entries
  pub marks : AreMarksRising r
  pub epochs : r.marks ≡ marks_from (r.began + 1) (lengths r.marks)
  pub first : 1 ≤ r.began
  pub last : r.began + length r.marks ≤ last_epoch
  pub rooms : All (λ room. room < room_limit) r.held
  pub ascending : AreAscending r.held

-- the bytes are the text of this report
pub record IsReportText (bytes : List ℕ) (r : ReportState) : Type 0 where
  pub within : HasReportText r
  pub text : bytes ≡ report_bytes r
