-- The report of a life is one that has a text: its numbers are within the limits of the grammar.
use Rattle.std.proofs.Common.{◌≡◌, ℕ, ◌+◌, ◌<◌, ◌≤◌, ◌^◌, List, [], ◌∷◌, length, sym, ap, ◌∙◌, subst, arith, All}
use Rattle.std.specs.List.{AllByRecursion}
use Rattle.line_memory.specs.Line.{BankState}
use Rattle.seq_object.specs.declared.command.Command.{Command}
use Rattle.seq_object.specs.declared.history.Entry.{Entry}
use Rattle.seq_object.specs.Sizes.{AreValid, room_count}
use Rattle.room_model.specs.Image.{ImageRooms}
use Rattle.life_model.specs.declared.life.Life.{Life}
use Rattle.life_model.specs.declared.life.Life.TheVariants.{Start, Resume}
use Rattle.life_model.specs.declared.life.Outcome.{Outcome}
use Rattle.life_model.specs.Life.{Opening, sizes, script_of, lengths, marks_from, IsLegalLife}
use Rattle.life_model.specs.Present.{AreAscending, IsPresentOf}
use Rattle.life_model.specs.Told.{ReportState, TellsOf}
use Rattle.script_text.specs.Text.{IsCommand, IsSection}
use Rattle.script_text.specs.ReportLimits.{HasReportText, IsPlacedEntry, last_epoch}
use Rattle.respct.proofs.Entries.{IsOfScripts, of_scripts, thread_below, place_below, has, section}
use Rattle.respct.proofs.Replies.{HoldsWords, entries_words}

-- rooms that are held ascend, in each kind of life
ascending : (life : Life) (o : Opening) (h : List Entry) (marks held : List ℕ) (outcome : Outcome) (memory : List BankState) → IsPresentOf (record o { life = life }) h marks held outcome memory → AreAscending held
ascending Start o h marks held outcome memory p = p.ascending
ascending Resume o h [] held outcome memory p = subst AreAscending (sym p) tt
ascending Resume o h (m ∷ ms) held outcome memory p = p.ascending

-- the life that a report tells is legal
legal_of : (o : Opening) (image : ImageRooms) (before : ℕ) (r : ReportState) (memory : List BankState) → TellsOf o image before r memory → IsLegalLife o r.entries (lengths r.marks)
legal_of o image before r memory told = (told.lived (λ room line. 0)).legal

-- an entry of the scripts is of a thread and at a place within the limits
placed : (scripts : List (List Command)) (threads : ℕ) (e : Entry) → length scripts ≡ threads → threads ≤ 16 → AllByRecursion IsSection scripts → IsOfScripts scripts e → IsPlacedEntry e
placed scripts threads e many few sections of =
    let thread = thread_below scripts e.thread e.index e.command of.command in
    let place = place_below (script_of scripts e.thread) e.index e.command of.command in
    let most = (section scripts e.thread sections).0 in
    (omega (arith, thread, many, few), omega (arith, place, most))

-- its command has numbers of 64 bits
command_words : (scripts : List (List Command)) (e : Entry) → AllByRecursion IsSection scripts → IsOfScripts scripts e → IsCommand e.command
command_words scripts e sections of = has IsCommand (script_of scripts e.thread) e.index e.command (section scripts e.thread sections).1 of.command

-- a report of a life of scripts within their limits has a text
pub has_text : (o : Opening) (image : ImageRooms) (before : ℕ) (r : ReportState) (memory : List BankState) → TellsOf o image before r memory → AreValid (sizes o) → AllByRecursion IsSection o.scripts → HoldsWords o.state.contents
    → r.flushed < 2 ^ 64 → 1 ≤ o.epoch → o.epoch + length r.marks ≤ last_epoch → HasReportText r
has_text o image before r memory told valid sections holds few first last =
    let legal : IsLegalLife o r.entries (lengths r.marks) = legal_of o image before r memory told in
    let own : All (IsOfScripts o.scripts) r.entries = of_scripts o.scripts r.entries (λ thread. (_, legal.order.commands thread)) in
    let began = told.began in
    let rooms : room_count (sizes o) ≤ 26 = omega (arith, valid.few_threads, valid.few_shards) in
    record {
      words = (entries_words (sizes o) o.state.contents r.entries holds legal.replies (λ k d lt. command_words o.scripts _ sections (own k d lt)), few);
      entries = λ k d lt. placed o.scripts o.settings.threads _ legal.order.threads valid.few_threads sections (own k d lt);
      marks = legal.order.rising;
      epochs = told.epochs ∙ ap (λ (n : ℕ). marks_from (n + 1) (lengths r.marks)) (sym began);
      first = omega (arith, began, first);
      last = omega (arith, began, last);
      rooms = λ k d lt. let below = told.held k d lt in omega (arith, below, rooms);
      ascending = ascending o.life o r.entries (lengths r.marks) r.held r.outcome memory told.present;
    }
