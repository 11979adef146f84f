-- From a life, a check and a drill to what their statuses tell.
use Rattle.std.proofs.Common.{◌≡◌, ℕ, List, [], length, Option, Some, None, Result, Ok, Err, inl, inr, refl, ap, sym, subst}
use Rattle.std.specs.Prelude.{◌⊎◌, IfOk, OnOk, IfErr}
use Rattle.std.proofs.lemmas.List.{append-nil}
use Rattle.std.proofs.Math.Seq.{take-length}
use Rattle.byte_ports.specs.Bytes.{TookSome, Appended, AppendedSome}
use Rattle.byte_ports.specs.Causes.{Rose}
use Rattle.byte_ports.specs.Images.{Finds, OthersSame}
use Rattle.byte_ports.specs.declared.refusal.StoreRefusal.{StoreRefusal}
use Rattle.byte_ports.specs.declared.refusal.StoreRefusal.TheVariants as stores
use Rattle.line_memory.specs.Line.{BankState}
use Rattle.life_model.specs.declared.life.Life.{Life}
use Rattle.life_model.specs.declared.life.Life.TheVariants.{Start, Resume}
use Rattle.life_model.specs.declared.life.Outcome.{Outcome}
use Rattle.life_model.specs.declared.life.Outcome.TheVariants as ends
use Rattle.script_text.specs.Program.{Program}
use Rattle.script_text.specs.ReportText.{report_bytes}
use Rattle.respct.specs.declared.checking.NotChecked.{NotChecked}
use Rattle.respct.specs.declared.checking.NotChecked.TheVariants as checks
use Rattle.respct.specs.declared.drilling.NotDrilled.{NotDrilled}
use Rattle.respct.specs.declared.drilling.NotDrilled.TheVariants as drills
use Rattle.respct.specs.declared.leading.NoReport.{NoReport}
use Rattle.respct.specs.declared.leading.NoReport.TheVariants.{Unread, Unopened, Untold, Unsaved, Unwritten}
use Rattle.respct.specs.declared.loading.NotLoaded.TheVariants as images
use Rattle.respct.specs.declared.opening.NotOpened.{NotOpened}
use Rattle.respct.specs.declared.opening.NotOpened.TheVariants as openings
use Rattle.respct.specs.declared.reading.NoScript.TheVariants as scripts
use Rattle.respct.specs.declared.status.Status.{Status}
use Rattle.respct.specs.declared.status.Status.TheVariants as statuses
use Rattle.program_words.specs.Words.{IsResume, IsCheck, IsDrill, AskFor}
use Rattle.respct.specs.Status.{status_of_end, status_of_unopened, status_of_life, status_of_check, status_of_drill}
use Rattle.respct.specs.Loads.{IsFaulty}
use Rattle.respct.specs.Openings.{IsMisfit}
use Rattle.respct.specs.Run.{Led, HasRead, IsLed, HasSaved}
use Rattle.respct.specs.declared.answer.PlainAnswer.TheVariants.{Ended}
use Rattle.respct.specs.Answers.{IsUntouched, IsNoLife, IsOnlyLoaded, IsNoScript, TookTooMuch, IsUnlessStarved, status_in}
use Rattle.respct.specs.Steps.{Ports, HasLed, HasReported, IsUnopened, IsUnreported}
use Rattle.respct.specs.Checks.{HasChecked, HasCheckedSome, IsUnchecked}
use Rattle.respct.specs.Drills.{HasDrilled, HasDrilledSome, IsDrillStarved, IsApart, IsUndrilled}
use Rattle.respct.proofs.Saves.{others_set}

-- WHAT THE STATUSES OF A LIFE, OF A CHECK AND OF A DRILL TELL.

-- a life was led that ended so, its image is saved, and its whole report was appended
abbrev pub IsToldAs : Outcome → List (List ℕ) → Ports → Ports → List BankState → Type 0
IsToldAs outcome words old new memory =
    (led : Led) × AskFor led.life words led.name × IsLed old.left new.left old.kept memory led × HasSaved old.kept new.kept memory led × Appended old.held new.held (report_bytes led.report) × (led.report.outcome ≡ outcome)

-- a life was led and its image saved, and a first part of its report was appended
abbrev pub IsToldInPart : List (List ℕ) → Ports → Ports → List BankState → Type 0
IsToldInPart words old new memory =
    (led : Led) × AskFor led.life words led.name × IsLed old.left new.left old.kept memory led × HasSaved old.kept new.kept memory led × AppendedSome old.held new.held (report_bytes led.report)

-- a life was led, and nothing was written
abbrev pub IsLedUnsaved : List (List ℕ) → Ports → Ports → List BankState → Type 0
IsLedUnsaved words old new memory = (led : Led) × AskFor led.life words led.name × IsLed old.left new.left old.kept memory led × OthersSame old.kept new.kept led.name × (new.held ≡ old.held)

-- a life was led, what is under its image's name is open, and a first part of its report was appended
abbrev pub IsLedInPart : List (List ℕ) → Ports → Ports → List BankState → Type 0
IsLedInPart words old new memory =
    (led : Led) × AskFor led.life words led.name × IsLed old.left new.left old.kept memory led × OthersSame old.kept new.kept led.name × AppendedSome old.held new.held (report_bytes led.report)

-- a first part of the text of the state was appended
abbrev pub IsCheckedInPart : List (List ℕ) → Ports → Ports → List BankState → Type 0
IsCheckedInPart words old new memory = (name : List ℕ) × IsCheck words name × HasCheckedSome old.kept name old.held new.held × IsNoLife old.left new.left old.kept new.kept memory

-- the whole text of the state was appended
abbrev pub IsCheckedWhole : List (List ℕ) → Ports → Ports → List BankState → Type 0
IsCheckedWhole words old new memory = (name : List ℕ) × IsCheck words name × HasChecked old.kept name old.held new.held × IsNoLife old.left new.left old.kept new.kept memory

-- a drill told this of what it left in memory and of what was written, and used neither script nor images
abbrev pub IsDrillTold : (ℕ → List BankState → Option (List ℕ) → Option (List ℕ) → Type 0) → List (List ℕ) → Ports → Ports → List BankState → Type 0
IsDrillTold Tells words old new memory = (n : ℕ) × IsDrill words n × Tells n memory old.held new.held × IsApart old.left new.left old.kept new.kept

abbrev IsUntouchedIn : Ports → Ports → List BankState → Type 0
IsUntouchedIn old new memory = IsUntouched old.held new.held old.kept new.kept memory

abbrev IsOnlyLoadedIn : List (List ℕ) → List ℕ → Ports → Ports → List BankState → Type 0
IsOnlyLoadedIn words name old new memory = IsOnlyLoaded words name old.left new.left old.held new.held old.kept new.kept memory

-- what each status tells
abbrev pub Told : List (List ℕ) → Ports → Ports → List BankState → Status → Type 0
Told words old new memory statuses.Finished =
    IsToldAs ends.Finished words old new memory ⊎ (IsCheckedWhole words old new memory ⊎ IsDrillTold HasDrilled words old new memory)
Told words old new memory statuses.Usage = ⊥
Told words old new memory (statuses.Script f) = IsNoScript old.left new.left f × IsUntouchedIn old new memory
Told words old new memory statuses.Stalled = IsToldAs ends.Stalled words old new memory
Told words old new memory statuses.Cut = IsToldAs ends.Cut words old new memory
Told words old new memory (statuses.Image f) = (name : List ℕ) × IsFaulty old.kept name f × IsOnlyLoadedIn words name old new memory
Told words old new memory (statuses.Misfit m) = (name : List ℕ) × IsResume words name × ((p : Program) × HasRead old.left new.left p × IsMisfit old.kept name p m) × IsUntouchedIn old new memory
Told words old new memory statuses.ReadFault = Rose old.read_faults new.read_faults × TookSome old.left new.left × IsUntouchedIn old new memory
Told words old new memory statuses.WriteFault =
    Rose old.write_faults new.write_faults × (IsToldInPart words old new memory ⊎ (IsCheckedInPart words old new memory ⊎ IsDrillTold HasDrilledSome words old new memory))
Told words old new memory statuses.StoreFault = Rose old.image_faults new.image_faults × (IsLedUnsaved words old new memory ⊎ ((name : List ℕ) × IsOnlyLoadedIn words name old new memory))
Told words old new memory statuses.NoImage = (name : List ℕ) × Finds old.kept name None × IsOnlyLoadedIn words name old new memory
Told words old new memory statuses.OutOfMemory =
    (TookSome old.left new.left × IsUntouchedIn old new memory) ⊎ (IsLedInPart words old new memory ⊎ (IsCheckedInPart words old new memory ⊎ IsDrillTold IsDrillStarved words old new memory))
Told words old new memory statuses.TooLong = TookTooMuch old.left new.left × TookSome old.left new.left × IsUntouchedIn old new memory

-- WHAT WAS APPENDED.

-- nothing was appended, which is a first part of each text
appended_none : (held : Option (List ℕ)) (text : List ℕ) → AppendedSome held held text
appended_none None text = (0, tt)
appended_none (Some old) text = (0, sym (append-nil old))

-- nothing was appended, where what is held is the same
held_none : (held held_now : Option (List ℕ)) (text : List ℕ) → held_now ≡ held → AppendedSome held held_now text
held_none held held_now text same = subst (λ (h : Option (List ℕ)). AppendedSome held h text) (sym same) (appended_none held text)

-- the whole of a text is a first part of it
appended_all : (held held_now : Option (List ℕ)) (text : List ℕ) → Appended held held_now text → AppendedSome held held_now text
appended_all held held_now text all = (length text, subst (λ (t : List ℕ). Appended held held_now t) (sym (take-length text)) all)

-- OF A LIFE.
module _ (life : Life) (words : List (List ℕ)) (name : List ℕ) (old new : Ports) (memory : List BankState) (ask : AskFor life words name) where
  -- the words ask for the life that was led
  asked : (led : Led) → HasLed life name old new memory led → AskFor led.life words led.name
  asked led has = subst (λ (n : List ℕ). AskFor led.life words n) (sym has.named) (subst (λ (k : Life). AskFor k words name) (sym has.life_is) ask)

  told_as : (outcome : Outcome) → HasReported life name old new memory outcome → IsToldAs outcome words old new memory
  told_as outcome r = (r.led, asked r.led r.has_led, r.has_led.is_led, r.saved, r.appended, r.ended)

  -- its report was written
  reported : (outcome : Outcome) → HasReported life name old new memory outcome → Told words old new memory (status_of_end outcome)
  reported ends.Finished r = inl (told_as ends.Finished r)
  reported ends.Stalled r = told_as ends.Stalled r
  reported ends.Cut r = told_as ends.Cut r
  reported ends.Starved r =
      inr (inl (r.led, asked r.led r.has_led, r.has_led.is_led, others_set old.kept new.kept r.led.name _ r.saved.set, appended_all old.held new.held (report_bytes r.led.report) r.appended))

  -- its image was not saved
  unsaved : (refusal : StoreRefusal) → IsUnreported life name old new memory (Unsaved refusal) → Told words old new memory (status_of_life (Err (Unsaved refusal)))
  unsaved stores.Failed u = (u.0, inl (u.1.led, asked u.1.led u.1.has_led, u.1.has_led.is_led, subst (λ (n : List ℕ). OthersSame old.kept new.kept n) (sym u.1.has_led.named) u.1.others, u.1.held_same))
  unsaved stores.OutOfMemory u =
      inr (inl (
        u.1.led,
        asked u.1.led u.1.has_led,
        u.1.has_led.is_led,
        subst (λ (n : List ℕ). OthersSame old.kept new.kept n) (sym u.1.has_led.named) u.1.others,
        held_none old.held new.held (report_bytes u.1.led.report) u.1.held_same,
      ))

  -- its report was not written to its end
  unwritten : (refusal : StoreRefusal) → IsUnreported life name old new memory (Unwritten refusal) → Told words old new memory (status_of_life (Err (Unwritten refusal)))
  unwritten stores.Failed u = (u.0, inl (u.1.led, asked u.1.led u.1.has_led, u.1.has_led.is_led, u.1.saved, u.1.some))
  unwritten stores.OutOfMemory u = inr (inl (u.1.led, asked u.1.led u.1.has_led, u.1.has_led.is_led, others_set old.kept new.kept u.1.led.name _ u.1.saved.set, u.1.some))

-- no life is told, though a script was read
unopened : (life : Life) (words : List (List ℕ)) (name : List ℕ) (old new : Ports) (memory : List BankState) → AskFor life words name → (refusal : NotOpened) → IsUnopened life name old new memory refusal
    → Told words old new memory (status_of_unopened refusal)
unopened Start words name old new memory ask (openings.Unloaded refusal) u = absurd u.cause
unopened Start words name old new memory ask (openings.Misfit m) u = absurd u.cause
unopened Start words name old new memory ask openings.OutOfMemory u = inl (u.untold.took, u.untold.untouched)
unopened Resume words name old new memory ask (openings.Unloaded images.Failed) u = (u.cause, inr (name, inr (ask, (u.program, u.source), u.untold.untouched)))
unopened Resume words name old new memory ask (openings.Unloaded images.Missing) u = (name, u.cause, inr (ask, (u.program, u.source), u.untold.untouched))
unopened Resume words name old new memory ask (openings.Unloaded (images.Fault f)) u = (name, u.cause, inr (ask, (u.program, u.source), u.untold.untouched))
unopened Resume words name old new memory ask (openings.Unloaded images.OutOfMemory) u = inl (u.untold.took, u.untold.untouched)
unopened Resume words name old new memory ask (openings.Misfit m) u = (name, ask, (u.program, u.source, u.cause), u.untold.untouched)
unopened Resume words name old new memory ask openings.OutOfMemory u = inl (u.untold.took, u.untold.untouched)

-- what the status of a life tells
pub life_tells : (life : Life) (words : List (List ℕ)) (name : List ℕ) (old new : Ports) (memory : List BankState) → AskFor life words name → (result : Result Outcome NoReport) → IfOk result (HasReported life name old new memory)
    → IfErr result (IsUnreported life name old new memory) → Told words old new memory (status_of_life result)
life_tells life words name old new memory ask (Ok outcome) r u = reported life words name old new memory ask outcome r
life_tells life words name old new memory ask (Err (Unread scripts.Failed)) r u = (u.0, u.1.took, u.1.untouched)
life_tells life words name old new memory ask (Err (Unread scripts.TooLong)) r u = (u.0, u.1.took, u.1.untouched)
life_tells life words name old new memory ask (Err (Unread (scripts.Fault f))) r u = (u.0, u.1.untouched)
life_tells life words name old new memory ask (Err (Unread scripts.OutOfMemory)) r u = inl (u.1.took, u.1.untouched)
life_tells life words name old new memory ask (Err (Unopened refusal)) r u = unopened life words name old new memory ask refusal u
life_tells life words name old new memory ask (Err Untold) r u = inl (u.took, u.untouched)
life_tells life words name old new memory ask (Err (Unsaved refusal)) r u = unsaved life words name old new memory ask refusal u
life_tells life words name old new memory ask (Err (Unwritten refusal)) r u = unwritten life words name old new memory ask refusal u

-- OF A CHECK.

-- nothing was taken, which is a first part of all that was left
took_none : (left : Option (List ℕ)) → TookSome left left
took_none None = ([], tt)
took_none (Some left) = ([], refl)

-- what the status of a check tells, which reads no script
pub check_tells : (words : List (List ℕ)) (name : List ℕ) (old new : Ports) (memory : List BankState) → IsCheck words name → new.left ≡ old.left → new.kept ≡ old.kept → memory ≡ [] → (result : Result (Unit {0}) NotChecked)
    → OnOk result (HasChecked old.kept name old.held new.held)
    → IfErr result (IsUnchecked old.kept name old.image_faults new.image_faults old.write_faults new.write_faults old.held new.held) → Told words old new memory (status_of_check result)
check_tells words name old new memory check left kept none (Ok done) o u = inr (inl (name, check, o, record { left_same = left; kept_same = kept; memory_is = none }))
check_tells words name old new memory check left kept none (Err (checks.Unloaded images.Failed)) o u = (u.0, inr (name, inl (check, u.1, record { left_same = left; kept_same = kept; memory_is = none })))
check_tells words name old new memory check left kept none (Err (checks.Unloaded images.Missing)) o u = (name, u.0, inl (check, u.1, record { left_same = left; kept_same = kept; memory_is = none }))
check_tells words name old new memory check left kept none (Err (checks.Unloaded (images.Fault f))) o u = (name, u.0, inl (check, u.1, record { left_same = left; kept_same = kept; memory_is = none }))
check_tells words name old new memory check left kept none (Err (checks.Unloaded images.OutOfMemory)) o u =
    inl (subst (λ (l : Option (List ℕ)). TookSome old.left l) (sym left) (took_none old.left), record { held_same = u.1; kept_same = kept; memory_is = none })
check_tells words name old new memory check left kept none (Err (checks.Unwritten stores.Failed)) o u = (u.0, inr (inl (name, check, u.1, record { left_same = left; kept_same = kept; memory_is = none })))
check_tells words name old new memory check left kept none (Err (checks.Unwritten stores.OutOfMemory)) o u = inr (inr (inl (name, check, u.1, record { left_same = left; kept_same = kept; memory_is = none })))

-- OF A DRILL.

-- what the status of a drill tells, which uses neither script nor images
pub drill_tells : (words : List (List ℕ)) (n : ℕ) (old new : Ports) (memory : List BankState) → IsDrill words n → new.left ≡ old.left → new.kept ≡ old.kept → (result : Result (Unit {0}) NotDrilled)
    → OnOk result (HasDrilled n memory old.held new.held) → IfErr result (IsUndrilled n memory old.held new.held old.write_faults new.write_faults) → Told words old new memory (status_of_drill result)
drill_tells words n old new memory drill left kept (Ok done) o u = inr (inr (n, drill, o, record { left_same = left; kept_same = kept }))
drill_tells words n old new memory drill left kept (Err drills.Untold) o u = inr (inr (inr (n, drill, inl u, record { left_same = left; kept_same = kept })))
drill_tells words n old new memory drill left kept (Err (drills.Unwritten stores.Failed)) o u = (u.0, inr (inr (n, drill, u.1, record { left_same = left; kept_same = kept })))
drill_tells words n old new memory drill left kept (Err (drills.Unwritten stores.OutOfMemory)) o u = inr (inr (inr (n, drill, inr u.1, record { left_same = left; kept_same = kept })))

-- THE STATUS.

-- a status that is that of a life
pub life_status : (life : Life) (words : List (List ℕ)) (name : List ℕ) (old new : Ports) (memory : List BankState) → AskFor life words name → (result : Result Outcome NoReport) → IfOk result (HasReported life name old new memory)
    → IfErr result (IsUnreported life name old new memory) → (status : Status) → status ≡ status_of_life result → Told words old new memory status
life_status life words name old new memory ask result r u status is = subst (Told words old new memory) (sym is) (life_tells life words name old new memory ask result r u)

-- a status that is that of a check
pub check_status : (words : List (List ℕ)) (name : List ℕ) (old new : Ports) (memory : List BankState) → IsCheck words name → new.left ≡ old.left → new.kept ≡ old.kept → memory ≡ [] → (result : Result (Unit {0}) NotChecked)
    → OnOk result (HasChecked old.kept name old.held new.held)
    → IfErr result (IsUnchecked old.kept name old.image_faults new.image_faults old.write_faults new.write_faults old.held new.held) → (status : Status) → status ≡ status_of_check result → Told words old new memory status
check_status words name old new memory check left kept none result o u status is = subst (Told words old new memory) (sym is) (check_tells words name old new memory check left kept none result o u)

-- a status that is that of a drill
pub drill_status : (words : List (List ℕ)) (n : ℕ) (old new : Ports) (memory : List BankState) → IsDrill words n → new.left ≡ old.left → new.kept ≡ old.kept → (result : Result (Unit {0}) NotDrilled)
    → OnOk result (HasDrilled n memory old.held new.held) → IfErr result (IsUndrilled n memory old.held new.held old.write_faults new.write_faults) → (status : Status) → status ≡ status_of_drill result
    → Told words old new memory status
drill_status words n old new memory drill left kept result o u status is = subst (Told words old new memory) (sym is) (drill_tells words n old new memory drill left kept result o u)

-- which statuses a drill has
pub drill_ends : (n : ℕ) (memory : List BankState) (held held_now : Option (List ℕ)) (faults faults_now : ℕ) (result : Result (Unit {0}) NotDrilled) → IfErr result (IsUndrilled n memory held held_now faults faults_now)
    → (status : Status) → status ≡ status_of_drill result → ((status ≡ statuses.WriteFault) × Rose faults faults_now) ⊎ IsUnlessStarved statuses.Finished status
drill_ends n memory held held_now faults faults_now (Ok done) u status is = inr (inl is)
drill_ends n memory held held_now faults faults_now (Err drills.Untold) u status is = inr (inr is)
drill_ends n memory held held_now faults faults_now (Err (drills.Unwritten stores.Failed)) u status is = inl (is, u.0)
drill_ends n memory held held_now faults faults_now (Err (drills.Unwritten stores.OutOfMemory)) u status is = inr (inr is)

-- the same status in an answer
pub answered : (words : List (List ℕ)) (old new : Ports) (memory : List BankState) (status other : Status) → Told words old new memory status → Ended status ≡ Ended other → Told words old new memory other
answered words old new memory status other told is = subst (Told words old new memory) (ap status_in is) told
