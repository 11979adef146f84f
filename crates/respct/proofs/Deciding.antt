-- To which status a life leads where nothing outside fails: by the bytes of its source, and at a resume by what the store keeps under its name.
use Rattle.std.proofs.Common.{◌≡◌, ℕ, ◌<◌, ◌≤◌, List, length, Option, Some, None, inl, inr, refl, ap, sym, subst, ◌∙◌, arith}
use Rattle.std.specs.FinMap.{get}
use Rattle.std.proofs.Math.ListN.{get_or-map}
use Rattle.std.proofs.lemmas.Grind.{same_number_lists}
use Rattle.std.proofs.lemmas.List.{length-map}
use Rattle.byte_ports.specs.Bytes.{Gave}
use Rattle.byte_ports.specs.Causes.{Rose}
use Rattle.byte_ports.specs.Images.{Named, Finds}
use Rattle.line_memory.specs.Line.{BankState}
use Rattle.seq_object.specs.declared.history.RestartPoint.{RestartPoint}
use Rattle.seq_object.specs.declared.sizes.Sizes.{Sizes}
use Rattle.seq_object.specs.History.{State, point_at, first_point}
use Rattle.seq_object.specs.Sizes.{sizes_of}
use Rattle.room_model.specs.MapRoom.{Layout, live_layout}
use Rattle.room_model.specs.Image.{ImageRooms as Rooms, Recovers, epoch_at}
use Rattle.life_model.specs.declared.life.Life.{Life}
use Rattle.life_model.specs.declared.life.Life.TheVariants.{Start, Resume}
use Rattle.life_model.specs.Life.{Opening}
use Rattle.power_cut.specs.declared.fault.ImageFault.{ImageFault}
use Rattle.script_text.specs.declared.fault.ScriptFault.{ScriptFault}
use Rattle.script_text.specs.Program.{Program}
use Rattle.script_text.specs.Text.{text_of}
use Rattle.script_text.specs.Built.{IsBuiltText, IsRefusedFor}
use Rattle.script_text.proofs.RefusalLaws.{one_refusal}
use Rattle.script_text.proofs.WholeLaws.{one_text}
use Rattle.respct.specs.declared.fitting.Misfit.{Misfit}
use Rattle.respct.specs.declared.status.Status.{Status}
use Rattle.respct.specs.declared.status.Status.TheVariants as statuses
use Rattle.program_words.specs.Words.{IsResume, AskFor}
use Rattle.respct.specs.Loads.{IsSpelling, IsLawfulSpelling, AreNoImage, IsFirstFault, IsFaulty}
use Rattle.respct.specs.Openings.{misfit_in, places_in, BeginsAs, IsMisfit}
use Rattle.respct.specs.Misfits.{first_misfit}
use Rattle.respct.specs.Run.{script_limit, HasRead, Led, IsLed}
use Rattle.respct.specs.Answers.{IsOfLifeUnlessStarved, IsGoneOn, LeadsOn, IsCarriedOut, IsDecided, IsNoScript, TookTooMuch, IsOnlyLoaded}
use Rattle.respct.specs.Steps.{Ports}
use Rattle.respct.proofs.Loads.{one_image, one_fault_law}
use Rattle.respct.proofs.Naming.{one_form, no_drill_led, one_life}
use Rattle.respct.proofs.Telling.{Told}

-- BY THE SOURCE.

-- the bytes that a source gave are those that it had
pub given : (left rest : Option (List ℕ)) (bytes text : List ℕ) → Gave left rest text → left ≡ Some bytes → text ≡ bytes
given left rest bytes text gave told = given_all rest bytes text (subst (λ (l : Option (List ℕ)). Gave l rest text) told gave)
  where
    given_all : (rest : Option (List ℕ)) (bytes text : List ℕ) → Gave (Some bytes) rest text → text ≡ bytes
    given_all None bytes text g = absurd g
    given_all (Some new) bytes text g = sym g.0

-- a script that was read decides
read_decides : (life : Life) (kept : Option Named) (name bytes : List ℕ) (left rest : Option (List ℕ)) (p : Program) (status : Status) → left ≡ Some bytes → HasRead left rest p → IsCarriedOut life kept name p status
    → IsDecided life kept name bytes status
read_decides life kept name bytes left rest p status told read carried =
    let same : text_of p ≡ bytes = given left rest bytes (text_of p) read.read told in
    let built : IsBuiltText bytes p = subst (λ (t : List ℕ). IsBuiltText t p) same read.built in
    let short : length bytes ≤ script_limit = subst (λ (t : List ℕ). length t ≤ script_limit) same read.few in
    record {
      carried_out = λ few q other. subst (λ (r : Program). IsCarriedOut life kept name r status) (one_text p q built.text.within other.text.within (same ∙ other.text.text)) carried;
      refused = λ few f is. absurd (one_refusal.none bytes f is p built);
      too_long = λ many. absurd (omega (arith, short, many));
    }

-- so does a fault
fault_decides : (life : Life) (kept : Option Named) (name bytes : List ℕ) (left rest : Option (List ℕ)) (f : ScriptFault) → left ≡ Some bytes → IsNoScript left rest f → IsDecided life kept name bytes (statuses.Script f)
fault_decides life kept name bytes left rest f told none =
    let same : none.bytes ≡ bytes = given left rest bytes none.bytes none.read told in
    let is : IsRefusedFor bytes f = subst (λ (t : List ℕ). IsRefusedFor t f) same none.refused in
    let short : length bytes ≤ script_limit = subst (λ (t : List ℕ). length t ≤ script_limit) same none.few in
    record {
      carried_out = λ few p built. absurd (one_refusal.none bytes f is p built);
      refused = λ few g other. inl (ap statuses.Script (one_refusal.one bytes f g is other));
      too_long = λ many. absurd (omega (arith, short, many));
    }

-- and so do too many bytes
long_decides : (life : Life) (kept : Option Named) (name bytes : List ℕ) (left rest : Option (List ℕ)) → left ≡ Some bytes → TookTooMuch left rest → IsDecided life kept name bytes statuses.TooLong
long_decides life kept name bytes left rest told took = long rest (subst (λ (l : Option (List ℕ)). TookTooMuch l rest) told took)
  where
    long : (rest : Option (List ℕ)) → TookTooMuch (Some bytes) rest → IsDecided life kept name bytes statuses.TooLong
    long None many = absurd many
    long (Some new) many = record { carried_out = λ few p built. absurd (omega (arith, few, many)); refused = λ few f is. absurd (omega (arith, few, many)); too_long = λ more. inl refl }

-- BY THE STORE.

-- what a look-up finds decides
leads : (kept : Option Named) (named : Named) (name : List ℕ) (under : Option (List ℕ)) (p : Program) (status : Status) → Finds kept name under → kept ≡ Some named → LeadsOn p under status → LeadsOn p (get named name) status
leads kept named name under p status finds told on = subst (λ (u : Option (List ℕ)). LeadsOn p u status) (sym (subst (λ (k : Option Named). Finds k name under) told finds)) on

-- the place of a point
abbrev place : RestartPoint → ℕ
place point = point.position

-- the states to which an image recovers have the same places
same_places : (s t : State) (n : ℕ) → length s.points ≡ n → length t.points ≡ n → ((thread : ℕ) → thread < n → point_at s.points thread ≡ point_at t.points thread) → places_in s ≡ places_in t
same_places s t n few many same =
    let left : length (places_in s) ≡ n = length-map s.points place ∙ few in
    let right : length (places_in t) ≡ n = length-map t.points place ∙ many in
    same_number_lists (places_in s) (places_in t) (left ∙ sym right)
    (λ k lt. get_or-map place s.points k first_point ∙ ap place (same k (omega (arith, lt, left))) ∙ sym (get_or-map place t.points k first_point))

recovered_places : (layout : Layout) (z : Sizes) (rooms : Rooms) (s t : State) → Recovers layout z rooms s → Recovers layout z rooms t → places_in s ≡ places_in t
recovered_places layout z rooms s t is also = same_places s t z.threads is.threads also.threads (λ thread lt. is.points thread lt ∙ sym (also.points thread lt))

-- so bytes have one first misfit with a program
one_misfit : (bytes : List ℕ) (z y : Sizes) (rooms others : Rooms) (s t : State) (p : Program) → IsSpelling bytes z rooms → IsSpelling bytes y others → Recovers live_layout z rooms s → Recovers live_layout y others t
    → misfit_in z rooms s p ≡ misfit_in y others t p
one_misfit bytes z y rooms others s t p spells also is other =
    let same = one_image bytes z y rooms others spells also in
    let back : Recovers live_layout z rooms t = subst (λ (r : Rooms). Recovers live_layout z r t) (sym same.1) (subst (λ (x : Sizes). Recovers live_layout x others t) (sym same.0) other) in
    ap (λ (places : List ℕ). first_misfit z (epoch_at z rooms) places p) (recovered_places live_layout z rooms s t is back)
    ∙ ap (λ (x : Sizes). misfit_in x rooms t p) same.0 ∙ ap (λ (r : Rooms). misfit_in y r t p) same.1

-- a lawful image is one that its bytes spell
spells_lawful : (bytes : List ℕ) (z : Sizes) (rooms : Rooms) (state : State) → IsSpelling bytes z rooms → Recovers live_layout z rooms state → IsLawfulSpelling bytes z rooms
spells_lawful bytes z rooms state spells is = record { spelling = spells; lawful = (state, is) }

-- a misfit is one
is_one : (m : Misfit) → Some m ≡ None → ⊥
is_one m is = cc is

same_misfit : (m n : Misfit) → Some m ≡ Some n → m ≡ n
same_misfit m n is = cc is

-- bytes of no lawful image
faulty_leads : (p : Program) (bytes : List ℕ) (f : ImageFault) → AreNoImage bytes → IsFirstFault bytes f → IsGoneOn p bytes (statuses.Image f)
faulty_leads p bytes f none first = record {
  other = λ no g other. inl (ap statuses.Image (one_fault_law bytes f g first other));
  misfit = λ z rooms state m spells is misfit. absurd (none z rooms (spells_lawful bytes z rooms state spells is));
  fits = λ z rooms state spells is fits. absurd (none z rooms (spells_lawful bytes z rooms state spells is));
}

-- those of an image that misfits
misfit_leads : (p : Program) (bytes : List ℕ) (z : Sizes) (rooms : Rooms) (state : State) (m : Misfit) → IsLawfulSpelling bytes z rooms → Recovers live_layout z rooms state → misfit_in z rooms state p ≡ Some m
    → IsGoneOn p bytes (statuses.Misfit m)
misfit_leads p bytes z rooms state m lawful recovers is = record {
  other = λ none f first. absurd (none z rooms lawful);
  misfit = λ y others t n spells also other. inl (ap statuses.Misfit (same_misfit m n (sym is ∙ one_misfit bytes z y rooms others state t p lawful.spelling spells recovers also ∙ other)));
  fits = λ y others t spells also none. absurd (is_one m (sym is ∙ one_misfit bytes z y rooms others state t p lawful.spelling spells recovers also ∙ none));
}

-- and those of one that fits
fitting_leads : (p : Program) (bytes : List ℕ) (z : Sizes) (rooms : Rooms) (state : State) (status : Status) → IsOfLifeUnlessStarved status → IsLawfulSpelling bytes z rooms → Recovers live_layout z rooms state
    → misfit_in z rooms state p ≡ None → IsGoneOn p bytes status
fitting_leads p bytes z rooms state status of lawful recovers is = record {
  other = λ none f first. absurd (none z rooms lawful);
  misfit = λ y others t m spells also other. absurd (is_one m (sym other ∙ sym (one_misfit bytes z y rooms others state t p lawful.spelling spells recovers also) ∙ is));
  fits = λ y others t spells also none. of;
}

-- a life that began decides
begun_leads : (life : Life) (kept : Option Named) (name : List ℕ) (p : Program) (image : Rooms) (o : Opening) (status : Status) → IsOfLifeUnlessStarved status → BeginsAs life kept name p image o → IsCarriedOut life kept name p status
begun_leads Start kept name p image o status of begins = of
begun_leads Resume kept name p image o status of begins = λ named told.
    leads kept named name (Some begins.image.bytes) p status begins.image.held told
    (fitting_leads p begins.image.bytes (sizes_of p.settings) image o.state status of begins.image.spelling begins.opened.from.state begins.fits)

-- want of memory is free
starved_leads : (p : Program) (under : Option (List ℕ)) → LeadsOn p under statuses.OutOfMemory
starved_leads p None = inr refl
starved_leads p (Some bytes) = record { other = λ none f first. inr refl; misfit = λ z rooms state m spells is misfit. inr refl; fits = λ z rooms state spells is fits. inr (inr (inr refl)) }

starved_carries : (life : Life) (kept : Option Named) (name : List ℕ) (p : Program) → IsCarriedOut life kept name p statuses.OutOfMemory
starved_carries Start kept name p = inr (inr (inr refl))
starved_carries Resume kept name p = λ named told. starved_leads p (get named name)

starved_decides : (life : Life) (kept : Option Named) (name bytes : List ℕ) → IsDecided life kept name bytes statuses.OutOfMemory
starved_decides life kept name bytes = record { carried_out = λ few p built. starved_carries life kept name p; refused = λ few f is. inr refl; too_long = λ many. inr refl }

-- WHERE NOTHING OUTSIDE FAILS.

-- of one kind of life and of one name
carried_as : (life another : Life) (kept : Option Named) (name other : List ℕ) (p : Program) (status : Status) → (another ≡ life) × (other ≡ name) → IsCarriedOut another kept other p status → IsCarriedOut life kept name p status
carried_as life another kept name other p status same carried =
    subst (λ (k : Life). IsCarriedOut k kept name p status) same.0 (subst (λ (n : List ℕ). IsCarriedOut another kept n p status) same.1 carried)

module _ (life : Life) (words : List (List ℕ)) (name : List ℕ) (old new : Ports) (memory : List BankState) (bytes : List ℕ) (ask : AskFor life words name) (told : old.left ≡ Some bytes) where
  -- a life that was led
  led_decides : (status : Status) → IsOfLifeUnlessStarved status → (led : Led) → AskFor led.life words led.name → IsLed old.left new.left old.kept memory led → IsDecided life old.kept name bytes status
  led_decides status of led asked is =
      read_decides life old.kept name bytes old.left new.left led.program status told is.source
      (carried_as life led.life old.kept name led.name led.program status (one_life led.life life words led.name name asked ask)
      (begun_leads led.life old.kept led.name led.program led.image led.opening status of is.begins))

  -- a resume that was refused behind its script
  resume_decides : (status : Status) (other : List ℕ) (p : Program) → IsResume words other → HasRead old.left new.left p → IsCarriedOut Resume old.kept other p status → IsDecided life old.kept name bytes status
  resume_decides status other p resume read carried =
      read_decides life old.kept name bytes old.left new.left p status told read (carried_as life Resume old.kept name other p status (one_life Resume life words other name resume ask) carried)

  -- a call that only loaded an image
  loaded_decides : (status : Status) (other : List ℕ) → IsOnlyLoaded words other old.left new.left old.held new.held old.kept new.kept memory → ((p : Program) → IsCarriedOut Resume old.kept other p status)
      → IsDecided life old.kept name bytes status
  loaded_decides status other (inl check) carried = absurd (one_form life words name other ask check.0)
  loaded_decides status other (inr resume) carried = resume_decides status other resume.1.0 resume.0 resume.1.1 (carried resume.1.0)

  -- to which status it leads
  pub decides : (Rose old.read_faults new.read_faults → ⊥) → (Rose old.image_faults new.image_faults → ⊥) → (Rose old.write_faults new.write_faults → ⊥) → (status : Status) → Told words old new memory status
      → IsDecided life old.kept name bytes status
  decides reading storing writing statuses.Finished (inl t) = led_decides statuses.Finished (inl refl) t.0 t.1 t.2
  decides reading storing writing statuses.Finished (inr (inl t)) = absurd (one_form life words name t.0 ask t.1)
  decides reading storing writing statuses.Finished (inr (inr t)) = absurd (no_drill_led life words name t.0 ask t.1)
  decides reading storing writing statuses.Usage t = absurd t
  decides reading storing writing (statuses.Script f) t = fault_decides life old.kept name bytes old.left new.left f told t.0
  decides reading storing writing statuses.Stalled t = led_decides statuses.Stalled (inr (inl refl)) t.0 t.1 t.2
  decides reading storing writing statuses.Cut t = led_decides statuses.Cut (inr (inr (inl refl))) t.0 t.1 t.2
  decides reading storing writing (statuses.Image f) t =
      let faulty : IsFaulty old.kept t.0 f = t.1 in
      loaded_decides (statuses.Image f) t.0 t.2
      (λ p named is. leads old.kept named t.0 (Some faulty.bytes) p (statuses.Image f) faulty.held is (faulty_leads p faulty.bytes f faulty.refused.other faulty.refused.first))
  decides reading storing writing (statuses.Misfit m) t =
      let p : Program = t.2.0 in
      let misfit : IsMisfit old.kept t.0 p m = t.2.2 in
      resume_decides (statuses.Misfit m) t.0 p t.1 t.2.1
      (λ named is. leads old.kept named t.0 (Some misfit.image.bytes) p (statuses.Misfit m) misfit.image.held is
      (misfit_leads p misfit.image.bytes misfit.sizes misfit.rooms misfit.state m misfit.image.spelling misfit.recovers misfit.first))
  decides reading storing writing statuses.ReadFault t = absurd (reading t.0)
  decides reading storing writing statuses.WriteFault t = absurd (writing t.0)
  decides reading storing writing statuses.StoreFault t = absurd (storing t.0)
  decides reading storing writing statuses.NoImage t = loaded_decides statuses.NoImage t.0 t.2 (λ p named is. leads old.kept named t.0 None p statuses.NoImage t.1 is (inl refl))
  decides reading storing writing statuses.OutOfMemory t = starved_decides life old.kept name bytes
  decides reading storing writing statuses.TooLong t = long_decides life old.kept name bytes old.left new.left told t.0
