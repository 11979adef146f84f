-- The places in their scripts from which the threads of a resume go on.
use Rattle.std.proofs.Common.{◌≡◌, ℕ, zero, suc, ◌+◌, ◌<◌, ◌≤◌, List, [], ◌∷◌, ◌++◌, length, map, refl, sym, ap, ◌∙◌, subst, inl, inr, arith}
use Rattle.std.specs.Prelude.{slice_index}
use Rattle.std.specs.List.{All}
use Rattle.std.specs.Global.{Vec}
use Rattle.std.proofs.lemmas.Bool.{cases_lt}
use Rattle.seq_object.specs.declared.command.Command.{Command}
use Rattle.seq_object.specs.declared.settings.Settings.{Settings}
use Rattle.seq_object.specs.History.{Scripts}
use Rattle.line_memory.specs.Line.{BankState}
use Rattle.life_model.specs.Life.{Opening, script_of, opening_place}
use Rattle.script_run.specs.Starts.{IsAtPlaces}
use Rattle.script_run.specs.Jobs.{IsResumeOver, MayResume}
use Rattle.script_run.proofs.HandedOver.{some_life, some_over}

-- a list with one number more, by place
at_front : (l : List ℕ) (x i : ℕ) → i < length l → slice_index (l ++ x ∷ []) i ≡ slice_index l i
at_front [] x i lt = absurd (omega (arith, lt))
at_front (y ∷ ys) x zero lt = refl
at_front (y ∷ ys) x (suc i) lt = at_front ys x i (omega (arith, lt))

at_last : (l : List ℕ) (x : ℕ) → slice_index (l ++ x ∷ []) (length l) ≡ x
at_last [] x = refl
at_last (y ∷ ys) x = at_last ys x

-- a script is short
pub script_short : (scripts : List (Vec Command)) → All (λ (s : Vec Command). length s.items ≤ 4096) scripts → (i : ℕ) → length (script_of (map (λ (s : Vec Command). s.items) scripts) i) ≤ 4096
script_short [] short i = omega arith
script_short (x ∷ xs) short zero = short 0 x (omega arith)
script_short (x ∷ xs) short (suc i) = script_short xs (λ k d lt. short (suc k) d (omega (arith, lt))) i

module _ (settings : Settings) (scripts : Scripts) (memory : List BankState) where
  -- these are the places of the first so many threads
  abbrev pub ArePlaces : ℕ → List ℕ → Type 0
  ArePlaces n places = (o : Opening) → IsResumeOver settings scripts memory o → (i : ℕ) → i < n → opening_place o i ≡ slice_index places i

  -- and with that of one thread more
  pub one_place_more : (n m place : ℕ) (places more : List ℕ) → m ≡ n + 1 → length places ≡ n → more ≡ places ++ place ∷ [] → ((o : Opening) → IsResumeOver settings scripts memory o → place ≡ opening_place o n) → ArePlaces n places
      → ArePlaces m more
  one_place_more n m place places more next number are here before o over i lt = elim (cases_lt i n) [
    | inl below ↦ before o over i below ∙ sym (ap (λ (l : List ℕ). slice_index l i) are ∙ at_front places place i (omega (arith, number, below)))
    | inr past ↦
        let same : n ≡ i = omega (arith, next, lt, past) in
        let last : slice_index (places ++ place ∷ []) n ≡ place = subst (λ (k : ℕ). slice_index (places ++ place ∷ []) k ≡ place) number (at_last places place) in
        subst (λ (k : ℕ). opening_place o k ≡ slice_index more k) same (sym (here o over) ∙ sym (ap (λ (l : List ℕ). slice_index l n) are ∙ last))
  ]

  module _ (ready : MayResume settings scripts memory) where
    -- none is past its script's end
    pub place_within : (i place : ℕ) → i < settings.threads → ((o : Opening) → IsResumeOver settings scripts memory o → place ≡ opening_place o i) → place ≤ length (script_of scripts i)
    place_within i place lt here =
        let o = some_life settings scripts memory ready in
        let over = some_over settings scripts memory ready in
        let is = here o over in
        let few = ready.places o over i lt in
        omega (arith, is, few)

    pub places_within : (places : List ℕ) → ArePlaces settings.threads places → (i : ℕ) → i < settings.threads → slice_index places i ≤ length (script_of scripts i)
    places_within places are i lt = place_within i (slice_index places i) lt (λ o over. sym (are o over i lt))

  -- each life that resumes goes on from them
  pub at_places : (places : List ℕ) → ArePlaces settings.threads places → (o : Opening) → IsResumeOver settings scripts memory o → IsAtPlaces settings scripts places o
  at_places places are o over = record { settings_are = over.settings_are; scripts_are = over.scripts_are; places_are = are o over }
