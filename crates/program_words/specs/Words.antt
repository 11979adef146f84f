-- The words after the program's name, and the forms in which they stand.
use Rattle.std.specs.Prelude.{◌≡◌, ◌≢◌, ◌⊎◌, ◌<◌, ◌^◌, ◌==◌, ◌&&◌, ℕ, Bool, false, not, List, [], ◌∷◌, ◌++◌, codes}
use Rattle.std.specs.Fmt.{decimal}
use Rattle.life_model.specs.declared.life.Life.{Life}
use Rattle.life_model.specs.declared.life.Life.TheVariants.{Start, Resume}
use Rattle.program_words.specs.declared.form.Form.{Form}
use Rattle.program_words.specs.declared.form.Form.TheVariants as forms

-- a name of an image: it is not empty, and does not begin with a dash
abbrev pub IsName : List ℕ → Type 0
IsName [] = ⊥
IsName (b ∷ bs) = b ≢ 45

-- the name of an image where none is given
abbrev pub default_name : List ℕ
default_name = codes "respct.image"

-- these words give the name of an image: there are none, or the name is in a word of its own, or behind an equals sign
abbrev pub AreNaming : List (List ℕ) → List ℕ → Type 0
AreNaming options name = ((options ≡ []) × (name ≡ default_name))
    ⊎ (IsName name × ((options ≡ codes "--image" ∷ name ∷ []) ⊎ (options ≡ (codes "--image=" ++ name) ∷ [])))

-- the words of the form with this first word, and the name of its image
pub record AreOfForm (first : List ℕ) (words : List (List ℕ)) (name : List ℕ) : Type 0 where
  pub options : List (List ℕ)
  pub words_are : words ≡ first ∷ options
  pub naming : AreNaming options name

-- the words of a start, of a resume and of a check
abbrev pub IsStart : List (List ℕ) → List ℕ → Type 0
IsStart words name = AreOfForm (codes "start") words name

abbrev pub IsResume : List (List ℕ) → List ℕ → Type 0
IsResume words name = AreOfForm (codes "resume") words name

abbrev pub IsCheck : List (List ℕ) → List ℕ → Type 0
IsCheck words name = AreOfForm (codes "check") words name

-- the first word of a form that takes the name of an image
abbrev pub TakesImage : List ℕ → Type 0
TakesImage word = (word ≡ codes "start") ⊎ ((word ≡ codes "resume") ⊎ (word ≡ codes "check"))

-- the word is this number of 64 bits in decimal digits, with no zero in front but where `0` is all
abbrev pub IsNumber : List ℕ → ℕ → Type 0
IsNumber word number = (word ≡ decimal number) × (number < 2 ^ 64)

-- the word has no zero before other letters, and no plus
abbrev pub has_number_front : List ℕ → Bool
has_number_front [] = false
has_number_front (c ∷ []) = not (c == 43)
has_number_front (c ∷ d ∷ ds) = not (c == 48) && not (c == 43)

-- the words of the drill of this number
pub record IsDrill (words : List (List ℕ)) (number : ℕ) : Type 0 where
  pub word : List ℕ
  pub words_are : words ≡ codes "drill" ∷ word ∷ []
  pub is_number : IsNumber word number

-- the words ask for a life of this kind
abbrev pub AskFor : Life → List (List ℕ) → List ℕ → Type 0
AskFor Start words name = IsStart words name
AskFor Resume words name = IsResume words name

-- these are the words of a form
abbrev pub AreWordsOf : List (List ℕ) → Form → Type 0
AreWordsOf words (forms.Lead life image) = AskFor life words image.now
AreWordsOf words (forms.Check image) = IsCheck words image.now
AreWordsOf words (forms.Drill number) = IsDrill words number

-- the words are those of no form
pub record AreOfNoForm (words : List (List ℕ)) : Type 0 where
  pub no_start : (name : List ℕ) → IsStart words name → ⊥
  pub no_resume : (name : List ℕ) → IsResume words name → ⊥
  pub no_check : (name : List ℕ) → IsCheck words name → ⊥
  pub no_drill : (number : ℕ) → IsDrill words number → ⊥

-- the words are those of a form
abbrev pub HaveForm : List (List ℕ) → Type 0
HaveForm words = ((name : List ℕ) × IsStart words name)
    ⊎ (((name : List ℕ) × IsResume words name) ⊎ (((name : List ℕ) × IsCheck words name) ⊎ ((number : ℕ) × IsDrill words number)))
