-- Which words name an image.
use Rattle.std.proofs.Common.{◌≡◌, ℕ, ◌<◌, ◌≤◌, Bool, true, false, List, [], ◌∷◌, length, get_or, map, refl, ap, sym, subst, ◌∙◌, inl, inr, arith}
use Rattle.std.specs.Prelude.{codes}
use Rattle.std.specs.Bool.{MatchBool}
use Rattle.std.specs.Str.{bytes_eq}
use Rattle.std.proofs.lemmas.Slice.Eq.{bytes_eq-Decides}
use Rattle.program_words.specs.Words.{IsName, AreNaming, AreOfForm, AreOfNoForm, HaveForm, TakesImage, default_name}

-- what a test of these words gives
abbrev pub Names : Bool → List (List ℕ) → Type 0
Names given options = MatchBool given ((name : List ℕ) × AreNaming options name) ((name : List ℕ) → AreNaming options name → ⊥)

-- no words
pub no_words : {X : Type 0} (text : X → List ℕ) (words : List X) → length words < 1 → Names true (map text words)
no_words text [] few = (default_name, inl (refl, refl))
no_words text (w ∷ ws) few = absurd (omega (arith, few))

-- a list of two
two_of : {X : Type 0} (text : X → List ℕ) (words : List X) (x y : X) → 2 ≤ length words → length words < 3 → x ≡ get_or words 0 x → y ≡ get_or words 1 y → map text words ≡ text x ∷ text y ∷ []
two_of text [] x y some few is then = absurd (omega (arith, some))
two_of text (v ∷ []) x y some few is then = absurd (omega (arith, some))
two_of text (v ∷ w ∷ []) x y some few is then = ap (λ z. text z ∷ text w ∷ []) (sym is) ∙ ap (λ z. text x ∷ text z ∷ []) (sym then)
two_of text (v ∷ w ∷ u ∷ rest) x y some few is then = absurd (omega (arith, few))

-- a word behind the option that is no name
no_name : (word : List ℕ) → (IsName word → ⊥) → (name : List ℕ) → AreNaming (codes "--image" ∷ word ∷ []) name → ⊥
no_name word unnamed name (inl e) = let is = e.0 in cc
no_name word unnamed name (inr (named, inl e)) = let same : name ≡ word = cc in unnamed (subst IsName same named)
no_name word unnamed name (inr (named, inr e)) = cc

-- the option and a word behind it
tested : (given : Bool) (word : List ℕ) → MatchBool given (IsName word) (IsName word → ⊥) → Names given (codes "--image" ∷ word ∷ [])
tested false word tests = no_name word tests
tested true word tests = (word, inr (tests, inl refl))

-- two words, of which the first is the option
pub two_words : {X : Type 0} (text : X → List ℕ) (words : List X) (option word : X) (name : List ℕ) (given : Bool) → 2 ≤ length words → length words < 3 → option ≡ get_or words 0 option → word ≡ get_or words 1 word
    → text option ≡ codes "--image" → name ≡ text word → MatchBool given (IsName name) (IsName name → ⊥) → Names given (map text words)
two_words text words option word name given some few is then same named tests =
    subst (λ (ws : List (List ℕ)). Names given ws) (ap (λ (o : List ℕ). o ∷ text word ∷ []) (sym same) ∙ sym (two_of text words option word some few is then))
    (tested given (text word) (subst (λ (n : List ℕ). MatchBool given (IsName n) (IsName n → ⊥)) named tests))

-- a text that passed a comparison
pub passed : (text other word : List ℕ) (test : Bool) → test ≡ true → test ≡ bytes_eq text word → text ≡ other → other ≡ word
passed text other word test t e is = sym is ∙ (bytes_eq-Decides text word).0 (sym e ∙ t)

-- ---- the words of a form with a name

-- words that name an image
named_form : (words : List (List ℕ)) (first : List ℕ) (options : List (List ℕ)) (name : List ℕ) → words ≡ first ∷ options → TakesImage first → AreNaming options name → HaveForm words
named_form words first options name are (inl e) naming = inl (name, record { options = options; words_are = are ∙ ap (λ w. w ∷ options) e; naming = naming })
named_form words first options name are (inr (inl e)) naming = inr (inl (name, record { options = options; words_are = are ∙ ap (λ w. w ∷ options) e; naming = naming }))
named_form words first options name are (inr (inr e)) naming = inr (inr (inl (name, record { options = options; words_are = are ∙ ap (λ w. w ∷ options) e; naming = naming })))

-- the first letter of a word
abbrev pub first_letter : List ℕ → ℕ
first_letter [] = 0
first_letter (c ∷ cs) = c

-- and of the first word
abbrev pub letter_of : List (List ℕ) → ℕ
letter_of [] = 0
letter_of (word ∷ words) = first_letter word

-- the words behind the first
abbrev pub behind_first : List (List ℕ) → List (List ℕ)
behind_first [] = []
behind_first (word ∷ words) = words

-- the first word of a form with a name is not that of a drill
no_drill : (first : List ℕ) → TakesImage first → first_letter first ≡ 100 → ⊥
no_drill first (inl e) letter = let letters : 115 ≡ 100 = sym (ap first_letter e) ∙ letter in absurd (omega (arith, letters))
no_drill first (inr (inl e)) letter = let letters : 114 ≡ 100 = sym (ap first_letter e) ∙ letter in absurd (omega (arith, letters))
no_drill first (inr (inr e)) letter = let letters : 99 ≡ 100 = sym (ap first_letter e) ∙ letter in absurd (omega (arith, letters))

-- where the options name none, the words have no form
nameless : (words : List (List ℕ)) (first : List ℕ) (options : List (List ℕ)) → words ≡ first ∷ options → ((name : List ℕ) → AreNaming options name → ⊥)
    → (form name : List ℕ) → AreOfForm form words name → ⊥
nameless words first options are none form name is =
    none name (subst (λ (os : List (List ℕ)). AreNaming os name) (ap behind_first (sym is.words_are ∙ are)) is.naming)

-- so a word that takes an image has a form where the words behind it name one, and none where they do not
pub formed : (words : List (List ℕ)) (first : List ℕ) (options : List (List ℕ)) (given : Bool) → words ≡ first ∷ options → TakesImage first → Names given options
    → MatchBool given (HaveForm words) (AreOfNoForm words)
formed words first options true are takes names = named_form words first options names.0 are takes names.1
formed words first options false are takes names = record {
  no_start = nameless words first options are names (codes "start");
  no_resume = nameless words first options are names (codes "resume");
  no_check = nameless words first options are names (codes "check");
  no_drill = λ number is. no_drill first takes (ap letter_of (sym are ∙ is.words_are));
}
