-- Words of one form are those of no other, and give an image one name.
use Rattle.std.proofs.Common.{◌≡◌, ℕ, List, [], ◌∷◌, length, drop, refl, ap, sym, subst, ◌∙◌, inl, inr, arith}
use Rattle.std.specs.Prelude.{codes}
use Rattle.life_model.specs.declared.life.Life.{Life}
use Rattle.life_model.specs.declared.life.Life.TheVariants.{Start, Resume}
use Rattle.program_words.specs.Words.{AreNaming, AreOfForm, IsCheck, IsDrill, AskFor, AreOfNoForm}
use Rattle.program_words.proofs.Naming.{first_letter, letter_of, behind_first}

-- parts of lists of words: the first word and the second
abbrev first_word : List (List ℕ) → List ℕ
first_word [] = []
first_word (word ∷ words) = word

abbrev second_word : List (List ℕ) → List ℕ
second_word [] = []
second_word (word ∷ words) = first_word words

-- words of a drill are those of no other form
letter_of_drill : (form : List ℕ) (words rest : List (List ℕ)) (name : List ℕ) → words ≡ codes "drill" ∷ rest → AreOfForm form words name → first_letter form ≡ 100
letter_of_drill form words rest name are is = ap (λ (ws : List (List ℕ)). letter_of ws) (sym is.words_are ∙ are)

pub no_checked_drill : (words : List (List ℕ)) (name : List ℕ) (n : ℕ) → IsCheck words name → IsDrill words n → ⊥
no_checked_drill words name n check drill = let letters : 99 ≡ 100 = letter_of_drill (codes "check") words (drill.word ∷ []) name drill.words_are check in absurd (omega (arith, letters))

pub no_drill_led : (life : Life) (words : List (List ℕ)) (name : List ℕ) (n : ℕ) → AskFor life words name → IsDrill words n → ⊥
no_drill_led Start words name n ask drill = let letters : 115 ≡ 100 = letter_of_drill (codes "start") words (drill.word ∷ []) name drill.words_are ask in absurd (omega (arith, letters))
no_drill_led Resume words name n ask drill = let letters : 114 ≡ 100 = letter_of_drill (codes "resume") words (drill.word ∷ []) name drill.words_are ask in absurd (omega (arith, letters))

-- words of two forms have one first letter
one_letter : (form another : List ℕ) (words : List (List ℕ)) (name other : List ℕ) → AreOfForm form words name → AreOfForm another words other → first_letter form ≡ first_letter another
one_letter form another words name other is also = ap (λ (ws : List (List ℕ)). letter_of ws) (sym is.words_are ∙ also.words_are)

-- words of a life are not those of a check
pub one_form : (life : Life) (words : List (List ℕ)) (name other : List ℕ) → AskFor life words name → IsCheck words other → ⊥
one_form Start words name other ask check = let letters : 115 ≡ 99 = one_letter (codes "start") (codes "check") words name other ask check in absurd (omega (arith, letters))
one_form Resume words name other ask check = let letters : 114 ≡ 99 = one_letter (codes "resume") (codes "check") words name other ask check in absurd (omega (arith, letters))

-- options give one name
one_naming : (options : List (List ℕ)) (name other : List ℕ) → AreNaming options name → AreNaming options other → name ≡ other
one_naming options name other (inl d) (inl e) = d.1 ∙ sym e.1
one_naming options name other (inl d) (inr (is, inl e)) = let n = ap length (sym d.0 ∙ e) in absurd (omega (arith, n))
one_naming options name other (inl d) (inr (is, inr e)) = let n = ap length (sym d.0 ∙ e) in absurd (omega (arith, n))
one_naming options name other (inr (was, inl d)) (inl e) = let n = ap length (sym d ∙ e.0) in absurd (omega (arith, n))
one_naming options name other (inr (was, inl d)) (inr (is, inl e)) = ap second_word (sym d ∙ e)
one_naming options name other (inr (was, inl d)) (inr (is, inr e)) = let n = ap length (sym d ∙ e) in absurd (omega (arith, n))
one_naming options name other (inr (was, inr d)) (inl e) = let n = ap length (sym d ∙ e.0) in absurd (omega (arith, n))
one_naming options name other (inr (was, inr d)) (inr (is, inl e)) = let n = ap length (sym d ∙ e) in absurd (omega (arith, n))
one_naming options name other (inr (was, inr d)) (inr (is, inr e)) = ap (λ (words : List (List ℕ)). drop 8 (first_word words)) (sym d ∙ e)

-- words of a form give one name
one_name_of : (form : List ℕ) (words : List (List ℕ)) (name other : List ℕ) → AreOfForm form words name → AreOfForm form words other → name ≡ other
one_name_of form words name other is also =
    let same : is.options ≡ also.options = ap behind_first (sym is.words_are ∙ also.words_are) in
    one_naming also.options name other (subst (λ (options : List (List ℕ)). AreNaming options name) same is.naming) also.naming

pub one_name : (words : List (List ℕ)) (name other : List ℕ) → IsCheck words name → IsCheck words other → name ≡ other
one_name words name other check again = one_name_of (codes "check") words name other check again

-- words ask for one kind of life, and give its image one name
pub one_life : (life another : Life) (words : List (List ℕ)) (name other : List ℕ) → AskFor life words name → AskFor another words other → (life ≡ another) × (name ≡ other)
one_life Start Start words name other ask also = (refl, one_name_of (codes "start") words name other ask also)
one_life Start Resume words name other ask also =
    let letters : 115 ≡ 114 = one_letter (codes "start") (codes "resume") words name other ask also in absurd (omega (arith, letters))
one_life Resume Start words name other ask also =
    let letters : 114 ≡ 115 = one_letter (codes "resume") (codes "start") words name other ask also in absurd (omega (arith, letters))
one_life Resume Resume words name other ask also = (refl, one_name_of (codes "resume") words name other ask also)

-- words of no form ask for no life
pub no_life_asked : (life : Life) (words : List (List ℕ)) (name : List ℕ) → AreOfNoForm words → AskFor life words name → ⊥
no_life_asked Start words name none ask = none.no_start name ask
no_life_asked Resume words name none ask = none.no_resume name ask
