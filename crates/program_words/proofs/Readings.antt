-- What a form is read as, from matches that tell it.
use Rattle.std.proofs.Common.{◌≡◌, false, true≢false, List, Option, Some, None, ap, ap₂, sym, subst, ◌∙◌, codes, inl, inr, arith, option_map}
use Rattle.std.specs.Option.{unwrap_or}
use Rattle.std.specs.Str.{bytes_eq}
use Rattle.std.proofs.lemmas.Slice.Eq.{bytes_eq-Decides}
use Rattle.clap.specs.Words.{Row, Text, first_of, subcommand_name_of, subcommand_rows, subcommand_rows_of}
use Rattle.clap.specs.declared.parser.matches.ArgMatches.{ArgMatches}
use Rattle.clap.specs.declared.parser.matches.ArgMatches.TheViews.{out-ArgMatches}
use Rattle.program_words.specs.Words.{AreOfForm}
use Rattle.program_words.specs.Commands.{Tells, TellsImage, TellsNumber}
use Rattle.program_words.proofs.Naming.{first_letter}

-- ---- the subcommand and its matches

some_same : {A : Type 0} (a b : A) → Some a ≡ Some b → a ≡ b
some_same a b e = ap (λ o. unwrap_or o a) e

abbrev both : Text → List Row → Text × List Row
both word rows = (word, rows)

met : {X : Type 0} (o : Option X) (f : X → Text) (g : X → List Row) (word : Text) (rows : List Row)
    → Some word ≡ option_map f o → Some rows ≡ option_map (λ (p : Text × List Row). p.1) (option_map (λ x. both (f x) (g x)) o) → option_map (λ x. both (f x) (g x)) o ≡ Some (both word rows)
met None f g word rows e k = cc
met (Some x) f g word rows e k = ap₂ (λ (w : Text) (r : List Row). Some (both w r)) (sym (some_same word (f x) e)) (sym (some_same rows (g x) k))

-- matches that tell a form do so by the subcommand that they have
pub told_by : (m : ArgMatches) (words : List Text) (word : Text) (rows : List Row) → Some word ≡ subcommand_name_of m
    → Some rows ≡ option_map (λ (p : Text × List Row). p.1) (subcommand_rows (out-ArgMatches m).subcommand) → Tells words (subcommand_rows_of m) → Tells words (Some (word, rows))
told_by m words word rows e k = subst (Tells words) (met (out-ArgMatches m).subcommand _ _ word rows e k)

-- ---- which form it is

-- two first words with one letter in front
one_letter : (word a b : Text) → word ≡ a → word ≡ b → first_letter a ≡ first_letter b
one_letter word a b is also = ap first_letter (sym is ∙ also)

-- the name of the form that is told
same_name : (form : Text) (words : List Text) (word : Text) (rows : List Row) → TellsImage form words word rows → (image : Text) → first_of (codes "image") rows ≡ Some image → AreOfForm form words image
same_name form words word rows told image found = subst (AreOfForm form words) (some_same told.name image (sym told.option_is ∙ found)) told.of_form

module _ (words : List Text) (word : Text) (rows : List Row) where
  pub start_read : Tells words (Some (word, rows)) → word ≡ codes "start" → (image : Text) → first_of (codes "image") rows ≡ Some image → AreOfForm (codes "start") words image
  start_read (inl told) is = same_name (codes "start") words word rows told
  start_read (inr (inl told)) is = let letters : 115 ≡ 114 = one_letter word (codes "start") (codes "resume") is told.word_is in absurd (omega (arith, letters))
  start_read (inr (inr (inl told))) is = let letters : 115 ≡ 99 = one_letter word (codes "start") (codes "check") is told.word_is in absurd (omega (arith, letters))
  start_read (inr (inr (inr told))) is = let letters : 115 ≡ 100 = one_letter word (codes "start") (codes "drill") is told.word_is in absurd (omega (arith, letters))

  pub resume_read : Tells words (Some (word, rows)) → word ≡ codes "resume" → (image : Text) → first_of (codes "image") rows ≡ Some image → AreOfForm (codes "resume") words image
  resume_read (inl told) is = let letters : 114 ≡ 115 = one_letter word (codes "resume") (codes "start") is told.word_is in absurd (omega (arith, letters))
  resume_read (inr (inl told)) is = same_name (codes "resume") words word rows told
  resume_read (inr (inr (inl told))) is = let letters : 114 ≡ 99 = one_letter word (codes "resume") (codes "check") is told.word_is in absurd (omega (arith, letters))
  resume_read (inr (inr (inr told))) is = let letters : 114 ≡ 100 = one_letter word (codes "resume") (codes "drill") is told.word_is in absurd (omega (arith, letters))

  pub check_read : Tells words (Some (word, rows)) → word ≡ codes "check" → (image : Text) → first_of (codes "image") rows ≡ Some image → AreOfForm (codes "check") words image
  check_read (inl told) is = let letters : 99 ≡ 115 = one_letter word (codes "check") (codes "start") is told.word_is in absurd (omega (arith, letters))
  check_read (inr (inl told)) is = let letters : 99 ≡ 114 = one_letter word (codes "check") (codes "resume") is told.word_is in absurd (omega (arith, letters))
  check_read (inr (inr (inl told))) is = same_name (codes "check") words word rows told
  check_read (inr (inr (inr told))) is = let letters : 99 ≡ 100 = one_letter word (codes "check") (codes "drill") is told.word_is in absurd (omega (arith, letters))

  pub drill_read : Tells words (Some (word, rows)) → word ≡ codes "drill" → TellsNumber words word rows
  drill_read (inl told) is = let letters : 100 ≡ 115 = one_letter word (codes "drill") (codes "start") is told.word_is in absurd (omega (arith, letters))
  drill_read (inr (inl told)) is = let letters : 100 ≡ 114 = one_letter word (codes "drill") (codes "resume") is told.word_is in absurd (omega (arith, letters))
  drill_read (inr (inr (inl told))) is = let letters : 100 ≡ 99 = one_letter word (codes "drill") (codes "check") is told.word_is in absurd (omega (arith, letters))
  drill_read (inr (inr (inr told))) is = told

  -- a form that is no drill has a name
  pub named : Tells words (Some (word, rows)) → bytes_eq word (codes "drill") ≡ false → None ≡ first_of (codes "image") rows → ⊥
  named (inl told) other none = let both = none ∙ told.option_is in cc
  named (inr (inl told)) other none = let both = none ∙ told.option_is in cc
  named (inr (inr (inl told))) other none = let both = none ∙ told.option_is in cc
  named (inr (inr (inr told))) other none = true≢false (sym ((bytes_eq-Decides word (codes "drill")).1 told.word_is) ∙ other)
