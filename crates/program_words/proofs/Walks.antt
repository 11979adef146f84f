-- What the walk over the words of a form finds, and that clap takes them.
use Rattle.std.proofs.Common.{◌≡◌, ℕ, Bool, true, false, List, [], ◌∷◌, ◌++◌, ◌==◌, ◌&&◌, ◌||◌, Option, Some, None, cond, refl, ap, ap₂, sym, subst, ◌∙◌, codes, option_map, inl, inr, ne_eqb}
use Rattle.std.specs.Prelude.{option_and_then}
use Rattle.std.specs.List.{list_all}
use Rattle.std.specs.Option.{option_map_or}
use Rattle.std.specs.Str.{bytes_eq}
use Rattle.clap.specs.Lexer.{long_of, short_of, long_of_rest, short_of_rest, strip_byte}
use Rattle.clap.specs.Walk.{Held, Rule, Step, Waiting, Walk, idle, option, trailing, after_step, finished, long_or_other, nothing_held, plain_word, short_or_plain, subcommand_or_other, walk_from, walked}
use Rattle.clap.specs.Takes.{bundle_passes, default_passes, flag_word_passes, is_valid, other_passes, settle_passes, step_passes}
use Rattle.clap.specs.ValueTests.{is_unsigned_in}
use Rattle.clap.specs.Simple.{Shape, built, built_leaf, inherited}
use Rattle.clap.specs.Words.{App, Row, Text, first_of, one_of, is_simple, subcommand_of, takes}
use Rattle.clap.proofs.OnLiterals.{clap_on_literals}
use Rattle.program_words.specs.Words.{AreNaming, AreOfForm, default_name}
use Rattle.program_words.specs.Commands.{program_app, drill_app, image_app}

pub program_simple : is_simple program_app ≡ true
unfolding clap_on_literals program_app
program_simple = refl

-- the subcommand's name, and the text that its matches have for this id
abbrev pub image_in : Option (Text × List Row) → Option (Text × Option Text)
image_in = option_map (λ p. (p.0, first_of (codes "image") p.1))

abbrev pub number_in : Option (Text × List Row) → Option (Text × Option Text)
number_in = option_map (λ p. (p.0, one_of (codes "number") p.1))

-- ---- a word that does not begin with a dash

module _ (b : ℕ) (bs : Text) (solid : (b == 45) ≡ false) where
  no_dashes : bytes_eq (b ∷ bs) (45 ∷ 45 ∷ []) ≡ false
  no_dashes = ap (λ (t : Bool). t && bytes_eq bs (45 ∷ [])) solid

  no_long : long_of (b ∷ bs) ≡ None
  no_long = ap (λ (t : Bool). option_and_then long_of_rest (option_and_then (strip_byte 45) (cond t (Some bs) None))) solid

  no_short : short_of (b ∷ bs) ≡ None
  no_short = ap (λ (t : Bool). option_and_then short_of_rest (cond t (Some bs) None)) solid

  -- it is no flag
  no_flag : (c : List Rule) (waiting : Waiting) (position : ℕ) (h : Held) → subcommand_or_other c None waiting position (b ∷ bs) h ≡ plain_word c waiting (b ∷ bs) h
  no_flag c waiting position h =
      ap (λ (t : Bool). cond t (h, trailing position) (long_or_other c waiting (b ∷ bs) (long_of (b ∷ bs)) h)) no_dashes
      ∙ ap (λ o. long_or_other c waiting (b ∷ bs) o h) no_long ∙ ap (λ o. short_or_plain c waiting (b ∷ bs) o h) no_short

  -- and so it passes
  no_flag_passes : (s : Shape) (h : Held) → other_passes s None (b ∷ bs) h ≡ true
  no_flag_passes s h =
      ap (λ (t : Bool). t || flag_word_passes s.rules s.args_override_self (long_of (b ∷ bs)) (b ∷ bs) h) no_dashes
      ∙ ap (λ o. flag_word_passes s.rules s.args_override_self o (b ∷ bs) h) no_long
      ∙ ap (λ (o : Option Text). option_map_or (λ flags. bundle_passes s.rules s.args_override_self flags h) o true) no_short

-- ---- the last word of a subcommand

-- the subcommand, as it is built
leaf : App → Shape
leaf command = built_leaf (inherited (built program_app).top command.top)

-- what is held behind one more word
behind : Shape → Walk → Text → Held × Step → Held
behind s w word met = (after_step s.rules word w met.0 met.1).held

-- the level passes, where the walk does so up to its last word
ends_well : Shape → Walk → Text → Bool → Held × Step → Bool
ends_well s w word passes met = ((passes && step_passes s w.position met.0 met.1) && true)
    && (settle_passes s.rules s.args_override_self (behind s w word met)
    && (list_all default_passes s.rules && is_valid s (finished s.rules (behind s w word met)) false))

-- the walk of a subcommand before its first word, and behind the option in a word of its own
at_first : Walk
at_first = walk_from nothing_held

behind_option : Walk
behind_option = walked (leaf (image_app [])).rules [] at_first (codes "--image")

-- ---- the option

pub data Taking : Type 0 where
  start : Taking
  resume : Taking
  check : Taking

abbrev pub first_word : Taking → Text
first_word start = codes "start"
first_word resume = codes "resume"
first_word check = codes "check"

-- clap takes the words, and finds the name
abbrev pub Finds : Text → List Text → Text → Type 0
Finds form words name = (image_in (subcommand_of program_app words) ≡ Some (form, Some name)) × (takes program_app words ≡ true)

plain : (form : Taking) → Finds (first_word form) (first_word form ∷ []) default_name
unfolding clap_on_literals program_app
plain start = (refl, refl)
plain resume = (refl, refl)
plain check = (refl, refl)

joined : (form : Taking) (name : Text) → Finds (first_word form) (first_word form ∷ (codes "--image=" ++ name) ∷ []) name
unfolding clap_on_literals program_app
joined start name = (refl, refl)
joined resume name = (refl, refl)
joined check name = (refl, refl)

module _ (b : ℕ) (bs : Text) (solid : (b == 45) ≡ false) where
  -- what is held and what passes behind the word of the name
  named_at : subcommand_or_other (leaf (image_app [])).rules None (option (codes "image")) 1 (b ∷ bs) behind_option.held
      ≡ plain_word (leaf (image_app [])).rules (option (codes "image")) (b ∷ bs) behind_option.held
  named_at = no_flag b bs solid (leaf (image_app [])).rules (option (codes "image")) 1 behind_option.held

  name_found : Text → Held × Step → Option (Text × Option Text)
  name_found word met = Some (word, first_of (codes "image") (finished (leaf (image_app [])).rules (behind (leaf (image_app [])) behind_option (b ∷ bs) met)))

  name_passes : Bool → Held × Step → Bool
  name_passes passes met = ends_well (leaf (image_app [])) behind_option (b ∷ bs) passes met && true

  apart : (form : Taking) → Finds (first_word form) (first_word form ∷ codes "--image" ∷ (b ∷ bs) ∷ []) (b ∷ bs)
  unfolding clap_on_literals program_app leaf behind ends_well at_first behind_option name_found name_passes
  apart start = (ap (name_found (codes "start")) named_at, ap₂ name_passes (no_flag_passes b bs solid (leaf (image_app [])) behind_option.held) named_at)
  apart resume = (ap (name_found (codes "resume")) named_at, ap₂ name_passes (no_flag_passes b bs solid (leaf (image_app [])) behind_option.held) named_at)
  apart check = (ap (name_found (codes "check")) named_at, ap₂ name_passes (no_flag_passes b bs solid (leaf (image_app [])) behind_option.held) named_at)

finds_options : (form : Taking) (options : List Text) (name : Text) → AreNaming options name → Finds (first_word form) (first_word form ∷ options) name
finds_options form options name (inl d) =
    subst (λ (n : Text). Finds (first_word form) (first_word form ∷ options) n) (sym d.1)
    (subst (λ (os : List Text). Finds (first_word form) (first_word form ∷ os) default_name) (sym d.0) (plain form))
finds_options form options [] (inr (named, e)) = absurd named
finds_options form options (b ∷ bs) (inr (named, inl e)) =
    subst (λ (os : List Text). Finds (first_word form) (first_word form ∷ os) (b ∷ bs)) (sym e) (apart b bs (ne_eqb b 45 named) form)
finds_options form options (b ∷ bs) (inr (named, inr e)) =
    subst (λ (os : List Text). Finds (first_word form) (first_word form ∷ os) (b ∷ bs)) (sym e) (joined form (b ∷ bs))

pub finds : (form : Taking) (words : List Text) (name : Text) → AreOfForm (first_word form) words name → Finds (first_word form) words name
finds form words name is = subst (λ (ws : List Text). Finds (first_word form) ws name) (sym is.words_are) (finds_options form is.options name is.naming)

-- ---- the number

module _ (b : ℕ) (bs : Text) (solid : (b == 45) ≡ false) where
  number_at : subcommand_or_other (leaf drill_app).rules None idle 1 (b ∷ bs) at_first.held ≡ plain_word (leaf drill_app).rules idle (b ∷ bs) at_first.held
  number_at = no_flag b bs solid (leaf drill_app).rules idle 1 at_first.held

  number_found : Held × Step → Option (Text × Option Text)
  number_found met = Some (codes "drill", one_of (codes "number") (finished (leaf drill_app).rules (behind (leaf drill_app) at_first (b ∷ bs) met)))

  number_passes : Bool → Held × Step → Bool
  number_passes passes met = ends_well (leaf drill_app) at_first (b ∷ bs) passes met && true

  pub number : number_in (subcommand_of program_app (codes "drill" ∷ (b ∷ bs) ∷ [])) ≡ Some (codes "drill", Some (b ∷ bs))
  unfolding clap_on_literals program_app leaf behind at_first number_found
  number = ap number_found number_at

  number_ends : (fits : is_unsigned_in 0 18446744073709551615 (b ∷ bs) ≡ true) → number_passes true (plain_word (leaf drill_app).rules idle (b ∷ bs) at_first.held) ≡ true
  unfolding clap_on_literals program_app leaf behind ends_well at_first number_passes
  number_ends fits = ap (λ (t : Bool). (((t && true) && true) && true)) fits

  pub number_taken : is_unsigned_in 0 18446744073709551615 (b ∷ bs) ≡ true → takes program_app (codes "drill" ∷ (b ∷ bs) ∷ []) ≡ true
  unfolding clap_on_literals program_app leaf behind ends_well at_first number_passes
  number_taken fits = ap₂ number_passes (no_flag_passes b bs solid (leaf drill_app) at_first.held) number_at ∙ number_ends fits
