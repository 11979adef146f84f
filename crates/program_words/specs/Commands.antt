-- The command by which clap reads the words.
use Rattle.std.specs.Prelude.{◌≡◌, ◌⊎◌, ℕ, List, [], ◌∷◌, Option, Some, None, true, codes}
use Rattle.std.specs.Fmt.{decimal}
use Rattle.clap.specs.Words.{App, Row, Rule, Text, first_of, one_of, new_app, new_rule, with_rule, with_subcommand}
use Rattle.clap.specs.Simple.{on_top}
use Rattle.clap.specs.declared.builder.value_parser.ValueParser.TheVariants as parsers
use Rattle.program_words.specs.Words.{AreOfForm, IsDrill, default_name}

-- the option that names an image
abbrev pub image_rule : Rule
image_rule = record (new_rule (codes "image")) {
  long = Some (codes "image");
  defaults = default_name ∷ [];
}

-- the number of a drill
abbrev pub number_rule : Rule
number_rule = record (new_rule (codes "number")) {
  required = true;
  parser = Some (parsers.Unsigned 0 18446744073709551615);
}

-- the subcommand of this name, which takes the option
abbrev pub image_app : List ℕ → App
image_app name = with_rule (new_app name) image_rule

-- the subcommand that takes the number
abbrev pub drill_app : App
drill_app = with_rule (new_app (codes "drill")) number_rule

-- the command with its subcommands; its words begin behind the program's name
unfoldable pub program_app : App
program_app = with_subcommand (with_subcommand (with_subcommand (with_subcommand
    (on_top (λ s. record s { no_binary_name = true }) (new_app (codes "respct")))
    (image_app (codes "start")).top) (image_app (codes "resume")).top) (image_app (codes "check")).top) drill_app.top

-- the words have the form with this first word; so has the subcommand, and its option has their name
pub record TellsImage (form : Text) (words : List Text) (word : Text) (rows : List Row) : Type 0 where
  pub name : Text
  pub of_form : AreOfForm form words name
  pub word_is : word ≡ form
  pub option_is : first_of (codes "image") rows ≡ Some name

-- the words are those of a drill; so is the subcommand, and it has their number
pub record TellsNumber (words : List Text) (word : Text) (rows : List Row) : Type 0 where
  pub number : ℕ
  pub of_drill : IsDrill words number
  pub word_is : word ≡ codes "drill"
  pub number_is : one_of (codes "number") rows ≡ Some (decimal number)

-- the subcommand and its matches tell the form that the words have
abbrev pub Tells : List Text → Option (Text × List Row) → Type 0
Tells words None = ⊥
Tells words (Some p) = TellsImage (codes "start") words p.0 p.1
    ⊎ (TellsImage (codes "resume") words p.0 p.1 ⊎ (TellsImage (codes "check") words p.0 p.1 ⊎ TellsNumber words p.0 p.1))
