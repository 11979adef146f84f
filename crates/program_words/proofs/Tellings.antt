-- What clap makes of words that have a form.
use Rattle.std.proofs.Common.{◌≡◌, ℕ, true, List, [], ◌∷◌, Option, Some, None, ap, sym, subst, ◌∙◌, codes, inl, inr, arith}
use Rattle.std.specs.Fmt.{decimal}
use Rattle.std.specs.Option.{unwrap_or}
use Rattle.clap.specs.Words.{Row, Text, first_of, one_of, subcommand_of, takes}
use Rattle.program_words.specs.Words.{AreOfForm, HaveForm, IsDrill, IsNumber}
use Rattle.program_words.specs.Commands.{Tells, TellsImage, program_app}
use Rattle.program_words.proofs.Walks.{check, finds, image_in, number, number_in, number_taken, resume, start}
use Rattle.program_words.proofs.Numbers.{no_sign, number_fits, numeral_of}

-- ---- the words that clap takes, and what it finds

FoundNumber : List Text → ℕ → Type 0
FoundNumber words n = (number_in (subcommand_of program_app words) ≡ Some (codes "drill", Some (decimal n))) × (takes program_app words ≡ true)

drill_found : (word : Text) (n : ℕ) → IsNumber word n → FoundNumber (codes "drill" ∷ word ∷ []) n
unfolding FoundNumber
drill_found [] n is = let none = numeral_of [] n is in absurd (omega (arith, none.0.0))
drill_found (b ∷ bs) n is =
    let solid = no_sign b 45 bs (numeral_of (b ∷ bs) n is).0.1 (omega arith) in
    (number b bs solid ∙ ap (λ (t : Text). Some (codes "drill", Some t)) is.0, number_taken b bs solid (number_fits (b ∷ bs) n is))

number_found : (words : List Text) (n : ℕ) → IsDrill words n → FoundNumber words n
number_found words n is = subst (λ (ws : List Text). FoundNumber ws n) (sym is.words_are) (drill_found is.word n is.is_number)

-- ---- what the matches tell

-- the parts of a pair that was found
abbrev pair : {A B : Type 0} → A → B → A × B
pair a b = (a, b)

same_pair : {A B : Type 0} (a c : A) (b d : B) → Some (pair a b) ≡ Some (pair c d) → (a ≡ c) × (b ≡ d)
same_pair {A = A} {B = B} a c b d e =
    let whole : pair a b ≡ pair c d = ap (λ (o : Option (A × B)). unwrap_or o (pair a b)) e in
    (ap (λ (p : A × B). p.0) whole, ap (λ (p : A × B). p.1) whole)

Told : Text → List Text → Option (Text × List Row) → Type 0
Told form words None = ⊥
Told form words (Some p) = TellsImage form words p.0 p.1

told : (form : Text) (words : List Text) (name : Text) → AreOfForm form words name → (r : Option (Text × List Row)) → image_in r ≡ Some (form, Some name) → Told form words r
unfolding Told
told form words name is None e = cc
told form words name is (Some p) e =
    let parts = same_pair p.0 form (first_of (codes "image") p.1) (Some name) e in
    record { name = name; of_form = is; word_is = parts.0; option_is = parts.1 }

start_tells : (words : List Text) (r : Option (Text × List Row)) → Told (codes "start") words r → Tells words r
unfolding Told
start_tells words None told = told
start_tells words (Some p) told = inl told

resume_tells : (words : List Text) (r : Option (Text × List Row)) → Told (codes "resume") words r → Tells words r
unfolding Told
resume_tells words None told = told
resume_tells words (Some p) told = inr (inl told)

check_tells : (words : List Text) (r : Option (Text × List Row)) → Told (codes "check") words r → Tells words r
unfolding Told
check_tells words None told = told
check_tells words (Some p) told = inr (inr (inl told))

drill_tells : (words : List Text) (n : ℕ) → IsDrill words n → (r : Option (Text × List Row)) → number_in r ≡ Some (codes "drill", Some (decimal n)) → Tells words r
drill_tells words n is None e = cc
drill_tells words n is (Some p) e =
    let parts = same_pair p.0 (codes "drill") (one_of (codes "number") p.1) (Some (decimal n)) e in
    inr (inr (inr (record { number = n; of_drill = is; word_is = parts.0; number_is = parts.1 })))

-- what clap finds in words that have a form tells it
pub tells : (words : List Text) → HaveForm words → Tells words (subcommand_of program_app words)
unfolding FoundNumber
tells words (inl is) = start_tells words (subcommand_of program_app words) (told (codes "start") words is.0 is.1 (subcommand_of program_app words) (finds start words is.0 is.1).0)
tells words (inr (inl is)) = resume_tells words (subcommand_of program_app words) (told (codes "resume") words is.0 is.1 (subcommand_of program_app words) (finds resume words is.0 is.1).0)
tells words (inr (inr (inl is))) = check_tells words (subcommand_of program_app words) (told (codes "check") words is.0 is.1 (subcommand_of program_app words) (finds check words is.0 is.1).0)
tells words (inr (inr (inr is))) = drill_tells words is.0 is.1 (subcommand_of program_app words) (number_found words is.0 is.1).0

-- and it takes them
pub taken : (words : List Text) → HaveForm words → takes program_app words ≡ true
unfolding FoundNumber
taken words (inl is) = (finds start words is.0 is.1).1
taken words (inr (inl is)) = (finds resume words is.0 is.1).1
taken words (inr (inr (inl is))) = (finds check words is.0 is.1).1
taken words (inr (inr (inr is))) = (number_found words is.0 is.1).1
