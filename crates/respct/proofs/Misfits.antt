-- The first misfit of an image and a script, and that an image without one fits.
use Rattle.std.proofs.Common.{◌≡◌, ℕ, ◌==◌, ◌<◌, ◌≤◌, zero, suc, Bool, true, false, Option, Some, None, List, length, refl, sym, ap, ◌∙◌, subst, inl, inr, arith}
use Rattle.std.specs.Prelude.{if◌then◌else◌, nat_le, nat_lt, slice_index}
use Rattle.std.proofs.lemmas.Bool.{eqb-true}
use Rattle.std.proofs.lemmas.Bool.Decides.{eqb_tells, nat_tests}
use Rattle.seq_object.specs.declared.command.Command.{Command}
use Rattle.seq_object.specs.declared.settings.Settings.{Settings}
use Rattle.seq_object.specs.declared.sizes.Sizes.{Sizes}
use Rattle.seq_object.specs.Sizes.{sizes_of}
use Rattle.life_model.specs.Life.{script_of}
use Rattle.script_text.specs.Program.{Program}
use Rattle.respct.specs.declared.fitting.Misfit.{Misfit}
use Rattle.respct.specs.declared.fitting.MisfitKind.{MisfitKind}
use Rattle.respct.specs.declared.fitting.MisfitKind.TheVariants.{Threads, Shards, Lines, Position, Epoch}
use Rattle.respct.specs.Misfits.{epoch_end, misfit, or_misfit, unless_same, unless_within, unless_below, sizes_misfit, position_misfit, positions_misfit, first_misfit, AreFitting}

-- a misfit is one
some_is_one : (m : Misfit) → Some m ≡ None → ⊥
some_is_one m is = cc is

-- where the first of two is none, neither is one
neither : (a b : Option Misfit) → or_misfit a b ≡ None → (a ≡ None) × (b ≡ None)
neither (Some m) b is = absurd (some_is_one m is)
neither None b is = (refl, is)

-- a test without a misfit holds
holds : (b : Bool) (m : Misfit) → (if b then None else Some m) ≡ None → b ≡ true
holds true m is = refl
holds false m is = absurd (some_is_one m is)

-- numbers without a misfit are the same
same : (kind : MisfitKind) (image script : ℕ) → unless_same kind image script ≡ None → image ≡ script
same kind image script is = eqb-true image script (holds (image == script) (misfit kind image script) is)

-- a number without a misfit is at most the other
at_most : (a b : ℕ) → nat_le a b ≡ true → a ≤ b
at_most a b is = grind (arith, nat_tests)

within : (kind : MisfitKind) (image script : ℕ) → unless_within kind image script ≡ None → image ≤ script
within kind image script is = at_most image script (holds (nat_le image script) (misfit kind image script) is)

-- a number without a misfit is below the other
less : (a b : ℕ) → nat_lt a b ≡ true → a < b
less a b is = grind (arith, nat_tests)

below : (kind : MisfitKind) (image script : ℕ) → unless_below kind image script ≡ None → image < script
below kind image script is = less image script (holds (nat_lt image script) (misfit kind image script) is)

-- positions without a misfit are within their scripts
all_within : (positions : List ℕ) (scripts : List (List Command)) (n : ℕ) → positions_misfit positions scripts n ≡ None
    → (thread : ℕ) → thread < n → slice_index positions thread ≤ length (script_of scripts thread)
all_within positions scripts zero is thread lt = absurd (omega (arith, lt))
all_within positions scripts (suc n) is thread lt =
    let both : (positions_misfit positions scripts n ≡ None) × (position_misfit positions scripts n ≡ None) =
    neither (positions_misfit positions scripts n) (position_misfit positions scripts n) is in
    elim (eqb_tells thread n) [
      | inl e ↦ subst (λ (k : ℕ). slice_index positions k ≤ length (script_of scripts k)) (sym e.1) (within (Position n) (slice_index positions n) (length (script_of scripts n)) both.1)
      | inr e ↦ all_within positions scripts n both.0 thread (omega (arith, lt, e.1))
    ]

-- the sizes of these numbers
abbrev sized : ℕ → ℕ → ℕ → Sizes
sized threads shards lines = record { threads = threads; shards = shards; lines = lines }

-- settings without a misfit have the image's sizes
same_sizes : (z : Sizes) (settings : Settings) → sizes_misfit z settings ≡ None → sizes_of settings ≡ z
same_sizes z settings is =
    let first = neither (unless_same Threads z.threads settings.threads) (or_misfit (unless_same Shards z.shards settings.shards) (unless_same Lines z.lines settings.lines)) is in
    let rest = neither (unless_same Shards z.shards settings.shards) (unless_same Lines z.lines settings.lines) first.1 in
    sym (ap (λ (n : ℕ). sized n z.shards z.lines) (same Threads z.threads settings.threads first.0)
    ∙ ap (λ (n : ℕ). sized settings.threads n z.lines) (same Shards z.shards settings.shards rest.0)
    ∙ ap (sized settings.threads settings.shards) (same Lines z.lines settings.lines rest.1))

-- an image without a misfit fits
pub fitting : (z : Sizes) (epoch : ℕ) (positions : List ℕ) (p : Program) → first_misfit z epoch positions p ≡ None → AreFitting z epoch positions p
fitting z epoch positions p is =
    let first = neither (sizes_misfit z p.settings) (or_misfit (positions_misfit positions p.threads z.threads) (unless_below Epoch epoch epoch_end)) is in
    let rest = neither (positions_misfit positions p.threads z.threads) (unless_below Epoch epoch epoch_end) first.1 in
    record { sizes = same_sizes z p.settings first.0; places = all_within positions p.threads z.threads rest.0; early = below Epoch epoch epoch_end rest.1 }

-- the first misfit of some threads is that of all behind them
pub stays : (positions : List ℕ) (scripts : List (List Command)) (i n : ℕ) (m : Misfit) → positions_misfit positions scripts i ≡ None → position_misfit positions scripts i ≡ Some m → i < n
    → positions_misfit positions scripts n ≡ Some m
stays positions scripts i zero m before here lt = absurd (omega (arith, lt))
stays positions scripts i (suc n) m before here lt = elim (eqb_tells i n) [
  | inl e ↦
      let front : positions_misfit positions scripts n ≡ None = ap (positions_misfit positions scripts) (sym e.1) ∙ before in
      ap (λ (o : Option Misfit). or_misfit o (position_misfit positions scripts n)) front ∙ ap (position_misfit positions scripts) (sym e.1) ∙ here
  | inr e ↦ ap (λ (o : Option Misfit). or_misfit o (position_misfit positions scripts n)) (stays positions scripts i n m before here (omega (arith, lt, e.1)))
]
