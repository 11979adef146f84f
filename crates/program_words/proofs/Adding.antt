-- What a command is with one more subcommand.
use Rattle.std.proofs.Common.{◌≡◌, ◌∙◌, false, ap, ap₂}
use Rattle.clap.specs.Words.{App, AddsSubcommand, app_of, with_subcommand}
use Rattle.clap.specs.declared.builder.command.Command.{Command}
use Rattle.clap.specs.declared.builder.command.Command.TheViews.{out-Command}

pub added : (old sub new : Command) (a s : App) → app_of old ≡ a → app_of sub ≡ s → (out-Command sub).has_globals ≡ false → AddsSubcommand old sub new → app_of new ≡ with_subcommand a s.top
added old sub new a s old_is sub_is local adds = adds.shape local ∙ ap₂ with_subcommand old_is (ap (λ (b : App). b.top) sub_is)
