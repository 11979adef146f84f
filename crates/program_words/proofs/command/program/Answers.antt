use Rattle.std.proofs.Common.{◌≡◌, ◌∙◌, true, ap, codes}
use Rattle.std.proofs.lemmas.Result.{IfOk-weaker}
use Rattle.clap.specs.Words.{app_of, new_app}
use Rattle.clap.specs.Simple.{app_of_fields, on_top}
use Rattle.program_words.specs.Commands.{drill_app, image_app, program_app}
use Rattle.program_words.proofs.Adding.{added}
use Rattle.program_words.proofs.command.program.Goals as goal

pub returns : goal.returns
unfolding program_app
returns c =
    let bare_is : app_of c.no_binary_name-bare.result ≡ on_top (λ s. record s { no_binary_name = true }) (new_app (codes "respct")) =
    ap app_of_fields c.no_binary_name-bare.ensures ∙ ap (on_top (λ s. record s { no_binary_name = true })) c.new.ensures.app in
    let starting_is = added _ _ c.in_ok-starting.starting _ (image_app (codes "start")) bare_is c.in_ok-start.ensures.app c.in_ok-start.ensures.local c.in_ok-starting.ensures in
    let resuming_is = added _ _ c.in_ok-resuming.resuming _ (image_app (codes "resume")) starting_is c.in_ok-resume.ensures.app c.in_ok-resume.ensures.local c.in_ok-resuming.ensures in
    let checking_is = added _ _ c.in_ok-checking.checking _ (image_app (codes "check")) resuming_is c.in_ok-check.ensures.app c.in_ok-check.ensures.local c.in_ok-checking.ensures in
    IfOk-weaker c.subcommand-4.result _ _ (λ r adds. added c.in_ok-checking.checking c.in_ok-drill.drill r _ drill_app checking_is c.in_ok-drill.ensures.app c.in_ok-drill.ensures.local adds) c.subcommand-4.ensures
