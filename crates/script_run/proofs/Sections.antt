-- The commands of a script's sections are few.
use Rattle.std.proofs.Common.{zero, suc, ◌*◌, ◌^◌, ◌<◌, ◌≤◌, List, [], ◌∷◌, length, map, arith}
use Rattle.std.specs.Global.{Vec}
use Rattle.std.specs.List.{All, AllByRecursion}
use Rattle.seq_object.specs.declared.command.Command.{Command}
use Rattle.script_text.specs.Program.{Program}
use Rattle.script_text.specs.Text.{IsSection, HasText}
use Rattle.plain_yard.specs.Opening.{commands_in}

-- each is short
pub are_short : (xs : List (Vec Command)) → AllByRecursion IsSection (map (λ (x : Vec Command). x.items) xs) → All (λ (x : Vec Command). length x.items ≤ 4096) xs
are_short [] all k d lt = absurd (omega (arith, lt))
are_short (x ∷ xs) all zero d lt = all.0.0
are_short (x ∷ xs) all (suc k) d lt = are_short xs all.1 k d (omega (arith, lt))

commands_short : (scripts : List (List Command)) → AllByRecursion IsSection scripts → commands_in scripts ≤ 4096 * length scripts
commands_short [] all = omega arith
commands_short (s ∷ ss) all = let one = all.0.0 in let rest = commands_short ss all.1 in omega (arith, one, rest)

pub commands_few : (p : Program) → HasText p → commands_in p.threads < 2 ^ 32
commands_few p has = let a = commands_short p.threads has.sections in let n = has.threads in let t = has.settings.sizes.few_threads in omega (arith, a, n, t)
