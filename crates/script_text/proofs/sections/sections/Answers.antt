use Rattle.std.proofs.Common.{◌+◌, ◌-◌, List, [], ◌∷◌, map, Vec, Global, sym, ap, ◌∙◌, arith}
use Rattle.std.proofs.lemmas.List.{map-append}
use Rattle.std.proofs.lemmas.Result.{err_from_is_err_and}
use Rattle.seq_object.specs.declared.command.Command.{Command}
use Rattle.script_text.specs.Reading.{left_of}
use Rattle.script_text.specs.Sections.{sections_at}
use Rattle.script_text.proofs.Fronts.{with_front_and_rest}
use Rattle.script_text.proofs.SectionLemmas.{sections_more, sections_fail}
use Rattle.script_text.proofs.sections.sections.Goals as goal

pub returns-in_err-commands-clause-reads : goal.returns-in_err-commands-clause-reads
returns-in_err-commands-clause-reads c =
    let p = err_from_is_err_and c.from_residual.result c.from_residual.ensures.1 in
    rw (p.1, p.2) (sections_fail c.in_err-commands.field-0.0 c.args.threads c.loop-thread.thread (left_of c.loop-thread.place) (map (λ v. v.items) c.loop-thread.sections.items)
    (sections_at c.args.threads 0 (left_of c.args.place)) c.loop-thread-test.true c.loop-thread.invariant.reads c.in_err-commands.ensures.reads)

pub loop-thread-preserved : goal.loop-thread-preserved
loop-thread-preserved c =
    let after = sections_at (c.args.threads - (c.loop-thread.thread + 1)) (c.loop-thread.thread + 1) (left_of c.in_ok-commands.behind) in
    record {
      near = omega (arith, c.loop-thread.invariant.near, c.in_ok-commands.ensures.near);
      reads =
          ap (λ (xs : List (Vec Command Global)). with_front_and_rest (map (λ v. v.items) xs) after) c.in_ok-push.ensures.items
          ∙ ap (λ (xs : List (List Command)). with_front_and_rest xs after) (map-append (λ (v : Vec Command Global). v.items) c.loop-thread.sections.items (c.in_ok-commands.commands ∷ []))
          ∙ sym (sections_more c.args.threads c.loop-thread.thread (left_of c.loop-thread.place) (left_of c.in_ok-commands.behind) (map (λ v. v.items) c.loop-thread.sections.items) c.in_ok-commands.commands.items c.loop-thread-test.true c.in_ok-commands.ensures.reads)
          ∙ c.loop-thread.invariant.reads;
    }
