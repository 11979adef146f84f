use Rattle.std.proofs.Common.{◌≡◌, List, [], ◌++◌, codes, refl, subst}
use Rattle.std.specs.String.{string_bytes}
use Rattle.explore_example.specs.declared.event.Event.{Event}
use Rattle.explore_example.specs.Words.{mistake_text, answer_text}
use Rattle.explore_example.specs.Findings.{IsFresh}
use Rattle.explore_example.proofs.Pieces.{grown}
use Rattle.explore_example.proofs.finding.find.Goals as goal

pub returns : goal.returns
returns c =
    let made : string_bytes c.in_ok-out.out ≡ mistake_text c.args.mistake ++ codes "\n" = c.in_ok-out.ensures.ok in
    record {
      first = c.in_ok-store.store;
      last = c.explore.new.subject;
      plan = record { events = 1000; budget = 1000; seeds = c.new.result; steps = 100; depth = 1 };
      answer = c.in_ok-answer.answer;
      fresh = subst (λ (events : List Event). IsFresh c.args.mistake events c.in_ok-store.store) c.in_ok-events_of.ensures c.in_ok-store.ensures;
      is_plan = record { events = refl; budget = refl; steps = refl; depth = refl };
      found = c.in_ok-answer.ensures.answer;
      told = grown (string_bytes c.push_answer.new.out) (string_bytes c.in_ok-out.out) [] (mistake_text c.args.mistake ++ codes "\n") (answer_text c.explore.new.subject c.in_ok-answer.answer) c.in_ok-push_answer.ensures made;
    }
