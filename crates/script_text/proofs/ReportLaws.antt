-- The parts of a report, one after another.
use Rattle.std.proofs.Common.{◌≡◌, ℕ, List, [], ◌∷◌, ◌++◌, ap, ◌∙◌, append_assoc, codes}
use Rattle.std.specs.Fmt.{decimal}
use Rattle.std.proofs.lemmas.List.{append-nil}
use Rattle.life_model.specs.Told.{ReportState}
use Rattle.script_text.specs.Text.{ended}
use Rattle.script_text.specs.ReportText.{life_line, front_lines}
use Rattle.life_model.specs.Told.{ReportState}

-- three parts behind a beginning, in another grouping
regroup_three : (start a b c : List ℕ) → ((start ++ a) ++ b) ++ c ≡ start ++ (a ++ (b ++ (c ++ [])))
regroup_three start a b c = simp (append_assoc, append-nil)

-- the lines above the entries, written one after another
pub front_written : (r : ReportState) (start b1 b2 b3 : List ℕ) → b1 ≡ start ++ codes "respct-report 1\n" → b2 ≡ b1 ++ (life_line r.resumed ++ 10 ∷ []) → b3 ≡ b2 ++ ((codes "began " ++ decimal r.began) ++ 10 ∷ []) → b3 ≡ start ++ ended (front_lines r)
front_written r start b1 b2 b3 e1 e2 e3 =
    e3 ∙ ap (λ (t : List ℕ). t ++ ((codes "began " ++ decimal r.began) ++ 10 ∷ [])) (e2 ∙ ap (λ (t : List ℕ). t ++ (life_line r.resumed ++ 10 ∷ [])) e1)
    ∙ regroup_three start (codes "respct-report 1\n") (life_line r.resumed ++ 10 ∷ []) ((codes "began " ++ decimal r.began) ++ 10 ∷ [])
