-- The program that is read is written so, and what is written so is read.
use Rattle.std.proofs.Common.{◌≡◌, ℕ, ◌+◌, ◌*◌, ◌<◌, ◌≤◌, ◌^◌, List, [], ◌∷◌, ◌++◌, Result, Ok, length, length-append, refl, sym, ap, ◌∙◌, arith, subst, codes, append_assoc}
use Rattle.std.proofs.Math.Nat.{mul-le-mul}
use Rattle.script_text.specs.Faults.{bad_thread, bad_head}
use Rattle.script_text.specs.declared.fault.ScriptFault.{ScriptFault}
use Rattle.seq_object.specs.declared.settings.Settings.{Settings}
use Rattle.script_text.specs.Pieces.{pieces}
use Rattle.script_text.specs.Reading.{Left}
use Rattle.seq_object.specs.Sizes.{sizes_of, IsValid, line_total}
use Rattle.script_text.specs.Head.{fixed_line_at, settings_at}
use Rattle.script_text.specs.Turns.{turns_at}
use Rattle.script_text.specs.Keep.{keep_at}
use Rattle.script_text.specs.Program.{Program}
use Rattle.script_text.specs.Sections.{sections_at}
use Rattle.script_text.specs.Whole.{nothing_among, end_at, program_at, program_in}
use Rattle.script_text.specs.Text.{spaced, settings_lines, turns_words, keep_words, sections_lines, program_lines, text_of, HasText}
use Rattle.script_text.proofs.Free.{AreFree, AreFree-append, free-spaced, pieces-ended, ended-pieces}
use Rattle.script_text.proofs.NumberLaws.{bind_ok, bind_to, ok_is, done}
use Rattle.script_text.proofs.LineLaws.{fixed_ok, fixed_again, settings_ok, settings_again, settings_solid}
use Rattle.script_text.proofs.TurnLaws.{turns_ok, turns_again, turns_solid}
use Rattle.script_text.proofs.KeepLemmas.{keep_ok, keep_again, keep_solid}
use Rattle.script_text.proofs.SectionLaws.{sections_ok, sections_again, sections_free}

-- the lines of all rooms are few
all_fits : (s : Settings) → IsValid s → line_total (sizes_of s) < 2 ^ 64
all_fits s within =
    let most : (s.shards + 1) * s.lines ≤ 9 * 65536 = mul-le-mul {n₂ = 9} {m₂ = 65536} (omega (arith, within.sizes.few_shards)) within.sizes.few_lines in
    omega (arith, most, within.sizes.few_threads)

-- where nothing more was read, the empty piece is all that is left
pub nothing_ok : (ps : List (List ℕ)) (n : ℕ) (u : Unit {0}) → nothing_among ps n ≡ Ok u → ps ≡ [] ∷ []
nothing_ok [] n u e = absurd cc
nothing_ok ([] ∷ []) n u e = refl
nothing_ok ((b ∷ bs) ∷ []) n u e = absurd cc
nothing_ok (p ∷ q ∷ ps) n u e = absurd cc

-- an end that was read is the last line with nothing behind it
end_ok : (left : Left) (u : Unit {0}) → end_at left ≡ Ok u → left.pieces ≡ codes "end" ∷ [] ∷ []
end_ok left u e =
    let b = bind_ok (fixed_line_at bad_thread (codes "end") left) (λ l. nothing_among l.pieces l.line) u e in
    fixed_ok bad_thread (codes "end") left b.0 b.1 ∙ ap (λ (ps : List (List ℕ)). codes "end" ∷ ps) (nothing_ok b.0.pieces b.0.line u b.2)

-- what is read is a program's lines
program_ok : (left : Left) (p : Program) → program_at left ≡ Ok p → (left.pieces ≡ program_lines p ++ [] ∷ []) × HasText p
program_ok left p e =
    let a = bind_ok (fixed_line_at bad_head (codes "respct 1") left) _ p e in
    let s = bind_ok (settings_at a.0) _ p a.2 in
    let t = bind_ok (turns_at s.0.0.threads s.0.1) _ p s.2 in
    let k = bind_ok (keep_at (line_total (sizes_of s.0.0)) t.0.1) _ p t.2 in
    let c = bind_ok (sections_at s.0.0.threads 0 k.0.1) _ p k.2 in
    let z = bind_ok (end_at c.0.1) _ p c.2 in
    let fs = settings_ok a.0 s.0.0 s.0.1 s.1 in
    let ft = turns_ok s.0.0.threads s.0.1 t.0.0 t.0.1 t.1 in
    let fk = keep_ok (line_total (sizes_of s.0.0)) t.0.1 k.0.0 k.0.1 k.1 in
    let fc = sections_ok s.0.0.threads 0 k.0.1 c.0.0 c.0.1 c.1 in
    let found : Program = record { settings = s.0.0; turns = t.0.0; keep = k.0.0; threads = c.0.0 } in
    let tail = spaced (turns_words t.0.0) ∷ spaced (keep_words k.0.0) ∷ (sections_lines 0 c.0.0 ++ codes "end" ∷ []) in
    let body : k.0.1.pieces ≡ (sections_lines 0 c.0.0 ++ codes "end" ∷ []) ++ [] ∷ [] =
    fc.takes ∙ ap (λ (ps : List (List ℕ)). sections_lines 0 c.0.0 ++ ps) (end_ok c.0.1 z.0 z.1) ∙ sym (append_assoc (sections_lines 0 c.0.0) (codes "end" ∷ []) ([] ∷ [])) in
    let turns_on : s.0.1.pieces ≡ tail ++ [] ∷ [] =
    ft.0 ∙ ap (λ (ps : List (List ℕ)). spaced (turns_words t.0.0) ∷ ps) (fk.0 ∙ ap (λ (ps : List (List ℕ)). spaced (keep_words k.0.0) ∷ ps) body) in
    let lines : left.pieces ≡ program_lines found ++ [] ∷ [] =
    fixed_ok bad_head (codes "respct 1") left a.0 a.1
    ∙ ap (λ (ps : List (List ℕ)). codes "respct 1" ∷ ps) (fs.0 ∙ ap (λ (ps : List (List ℕ)). settings_lines s.0.0 ++ ps) turns_on) in
    let has : HasText found = record { settings = fs.1; turns = ft.1; keep = fk.1; threads = fc.many; sections = fc.each } in
    subst (λ (p : Program). (left.pieces ≡ program_lines p ++ [] ∷ []) × HasText p) (ok_is found p z.2) (lines, has)

-- what a text gives is the program whose text it is
pub program_found : (bytes : List ℕ) (p : Program) → program_in bytes ≡ Ok p → HasText p × (bytes ≡ text_of p)
program_found bytes p e =
    let got = program_ok (record { pieces = pieces 10 bytes; line = 1 }) p e in
    (got.1, ended-pieces bytes (program_lines p) got.0)

-- no line of a program has a line feed
lines_free : (p : Program) → HasText p → AreFree 10 (program_lines p)
lines_free p has =
    let narrow : p.settings.threads ≤ 16 = has.settings.sizes.few_threads in (
      refl,
      AreFree-append 10 (settings_lines p.settings) (spaced (turns_words p.turns) ∷ spaced (keep_words p.keep) ∷ (sections_lines 0 p.threads ++ codes "end" ∷ [])) (settings_solid p.settings has.settings) (
        free-spaced (turns_words p.turns) (turns_solid p.settings.threads p.turns narrow has.turns),
        (
          free-spaced (keep_words p.keep) (keep_solid (line_total (sizes_of p.settings)) p.keep (all_fits p.settings has.settings) has.keep),
          AreFree-append 10 (sections_lines 0 p.threads) (codes "end" ∷ []) (sections_free 0 p.threads (omega (arith, has.threads)) has.sections) (refl, tt),
        ),
      ),
    )

-- the lines of a program are read as that program
program_again : (left : Left) (p : Program) → HasText p → left.pieces ≡ program_lines p ++ [] ∷ [] → program_at left ≡ Ok p
program_again left p has is =
    let narrow : p.settings.threads ≤ 16 = has.settings.sizes.few_threads in
    let fits = all_fits p.settings has.settings in
    let ends : List (List ℕ) = codes "end" ∷ [] ∷ [] in
    let body : List (List ℕ) = sections_lines 0 p.threads ++ ends in
    let tail : List (List ℕ) = spaced (turns_words p.turns) ∷ spaced (keep_words p.keep) ∷ body in
    let l1 : Left = record { pieces = settings_lines p.settings ++ tail; line = left.line + 1 } in
    let l2 : Left = record { pieces = tail; line = l1.line + 1 + 1 + 1 + 1 } in
    let l3 : Left = record { pieces = spaced (keep_words p.keep) ∷ body; line = l2.line + 1 } in
    let l4 : Left = record { pieces = body; line = l3.line + 1 } in
    let regrouped : left.pieces ≡ codes "respct 1" ∷ l1.pieces =
    is ∙ ap (λ (ps : List (List ℕ)). codes "respct 1" ∷ (settings_lines p.settings ++ (spaced (turns_words p.turns) ∷ spaced (keep_words p.keep) ∷ ps))) (append_assoc (sections_lines 0 p.threads) (codes "end" ∷ []) ([] ∷ [])) in
    let some : 0 < length body = omega (arith, length-append (sections_lines 0 p.threads) ends) in
    let sections = sections_again 0 l4 p.threads ends (omega (arith, has.threads)) has.sections refl (refl, omega arith) in
    let l5 : Left = record { pieces = ends; line = sections.line } in
    let l6 : Left = record { pieces = [] ∷ []; line = sections.line + 1 } in
    let all : Result Program ScriptFault = Ok p in
    bind_to (fixed_line_at bad_head (codes "respct 1") left) _ l1 all (fixed_again bad_head (codes "respct 1") left l1.pieces regrouped (omega arith))
    (bind_to (settings_at l1) _ (p.settings, l2) all (settings_again l1 p.settings tail has.settings refl (omega arith))
    (bind_to (turns_at p.settings.threads l2) _ (p.turns, l3) all (turns_again p.settings.threads l2 p.turns l3.pieces narrow has.turns refl (omega arith))
    (bind_to (keep_at (line_total (sizes_of p.settings)) l3) _ (p.keep, l4) all (keep_again (line_total (sizes_of p.settings)) l3 p.keep body fits has.keep refl some)
    (bind_to (sections_at p.settings.threads 0 l4) _ (p.threads, l5) all (ap (λ (n : ℕ). sections_at n 0 l4) (sym has.threads) ∙ sections.reads)
    (bind_to (end_at l5) (λ _. all) tt all (bind_to (fixed_line_at bad_thread (codes "end") l5) (λ l. nothing_among l.pieces l.line) l6 (done tt) (fixed_again bad_thread (codes "end") l5 ([] ∷ []) refl (omega arith)) refl)
    refl)))))

-- a program's text gives the program
pub program_only : (bytes : List ℕ) (p : Program) → HasText p → bytes ≡ text_of p → program_in bytes ≡ Ok p
program_only bytes p has is =
    ap (λ (ps : List (List ℕ)). program_at (record { pieces = ps; line = 1 })) (ap (pieces 10) is ∙ pieces-ended (program_lines p) (lines_free p has)) ∙ program_again (record { pieces = program_lines p ++ [] ∷ []; line = 1 }) p has refl

-- one text is the text of one program
pub one_text : (p q : Program) → HasText p → HasText q → text_of p ≡ text_of q → p ≡ q
one_text p q hp hq e = ok_is p q (sym (program_only (text_of p) p hp refl) ∙ program_only (text_of p) q hq e)
