-- The sections that are read are written so, and what is written so is read.
use Rattle.std.proofs.Common.{◌≡◌, ℕ, zero, suc, ◌+◌, ◌<◌, ◌≤◌, ◌^◌, Bool, true, cond, ltb, List, [], ◌∷◌, ◌++◌, map, Result, Ok, Err, length, length-append, refl, sym, ap, ◌∙◌, arith, subst, inl, inr, codes, append_assoc}
use Rattle.std.specs.List.{AllByRecursion}
use Rattle.std.specs.Fmt.{decimal}
use Rattle.std.proofs.lemmas.Bool.{ltb-true}
use Rattle.script_text.specs.declared.fault.ScriptFault.{ScriptFault}
use Rattle.seq_object.specs.declared.command.Command.{Command}
use Rattle.script_text.specs.Faults.{too_many, bad_thread, ◌>>=◌, fault}
use Rattle.script_text.specs.Reading.{Left}
use Rattle.script_text.specs.CommandWords.{command_at}
use Rattle.script_text.specs.Sections.{begins_section, ends_section, commands_among, commands_at, section_line_at, section_at, sections_at}
use Rattle.script_text.specs.Program.{most_commands}
use Rattle.script_text.specs.Text.{section_line, command_line, command_words, sections_lines, IsCommand, IsSection}
use Rattle.script_text.proofs.Free.{AreFree, AreFree-append, AreFree-solid, free, free-spaced, solid-decimal, pieces-joined}
use Rattle.script_text.proofs.NumberLaws.{bind_ok, bind_to, guard_ok, ok_is, done}
use Rattle.script_text.proofs.LineLaws.{chosen, fixed_ok, fixed_again, line_again}
use Rattle.script_text.proofs.CommandLaws.{command_ok, command_again, command_solid, command_goes_on}
use Rattle.script_text.proofs.SectionLemmas.{commands_more}

-- commands after so many of their section, and what is left behind them
pub record TakesCommands (seen : ℕ) (ps : List (List ℕ)) (cs : List Command) (behind : Left) : Type 0 where
  pub takes : ps ≡ map command_line cs ++ behind.pieces
  pub few : seen + length cs ≤ most_commands
  pub each : AllByRecursion IsCommand cs

-- commands that were read are written as the lines that were taken
commands_among_ok : (seen : ℕ) (ps : List (List ℕ)) (n : ℕ) (cs : List Command) (behind : Left) → seen ≤ most_commands → commands_among seen ps n ≡ Ok (cs, behind) → TakesCommands seen ps cs behind
commands_among_ok seen [] n cs behind few e = absurd cc
commands_among_ok seen (p ∷ []) n cs behind few e = absurd cc
commands_among_ok seen (p ∷ q ∷ ps) n cs behind few e =
    let here : Left = record { pieces = p ∷ q ∷ ps; line = n } in
    let go : Result (List Command × Left) ScriptFault = command_at n p >>= λ command. cond (ltb seen most_commands) (commands_among (seen + 1) (q ∷ ps) (n + 1) >>= λ others. Ok (command ∷ others.0, others.1)) (Err (fault n too_many)) in
    elim (chosen (ends_section p) (Ok ([], here)) go (Ok (cs, behind)) e) [
      | inl at ↦ subst (λ (x : List Command × Left). TakesCommands seen (p ∷ q ∷ ps) x.0 x.1) (ok_is ([], here) (cs, behind) at.1) (record { takes = refl; few = omega arith; each = tt })
      | inr on ↦
          let c = bind_ok (command_at n p) _ (cs, behind) on.1 in
          let g = guard_ok (ltb seen most_commands) (commands_among (seen + 1) (q ∷ ps) (n + 1) >>= λ others. Ok (c.0 ∷ others.0, others.1)) (fault n too_many) (cs, behind) c.2 in
          let o = bind_ok (commands_among (seen + 1) (q ∷ ps) (n + 1)) _ (cs, behind) g.1 in
          let below = ltb-true seen most_commands g.0 in
          let first = command_ok n p c.0 c.1 in
          let rest = commands_among_ok (seen + 1) (q ∷ ps) (n + 1) o.0.0 o.0.1 (omega (arith, below)) o.1 in
          subst (λ (x : List Command × Left). TakesCommands seen (p ∷ q ∷ ps) x.0 x.1) (ok_is (c.0 ∷ o.0.0, o.0.1) (cs, behind) o.2)
          (record {
            takes = ap (λ (t : List ℕ). t ∷ q ∷ ps) first.0 ∙ ap (λ (ts : List (List ℕ)). command_line c.0 ∷ ts) rest.takes;
            few = omega (arith, rest.few);
            each = (first.1, rest.each);
          })
    ]

-- at the front stands a line that ends a section, and more follows it
abbrev pub StopsAtFront : List (List ℕ) → Type 0
StopsAtFront [] = ⊥
StopsAtFront (p ∷ ps) = (ends_section p ≡ true) × (0 < length ps)

-- no command is read where a section ends at once
stop_again : (seen : ℕ) (left : Left) (more : List (List ℕ)) → left.pieces ≡ more → StopsAtFront more → commands_at seen left ≡ Ok ([], record { pieces = more; line = left.line })
stop_again seen left [] is stops = absurd stops
stop_again seen left (p ∷ []) is stops = absurd (omega (arith, stops.1))
stop_again seen left (p ∷ q ∷ ps) is stops =
    let here : Left = record { pieces = p ∷ q ∷ ps; line = left.line } in
    let go : Result (List Command × Left) ScriptFault = command_at left.line p >>= λ command. cond (ltb seen most_commands) (commands_among (seen + 1) (q ∷ ps) (left.line + 1) >>= λ others. Ok (command ∷ others.0, others.1)) (Err (fault left.line too_many)) in
    ap (λ (ps : List (List ℕ)). commands_among seen ps left.line) is ∙ ap (λ (b : Bool). cond b (done ([], here)) go) stops.0

-- something is left where a section has to end
some_left : (cs : List Command) (more : List (List ℕ)) → StopsAtFront more → 0 < length (map command_line cs ++ more)
some_left [] [] stops = absurd stops
some_left [] (p ∷ ps) stops = omega arith
some_left (c ∷ cs) more stops = omega arith

-- the lines of commands are read as those commands
pub commands_again : (seen : ℕ) (left : Left) (cs : List Command) (more : List (List ℕ)) → AllByRecursion IsCommand cs → seen + length cs ≤ most_commands → left.pieces ≡ map command_line cs ++ more → StopsAtFront more
    → commands_at seen left ≡ Ok (cs, record { pieces = more; line = left.line + length cs })
commands_again seen left [] more each few is stops =
    stop_again seen left more is stops ∙ ap (λ (n : ℕ). Ok ([], record { pieces = more; line = n })) (omega arith)
commands_again seen left (c ∷ cs) more each few is stops =
    let rest = map command_line cs ++ more in
    let behind : Left = record { pieces = rest; line = left.line + 1 } in
    let last : Left = record { pieces = more; line = left.line + 1 + length cs } in
    let more_commands = commands_again (seen + 1) behind cs more each.1 (omega arith) refl stops in
    commands_more seen left (command_line c) behind c (line_again left (command_line c) rest is (some_left cs more stops)) (command_goes_on c each.0) (command_again left.line c each.0) (omega arith)
    ∙ bind_to (commands_at (seen + 1) behind) _ (cs, last) (done (c ∷ cs, last)) more_commands refl
    ∙ ap (λ (n : ℕ). Ok (c ∷ cs, record { pieces = more; line = n })) (omega arith)

-- ---- a section

-- a section that was read is written as the lines that were taken
section_ok : (thread : ℕ) (left : Left) (cs : List Command) (behind : Left) → section_at thread left ≡ Ok (cs, behind)
    → (left.pieces ≡ section_line thread ∷ (map command_line cs ++ behind.pieces)) × IsSection cs
section_ok thread left cs behind e =
    let b = bind_ok (section_line_at thread left) (λ l. commands_at 0 l) (cs, behind) e in
    let took = commands_among_ok 0 b.0.pieces b.0.line cs behind (omega arith) b.2 in
    (fixed_ok bad_thread (section_line thread) left b.0 b.1 ∙ ap (λ (ps : List (List ℕ)). section_line thread ∷ ps) took.takes, (omega (arith, took.few), took.each))

-- the lines of a section are read as that section
section_again : (thread : ℕ) (left : Left) (cs : List Command) (more : List (List ℕ)) → IsSection cs → left.pieces ≡ section_line thread ∷ (map command_line cs ++ more) → StopsAtFront more
    → section_at thread left ≡ Ok (cs, record { pieces = more; line = left.line + 1 + length cs })
section_again thread left cs more fits is stops =
    let behind : Left = record { pieces = map command_line cs ++ more; line = left.line + 1 } in
    let last : Left = record { pieces = more; line = left.line + 1 + length cs } in
    bind_to (section_line_at thread left) (λ l. commands_at 0 l) behind (done (cs, last)) (fixed_again bad_thread (section_line thread) left (map command_line cs ++ more) is (some_left cs more stops))
    (commands_again 0 behind cs more fits.1 (omega (arith, fits.0)) refl stops)

-- ---- all sections

-- so many sections, from this thread on, and what is left behind them
pub record TakesSections (n thread : ℕ) (ps : List (List ℕ)) (css : List (List Command)) (behind : Left) : Type 0 where
  pub takes : ps ≡ sections_lines thread css ++ behind.pieces
  pub many : length css ≡ n
  pub each : AllByRecursion IsSection css

-- sections that were read are written as the lines that were taken
pub sections_ok : (n thread : ℕ) (left : Left) (css : List (List Command)) (behind : Left) → sections_at n thread left ≡ Ok (css, behind) → TakesSections n thread left.pieces css behind
sections_ok zero thread left css behind e =
    subst (λ (x : List (List Command) × Left). TakesSections 0 thread left.pieces x.0 x.1) (ok_is ([], left) (css, behind) e) (record { takes = refl; many = refl; each = tt })
sections_ok (suc n) thread left css behind e =
    let b = bind_ok (section_at thread left) _ (css, behind) e in
    let o = bind_ok (sections_at n (thread + 1) b.0.1) _ (css, behind) b.2 in
    let first = section_ok thread left b.0.0 b.0.1 b.1 in
    let rest = sections_ok n (thread + 1) b.0.1 o.0.0 o.0.1 o.1 in
    let lines : left.pieces ≡ sections_lines thread (b.0.0 ∷ o.0.0) ++ o.0.1.pieces =
    first.0 ∙ ap (λ (ps : List (List ℕ)). section_line thread ∷ (map command_line b.0.0 ++ ps)) rest.takes
    ∙ ap (λ (ps : List (List ℕ)). section_line thread ∷ ps) (sym (append_assoc (map command_line b.0.0) (sections_lines (thread + 1) o.0.0) o.0.1.pieces)) in
    let taken : TakesSections (suc n) thread left.pieces (b.0.0 ∷ o.0.0) o.0.1 = record { takes = lines; many = omega (arith, rest.many); each = (first.1, rest.each) } in
    subst (λ (x : List (List Command) × Left). TakesSections (suc n) thread left.pieces x.0 x.1) (ok_is (b.0.0 ∷ o.0.0, o.0.1) (css, behind) o.2) taken

-- the first line of a section ends the section before it
section_line_ends : (thread : ℕ) → thread < 2 ^ 64 → ends_section (section_line thread) ≡ true
section_line_ends thread small =
    ap begins_section (pieces-joined 32 (codes "thread") (decimal thread ∷ []) (AreFree-solid 32 (codes "thread" ∷ decimal thread ∷ []) (omega arith) (refl, (solid-decimal thread small, tt))))

-- a section ends where the next one begins
stops_then : (thread : ℕ) (css : List (List Command)) (more : List (List ℕ)) → thread + length css < 2 ^ 64 → StopsAtFront more → StopsAtFront (sections_lines thread css ++ more)
stops_then thread [] more small stops = stops
stops_then thread (cs ∷ css) more small stops =
    (section_line_ends thread (omega arith), omega (arith, length-append (map command_line cs ++ sections_lines (thread + 1) css) more, some_more more stops))
  where
    some_more : (more : List (List ℕ)) → StopsAtFront more → 0 < length more
    some_more [] stops = absurd stops
    some_more (p ∷ ps) stops = omega arith

pub record ReadsSections (thread : ℕ) (left : Left) (css : List (List Command)) (more : List (List ℕ)) : Type 0 where
  pub line : ℕ
  pub reads : sections_at (length css) thread left ≡ Ok (css, record { pieces = more; line = line })

-- the lines of sections are read as those sections
pub sections_again : (thread : ℕ) (left : Left) (css : List (List Command)) (more : List (List ℕ)) → thread + length css < 2 ^ 64 → AllByRecursion IsSection css → left.pieces ≡ sections_lines thread css ++ more → StopsAtFront more
    → ReadsSections thread left css more
sections_again thread left [] more small each is stops = record { line = left.line; reads = ap (λ (ps : List (List ℕ)). Ok ([], record { pieces = ps; line = left.line })) is }
sections_again thread left (cs ∷ css) more small each is stops =
    let after = sections_lines (thread + 1) css ++ more in
    let behind : Left = record { pieces = after; line = left.line + 1 + length cs } in
    let front : left.pieces ≡ section_line thread ∷ (map command_line cs ++ after) =
    is ∙ ap (λ (ps : List (List ℕ)). section_line thread ∷ ps) (append_assoc (map command_line cs) (sections_lines (thread + 1) css) more) in
    let first = section_again thread left cs after each.0 front (stops_then (thread + 1) css more (omega arith) stops) in
    let rest = sections_again (thread + 1) behind css more (omega arith) each.1 refl stops in
    let last : Left = record { pieces = more; line = rest.line } in
    record {
      line = rest.line;
      reads = bind_to (section_at thread left) (λ first. sections_at (length css) (thread + 1) first.1 >>= λ others. Ok (first.0 ∷ others.0, others.1)) (cs, behind) (done (cs ∷ css, last)) first
          (bind_to (sections_at (length css) (thread + 1) behind) (λ others. Ok (cs ∷ others.0, others.1)) (css, last) (done (cs ∷ css, last)) rest.reads refl);
    }

-- no line of a section has a line feed
commands_free : (cs : List Command) → AllByRecursion IsCommand cs → AreFree 10 (map command_line cs)
commands_free [] h = tt
commands_free (c ∷ cs) h = (command_free c h.0, commands_free cs h.1)
  where
    command_free : (c : Command) → IsCommand c → free 10 (command_line c) ≡ true
    command_free c h = free-spaced (command_words c) (command_solid c h)

-- the lines of the sections have no line feed in them
pub sections_free : (thread : ℕ) (css : List (List Command)) → thread + length css < 2 ^ 64 → AllByRecursion IsSection css → AreFree 10 (sections_lines thread css)
sections_free thread [] small h = tt
sections_free thread (cs ∷ css) small h = (
  free-spaced (codes "thread" ∷ decimal thread ∷ []) (refl, (solid-decimal thread (omega arith), tt)),
  AreFree-append 10 (map command_line cs) (sections_lines (thread + 1) css) (commands_free cs h.0.1) (sections_free (thread + 1) css (omega arith) h.1),
)
