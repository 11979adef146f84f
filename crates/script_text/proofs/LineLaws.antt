-- What a line that is read takes from the front, and that it is read again.
use Rattle.std.proofs.Common.{◌≡◌, ℕ, ◌+◌, ◌<◌, ◌≤◌, ◌^◌, Bool, true, false, cond, List, [], ◌∷◌, ◌++◌, Result, Ok, Err, length, refl, ap, ◌∙◌, arith, subst, inl, inr, codes}
use Rattle.std.specs.Prelude.{◌⊎◌}
use Rattle.std.specs.Str.{bytes_eq}
use Rattle.std.specs.Fmt.{decimal}
use Rattle.std.proofs.lemmas.Slice.Eq.{bytes_eq-Decides}
use Rattle.script_text.specs.declared.fault.ScriptFault.{ScriptFault}
use Rattle.seq_object.specs.declared.settings.Settings.{Settings}
use Rattle.script_text.specs.Pieces.{words}
use Rattle.script_text.specs.Faults.{bad_setting, ◌>>=◌, fault}
use Rattle.script_text.specs.Reading.{Left, line_among, line_at, limited_at}
use Rattle.script_text.specs.Head.{fixed_line_at, setting_of_words, setting_at, settings_at}
use Rattle.seq_object.specs.Sizes.{IsValid}
use Rattle.script_text.specs.Text.{spaced, setting_words, settings_lines}
use Rattle.script_text.proofs.Free.{free, AreFree, AreSolid, joined-pieces, pieces-joined, free-decimal, free-spaced, solid-decimal, AreFree-solid}
use Rattle.script_text.proofs.NumberLaws.{bind_ok, bind_to, guard_ok, ok_is, done, limited_ok, limited_again}

-- bytes that pass the test are the same
pub same_bytes : (a b : List ℕ) → bytes_eq a b ≡ true → a ≡ b
same_bytes a b e = (bytes_eq-Decides a b).0 e

-- the same bytes pass the test
pub bytes_same : (a : List ℕ) → bytes_eq a a ≡ true
bytes_same a = (bytes_eq-Decides a a).1 refl

-- which way a test went
pub chosen : {A : Type 0} (b : Bool) (x y z : A) → cond b x y ≡ z → ((b ≡ true) × (x ≡ z)) ⊎ ((b ≡ false) × (y ≡ z))
chosen true x y z e = inl (refl, e)
chosen false x y z e = inr (refl, e)

-- a line that was taken stood in front
line_among_ok : (ps : List (List ℕ)) (n : ℕ) (t : List ℕ) (behind : Left) → line_among ps n ≡ Ok (t, behind) → ps ≡ t ∷ behind.pieces
line_among_ok [] n t behind e = absurd cc
line_among_ok (p ∷ []) n t behind e = absurd cc
line_among_ok (p ∷ q ∷ ps) n t behind e =
    let rest : Left = record { pieces = q ∷ ps; line = n + 1 } in
    ap (λ (x : List ℕ × Left). x.0 ∷ x.1.pieces) (ok_is (p, rest) (t, behind) e)

-- a line that was taken stood in front of what is left
pub line_ok : (left : Left) (t : List ℕ) (behind : Left) → line_at left ≡ Ok (t, behind) → left.pieces ≡ t ∷ behind.pieces
line_ok left t behind e = line_among_ok left.pieces left.line t behind e

-- a line in front of more is taken
line_among_again : (t : List ℕ) (more : List (List ℕ)) (n : ℕ) → 0 < length more → line_among (t ∷ more) n ≡ Ok (t, record { pieces = more; line = n + 1 })
line_among_again t [] n h = absurd (omega arith)
line_among_again t (p ∷ ps) n h = refl

-- a line in front of more that is left is taken
pub line_again : (left : Left) (t : List ℕ) (more : List (List ℕ)) → left.pieces ≡ t ∷ more → 0 < length more → line_at left ≡ Ok (t, record { pieces = more; line = left.line + 1 })
line_again left t more is some = ap (λ (ps : List (List ℕ)). line_among ps left.line) is ∙ line_among_again t more left.line some

-- ---- a fixed line

-- a settled line that was taken stood in front
pub fixed_ok : (kind : ℕ) (text : List ℕ) (left behind : Left) → fixed_line_at kind text left ≡ Ok behind → left.pieces ≡ text ∷ behind.pieces
fixed_ok kind text left behind e =
    let b = bind_ok (line_at left) (λ l. cond (bytes_eq l.0 text) (Ok l.1) (Err (fault left.line kind))) behind e in
    let g = guard_ok (bytes_eq b.0.0 text) (Ok b.0.1) (fault left.line kind) behind b.2 in
    let same : b.0.1 ≡ behind = ok_is b.0.1 behind g.1 in
    line_ok left b.0.0 b.0.1 b.1 ∙ ap (λ (t : List ℕ). t ∷ b.0.1.pieces) (same_bytes b.0.0 text g.0) ∙ ap (λ (l : Left). text ∷ l.pieces) same

-- a settled line in front of more is taken
pub fixed_again : (kind : ℕ) (text : List ℕ) (left : Left) (more : List (List ℕ)) → left.pieces ≡ text ∷ more → 0 < length more → fixed_line_at kind text left ≡ Ok (record { pieces = more; line = left.line + 1 })
fixed_again kind text left more is some =
    let behind : Left = record { pieces = more; line = left.line + 1 } in
    ap (λ (r : Result (List ℕ × Left) ScriptFault). r >>= λ l. cond (bytes_eq l.0 text) (Ok l.1) (Err (fault left.line kind))) (line_again left text more is some)
    ∙ ap (λ (b : Bool). cond b (done behind) (Err (fault left.line kind))) (bytes_same text)

-- ---- a line of words

-- a line that is read by its words
abbrev pub line_with : {X : Type 0} → (ℕ → List (List ℕ) → Result X ScriptFault) → Left → Result (X × Left) ScriptFault
line_with of_words left = line_at left >>= λ l. of_words left.line (words l.0) >>= λ x. Ok (x, l.1)

pub record TakesWords {X : Type 0} (of_words : ℕ → List (List ℕ) → Result X ScriptFault) (left : Left) (x : X) (behind : Left) : Type 0 where
  pub found : List (List ℕ)
  pub gives : of_words left.line found ≡ Ok x
  pub takes : left.pieces ≡ spaced found ∷ behind.pieces

-- a line whose words were read stood in front, as its words
pub line_with_ok : {X : Type 0} (of_words : ℕ → List (List ℕ) → Result X ScriptFault) (left : Left) (x : X) (behind : Left) → line_with of_words left ≡ Ok (x, behind) → TakesWords of_words left x behind
line_with_ok {X} of_words left x behind e =
    let b = bind_ok (line_at left) (λ l. of_words left.line (words l.0) >>= λ x. Ok (x, l.1)) (x, behind) e in
    let w = bind_ok (of_words left.line (words b.0.0)) (λ x. Ok (x, b.0.1)) (x, behind) b.2 in
    let same = ok_is (w.0, b.0.1) (x, behind) w.2 in
    record {
      found = words b.0.0;
      gives = w.1 ∙ ap (λ (p : X × Left). done p.0) same;
      takes = line_ok left b.0.0 b.0.1 b.1 ∙ ap (λ (t : List ℕ). t ∷ b.0.1.pieces) (joined-pieces 32 b.0.0 (words b.0.0) refl) ∙ ap (λ (p : X × Left). spaced (words b.0.0) ∷ p.1.pieces) same;
    }

-- a line of words in front of more is read by its words
pub line_with_again : {X : Type 0} (of_words : ℕ → List (List ℕ) → Result X ScriptFault) (left : Left) (x : X) (w : List ℕ) (ws more : List (List ℕ)) → AreFree 32 (w ∷ ws) → of_words left.line (w ∷ ws) ≡ Ok x
    → left.pieces ≡ spaced (w ∷ ws) ∷ more → 0 < length more → line_with of_words left ≡ Ok (x, record { pieces = more; line = left.line + 1 })
line_with_again {X} of_words left x w ws more clear gives is some =
    let behind : Left = record { pieces = more; line = left.line + 1 } in
    ap (λ (r : Result (List ℕ × Left) ScriptFault). r >>= λ l. of_words left.line (words l.0) >>= λ x. Ok (x, l.1)) (line_again left (spaced (w ∷ ws)) more is some)
    ∙ ap (λ (ws : List (List ℕ)). of_words left.line ws >>= λ x. Ok (x, behind)) (pieces-joined 32 w ws clear)
    ∙ ap (λ (r : Result X ScriptFault). r >>= λ x. Ok (x, behind)) gives

-- ---- the settings

-- a setting that was read has these words, within its limits
pub setting_words_ok : (line : ℕ) (name : List ℕ) (low high : ℕ) (ws : List (List ℕ)) (n : ℕ) → setting_of_words line name low high ws ≡ Ok n → (ws ≡ setting_words name n) × (low ≤ n) × (n ≤ high)
setting_words_ok line name low high [] n e = absurd cc
setting_words_ok line name low high (a ∷ []) n e = absurd cc
setting_words_ok line name low high (a ∷ b ∷ []) n e =
    let g = guard_ok (bytes_eq a name) (limited_at line low high b) (fault line bad_setting) n e in
    let got = limited_ok line low high b n g.1 in
    (ap (λ (w : List ℕ). w ∷ b ∷ []) (same_bytes a name g.0) ∙ ap (λ (w : List ℕ). name ∷ w ∷ []) got.0, got.2, got.3)
setting_words_ok line name low high (a ∷ b ∷ c ∷ ws) n e = absurd cc

-- the words of a setting are read as that setting
pub setting_words_again : (line : ℕ) (name : List ℕ) (low high n : ℕ) → n < 2 ^ 64 → low ≤ n → n ≤ high → setting_of_words line name low high (setting_words name n) ≡ Ok n
setting_words_again line name low high n small above below =
    ap (λ (b : Bool). cond b (limited_at line low high (decimal n)) (Err (fault line bad_setting))) (bytes_same name) ∙ limited_again line low high n small above below

-- a setting that was read is written as the line that was taken
pub setting_ok : (name : List ℕ) (low high : ℕ) (left : Left) (n : ℕ) (behind : Left) → setting_at name low high left ≡ Ok (n, behind)
    → (left.pieces ≡ spaced (setting_words name n) ∷ behind.pieces) × (low ≤ n) × (n ≤ high)
setting_ok name low high left n behind e =
    let t = line_with_ok (λ line. setting_of_words line name low high) left n behind e in
    let w = setting_words_ok left.line name low high t.found n t.gives in
    (t.takes ∙ ap (λ (ws : List (List ℕ)). spaced ws ∷ behind.pieces) w.0, w.1, w.2)

-- the line of a setting is read as that setting
pub setting_again : (name : List ℕ) (low high : ℕ) (left : Left) (n : ℕ) (more : List (List ℕ)) → AreFree 32 (setting_words name n) → n < 2 ^ 64 → low ≤ n → n ≤ high
    → left.pieces ≡ spaced (setting_words name n) ∷ more → 0 < length more → setting_at name low high left ≡ Ok (n, record { pieces = more; line = left.line + 1 })
setting_again name low high left n more clear small above below is some =
    line_with_again (λ line. setting_of_words line name low high) left n name (decimal n ∷ []) more clear (setting_words_again left.line name low high n small above below) is some

-- settings that were read are written as the lines that were taken, and are valid
pub settings_ok : (left : Left) (s : Settings) (behind : Left) → settings_at left ≡ Ok (s, behind) → (left.pieces ≡ settings_lines s ++ behind.pieces) × IsValid s
settings_ok left s behind e =
    let a = bind_ok (setting_at (codes "threads") 1 16 left) _ (s, behind) e in
    let b = bind_ok (setting_at (codes "shards") 1 8 a.0.1) _ (s, behind) a.2 in
    let c = bind_ok (setting_at (codes "lines") 16 65536 b.0.1) _ (s, behind) b.2 in
    let d = bind_ok (setting_at (codes "every") 1 1024 c.0.1) _ (s, behind) c.2 in
    let fa = setting_ok (codes "threads") 1 16 left a.0.0 a.0.1 a.1 in
    let fb = setting_ok (codes "shards") 1 8 a.0.1 b.0.0 b.0.1 b.1 in
    let fc = setting_ok (codes "lines") 16 65536 b.0.1 c.0.0 c.0.1 c.1 in
    let fd = setting_ok (codes "every") 1 1024 c.0.1 d.0.0 d.0.1 d.1 in
    let s0 : Settings = record { threads = a.0.0; shards = b.0.0; lines = c.0.0; every = d.0.0 } in
    let same = ok_is (s0, d.0.1) (s, behind) d.2 in
    let taken : left.pieces ≡ settings_lines s0 ++ d.0.1.pieces =
    fa.0 ∙ ap (λ (ps : List (List ℕ)). spaced (setting_words (codes "threads") a.0.0) ∷ ps)
    (fb.0 ∙ ap (λ (ps : List (List ℕ)). spaced (setting_words (codes "shards") b.0.0) ∷ ps)
    (fc.0 ∙ ap (λ (ps : List (List ℕ)). spaced (setting_words (codes "lines") c.0.0) ∷ ps) fd.0)) in
    let within : IsValid s0 = record {
      sizes = record { some_threads = fa.1; few_threads = fa.2; some_shards = fb.1; few_shards = fb.2; some_lines = fc.1; few_lines = fc.2 };
      some = fd.1;
      few = fd.2;
    } in
    subst (λ (x : Settings × Left). (left.pieces ≡ settings_lines x.0 ++ x.1.pieces) × IsValid x.0) same (taken, within)

-- the words of a setting have no space
pub clear_setting : (name : List ℕ) (n : ℕ) → free 32 name ≡ true → n < 2 ^ 64 → AreFree 32 (setting_words name n)
clear_setting name n clear small = (clear, (free-decimal 32 n (λ h. omega arith) small, tt))

-- the lines of valid settings are read as those settings
pub settings_again : (left : Left) (s : Settings) (more : List (List ℕ)) → IsValid s → left.pieces ≡ settings_lines s ++ more → 0 < length more
    → settings_at left ≡ Ok (s, record { pieces = more; line = left.line + 1 + 1 + 1 + 1 })
settings_again left s more within is some =
    let t = spaced (setting_words (codes "threads") s.threads) in
    let h = spaced (setting_words (codes "shards") s.shards) in
    let l = spaced (setting_words (codes "lines") s.lines) in
    let v = spaced (setting_words (codes "every") s.every) in
    let one : Left = record { pieces = h ∷ l ∷ v ∷ more; line = left.line + 1 } in
    let two : Left = record { pieces = l ∷ v ∷ more; line = left.line + 1 + 1 } in
    let three : Left = record { pieces = v ∷ more; line = left.line + 1 + 1 + 1 } in
    let four : Left = record { pieces = more; line = left.line + 1 + 1 + 1 + 1 } in
    let all : Result (Settings × Left) ScriptFault = Ok (s, four) in
    bind_to (setting_at (codes "threads") 1 16 left) _ (s.threads, one) all
    (setting_again (codes "threads") 1 16 left s.threads (h ∷ l ∷ v ∷ more) (clear_setting (codes "threads") s.threads refl (omega (arith, within.sizes.few_threads))) (omega (arith, within.sizes.few_threads)) within.sizes.some_threads within.sizes.few_threads is (omega arith))
    (bind_to (setting_at (codes "shards") 1 8 one) _ (s.shards, two) all
    (setting_again (codes "shards") 1 8 one s.shards (l ∷ v ∷ more) (clear_setting (codes "shards") s.shards refl (omega (arith, within.sizes.few_shards))) (omega (arith, within.sizes.few_shards)) within.sizes.some_shards within.sizes.few_shards refl (omega arith))
    (bind_to (setting_at (codes "lines") 16 65536 two) _ (s.lines, three) all
    (setting_again (codes "lines") 16 65536 two s.lines (v ∷ more) (clear_setting (codes "lines") s.lines refl (omega (arith, within.sizes.few_lines))) (omega (arith, within.sizes.few_lines)) within.sizes.some_lines within.sizes.few_lines refl (omega arith))
    (bind_to (setting_at (codes "every") 1 1024 three) _ (s.every, four) all
    (setting_again (codes "every") 1 1024 three s.every more (clear_setting (codes "every") s.every refl (omega (arith, within.few))) (omega (arith, within.few)) within.some within.few refl some)
    refl)))

-- a line of solid words is read again
pub words_again : {X : Type 0} (of_words : ℕ → List (List ℕ) → Result X ScriptFault) (left : Left) (x : X) (ws more : List (List ℕ)) → 0 < length ws → AreSolid ws → of_words left.line ws ≡ Ok x
    → left.pieces ≡ spaced ws ∷ more → 0 < length more → line_with of_words left ≡ Ok (x, record { pieces = more; line = left.line + 1 })
words_again of_words left x [] more one solid gives is some = absurd (omega arith)
words_again of_words left x (w ∷ ws) more one solid gives is some = line_with_again of_words left x w ws more (AreFree-solid 32 (w ∷ ws) (omega arith) solid) gives is some

-- the lines of the settings have no line feed in them
pub settings_solid : (s : Settings) → IsValid s → AreFree 10 (settings_lines s)
settings_solid s within = (
  free-spaced (setting_words (codes "threads") s.threads) (refl, (solid-decimal s.threads (omega (arith, within.sizes.few_threads)), tt)),
  (
    free-spaced (setting_words (codes "shards") s.shards) (refl, (solid-decimal s.shards (omega (arith, within.sizes.few_shards)), tt)),
    (
      free-spaced (setting_words (codes "lines") s.lines) (refl, (solid-decimal s.lines (omega (arith, within.sizes.few_lines)), tt)),
      (free-spaced (setting_words (codes "every") s.every) (refl, (solid-decimal s.every (omega (arith, within.few)), tt)), tt),
    ),
  ),
)
