-- Items of a keep list, and what a cut keeps.
use Rattle.std.proofs.Common.{◌≡◌, ℕ, ◌+◌, ◌<◌, ◌≤◌, ◌^◌, Bool, cond, ltb, leb, ◌&&◌, List, [], ◌∷◌, map, drop, length, Ok, Err, Result, refl, ap, ◌∙◌, subst, inl, inr, arith, codes}
use Rattle.std.specs.Str.{bytes_eq}
use Rattle.std.specs.Fmt.{decimal}
use Rattle.std.proofs.lemmas.Bool.{ltb-true, lt-ltb, leb-true, le-leb}
use Rattle.store_order.specs.declared.choice.Kept.{Kept}
use Rattle.script_text.specs.declared.fault.ScriptFault.{ScriptFault}
use Rattle.script_text.specs.Pieces.{pieces, begins_list}
use Rattle.script_text.specs.Faults.{bad_keep, out_of_range, ◌>>=◌, fault}
use Rattle.script_text.specs.Reading.{Left, number_at}
use Rattle.script_text.specs.Program.{Keeping, nothing, everything, by_seed, these}
use Rattle.script_text.specs.Keep.{item_of_pieces, item_list, plain_keep, keep_of_words, keep_at}
use Rattle.script_text.specs.Text.{spaced, item_text, keep_words, AreItems, IsKeeping}
use Rattle.script_text.proofs.Free.{AreSolid, solid, and_left, and_right, and_both, joined-pieces, pieces-joined, free-decimal, solid-append, solid-decimal}
use Rattle.script_text.proofs.NumberLaws.{bind_ok, bind_to, guard_ok, ok_is, done, number_ok, number_again}
use Rattle.script_text.proofs.LineLaws.{chosen, line_with_ok, words_again}
use Rattle.script_text.proofs.TurnLaws.{two_names, list_front}

-- a fault in place of an item
abbrev no_item : ScriptFault → Result Kept ScriptFault
no_item f = Err f

-- more than two pieces are no item
pub not_an_item : (line all low : ℕ) (ps : List (List ℕ)) → 2 < length ps → no_item (fault line bad_keep) ≡ item_of_pieces line all low ps
not_an_item line all low [] h = absurd (omega arith)
not_an_item line all low (a ∷ []) h = absurd (omega arith)
not_an_item line all low (a ∷ b ∷ []) h = absurd (omega arith)
not_an_item line all low (a ∷ b ∷ c ∷ ps) h = refl

-- an item that was read has these pieces, within the limits
item_pieces_ok : (line all low : ℕ) (ps : List (List ℕ)) (item : Kept) → item_of_pieces line all low ps ≡ Ok item
    → (ps ≡ decimal item.line ∷ decimal item.count ∷ []) × (low ≤ item.line) × (item.line < all) × (item.count < 2 ^ 32)
item_pieces_ok line all low [] item e = absurd cc
item_pieces_ok line all low (a ∷ []) item e = absurd cc
item_pieces_ok line all low (a ∷ b ∷ []) item e =
    let l = bind_ok (number_at line a) _ item e in
    let k = bind_ok (number_at line b) _ item l.2 in
    let found : Kept = record { line = l.0; count = k.0 } in
    let g = guard_ok (ltb l.0 all && leb low l.0 && leb k.0 4294967295) (done found) (fault line out_of_range) item k.2 in
    let within = ltb-true l.0 all (and_left (ltb l.0 all) (leb low l.0) (and_left (ltb l.0 all && leb low l.0) (leb k.0 4294967295) g.0)) in
    let above = leb-true low l.0 (and_right (ltb l.0 all) (leb low l.0) (and_left (ltb l.0 all && leb low l.0) (leb k.0 4294967295) g.0)) in
    let small = leb-true k.0 4294967295 (and_right (ltb l.0 all && leb low l.0) (leb k.0 4294967295) g.0) in
    subst (λ (item : Kept). (a ∷ b ∷ [] ≡ decimal item.line ∷ decimal item.count ∷ []) × (low ≤ item.line) × (item.line < all) × (item.count < 2 ^ 32)) (ok_is found item g.1)
    (ap (λ (w : List ℕ). w ∷ b ∷ []) (number_ok line a l.0 l.1).0 ∙ ap (λ (w : List ℕ). decimal l.0 ∷ w ∷ []) (number_ok line b k.0 k.1).0, above, within, omega arith)
item_pieces_ok line all low (a ∷ b ∷ c ∷ ps) item e = absurd cc

-- the pieces of an item are read as that item
item_pieces_again : (line all low : ℕ) (item : Kept) → all < 2 ^ 64 → low ≤ item.line → item.line < all → item.count < 2 ^ 32 → item_of_pieces line all low (decimal item.line ∷ decimal item.count ∷ []) ≡ Ok item
item_pieces_again line all low item fits above within small =
    let l = item.line in
    let k = item.count in
    bind_to (number_at line (decimal l)) _ l (done item) (number_again line l (omega arith))
    (bind_to (number_at line (decimal k)) _ k (done item) (number_again line k (omega arith))
    (ap (λ (b : Bool). cond b (done item) (Err (fault line out_of_range)))
    (and_both (ltb l all && leb low l) (leb k 4294967295) (and_both (ltb l all) (leb low l) (lt-ltb l all within) (le-leb low l above)) (le-leb k 4294967295 (omega arith)))))

-- items that were read have these words, and ascend
item_list_ok : (line all low : ℕ) (ws : List (List ℕ)) (items : List Kept) → item_list line all low ws ≡ Ok items → (ws ≡ map item_text items) × AreItems all low items
item_list_ok line all low [] items e = subst (λ (items : List Kept). ([] ≡ map item_text items) × AreItems all low items) (ok_is [] items e) (refl, tt)
item_list_ok line all low (w ∷ ws) items e =
    let b = bind_ok (item_of_pieces line all low (pieces 58 w)) _ items e in
    let c = bind_ok (item_list line all (b.0.line + 1) ws) _ items b.2 in
    let first = item_pieces_ok line all low (pieces 58 w) b.0 b.1 in
    let rest = item_list_ok line all (b.0.line + 1) ws c.0 c.1 in
    subst (λ (items : List Kept). (w ∷ ws ≡ map item_text items) × AreItems all low items) (ok_is (b.0 ∷ c.0) items c.2) (
      ap (λ (v : List ℕ). v ∷ ws) (joined-pieces 58 w (decimal b.0.line ∷ decimal b.0.count ∷ []) first.0) ∙ ap (λ (vs : List (List ℕ)). item_text b.0 ∷ vs) rest.0,
      (first.1, first.2, first.3, rest.1),
    )

-- an item is cut at its colon
cut_item : (item : Kept) → item.line < 2 ^ 64 → item.count < 2 ^ 64 → pieces 58 (item_text item) ≡ decimal item.line ∷ decimal item.count ∷ []
cut_item item l k = pieces-joined 58 (decimal item.line) (decimal item.count ∷ []) (free-decimal 58 item.line (λ h. omega arith) l, (free-decimal 58 item.count (λ h. omega arith) k, tt))

-- the words of items are read as those items
item_list_again : (line all low : ℕ) (items : List Kept) → all < 2 ^ 64 → AreItems all low items → item_list line all low (map item_text items) ≡ Ok items
item_list_again line all low [] fits h = refl
item_list_again line all low (item ∷ items) fits h =
    bind_to (item_of_pieces line all low (pieces 58 (item_text item))) _ item (Ok (item ∷ items))
    (ap (item_of_pieces line all low) (cut_item item (omega (arith, h.1)) (omega (arith, h.2))) ∙ item_pieces_again line all low item fits h.0 h.1 h.2)
    (bind_to (item_list line all (item.line + 1) (map item_text items)) _ items (Ok (item ∷ items)) (item_list_again line all (item.line + 1) items fits h.3) refl)

-- a form with no list that was read has these words
plain_ok : (line all : ℕ) (ws : List (List ℕ)) (k : Keeping) → plain_keep line ws ≡ Ok k → (ws ≡ keep_words k) × IsKeeping all k
plain_ok line all [] k e = absurd cc
plain_ok line all (a ∷ []) k e = absurd cc
plain_ok line all (a ∷ b ∷ []) k e =
    elim (chosen (bytes_eq a (codes "keep") && bytes_eq b (codes "none")) (Ok nothing) (cond (bytes_eq a (codes "keep") && bytes_eq b (codes "all")) (Ok everything) (Err (fault line bad_keep))) (Ok k) e) [
      | inl p ↦ let names = two_names a b (codes "keep") (codes "none") p.0 in
          subst (λ (k : Keeping). (a ∷ b ∷ [] ≡ keep_words k) × IsKeeping all k) (ok_is nothing k p.1) (ap (λ (v : List ℕ). v ∷ b ∷ []) names.0 ∙ ap (λ (v : List ℕ). codes "keep" ∷ v ∷ []) names.1, tt)
      | inr p ↦ let g = guard_ok (bytes_eq a (codes "keep") && bytes_eq b (codes "all")) (Ok everything) (fault line bad_keep) k p.1 in
          let names = two_names a b (codes "keep") (codes "all") g.0 in
          subst (λ (k : Keeping). (a ∷ b ∷ [] ≡ keep_words k) × IsKeeping all k) (ok_is everything k g.1) (ap (λ (v : List ℕ). v ∷ b ∷ []) names.0 ∙ ap (λ (v : List ℕ). codes "keep" ∷ v ∷ []) names.1, tt)
    ]
plain_ok line all (a ∷ b ∷ c ∷ []) k e =
    let g = guard_ok (bytes_eq a (codes "keep") && bytes_eq b (codes "seed")) (number_at line c >>= λ seed. Ok (by_seed seed)) (fault line bad_keep) k e in
    let names = two_names a b (codes "keep") (codes "seed") g.0 in
    let s = bind_ok (number_at line c) _ k g.1 in
    let seed = number_ok line c s.0 s.1 in
    subst (λ (k : Keeping). (a ∷ b ∷ c ∷ [] ≡ keep_words k) × IsKeeping all k) (ok_is (by_seed s.0) k s.2)
    (ap (λ (v : List ℕ). v ∷ b ∷ c ∷ []) names.0 ∙ ap (λ (v : List ℕ). codes "keep" ∷ v ∷ c ∷ []) names.1 ∙ ap (λ (v : List ℕ). codes "keep" ∷ codes "seed" ∷ v ∷ []) seed.0, seed.1)
plain_ok line all (a ∷ b ∷ c ∷ d ∷ ws) k e = absurd cc

-- what was read has these words, within the limits
keep_words_ok : (line all : ℕ) (ws : List (List ℕ)) (k : Keeping) → keep_of_words line all ws ≡ Ok k → (ws ≡ keep_words k) × IsKeeping all k
keep_words_ok line all ws k e =
    elim (chosen (begins_list (codes "keep") ws) (item_list line all 0 (drop 2 ws) >>= λ items. Ok (these items)) (plain_keep line ws) (Ok k) e) [
      | inl p ↦
          let b = bind_ok (item_list line all 0 (drop 2 ws)) (λ items. Ok (these items)) k p.1 in
          let list = item_list_ok line all 0 (drop 2 ws) b.0 b.1 in
          subst (λ (k : Keeping). (ws ≡ keep_words k) × IsKeeping all k) (ok_is (these b.0) k b.2)
          (list_front (codes "keep") ws p.0 ∙ ap (λ (vs : List (List ℕ)). codes "keep" ∷ codes "list" ∷ vs) list.0, list.1)
      | inr p ↦ plain_ok line all ws k p.1
    ]

-- the words of what a cut keeps are read as that
keep_words_again : (line all : ℕ) (k : Keeping) → all < 2 ^ 64 → IsKeeping all k → keep_of_words line all (keep_words k) ≡ Ok k
keep_words_again line all nothing fits h = refl
keep_words_again line all everything fits h = refl
keep_words_again line all (by_seed seed) fits h = bind_to (number_at line (decimal seed)) _ seed (Ok (by_seed seed)) (number_again line seed h) refl
keep_words_again line all (these items) fits h = bind_to (item_list line all 0 (map item_text items)) _ items (Ok (these items)) (item_list_again line all 0 items fits h) refl

-- items have no space and no line feed
items_solid : (all low : ℕ) (items : List Kept) → all < 2 ^ 64 → AreItems all low items → AreSolid (map item_text items)
items_solid all low [] fits h = tt
items_solid all low (item ∷ items) fits h = (
  solid-append (decimal item.line) (58 ∷ decimal item.count) (solid-decimal item.line (omega (arith, h.1))) (and_both (ltb 32 58) (solid (decimal item.count)) refl (solid-decimal item.count (omega (arith, h.2)))),
  items_solid all (item.line + 1) items fits h.3,
)

-- the words of what a cut keeps have no space and no line feed
pub keep_solid : (all : ℕ) (k : Keeping) → all < 2 ^ 64 → IsKeeping all k → AreSolid (keep_words k)
keep_solid all nothing fits h = (refl, (refl, tt))
keep_solid all everything fits h = (refl, (refl, tt))
keep_solid all (by_seed seed) fits h = (refl, (refl, (solid-decimal seed h, tt)))
keep_solid all (these items) fits h = (refl, (refl, items_solid all 0 items fits h))

-- what a cut keeps has a word
some_words : (k : Keeping) → 0 < length (keep_words k)
some_words nothing = omega arith
some_words everything = omega arith
some_words (by_seed seed) = omega arith
some_words (these items) = omega arith

-- what was read is written as the line that was taken
pub keep_ok : (all : ℕ) (left : Left) (k : Keeping) (behind : Left) → keep_at all left ≡ Ok (k, behind) → (left.pieces ≡ spaced (keep_words k) ∷ behind.pieces) × IsKeeping all k
keep_ok all left k behind e =
    let took = line_with_ok (λ line. keep_of_words line all) left k behind e in
    let got = keep_words_ok left.line all took.found k took.gives in
    (took.takes ∙ ap (λ (ws : List (List ℕ)). spaced ws ∷ behind.pieces) got.0, got.1)

-- the line of what a cut keeps is read as that
pub keep_again : (all : ℕ) (left : Left) (k : Keeping) (more : List (List ℕ)) → all < 2 ^ 64 → IsKeeping all k → left.pieces ≡ spaced (keep_words k) ∷ more → 0 < length more
    → keep_at all left ≡ Ok (k, record { pieces = more; line = left.line + 1 })
keep_again all left k more fits h is some =
    words_again (λ line. keep_of_words line all) left k (keep_words k) more (some_words k) (keep_solid all k fits h) (keep_words_again left.line all k fits h) is some
