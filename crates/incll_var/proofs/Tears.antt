-- A torn bank is restored by the events of its epoch: the stores, the write-backs and the fence, each a pass over the lines.
use Rattle.std.proofs.Common.{lit<, eq-eqb, ◌≡◌, ℕ, ◌+◌, ◌<◌, ◌≤◌, ◌==◌, suc, Bool, true, false, List, [], ◌∷◌, ◌++◌, length, map, get_or, set, arith, refl, ap, sym, ◌∙◌, subst, inl, inr, get_or-set_other, if◌then◌else◌}
use Rattle.std.proofs.lemmas.Bool.Decides.{eqb_tells}
use Rattle.std.proofs.lemmas.List.{append_assoc, length-append, map-append}
use Rattle.std.proofs.Math.Seq.{get_or-append_seam, set-append_seam}
use Rattle.line_memory.specs.Line.{LineState, BankState, AreLines, HasSameWords, applied, loaded_words, line_at, loaded, stored, written_back, fenced, no_line}
use Rattle.line_memory.specs.declared.store.Store.{Store}
use Rattle.line_memory.proofs.Survivors.{whole-stored}
use Rattle.room_model.specs.Cell.{tag_of, record_of, backup_of, triple_of, IsRecoverable}
use Rattle.incll_var.specs.declared.restore.RestoreEvent.{RestoreEvent}
use Rattle.incll_var.specs.declared.restore.RestoreEvent.TheVariants.{Restores, Asks, Fences}
use Rattle.incll_var.specs.declared.state.CellState.TheVariants.{Torn}
use Rattle.incll_var.specs.Restore.{Each, CanDo, IsQuietCell, IsRestored, IsRestoring, lines_after, triples, tagged_from, restores, asks, restore_events, events_at, HaveRoomToRestore}
use Rattle.incll_var.specs.Cells.{IsCellBank, AreSettled, HasSameCells}
use Rattle.incll_var.proofs.Safety.{kept-stored, safe-one, from_eight, whole_safe, loaded-whole}
use Rattle.incll_var.proofs.Survivors.{quiet_kept}
use Rattle.incll_var.proofs.Closings.{line_fenced}
use Rattle.incll_var.proofs.Restores.{each_append, each_from, each_mapped, each_weaker, same_held}
use Rattle.room_model.specs.Banks.{memory_words}

-- a test as a proposition
abbrev Holds : Bool → Type 0
Holds true = Unit {0}
Holds false = ⊥

-- One line: what each event makes of it.

-- word w gets its backup
abbrev restored_word : LineState → ℕ → LineState
restored_word l w = stored l w (loaded l (w + 3))

-- a line whose survivors have its triple, and whose tag by loads is m
record IsTagged (m : ℕ) (l : LineState) : Type 0 where
  kept : IsRecoverable m l
  tag : tag_of (loaded_words l) ≡ m

whole_word : (m : ℕ) (l : LineState) (w : ℕ) → IsRecoverable m l → w < 3 → loaded_words (restored_word l w) ≡ set (loaded_words l) w (get_or (loaded_words l) (w + 3) 0)
whole_word m l w kept lt =
    whole-stored l w (loaded l (w + 3)) ∙ ap (λ (v : ℕ). set (loaded_words l) w v) (loaded-whole m l (w + 3) kept (omega arith))

tagged_word : (m : ℕ) (l : LineState) (w : ℕ) → w < 3 → IsTagged m l → IsTagged m (restored_word l w)
tagged_word m l w lt h = record {
  kept = kept-stored m l w (loaded l (w + 3)) h.kept (safe-one m (triple_of m l.base) (loaded_words l) w (loaded l (w + 3)) lt (whole_safe m l h.kept) h.tag);
  tag = ap tag_of (whole_word m l w h.kept lt) ∙ get_or-set_other (loaded_words l) w 6 (get_or (loaded_words l) (w + 3) 0) 0 (omega arith) ∙ h.tag;
}

-- one word after the other gets its backup
abbrev put_back : List ℕ → ℕ → List ℕ
put_back ws w = set ws w (get_or ws (w + 3) 0)

three_words : (ws : List ℕ) → length ws ≡ 8 → record_of (put_back (put_back (put_back ws 0) 1) 2) ≡ backup_of ws
three_words ws eight = from_eight (λ us. record_of (put_back (put_back (put_back us 0) 1) 2) ≡ backup_of us) (λ a b c d x f g h. refl) ws eight

-- a line behind the stores of the restore: its words are its triple, and where it is not tagged nothing is pending
record IsStored (m : ℕ) (l : LineState) : Type 0 where
  kept : IsRecoverable m l
  asked : l.asked ≡ 0
  words : record_of (loaded_words l) ≡ triple_of m l.base
  alone : (tag_of l.base == m) ≡ false → l.pending ≡ []

-- a torn line that has room
record IsReady (m : ℕ) (l : LineState) : Type 0 where
  torn : IsQuietCell m l
  room : tag_of l.base ≡ m → 3 ≤ l.spare

torn_kept : (m : ℕ) (l : LineState) → IsQuietCell m l → IsRecoverable m l
torn_kept m l h = quiet_kept m m l (omega arith) h

torn_whole : (m : ℕ) (l : LineState) → IsQuietCell m l → loaded_words l ≡ l.base
torn_whole m l h = ap (λ (ss : List Store). applied l.base ss) h.pending

abbrev all_three : LineState → LineState
all_three l = restored_word (restored_word (restored_word l 0) 1) 2

abbrev copied : ℕ → LineState → LineState
copied m l = if tag_of l.base == m then all_three l else l

torn_tagged : (m : ℕ) (l : LineState) → IsQuietCell m l → tag_of l.base ≡ m → IsTagged m l
torn_tagged m l h tag = record { kept = torn_kept m l h; tag = ap tag_of (torn_whole m l h) ∙ tag }

three_stored : (m : ℕ) (l : LineState) → IsQuietCell m l → tag_of l.base ≡ m → IsStored m (all_three l)
three_stored m l h tag =
    let zeroth = torn_tagged m l h tag in
    let first = tagged_word m l 0 (lit< tt) zeroth in
    let second = tagged_word m (restored_word l 0) 1 (lit< tt) first in
    let third = tagged_word m (restored_word (restored_word l 0) 1) 2 (lit< tt) second in
    let words : loaded_words (all_three l) ≡ put_back (put_back (put_back l.base 0) 1) 2 =
    whole_word m (restored_word (restored_word l 0) 1) 2 second.kept (lit< tt)
    ∙ ap (λ (ws : List ℕ). put_back ws 2) (whole_word m (restored_word l 0) 1 first.kept (lit< tt))
    ∙ ap (λ (ws : List ℕ). put_back (put_back ws 1) 2) (whole_word m l 0 zeroth.kept (lit< tt))
    ∙ ap (λ (ws : List ℕ). put_back (put_back (put_back ws 0) 1) 2) (torn_whole m l h) in
    let test : (tag_of l.base == m) ≡ true = eq-eqb (tag_of l.base) m tag in
    record {
      kept = third.kept;
      asked = h.asked;
      words = ap record_of words ∙ three_words l.base h.eight ∙ sym (ap (λ (b : Bool). if b then backup_of l.base else record_of l.base) test);
      alone = λ no. absurd (differ (sym test ∙ no));
    }
  where
    differ : true ≡ false → ⊥
    differ h = subst Holds h tt

untagged_stored : (m : ℕ) (l : LineState) → IsQuietCell m l → (tag_of l.base == m) ≡ false → IsStored m l
untagged_stored m l h test = record {
  kept = torn_kept m l h;
  asked = h.asked;
  words = ap record_of (torn_whole m l h) ∙ sym (ap (λ (b : Bool). if b then backup_of l.base else record_of l.base) test);
  alone = λ no. h.pending;
}

copied_stored : (m : ℕ) (l : LineState) → IsReady m l → IsStored m (copied m l)
copied_stored m l h = elim (eqb_tells (tag_of l.base) m) [
  | inl e ↦ subst (λ (b : Bool). IsStored m (if b then all_three l else l)) (sym e.0) (three_stored m l h.torn e.1)
  | inr n ↦ subst (λ (b : Bool). IsStored m (if b then all_three l else l)) (sym n.0) (untagged_stored m l h.torn n.0)
]

copied_base : (m : ℕ) (l : LineState) → (copied m l).base ≡ l.base
copied_base m l = go (tag_of l.base == m)
  where
    go : (b : Bool) → (if b then all_three l else l).base ≡ l.base
    go true = refl
    go false = refl

-- a line behind the write-backs: all that is pending was asked for
abbrev asked_for : ℕ → LineState → LineState
asked_for m l = if tag_of l.base == m then written_back l else l

record IsAsked (m : ℕ) (l : LineState) : Type 0 where
  kept : IsRecoverable m l
  asked : l.asked ≡ length l.pending
  words : record_of (loaded_words l) ≡ triple_of m l.base

asked_line : (m : ℕ) (l : LineState) → IsStored m l → IsAsked m (asked_for m l)
asked_line m l h = elim (eqb_tells (tag_of l.base) m) [
  | inl e ↦ subst (λ (b : Bool). IsAsked m (if b then written_back l else l)) (sym e.0) (record { kept = h.kept; asked = refl; words = h.words })
  | inr n ↦ subst (λ (b : Bool). IsAsked m (if b then written_back l else l)) (sym n.0) (record { kept = h.kept; asked = h.asked ∙ sym (ap length (h.alone n.0)); words = h.words })
]

fenced_line : (m : ℕ) (l : LineState) → IsAsked m l → IsRestored m (fenced l) × (triple_of m (fenced l).base ≡ triple_of m l.base)
fenced_line m l h =
    let both = line_fenced m l h.kept h.asked in (record { quiet = both.quiet; triple = ap record_of both.words ∙ h.words ∙ sym both.triple }, both.triple)

-- All lines: the three passes, each over lines of which a front is done.

-- an event that changes one line alone, and not its triple
one_event : (m : ℕ) (front : List LineState) (l l' : LineState) (ls : List LineState) (event : RestoreEvent) (es : List RestoreEvent)
    → Each (IsRecoverable m) front → IsRecoverable m l → Each (IsRecoverable m) ls → CanDo event (front ++ l ∷ ls) → lines_after event (front ++ l ∷ ls) ≡ front ++ l' ∷ ls → triple_of m l'.base ≡ triple_of m l.base
    → IsRestoring m (front ++ l' ∷ ls) es → IsRestoring m (front ++ l ∷ ls) (event ∷ es)
one_event m front l l' ls event es before here behind can made same rest = (
  each_append (IsRecoverable m) front (l ∷ ls) before (here, behind),
  can,
  ap (triples m) made ∙ map-append (λ (k : LineState). triple_of m k.base) front (l' ∷ ls) ∙ ap (λ (t : List ℕ). triples m front ++ t ∷ triples m ls) same ∙ sym (map-append (λ (k : LineState). triple_of m k.base) front (l ∷ ls)),
  subst (λ (lines : List LineState). IsRestoring m lines es) (sym made) rest,
)

at_seam : (front : List LineState) (l : LineState) (ls : List LineState) → line_at (front ++ l ∷ ls) (length front) ≡ l
at_seam front l ls = get_or-append_seam front l ls no_line

within_seam : (front : List LineState) (l : LineState) (ls : List LineState) → length front < length (front ++ l ∷ ls)
within_seam front l ls = omega (arith, length-append front (l ∷ ls))

word_made : (front : List LineState) (l : LineState) (ls : List LineState) (w : ℕ) → lines_after (Restores (length front) w) (front ++ l ∷ ls) ≡ front ++ restored_word l w ∷ ls
word_made front l ls w = ap (λ (k : LineState). set (front ++ l ∷ ls) (length front) (restored_word k w)) (at_seam front l ls) ∙ set-append_seam front l ls (restored_word l w)

ask_made : (front : List LineState) (l : LineState) (ls : List LineState) → lines_after (Asks (length front)) (front ++ l ∷ ls) ≡ front ++ written_back l ∷ ls
ask_made front l ls = ap (λ (k : LineState). set (front ++ l ∷ ls) (length front) (written_back k)) (at_seam front l ls) ∙ set-append_seam front l ls (written_back l)

can_word : (front : List LineState) (l : LineState) (ls : List LineState) (w : ℕ) → w < 3 → 0 < l.spare → CanDo (Restores (length front) w) (front ++ l ∷ ls)
can_word front l ls w lt room = (within_seam front l ls, lt, subst (λ (k : LineState). 0 < k.spare) (sym (at_seam front l ls)) room)

-- one line further
further : (F : List LineState → ℕ → Type 0) (front : List LineState) (a : LineState) (ls : List LineState) → F ((front ++ a ∷ []) ++ ls) (length (front ++ a ∷ [])) → F (front ++ a ∷ ls) (length front + 1)
further F front a ls h = subst (λ (n : ℕ). F (front ++ a ∷ ls) n) (length-append front (a ∷ [])) (subst (λ (lines : List LineState). F lines (length (front ++ a ∷ []))) (append_assoc front (a ∷ []) ls) h)

ready_kept : (m : ℕ) (ls : List LineState) → Each (IsReady m) ls → Each (IsRecoverable m) ls
ready_kept m ls h = each_weaker (IsReady m) (IsRecoverable m) (λ l r. torn_kept m l r.torn) ls h

-- the stores
store_pass : (m : ℕ) (front rest : List LineState) (es : List RestoreEvent) → Each (IsRecoverable m) front → Each (IsReady m) rest → IsRestoring m (front ++ map (copied m) rest) es
    → IsRestoring m (front ++ rest) (restores (tagged_from m (length front) rest) ++ es)
store_pass m front [] es before ready h = h
store_pass m front (l ∷ ls) es before ready h =
    let done = copied m l in
    let stored_line = copied_stored m l ready.0 in
    let next : IsRestoring m (front ++ done ∷ ls) (restores (tagged_from m (length front + 1) ls) ++ es) =
    further (λ lines n. IsRestoring m lines (restores (tagged_from m n ls) ++ es)) front done ls
    (store_pass m (front ++ done ∷ []) ls es (each_append (IsRecoverable m) front (done ∷ []) before (stored_line.kept, tt)) ready.1
    (subst (λ (lines : List LineState). IsRestoring m lines es) (sym (append_assoc front (done ∷ []) (map (copied m) ls))) h)) in
    elim (eqb_tells (tag_of l.base) m) [
      | inl e ↦
          let events : tagged_from m (length front) (l ∷ ls) ≡ length front ∷ tagged_from m (length front + 1) ls = ap (λ (b : Bool). if b then length front ∷ tagged_from m (length front + 1) ls else tagged_from m (length front + 1) ls) e.0 in
          let is : done ≡ all_three l = ap (λ (b : Bool). if b then all_three l else l) e.0 in
          subst (λ (ns : List ℕ). IsRestoring m (front ++ l ∷ ls) (restores ns ++ es)) (sym events)
          (three m front l ls (restores (tagged_from m (length front + 1) ls) ++ es) before (ready_kept m ls ready.1) ready.0 e.1 (subst (λ (k : LineState). IsRestoring m (front ++ k ∷ ls) (restores (tagged_from m (length front + 1) ls) ++ es)) is next))
      | inr n ↦
          let events : tagged_from m (length front) (l ∷ ls) ≡ tagged_from m (length front + 1) ls = ap (λ (b : Bool). if b then length front ∷ tagged_from m (length front + 1) ls else tagged_from m (length front + 1) ls) n.0 in
          let is : done ≡ l = ap (λ (b : Bool). if b then all_three l else l) n.0 in
          subst (λ (ns : List ℕ). IsRestoring m (front ++ l ∷ ls) (restores ns ++ es)) (sym events)
          (subst (λ (k : LineState). IsRestoring m (front ++ k ∷ ls) (restores (tagged_from m (length front + 1) ls) ++ es)) is next)
    ]
  where
    three : (m : ℕ) (front : List LineState) (l : LineState) (ls : List LineState) (es : List RestoreEvent) → Each (IsRecoverable m) front → Each (IsRecoverable m) ls → IsReady m l → tag_of l.base ≡ m
        → IsRestoring m (front ++ all_three l ∷ ls) es → IsRestoring m (front ++ l ∷ ls) (Restores (length front) 0 ∷ Restores (length front) 1 ∷ Restores (length front) 2 ∷ es)
    three m front l ls es before behind ready tag h =
        let room = ready.room tag in
        let zeroth = torn_tagged m l ready.torn tag in
        let first = tagged_word m l 0 (lit< tt) zeroth in
        let second = tagged_word m (restored_word l 0) 1 (lit< tt) first in
        let one = restored_word l 0 in
        let two = restored_word one 1 in
        one_event m front l one ls (Restores (length front) 0) (Restores (length front) 1 ∷ Restores (length front) 2 ∷ es) before zeroth.kept behind (can_word front l ls 0 (lit< tt) (omega (arith, room))) (word_made front l ls 0) refl
        (one_event m front one two ls (Restores (length front) 1) (Restores (length front) 2 ∷ es) before first.kept behind (can_word front one ls 1 (lit< tt) (omega (arith, room))) (word_made front one ls 1) refl
        (one_event m front two (all_three l) ls (Restores (length front) 2) es before second.kept behind (can_word front two ls 2 (lit< tt) (omega (arith, room))) (word_made front two ls 2) refl h))

-- the write-backs
ask_pass : (m : ℕ) (front rest : List LineState) (es : List RestoreEvent) → Each (IsRecoverable m) front → Each (IsStored m) rest → IsRestoring m (front ++ map (asked_for m) rest) es
    → IsRestoring m (front ++ rest) (asks (tagged_from m (length front) rest) ++ es)
ask_pass m front [] es before each h = h
ask_pass m front (l ∷ ls) es before each h =
    let done = asked_for m l in
    let next : IsRestoring m (front ++ done ∷ ls) (asks (tagged_from m (length front + 1) ls) ++ es) =
    further (λ lines n. IsRestoring m lines (asks (tagged_from m n ls) ++ es)) front done ls
    (ask_pass m (front ++ done ∷ []) ls es (each_append (IsRecoverable m) front (done ∷ []) before ((asked_line m l each.0).kept, tt)) each.1
    (subst (λ (lines : List LineState). IsRestoring m lines es) (sym (append_assoc front (done ∷ []) (map (asked_for m) ls))) h)) in
    let behind = each_weaker (IsStored m) (IsRecoverable m) (λ k r. r.kept) ls each.1 in
    elim (eqb_tells (tag_of l.base) m) [
      | inl e ↦
          let events : tagged_from m (length front) (l ∷ ls) ≡ length front ∷ tagged_from m (length front + 1) ls = ap (λ (b : Bool). if b then length front ∷ tagged_from m (length front + 1) ls else tagged_from m (length front + 1) ls) e.0 in
          let is : done ≡ written_back l = ap (λ (b : Bool). if b then written_back l else l) e.0 in
          subst (λ (ns : List ℕ). IsRestoring m (front ++ l ∷ ls) (asks ns ++ es)) (sym events)
          (one_event m front l (written_back l) ls (Asks (length front)) (asks (tagged_from m (length front + 1) ls) ++ es) before each.0.kept behind (within_seam front l ls) (ask_made front l ls) refl
          (subst (λ (k : LineState). IsRestoring m (front ++ k ∷ ls) (asks (tagged_from m (length front + 1) ls) ++ es)) is next))
      | inr n ↦
          let events : tagged_from m (length front) (l ∷ ls) ≡ tagged_from m (length front + 1) ls = ap (λ (b : Bool). if b then length front ∷ tagged_from m (length front + 1) ls else tagged_from m (length front + 1) ls) n.0 in
          let is : done ≡ l = ap (λ (b : Bool). if b then written_back l else l) n.0 in
          subst (λ (ns : List ℕ). IsRestoring m (front ++ l ∷ ls) (asks ns ++ es)) (sym events)
          (subst (λ (k : LineState). IsRestoring m (front ++ k ∷ ls) (asks (tagged_from m (length front + 1) ls) ++ es)) is next)
    ]

-- the fence
fence_pass : (m : ℕ) (lines : List LineState) → Each (IsAsked m) lines → IsRestoring m lines (Fences ∷ [])
fence_pass m lines h = (each_weaker (IsAsked m) (IsRecoverable m) (λ l r. r.kept) lines h, tt, same m lines h, each_mapped (IsAsked m) (IsRestored m) fenced (λ l r. (fenced_line m l r).0) lines h)
  where
    same : (m : ℕ) (lines : List LineState) → Each (IsAsked m) lines → triples m (map fenced lines) ≡ triples m lines
    same m [] h = refl
    same m (l ∷ ls) h = ap (λ (t : List ℕ). t ∷ triples m (map fenced ls)) (fenced_line m l h.0).1 ∙ ap (λ (ts : List (List ℕ)). triple_of m l.base ∷ ts) (same m ls h.1)

-- the stores change no tag in memory
tags_copied : (m n : ℕ) (ls : List LineState) → tagged_from m n (map (copied m) ls) ≡ tagged_from m n ls
tags_copied m n [] = refl
tags_copied m n (l ∷ ls) =
    ap (λ (ws : List ℕ). if tag_of ws == m then n ∷ tagged_from m (n + 1) (map (copied m) ls) else tagged_from m (n + 1) (map (copied m) ls)) (copied_base m l)
    ∙ ap (λ (ns : List ℕ). if tag_of l.base == m then n ∷ ns else ns) (tags_copied m (n + 1) ls)

-- a torn line that is not tagged is restored
untagged_restored : (m : ℕ) (l : LineState) → IsQuietCell m l → (tag_of l.base == m) ≡ false → IsRestored m l
untagged_restored m l h test = record { quiet = h; triple = sym (ap (λ (b : Bool). if b then backup_of l.base else record_of l.base) test) }

none_tagged : (m n : ℕ) (ls : List LineState) → Each (IsReady m) ls → tagged_from m n ls ≡ [] → Each (IsRestored m) ls
none_tagged m n [] h none = tt
none_tagged m n (l ∷ ls) h none = elim (eqb_tells (tag_of l.base) m) [
  | inl e ↦
      let events : tagged_from m n (l ∷ ls) ≡ n ∷ tagged_from m (n + 1) ls = ap (λ (b : Bool). if b then n ∷ tagged_from m (n + 1) ls else tagged_from m (n + 1) ls) e.0 in
      absurd (omega (arith, ap length (sym events ∙ none)))
  | inr o ↦
      let events : tagged_from m n (l ∷ ls) ≡ tagged_from m (n + 1) ls = ap (λ (b : Bool). if b then n ∷ tagged_from m (n + 1) ls else tagged_from m (n + 1) ls) o.0 in
      (untagged_restored m l h.0.torn o.0, none_tagged m (n + 1) ls h.1 (sym events ∙ none))
]

-- all three passes
all_passes : (m : ℕ) (lines : List LineState) → Each (IsReady m) lines → IsRestoring m lines (events_at m lines)
all_passes m lines ready = go (tagged_from m 0 lines) refl
  where
    both : IsRestoring m lines (restores (tagged_from m 0 lines) ++ (asks (tagged_from m 0 lines) ++ Fences ∷ []))
    both =
        let stored = each_mapped (IsReady m) (IsStored m) (copied m) (copied_stored m) lines ready in
        let asked = each_mapped (IsStored m) (IsAsked m) (asked_for m) (asked_line m) (map (copied m) lines) stored in
        store_pass m [] lines (asks (tagged_from m 0 lines) ++ Fences ∷ []) tt ready
        (subst (λ (ns : List ℕ). IsRestoring m (map (copied m) lines) (asks ns ++ Fences ∷ [])) (tags_copied m 0 lines)
        (ask_pass m [] (map (copied m) lines) (Fences ∷ []) tt stored (fence_pass m (map (asked_for m) (map (copied m) lines)) asked)))

    go : (ns : List ℕ) → tagged_from m 0 lines ≡ ns → IsRestoring m lines (restore_events (tagged_from m 0 lines))
    go [] is = subst (λ (ks : List ℕ). IsRestoring m lines (restore_events ks)) (sym is) (none_tagged m 0 lines ready is)
    go (n ∷ ns) is = subst (λ (ks : List ℕ). IsRestoring m lines (restore_events ks)) (sym is) (subst (λ (ks : List ℕ). IsRestoring m lines (restores ks ++ (asks ks ++ Fences ∷ []))) is both)

-- a torn bank that has room may be restored by the events of its epoch
torn_law : (m : ℕ) (lines : List LineState) → ((i : ℕ) → i < length lines → IsQuietCell m (line_at lines i)) → HaveRoomToRestore m lines → IsRestoring m lines (events_at m lines)
torn_law m lines torn room = all_passes m lines (each_from (IsReady m) lines no_line (λ i lt. record { torn = torn i lt; room = room i lt }))

-- a settled line is a quiet cell
pub settled_quiet : (m : ℕ) (lines : List LineState) → AreLines lines → AreSettled m lines → (i : ℕ) → i < length lines → IsQuietCell m (line_at lines i)
settled_quiet m lines whole_lines settled i lt =
    let none = (settled i lt).pending in
    record {
      eight = (whole_lines i lt).eight;
      tag = (settled i lt).tag;
      pending = none;
      asked = let le = (whole_lines i lt).asked in let zero_is = ap length none in omega (arith, le, zero_is);
    }

-- more room changes nothing of settled lines
settled_same : (m : ℕ) (old new : BankState) → HasSameCells old new → AreSettled m old.lines → AreSettled m new.lines
settled_same m old new same settled i lt =
    let was = settled i (omega (arith, same.count)) in
    let line = same.lines i in
    record { pending = line.pending ∙ was.pending; tag = subst (λ (ws : List ℕ). tag_of ws ≤ m) (sym line.base) was.tag }

same_tags : (m n : ℕ) (old new : List LineState) → length new ≡ length old → ((i : ℕ) → HasSameWords (line_at old i) (line_at new i)) → tagged_from m n new ≡ tagged_from m n old
same_tags m n [] [] count same = refl
same_tags m n [] (k ∷ ks) count same = absurd (omega (arith, count))
same_tags m n (l ∷ ls) [] count same = absurd (omega (arith, count))
same_tags m n (l ∷ ls) (k ∷ ks) count same =
    ap (λ (ws : List ℕ). if tag_of ws == m then n ∷ tagged_from m (n + 1) ks else tagged_from m (n + 1) ks) (same 0).base
    ∙ ap (λ (ns : List ℕ). if tag_of l.base == m then n ∷ ns else ns) (same_tags m (n + 1) ls ks (omega (arith, count)) (λ i. same (suc i)))

-- what a torn bank is when its restore begins
pub record Begins (m : ℕ) (given bank : BankState) (events : List RestoreEvent) : Type 0 where
  pub cells : IsCellBank (record { bank = bank; state = Torn m; todo = events; stored = [] })
  pub order : events ≡ events_at m given.lines
  pub held : memory_words m bank ≡ memory_words m given

pub torn_begins : (m : ℕ) (old new : BankState) (todo : List RestoreEvent) → AreSettled m old.lines → HasSameCells old new → AreLines new.lines → HaveRoomToRestore m new.lines → todo ≡ events_at m new.lines → Begins m old new todo
torn_begins m old new todo torn same whole_lines room is =
    let now = settled_quiet m new.lines whole_lines (settled_same m old new same torn) in
    record {
      cells = record {
        lines = whole_lines;
        cells = λ i lt. torn_kept m (line_at new.lines i) (now i lt);
        todo = subst (λ (events : List RestoreEvent). IsRestoring m new.lines events) (sym is) (torn_law m new.lines now room);
        stored = refl;
      };
      order = is ∙ ap restore_events (same_tags m 0 old.lines new.lines same.count same.lines);
      held = same_held m old new (λ i. (same.lines i).base);
    }
