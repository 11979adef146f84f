-- A legal life stays legal where an entry is drawn, and where all entries are marked.
use Rattle.std.proofs.Common.{◌≡◌, ◌≢◌, ℕ, ◌+◌, ◌<◌, ◌≤◌, ◌==◌, ◌⊎◌, zero, suc, cond, Bool, List, [], ◌∷◌, ◌++◌, length, take, drop, Some, refl, sym, ap, ◌∙◌, subst, inl, inr, arith, eq-eqb}
use Rattle.std.proofs.lemmas.Bool.{ne_eqb}
use Rattle.std.proofs.lemmas.Bool.Decides.{eqb_tells}
use Rattle.std.proofs.lemmas.List.{take-append-le, take-append-drop}
use Rattle.std.proofs.lemmas.List.Elements.{filter-append}
use Rattle.std.proofs.Math.Seq.{take-length}
use Rattle.seq_object.specs.declared.history.Entry.{Entry}
use Rattle.seq_object.specs.History.{of_thread, AreCommands}
use Rattle.seq_object.proofs.Rooms.{room_by_room}
use Rattle.seq_object.proofs.Histories.{legal_in_pieces, commands_in_pieces, count-append}
use Rattle.life_model.specs.declared.life.Life.{Life}
use Rattle.life_model.specs.declared.life.Life.TheVariants.{Start, Resume}
use Rattle.life_model.specs.Life.{Opening, sizes, script_of, opening_place, place_after, next_command, last_mark, covered, AreRising, IsPause, entries_between, IsStretch, AreStretches, BeginsRightly, MayJoin}
use Rattle.life_laws.specs.LifeLaws.{OpeningLaw, OrderDrawLaw, OrderMarkLaw, DrawLaw, MarkLaw, RoomByRoomLifeLaw, BetweenLaw}

-- all parts hold of no entry and no mark
pub opening : OpeningLaw
opening o threads points begun = record {
  replies = tt;
  order = record {
    threads = threads;
    points = points;
    commands = λ thread. tt;
    rising = omega arith;
    begun = begun;
    stretches = tt;
    rest = λ thread. omega arith;
  };
}

-- marks

-- the last mark is at most where they end
pub last_within : (low : ℕ) (marks : List ℕ) (high : ℕ) → AreRising low marks high → last_mark low marks ≤ high
last_within low [] high r = r
last_within low (m ∷ ms) high r = last_within m ms high r.1

-- marks that end below a number end below a higher one
rising-more : (low : ℕ) (marks : List ℕ) (high higher : ℕ) → high ≤ higher → AreRising low marks high → AreRising low marks higher
rising-more low [] high higher le r = omega arith
rising-more low (m ∷ ms) high higher le r = (r.0, rising-more m ms high higher le r.1)

-- a mark at the end keeps them rising
rising-push : (low : ℕ) (marks : List ℕ) (high : ℕ) → AreRising low marks high → AreRising low (marks ++ high ∷ []) high
rising-push low [] high r = (r, omega arith)
rising-push low (m ∷ ms) high r = (r.0, rising-push m ms high r.1)

-- the last mark is the one that is pushed
pub last-push : (low : ℕ) (marks : List ℕ) (m : ℕ) → last_mark low (marks ++ m ∷ []) ≡ m
last-push low [] m = refl
last-push low (k ∷ ks) m = last-push k ks m

-- a stretch at the end joins the stretches
stretches-push : (o : Opening) (h : List Entry) (low : ℕ) (marks : List ℕ) (m : ℕ) → AreStretches o h low marks
    → ((thread : ℕ) → IsStretch o h (last_mark low marks) m thread) → AreStretches o h low (marks ++ m ∷ [])
stretches-push o h low [] m a s = (s, tt)
stretches-push o h low (k ∷ ks) m a s = (a.0, stretches-push o h k ks m a.1 s)

-- a mark at the end keeps the beginning; in a resume the first one is 0 since nothing was drawn
begun-push : (life : Life) (o : Opening) (h : List Entry) (marks : List ℕ) → BeginsRightly (record o { life = life }) h marks
    → BeginsRightly (record o { life = life }) h (marks ++ length h ∷ [])
begun-push Start o h marks b = b
begun-push Resume o h [] b = ap length b
begun-push Resume o h (m ∷ ms) b = b

-- between a length and itself is no entry
none_between : (n : ℕ) (h : List Entry) → drop n (take n h) ≡ []
none_between zero h = refl
none_between (suc n) [] = refl
none_between (suc n) (e ∷ h) = none_between n h

-- part by part
pub order_mark : OrderMarkLaw
order_mark o h marks legal may = record {
  threads = legal.threads;
  points = legal.points;
  commands = legal.commands;
  rising = rising-push 0 marks (length h) legal.rising;
  begun = begun-push o.life o h marks legal.begun;
  stretches = stretches-push o h 0 marks (length h) legal.stretches may;
  rest = λ thread.
      let none : entries_between h (covered (marks ++ length h ∷ [])) (length h) thread ≡ 0 =
      ap (λ (low : ℕ). entries_between h low (length h) thread) (last-push 0 marks (length h))
      ∙ ap (λ (es : List Entry). length (of_thread thread es)) (none_between (length h) h) in
      omega (arith, none);
}

-- the replies stay as they are
pub mark : MarkLaw
mark o h marks legal may = record { replies = legal.replies; order = order_mark o h marks legal.order may }

-- entries

-- the entry alone, if it is the thread's
abbrev if_own : ℕ → Entry → List Entry
if_own thread e = of_thread thread (e ∷ [])

-- its entry is its own
own : (thread : ℕ) (e : Entry) → e.thread ≡ thread → if_own thread e ≡ e ∷ []
own thread e same = ap (λ (b : Bool). cond b (e ∷ []) []) (eq-eqb e.thread thread same)

-- another's entry is not
other : (thread : ℕ) (e : Entry) → e.thread ≢ thread → if_own thread e ≡ []
other thread e ne = ap (λ (b : Bool). cond b (e ∷ []) []) (ne_eqb e.thread thread ne)

-- each thread's entries stay its commands in order
commands-push : (o : Opening) (h : List Entry) (marks : List ℕ) (e : Entry) → MayJoin o h marks e → (thread : ℕ)
    → AreCommands (script_of o.scripts thread) (opening_place o thread) (of_thread thread h)
    → AreCommands (script_of o.scripts thread) (opening_place o thread) (of_thread thread (h ++ e ∷ []))
commands-push o h marks e may thread a =
    let last : AreCommands (script_of o.scripts thread) (place_after o h thread) (if_own thread e) = elim (eqb_tells e.thread thread) [
      | inl s ↦ subst (AreCommands (script_of o.scripts thread) (place_after o h thread)) (sym (own thread e s.1))
          (subst (λ (t : ℕ). e.index ≡ place_after o h t) s.1 may.index, subst (λ (t : ℕ). next_command o h t ≡ Some e.command) s.1 may.next, tt)
      | inr s ↦ subst (AreCommands (script_of o.scripts thread) (place_after o h thread)) (sym (other thread e s.1)) tt
    ] in
    subst (AreCommands (script_of o.scripts thread) (opening_place o thread)) (sym (filter-append (λ d. d.thread == thread) h (e ∷ [])))
    ((commands_in_pieces (script_of o.scripts thread) (opening_place o thread) (of_thread thread h) (if_own thread e)).0 a last)

-- more entries keep the beginning, where recovery is marked
begun-grown : (life : Life) (o : Opening) (h k : List Entry) (marks : List ℕ) → (life ≡ Resume → marks ≢ []) → BeginsRightly (record o { life = life }) h marks
    → BeginsRightly (record o { life = life }) k marks
begun-grown Start o h k marks some b = b
begun-grown Resume o h k [] some b = absurd (some refl refl)
begun-grown Resume o h k (m ∷ ms) some b = b

-- entries behind the marks keep the stretches
stretches-grown : (o : Opening) (h es : List Entry) (low : ℕ) (marks : List ℕ) → AreRising low marks (length h) → AreStretches o h low marks
    → AreStretches o (h ++ es) low marks
stretches-grown o h es low [] r a = tt
stretches-grown o h es low (m ∷ ms) r a =
    let same : take m h ≡ take m (h ++ es) = sym (take-append-le m h es (within m ms (length h) r.1)) in (
      (λ thread. subst (λ (front : List Entry). (length (of_thread thread (drop low front)) ≡ 0) ⊎
          ((length (of_thread thread (drop low front)) ≡ o.settings.every)
          ⊎ ((length (of_thread thread (drop low front)) < o.settings.every) × IsPause (next_command o front thread)))) same (a.0 thread)),
      stretches-grown o h es m ms r.1 a.1,
    )
  where
    within : (low : ℕ) (marks : List ℕ) (high : ℕ) → AreRising low marks high → low ≤ high
    within low [] high r = r
    within low (m ∷ ms) high r = let rest = within m ms high r.1 in omega (arith, rest, r.0)

-- an entry behind the last mark is behind it
drop-push : (n : ℕ) (h : List Entry) (e : Entry) → n ≤ length h → drop n (h ++ e ∷ []) ≡ drop n h ++ e ∷ []
drop-push zero h e le = refl
drop-push (suc n) [] e le = absurd (omega arith)
drop-push (suc n) (x ∷ h) e le = drop-push n h e (omega arith)

-- no thread has more than its quota since the last mark
rest-push : (o : Opening) (h : List Entry) (marks : List ℕ) (e : Entry) → AreRising 0 marks (length h) → MayJoin o h marks e → (thread : ℕ)
    → entries_between h (covered marks) (length h) thread ≤ o.settings.every
    → entries_between (h ++ e ∷ []) (covered marks) (length (h ++ e ∷ [])) thread ≤ o.settings.every
rest-push o h marks e rising may thread few =
    let after : entries_between (h ++ e ∷ []) (covered marks) (length (h ++ e ∷ [])) thread ≡
    length (of_thread thread (drop (covered marks) h)) + length (if_own thread e) =
    ap (λ (es : List Entry). length (of_thread thread (drop (covered marks) es))) (take-length (h ++ e ∷ []))
    ∙ ap (λ (es : List Entry). length (of_thread thread es)) (drop-push (covered marks) h e (last_within 0 marks (length h) rising))
    ∙ count-append thread (drop (covered marks) h) (e ∷ []) in
    let before : (t : ℕ) → entries_between h (covered marks) (length h) t ≡ length (of_thread t (drop (covered marks) h)) =
    λ t. ap (λ (es : List Entry). length (of_thread t (drop (covered marks) es))) (take-length h) in
    elim (eqb_tells e.thread thread) [
      | inl s ↦
          let one : length (if_own thread e) ≡ 1 = ap length (own thread e s.1) in
          let room : entries_between h (covered marks) (length h) thread < o.settings.every =
          subst (λ (t : ℕ). entries_between h (covered marks) (length h) t < o.settings.every) s.1 may.quota in
          let was = before thread in
          omega (arith, after, was, one, room)
      | inr s ↦
          let none : length (if_own thread e) ≡ 0 = ap length (other thread e s.1) in
          let was = before thread in
          omega (arith, after, was, none, few)
    ]

-- part by part
pub order_draw : OrderDrawLaw
order_draw o h marks e legal may = record {
  threads = legal.threads;
  points = legal.points;
  commands = λ thread. commands-push o h marks e may thread (legal.commands thread);
  rising = rising-more 0 marks (length h) (length (h ++ e ∷ [])) (longer h (e ∷ [])) legal.rising;
  begun = begun-grown o.life o h (h ++ e ∷ []) marks may.recovered legal.begun;
  stretches = stretches-grown o h (e ∷ []) 0 marks legal.rising legal.stretches;
  rest = λ thread. rest-push o h marks e legal.rising may thread (legal.rest thread);
}
  where
    longer : (xs ys : List Entry) → length xs ≤ length (xs ++ ys)
    longer [] ys = omega arith
    longer (x ∷ xs) ys = let rest = longer xs ys in omega arith

-- the reply joins the replies
pub draw : DrawLaw
draw o h marks e legal reply may =
    record {
      replies = (legal_in_pieces (sizes o) o.state.contents h (e ∷ [])).0 legal.replies (reply, tt);
      order =
          order_draw o h marks e legal.order may;
    }

-- the replies are legal room by room
pub room_by_room_life : RoomByRoomLifeLaw
room_by_room_life o h marks some rooms order = record { replies = (room_by_room (sizes o) some o.state.contents h).0 rooms; order = order }

-- a prefix of a prefix
take-take : (low high : ℕ) (h : List Entry) → low ≤ high → take low (take high h) ≡ take low h
take-take zero high h le = refl
take-take (suc low) zero h le = absurd (omega arith)
take-take (suc low) (suc high) [] le = refl
take-take (suc low) (suc high) (e ∷ h) le = ap (λ (t : List Entry). e ∷ t) (take-take low high h (omega arith))

-- the shorter prefix and what is between
pub between : BetweenLaw
between h low high thread le =
    ap (λ (es : List Entry). length (of_thread thread es)) (sym (take-append-drop low (take high h)))
    ∙ count-append thread (take low (take high h)) (drop low (take high h))
    ∙ ap (λ (es : List Entry). length (of_thread thread es) + entries_between h low high thread) (take-take low high h le)
