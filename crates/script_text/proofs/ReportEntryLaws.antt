-- The entry that is read of a line is written so, and what is written so is read.
use Rattle.std.proofs.Common.{◌≡◌, ℕ, ◌<◌, ◌^◌, true, cond, List, [], ◌∷◌, ◌++◌, Result, Ok, Err, refl, sym, ap, ◌∙◌, arith, subst, inl, inr, codes, append_assoc}
use Rattle.std.specs.Str.{bytes_eq}
use Rattle.std.specs.Fmt.{decimal}
use Rattle.script_text.specs.declared.fault.ScriptFault.{ScriptFault}
use Rattle.seq_object.specs.declared.command.Command.{Command}
use Rattle.seq_object.specs.declared.command.Command.TheVariants.{Put, Get, Del, Enq, Deq, Take}
use Rattle.seq_object.specs.declared.command.Reply.{Reply}
use Rattle.seq_object.specs.declared.command.Reply.TheVariants.{New, Old, Full, Found, Gone, Absent, Done, Empty}
use Rattle.seq_object.specs.declared.history.Entry.{Entry}
use Rattle.script_text.specs.Pieces.{pieces, words}
use Rattle.script_text.specs.Faults.{no_command, ◌>>=◌, fault}
use Rattle.script_text.specs.Reading.{number_at, limited_at}
use Rattle.script_text.specs.CommandWords.{bare_command, value_command, pair_command}
use Rattle.script_text.specs.Text.{spaced, command_words, command_line, IsCommand}
use Rattle.script_text.specs.ReportText.{reply_text, entry_line}
use Rattle.script_text.specs.ReportLimits.{IsReply, IsPlacedEntry, IsEntryOfWords}
use Rattle.script_text.specs.ReportReading.{beside_blank, call_of_words, bare_reply, value_reply, reply_of_words, entry_of_words, entry_of_pieces, entry_at}
use Rattle.script_text.proofs.Free.{free, AreFree, AreFree-append, AreSolid, AreFree-solid, free-spaced, free-joined, free-decimal, free-append, joined-pieces, pieces-joined, solid-decimal, cut_at, cut_none}
use Rattle.script_text.proofs.NumberLaws.{bind_ok, bind_to, guard_ok, ok_is, done, number_ok, number_again, limited_ok, limited_again}
use Rattle.script_text.proofs.LineLaws.{same_bytes, chosen}
use Rattle.script_text.proofs.CommandLaws.{bare_ok, value_ok, pair_ok, command_solid, command_words_again}

-- what was read stood beside an empty word
blank_ok : {A : Type 0} (line : ℕ) (z : List ℕ) (read : Result A ScriptFault) (x : A) → beside_blank line z read ≡ Ok x → (z ≡ []) × (read ≡ Ok x)
blank_ok line [] read x e = (refl, e)
blank_ok line (b ∷ bs) read x e = absurd cc

-- a command in front of an empty word has its words
call_ok : (line : ℕ) (ws : List (List ℕ)) (c : Command) → call_of_words line ws ≡ Ok c → (ws ≡ command_words c ++ [] ∷ []) × IsCommand c
call_ok line [] c e = absurd cc
call_ok line (a ∷ []) c e = absurd cc
call_ok line (a ∷ z ∷ []) c e =
    let b = blank_ok line z (bare_command line a) c e in
    let got = bare_ok line a c b.1 in
    (ap (λ (w : List ℕ). a ∷ w ∷ []) b.0 ∙ ap (λ (ws : List (List ℕ)). ws ++ [] ∷ []) got.0, got.1)
call_ok line (a ∷ n ∷ z ∷ []) c e =
    let b = blank_ok line z (value_command line a n) c e in
    let got = value_ok line a n c b.1 in
    (ap (λ (w : List ℕ). a ∷ n ∷ w ∷ []) b.0 ∙ ap (λ (ws : List (List ℕ)). ws ++ [] ∷ []) got.0, got.1)
call_ok line (a ∷ k ∷ v ∷ z ∷ []) c e =
    let b = blank_ok line z (pair_command line a k v) c e in
    let got = pair_ok line a k v c b.1 in
    (ap (λ (w : List ℕ). a ∷ k ∷ v ∷ w ∷ []) b.0 ∙ ap (λ (ws : List (List ℕ)). ws ++ [] ∷ []) got.0, got.1)
call_ok line (a ∷ b ∷ d ∷ f ∷ g ∷ ws) c e = absurd cc

-- the words of a command in front of an empty word are read as that command
call_again : (line : ℕ) (c : Command) → IsCommand c → call_of_words line (command_words c ++ [] ∷ []) ≡ Ok c
call_again line (Put k v) h = command_words_again line (Put k v) h
call_again line (Get k) h = command_words_again line (Get k) h
call_again line (Del k) h = command_words_again line (Del k) h
call_again line (Enq v) h = command_words_again line (Enq v) h
call_again line Deq h = refl
call_again line Take h = refl

-- the words of a reply
abbrev reply_words : Reply → List (List ℕ)
reply_words New = codes "new" ∷ []
reply_words (Old value) = codes "old" ∷ decimal value ∷ []
reply_words Full = codes "full" ∷ []
reply_words (Found value) = codes "is" ∷ decimal value ∷ []
reply_words (Gone value) = codes "was" ∷ decimal value ∷ []
reply_words Absent = codes "none" ∷ []
reply_words Done = codes "done" ∷ []
reply_words Empty = codes "empty" ∷ []

-- these are the words of a reply
abbrev AreReply : List (List ℕ) → Reply → Type 0
AreReply ws r = (ws ≡ reply_words r) × IsReply r

-- a reply with no number, by its name
named_reply : (a name : List ℕ) (r s : Reply) → bytes_eq a name ≡ true → AreReply (name ∷ []) r → done r ≡ done s → AreReply (a ∷ []) s
named_reply a name r s same is e = subst (AreReply (a ∷ [])) (ok_is r s e) (ap (λ (w : List ℕ). w ∷ []) (same_bytes a name same) ∙ is.0, is.1)

-- a reply that was read of one word has this word
bare_reply_ok : (line : ℕ) (a : List ℕ) (r : Reply) → bare_reply line a ≡ Ok r → AreReply (a ∷ []) r
bare_reply_ok line a r e =
    let empty_or : Result Reply ScriptFault = cond (bytes_eq a (codes "empty")) (Ok Empty) (Err (fault line no_command)) in
    let done_or : Result Reply ScriptFault = cond (bytes_eq a (codes "done")) (Ok Done) empty_or in
    let none_or : Result Reply ScriptFault = cond (bytes_eq a (codes "none")) (Ok Absent) done_or in
    let full_or : Result Reply ScriptFault = cond (bytes_eq a (codes "full")) (Ok Full) none_or in
    elim (chosen (bytes_eq a (codes "new")) (Ok New) full_or (Ok r) e) [
      | inl p ↦ named_reply a (codes "new") New r p.0 (refl, tt) p.1
      | inr p ↦ elim (chosen (bytes_eq a (codes "full")) (Ok Full) none_or (Ok r) p.1) [
        | inl q ↦ named_reply a (codes "full") Full r q.0 (refl, tt) q.1
        | inr q ↦ elim (chosen (bytes_eq a (codes "none")) (Ok Absent) done_or (Ok r) q.1) [
          | inl s ↦ named_reply a (codes "none") Absent r s.0 (refl, tt) s.1
          | inr s ↦ elim (chosen (bytes_eq a (codes "done")) (Ok Done) empty_or (Ok r) s.1) [
            | inl t ↦ named_reply a (codes "done") Done r t.0 (refl, tt) t.1
            | inr t ↦ let g = guard_ok (bytes_eq a (codes "empty")) (Ok Empty) (fault line no_command) r t.1 in named_reply a (codes "empty") Empty r g.0 (refl, tt) g.1
          ]
        ]
      ]
    ]

-- a reply of one number
one_number : (line : ℕ) (a b name : List ℕ) (make : ℕ → Reply) → ((n : ℕ) → n < 2 ^ 64 → AreReply (name ∷ decimal n ∷ []) (make n)) → (r : Reply) → a ≡ name → (number_at line b >>= λ n. Ok (make n)) ≡ Ok r → AreReply (a ∷ b ∷ []) r
one_number line a b name make is r same e =
    let n = bind_ok (number_at line b) (λ n. Ok (make n)) r e in
    let got = number_ok line b n.0 n.1 in
    let whole = is n.0 got.1 in
    subst (AreReply (a ∷ b ∷ [])) (ok_is (make n.0) r n.2) (ap (λ (v : List ℕ). v ∷ b ∷ []) same ∙ ap (λ (v : List ℕ). name ∷ v ∷ []) got.0 ∙ whole.0, whole.1)

-- a reply that was read of two words has these words
value_reply_ok : (line : ℕ) (a b : List ℕ) (r : Reply) → value_reply line a b ≡ Ok r → AreReply (a ∷ b ∷ []) r
value_reply_ok line a b r e =
    let was_or : Result Reply ScriptFault = cond (bytes_eq a (codes "was")) (number_at line b >>= λ n. Ok (Gone n)) (Err (fault line no_command)) in
    let is_or : Result Reply ScriptFault = cond (bytes_eq a (codes "is")) (number_at line b >>= λ n. Ok (Found n)) was_or in
    elim (chosen (bytes_eq a (codes "old")) (number_at line b >>= λ n. Ok (Old n)) is_or (Ok r) e) [
      | inl p ↦ one_number line a b (codes "old") Old (λ n small. (refl, small)) r (same_bytes a (codes "old") p.0) p.1
      | inr p ↦ elim (chosen (bytes_eq a (codes "is")) (number_at line b >>= λ n. Ok (Found n)) was_or (Ok r) p.1) [
        | inl q ↦ one_number line a b (codes "is") Found (λ n small. (refl, small)) r (same_bytes a (codes "is") q.0) q.1
        | inr q ↦
            let g = guard_ok (bytes_eq a (codes "was")) (number_at line b >>= λ n. Ok (Gone n)) (fault line no_command) r q.1 in
            one_number line a b (codes "was") Gone (λ n small. (refl, small)) r (same_bytes a (codes "was") g.0) g.1
      ]
    ]

-- a reply behind an empty word has its words
reply_ok : (line : ℕ) (ws : List (List ℕ)) (r : Reply) → reply_of_words line ws ≡ Ok r → (ws ≡ [] ∷ reply_words r) × IsReply r
reply_ok line [] r e = absurd cc
reply_ok line (z ∷ []) r e = absurd cc
reply_ok line (z ∷ a ∷ []) r e =
    let b = blank_ok line z (bare_reply line a) r e in
    let got = bare_reply_ok line a r b.1 in
    (ap (λ (w : List ℕ). w ∷ a ∷ []) b.0 ∙ ap (λ (ws : List (List ℕ)). [] ∷ ws) got.0, got.1)
reply_ok line (z ∷ a ∷ n ∷ []) r e =
    let b = blank_ok line z (value_reply line a n) r e in
    let got = value_reply_ok line a n r b.1 in
    (ap (λ (w : List ℕ). w ∷ a ∷ n ∷ []) b.0 ∙ ap (λ (ws : List (List ℕ)). [] ∷ ws) got.0, got.1)
reply_ok line (z ∷ a ∷ n ∷ d ∷ ws) r e = absurd cc

-- the words of a reply behind an empty word are read as that reply
reply_again : (line : ℕ) (r : Reply) → IsReply r → reply_of_words line ([] ∷ reply_words r) ≡ Ok r
reply_again line New h = refl
reply_again line (Old n) h = bind_to (number_at line (decimal n)) _ n (Ok (Old n)) (number_again line n h) refl
reply_again line Full h = refl
reply_again line (Found n) h = bind_to (number_at line (decimal n)) _ n (Ok (Found n)) (number_again line n h) refl
reply_again line (Gone n) h = bind_to (number_at line (decimal n)) _ n (Ok (Gone n)) (number_again line n h) refl
reply_again line Absent h = refl
reply_again line Done h = refl
reply_again line Empty h = refl

-- ---- the line

-- the words of an entry up to the equals sign
abbrev front_words : Entry → List (List ℕ)
front_words e = codes "entry" ∷ decimal e.thread ∷ decimal e.index ∷ (command_words e.command ++ [] ∷ [])

-- the words up to the equals sign, as they are written
front_text : (e : Entry) (c : Command) → e.command ≡ c → spaced (codes "entry" ∷ decimal e.thread ∷ decimal e.index ∷ (command_words c ++ [] ∷ [])) ≡ codes "entry " ++ (decimal e.thread ++ (32 ∷ (decimal e.index ++ (32 ∷ (command_line c ++ 32 ∷ [])))))
front_text e (Put k v) is = simp append_assoc
front_text e (Get k) is = simp append_assoc
front_text e (Del k) is = simp append_assoc
front_text e (Enq v) is = simp append_assoc
front_text e Deq is = refl
front_text e Take is = refl

-- the words behind the equals sign, as they are written
back_text : (r : Reply) → spaced ([] ∷ reply_words r) ≡ 32 ∷ reply_text r
back_text New = refl
back_text (Old n) = refl
back_text Full = refl
back_text (Found n) = refl
back_text (Gone n) = refl
back_text Absent = refl
back_text Done = refl
back_text Empty = refl

-- both sides of the equals sign in another grouping
regroup : (t i c r : List ℕ) → (codes "entry " ++ (t ++ (32 ∷ (i ++ (32 ∷ (c ++ 32 ∷ [])))))) ++ 61 ∷ 32 ∷ r ≡ codes "entry " ++ (t ++ (32 ∷ (i ++ (32 ∷ (c ++ (codes " = " ++ r))))))
regroup t i c r = simp append_assoc

-- both sides of the equals sign are the line of the entry
line_of_words : (e : Entry) → spaced (front_words e) ++ 61 ∷ spaced ([] ∷ reply_words e.reply) ≡ entry_line e
line_of_words e =
    ap (λ (t : List ℕ). t ++ 61 ∷ spaced ([] ∷ reply_words e.reply)) (front_text e e.command refl)
    ∙ ap (λ (t : List ℕ). (codes "entry " ++ (decimal e.thread ++ (32 ∷ (decimal e.index ++ (32 ∷ (command_line e.command ++ 32 ∷ [])))))) ++ 61 ∷ t) (back_text e.reply)
    ∙ regroup (decimal e.thread) (decimal e.index) (command_line e.command) (reply_text e.reply)

-- an entry that was read of the words up to the equals sign has these words
front_ok : (line : ℕ) (r : Reply) (ws : List (List ℕ)) (e : Entry) → entry_of_words line r ws ≡ Ok e → (ws ≡ front_words e) × (e.reply ≡ r) × IsPlacedEntry e × IsCommand e.command
front_ok line r [] e is = absurd cc
front_ok line r (w ∷ []) e is = absurd cc
front_ok line r (w ∷ t ∷ []) e is = absurd cc
front_ok line r (w ∷ t ∷ i ∷ ws) e is =
    let g = guard_ok (bytes_eq w (codes "entry")) _ (fault line no_command) e is in
    let a = bind_ok (limited_at line 0 15 t) _ e g.1 in
    let b = bind_ok (limited_at line 0 4095 i) _ e a.2 in
    let c = bind_ok (call_of_words line ws) _ e b.2 in
    let thread = limited_ok line 0 15 t a.0 a.1 in
    let index = limited_ok line 0 4095 i b.0 b.1 in
    let call = call_ok line ws c.0 c.1 in
    let found : Entry = record { thread = a.0; index = b.0; command = c.0; reply = r } in
    subst (λ (e : Entry). ((w ∷ t ∷ i ∷ ws) ≡ front_words e) × (e.reply ≡ r) × IsPlacedEntry e × IsCommand e.command) (ok_is found e c.2) (
      ap (λ (v : List ℕ). v ∷ t ∷ i ∷ ws) (same_bytes w (codes "entry") g.0)
          ∙ ap (λ (v : List ℕ). codes "entry" ∷ v ∷ i ∷ ws) thread.0
          ∙ ap (λ (v : List ℕ). codes "entry" ∷ decimal a.0 ∷ v ∷ ws) index.0
          ∙ ap (λ (vs : List (List ℕ)). codes "entry" ∷ decimal a.0 ∷ decimal b.0 ∷ vs) call.0,
      refl,
      (omega (arith, thread.3), omega (arith, index.3)),
      call.1,
    )

-- an entry that was read of pieces round the equals sign
pieces_ok : (line : ℕ) (ps : List (List ℕ)) (text : List ℕ) (e : Entry) → pieces 61 text ≡ ps → entry_of_pieces line ps ≡ Ok e → (text ≡ entry_line e) × IsPlacedEntry e × IsEntryOfWords e
pieces_ok line [] text e cut is = absurd cc
pieces_ok line (a ∷ []) text e cut is = absurd cc
pieces_ok line (a ∷ b ∷ []) text e cut is =
    let r = bind_ok (reply_of_words line (words b)) _ e is in
    let reply = reply_ok line (words b) r.0 r.1 in
    let front = front_ok line r.0 (words a) e r.2 in (
      joined-pieces 61 text (a ∷ b ∷ []) cut
          ∙ ap (λ (t : List ℕ). t ++ 61 ∷ b) (joined-pieces 32 a (front_words e) front.0)
          ∙ ap (λ (t : List ℕ). spaced (front_words e) ++ 61 ∷ t) (joined-pieces 32 b ([] ∷ reply_words e.reply) (reply.0 ∙ ap (λ (r : Reply). [] ∷ reply_words r) (sym front.1)))
          ∙ line_of_words e,
      front.2,
      (front.3, subst IsReply (sym front.1) reply.1),
    )
pieces_ok line (a ∷ b ∷ c ∷ ps) text e cut is = absurd cc

-- an entry that was read is written as its line
pub entry_ok : (line : ℕ) (text : List ℕ) (e : Entry) → entry_at line text ≡ Ok e → (text ≡ entry_line e) × IsPlacedEntry e × IsEntryOfWords e
entry_ok line text e is = pieces_ok line (pieces 61 text) text e refl is

-- ---- and back

-- a number has no equals sign
no_sign : (n : ℕ) → n < 2 ^ 64 → free 61 (decimal n) ≡ true
no_sign n small = free-decimal 61 n (λ h. omega arith) small

-- no word of a command has an equals sign
command_signless : (c : Command) → IsCommand c → AreFree 61 (command_words c)
command_signless (Put k v) h = (refl, (no_sign k h.0, (no_sign v h.1, tt)))
command_signless (Get k) h = (refl, (no_sign k h, tt))
command_signless (Del k) h = (refl, (no_sign k h, tt))
command_signless (Enq v) h = (refl, (no_sign v h, tt))
command_signless Deq h = (refl, tt)
command_signless Take h = (refl, tt)

-- no word of a reply has an equals sign
reply_signless : (r : Reply) → IsReply r → AreFree 61 (reply_words r)
reply_signless New h = (refl, tt)
reply_signless (Old n) h = (refl, (no_sign n h, tt))
reply_signless Full h = (refl, tt)
reply_signless (Found n) h = (refl, (no_sign n h, tt))
reply_signless (Gone n) h = (refl, (no_sign n h, tt))
reply_signless Absent h = (refl, tt)
reply_signless Done h = (refl, tt)
reply_signless Empty h = (refl, tt)

-- no word of a reply has a space
reply_solid : (r : Reply) → IsReply r → AreSolid (reply_words r)
reply_solid New h = (refl, tt)
reply_solid (Old n) h = (refl, (solid-decimal n h, tt))
reply_solid Full h = (refl, tt)
reply_solid (Found n) h = (refl, (solid-decimal n h, tt))
reply_solid (Gone n) h = (refl, (solid-decimal n h, tt))
reply_solid Absent h = (refl, tt)
reply_solid Done h = (refl, tt)
reply_solid Empty h = (refl, tt)

-- no word up to the equals sign has one
front_signless : (e : Entry) → IsPlacedEntry e → IsEntryOfWords e → AreFree 61 (front_words e)
front_signless e placed fits = (
  refl,
  (no_sign e.thread (omega (arith, placed.0)), (no_sign e.index (omega (arith, placed.1)), AreFree-append 61 (command_words e.command) ([] ∷ []) (command_signless e.command fits.0) (refl, tt))),
)

-- no word up to the equals sign has a space
front_clear : (e : Entry) → IsPlacedEntry e → IsEntryOfWords e → AreFree 32 (front_words e)
front_clear e placed fits = (
  refl,
  (
    free-decimal 32 e.thread (λ h. omega arith) (omega (arith, placed.0)),
    (
      free-decimal 32 e.index (λ h. omega arith) (omega (arith, placed.1)),
      AreFree-append 32 (command_words e.command) ([] ∷ []) (AreFree-solid 32 (command_words e.command) (omega arith) (command_solid e.command fits.0)) (refl, tt),
    ),
  ),
)

-- the words up to the equals sign are read as the entry
front_again : (line : ℕ) (e : Entry) → IsPlacedEntry e → IsEntryOfWords e → entry_of_words line e.reply (front_words e) ≡ Ok e
front_again line e placed fits =
    let all = done e in
    bind_to (limited_at line 0 15 (decimal e.thread)) _ e.thread all (limited_again line 0 15 e.thread (omega (arith, placed.0)) (omega arith) (omega (arith, placed.0)))
    (bind_to (limited_at line 0 4095 (decimal e.index)) _ e.index all (limited_again line 0 4095 e.index (omega (arith, placed.1)) (omega arith) (omega (arith, placed.1)))
    (bind_to (call_of_words line (command_words e.command ++ [] ∷ [])) _ e.command all (call_again line e.command fits.0) refl))

-- the line of an entry is cut at its equals sign
entry_cut : (e : Entry) → IsPlacedEntry e → IsEntryOfWords e → pieces 61 (entry_line e) ≡ spaced (front_words e) ∷ spaced ([] ∷ reply_words e.reply) ∷ []
entry_cut e placed fits =
    let front = spaced (front_words e) in
    let back = spaced ([] ∷ reply_words e.reply) in
    ap (pieces 61) (sym (line_of_words e))
    ∙ cut_at 61 front back (free-joined 61 32 (codes "entry") (decimal e.thread ∷ decimal e.index ∷ (command_words e.command ++ [] ∷ [])) refl (front_signless e placed fits))
    ∙ ap (λ (ps : List (List ℕ)). front ∷ ps) (cut_none 61 back (free-joined 61 32 [] (reply_words e.reply) refl (refl, reply_signless e.reply fits.1)))

-- the line of an entry is read as that entry
pub entry_again : (line : ℕ) (e : Entry) → IsPlacedEntry e → IsEntryOfWords e → entry_at line (entry_line e) ≡ Ok e
entry_again line e placed fits =
    let front = pieces-joined 32 (codes "entry") (decimal e.thread ∷ decimal e.index ∷ (command_words e.command ++ [] ∷ [])) (front_clear e placed fits) in
    let back = pieces-joined 32 [] (reply_words e.reply) (refl, AreFree-solid 32 (reply_words e.reply) (omega arith) (reply_solid e.reply fits.1)) in
    ap (entry_of_pieces line) (entry_cut e placed fits)
    ∙ bind_to (reply_of_words line (words (spaced ([] ∷ reply_words e.reply)))) _ e.reply (done e) (ap (reply_of_words line) back ∙ reply_again line e.reply fits.1)
    (ap (entry_of_words line e.reply) front ∙ front_again line e placed fits)

-- an empty word behind others has no space
with_blank : (ws : List (List ℕ)) → AreSolid ws → AreSolid (ws ++ [] ∷ [])
with_blank [] h = (refl, tt)
with_blank (w ∷ ws) h = (h.0, with_blank ws h.1)

-- the line of an entry has no line feed
pub entry_free : (e : Entry) → IsPlacedEntry e → IsEntryOfWords e → free 10 (entry_line e) ≡ true
entry_free e placed fits =
    let front : AreSolid (front_words e) = (
      refl,
      (solid-decimal e.thread (omega (arith, placed.0)), (solid-decimal e.index (omega (arith, placed.1)), with_blank (command_words e.command) (command_solid e.command fits.0))),
    ) in
    ap (free 10) (sym (line_of_words e))
    ∙ free-append 10 (spaced (front_words e)) (61 ∷ spaced ([] ∷ reply_words e.reply)) (free-spaced (front_words e) front) (free-spaced ([] ∷ reply_words e.reply) (refl, reply_solid e.reply fits.1))
