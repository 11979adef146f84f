-- Histories in two pieces.
use Rattle.std.proofs.Common.{◌≡◌, ℕ, ◌+◌, ◌<◌, ◌≤◌, ◌==◌, zero, suc, List, [], ◌∷◌, ◌++◌, length, Some, refl, sym, ap, ◌∙◌, subst, arith, length-append}
use Rattle.std.specs.Prelude.{slice_get, map, take, drop}
use Rattle.std.proofs.lemmas.Option.{slice_get_within}
use Rattle.std.proofs.lemmas.List.{take-append-drop}
use Rattle.std.proofs.lemmas.List.Elements.{filter-append}
use Rattle.seq_object.specs.declared.command.Command.{Command}
use Rattle.seq_object.specs.declared.history.Entry.{Entry}
use Rattle.seq_object.specs.Object.{Contents, contents_after}
use Rattle.seq_object.specs.History.{of_thread, contents_at, IsLegal, point_at, point_behind, points_from, AreCommands, counted_from}
use Rattle.seq_object.specs.Laws.{LegalInPiecesLaw, AfterInPiecesLaw, PointLaw, PointCountLaw, CommandsInPiecesLaw, PrefixLaw, InOrderLaw}
use Rattle.seq_object.specs.declared.history.RestartPoint.{RestartPoint}
use Rattle.seq_object.specs.declared.sizes.Sizes.{Sizes}

-- what two pieces leave is what the second leaves after the first
pub contents-append : (z : Sizes) (c : Contents) (xs ys : List Entry) → contents_at z c (xs ++ ys) ≡ contents_at z (contents_at z c xs) ys
contents-append z c [] ys = refl
contents-append z c (x ∷ xs) ys = contents-append z (contents_after z c x.command) xs ys

-- two legal pieces are legal together
joined : (z : Sizes) (c : Contents) (xs ys : List Entry) → IsLegal z c xs → IsLegal z (contents_at z c xs) ys → IsLegal z c (xs ++ ys)
joined z c [] ys a b = b
joined z c (x ∷ xs) ys a b = (a.0, joined z (contents_after z c x.command) xs ys a.1 b)

-- the first piece of a legal history is legal
front : (z : Sizes) (c : Contents) (xs ys : List Entry) → IsLegal z c (xs ++ ys) → IsLegal z c xs
front z c [] ys l = tt
front z c (x ∷ xs) ys l = (l.0, front z (contents_after z c x.command) xs ys l.1)

-- the second piece of a legal history is legal from what the first leaves
back : (z : Sizes) (c : Contents) (xs ys : List Entry) → IsLegal z c (xs ++ ys) → IsLegal z (contents_at z c xs) ys
back z c [] ys l = l
back z c (x ∷ xs) ys l = back z (contents_after z c x.command) xs ys l.1

-- a history in two pieces is legal where each piece is
pub legal_in_pieces : LegalInPiecesLaw
legal_in_pieces z c xs ys = (joined z c xs ys, λ l. (front z c xs ys l, back z c xs ys l))

-- a thread's entries of two pieces are those of each together
pub count-append : (i : ℕ) (xs ys : List Entry) → length (of_thread i (xs ++ ys)) ≡ length (of_thread i xs) + length (of_thread i ys)
count-append i xs ys = ap length (filter-append (λ e. e.thread == i) xs ys) ∙ length-append (of_thread i xs) (of_thread i ys)

-- the restart points behind two pieces are those behind the one and then the other
pub points-append : (i : ℕ) (ps : List RestartPoint) (xs ys : List Entry) → points_from i ps (xs ++ ys) ≡ points_from i (points_from i ps xs) ys
points-append i [] xs ys = refl
points-append i (p ∷ ps) xs ys =
    let here : p.position + length (of_thread i (xs ++ ys)) ≡ p.position + length (of_thread i xs) + length (of_thread i ys) = omega (arith, count-append i xs ys) in
    let rest = points-append (suc i) ps xs ys in
    λ m. record { position = here m } ∷ rest m

-- the state after two pieces is that after the second from the first
pub after_in_pieces : AfterInPiecesLaw
after_in_pieces z s xs ys =
    let contents = contents-append z s.contents xs ys in
    let points = points-append 0 s.points xs ys in
    λ m. record { contents = contents m; points = points m }

-- one restart point is behind its thread's entries
behind_at : (i k : ℕ) (ps : List RestartPoint) (h : List Entry) → k < length ps → point_at (points_from i ps h) k ≡ point_behind (point_at ps k) (of_thread (i + k) h)
behind_at i k [] h lt = absurd (omega arith)
behind_at i zero (p ∷ ps) h lt = ap (λ (n : ℕ). point_behind p (of_thread n h)) (omega arith)
behind_at i (suc k) (p ∷ ps) h lt = behind_at (suc i) k ps h (omega arith) ∙ ap (λ (n : ℕ). point_behind (point_at ps k) (of_thread n h)) (omega arith)

-- a thread's restart point is behind its own entries
pub point : PointLaw
point z s h i lt = behind_at 0 i s.points h lt ∙ ap (λ (n : ℕ). point_behind (point_at s.points i) (of_thread n h)) (omega arith)

-- so many restart points stay so many
counted_points : (i : ℕ) (ps : List RestartPoint) (h : List Entry) → length (points_from i ps h) ≡ length ps
counted_points i [] h = refl
counted_points i (p ∷ ps) h = ap suc (counted_points (suc i) ps h)

-- a history leaves as many restart points as there were
pub point_count : PointCountLaw
point_count z s h = counted_points 0 s.points h

-- two pieces that go through a script one after the other do so together
commands_joined : (script : List Command) (place : ℕ) (xs ys : List Entry) → AreCommands script place xs → AreCommands script (place + length xs) ys → AreCommands script place (xs ++ ys)
commands_joined script place [] ys a b = subst (λ (n : ℕ). AreCommands script n ys) (omega arith) b
commands_joined script place (x ∷ xs) ys a b = (a.0, a.1, commands_joined script (suc place) xs ys a.2 (subst (λ (n : ℕ). AreCommands script n ys) (omega arith) b))

-- a piece of entries that go through a script does so, and the rest from there
commands_apart : (script : List Command) (place : ℕ) (xs ys : List Entry) → AreCommands script place (xs ++ ys) → AreCommands script place xs × AreCommands script (place + length xs) ys
commands_apart script place [] ys a = (tt, subst (λ (n : ℕ). AreCommands script n ys) (omega arith) a)
commands_apart script place (x ∷ xs) ys a =
    let rest = commands_apart script (suc place) xs ys a.2 in
    ((a.0, a.1, rest.0), subst (λ (n : ℕ). AreCommands script n ys) (omega arith) rest.1)

-- entries in two pieces go through a script where each piece does
pub commands_in_pieces : CommandsInPiecesLaw
commands_in_pieces script place xs ys = (commands_joined script place xs ys, commands_apart script place xs ys)

-- a prefix of a legal history is legal
pub prefix : PrefixLaw
prefix z c h n legal = front z c (take n h) (drop n h) (subst (IsLegal z c) (sym (take-append-drop n h)) legal)

-- a list from a place on is the item there and what follows
drop-at : (script : List Command) (place : ℕ) (command : Command) → slice_get script place ≡ Some command → drop place script ≡ command ∷ drop (suc place) script
drop-at [] place command at = absurd (omega (arith, slice_get_within [] place command at))
drop-at (c ∷ cs) zero command at = let same : c ≡ command = cc in ap (λ (x : Command). x ∷ cs) same
drop-at (c ∷ cs) (suc place) command at = drop-at cs place command at

-- the commands of entries are the next of the script
commands_taken : (script : List Command) (place : ℕ) (es : List Entry) → AreCommands script place es → map (λ e. e.command) es ≡ take (length es) (drop place script)
commands_taken script place [] a = refl
commands_taken script place (e ∷ es) a =
    ap (λ (cs : List Command). e.command ∷ cs) (commands_taken script (suc place) es a.2) ∙ sym (ap (take (suc (length es))) (drop-at script place e.command a.1))

-- the indexes of entries are counted from the first place
indexes_counted : (script : List Command) (place : ℕ) (es : List Entry) → AreCommands script place es → map (λ e. e.index) es ≡ counted_from place (length es)
indexes_counted script place [] a = refl
indexes_counted script place (e ∷ es) a =
    let here : e.index ≡ place = a.0 in
    let rest = indexes_counted script (suc place) es a.2 in
    λ m. here m ∷ rest m

-- entries go no further than the script
pub in_script : (script : List Command) (place : ℕ) (es : List Entry) → AreCommands script place es → place ≤ length script → place + length es ≤ length script
in_script script place [] a le = omega arith
in_script script place (e ∷ es) a le = let lt = slice_get_within script place e.command a.1 in let rest = in_script script (suc place) es a.2 (omega arith) in omega arith

-- entries in order have the script's commands and counted indexes, and end within it
pub in_order : InOrderLaw
in_order script place es a = (commands_taken script place es a, indexes_counted script place es a, in_script script place es a)
