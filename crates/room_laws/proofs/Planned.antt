-- Planned stores: what the record words are behind them, and where they go.
use Rattle.std.proofs.Common.{◌≡◌, ◌≢◌, ℕ, ◌<◌, ◌==◌, ◌&&◌, ◌||◌, List, [], ◌∷◌, ◌++◌, refl, ap, ◌∙◌, arith, if◌then◌else◌}
use Rattle.std.proofs.lemmas.Bool.Decides.{nat_tests}
use Rattle.seq_object.specs.Object.{contents_after, room_of}
use Rattle.room_model.specs.declared.write.Write.{Write}
use Rattle.room_model.specs.declared.write.PlannedStore.{PlannedStore}
use Rattle.room_model.specs.Chains.{RoomWords, with_word, HasSameRecords}
use Rattle.room_model.specs.Rooms.{StandsFor}
use Rattle.room_model.specs.Writes.{written, writes_of, store, stored_in, touches, write_stores, stores_behind, AreStoresWithin}
use Rattle.room_laws.specs.Stores.{PlannedWriteLaw, StoresLaw, StoresInPiecesLaw, CommandStoresLaw, StoresWithinLaw, CommandWithinLaw}
use Rattle.room_laws.proofs.Tests.{by_test, by_Bool}
use Rattle.room_laws.proofs.Words.{words}
use Rattle.room_laws.proofs.AllRows.{command_after, other_command, within}

-- stores behind stores
pub stored-append : (r : RoomWords) (ss ts : List PlannedStore) → stored_in r (ss ++ ts) ≡ stored_in (stored_in r ss) ts
stored-append r [] ts = refl
stored-append r (s ∷ ss) ts = stored-append (with_word r s.line s.word s.value) ss ts

-- another word stays
other_word : (q : RoomWords) (at k value line w : ℕ) → w ≢ k → with_word q at k value line w ≡ q line w
other_word q at k value line w ne = grind (arith, nat_tests)

-- behind a backup and a tag the record words are the same
behind_backup : (q : RoomWords) (at a b c epoch line w : ℕ) → w < 3 → stored_in q (store at 3 a ∷ store at 4 b ∷ store at 5 c ∷ store at 6 epoch ∷ []) line w ≡ q line w
behind_backup q at a b c epoch line w lt =
    other_word (with_word (with_word (with_word q at 3 a) at 4 b) at 5 c) at 6 epoch line w (omega arith)
    ∙ other_word (with_word (with_word q at 3 a) at 4 b) at 5 c line w (omega arith)
    ∙ other_word (with_word q at 3 a) at 4 b line w (omega arith)
    ∙ other_word q at 3 a line w (omega arith)

-- one word changed in two rooms of the same records
pub same_with : (q p : RoomWords) (at k value : ℕ) → HasSameRecords p q → HasSameRecords (with_word p at k value) (with_word q at k value)
same_with q p at k value same line w lt = ap (λ (n : ℕ). if (line == at) && (w == k) then value else n) (same line w lt)

-- the same writes in two rooms of the same records
pub same_written : (q p : RoomWords) (ws : List Write) → HasSameRecords p q → HasSameRecords (written p ws) (written q ws)
same_written q p [] same = same
same_written q p (x ∷ xs) same = same_written (with_word q x.line x.word x.value) (with_word p x.line x.word x.value) xs (same_with q p x.line x.word x.value same)

-- the law on one planned write
pub planned_write : PlannedWriteLaw
planned_write epoch r before x line w lt =
    ap (λ (q : RoomWords). q line w) (stored-append r before (write_stores epoch r before x))
    ∙ by_Bool (λ b. stored_in q (if b then store x.line x.word x.value ∷ [] else store x.line 3 (r x.line 0) ∷ store x.line 4 (r x.line 1) ∷ store x.line 5 (r x.line 2) ∷ store x.line 6 epoch ∷ store x.line x.word x.value ∷ []) line w
    ≡ with_word q x.line x.word x.value line w) ((r x.line 6 == epoch) || touches x.line before)
    (λ _. refl)
    (λ _. same_with q (stored_in q (store x.line 3 (r x.line 0) ∷ store x.line 4 (r x.line 1) ∷ store x.line 5 (r x.line 2) ∷ store x.line 6 epoch ∷ [])) x.line x.word x.value
    (λ i v l. behind_backup q x.line (r x.line 0) (r x.line 1) (r x.line 2) epoch i v l) line w lt)
  where
    q : RoomWords
    q = stored_in r before

-- the law on planned writes
pub all_stores : StoresLaw
all_stores epoch r before [] line w lt = refl
all_stores epoch r before (x ∷ xs) line w lt =
    all_stores epoch r (before ++ write_stores epoch r before x) xs line w lt
    ∙ same_written (with_word (stored_in r before) x.line x.word x.value) (stored_in r (before ++ write_stores epoch r before x)) xs (planned_write epoch r before x) line w lt

-- the law on writes in two pieces
pub in_pieces : StoresInPiecesLaw
in_pieces epoch r before [] vs = refl
in_pieces epoch r before (x ∷ xs) vs = in_pieces epoch r (before ++ write_stores epoch r before x) xs vs

-- the law on the planned stores of a command
pub command_stands : CommandStoresLaw
command_stands layout z epoch room r c command laid capacity pos stands =
    by_test (λ b. StandsFor layout z room (stored_in r (if b then stores_behind epoch r [] (writes_of layout z r command) else [])) (contents_after z c command)) (room_of z command) room
    (λ own. words layout z room (written r (writes_of layout z r command)) (stored_in r (stores_behind epoch r [] (writes_of layout z r command))) (contents_after z c command) laid
    (command_after layout z room r c command laid capacity pos stands own)
    (all_stores epoch r [] (writes_of layout z r command)))
    (λ other. other_command layout z room r c command stands other)

-- two lists of stores within
within-append : (lines : ℕ) (ss ts : List PlannedStore) → AreStoresWithin lines ss → AreStoresWithin lines ts → AreStoresWithin lines (ss ++ ts)
within-append lines [] ts a b = b
within-append lines (s ∷ ss) ts a b = (a.0, a.1, within-append lines ss ts a.2 b)

-- the stores of one write
write_within : (epoch : ℕ) (r : RoomWords) (lines : ℕ) (before : List PlannedStore) (x : Write) → x.line < lines → x.word < 3 → AreStoresWithin lines (write_stores epoch r before x)
write_within epoch r lines before x lt word =
    by_Bool (λ b. AreStoresWithin lines (if b then store x.line x.word x.value ∷ [] else store x.line 3 (r x.line 0) ∷ store x.line 4 (r x.line 1) ∷ store x.line 5 (r x.line 2) ∷ store x.line 6 epoch ∷ store x.line x.word x.value ∷ []))
    ((r x.line 6 == epoch) || touches x.line before)
    (λ _. (lt, omega arith, tt))
    (λ _. (lt, omega arith, (lt, omega arith, (lt, omega arith, (lt, omega arith, (lt, omega arith, tt))))))

-- the law on where stores go
pub stores_within : StoresWithinLaw
stores_within epoch r lines before [] a h = a
stores_within epoch r lines before (x ∷ xs) a h =
    stores_within epoch r lines (before ++ write_stores epoch r before x) xs (within-append lines before (write_stores epoch r before x) a (write_within epoch r lines before x h.0 h.1)) h.2

-- the law on where the stores of a command go
pub command_within : CommandWithinLaw
command_within layout z epoch room r c command laid pos stands =
    by_test (λ b. AreStoresWithin z.lines (if b then stores_behind epoch r [] (writes_of layout z r command) else [])) (room_of z command) room
    (λ own. stores_within epoch r z.lines [] (writes_of layout z r command) tt (within layout z room r c command laid pos stands own))
    (λ other. tt)
