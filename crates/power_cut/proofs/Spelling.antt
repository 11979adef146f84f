-- What stands one after the other in bytes is told apart, and how long it is.
use Rattle.std.proofs.Common.{◌≡◌, ℕ, suc, ◌+◌, ◌*◌, ◌^◌, ◌<◌, List, [], ◌∷◌, ◌++◌, length, take, drop, get_or, ap, sym, ◌∙◌, arith, append_assoc, subst, drop-drop, get_or-drop, take-append-drop, length-drop, length-append}
use Rattle.std.specs.List.{All, flat_map}
use Rattle.std.proofs.lemmas.List.{append_cancel_left}
use Rattle.std.proofs.lemmas.List.Concat.{flat_map-cons}
use Rattle.byteorder.specs.Endian.{little_bytes, little_number, IsRead}
use Rattle.power_cut.specs.Image.{IsLineOfWords, HaveWords}
use Rattle.power_cut.specs.Bytes.{line_bytes, room_bytes, rooms_bytes}
use Rattle.power_cut.proofs.Each.{All-first, All-others}
use Rattle.power_cut.proofs.Numbers.{little_bytes-cancel, little_bytes-little_number}

-- a relation holds of two lists of one length, place by place
abbrev pub Pairwise : {X : Type 0} → (X → X → Type 0) → List X → List X → Type 0
Pairwise R [] [] = Unit {0}
Pairwise R [] (y ∷ ys) = ⊥
Pairwise R (x ∷ xs) [] = ⊥
Pairwise R (x ∷ xs) (y ∷ ys) = R x y × Pairwise R xs ys

-- related things of which the bytes begin two equal lists are one thing, and what follows is equal
pub record Cancels {X : Type 0} (f : X → List ℕ) (R : X → X → Type 0) : Type 0 where
  pub same : (x y : X) (xs ys : List ℕ) → R x y → f x ++ xs ≡ f y ++ ys → x ≡ y
  pub rest : (x y : X) (xs ys : List ℕ) → R x y → f x ++ xs ≡ f y ++ ys → xs ≡ ys

-- lists of such things are such things: they are one
flat_map-same : {X : Type 0} (f : X → List ℕ) (R : X → X → Type 0) → Cancels f R → (xs ys : List X) (us vs : List ℕ) → Pairwise R xs ys → flat_map f xs ++ us ≡ flat_map f ys ++ vs → (xs ≡ ys) × (us ≡ vs)
flat_map-same f R cancels [] [] us vs related is = (cc, is)
flat_map-same f R cancels [] (y ∷ ys) us vs related is = absurd related
flat_map-same f R cancels (x ∷ xs) [] us vs related is = absurd related
flat_map-same {X = X} f R cancels (x ∷ xs) (y ∷ ys) us vs related is =
    let opened : f x ++ (flat_map f xs ++ us) ≡ f y ++ (flat_map f ys ++ vs) =
    sym (append_assoc (f x) (flat_map f xs) us) ∙ ap (λ (zs : List ℕ). zs ++ us) (sym (flat_map-cons f x xs)) ∙ is ∙ ap (λ (zs : List ℕ). zs ++ vs) (flat_map-cons f y ys) ∙ append_assoc (f y) (flat_map f ys) vs in
    let first : x ≡ y = cancels.same x y (flat_map f xs ++ us) (flat_map f ys ++ vs) related.0 opened in
    let after = cancels.rest x y (flat_map f xs ++ us) (flat_map f ys ++ vs) related.0 opened in
    let others = flat_map-same f R cancels xs ys us vs related.1 after in
    (ap (λ (z : X). z ∷ xs) first ∙ ap (λ (zs : List X). y ∷ zs) others.0, others.1)

pub flat_map-cancels : {X : Type 0} (f : X → List ℕ) (R : X → X → Type 0) → Cancels f R → Cancels (flat_map f) (Pairwise R)
flat_map-cancels f R cancels = record {
  same = λ xs ys us vs related is. (flat_map-same f R cancels xs ys us vs related is).0;
  rest = λ xs ys us vs related is. (flat_map-same f R cancels xs ys us vs related is).1;
}

-- two lists of one length, with a fact for each thing
pub Pairwise-all : {X : Type 0} (P : X → Type 0) (xs ys : List X) → length xs ≡ length ys → All P xs → All P ys → Pairwise (λ x y. P x × P y) xs ys
Pairwise-all P [] [] long left right = tt
Pairwise-all P [] (y ∷ ys) long left right = absurd (omega arith)
Pairwise-all P (x ∷ xs) [] long left right = absurd (omega arith)
Pairwise-all P (x ∷ xs) (y ∷ ys) long left right = ((All-first P x xs left, All-first P y ys right), Pairwise-all P xs ys (omega arith) (All-others P x xs left) (All-others P y ys right))

-- a number of 64 bits
abbrev pub IsSmall : ℕ → Type 0
IsSmall word = word < 2 ^ 64

-- words are told apart
word-cancels : Cancels (little_bytes 8) (λ x y. IsSmall x × IsSmall y)
word-cancels = record {
  same = λ x y xs ys small is. little_bytes-cancel 8 x y xs ys small.0 small.1 is;
  rest = λ x y xs ys small is.
      let same : x ≡ y = little_bytes-cancel 8 x y xs ys small.0 small.1 is in
      append_cancel_left (little_bytes 8 x) xs ys (is ∙ ap (λ (z : ℕ). little_bytes 8 z ++ ys) (sym same));
}

-- two lines of words of 64 bits are word by word of 64 bits
words_alike : (xs ys : List ℕ) → IsLineOfWords xs → IsLineOfWords ys → Pairwise (λ x y. IsSmall x × IsSmall y) xs ys
words_alike xs ys left right = Pairwise-all IsSmall xs ys (left.eight ∙ sym right.eight) left.small right.small

-- lines are told apart
line-cancels : Cancels line_bytes (λ x y. IsLineOfWords x × IsLineOfWords y)
line-cancels = let words = flat_map-cancels (little_bytes 8) (λ x y. IsSmall x × IsSmall y) word-cancels in record {
  same = λ x y xs ys lines is. words.same x y xs ys (words_alike x y lines.0 lines.1) is;
  rest = λ x y xs ys lines is. words.rest x y xs ys (words_alike x y lines.0 lines.1) is;
}

-- two rooms have one length, and lines of words
pub record AreAlike (x y : List (List ℕ)) : Type 0 where
  pub long : length x ≡ length y
  pub left : All IsLineOfWords x
  pub right : All IsLineOfWords y

-- rooms are told apart
room-cancels : Cancels room_bytes AreAlike
room-cancels = let lines = flat_map-cancels line_bytes (λ x y. IsLineOfWords x × IsLineOfWords y) line-cancels in record {
  same = λ x y xs ys rooms is. lines.same x y xs ys (Pairwise-all IsLineOfWords x y rooms.long rooms.left rooms.right) is;
  rest = λ x y xs ys rooms is. lines.rest x y xs ys (Pairwise-all IsLineOfWords x y rooms.long rooms.left rooms.right) is;
}

-- a room has lines of words
abbrev pub HasLines : List (List ℕ) → Type 0
HasLines room = All IsLineOfWords room

-- rooms of the same lengths are alike
rooms_alike : (xs ys : List (List (List ℕ))) → length xs ≡ length ys → ((r : ℕ) → r < length xs → length (get_or xs r []) ≡ length (get_or ys r [])) → HaveWords xs → HaveWords ys → Pairwise AreAlike xs ys
rooms_alike [] [] long each left right = tt
rooms_alike [] (y ∷ ys) long each left right = absurd (omega arith)
rooms_alike (x ∷ xs) [] long each left right = absurd (omega arith)
rooms_alike (x ∷ xs) (y ∷ ys) long each left right =
    (record { long = each 0 (omega arith); left = All-first HasLines x xs left; right = All-first HasLines y ys right }, rooms_alike xs ys (omega arith) (λ r within. each (suc r) (omega arith)) (All-others HasLines x xs left) (All-others HasLines y ys right))

-- rooms of the same lengths with the same bytes are the same rooms
pub rooms_bytes-one : (xs ys : List (List (List ℕ))) → length xs ≡ length ys → ((r : ℕ) → r < length xs → length (get_or xs r []) ≡ length (get_or ys r [])) → HaveWords xs → HaveWords ys → rooms_bytes xs ≡ rooms_bytes ys → xs ≡ ys
rooms_bytes-one xs ys long each left right is =
    (flat_map-cancels room_bytes AreAlike room-cancels).same xs ys [] [] (rooms_alike xs ys long each left right) (ap (λ (zs : List ℕ). zs ++ []) is)

-- words that were read, eight bytes each, have these bytes
pub line_bytes-read : (words bytes : List ℕ) → length bytes ≡ 8 * length words → ((i : ℕ) → get_or bytes i 0 < 256) → IsRead little_number 8 bytes words → bytes ≡ line_bytes words
line_bytes-read [] [] long small read = cc
line_bytes-read [] (b ∷ bs) long small read = absurd (omega arith)
line_bytes-read (w ∷ ws) bytes long small read =
    let first : w ≡ little_number 8 bytes = read 0 (omega arith) in
    let front : little_bytes 8 w ≡ take 8 bytes = ap (little_bytes 8) first ∙ little_bytes-little_number 8 bytes (omega arith) small in
    let later : IsRead little_number 8 (drop 8 bytes) ws = λ k within.
    let place : 8 * suc k ≡ 8 + 8 * k = omega arith in
    read (suc k) (omega arith) ∙ ap (λ (n : ℕ). little_number 8 (drop n bytes)) place ∙ ap (little_number 8) (sym (drop-drop (8 * k) 8 bytes)) in
    let back : drop 8 bytes ≡ line_bytes ws = line_bytes-read ws (drop 8 bytes) (omega (arith, length-drop 8 bytes)) (λ i. subst (λ (b : ℕ). b < 256) (sym (get_or-drop 8 bytes i 0)) (small (8 + i))) later in
    sym (take-append-drop 8 bytes) ∙ ap (λ (xs : List ℕ). xs ++ drop 8 bytes) (sym front) ∙ ap (λ (xs : List ℕ). little_bytes 8 w ++ xs) back ∙ sym (flat_map-cons (little_bytes 8) w ws)

-- a line of words has 64 bytes
length-words : (words : List ℕ) → length (line_bytes words) ≡ 8 * length words
length-words [] = cc
length-words (w ∷ ws) = omega (arith, length-words ws)

-- a room has 64 bytes for each line
pub length-room_bytes : (lines : List (List ℕ)) → All IsLineOfWords lines → length (room_bytes lines) ≡ 64 * length lines
length-room_bytes [] words = cc
length-room_bytes (l ∷ ls) words =
    let own : length (line_bytes l) ≡ 64 = omega (arith, length-words l, (All-first IsLineOfWords l ls words).eight) in
    let others = length-room_bytes ls (All-others IsLineOfWords l ls words) in
    ap length (flat_map-cons line_bytes l ls) ∙ length-append (line_bytes l) (room_bytes ls) ∙ omega arith
