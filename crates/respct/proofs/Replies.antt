-- The values that the object replies are of 64 bits where those of the commands are.
use Rattle.std.proofs.Common.{ℕ, ◌<◌, ◌^◌, ◌==◌, ◌++◌, Bool, true, false, cond, if◌then◌else◌, List, [], ◌∷◌, Option, Some, None, sym, subst, All}
use Rattle.std.specs.List.{AllByRecursion}
use Rattle.std.specs.FinMap.{get, get-empty}
use Rattle.std.specs.Ordering.{nat_cmp}
use Rattle.std.proofs.lemmas.List.Elements.{All-nil, All-cons, All-head, All-tail}
use Rattle.seq_object.specs.declared.command.Command.{Command}
use Rattle.seq_object.specs.declared.command.Command.TheVariants.{Put, Get, Del, Enq, Deq, Take}
use Rattle.seq_object.specs.declared.command.Reply.{Reply}
use Rattle.seq_object.specs.declared.history.Entry.{Entry}
use Rattle.seq_object.specs.Object.{Contents, Pairs, no_contents, put_reply, get_reply, del_reply, enq_reply, deq_reply, take_reply, reply_to, put_pairs, rest_of, contents_after, is_shard_full, is_queue_full}
use Rattle.seq_object.specs.History.{IsLegal}
use Rattle.seq_object.proofs.Pairs.{got_put, got_removed}
use Rattle.script_text.specs.Text.{IsCommand}
use Rattle.script_text.specs.ReportLimits.{IsReply, IsEntryOfWords}
use Rattle.seq_object.specs.declared.sizes.Sizes.{Sizes}

-- a value that may be missing is of 64 bits
abbrev pub IsWordOr : Option ℕ → Type 0
IsWordOr None = Unit {0}
IsWordOr (Some value) = value < 2 ^ 64

-- all that the object holds is of 64 bits
pub record HoldsWords (c : Contents) : Type 0 where
  pub pairs : (key : ℕ) → IsWordOr (get c.pairs key)
  pub items : AllByRecursion (λ value. value < 2 ^ 64) c.items

-- an item more at the back
more : (items : List ℕ) (value : ℕ) → AllByRecursion (λ v. v < 2 ^ 64) items → value < 2 ^ 64 → AllByRecursion (λ v. v < 2 ^ 64) (items ++ value ∷ [])
more [] value all small = (small, tt)
more (item ∷ items) value all small = (all.0, more items value all.1 small)

-- of two that may be missing, either
either : (b : Bool) (x y : Option ℕ) → IsWordOr x → IsWordOr y → IsWordOr (cond b x y)
either true x y first second = first
either false x y first second = second

-- the pairs after a put
put_words : (pairs : Pairs) (key value : ℕ) (old : Option ℕ) (full : Bool) → ((k : ℕ) → IsWordOr (get pairs k)) → value < 2 ^ 64 → (k : ℕ) → IsWordOr (get (put_pairs pairs key value old full) k)
put_words pairs key value None true all small k = all k
put_words pairs key value None false all small k = subst IsWordOr (sym (got_put pairs key value k)) (either (k == key) (Some value) (get pairs k) small (all k))
put_words pairs key value (Some old) full all small k = subst IsWordOr (sym (got_put pairs key value k)) (either (k == key) (Some value) (get pairs k) small (all k))

-- the items with one more where there is room
enq_words : (items : List ℕ) (value : ℕ) (full : Bool) → AllByRecursion (λ v. v < 2 ^ 64) items → value < 2 ^ 64 → AllByRecursion (λ v. v < 2 ^ 64) (if full then items else items ++ value ∷ [])
enq_words items value true all small = all
enq_words items value false all small = more items value all small

-- the items without the first
rest_words : (items : List ℕ) → AllByRecursion (λ v. v < 2 ^ 64) items → AllByRecursion (λ v. v < 2 ^ 64) (rest_of items)
rest_words [] all = all
rest_words (item ∷ items) all = all.1

-- what the object holds after a command
after_words : (z : Sizes) (c : Contents) (command : Command) → HoldsWords c → IsCommand command → HoldsWords (contents_after z c command)
after_words z c (Put key value) holds small = record { pairs = put_words c.pairs key value (get c.pairs key) (is_shard_full z key c.pairs) holds.pairs small.1; items = holds.items }
after_words z c (Get key) holds small = holds
after_words z c (Del key) holds small = record {
  pairs = λ k. subst IsWordOr (sym (got_removed c.pairs key k)) (either (k == key) None (get c.pairs k) tt (holds.pairs k));
  items = holds.items;
}
after_words z c (Enq value) holds small = record { pairs = holds.pairs; items = enq_words c.items value (is_queue_full z c.items) holds.items small }
after_words z c Deq holds small = record { pairs = holds.pairs; items = rest_words c.items holds.items }
after_words z c Take holds small = record { pairs = holds.pairs; items = rest_words c.items holds.items }

-- the reply to a put
put_reply_words : (old : Option ℕ) (full : Bool) → IsWordOr old → IsReply (put_reply old full)
put_reply_words (Some old) full small = small
put_reply_words None true small = tt
put_reply_words None false small = tt

-- to a get
get_reply_words : (found : Option ℕ) → IsWordOr found → IsReply (get_reply found)
get_reply_words (Some value) small = small
get_reply_words None small = tt

-- to a removal
del_reply_words : (found : Option ℕ) → IsWordOr found → IsReply (del_reply found)
del_reply_words (Some value) small = small
del_reply_words None small = tt

-- to an item at the back
enq_reply_words : (full : Bool) → IsReply (enq_reply full)
enq_reply_words true = tt
enq_reply_words false = tt

-- to taking the front item off
deq_reply_words : (items : List ℕ) → AllByRecursion (λ v. v < 2 ^ 64) items → IsReply (deq_reply items)
deq_reply_words [] all = tt
deq_reply_words (item ∷ items) all = all.0

-- a reply, where there is one
abbrev IsReplyOr : Option Reply → Type 0
IsReplyOr None = Unit {0}
IsReplyOr (Some reply) = IsReply reply

-- to a take
take_reply_words : (items : List ℕ) → AllByRecursion (λ v. v < 2 ^ 64) items → IsReplyOr (take_reply items)
take_reply_words [] all = tt
take_reply_words (item ∷ items) all = all.0

-- the reply to a command
reply_words : (z : Sizes) (c : Contents) (command : Command) → HoldsWords c → IsReplyOr (reply_to z c command)
reply_words z c (Put key value) holds = put_reply_words (get c.pairs key) (is_shard_full z key c.pairs) (holds.pairs key)
reply_words z c (Get key) holds = get_reply_words (get c.pairs key) (holds.pairs key)
reply_words z c (Del key) holds = del_reply_words (get c.pairs key) (holds.pairs key)
reply_words z c (Enq value) holds = enq_reply_words (is_queue_full z c.items)
reply_words z c Deq holds = deq_reply_words c.items holds.items
reply_words z c Take holds = take_reply_words c.items holds.items

-- the entries of a legal history
pub entries_words : (z : Sizes) (c : Contents) (h : List Entry) → HoldsWords c → IsLegal z c h → All (λ e. IsCommand e.command) h → All IsEntryOfWords h
entries_words z c [] holds legal small = All-nil IsEntryOfWords
entries_words z c (e ∷ es) holds legal small =
    let own : IsCommand e.command = All-head (λ d. IsCommand d.command) e es small in
    All-cons IsEntryOfWords e es (own, subst IsReplyOr legal.0 (reply_words z c e.command holds))
    (entries_words z (contents_after z c e.command) es (after_words z c e.command holds own) legal.1 (All-tail (λ d. IsCommand d.command) e es small))

-- the object as it begins
pub no_words : HoldsWords no_contents
no_words = record { pairs = λ key. subst IsWordOr (sym (get-empty nat_cmp key)) tt; items = tt }
