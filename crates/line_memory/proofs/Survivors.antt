-- The laws on loads and survivors, each by a fact on lists of stores.
use Rattle.std.proofs.Common.{[], ◌∷◌, take, drop, arith, ap, sym, ◌∙◌, length-append}
use Rattle.std.proofs.lemmas.List.{take-append-le, take_all, take-append-drop, drop_all}
use Rattle.std.proofs.Math.Seq.{take-add}
use Rattle.std.proofs.lemmas.List.Elements.{All-take}
use Rattle.line_memory.specs.Line.{IsStore, applied, stored, store_to}
use Rattle.line_memory.specs.Laws.{LoadIsWholeLaw, LeftAllLaw, LeftLengthLaw, LeftWordsLaw, LeftStoredLaw, LeftStoredLastLaw, WholeStoredLaw, LeftFencedLaw, WholeFencedLaw, FencedAllLaw}
use Rattle.line_memory.proofs.Stores.{length-applied, applied-append, latest-applied, words-applied}

-- a load is a word of the whole line
pub load_is_whole : LoadIsWholeLaw
load_is_whole l word eight lt = latest-applied l.base l.pending word (omega arith)

-- all stores kept
pub left-all : LeftAllLaw
left-all l k le = ap (applied l.base) (take_all k l.pending le)

-- no word is lost
pub left-length : LeftLengthLaw
left-length l k = length-applied l.base (take k l.pending)

-- eight words of 64 bits
pub left-words : LeftWordsLaw
left-words l k line = (left-length l k ∙ line.eight, words-applied l.base (take k l.pending) line.words (All-take IsStore k l.pending line.stores))

-- survivors that do not keep the store
pub left-stored : LeftStoredLaw
left-stored l word value k le = ap (applied l.base) (take-append-le k l.pending (store_to word value ∷ []) le)

-- the words by loads after a store
pub whole-stored : WholeStoredLaw
whole-stored l word value = applied-append l.base l.pending (store_to word value ∷ [])

-- the survivor that keeps the store
pub left-stored_last : LeftStoredLastLaw
left-stored_last l word value k lt =
    left-all (stored l word value) k (omega (arith, length-append l.pending (store_to word value ∷ []))) ∙ whole-stored l word value

-- survivors after a fence
pub left-fenced : LeftFencedLaw
left-fenced l k =
    sym (applied-append l.base (take l.asked l.pending) (take k (drop l.asked l.pending))) ∙ ap (applied l.base) (sym (take-add l.asked k l.pending))

-- the words by loads after a fence
pub whole-fenced : WholeFencedLaw
whole-fenced l =
    sym (applied-append l.base (take l.asked l.pending) (drop l.asked l.pending)) ∙ ap (applied l.base) (take-append-drop l.asked l.pending)

-- a fence where all was asked for
pub fenced-all : FencedAllLaw
fenced-all l all = (left-all l l.asked (omega arith), drop_all l.asked l.pending (omega arith))
