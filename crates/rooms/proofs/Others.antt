-- How many lines a room has, and what stays where its cells change.
use Rattle.std.proofs.Common.{◌≡◌, ℕ, ◌<◌, ◌≤◌, Bool, refl, arith, ap, ◌∙◌, inl, inr, if◌then◌else◌}
use Rattle.std.proofs.lemmas.Bool.Decides.{leb_tells}
use Rattle.rooms.specs.declared.room.Room.TheVariants.{Map, Queue, Thread, Super}
use Rattle.rooms.specs.Laws.{CommandLinesLaw, OneLineLaw, OtherCellsLaw, SameNumberLaw, SameElseLaw}

pub command_lines : CommandLinesLaw
command_lines z room le = elim (leb_tells room z.shards) [
  | inl h ↦ ap (λ (b : Bool). if b then z.lines else 1) h.0
  | inr h ↦ let more = h.1 in absurd (omega (arith, more, le))
]

pub one_line : OneLineLaw
one_line z room lt = elim (leb_tells room z.shards) [
  | inl h ↦ let less = h.1 in absurd (omega (arith, less, lt))
  | inr h ↦ ap (λ (b : Bool). if b then z.lines else 1) h.0
]

pub other_cells : OtherCellsLaw
other_cells (Map x) cells has = refl
other_cells (Queue x) cells has = refl
other_cells (Thread x) cells has = refl
other_cells (Super x) cells has = absurd has

pub same_number : SameNumberLaw
same_number s r (Map x) cells is count = record { kind = is.kind; lines = count ∙ is.lines }
same_number s r (Queue x) cells is count = record { kind = is.kind; lines = count ∙ is.lines }
same_number s r (Thread x) cells is count = record { kind = is.kind; lines = count ∙ is.lines }
same_number s r (Super x) cells is count = is

pub same_else : SameElseLaw
same_else (Map x) cells = (refl, refl, λ idle. idle)
same_else (Queue x) cells = (refl, refl, λ idle. idle)
same_else (Thread x) cells = (refl, refl, λ idle. idle)
same_else (Super x) cells = (refl, refl, λ idle. idle)
