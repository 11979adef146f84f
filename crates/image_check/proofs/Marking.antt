-- What a walk has marked that was refused, or came to its end.
use Rattle.std.proofs.Common.{◌≡◌, ℕ, Bool, Option, Some, None, List, sym, subst}
use Rattle.image_check.specs.declared.walking.Met.{Met}
use Rattle.image_check.specs.Marks.{HasMarksOf, HasWalked}
use Rattle.image_check.proofs.Walks.{HasEnded}

-- a walk that was refused
pub walked_none : (marks : List Bool) (o : Option (List ℕ)) → o ≡ None → HasWalked None marks o
walked_none marks o e = subst (HasWalked None marks) (sym e) tt

-- a walk that came to its end
pub walked_some : (now : Met) (marks : List Bool) (o : Option (List ℕ)) → HasEnded (HasMarksOf marks now) o → HasWalked (Some now) marks o
walked_some now marks o h = subst (HasWalked (Some now) marks) (sym h.is) h.kept
