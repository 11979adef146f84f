use Rattle.std.proofs.Common.{not, ◌-◌, ◌≡◌, ◌<◌, false, nat_eq, ℕ, List, [], ◌∷◌, ◌++◌, Bool, if◌then◌else◌, sym, ap, subst, ◌∙◌}
use Rattle.std.specs.Result.{IfOk}
use Rattle.indexmap.specs.IndexSet.{insert_key, spare as set_spare}
use Rattle.flush_list.specs.Lists.{FlushListState, HasLines, is_listed, lines_of}
use Rattle.flush_list.proofs.Joining.{joined_first, joined_other, new_to_others}
use Rattle.flush_list.proofs.list.FlushList.mark.Goals as goal

pub invariant_of-self : goal.invariant_of-self
invariant_of-self c =
    let some : 0 < c.self.inside.spare = subst (λ (b : FlushListState). 0 < b.spare) (sym c.self.view_is) (c.requires (sym c.is_listed.ensures ∙ c.if-is_listed.false)) in
    joined_first c.self.inside.first c.self.inside.others.keys _ c.self.inside.given c.self.inside.spare c.args.line c.self.invariant (c.is_none.ensures ∙ ap not c.if-is_none.true) some

pub invariant_of-self-2 : goal.invariant_of-self-2
invariant_of-self-2 c =
    let f = c.self.inside in
    let some : 0 < f.spare = subst (λ (b : FlushListState). 0 < b.spare) (sym c.self.view_is) (c.requires (sym c.is_listed.ensures ∙ c.if-is_listed.false)) in
    let new : is_listed (lines_of f.first f.others.keys) c.args.line ≡ false = ap (λ (b : FlushListState). is_listed b.lines c.args.line) c.self.view_is ∙ sym c.is_listed.ensures ∙ c.if-is_listed.false in
    let ok = subst (λ r. IfOk r (λ added. c.insert.new.self.keys ≡ insert_key nat_eq f.others.keys c.args.line)) c.unwrap.ensures c.insert.ensures.keys in
    let keys : c.insert.new.self.keys ≡ f.others.keys ++ c.args.line ∷ [] = ok ∙ ap (λ (b : Bool). if b then f.others.keys else f.others.keys ++ c.args.line ∷ []) (new_to_others f.first f.others.keys c.args.line new) in
    subst (λ (xs : List ℕ). HasLines f.first xs (set_spare c.insert.new.self) (record { lines = lines_of f.first xs; given = f.given; spare = f.spare - 1 })) (sym keys)
    (joined_other f.first f.others.keys _ _ f.given f.spare c.args.line c.self.invariant (c.is_none.ensures ∙ ap not c.if-is_none.false) new some c.insert.ensures.spare)
