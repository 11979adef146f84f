use Rattle.std.proofs.Common.{◌≡◌, ℕ, List, Result, Ok, IfOk, ap, sym, ◌∙◌, subst}
use Rattle.line_memory.specs.Line.{BankState, quiet_bank}
use Rattle.room_model.specs.Image.{surviving_lines}
use Rattle.store_order.specs.Choice.{kept_of}
use Rattle.epoch_cells.specs.Cells.{CanRecover, left_of}
use Rattle.account_store.proofs.tests.after_cut.Goals as goal

-- the value of an answer that is `Ok`
ok_is : {X E : Type 0} (P : X → Type 0) (r : Result X E) (x : X) → IfOk r P → r ≡ Ok x → P x
ok_is P r x holds is = subst (λ (q : Result _ _). IfOk q P) is holds

-- a bank of the lines that a choice leaves is what it leaves of the bank
same_left : (choice : ℕ → ℕ) (bank now left : BankState) (lines : List (List ℕ)) → now ≡ bank → lines ≡ surviving_lines choice 0 now.lines → left ≡ quiet_bank lines → left ≡ left_of choice bank
same_left choice bank now left lines same of_lines of_left = of_left ∙ ap quiet_bank of_lines ∙ ap (λ (b : BankState). quiet_bank (surviving_lines choice 0 b.lines)) same

pub recover-requires : goal.recover-requires
recover-requires g c =
    let s = c.args.store.now in
    let first = kept_of c.args.choice.now 0 c.banks.result.0.now.lines in
    let second = kept_of c.args.choice.now 2 c.banks.result.1.now.lines in
    let accounts : c.expect-accounts-2.result ≡ left_of first s.cells.bank =
    same_left first s.cells.bank c.banks.result.0.now c.expect-accounts-2.result c.expect-accounts.result.items c.banks.ensures.accounts
    (ok_is _ c.survive.result c.expect-accounts.result c.survive.ensures c.expect-accounts.ensures) (ok_is _ c.of.result c.expect-accounts-2.result c.of.ensures.is c.expect-accounts-2.ensures) in
    let epoch : c.expect-epoch-2.result ≡ left_of second s.epoch =
    same_left second s.epoch c.banks.result.1.now c.expect-epoch-2.result c.expect-epoch.result.items c.banks.ensures.epoch
    (ok_is _ c.survive-2.result c.expect-epoch.result c.survive-2.ensures c.expect-epoch.ensures) (ok_is _ c.of-2.result c.expect-epoch-2.result c.of-2.ensures.is c.expect-epoch-2.ensures) in
    let lawful = (c.cut_law.ensures s first second c.banks.ensures.whole).lawful in
    subst (λ (b : BankState). CanRecover b c.expect-epoch-2.result) (sym accounts) (subst (CanRecover (left_of first s.cells.bank)) (sym epoch) lawful)
