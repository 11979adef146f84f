use Rattle.std.proofs.Common.{◌≡◌, ℕ, List, ap, ◌∙◌, ◌<◌, ◌∷◌, length, sym, subst}
use Rattle.incll_var.specs.Cells.{CellBankState, IsCellBank, IsRunning, epoch_of}
use Rattle.incll_var.specs.Plans.{IsPlanned, HasPlacesFor}
use Rattle.incll_var.proofs.Behind.{played_behind}
use Rattle.incll_var.proofs.Played.{play_law, CanPlay, HasPlayed}
use Rattle.line_memory.specs.Line.{BankState}
use Rattle.flush_list.specs.Lists.{FlushListState, listed_behind}
use Rattle.incll_var.proofs.Stored.{marked_lines, place_left}
use Rattle.incll_var.proofs.Lists.{list_behind, running_stored, first_place}
use Rattle.incll_var.proofs.cells.CellBank.play.Goals as goal
use Rattle.incll_var.proofs.cells.CellBank.play.Goals.{After-mark}

behind : (c : After-mark) → HasPlayed c.self.inside.state c.self.inside.todo (listed_behind c.self.inside.stored.lines c.take_first-first.result.line) c.store.new.self c.take_first-first.new.self.stores
behind c = play_law (record { bank = c.self.inside.bank; state = c.self.inside.state; todo = c.self.inside.todo; stored = c.self.inside.stored.lines }) c.args.self.now c.args.plan.now.stores c.take_first-first.result c.take_first-first.new.self.stores c.store.new.self
    c.self.view_is c.take_first-first.ensures.first c.store.ensures.is c.store.ensures.whole c.self.invariant.0 (record { running = c.requires.running; planned = c.requires.planned; room = c.requires.room })

pub mark-requires : goal.mark-requires
mark-requires c = λ new.
    let lines = c.self.inside.bank.lines in
    let p = c.take_first-first.result in
    let ps = c.take_first-first.new.self.stores in
    let running : IsRunning c.self.inside.state = subst (λ (k : CellBankState). IsRunning k.state) (sym c.self.view_is) c.requires.running in
    let planned : IsPlanned (epoch_of c.args.self.now.state) c.args.self.now.bank.lines (p ∷ ps) = subst (IsPlanned (epoch_of c.args.self.now.state) c.args.self.now.bank.lines) c.take_first-first.ensures.first c.requires.planned in
    let room : HasPlacesFor c.args.self.now.bank.lines (p ∷ ps) = subst (HasPlacesFor c.args.self.now.bank.lines) c.take_first-first.ensures.first c.requires.room in
    let within : p.line < length lines = subst (λ (k : CellBankState). p.line < length k.bank.lines) (sym c.self.view_is) planned.places.0 in
    let here : HasPlacesFor lines (p ∷ ps) = subst (λ (k : CellBankState). HasPlacesFor k.bank.lines (p ∷ ps)) (sym c.self.view_is) room in
    place_left lines c.self.inside.stored.lines c.self.inside.stored.spare p.line (running_stored c.self.inside.state lines c.self.inside.stored.lines running c.self.invariant.0.stored) c.self.invariant.1.places within
    (first_place lines p ps within here) new

pub invariant_of-self : goal.invariant_of-self
invariant_of-self c =
    let b : CellBankState = record { bank = c.self.inside.bank; state = c.self.inside.state; todo = c.self.inside.todo; stored = c.self.inside.stored.lines } in
    let p = c.take_first-first.result in
    let ps = c.take_first-first.new.self.stores in
    let running : IsRunning b.state = subst (λ (k : CellBankState). IsRunning k.state) (sym c.self.view_is) c.requires.running in
    let planned : IsPlanned (epoch_of c.args.self.now.state) c.args.self.now.bank.lines (p ∷ ps) = subst (IsPlanned (epoch_of c.args.self.now.state) c.args.self.now.bank.lines) c.take_first-first.ensures.first c.requires.planned in
    let room : HasPlacesFor c.args.self.now.bank.lines (p ∷ ps) = subst (HasPlacesFor c.args.self.now.bank.lines) c.take_first-first.ensures.first c.requires.room in
    let within : p.line < length b.bank.lines = subst (λ (k : CellBankState). p.line < length k.bank.lines) (sym c.self.view_is) planned.places.0 in
    let here : HasPlacesFor b.bank.lines (p ∷ ps) = subst (λ (k : CellBankState). HasPlacesFor k.bank.lines (p ∷ ps)) (sym c.self.view_is) room in
    let listed : c.mark.new.self.lines ≡ listed_behind b.stored p.line = ap (λ (f : FlushListState). f.lines) c.mark.ensures ∙ marked_lines c.self.inside.stored p.line in (
      subst (λ (xs : List ℕ). IsCellBank (record b { bank = c.store.new.self; stored = xs })) (sym listed) (behind c).cells,
      list_behind b.state b.bank.lines c.store.new.self.lines c.self.inside.stored c.mark.new.self p ps running within here c.self.invariant.0.cells (behind c).cells.cells c.self.invariant.0.stored (behind c).cells.stored
          (ap (λ (k : BankState). k.lines) c.store.ensures.is) c.mark.ensures c.self.invariant.1,
    )

pub returns-clause-planned : goal.returns-clause-planned
returns-clause-planned c = subst (λ (b : CellBankState). IsPlanned (epoch_of b.state) c.store.new.self.lines c.take_first-first.new.self.stores) c.self.view_is (behind c).planned

pub returns-clause-room : goal.returns-clause-room
returns-clause-room c = (behind c).room

pub returns-clause-behind : goal.returns-clause-behind
returns-clause-behind c =
    let can : CanPlay c.args.self.now (c.take_first-first.result ∷ c.take_first-first.new.self.stores) = subst (CanPlay c.args.self.now) c.take_first-first.ensures.first (record { running = c.requires.running; planned = c.requires.planned; room = c.requires.room }) in
    let within : c.take_first-first.result.line < length c.self.inside.bank.lines = subst (λ (b : CellBankState). c.take_first-first.result.line < length b.bank.lines) (sym c.self.view_is) can.planned.places.0 in
    played_behind (record { bank = c.self.inside.bank; state = c.self.inside.state; todo = c.self.inside.todo; stored = c.self.inside.stored.lines }) c.args.self.now c.args.plan.now.stores c.take_first-first.result c.take_first-first.new.self.stores c.store.new.self
    c.self.view_is c.take_first-first.ensures.first c.store.ensures.is within

pub returns-clause-cells : goal.returns-clause-cells
returns-clause-cells c = (invariant_of-self c).0
