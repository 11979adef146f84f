use Rattle.std.proofs.Common.{◌≡◌, ◌≢◌, ℕ, ◌<◌, ◌-◌, arith, sym, ap, subst, ◌∙◌, length}
use Rattle.line_memory.specs.Line.{bank_load}
use Rattle.room_walks.proofs.Walks.{HasMet, met, stopped}
use Rattle.locked_map.proofs.Finding.{IsFinding, IsFound, at_key, further, in_room, at_stop}
use Rattle.locked_map.proofs.find.walk.Goals as goal

-- the walk met a line
step : (c : goal.In-Some) → HasMet (bank_load c.args.cells.now.bank) c.loop-line.walk c.next.new.self c.in-Some.line
step c = met (bank_load c.args.cells.now.bank) c.loop-line.walk c.next.new.self c.in-Some.line (sym c.in-Some.is ∙ c.next.ensures.line) c.next.ensures.behind

-- which is one of the room
within : (c : goal.In-Some) → c.in-Some.line < length c.args.cells.now.bank.lines
within c =
    let s = step c in
    let n = length c.args.cells.now.bank.lines in
    subst (λ (k : ℕ). k < n) (sym s.here) (in_room (bank_load c.args.cells.now.bank) n c.loop-line.walk.left c.loop-line.walk.line s.more s.some c.loop-line.invariant.1.walk)

pub overflow_cast-node : goal.overflow_cast-node
overflow_cast-node c = let lt = within c in let few = c.lines.ensures.count in omega (arith, lt, few)

pub load-requires-clause-line : goal.load-requires-clause-line
load-requires-clause-line c = within c

-- where it has the key
found : (c : goal.Then-load-key) → IsFound (bank_load c.args.cells.now.bank) (length c.args.cells.now.bank.lines) c.args.key c.args.first c.in-Some.line c.loop-line.before
found c =
    let r = bank_load c.args.cells.now.bank in
    let n = length c.args.cells.now.bank.lines in
    let s = met r c.loop-line.walk c.next.new.self c.in-Some.line (sym c.in-Some.is ∙ c.next.ensures.line) c.next.ensures.behind in
    let has : r c.loop-line.walk.line 0 ≡ c.args.key = ap (λ (k : ℕ). r k 0) (sym s.here) ∙ sym c.load.ensures ∙ c.if-load-key.true in
    subst (λ (k : ℕ). IsFound r n c.args.key c.args.first k c.loop-line.before) (sym s.here)
    (at_key r n c.args.key c.args.first c.loop-line.walk.left c.loop-line.before c.loop-line.walk.line s.more s.some has c.loop-line.invariant.1)

pub returns-then-load-key-clause-node : goal.returns-then-load-key-clause-node
returns-then-load-key-clause-node c = (found c).node_is

pub returns-then-load-key-clause-before : goal.returns-then-load-key-clause-before
returns-then-load-key-clause-before c = (found c).before_is

ended : (c : goal.In_default) → IsFound (bank_load c.args.cells.now.bank) (length c.args.cells.now.bank.lines) c.args.key c.args.first 0 c.loop-line.before
ended c =
    at_stop (bank_load c.args.cells.now.bank) (length c.args.cells.now.bank.lines) c.args.key c.args.first c.loop-line.walk.left c.loop-line.before c.loop-line.walk.line
    (stopped c.loop-line.walk (sym c.in_default.is ∙ c.next.ensures.line)) c.loop-line.invariant.1

pub returns-clause-node : goal.returns-clause-node
returns-clause-node c = (ended c).node_is

pub returns-clause-before : goal.returns-clause-before
returns-clause-before c = (ended c).before_is

pub loop-line-preserved : goal.loop-line-preserved
loop-line-preserved c =
    let r = bank_load c.args.cells.now.bank in
    let n = length c.args.cells.now.bank.lines in
    let at = c.loop-line.walk.line in
    let s = met r c.loop-line.walk c.next.new.self c.in-Some.line (sym c.in-Some.is ∙ c.next.ensures.line) c.next.ensures.behind in
    let next : c.next.new.self.line ≡ r at 2 = s.next ∙ ap (r at) c.loop-line.invariant.0 in
    let other : r at 0 ≢ c.args.key = λ e. c.if-load-key.false (c.load.ensures ∙ ap (λ (k : ℕ). r k 0) s.here ∙ e) in (
      s.word ∙ c.loop-line.invariant.0,
      subst (λ (k : ℕ). IsFinding r n c.args.key c.args.first k c.in-Some.line c.next.new.self.line) (sym s.left)
          (subst (λ (k : ℕ). IsFinding r n c.args.key c.args.first (c.loop-line.walk.left - 1) k c.next.new.self.line) (sym s.here)
          (subst (λ (k : ℕ). IsFinding r n c.args.key c.args.first (c.loop-line.walk.left - 1) at k) (sym next)
          (further r n c.args.key c.args.first c.loop-line.walk.left c.loop-line.before at s.more s.some other c.loop-line.invariant.1))),
    )
