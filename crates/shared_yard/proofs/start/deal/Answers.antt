use Rattle.std.proofs.Common.{◌≡◌, ℕ, suc, ◌+◌, ◌-◌, sym, ap, ◌∙◌, subst, arith}
use Rattle.shared_yard.specs.Plays.{SeatState}
use Rattle.shared_yard.specs.Rule.{opening_from}
use Rattle.shared_yard.specs.Seats.{AreDealt, opening_known}
use Rattle.shared_yard.proofs.Parting.{splits}
use Rattle.shared_yard.proofs.Dealing.{dealt_next, dealt_more}
use Rattle.shared_yard.proofs.start.deal.Goals as goal

pub split_seat-seat-requires : goal.split_seat-seat-requires
split_seat-seat-requires c = (c.loop-thread.invariant.table, c.requires.words, splits _ _)

pub opening_seat-requires-clause-known : goal.opening_seat-requires-clause-known
opening_seat-requires-clause-known c = let lt = c.loop-thread-test.true in
    ap (λ (m : SeatState). m.0) c.split_seat-seat.ensures.4 ∙ (dealt_next c.args.beginning.now c.loop-thread.thread (c.args.beginning.now.settings.threads - c.loop-thread.thread) (c.args.beginning.now.settings.threads - (c.loop-thread.thread + 1)) c.loop-thread.rest.me.0 (omega (arith, lt)) c.loop-thread.invariant.left).0

pub loop-thread-preserved : goal.loop-thread-preserved
loop-thread-preserved c = let lt = c.loop-thread-test.true in let inv = c.loop-thread.invariant in
    let next : suc c.loop-thread.thread ≡ c.loop-thread.thread + 1 = omega arith in record {
      within = omega (arith, lt);
      dealt = subst (AreDealt c.args.table.now.shared.table_id c.args.beginning.now (c.loop-thread.thread + 1)) (sym c.push_reserved.ensures.items)
          (dealt_more c.args.table.now.shared.table_id c.args.beginning.now c.loop-thread.thread c.loop-thread.dealt.items c.opening_seat.result inv.dealt (c.opening_seat.ensures.table ∙ c.split_seat-seat.ensures.3 ∙ inv.table) c.opening_seat.ensures.known);
      table = c.split_seat-seat.ensures.0 ∙ inv.table;
      left = ap (λ (m : SeatState). m.0) c.split_seat-seat.ensures.2
          ∙ (dealt_next c.args.beginning.now c.loop-thread.thread (c.args.beginning.now.settings.threads - c.loop-thread.thread) (c.args.beginning.now.settings.threads - (c.loop-thread.thread + 1)) c.loop-thread.rest.me.0 (omega (arith, lt)) inv.left).1
          ∙ ap (λ (i : ℕ). opening_from c.args.beginning.now i (c.args.beginning.now.settings.threads - (c.loop-thread.thread + 1))) next;
      no_slot = ap (λ (m : SeatState). m.1) c.split_seat-seat.ensures.2 ∙ inv.no_slot;
      capacity = search (arith, inv.capacity, c.push_reserved.ensures.capacity);
    }

pub returns : goal.returns
returns c = let inv = c.loop-thread.invariant in let end = c.loop-thread-test.false in let within = inv.within in
    let last : c.args.beginning.now.settings.threads - 1 ≡ c.loop-thread.thread = omega (arith, end, within) in
    let all : c.loop-thread.thread + 1 ≡ c.args.beginning.now.settings.threads = omega (arith, end, within) in
    subst (λ (n : ℕ). AreDealt c.args.table.now.shared.table_id c.args.beginning.now n c.push_reserved-2.new.self.items) all
    (subst (AreDealt c.args.table.now.shared.table_id c.args.beginning.now (c.loop-thread.thread + 1)) (sym c.push_reserved-2.ensures.items)
    (dealt_more c.args.table.now.shared.table_id c.args.beginning.now c.loop-thread.thread c.loop-thread.dealt.items c.opening_seat-2.result inv.dealt (c.opening_seat-2.ensures.table ∙ inv.table)
    (c.opening_seat-2.ensures.known ∙ ap (λ (i : ℕ). opening_known c.args.beginning.now i) last)))
