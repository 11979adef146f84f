use Rattle.std.proofs.Common.{◌≡◌, ◌≤◌, ◌+◌, [], ◌∷◌, List, ℕ, drop, length, arith, sym, ap, ◌∙◌, subst}
use Rattle.std.proofs.lemmas.List.{length-append}
use Rattle.std.specs.Vec.Iter.{into_iter_items}
use Rattle.line_memory.specs.Line.{BankState, bank_at}
use Rattle.rooms.specs.declared.room.Room.{Room}
use Rattle.epoch_word.specs.declared.stage.EpochStage.TheVariants.{Before}
use Rattle.recovery.specs.Recovering.{IsRoomIn, WritesLittleBack, EachFrom, asks_in}
use Rattle.recovery.specs.Banks.{IsBankOf, HasEvents, bank_events, most_in, most_at}
use Rattle.seq_object.specs.declared.settings.Settings.{Settings}
use Rattle.rooms.specs.Rooms.{bank_of}
use Rattle.recovery.proofs.Lists.{each_push}
use Rattle.recovery.proofs.Taken.{IsTaken, taken}
use Rattle.recovery.proofs.begin.rooms_of.Goals as goal

pub room_of-requires-clause-bank : goal.room_of-requires-clause-bank
room_of-requires-clause-bank c =
    let at : IsTaken c.args.banks.items (into_iter_items c.next.new.self) c.in-Some.bank (length c.loop-bank.rooms.items) =
    taken c.args.banks.items (into_iter_items c.next.new.self) c.in-Some.bank (length c.loop-bank.rooms.items) (sym c.in-Some.ensures.steps.0 ∙ c.loop-bank.invariant.rest) in
    let n : length c.loop-bank.rooms.items ≡ c.len-room.result = omega (arith, c.len-room.ensures, c.loop-bank.rooms.ok) in
    let o = c.requires.banks.0 in
    (o, c.requires.banks.1.0, subst (λ (k : ℕ). IsBankOf o k c.in-Some.bank) n (subst (λ (b : BankState). IsBankOf o (length c.loop-bank.rooms.items) b) at.here (c.requires.banks.1.1 (length c.loop-bank.rooms.items) at.within)))

few_at : (settings : Settings) (epoch k : ℕ) (x : Room) (bank other : BankState) → other ≡ bank → (bank_of x).write_backs + asks_in Before x ≡ most_in settings epoch k bank → (bank_of x).write_backs + asks_in Before x ≤ most_in settings epoch k other
few_at settings epoch k x bank other same few =
    let all : (bank_of x).write_backs + asks_in Before x ≡ most_in settings epoch k other = few ∙ ap (most_in settings epoch k) (sym same) in
    omega (arith, all)

pub loop-bank-preserved : goal.loop-bank-preserved
loop-bank-preserved c =
    let at : IsTaken c.args.banks.items (into_iter_items c.next.new.self) c.in-Some.bank (length c.loop-bank.rooms.items) =
    taken c.args.banks.items (into_iter_items c.next.new.self) c.in-Some.bank (length c.loop-bank.rooms.items) (sym c.in-Some.ensures.steps.0 ∙ c.loop-bank.invariant.rest) in
    let n : length c.loop-bank.rooms.items ≡ c.len-room.result = omega (arith, c.len-room.ensures, c.loop-bank.rooms.ok) in
    let more : length c.push.new.self.items ≡ length c.loop-bank.rooms.items + 1 =
    ap (λ (xs : List Room). length xs) c.in_ok-push.ensures.items ∙ length-append c.loop-bank.rooms.items (c.in_ok-room_of.field-0 ∷ []) in
    record {
      can_next = tt;
      is_finite = tt;
      long = omega (arith, c.in-Some.ensures.steps.1, c.loop-bank.invariant.long, ap (λ (bs : List BankState). length bs) c.in-Some.ensures.steps.0);
      rest = at.behind ∙ ap (λ (k : ℕ). drop k c.args.banks.items) (sym more);
      within = omega (arith, at.within, more);
      about = λ o banks.
          subst (λ (xs : List Room). EachFrom (IsRoomIn o Before) 0 xs) (sym c.in_ok-push.ensures.items)
          (each_push (IsRoomIn o Before) 0 c.len-room.result c.loop-bank.rooms.items c.in_ok-room_of.field-0 (omega (arith, n)) (c.loop-bank.invariant.about o banks)
          (c.in_ok-room_of.ensures.about o banks.0
          (subst (λ (k : ℕ). IsBankOf o k c.in-Some.bank) n (subst (λ (b : BankState). IsBankOf o (length c.loop-bank.rooms.items) b) at.here (banks.1 (length c.loop-bank.rooms.items) at.within)))));
      events = subst (λ (xs : List Room). EachFrom (HasEvents c.args.settings c.args.epoch c.args.banks.items) 0 xs) (sym c.in_ok-push.ensures.items)
          (each_push (HasEvents c.args.settings c.args.epoch c.args.banks.items) 0 c.len-room.result c.loop-bank.rooms.items c.in_ok-room_of.field-0 (omega (arith, n)) c.loop-bank.invariant.events
          (c.in_ok-room_of.ensures.events ∙ ap (bank_events c.args.settings c.args.epoch c.len-room.result) (sym (subst (λ (k : ℕ). bank_at c.args.banks.items k ≡ c.in-Some.bank) n at.here))));
      few = subst (λ (xs : List Room). EachFrom (WritesLittleBack (most_at c.args.settings c.args.epoch c.args.banks.items) Before) 0 xs) (sym c.in_ok-push.ensures.items)
          (each_push (WritesLittleBack (most_at c.args.settings c.args.epoch c.args.banks.items) Before) 0 c.len-room.result c.loop-bank.rooms.items c.in_ok-room_of.field-0 (omega (arith, n)) c.loop-bank.invariant.few
          (few_at c.args.settings c.args.epoch c.len-room.result c.in_ok-room_of.field-0 c.in-Some.bank (bank_at c.args.banks.items c.len-room.result)
          (subst (λ (k : ℕ). bank_at c.args.banks.items k ≡ c.in-Some.bank) n at.here) c.in_ok-room_of.ensures.few));
    }
