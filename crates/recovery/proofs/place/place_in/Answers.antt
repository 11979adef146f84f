use Rattle.std.proofs.Common.{◌≡◌, ◌==◌, ◌<◌, ℕ, List, length, true, false, eq-eqb, refl, sym, ap, ◌∙◌, subst, arith}
use Rattle.std.proofs.lemmas.Bool.{ne_eqb}
use Rattle.seq_object.specs.Sizes.{sizes_of, thread_room}
use Rattle.seq_object.specs.declared.settings.Settings.{Settings}
use Rattle.seq_object.specs.declared.sizes.Sizes.{Sizes}
use Rattle.line_memory.specs.Line.{BankState, bank_at, line_at, line_of}
use Rattle.room_model.specs.Cell.{tag_of}
use Rattle.recovery.proofs.Places.{place_line, place_read}
use Rattle.recovery.proofs.Taken.{last_holds, number_is, epoch_last, life_of, resumes}
use Rattle.recovery.proofs.place.place_in.Goals as goal

pub memory_epoch_in-epoch-requires-clause-holds : goal.memory_epoch_in-epoch-requires-clause-holds
memory_epoch_in-epoch-requires-clause-holds c = last_holds (life_of c.args.settings c.args.memory.now c.requires.lawful) c.args.memory.now c.requires.quiet (resumes c.args.settings c.args.memory.now c.requires.lawful)

room_is : (settings : Settings) (z : Sizes) (thread room : ℕ) → room ≡ thread_room z thread → z ≡ sizes_of settings → room ≡ thread_room (sizes_of settings) thread
room_is settings z thread room is same = is ∙ ap (λ (y : Sizes). thread_room y thread) same

pub bank-requires : goal.bank-requires
bank-requires c =
    let number = number_is (life_of c.args.settings c.args.memory.now c.requires.lawful) c.args.memory.now c.requires.quiet (resumes c.args.settings c.args.memory.now c.requires.lawful) c.args.settings refl in
    let at = room_is c.args.settings c.sizes.result c.args.thread c.thread_room.result c.thread_room.ensures c.sizes.ensures in
    let lt = c.requires.thread in
    omega (arith, number, at, lt)

pub base-words-requires : goal.base-words-requires
base-words-requires c =
    subst (λ (b : BankState). 0 < length b.lines) (sym (c.bank.ensures.is ∙ ap (bank_at c.args.memory.now) (room_is c.args.settings c.sizes.result c.args.thread c.thread_room.result c.thread_room.ensures c.sizes.ensures)))
    (place_line c.args.settings c.args.memory.now c.requires.lawful c.requires.quiet c.args.thread c.requires.thread)

line_is : (memory : List BankState) (bank : BankState) (room at : ℕ) → bank ≡ bank_at memory room → room ≡ at → (line_at bank.lines 0).base ≡ (line_of memory at 0).base
line_is memory bank room at is same = ap (λ (b : BankState). (line_at b.lines 0).base) (is ∙ ap (bank_at memory) same)

pub returns-then-words-from : goal.returns-then-words-from
returns-then-words-from c = λ o is from.
    let test : (tag_of c.base-words.result == c.from.result) ≡ true = eq-eqb (tag_of c.base-words.result) c.from.result c.if-words-from.true in
    sym (place_read o c.args.settings is c.args.memory.now c.requires.quiet from c.args.thread c.requires.thread c.from.result c.base-words.result true
    (c.from.ensures ∙ c.memory_epoch_in-epoch.ensures ∙ epoch_last o c.args.memory.now c.requires.quiet from) (c.base-words.ensures ∙ line_is c.args.memory.now c.bank.result.now c.thread_room.result _ c.bank.ensures.is (room_is c.args.settings c.sizes.result c.args.thread c.thread_room.result c.thread_room.ensures c.sizes.ensures)) test)

pub returns-else-words-from : goal.returns-else-words-from
returns-else-words-from c = λ o is from.
    let test : (tag_of c.base-words.result == c.from.result) ≡ false = ne_eqb (tag_of c.base-words.result) c.from.result c.if-words-from.false in
    sym (place_read o c.args.settings is c.args.memory.now c.requires.quiet from c.args.thread c.requires.thread c.from.result c.base-words.result false
    (c.from.ensures ∙ c.memory_epoch_in-epoch.ensures ∙ epoch_last o c.args.memory.now c.requires.quiet from) (c.base-words.ensures ∙ line_is c.args.memory.now c.bank.result.now c.thread_room.result _ c.bank.ensures.is (room_is c.args.settings c.sizes.result c.args.thread c.thread_room.result c.thread_room.ensures c.sizes.ensures)) test)
