use Rattle.std.proofs.Common.{◌≡◌, ◌-◌, ℕ, List, length, refl, sym, ap, ◌∙◌, subst, arith}
use Rattle.seq_object.specs.Sizes.{sizes_of, room_count}
use Rattle.line_memory.specs.Line.{BankState, bank_at}
use Rattle.room_model.specs.Image.{image_of, nothing_kept, epoch_at}
use Rattle.life_model.specs.Life.{Opening, sizes}
use Rattle.life_model.specs.Lives.{ResumesFrom}
use Rattle.recovery.specs.Recovering.{IsRecovery, WritesLittleBack, EachFrom}
use Rattle.epoch_word.specs.declared.stage.EpochStage.TheVariants.{Before}
use Rattle.recovery.specs.Banks.{AreBanksOf, HasEvents, most_at}
use Rattle.recovery.proofs.TornCounts.{begun_count}
use Rattle.recovery.proofs.Taken.{some_banks, last_holds, all_banks, number_is, few_rooms, begins, epoch_last, life_of, resumes}
use Rattle.room_model.specs.EpochLine.{memory_epoch}
use Rattle.epoch_word.specs.declared.stage.EpochStage.TheVariants as stages
use Rattle.recovery.proofs.recovery.Recovery.of.Goals as goal

pub memory_epoch_in-epoch-requires : goal.memory_epoch_in-epoch-requires
memory_epoch_in-epoch-requires c =
    let o = life_of c.args.settings c.args.memory c.requires.lawful in
    let from = resumes c.args.settings c.args.memory c.requires.lawful in
    record { some = some_banks o c.args.memory c.requires.quiet from; holds = last_holds o c.args.memory c.requires.quiet from }

pub rooms_of-requires-clause-number : goal.rooms_of-requires-clause-number
rooms_of-requires-clause-number c =
    ap (λ (bs : List BankState). length bs) c.into_banks.ensures
    ∙ number_is (life_of c.args.settings c.args.memory c.requires.lawful) c.args.memory c.requires.quiet (resumes c.args.settings c.args.memory c.requires.lawful) c.args.settings refl

pub rooms_of-requires-clause-few : goal.rooms_of-requires-clause-few
rooms_of-requires-clause-few c =
    let few = few_rooms (life_of c.args.settings c.args.memory c.requires.lawful) c.args.memory c.requires.quiet (resumes c.args.settings c.args.memory c.requires.lawful) in
    omega (arith, few, ap (λ (bs : List BankState). length bs) c.into_banks.ensures)

banks_are : (c : goal.After-into_banks) (o : Opening) → o.settings ≡ c.args.settings → ResumesFrom (sizes o) (image_of c.args.memory nothing_kept) o → AreBanksOf o c.args.settings c.memory_epoch_in-epoch.result c.into_banks.result.items
banks_are c o is from =
    subst (λ (e : ℕ). AreBanksOf o c.args.settings e c.into_banks.result.items) (sym c.memory_epoch_in-epoch.ensures)
    (subst (λ (bs : List BankState). AreBanksOf o c.args.settings (memory_epoch (bank_at c.args.memory (length c.args.memory - 1))) bs) (sym c.into_banks.ensures) (all_banks o c.args.memory c.requires.quiet from c.args.settings is))

pub rooms_of-requires-clause-banks : goal.rooms_of-requires-clause-banks
rooms_of-requires-clause-banks c =
    let o = life_of c.args.settings c.args.memory c.requires.lawful in
    (o, banks_are c o refl (resumes c.args.settings c.args.memory c.requires.lawful))

is_recovery : (c : goal.In_ok-held) (o : Opening) → o.settings ≡ c.args.settings → ResumesFrom (sizes o) (image_of c.args.memory nothing_kept) o
    → IsRecovery o (record { settings = c.args.settings; rooms = c.in_ok-rooms.rooms.items; stage = stages.Before })
is_recovery c o is from =
    begins o c.args.memory c.requires.quiet from c.args.settings c.in_ok-rooms.rooms.items is c.requires.below (c.in_ok-rooms.ensures.count ∙ ap (λ (bs : List BankState). length bs) c.into_banks.ensures)
    (c.in_ok-rooms.ensures.about o (subst (λ (e : ℕ). AreBanksOf o c.args.settings e c.into_banks.result.items) (sym c.memory_epoch_in-epoch.ensures)
    (subst (λ (bs : List BankState). AreBanksOf o c.args.settings (memory_epoch (bank_at c.args.memory (length c.args.memory - 1))) bs) (sym c.into_banks.ensures) (all_banks o c.args.memory c.requires.quiet from c.args.settings is))))

pub invariant_of-result : goal.invariant_of-result
invariant_of-result c =
    let o = life_of c.args.settings c.args.memory c.requires.lawful in
    record {
      some = o;
      about = is_recovery c o refl (resumes c.args.settings c.args.memory c.requires.lawful);
      no_spare = c.in_ok-spare.ensures.items;
      no_held = c.in_ok-held.ensures.items;
      banks = omega (arith, c.in_ok-spare.ensures.capacity, c.len.ensures, c.in_ok-rooms.rooms.ok);
      numbers = omega (arith, c.in_ok-held.ensures.capacity, c.len-2.ensures, c.in_ok-rooms.rooms.ok);
    }

pub returns-clause-about : goal.returns-clause-about
returns-clause-about c = λ o is from. is_recovery c o is from

pub returns-clause-few : goal.returns-clause-few
returns-clause-few c =
    let o = life_of c.args.settings c.args.memory c.requires.lawful in
    let from = resumes c.args.settings c.args.memory c.requires.lawful in
    let epoch : c.memory_epoch_in-epoch.result ≡ epoch_at (sizes_of c.args.settings) (image_of c.args.memory nothing_kept) = c.memory_epoch_in-epoch.ensures ∙ epoch_last o c.args.memory c.requires.quiet from in
    subst (λ (e : ℕ). EachFrom (WritesLittleBack (most_at c.args.settings e c.args.memory) Before) 0 c.in_ok-rooms.rooms.items) epoch
    (subst (λ (bs : List BankState). EachFrom (WritesLittleBack (most_at c.args.settings c.memory_epoch_in-epoch.result bs) Before) 0 c.in_ok-rooms.rooms.items) c.into_banks.ensures c.in_ok-rooms.ensures.few)

pub returns-clause-count : goal.returns-clause-count
returns-clause-count c =
    let o = life_of c.args.settings c.args.memory c.requires.lawful in
    let from = resumes c.args.settings c.args.memory c.requires.lawful in
    let epoch : c.memory_epoch_in-epoch.result ≡ epoch_at (sizes_of c.args.settings) (image_of c.args.memory nothing_kept) = c.memory_epoch_in-epoch.ensures ∙ epoch_last o c.args.memory c.requires.quiet from in
    let number : length c.in_ok-rooms.rooms.items ≡ room_count (sizes_of c.args.settings) =
    c.in_ok-rooms.ensures.count ∙ ap (λ (bs : List BankState). length bs) c.into_banks.ensures ∙ number_is o c.args.memory c.requires.quiet from c.args.settings refl in
    begun_count c.args.settings c.args.memory c.in_ok-rooms.rooms.items number
    (subst (λ (e : ℕ). EachFrom (HasEvents c.args.settings e c.args.memory) 0 c.in_ok-rooms.rooms.items) epoch
    (subst (λ (bs : List BankState). EachFrom (HasEvents c.args.settings c.memory_epoch_in-epoch.result bs) 0 c.in_ok-rooms.rooms.items) c.into_banks.ensures c.in_ok-rooms.ensures.events))
