use Rattle.std.proofs.Common.{◌≡◌, ℕ, ◌<◌, ◌≤◌, IfOk, IfSome, Option, Some, None, Result, Ok, Err, List, length, map, sym, ap, ◌∙◌, subst, rules, arith}
use Rattle.std.specs.Prelude.{slice_get, slice_index}
use Rattle.std.specs.Result.{result_ok}
use Rattle.std.specs.Global.{Vec}
use Rattle.std.specs.declared.alloc.AllocError.{AllocError}
use Rattle.std.proofs.lemmas.Option.{none-some, same_Some, slice_get_within, get_or_from_slice_get}
use Rattle.seq_object.specs.declared.command.Command.{Command}
use Rattle.seq_object.specs.Sizes.{sizes_of}
use Rattle.line_memory.specs.Line.{BankState}
use Rattle.room_model.specs.MapRoom.{live_layout}
use Rattle.life_model.specs.Life.{script_of}
use Rattle.power_cut.specs.Image.{sizes_in, rooms_in}
use Rattle.power_cut.specs.Cut.{quiet_memory}
use Rattle.image_check.specs.Recovered.{IsRecovered}
use Rattle.script_text.specs.Program.{program_of}
use Rattle.script_run.specs.Jobs.{MayResume}
use Rattle.script_run.proofs.Openings.{script_at}
use Rattle.script_run.proofs.Checked.{checked_may_resume}
use Rattle.script_run.proofs.resume_tests.ready.Goals as goal

-- what holds of an answer holds of what is left of it where it was no refusal
left_of : {X E : Type 0} (P : X → Type 0) (r : Result X E) (x : X) → Some x ≡ result_ok r → IfOk r P → P x
left_of P (Ok y) x is holds = subst P (sym (same_Some x y is)) holds
left_of P (Err e) x is holds = absurd (none-some x (sym is))

if_left : {X E : Type 0} (P Q : X → Type 0) (r : Result X E) → IfOk r P → ((x : X) → P x → Q x) → IfSome (result_ok r) Q
if_left P Q (Ok x) holds then = then x holds
if_left P Q (Err e) holds then = tt

-- the first thread is not past its script's end
first_within : (positions : List ℕ) (place : ℕ) (threads : List (Vec Command)) (first : Vec Command) → slice_get positions 0 ≡ Some place → slice_get threads 0 ≡ Some first → place ≤ length first.items
    → slice_index positions 0 ≤ length (script_of (map (λ (x : Vec Command). x.items) threads) 0)
first_within positions place threads first at there few =
    let is : slice_index positions 0 ≡ place = get_or_from_slice_get positions 0 place 0 at in
    let script : script_of (map (λ (x : Vec Command). x.items) threads) 0 ≡ first.items =
    script_at threads 0 first (slice_get_within threads 0 first there) ∙ ap (λ (x : Vec Command). x.items) (get_or_from_slice_get threads 0 first first there) in
    let same : length (script_of (map (λ (x : Vec Command). x.items) threads) 0) ≡ length first.items = ap (λ (l : List Command). length l) script in
    omega (arith, is, same, few)

pub returns : goal.returns
returns c =
    let s = c.args.script.now in
    let found = c.in_ok-found.found in
    let checked : IsRecovered live_layout (sizes_in c.args.image) (rooms_in c.args.image) found = left_of (λ x. IsRecovered live_layout (sizes_in c.args.image) (rooms_in c.args.image) x) c.check_image.result found c.in_ok-found.ensures.value c.check_image.ensures.recovers in
    let sizes : sizes_in c.args.image ≡ sizes_of s.settings = search rules in
    let early : found.epoch < 4278190080 = omega (arith, c.if-found-ge4278190080.false) in
    let few : c.in_ok-place.field-0.now ≤ length c.in_ok-first.field-0.now.items = omega (arith, c.if-place-commands.false, c.len-commands.ensures) in
    let first = first_within found.positions.items c.in_ok-place.field-0.now s.threads.items c.in_ok-first.field-0.now (ap (λ (l : List ℕ). slice_get l 0) (sym c.deref.ensures.value) ∙ sym c.in_ok-place.ensures.value)
    (ap (λ (l : List (Vec Command)). slice_get l 0) (sym c.deref-2.ensures.value) ∙ sym c.in_ok-first.ensures.value) few in
    subst (λ (o : Option (List BankState)). IfSome o (λ memory. MayResume s.settings (program_of s).threads memory)) (sym c.ok-2.ensures.value)
    (if_left (λ memory. memory ≡ quiet_memory (rooms_in c.args.image)) (λ memory. MayResume s.settings (program_of s).threads memory) c.image_memory.result c.image_memory.ensures.is
    (λ memory is. checked_may_resume s.settings (program_of s).threads (sizes_in c.args.image) (rooms_in c.args.image) found memory checked sizes is early
    (λ i lt. let one : 0 ≡ i = omega (arith, lt, c.if-script-ne1.false) in subst (λ (k : ℕ). slice_index found.positions.items k ≤ length (script_of (program_of s).threads k)) one first)))
