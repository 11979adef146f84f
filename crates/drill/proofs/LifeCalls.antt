-- What the calls that live a drill tell, from what the calls below them told.
use Rattle.std.proofs.Common.{◌≡◌, ◌≢◌, ℕ, ◌+◌, ◌*◌, ◌<◌, ◌≤◌, ◌^◌, ◌⊎◌, List, [], length, sum, sym, ap, ◌∙◌, subst, inl, inr, arith}
use Rattle.std.specs.Prelude.{Result, Ok, Err, IfOk, OnErr, sum_by}
use Rattle.std.specs.List.{All}
use Rattle.std.specs.declared.alloc.AllocError.{AllocError}
use Rattle.std.proofs.lemmas.List.Elements.{All-from_get_or}
use Rattle.std.proofs.lemmas.List.Sums.{sum-map, sum_by-le}
use Rattle.seq_object.specs.declared.history.Entry.{Entry}
use Rattle.seq_object.specs.declared.history.RestartPoint.{RestartPoint}
use Rattle.seq_object.specs.declared.settings.Settings.{Settings}
use Rattle.seq_object.specs.declared.sizes.Sizes.{Sizes}
use Rattle.seq_object.specs.Sizes.{sizes_of, AreValid}
use Rattle.seq_object.specs.History.{State, after, first_state, first_point, of_thread, point_at}
use Rattle.line_memory.specs.Line.{BankState}
use Rattle.room_model.specs.MapRoom.{live_layout}
use Rattle.room_model.specs.Formatted.{formatted_memory}
use Rattle.room_model.specs.Image.{ImageRooms, image_of, nothing_kept, HasRooms, IsLawful, Recovers}
use Rattle.life_model.specs.declared.life.Life.TheVariants.{Start}
use Rattle.life_model.specs.declared.life.Outcome.{Outcome}
use Rattle.life_model.specs.declared.life.Outcome.TheVariants.{Starved}
use Rattle.life_model.specs.Life.{script_of}
use Rattle.life_model.specs.Lives.{HasOneHistory}
use Rattle.life_laws.proofs.States.{one_state}
use Rattle.power_cut.specs.Cut.{choosing, quiet_memory}
use Rattle.store_order.specs.declared.choice.Choice.{Choice}
use Rattle.image_check.specs.declared.recovered.Recovered.{Recovered}
use Rattle.image_check.specs.Recovered.{IsRecovered}
use Rattle.script_run.specs.Jobs.{MayResume, IsReady}
use Rattle.drill.specs.Scripts.{drill_settings, drill_commands, drill_choice}
use Rattle.drill.specs.Lives.{IsLivedOver, HasLived, IsLeftAtWant, drill_memory, memory_behind}
use Rattle.drill.proofs.Histories.{HoldsHistory, place_behind, place_within}
use Rattle.drill.proofs.NextLives.{scripts_few, lives_hold, has_rooms, lived_may_resume, lived_first, lived_more}

-- MEMORIES

-- memory that is formatted by the settings of drills
pub formatted_is : (s : Settings) (r : Result (List BankState) AllocError) → s ≡ drill_settings → IfOk r (λ memory. memory ≡ formatted_memory (sizes_of s)) → IfOk r (λ memory. memory ≡ drill_memory)
unfolding drill_memory
formatted_is s (Ok memory) same is = is ∙ ap (λ (x : Settings). formatted_memory (sizes_of x)) same
formatted_is s (Err error) same is = tt

-- is ready for the first life
pub ready_first : (n : ℕ) (memory : List BankState) → memory ≡ drill_memory → IsReady Start drill_settings (drill_commands n) memory
unfolding drill_memory
ready_first n memory is = is

-- and that which is made of an image is ready for the next one
pub ready_next : (n before : ℕ) (memory over : List BankState) → before < 8 → (outcome : Outcome) × HasLived n before outcome memory → over ≡ memory_behind n before memory
    → MayResume drill_settings (drill_commands n) over
ready_next n before memory over lt lived is = subst (MayResume drill_settings (drill_commands n)) (sym is) (lived_may_resume n before lived.0 memory lt lived.1)

-- what is said of a memory of these sizes and rooms is said of one of which an image is lawful
pub of_lawful : (A : Type 0) (s : Settings) (memory : List BankState) → s ≡ drill_settings → IsLawful live_layout (sizes_of drill_settings) (image_of memory nothing_kept)
    → (AreValid (sizes_of s) → HasRooms (sizes_of s) memory → A) → A
of_lawful A s memory same lawful says =
    let own : IsLawful live_layout (sizes_of s) (image_of memory nothing_kept) = subst (λ (x : Settings). IsLawful live_layout (sizes_of x) (image_of memory nothing_kept)) (sym same) lawful in
    says own.1.valid (has_rooms (sizes_of s) memory nothing_kept own)

-- OUTCOMES

-- what is said of an outcome is said of it where it is answered
pub of_outcome : (P : Outcome → Type 0) (outcome : Outcome) (r : Result Outcome AllocError) → P outcome → IfOk r (λ same. (same ≡ outcome) × (same ≢ Starved)) → IfOk r P
of_outcome P outcome (Ok same) p is = subst P (sym is.0) p
of_outcome P outcome (Err error) p is = tt

-- and what holds anyway is said at a refusal
pub at_refusal : (A : Type 0) (r : Result Outcome AllocError) → A → OnErr r A
at_refusal A (Ok outcome) a = tt
at_refusal A (Err error) a = a

-- a life that was lived over some memory is told with those before it
pub told_lived : (n life : ℕ) (over left : List BankState) (r : Result Outcome AllocError) → ((outcome : Outcome) → IsLivedOver n life over outcome left → HasLived n life outcome left)
    → IfOk r (λ outcome. IsLivedOver n life over outcome left) → IfOk r (λ outcome. HasLived n life outcome left)
told_lived n life over left (Ok outcome) tells is = tells outcome is
told_lived n life over left (Err error) tells is = tt

-- also where it starved
pub told_refused : (n life : ℕ) (over left : List BankState) (r : Result Outcome AllocError) → life ≤ 8 → ((outcome : Outcome) → IsLivedOver n life over outcome left → HasLived n life outcome left)
    → OnErr r ((left ≡ []) ⊎ ((outcome : Outcome) × IsLivedOver n life over outcome left)) → OnErr r (IsLeftAtWant n left)
told_refused n life over left (Ok outcome) le tells is = tt
told_refused n life over left (Err error) le tells is = elim is [ inl none ↦ inl none | inr lived ↦ inr (life, le, (lived.0, tells lived.0 lived.1)) ]

-- the first life
pub tells_first : (n : ℕ) (over left : List BankState) → over ≡ drill_memory → (outcome : Outcome) → IsLivedOver n 0 over outcome left → HasLived n 0 outcome left
tells_first n over left same outcome is = lived_first n outcome left (subst (λ (m : List BankState). IsLivedOver n 0 m outcome left) same is)

-- the life behind others
pub tells_next : (n before : ℕ) (memory over left : List BankState) → (ended : Outcome) × HasLived n before ended memory → over ≡ memory_behind n before memory → (outcome : Outcome)
    → IsLivedOver n (before + 1) over outcome left → HasLived n (before + 1) outcome left
tells_next n before memory over left lived same outcome is =
    lived_more n before lived.0 outcome memory left lived.1 (subst (λ (m : List BankState). IsLivedOver n (before + 1) m outcome left) same is)

-- the last life of all
pub lived_all : (n life : ℕ) (outcome : Outcome) (memory : List BankState) → life ≡ 8 → HasLived n life outcome memory → HasLived n 8 outcome memory
lived_all n life outcome memory last lived = subst (λ (k : ℕ). HasLived n k outcome memory) last lived

-- POSITIONS

-- what lives left recovers to the state that one history left, with each thread behind its entries
pub places_held : (n life : ℕ) (outcome : Outcome) (memory : List BankState) (state : State) → HasLived n life outcome memory
    → Recovers live_layout (sizes_of drill_settings) (image_of memory nothing_kept) state
    → (h : List Entry) × HasOneHistory (sizes_of drill_settings) (drill_commands n) (image_of memory nothing_kept) h
    × ((thread : ℕ) → thread < 4 → (point_at state.points thread).position ≡ length (of_thread thread h))
places_held n life outcome memory state lived lawful =
    let z : Sizes = sizes_of drill_settings in
    let image : ImageRooms = image_of memory nothing_kept in
    let held : HoldsHistory drill_settings (drill_commands n) image =
    subst (λ (m : List BankState). HoldsHistory drill_settings (drill_commands n) (image_of m nothing_kept)) lived.left (lives_hold n lived.last lived.before nothing_kept lived.lives) in
    let same : state ≡ after z (first_state z) held.0 = one_state live_layout z image state (after z (first_state z) held.0) lawful held.1.recovers in
    (held.0, held.1, λ thread lt. ap (λ (s : State). (point_at s.points thread).position) same ∙ place_behind z held.0 thread lt)

-- to positions that are together far below 2 to the 64
pub positions_few : (n life : ℕ) (outcome : Outcome) (memory : List BankState) (found : Recovered) → HasLived n life outcome memory
    → IsRecovered live_layout (sizes_of drill_settings) (image_of memory nothing_kept) found → sum found.positions.items < 2 ^ 64
positions_few n life outcome memory found lived is =
    let z : Sizes = sizes_of drill_settings in
    let held = places_held n life outcome memory is.state lived is.lawful in
    let many : length is.state.points ≡ 4 = is.lawful.threads in
    let each : (i : ℕ) → i < length is.state.points → (point_at is.state.points i).position ≤ 200 = λ i lt.
    let place : (point_at is.state.points i).position ≡ length (of_thread i held.0) = held.2 i (subst (λ (k : ℕ). i < k) many lt) in
    let within : length (of_thread i held.0) ≤ length (script_of (drill_commands n) i) = place_within z (drill_commands n) (image_of memory nothing_kept) held.0 i held.1 in
    omega (arith, place, within, scripts_few n i) in
    let all : All (λ (p : RestartPoint). p.position ≤ 200) is.state.points = All-from_get_or (λ (p : RestartPoint). p.position ≤ 200) is.state.points first_point each in
    let total : sum_by (λ (p : RestartPoint). p.position) is.state.points ≤ length is.state.points * 200 = sum_by-le (λ (p : RestartPoint). p.position) 200 is.state.points all in
    let sums : sum found.positions.items ≡ sum_by (λ (p : RestartPoint). p.position) is.state.points = ap sum is.positions ∙ sum-map (λ (p : RestartPoint). p.position) is.state.points in
    let most : length is.state.points * 200 ≡ 800 = ap (λ (k : ℕ). k * 200) many in
    omega (arith, total, sums, most)

-- the memory that is made of the image of a cut is what is behind that life
pub remade_is : (n life : ℕ) (left : List BankState) (keep : Choice) (rooms : ImageRooms) (r : Result (List BankState) AllocError) → keep ≡ drill_choice n life → rooms ≡ image_of left (choosing keep left)
    → IfOk r (λ memory. memory ≡ quiet_memory rooms) → IfOk r (λ memory. memory ≡ memory_behind n life left)
remade_is n life left keep rooms (Ok memory) is_keep is_rooms is = is ∙ ap quiet_memory (is_rooms ∙ ap (λ (k : Choice). image_of left (choosing k left)) is_keep)
remade_is n life left keep rooms (Err error) is_keep is_rooms is = tt
