-- A check: what it tells, and to what the images of a store lead.
use Rattle.std.proofs.Common.{◌≡◌, ℕ, List, map, Option, Some, None, Result, Ok, Err, refl, ap, ◌∙◌}
use Rattle.byte_ports.specs.Causes.{Rose}
use Rattle.byte_ports.specs.Images.{Named}
use Rattle.byte_ports.specs.declared.refusal.StoreRefusal.{StoreRefusal}
use Rattle.byte_ports.specs.declared.refusal.StoreRefusal.TheVariants as stores
use Rattle.seq_object.specs.declared.history.Pair.{Pair}
use Rattle.seq_object.specs.declared.sizes.Sizes.{Sizes}
use Rattle.seq_object.specs.Plain.{listed}
use Rattle.room_model.specs.MapRoom.{live_layout}
use Rattle.room_model.specs.Image.{ImageRooms as Rooms, epoch_at}
use Rattle.power_cut.specs.Image.{sizes_in, rooms_in}
use Rattle.image_check.specs.declared.recovered.Recovered.{Recovered}
use Rattle.image_check.specs.Recovered.{IsRecovered}
use Rattle.script_text.specs.StateText.{state_bytes}
use Rattle.respct.specs.declared.loading.Loaded.{Loaded}
use Rattle.respct.specs.declared.loading.NotLoaded.{NotLoaded}
use Rattle.respct.specs.declared.checking.NotChecked.{NotChecked}
use Rattle.respct.specs.declared.checking.NotChecked.TheVariants.{Unloaded}
use Rattle.respct.specs.Loads.{HasLoaded, IsLoadDecided}
use Rattle.respct.specs.Checks.{text_of_state, found_text, IsStateText, IsCheckedUnlessStarved, IsCheckDecided}

-- the text of what was found is that of the state that the image recovers to
state_is : (z : Sizes) (rooms : Rooms) (found : Recovered) → (is : IsRecovered live_layout z rooms found) → found_text found ≡ text_of_state (epoch_at z rooms) is.state
state_is z rooms found is =
    ap (λ (epoch : ℕ). state_bytes epoch found.positions.items found.pairs.items found.items.items) is.epoch
    ∙ ap (λ (positions : List ℕ). state_bytes (epoch_at z rooms) positions found.pairs.items found.items.items) is.positions
    ∙ ap (λ (pairs : List Pair). state_bytes (epoch_at z rooms) (map (λ p. p.position) is.state.points) pairs found.items.items) is.pairs
    ∙ ap (state_bytes (epoch_at z rooms) (map (λ p. p.position) is.state.points) (listed is.state.contents.pairs)) is.items

-- so it is the text of the image under the name
pub text_is : (kept : Option Named) (name : List ℕ) (loaded : Loaded) → HasLoaded kept name loaded → IsStateText kept name (found_text loaded.found)
text_is kept name loaded has = record {
  bytes = has.bytes;
  sizes = sizes_in loaded.image;
  rooms = rooms_in loaded.image;
  state = has.image.found.state;
  held = has.held;
  spelling = has.image.spelling;
  recovers = has.image.found.lawful;
  text = state_is (sizes_in loaded.image) (rooms_in loaded.image) loaded.found has.image.found;
}

-- to what a store leads: an image was loaded
pub loaded_decides : (found : Option (List ℕ)) (loaded : Loaded) (result : Result (Unit {0}) NotChecked) → IsCheckedUnlessStarved result → IsLoadDecided found (Ok loaded) → IsCheckDecided found result
loaded_decides None loaded result done d = absurd d
loaded_decides (Some bytes) loaded result done d = record { lawful = λ z rooms s. done; other = λ none. absurd (d.other none) }

-- to what a store leads: none was loaded
pub unloaded_decides : (found : Option (List ℕ)) (refusal : NotLoaded) → IsLoadDecided found (Err refusal) → IsCheckDecided found (Err (Unloaded refusal))
unloaded_decides None refusal d = d
unloaded_decides (Some bytes) refusal d = record { lawful = d.lawful; other = d.other }

-- a sink that did not fail refused for want of memory
pub starved : (refusal : StoreRefusal) (faults faults_now : ℕ) → (refusal ≡ stores.Failed → Rose faults faults_now) → (Rose faults faults_now → ⊥) → refusal ≡ stores.OutOfMemory
starved stores.Failed faults faults_now rose calm = absurd (calm (rose refl))
starved stores.OutOfMemory faults faults_now rose calm = refl

-- the text of the parts of what was found
pub text_given : (found : Recovered) (text positions : List ℕ) (pairs : List Pair) (items : List ℕ) → text ≡ state_bytes found.epoch positions pairs items → positions ≡ found.positions.items → pairs ≡ found.pairs.items
    → items ≡ found.items.items → text ≡ found_text found
text_given found text positions pairs items is at_positions at_pairs at_items =
    is ∙ ap (λ (ps : List ℕ). state_bytes found.epoch ps pairs items) at_positions ∙ ap (λ (ps : List Pair). state_bytes found.epoch found.positions.items ps items) at_pairs
    ∙ ap (state_bytes found.epoch found.positions.items found.pairs.items) at_items
