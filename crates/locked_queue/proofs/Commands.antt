-- Which commands of the queue are not answered, by the loads of the room and by the object.
use Rattle.std.proofs.Common.{◌≡◌, ℕ, ◌==◌, Some, None, List, [], ◌∷◌, refl, if◌then◌else◌}
use Rattle.seq_object.specs.declared.command.Command.{Command}
use Rattle.seq_object.specs.declared.command.Command.TheVariants.{Put, Get, Del, Enq, Deq, Take}
use Rattle.seq_object.specs.declared.command.Reply.TheVariants.{Found}
use Rattle.seq_object.specs.Object.{Contents, reply_to, take_reply}
use Rattle.room_model.specs.Chains.{RoomWords}
use Rattle.room_model.specs.MapRoom.{live_layout}
use Rattle.room_model.specs.Writes.{writes_of, answer_of, deq_item}
use Rattle.room_laws.proofs.Tests.{by_Bool}
use Rattle.seq_object.specs.declared.sizes.Sizes.{Sizes}

-- where there is no item, none is taken off
take_nothing : (z : Sizes) (r : RoomWords) → answer_of live_layout z r Take ≡ None → writes_of live_layout z r Take ≡ []
take_nothing z r = by_Bool (λ b. (if b then None else Some (Found (r (r 1 0) 0))) ≡ None → (if b then [] else deq_item r) ≡ []) (r 1 0 == 0) (λ _ none. refl) (λ _ none. absurd (cc))

-- what is not answered writes nothing
pub none_written : (z : Sizes) (r : RoomWords) (command : Command) → answer_of live_layout z r command ≡ None → writes_of live_layout z r command ≡ []
none_written z r (Put key value) none = absurd (cc)
none_written z r (Get key) none = refl
none_written z r (Del key) none = absurd (cc)
none_written z r (Enq value) none = absurd (cc)
none_written z r Deq none = absurd (cc)
none_written z r Take none = take_nothing z r none

-- a take is not replied to where there is no item
no_items : (items : List ℕ) → take_reply items ≡ None → items ≡ []
no_items [] none = refl
no_items (item ∷ items) none = absurd (cc)

-- a command that is not replied to is a take of an empty queue
pub only_takes_wait : (z : Sizes) (c : Contents) (command : Command) → reply_to z c command ≡ None → (command ≡ Take) × (c.items ≡ [])
only_takes_wait z c (Put key value) none = absurd (cc)
only_takes_wait z c (Get key) none = absurd (cc)
only_takes_wait z c (Del key) none = absurd (cc)
only_takes_wait z c (Enq value) none = absurd (cc)
only_takes_wait z c Deq none = absurd (cc)
only_takes_wait z c Take none = (refl, no_items c.items none)
