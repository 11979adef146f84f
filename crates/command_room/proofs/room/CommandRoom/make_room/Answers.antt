use Rattle.std.proofs.Common.{◌≡◌, None, ap, sym, ◌∙◌, subst}
use Rattle.command_room.specs.Room.{CommandRoomState, contents_in, memory_words_of}
use Rattle.command_room.proofs.Moves.{more_kept, more_held_law}
use Rattle.command_room.proofs.room.CommandRoom.make_room.Goals as goal

idle : (c : goal.After-ready) → c.self.inside.under_way ≡ None
idle c = subst (λ (s : CommandRoomState). s.under_way ≡ None) (sym c.self.view_is) c.requires.idle

pub invariant_of-self-2 : goal.invariant_of-self-2
invariant_of-self-2 c = (more_kept _ c.ready.new.self c.reserve.new.self c.self.invariant (idle c) c.ready.ensures.is c.ready.ensures.same c.ready.ensures.whole).room

pub returns-clause-room : goal.returns-clause-room
returns-clause-room c = (more_kept _ c.ready.new.self c.reserve.new.self c.self.invariant (idle c) c.ready.ensures.is c.ready.ensures.same c.ready.ensures.whole).room

pub returns-clause-contents : goal.returns-clause-contents
returns-clause-contents c =
    (more_kept _ c.ready.new.self c.reserve.new.self c.self.invariant (idle c) c.ready.ensures.is c.ready.ensures.same c.ready.ensures.whole).contents
    ∙ ap contents_in c.self.view_is

pub returns-clause-in_memory : goal.returns-clause-in_memory
returns-clause-in_memory c =
    more_held_law c.self.inside.planned.cells c.ready.new.self c.self.inside.planned.plan c.ready.ensures.is c.ready.ensures.same ∙ ap memory_words_of c.self.view_is
