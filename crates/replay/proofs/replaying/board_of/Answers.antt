use Rattle.std.proofs.Common.{◌≡◌, List, map}
use Rattle.board.specs.declared.spec.SlotSpec.{SlotSpec}
use Rattle.board.specs.Slot.{opened}
use Rattle.replay.proofs.Limiting.{accepted_when, made_when, small_when}
use Rattle.replay.proofs.replaying.board_of.Goals as goal

pub returns-clause-small : goal.returns-clause-small
returns-clause-small g c = small_when _ _ _ _ _ c.limit_memories.ensures c.new.result c.new.ensures.accepted

pub returns-clause-accepted : goal.returns-clause-accepted
returns-clause-accepted g c =
    accepted_when _ _ _ _ _ c.limit_memories.ensures c.new.result c.new.ensures.accepted

pub returns-clause-made : goal.returns-clause-made
returns-clause-made g c =
    made_when _ _ _ _ _ c.limit_memories.ensures (λ board (slots : List SlotSpec). board
    ≡ record { slots = map opened slots; image = c.args.image }) c.new.result
    c.new.ensures.accepted c.new.ensures.made
