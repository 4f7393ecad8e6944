use Rattle.chain.proofs.Pieces.{pieces_are_a_service}
use Rattle.mmio_window.specs.Queue.{queue_kind}
use Rattle.block_device.specs.Device.{block_device}
use Rattle.block_device.specs.Extent.{SameSectors}
use Rattle.block_device.proofs.Failing.{block_same, sectors_further, sectors_same}
use Rattle.block_device.proofs.laws.pieces_are_one_service.Goals as goal

pub returns : goal.returns
returns c = λ device old new pauses ending wanted opens pieces.
    pieces_are_a_service queue_kind (block_device device) SameSectors (block_same device) sectors_same
    sectors_further old new pauses ending wanted opens pieces
