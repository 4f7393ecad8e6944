-- The segments of a WRITE_ZEROES (5.2.6), as they were copied.
use Rattle.std.specs.Prelude.{◌≡◌, ℕ, List, length}
use Rattle.block_device.specs.declared.segments.WriteZeroesSegment.{WriteZeroesSegment}
use Rattle.block_device.specs.Zeroes.{segments_in}

-- so many bytes have these segments
pub record HasSegments (len : ℕ) (payload : List ℕ) (segments : List WriteZeroesSegment) : Type 0 where
  pub long : length payload ≡ len
  pub are : segments ≡ segments_in payload
