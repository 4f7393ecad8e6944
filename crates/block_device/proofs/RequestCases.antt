-- What a chain asks for, by the checks in their order.
use Rattle.std.proofs.Common.{◌≡◌, ℕ, ◌/◌, ◌==◌, Bool, true, false, not, cond, List, length, refl}
use Rattle.std.specs.Prelude.{nat_lt}
use Rattle.std.specs.List.{list_all}
use Rattle.block_device.specs.declared.device.BlockDevice.{BlockDevice}
use Rattle.block_device.specs.declared.request.RequestStatus.{RequestStatus}
use Rattle.block_device.specs.declared.request.RequestStatus.TheVariants.{IoError, Unsupported}
use Rattle.block_device.specs.declared.request.Request.{Request}
use Rattle.block_device.specs.declared.request.Request.TheVariants.{Rejected, Read, Write, Flush, GetId, WriteZeroes}
use Rattle.block_device.specs.Request.{are_sectors, payload_of, request_of, sector_in, type_of}
use Rattle.block_device.specs.Zeroes.{are_segments, has_known_flags, has_sectors_within, segments_in}

module _ (P : Request → Type 0) where
  by_test : (test : Bool) {a b : Request} → (test ≡ true → P a) → (test ≡ false → P b) → P (cond test a b)
  by_test true passed failed = passed refl
  by_test false passed failed = failed refl

  unless : (test : Bool) {a b : Request} → P a → (test ≡ true → P b) → P (cond (not test) a b)
  unless true failed passed = passed refl
  unless false failed passed = failed

  module _ (device : BlockDevice) (readable : List ℕ) (room : ℕ)
      (rejected : (status : RequestStatus) → P (Rejected status)) where
    abbrev capacity : ℕ
    capacity = device.extent.count

    abbrev payload : List ℕ
    payload = payload_of readable

    abbrev sector : ℕ
    sector = sector_in readable

    -- It holds of the request where it does so of each that is rejected, and of those that pass.
    pub request_by_cases : (are_sectors capacity sector room ≡ true → P (Read sector (room / 512)))
        → (are_sectors capacity sector (length payload) ≡ true → P (Write sector (length payload / 512)))
        → P Flush → (nat_lt room 20 ≡ false → P GetId)
        → (are_segments (length payload) ≡ true
        → list_all (has_sectors_within capacity) (segments_in payload) ≡ true
        → P (WriteZeroes (length payload / 16)))
        → P (request_of device readable room)
    request_by_cases reads writes flush id zeroes =
        let kind = type_of readable in
        by_test (nat_lt (length readable) 16) (λ _. rejected IoError) (λ _.
        by_test (kind == 0) (λ _. by_test (are_sectors capacity sector room) reads (λ _. rejected IoError)) (λ _.
        by_test (kind == 1) (λ _. by_test device.read_only (λ _. rejected IoError) (λ _.
        by_test (are_sectors capacity sector (length payload)) writes (λ _. rejected IoError))) (λ _.
        by_test (kind == 4) (λ _. flush) (λ _.
        by_test (kind == 8) (λ _. by_test (nat_lt room 20) (λ _. rejected IoError) id) (λ _.
        by_test (kind == 13) (λ _. by_test device.read_only (λ _. rejected IoError) (λ _.
        unless (are_segments (length payload)) (rejected IoError) (λ fit.
        unless (list_all has_known_flags (segments_in payload)) (rejected Unsupported) (λ _.
        unless (list_all (has_sectors_within capacity) (segments_in payload)) (rejected IoError) (λ within.
        zeroes fit within))))) (λ _. rejected Unsupported))))))
