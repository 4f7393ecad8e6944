-- A copy of places of the readable list, part after part.
use Rattle.std.proofs.Common.{◌≡◌, ◌∙◌, ℕ, ◌+◌, ◌-◌, ◌<◌, ◌≤◌, false, Bool, List, length, take, drop, sym, ap, arith}
use Rattle.std.specs.Prelude.{All}
use Rattle.std.specs.List.{range_with_len}
use Rattle.std.proofs.lemmas.Slice.{take-put_mid}
use borrow.Rule.Slice.PartMut.{put_mid}
use Rattle.guest_memory.specs.Memory.{Inside, part_of}
use Rattle.guest_memory.proofs.Ranges.{length-part_of}
use Rattle.chain.specs.declared.segment.Buffer.{Buffer}
use Rattle.chain.specs.declared.segment.Segment.{Segment}
use Rattle.chain.specs.Buffers.{Within}
use Rattle.chain.specs.Bytes.{addresses_of, len_of, rest_at, segments_of}
use Rattle.chain.proofs.Contents.{length-put_mid, part_inside}
use Rattle.chain.proofs.Scattering.{within_same}
use Rattle.shared_memory.specs.Bytes.{AreBytesSeen}
use Rattle.shared_memory.specs.Sightings.{Sightings, Loads, memory}
use Rattle.shared_memory.proofs.Sightings.{loads_range, loads_trans, seen_last, seen_sooner}
use Rattle.chain_handler.proofs.Rows.{part_long, places_more}
use Rattle.chain_handler.proofs.Seeing.{bytes_later, part_seen, seen_append}

-- What is left of a segment is copied behind what was copied before.
module _ (races : Bool) (old now next : Sightings) (buffers : List Buffer) (from done n : ℕ) (into bytes : List ℕ)
    (rest : Segment) (good : All (Within (memory old)) buffers) (there : from + done < len_of false buffers)
    (is : rest ≡ rest_at (segments_of false buffers) (from + done)) (fits : n ≤ rest.len) (within : done + n ≤ length into)
    (loads : Loads races old now) (more : Loads races now next)
    (read : bytes ≡ part_of (memory next) rest.addr (length (take (done + n - done) (drop done into)))) where
  read_is : bytes ≡ part_of (memory next) rest.addr n
  read_is = read ∙ ap (part_of (memory next) rest.addr) (part_long done n into within)

  inside_next : Inside (memory next) rest.addr n
  inside_next =
      part_inside (memory next) false buffers (from + done) n
      (within_same (memory old) (memory next) buffers (loads_range races old next (loads_trans races old now next loads more)) good)
      there rest is fits

  size : length bytes ≡ n
  size = ap length read_is ∙ length-part_of (memory next) rest.addr n inside_next

  gap : done + n - done ≡ n
  gap = omega arith

  pub part_copied : AreBytesSeen old now (take done (drop from (addresses_of false buffers))) (take done into)
      → AreBytesSeen old next (take (done + n) (drop from (addresses_of false buffers)))
      (take (done + n) (put_mid done (done + n - done) into bytes))
  part_copied before =
      let first = take done (drop from (addresses_of false buffers)) in
      let one : AreBytesSeen old next (range_with_len rest.addr n) bytes =
      rw read_is (part_seen old next (memory next) rest.addr n
      (seen_sooner races old now next (memory next) loads (seen_last races now next more)) inside_next) in
      rw (
        places_more false buffers from done n rest there is fits,
        take-put_mid done (done + n - done) into bytes (done + n) (omega (arith, size)) (omega (arith, within)),
      )
      (seen_append old next first (range_with_len rest.addr n) (take done into) bytes
      (bytes_later races old now next first (take done into) more before) one)

  pub copied_long : length (put_mid done (done + n - done) into bytes) ≡ length into
  copied_long = length-put_mid done (done + n - done) into bytes (size ∙ sym gap) (omega (arith, within))
