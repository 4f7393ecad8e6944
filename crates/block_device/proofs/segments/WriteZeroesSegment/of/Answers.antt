use Rattle.std.proofs.Common.{◌≡◌, ◌∙◌, ◌+◌, ◌-◌, ◌*◌, List, ℕ, drop, length, take, ap, arith, length-drop}
use Rattle.std.proofs.lemmas.List.{length-take-le, take_all}
use Rattle.byteorder.specs.Endian.{little_number}
use Rattle.block_device.specs.Zeroes.{segment_of}
use Rattle.block_device.proofs.Judging.{same_segment}
use Rattle.block_device.proofs.segments.WriteZeroesSegment.of.Goals as goal

pub returns : goal.returns
returns c =
    let payload = c.args.payload.now in
    let from : ℕ = 16 * c.args.index in
    let bytes : List ℕ = take (from + 16 - from) (drop from payload) in
    let k : from + 16 - from ≡ 16 = omega arith in
    let long : length bytes ≡ 16 =
    ap (λ n. length (take n (drop from payload))) k
    ∙ length-take-le 16 (drop from payload) (omega (arith, c.requires.there, length-drop from payload)) in
    same_segment _ _ _ _ _ _ c.read_u64.ensures
    (c.read_u32.ensures ∙ ap (little_number 4)
    (take_all (length bytes - 8) (drop 8 bytes) (omega (arith, length-drop 8 bytes, long))))
    (c.read_u32-2.ensures ∙ ap (little_number 4)
    (take_all (length bytes - 12) (drop 12 bytes) (omega (arith, length-drop 12 bytes, long))))
    ∙ ap (λ n. segment_of (take n (drop from payload))) k
