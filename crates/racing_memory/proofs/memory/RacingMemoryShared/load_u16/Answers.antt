use Rattle.std.proofs.Common.{◌≡◌, ◌∙◌, ℕ, List, ap, length, arith, false}
use Rattle.byteorder.specs.Endian.{little_number}
use Rattle.guest_memory.specs.Memory.{Inside, part_of}
use Rattle.shared_memory.specs.Sightings.{memory}
use Rattle.racing_memory.specs.Past.{sightings_of, seen_again}
use Rattle.racing_memory.proofs.Seeing.{loads_noted, reads_noted}
use Rattle.racing_memory.proofs.memory.RacingMemoryShared.load_u16.Goals as goal

pub returns-clause-value : goal.returns-clause-value
returns-clause-value c =
    let s = c.args.self.now in
    let bs = c.two_at-bytes.result in
    let long : length bs ≡ 2 = omega arith in
    let inside : Inside (memory (sightings_of s)) c.args.addr (length bs) = rw long c.requires in
    rw c.found.ensures (c.read_u16.ensures ∙ ap (λ (bs : List ℕ). little_number 2 bs) (reads_noted s c.args.addr bs inside
    ∙ ap (λ (n : ℕ). part_of (memory (sightings_of (seen_again false s c.args.addr bs))) c.args.addr n) long))

pub returns-clause-loads : goal.returns-clause-loads
returns-clause-loads c = rw c.found.ensures (loads_noted c.args.self.now c.args.addr c.two_at-bytes.result)
