use Rattle.std.proofs.Common.{ℕ, ◌+◌, ◌*◌, ◌^◌, ◌∙◌, ap, sym, arith}
use Rattle.packed_ring.specs.Ring.{used_flags}
use Rattle.packed_ring.proofs.Using.{used_written}
use Rattle.packed_ring.proofs.ring.PackedRing.put_used.Goals as goal

pub returns-clause-used : goal.returns-clause-used
returns-clause-used g c =
    let v = c.from-2.result * 2 ^ 48 + c.from-3.result * 2 ^ 32 + c.from-4.result in
    used_written c.args.mem.now c.write_u64.new.self c.args.self.now c.used_head.result c.from-offset.result
    c.flags_of_used-flags.result v c.args.id c.args.len c.args.wrote c.requires
    c.used_head.ensures.value c.used_head.ensures.below c.from-offset.ensures
    (rw c.self.view_is at c.write_u64.ensures.written)
    (omega (arith, c.from-2.ensures, c.from-3.ensures, c.from-4.ensures))
    (omega (arith, c.ranges.len.fits)) (omega (arith, c.ranges.id.fits))
    (c.flags_of_used-flags.ensures ∙ ap (λ (w : ℕ). used_flags w c.args.wrote) (sym c.wrap_counter.ensures))
