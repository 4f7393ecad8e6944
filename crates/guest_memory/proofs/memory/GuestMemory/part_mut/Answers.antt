use Rattle.std.proofs.Common.{refl, ◌∙◌}
use Rattle.guest_memory.proofs.Stocked.{inside_marked, marked_part, same_part}
use Rattle.guest_memory.proofs.memory.GuestMemory.part_mut.Goals as goal

pub lend-requires : goal.lend-requires
lend-requires g c = inside_marked c.mark.ensures c.requires

pub returns : goal.returns
returns g c = (
  (refl, λ w. marked_part c.args.self.now c.args.addr c.mark.ensures c.lend.ensures.len w),
  record {
    writes_back = tt;
    value = c.lend.ensures.value ∙ same_part c.args.self.now c.args.addr c.args.n c.mark.ensures;
    len = c.lend.ensures.len;
  },
)
