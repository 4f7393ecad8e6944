use Rattle.std.proofs.Common.{refl, subst, sym}
use Rattle.guest_memory.specs.Memory.{Inside, Memory}
use Rattle.guest_memory.proofs.InRegions.{inside_ends}
use Rattle.guest_memory.proofs.Stocked.{inside_without}
use Rattle.guest_memory.proofs.memory.GuestMemory.fits.Goals as goal

pub returns : goal.returns
returns g c =
    inside_ends _ c.args.addr c.args.n c.self.invariant refl
    (inside_without _ (subst (λ (m : Memory). Inside m c.args.addr c.args.n) (sym c.self.view_is) c.requires))
