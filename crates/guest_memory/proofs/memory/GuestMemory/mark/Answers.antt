use Rattle.std.proofs.Common.{◌≡◌, true}
use Rattle.guest_memory.specs.Regions.{memory_of}
use Rattle.guest_memory.proofs.Stocked.{none_marked}
use Rattle.guest_memory.proofs.memory.GuestMemory.mark.Goals as goal

pub returns-else-not-is_empty : goal.returns-else-not-is_empty
returns-else-not-is_empty g c =
    let empty : c.is_empty.result ≡ true = cc in
    none_marked c.self.inside.pages.items c.args.addr c.args.n (memory_of c.self.inside.regions.items)
    c.self.inside.pages.ok.0 c.is_empty.ensures empty c.self.view_is
