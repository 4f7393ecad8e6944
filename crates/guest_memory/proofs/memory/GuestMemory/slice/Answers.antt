use Rattle.std.proofs.Common.{◌∙◌, arith}
use Rattle.guest_memory.proofs.Stocked.{found_fits, found_lies, found_part, has_regions, only_found}
use Rattle.guest_memory.proofs.memory.GuestMemory.slice.Goals as goal

pub slice-requires : goal.slice-requires
slice-requires g c =
    found_lies (only_found (has_regions c.self.invariant c.self.view_is)
    (omega (arith, c.self.inside.regions.ok.0, c.len.ensures, c.if-len-eq1.true)) c.requires c.index.ensures)

pub returns-then-len-eq1 : goal.returns-then-len-eq1
returns-then-len-eq1 g c =
    let at = only_found (has_regions c.self.invariant c.self.view_is)
    (omega (arith, c.self.inside.regions.ok.0, c.len.ensures, c.if-len-eq1.true)) c.requires c.index.ensures in
    record { value = c.slice.ensures.value ∙ found_part at; len = c.slice.ensures.len; fits = found_fits at }
