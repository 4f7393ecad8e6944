use Rattle.std.proofs.Common.{refl, ◌∙◌, arith}
use Rattle.guest_memory.specs.Pages.{bits_of}
use Rattle.guest_memory.specs.Regions.{memory_of}
use Rattle.guest_memory.proofs.Stocked.{found_lies, found_part, found_put, found_regions, has_regions, only_found, search_found}
use Rattle.guest_memory.proofs.memory.GuestMemory.lend.Goals as goal

pub part_mut-requires : goal.part_mut-requires
part_mut-requires g c =
    found_lies (only_found (has_regions c.self.invariant c.self.view_is)
    (omega (arith, c.self.inside.regions.ok.0, c.len.ensures, c.if-len-eq1.true)) c.requires
    c.index_mut-region.ensures.value)

pub invariant_of-self-lent : goal.invariant_of-self-lent
invariant_of-self-lent g c = λ w.
    found_regions w (only_found (has_regions c.self.invariant c.self.view_is)
    (omega (arith, c.self.inside.regions.ok.0, c.len.ensures, c.if-len-eq1.true)) c.requires
    c.index_mut-region.ensures.value)

pub returns-then-len-eq1 : goal.returns-then-len-eq1
returns-then-len-eq1 g c =
    let at = only_found (has_regions c.self.invariant c.self.view_is)
    (omega (arith, c.self.inside.regions.ok.0, c.len.ensures, c.if-len-eq1.true)) c.requires
    c.index_mut-region.ensures.value in (
      (refl, λ w. found_put (bits_of c.self.inside.pages.items) (memory_of c.self.inside.regions.items) w c.self.view_is at),
      record {
        writes_back = tt;
        value = c.part_mut.ensures.value ∙ found_part at;
        len = c.part_mut.ensures.len;
      },
    )

pub invariant_of-self-lent-2 : goal.invariant_of-self-lent-2
invariant_of-self-lent-2 g c = λ w.
    found_regions w (search_found (has_regions c.self.invariant c.self.view_is) c.deref.ensures.value
    c.place_inside-place.ensures.place (c.place_inside-place.ensures.region _) c.index_mut-region-2.ensures.value)

pub returns : goal.returns
returns g c =
    let at = search_found (has_regions c.self.invariant c.self.view_is) c.deref.ensures.value
    c.place_inside-place.ensures.place (c.place_inside-place.ensures.region _) c.index_mut-region-2.ensures.value in (
      (refl, λ w. found_put (bits_of c.self.inside.pages.items) (memory_of c.self.inside.regions.items) w c.self.view_is at),
      record {
        writes_back = tt;
        value = c.part_mut-2.ensures.value ∙ found_part at;
        len = c.part_mut-2.ensures.len;
      },
    )
