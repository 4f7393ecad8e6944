use Rattle.racing_session.proofs.Lending.{eight}
use Rattle.racing_session.proofs.memory.LentMemory.regions.Goals as goal

pub returns : goal.returns
returns g c =
    rw (← c.self.view_is, ← c.as_slice-regions.ensures.same)
    (eight c.as_slice-regions.result.now c.as_slice-regions.ensures.few c.region_at.result c.region_at-2.result
    c.region_at-3.result c.region_at-4.result c.region_at-5.result c.region_at-6.result c.region_at-7.result
    c.region_at-8.result c.region_at.ensures c.region_at-2.ensures c.region_at-3.ensures c.region_at-4.ensures
    c.region_at-5.ensures c.region_at-6.ensures c.region_at-7.ensures c.region_at-8.ensures)
