use Rattle.std.proofs.Common.{arith, sym}
use Rattle.racing_session.proofs.Lending.{spans}
use Rattle.racing_session.proofs.memory.LentMemory.len.Goals as goal

pub overflow_sub-result : goal.overflow_sub-result
overflow_sub-result g c =
    let same = c.as_slice-regions.ensures.same in
    rw same ((spans c.self.inside.regions (record { base = 0; len = 0 }) c.self.invariant.0).from)

pub overflow_add-result : goal.overflow_add-result
overflow_add-result g c =
    let same = c.as_slice-regions.ensures.same in
    let all = spans c.self.inside.regions (record { base = 0; len = 0 }) c.self.invariant.0 in
    rw same (record { fits = omega (arith, all.from, all.to, all.fits) })

pub returns : goal.returns
returns g c =
    let same = c.as_slice-regions.ensures.same in
    let all = spans c.self.inside.regions (record { base = 0; len = 0 }) c.self.invariant.0 in
    rw (same, sym c.self.view_is) (omega (arith, all.from, all.to))
