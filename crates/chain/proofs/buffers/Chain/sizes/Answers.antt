use Rattle.std.proofs.Common.{ap, arith}
use Rattle.chain.specs.declared.buffers.Start.{Start}
use Rattle.chain.proofs.Holding.{all_held}
use Rattle.chain.proofs.buffers.Chain.sizes.Goals as goal

pub returns : goal.returns
returns c =
    let all = all_held c.self.invariant (record { readable = 0; writable = 0 }) in
    let readable = ap (λ (s : Start). s.readable) all in
    let writable = ap (λ (s : Start). s.writable) all in
    rw (← c.self.view_is) (record {
      readable = readable;
      writable = writable;
      both = omega (arith, readable, writable, c.self.invariant.total_is);
      fits = c.self.invariant.fits;
    })
