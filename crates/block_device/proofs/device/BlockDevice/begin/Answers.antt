use Rattle.std.proofs.Common.{arith, refl, subst, ◌-◌}
use Rattle.chain.specs.Bytes.{readable_of}
use Rattle.block_device.specs.Asking.{IsKnown}
use Rattle.block_device.proofs.device.BlockDevice.begin.Goals as goal

pub begin_known-requires-clause-known : goal.begin_known-requires-clause-known
begin_known-requires-clause-known g c =
    subst (λ w. IsKnown c.args.self.now (readable_of c.args.mem.now c.args.chain.now) (w - 1)
    c.in-Known.request)
    c.writable_len-writable.ensures c.in-Known.ensures

pub returns-in-Zeroes-clause-begun : goal.returns-in-Zeroes-clause-begun
returns-in-Zeroes-clause-begun g c = (
  record {
    room = c.writable_len-writable.result - 1;
    all = omega (arith, c.writable_len-writable.ensures, c.if-writable-eq0.false);
    zeroes = c.in-Zeroes.ensures;
  },
  refl,
)
