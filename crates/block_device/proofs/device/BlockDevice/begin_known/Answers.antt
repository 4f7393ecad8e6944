use Rattle.std.proofs.Common.{arith, ap, length, refl, sym, ◌-◌, ◌∙◌}
use Rattle.chain.specs.Bytes.{readable_of, writable_of}
use Rattle.block_device.specs.declared.request.RequestStatus.TheVariants.{Success}
use Rattle.block_device.specs.Asking.{asks_image}
use Rattle.block_device.proofs.Answering.{finished_does, asks_by, done_identity}
use Rattle.block_device.proofs.Asking.{asks_nothing, unasked_does}
use Rattle.block_device.proofs.device.BlockDevice.begin_known.Goals as goal

pub reject-requires-clause-rejected : goal.reject-requires-clause-rejected
reject-requires-clause-rejected g c = record {
  room = length (writable_of c.args.chain.now) - 1;
  all = omega (arith, c.requires.status);
  is = sym c.in-Rejected.is ∙ c.requires.known.is;
}

pub returns-in-GetId-clause-begun : goal.returns-in-GetId-clause-begun
returns-in-GetId-clause-begun g c =
    let w = length (writable_of c.args.chain.now) in
    λ disk. unasked_does c.args.self.now c.args.mem.now c.finish.new.mem c.args.chain.now disk disk
    c.finish.result.len c.finish.result.wrote
    (asks_nothing c.args.self.now (readable_of c.args.mem.now c.args.chain.now) w (w - 1)
    c.args.request (omega (arith, c.requires.status)) c.requires.known.is
    (ap (λ r. asks_image r) c.in-GetId.is))
    (finished_does c.args.self.now c.args.mem.now c.write_at.new.mem c.finish.new.mem
    c.args.chain.now disk disk c.args.request (w - 1)
    20 c.finish.result.len Success c.finish.result.wrote (omega (arith, c.requires.status))
    c.requires.known.is
    (done_identity c.args.self.now.identity c.args.request c.args.chain.now c.args.mem.now
    c.write_at.new.mem disk (omega arith) c.in-GetId.is c.write_at.ensures.written)
    (omega (arith, c.requires.status, rw c.in-GetId.is at c.requires.known.servable))
    c.finish.ensures.status c.finish.ensures.len c.finish.ensures.wrote)

pub returns-in_default : goal.returns-in_default
returns-in_default g c = record {
  begun = (
    record {
      room = length (writable_of c.args.chain.now) - 1;
      all = omega (arith, c.requires.status);
      is = c.requires.known.is;
      servable = c.requires.known.servable;
      asks = asks_by c.args.request c.in_default.not-Rejected c.in_default.not-GetId;
    },
    refl,
    c.requires.known.plain,
  );
  range = record { base = refl; size = refl; gaps = refl };
}
