use Rattle.std.proofs.Common.{◌∙◌, sym, ap, arith}
use Rattle.block_device.specs.Request.{out_request_of, payload_of}
use Rattle.block_device.proofs.Judging.{payload_size, request_by_type}
use Rattle.block_device.proofs.device.BlockDevice.headed_by.Goals as goal

pub returns-in-0 : goal.returns-in-0
returns-in-0 c = λ bytes begins. record {
  is = request_by_type c.args.self.now bytes c.args.room 0 _ c.in_request.result (omega (arith, begins.long, c.requires))
      (sym c.in-0.is ∙ begins.kind_is) begins.sector_is c.in_request.ensures.value;
  servable = c.in_request.ensures.servable (payload_of bytes);
  plain = c.in_request.ensures.plain;
}

pub returns-in-1 : goal.returns-in-1
returns-in-1 c = λ bytes begins.
    let behind = payload_size bytes c.args.readable begins.long in
    record {
      is = request_by_type c.args.self.now bytes c.args.room 1 _ c.out_request.result
          (omega (arith, begins.long, c.requires)) (sym c.in-1.is ∙ begins.kind_is) begins.sector_is
          (c.out_request.ensures.value ∙ ap (out_request_of c.args.self.now _) (sym behind));
      servable = c.out_request.ensures.servable (payload_of bytes) c.args.room behind;
      plain = c.out_request.ensures.plain;
    }
