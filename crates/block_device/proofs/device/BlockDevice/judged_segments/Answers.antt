use Rattle.std.proofs.Common.{ap, sym, ◌∙◌}
use Rattle.std.proofs.lemmas.Result.{IfOk-weaker}
use Rattle.chain.specs.Bytes.{readable_of}
use Rattle.block_device.specs.Request.{payload_of}
use Rattle.block_device.specs.Zeroes.{are_segments}
use Rattle.block_device.proofs.device.BlockDevice.judged_segments.Goals as goal

pub returns-clause-ok : goal.returns-clause-ok
returns-clause-ok g c =
    let payload = payload_of (readable_of c.args.mem.now c.args.chain.now) in
    IfOk-weaker c.judged.result _ _ (λ segments judged. judged payload (record {
      are = c.read.ensures;
      writable = c.if-self.false;
      fit = ap are_segments c.requires.payload ∙ sym c.are_segments.ensures ∙ c.if-not-are_segments.false;
    })) c.judged.ensures.ok
