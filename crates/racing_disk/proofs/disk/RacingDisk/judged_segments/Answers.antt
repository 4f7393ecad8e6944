use Rattle.std.proofs.Common.{◌≡◌, ◌∙◌, inl, inr, sym}
use Rattle.std.proofs.lemmas.Result.{IfErr-weaker, IfOk-weaker}
use Rattle.block_device.specs.declared.request.Request.TheVariants.{Rejected}
use Rattle.block_device.specs.Request.{AreJudged, write_zeroes_request_of}
use Rattle.racing_disk.proofs.Judging.{judged_payload, no_segments}
use Rattle.racing_disk.proofs.disk.RacingDisk.judged_segments.Goals as goal
use Rattle.racing_disk.proofs.disk.RacingDisk.judged_segments.Goals.{then-self-via-then-self, then-self-via-else-self+then-not-are_segments}

pub returns-then-self-clause-err : goal.returns-then-self-clause-err
returns-then-self-clause-err g c =
    no_segments c.args.self.now.device (g.M.Shared.sightings c.args.mem.now) c.args.chain.now c.args.len c.requires.good
    c.requires.payload
    (elim c.then-self.branch [
      | then-self-via-then-self w ↦ inl w.if-self.true
      | then-self-via-else-self+then-not-are_segments w ↦ inr (sym w.are_segments.ensures ∙ w.if-not-are_segments.true)
    ])

pub returns-clause-ok : goal.returns-clause-ok
returns-clause-ok g c =
    IfOk-weaker c.judged.result _ _
    (λ segments judged. judged_payload _ _ c.args.chain.now c.args.self.now.device c.args.len c.read_segments-segments.result c.are_segments.result
    (λ payload. AreJudged c.args.self.now.device payload segments) c.if-self.false c.are_segments.ensures
    c.if-not-are_segments.false c.read_segments-segments.ensures.copied judged)
    c.judged.ensures.ok

pub returns-clause-err : goal.returns-clause-err
returns-clause-err g c =
    IfErr-weaker c.judged.result _ _
    (λ status judged. judged_payload _ _ c.args.chain.now c.args.self.now.device c.args.len c.read_segments-segments.result c.are_segments.result
    (λ payload. write_zeroes_request_of c.args.self.now.device payload ≡ Rejected status) c.if-self.false
    c.are_segments.ensures c.if-not-are_segments.false c.read_segments-segments.ensures.copied judged)
    c.judged.ensures.err
