-- the places before this one were judged
use Rattle.session.proofs.ImageDisks.{AreJudged}
use Rattle.session.proofs.image_disks.has_bad_disk.Given as goal

abbrev pub invariant-loop-place : goal.invariant-loop-place
invariant-loop-place l = AreJudged l.devices l.spare l.place
