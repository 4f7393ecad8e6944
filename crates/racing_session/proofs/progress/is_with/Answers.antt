use Rattle.std.proofs.Common.{◌≤◌, ◌^◌, arith}
use Rattle.std.proofs.Math.Nat.{pow-le-pow_right}
use Rattle.racing_session.proofs.progress.is_with.Goals as goal

-- a tag above all bits is in no set of them
pub returns-else-tag-lt64 : goal.returns-else-tag-lt64
returns-else-tag-lt64 c =
    let far : 64 ≤ c.args.tag = c.if-tag-lt64.false in
    let large : 2 ^ 64 ≤ 2 ^ c.args.tag = pow-le-pow_right (omega arith) far in (
      λ less. absurd (grind (arith, less, far)),
      λ is. absurd (omega (arith, is, large, c.ranges.all.fits)),
    )
