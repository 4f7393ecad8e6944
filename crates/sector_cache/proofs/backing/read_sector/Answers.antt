use Rattle.std.proofs.Common.{rules, refl, ◌≡◌, ◌∙◌, ◌-◌, length}
use Rattle.sector_cache.proofs.Filed.{front_of_none, got_more, got_whole, length_kept}
use Rattle.sector_cache.proofs.Stops.{touches_more, touches_none}
use Rattle.sector_cache.proofs.backing.read_sector.Goals as goal

pub loop-turn-init : goal.loop-turn-init
loop-turn-init g c = (
  touches_none 0 0,
  (refl, (λ h. h, (search rules, (search rules, front_of_none _ _ _ _ refl)))),
)

pub returns-then-done-eq-SECTOR_LEN-clause-read : goal.returns-then-done-eq-SECTOR_LEN-clause-read
returns-then-done-eq-SECTOR_LEN-clause-read g c =
    let (touches, (stays, (synced, (within, (long, front))))) = c.loop-turn.invariant in
    got_whole _ _ _ _ _ front (search rules) long refl

pub loop-turn-preserved : goal.loop-turn-preserved
loop-turn-preserved g c =
    let (touches, (stays, (synced, (within, (long, front))))) = c.loop-turn.invariant in
    let rest : length c.read_from.new.into ≡ 512 - c.loop-turn.done = search rules in (
      touches_more 0 0 touches c.read_from.ensures.touches,
      (
        c.read_from.ensures.stays ∙ stays,
        (
          λ h. c.read_from.ensures.synced (synced h),
          (
            search rules,
            (
              length_kept _ _ _ within long rest,
              got_more c.read_from.result _ _ _ _ _ _ _ c.in_ok-done.ensures.count stays within long rest
                  front c.read_from.ensures.read,
            ),
          ),
        ),
      ),
    )

pub returns-in_err-done-clause-touches : goal.returns-in_err-done-clause-touches
returns-in_err-done-clause-touches g c = touches_more 0 0 c.loop-turn.invariant.0 c.read_from.ensures.touches
