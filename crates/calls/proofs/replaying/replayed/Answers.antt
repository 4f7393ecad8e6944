use Rattle.std.proofs.Common.{subst}
use Rattle.sector_cache.specs.MemoryImage.{disk_of}
use Rattle.replay.specs.Replay.{Replays}
use Rattle.calls.proofs.replaying.replayed.Goals as goal

pub returns-in_default-Err-clause-comes_to : goal.returns-in_default-Err-clause-comes_to
returns-in_default-Err-clause-comes_to g c = (
  c.replay_text.result.0,
  subst (Replays _ disk_of _ _ _ c.args.image c.replay_text.result.0) c.in_default-Err.is-1
      c.replay_text.ensures.comes_to,
)
