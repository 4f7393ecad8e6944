use Rattle.std.specs.Prelude.{◌≡◌, ◌*◌, ◌++◌, drop, take}
use Rattle.network_device.specs.Saved.{numbers}
use Rattle.network_device.proofs.store.FrameStore.save_lens.Given as goal

abbrev pub invariant-loop-i : goal.invariant-loop-i
invariant-loop-i g l = l.into ≡ numbers (take l.i l.self-inside.lens.items) ++ drop (4 * l.i) l.fn.into
