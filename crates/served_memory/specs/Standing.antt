-- The laws of a guest that stands still.
use Rattle.std.proofs.Common.{refl}
use Rattle.mmio_window.proofs.Devices.{KeepsDevice, KeepsDevice-served}
use Rattle.mmio_window.specs.Window.{WindowState}
use Rattle.served_memory.specs.Laws.{SameDevice, WorldLaws}
use Rattle.served_memory.specs.World.{standing}
use Rattle.served_memory.specs.Fitting.{ends_refused, piece_fits}

same : (before after : WindowState) → KeepsDevice before after → SameDevice before after
same before after keeps = record { kind = keeps.kind; offered = keeps.offered }

pub standing_laws : WorldLaws standing
standing_laws = record {
  nothing = λ m w s. record { memory = refl; window = refl; state = refl };
  serves_done = λ device stage limits q queue progress old new before after s s' h.
      piece_fits device limits.budget q old new before after s s' stage queue progress h;
  refused_done = λ device stage limits q queue old new before after s s' h.
      ends_refused device limits.budget q old new before after s s' stage queue h;
  nothing_keeps = λ old new before after s s' h. record { kind = rw h.window refl; offered = rw h.window refl };
  done_keeps = λ device stage limits q queue progress old new before after s s' h.
      same before after (KeepsDevice-served device limits.budget q stage queue progress old new before after s s' h);
}
