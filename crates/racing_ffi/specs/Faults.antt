-- The last fault of a window, as C has it.
use Rattle.std.specs.Prelude.{◌≡◌, ℕ, Option, if◌then◌else◌, is_some}
use Rattle.std.specs.List.{slice_get}
use Rattle.mmio_window.specs.declared.fault_note.FaultNote.{FaultNote}
use Rattle.c_values.specs.declared.fault.Fault as told
use Rattle.c_values.specs.Faults.{told_fault}
use Rattle.racing_guest.specs.declared.reply.GuestWindow.{GuestWindow}
use Rattle.racing_session.specs.Session.{RacingSession}

-- Something is told that is spelled as some note, or as where there is none; no clause says as which. Nothing changes.
pub record TellsFault (fault : told.Fault) (code : ℕ) (window : GuestWindow) (old new : RacingSession) : Type 0 where
  pub note : Option FaultNote
  pub spelled : fault ≡ told_fault note
  pub done : code ≡ 0
  pub kept : new ≡ old

-- the same of device n; the number is 6 where there is none
pub record TellsDeviceFault (fault : told.Fault) (code n : ℕ) (old new : RacingSession) : Type 0 where
  pub note : Option FaultNote
  pub spelled : code ≡ 0 → fault ≡ told_fault note
  pub code_is : code ≡ (if is_some (slice_get old.further.devices n) then 0 else 6)
  pub kept : new ≡ old
