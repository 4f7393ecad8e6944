-- `session` lends what the handle holds.
use Rattle.c_values.proofs.Lending.{lends}
use Rattle.racing_ffi.proofs.Holding.{holder}
use Rattle.racing_ffi.specs.contracts.handle.GuestHandle.session.Key.{name as #self}
use Rattle.racing_ffi.proofs.handle.GuestHandle.session.Statement as stated
use Rattle.racing_ffi.proofs.handle.GuestHandle.session.Code as code

pub session_spec : {M : Type 1} → stated.statement M
session_spec 𝓤 𝓛 𝓜 𝓡 wired = lends holder 𝓤 𝓛 𝓜 𝓡 #self (code.unfolded 𝓤 𝓛.H 𝓜 𝓡 wired)
