-- `of_parts` makes a handle of parts.
use Rattle.c_values.proofs.Making.{fills}
use Rattle.racing_ffi.proofs.Holding.{holder}
use Rattle.racing_ffi.specs.contracts.handle.GuestHandle.of_parts.Key.{name as #self}
use Rattle.racing_ffi.proofs.handle.GuestHandle.of_parts.Statement as stated
use Rattle.racing_ffi.proofs.handle.GuestHandle.of_parts.Code as code

pub of_parts_spec : {M : Type 1} → stated.statement M
of_parts_spec 𝓤 𝓛 𝓜 𝓡 wired = fills holder 𝓤 𝓛 𝓜 𝓡 #self (code.unfolded 𝓤 𝓛.H 𝓜 𝓡 wired)
