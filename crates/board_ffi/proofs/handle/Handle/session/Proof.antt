-- `session` lends what the handle holds.
use Rattle.c_values.proofs.Lending.{lends}
use Rattle.board_ffi.proofs.Holding.{holder}
use Rattle.board_ffi.specs.contracts.handle.Handle.session.Key.{name as #self}
use Rattle.board_ffi.proofs.handle.Handle.session.Statement as stated
use Rattle.board_ffi.proofs.handle.Handle.session.Code as code

pub session_spec : {M : Type 1} → stated.statement M
session_spec 𝓤 𝓛 𝓜 𝓡 wired = lends holder 𝓤 𝓛 𝓜 𝓡 #self (code.unfolded 𝓤 𝓛.H 𝓜 𝓡 wired)
