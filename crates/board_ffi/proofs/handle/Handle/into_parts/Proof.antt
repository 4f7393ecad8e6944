-- `into_parts` takes a handle apart.
use Rattle.c_values.proofs.TakingOut.{takes_out}
use Rattle.board_ffi.proofs.Holding.{holder}
use Rattle.board_ffi.specs.contracts.handle.Handle.into_parts.Key.{name as #self}
use Rattle.board_ffi.proofs.handle.Handle.into_parts.Statement as stated
use Rattle.board_ffi.proofs.handle.Handle.into_parts.Code as code

pub into_parts_spec : {M : Type 1} → stated.statement M
into_parts_spec 𝓤 𝓛 𝓜 𝓡 wired = takes_out holder 𝓤 𝓛 𝓜 𝓡 #self (code.unfolded 𝓤 𝓛.H 𝓜 𝓡 wired)
