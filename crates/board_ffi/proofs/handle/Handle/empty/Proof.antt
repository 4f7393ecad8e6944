-- `empty` makes a handle of none.
use Rattle.c_values.proofs.Making.{empties}
use Rattle.board_ffi.proofs.Holding.{holder}
use Rattle.board_ffi.specs.contracts.handle.Handle.empty.Key.{name as #self}
use Rattle.board_ffi.proofs.handle.Handle.empty.Statement as stated
use Rattle.board_ffi.proofs.handle.Handle.empty.Code as code

pub empty_spec : {M : Type 1} → stated.statement M
empty_spec 𝓤 𝓛 𝓜 𝓡 wired = empties holder 𝓤 𝓛 𝓜 𝓡 #self (code.unfolded 𝓤 𝓛.H 𝓜 𝓡 wired)
