-- `empty` makes a loan of no bytes.
use Rattle.guest_bytes.proofs.Loans.{empties}
use Rattle.guest_bytes.proofs.Structs.{byte_loan}
use Rattle.guest_bytes.specs.contracts.loan.Loan.empty.Key.{name as #self}
use Rattle.guest_bytes.proofs.loan.Loan.empty.Statement as stated
use Rattle.guest_bytes.proofs.loan.Loan.empty.Code as code

pub empty_spec : {M : Type 1} → stated.statement M
empty_spec 𝓤 𝓛 𝓜 𝓡 wired = empties byte_loan 𝓤 𝓛 𝓜 𝓡 #self (code.unfolded 𝓤 𝓛.H 𝓜 𝓡 wired)
