-- `into_bytes` hands the bytes of a loan to `lend_run`. Assumes `Logic`.
use Rattle.std.proofs.Common.{false}
use Rattle.guest_bytes.proofs.Taking.{takes}
use Rattle.guest_bytes.proofs.Structs.{byte_loan}
use Rattle.guest_bytes.specs.contracts.loan.Loan.into_bytes.Key.{name as #self}
use Rattle.guest_bytes.proofs.loan.Loan.into_bytes.Statement as stated
use Rattle.guest_bytes.proofs.loan.Loan.into_bytes.Code as code

pub into_bytes_spec : {M : Type 1} → stated.statement M
into_bytes_spec 𝓤 𝓛 𝓜 𝓡 wired =
    takes byte_loan false 𝓤 𝓛 𝓜 𝓡 #self (code.unfolded 𝓤 𝓛.H 𝓜 𝓡 wired)
    (code.calls-guest_bytes::lent::lend_run 𝓡.env wired)
