-- `lend` hands the bytes to `lend_run`. Assumes `Logic`.
use Rattle.guest_bytes.proofs.Lending.{bytes, lends}
use Rattle.guest_bytes.specs.contracts.lent.lend.Key.{name as #self}
use Rattle.guest_bytes.proofs.lent.lend.Statement as stated
use Rattle.guest_bytes.proofs.lent.lend.Code as code

pub lend_spec : {M : Type 1} → stated.statement M
lend_spec 𝓤 𝓛 𝓜 𝓡 wired =
    lends bytes 𝓤 𝓛 𝓜 𝓡 #self (code.unfolded 𝓤 𝓛.H 𝓜 𝓡 wired)
    (code.calls-guest_bytes::lent::lend_run 𝓡.env wired)
