-- `lend_words` hands the words to `lend_run`. Assumes `Logic`.
use Rattle.guest_bytes.proofs.Lending.{words, lends}
use Rattle.guest_bytes.specs.contracts.lent.lend_words.Key.{name as #self}
use Rattle.guest_bytes.proofs.lent.lend_words.Statement as stated
use Rattle.guest_bytes.proofs.lent.lend_words.Code as code

pub lend_words_spec : {M : Type 1} → stated.statement M
lend_words_spec 𝓤 𝓛 𝓜 𝓡 wired =
    lends words 𝓤 𝓛 𝓜 𝓡 #self (code.unfolded 𝓤 𝓛.H 𝓜 𝓡 wired)
    (code.calls-guest_bytes::lent::lend_run 𝓡.env wired)
