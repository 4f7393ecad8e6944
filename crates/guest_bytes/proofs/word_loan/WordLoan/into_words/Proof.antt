-- `into_words` hands the words of a loan to `lend_run`. Assumes `Logic`.
use Rattle.std.proofs.Common.{true}
use Rattle.guest_bytes.proofs.Taking.{takes}
use Rattle.guest_bytes.proofs.Structs.{word_loan}
use Rattle.guest_bytes.specs.contracts.word_loan.WordLoan.into_words.Key.{name as #self}
use Rattle.guest_bytes.proofs.word_loan.WordLoan.into_words.Statement as stated
use Rattle.guest_bytes.proofs.word_loan.WordLoan.into_words.Code as code

pub into_words_spec : {M : Type 1} → stated.statement M
into_words_spec 𝓤 𝓛 𝓜 𝓡 wired =
    takes word_loan true 𝓤 𝓛 𝓜 𝓡 #self (code.unfolded 𝓤 𝓛.H 𝓜 𝓡 wired)
    (code.calls-guest_bytes::lent::lend_run 𝓡.env wired)
