-- Bytes written in several calls.
use Rattle.std.proofs.Common.{◌≡◌, ℕ, ◌+◌, ◌-◌, ◌≤◌, List, ◌++◌, length, take, drop, Option, subst, sym, ap, ◌∙◌, arith, inl, inr, length-drop}
use Rattle.std.proofs.KnownBytes.{Appends-trans}
use Rattle.std.proofs.Math.Seq.{take-add, take-append-add}
use Rattle.std.proofs.lemmas.List.{take-append-le, take_all, take_rest}
use Rattle.std.proofs.lemmas.Bool.{cases_lt}
use Rattle.std.specs.Io.KnownBytes.{Appends}
use Rattle.trace.specs.Sends.{AppendsFront}

-- n bytes more went out
pub sent_more : (old mid new : Option (List ℕ)) (bytes : List ℕ) (sent n total : ℕ) → total ≡ sent + n
    → Appends old mid (take sent bytes)
    → Appends mid new (take n (take (length bytes - sent) (drop sent bytes)))
    → Appends old new (take total bytes)
sent_more old mid new bytes sent n total sum front next =
    let joined : take total bytes ≡ take sent bytes ++ take n (take (length bytes - sent) (drop sent bytes)) =
    ap (λ k. take k bytes) sum ∙ take-add sent n bytes
    ∙ ap (λ (rest : List ℕ). take sent bytes ++ take n rest) (sym (take_rest bytes sent)) in
    subst (Appends old new) (sym joined)
    (Appends-trans old mid new (take sent bytes)
    (take n (take (length bytes - sent) (drop sent bytes))) front next)

pub sent_within : (bytes : List ℕ) (sent n total : ℕ) → total ≡ sent + n → sent ≤ length bytes
    → n ≤ length (take (length bytes - sent) (drop sent bytes)) → total ≤ length bytes
sent_within bytes sent n total sum within some =
    omega (arith, length-drop sent bytes, ap length (take_rest bytes sent))

-- a front of the first part is one of the whole
pub front_of_first : (old new : Option (List ℕ)) (one two : List ℕ) → AppendsFront old new one
    → AppendsFront old new (one ++ two)
front_of_first old new one two sent =
    elim (cases_lt sent.count (length one)) [
      | inl part ↦ record {
        count = sent.count;
        front = subst (Appends old new) (sym (take-append-le sent.count one two (omega arith))) sent.front;
      }
      | inr all ↦ record {
        count = length one;
        front = subst (Appends old new) (take_all sent.count one all
            ∙ sym (take-append-le (length one) one two (omega arith)
            ∙ take_all (length one) one (omega arith))) sent.front;
      }
    ]

-- the first part went out, and then a front of the second
pub front_of_second : (old mid new : Option (List ℕ)) (one two : List ℕ) → Appends old mid one
    → AppendsFront mid new two → AppendsFront old new (one ++ two)
front_of_second old mid new one two whole sent = record {
  count = length one + sent.count;
  front = subst (Appends old new) (sym (take-append-add one two sent.count))
      (Appends-trans old mid new one (take sent.count two) whole sent.front);
}
