-- Bytes that wait in two lists.
use Rattle.std.proofs.Common.{◌≡◌, ℕ, ◌+◌, ◌-◌, ◌≤◌, List, [], ◌++◌, length, drop, sym, ap, ◌∙◌, append-nil, arith, length-drop}
use Rattle.std.proofs.Math.Seq.{drop-append-add}

-- where all of the first list are taken, what is left stands in the other
pub left_later : {X : Type 0} (first later : List X) (start count len : ℕ) → len ≡ length first
    → len - start ≤ count
    → drop (count - (len - start)) later ++ [] ≡ drop count (drop start first ++ later)
left_later first later start count len is_len past =
    let rest = drop start first in
    let long : length rest ≡ len - start = length-drop start first ∙ ap (λ n. n - start) (sym is_len) in
    let all : length rest + (count - length rest) ≡ count = omega (arith, long) in
    append-nil (drop (count - (len - start)) later) ∙ ap (λ n. drop (count - n) later) (sym long)
    ∙ sym (drop-append-add rest later (count - length rest)) ∙ ap (λ n. drop n (rest ++ later)) all
