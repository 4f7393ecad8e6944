-- Devices that are read one behind another.
use Rattle.std.proofs.Common.{◌≡◌, inl, inr, ℕ, suc, ◌-◌, ◌<◌, List, [], ◌∷◌, ◌++◌, Result, Ok, Err, refl, sym, ap, subst, ◌∙◌, append_assoc, arith}
use Rattle.arrayvec.specs.ArrayVec.{ArrayVec}
use Rattle.snapshot.specs.declared.fault.Stop.{Stop}
use Rattle.snapshot.specs.declared.saved.SavedDevice.{SavedDevice}
use Rattle.snapshot.specs.Reading.{Reads, device_at, made, many_at}
use Rattle.snapshot.proofs.Exact.{went}
use Rattle.snapshot.proofs.Explained.{failed}

-- so many devices behind these
abbrev behind : List SavedDevice → List SavedDevice → ArrayVec SavedDevice
behind before more = record { items = before ++ more }

one_more : (before items : List SavedDevice) (n : ℕ) (old mid : List ℕ) (d : SavedDevice)
    (result : Result (ArrayVec SavedDevice) Stop) (new : List ℕ) → items ≡ before ++ d ∷ []
    → device_at old ≡ Ok (d, mid) → Reads (made (behind items) (many_at n)) mid result new
    → Reads (made (behind before) (many_at (suc n))) old result new
one_more before items n old mid d (Ok v) new is first rest =
    let w = went (many_at n) mid _ (v, new) rest in
    let same : before ++ (d ∷ w.value) ≡ items ++ w.value =
    sym (append_assoc before (d ∷ []) w.value) ∙ ap (λ (xs : List SavedDevice). xs ++ w.value) (sym is) in
    rw (first, w.is) (ap (λ (xs : List SavedDevice). Ok (record { items = xs }, w.rest)) same ∙ w.goes_on)
one_more before items n old mid d (Err stop) new is first rest =
    elim (failed (many_at n) mid _ stop rest) [
      | inl here ↦ rw (first, here) refl
      | inr v ↦ absurd (let never = v.goes_on in cc)
    ]

pub more_read : (before items : List SavedDevice) (count : ℕ) (old mid : List ℕ) (d : SavedDevice)
    (result : Result (ArrayVec SavedDevice) Stop) (new : List ℕ) → 0 < count → items ≡ before ++ d ∷ []
    → device_at old ≡ Ok (d, mid) → Reads (made (behind items) (many_at (count - 1))) mid result new
    → Reads (made (behind before) (many_at count)) old result new
more_read before items count old mid d result new some is first rest =
    let counted : suc (count - 1) ≡ count = omega arith in
    subst (λ (n : ℕ). Reads (made (behind before) (many_at n)) old result new) counted
    (one_more before items (count - 1) old mid d result new is first rest)
