-- Input gathered from a reader.
use Rattle.std.proofs.Common.{◌≡◌, ℕ, List, [], ◌++◌, take, Option, IfSome, subst, sym, ap, append-nil}
use Rattle.std.proofs.KnownBytes.{Consumes-trans, Consumes-all}
use Rattle.std.specs.Io.KnownBytes.{Consumes, IsAtEnd}

-- one read more was gathered
pub gathered_more : (first mid last : Option (List ℕ)) (old new chunk : List ℕ) → Consumes first mid old
    → Consumes mid last chunk → new ≡ old ++ chunk → Consumes first last new
gathered_more first mid last old new chunk before now end =
    subst (Consumes first last) (sym end) (Consumes-trans first mid last old chunk before now)

-- the last read gave nothing, and nothing was left
pub gathered_all : (first mid last : Option (List ℕ)) (input chunk : List ℕ) (n : ℕ) → n ≡ 0
    → Consumes first mid input → Consumes mid last (take n chunk) → IsAtEnd last
    → IfSome first (λ bytes. input ≡ bytes)
gathered_all first mid last input chunk n none before now ended =
    let nothing : Consumes mid last [] = subst (Consumes mid last) (ap (λ k. take k chunk) none) now in
    Consumes-all first last (input ++ []) [] input (Consumes-trans first mid last input [] before nothing)
    ended (sym (append-nil input))
