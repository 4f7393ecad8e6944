-- How records stand in a text: each behind the first tab of a line, up to the line's end. What else is said
-- has no tab.
use Rattle.std.specs.Prelude.{◌≡◌, ℕ, ◌==◌, Bool, true, false, not, List, [], ◌∷◌, ◌++◌, Option, None, Some}
use Rattle.std.specs.Io.KnownBytes.{append_known}
use Rattle.show.specs.declared.weave.woven.Woven.{Woven}

-- whether what follows a byte stands behind a tab of its line, where the byte itself does or doesn't
abbrev pub goes_on : Bool → ℕ → Bool
goes_on false byte = byte == 9
goes_on true byte = not (byte == 10)

-- the same of what follows a text
abbrev pub ends_inside : Bool → List ℕ → Bool
ends_inside is_inside [] = is_inside
ends_inside is_inside (byte ∷ rest) = ends_inside (goes_on is_inside byte) rest

-- a byte, where it is a record's
abbrev pub if_inside : Bool → ℕ → List ℕ
if_inside false byte = []
if_inside true byte = byte ∷ []

-- The records in a text: what stands in each line behind its first tab, with the line's end.
abbrev pub records_in : Bool → List ℕ → List ℕ
records_in is_inside [] = []
records_in is_inside (byte ∷ rest) = if_inside is_inside byte ++ records_in (goes_on is_inside byte) rest

-- the records, where both agree on whether more of the last one follows
abbrev pub agreed : Bool → Bool → List ℕ → Option (List ℕ)
agreed false false records = Some records
agreed true true records = Some records
agreed false true records = None
agreed true false records = None

-- the records in known bytes, of which the last one goes on, or has ended
abbrev pub records_of : Bool → Option (List ℕ) → Option (List ℕ)
records_of is_inside None = None
records_of is_inside (Some text) = agreed is_inside (ends_inside false text) (records_in false text)

-- the records in what went out and what waits
abbrev pub woven_records : {W : Type 0} → (W → Option (List ℕ)) → Woven W → Option (List ℕ)
woven_records contents woven =
    records_of woven.is_inside (append_known (contents woven.out) woven.waiting.items)

-- a text that holds nothing of a record
pub record IsPlain (text : List ℕ) : Type 0 where
  pub none : records_in false text ≡ []
  pub outside : ends_inside false text ≡ false

-- bytes of one record, of which the last one ends its line, or none does
pub record IsPiece (bytes : List ℕ) (is_end : Bool) : Type 0 where
  pub whole : records_in true bytes ≡ bytes
  pub ends : ends_inside true bytes ≡ not is_end
