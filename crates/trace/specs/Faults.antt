-- Why a text isn't a trace: the first line with a fault, and the first check that it fails.
use Rattle.std.specs.Prelude.{◌≡◌, ◌≢◌, ◌==◌, ℕ, MatchBool, ◌-◌, ◌<◌, ◌≤◌, ◌⊎◌, ⊤, List, [], ◌∷◌, ◌++◌, length, drop, slice_index_or}
use Rattle.trace.specs.declared.fault.FaultKind.{FaultKind}
use Rattle.trace.specs.declared.fault.FaultKind.TheVariants as kind
use Rattle.trace.specs.declared.format.Format.{Format}
use Rattle.trace.specs.declared.word.Word.{Word}
use Rattle.trace.specs.declared.word.Word.TheVariants.{Cache, Slot}
use Rattle.trace.specs.Cuts.{lines_of, fields_of}
use Rattle.trace.specs.Text.{header}
use Rattle.trace.specs.Words.{IsWordOf, Shape, Num, Regions, Disk, Offset, Window, Width, Value, Mode, Verdict, Bytes, Identity, Kind, Link, Says, spelled, shapes}

-- line k of a text, numbered from 1; a text ends before line k where nothing stands there
abbrev pub line_at : List ℕ → ℕ → List ℕ
line_at text k = slice_index_or (lines_of text) (k - 1) []

-- line k has a line feed
abbrev pub IsEnded : List ℕ → ℕ → Type 0
IsEnded text k = k < length (lines_of text)

-- line k has to have one: it is one of the first two, or something stands in it
abbrev pub IsOwed : List ℕ → ℕ → Type 0
IsOwed text k = (k ≤ 2) ⊎ (line_at text k ≢ [])

-- a first line, and that of a text of this format
abbrev pub IsHeader : List ℕ → Type 0
IsHeader line = (format : Format) × (line ≡ header format)

abbrev pub IsOfFormat : List ℕ → Format → Type 0
IsOfFormat text format = line_at text 1 ≡ header format

-- the first field of a line, and those after it
abbrev pub first_field : List ℕ → List ℕ
first_field line = slice_index_or (fields_of line) 0 []

abbrev pub other_fields : List ℕ → List (List ℕ)
other_fields line = drop 1 (fields_of line)

-- in line 2 stands `cache`, and in the later ones the other words
abbrev pub MayStand : ℕ → Word → Type 0
MayStand k Cache = k ≡ 2
MayStand k _ = 3 ≤ k

-- the line begins with a word of a format that may stand in line k
pub record HasWord (format : Format) (k : ℕ) (line : List ℕ) : Type 0 where
  pub word : Word
  pub may : MayStand k word
  pub of_format : IsWordOf format word
  pub first : first_field line ≡ spelled word

-- the kind of fault that a field of a shape is where it says no value
abbrev pub fault_of : Shape → FaultKind
fault_of (Num bits) = kind.Number
fault_of Regions = kind.Number
fault_of Offset = kind.Number
fault_of (Value width_field) = kind.Number
fault_of Window = kind.Choice
fault_of Width = kind.Choice
fault_of Disk = kind.Choice
fault_of Mode = kind.Choice
fault_of Verdict = kind.Choice
fault_of Kind = kind.Choice
fault_of Link = kind.Choice
fault_of Bytes = kind.Bytes
fault_of Identity = kind.Bytes

-- the fields are as many as the word has in a format
abbrev pub AreAsMany : Format → Word → List (List ℕ) → Type 0
AreAsMany format word fields = length fields ≡ length (shapes format word fields)

-- the order in which a line is checked
abbrev pub order : FaultKind → ℕ
order kind.Cut = 1
order kind.Header = 2
order kind.Word = 3
order kind.Order = 4
order kind.Fields = 5
order kind.Number = 6
order kind.Choice = 7
order kind.Bytes = 8
order kind.NoMemory = 9

-- of the fields, those whose fault is of this kind say a value of their shapes
abbrev pub AllSay : FaultKind → List Shape → List (List ℕ) → Type 0
AllSay fault [] fields = ⊤
AllSay fault (shape ∷ more) [] = ⊤
AllSay fault (shape ∷ more) (field ∷ fields) =
    MatchBool (order (fault_of shape) == order fault) (Says shape field) ⊤ × AllSay fault more fields

-- the first of the fields whose fault is of this kind and that says no value of its shape
pub record IsAtFault (fault : FaultKind) (shapes : List Shape) (fields : List (List ℕ)) (shape : Shape)
    (field : List ℕ) : Type 0 where
  pub before : List Shape
  pub after : List Shape
  pub front : List (List ℕ)
  pub rest : List (List ℕ)
  pub shapes_are : shapes ≡ before ++ shape ∷ after
  pub fields_are : fields ≡ front ++ field ∷ rest
  pub as_many : length before ≡ length front
  pub earlier : AllSay fault before front
  pub of_kind : fault_of shape ≡ fault
  pub fails : ¬ Says shape field

-- line k of the text passes the check of a kind
abbrev pub Passes : List ℕ → ℕ → FaultKind → Type 0
Passes text k kind.Cut = IsOwed text k → IsEnded text k
Passes text k kind.Header = IsEnded text k → k ≡ 1 → IsHeader (line_at text k)
Passes text k kind.Word = IsEnded text k → 2 ≤ k → (format : Format) → IsOfFormat text format
    → HasWord format k (line_at text k)
Passes text k kind.Order = IsEnded text k → first_field (line_at text k) ≡ spelled Slot → (j : ℕ) → 3 ≤ j
    → j < k → first_field (line_at text j) ≡ spelled Slot
Passes text k kind.Fields = IsEnded text k → 2 ≤ k → (format : Format) → IsOfFormat text format
    → (word : Word) → first_field (line_at text k) ≡ spelled word
    → AreAsMany format word (other_fields (line_at text k))
Passes text k kind.NoMemory = ⊤
Passes text k fault = IsEnded text k → 2 ≤ k → (format : Format) → IsOfFormat text format → (word : Word)
    → first_field (line_at text k) ≡ spelled word
    → AllSay fault (shapes format word (other_fields (line_at text k))) (other_fields (line_at text k))

-- each line before line k passes every check
abbrev pub IsCleanBefore : List ℕ → ℕ → Type 0
IsCleanBefore text k = (j : ℕ) → 1 ≤ j → j < k → (fault : FaultKind) → Passes text j fault

-- the text's fault: in line k, as the first line that fails a check, and by the first check that it fails
pub record IsFault (text : List ℕ) (k : ℕ) (fault : FaultKind) : Type 0 where
  pub numbered : 1 ≤ k
  pub before : IsCleanBefore text k
  pub earlier : (other : FaultKind) → order other < order fault → Passes text k other
  pub fails : ¬ Passes text k fault
