-- Lines that are those of a trace pass every check.
use Rattle.std.proofs.Common.{◌≡◌, ℕ, ◌<◌, ◌≤◌, List, [], cond, eqb, get_or, drop, refl, sym, ap, subst, ◌∙◌}
use Rattle.trace.specs.declared.fault.FaultKind.{FaultKind}
use Rattle.trace.specs.declared.fault.FaultKind.TheVariants as kind
use Rattle.trace.specs.declared.format.Format.{Format}
use Rattle.trace.specs.declared.format.Format.TheVariants.{Plain, Extended}
use Rattle.trace.specs.declared.format.Version.TheVariants.{One, Two}
use Rattle.trace.specs.declared.word.Word.{Word}
use Rattle.trace.specs.declared.word.Word.TheVariants.{Slot}
use Rattle.trace.specs.Faults.{AllSay, AreAsMany, HasWord, IsEnded, IsHeader, IsOfFormat, Passes, first_field, line_at, other_fields}
use Rattle.trace.specs.Text.{header}
use Rattle.trace.specs.Words.{spelled, shapes}
use Rattle.trace.proofs.Entries.{Entered, same_word}

-- a header is one format's, by its ninth byte
abbrev format_at : ℕ → Format
format_at n = cond (eqb n 49) (Plain One) (cond (eqb n 50) (Plain Two) Extended)

named : (format : Format) → format_at (get_or (header format) 8 0) ≡ format
named (Plain One) = refl
named (Plain Two) = refl
named Extended = refl

pub same_header : (v w : Format) → header v ≡ header w → v ≡ w
same_header v w e = sym (named v) ∙ ap (λ (xs : List ℕ). format_at (get_or xs 8 0)) e ∙ named w

-- a first line names one format
pub same_format : (v w : Format) (text : List ℕ) → IsOfFormat text v → IsOfFormat text w → v ≡ w
same_format v w text one other = same_header v w (sym one ∙ other)

-- what makes line k of a text of this format pass each check
pub record Good (format : Format) (text : List ℕ) (k : ℕ) : Type 0 where
  pub ended : IsEnded text k
  pub names : IsOfFormat text format
  pub first : k ≡ 1 → IsHeader (line_at text k)
  pub word : 2 ≤ k → HasWord format k (line_at text k)
  pub order : first_field (line_at text k) ≡ spelled Slot → (j : ℕ) → 3 ≤ j → j < k
      → first_field (line_at text j) ≡ spelled Slot
  pub entry : 2 ≤ k → (word : Word) × Entered format (line_at text k) word

-- the word of a line and its fields
pub first_is : (format : Format) (l : List ℕ) (w : Word) → Entered format l w → first_field l ≡ spelled w
first_is format l w e = ap (λ (fs : List (List ℕ)). get_or fs 0 []) e.cut

-- what the fields of line k are by a format and a word
abbrev pub Counted : List ℕ → ℕ → Format → Word → Type 0
Counted text k format word = AreAsMany format word (other_fields (line_at text k))

abbrev pub Said : List ℕ → ℕ → FaultKind → Format → Word → Type 0
Said text k fault format word =
    AllSay fault (shapes format word (other_fields (line_at text k))) (other_fields (line_at text k))

-- what holds by the format and the word of a line holds by each that it names
pub by_each : (format : Format) (text : List ℕ) (k : ℕ) (word : Word) (P : Format → Word → Type 0)
    → IsOfFormat text format → first_field (line_at text k) ≡ spelled word → P format word
    → (v : Format) → IsOfFormat text v → (w : Word) → first_field (line_at text k) ≡ spelled w → P v w
by_each format text k word P names is h v other w first =
    subst (λ (x : Format). P x w) (same_format format v text names other)
    (subst (P format) (same_word word w (sym is ∙ first)) h)

module _ (format : Format) (text : List ℕ) (k : ℕ) (g : Good format text k) where
  good_each : (P : Format → Word → List (List ℕ) → Type 0)
      → ((word : Word) (e : Entered format (line_at text k) word) → P format word e.fields) → 2 ≤ k
      → (v : Format) → IsOfFormat text v → (w : Word) → first_field (line_at text k) ≡ spelled w
      → P v w (other_fields (line_at text k))
  good_each P each le =
      let e = g.entry le in
      by_each format text k e.0 (λ (x : Format) (u : Word). P x u (other_fields (line_at text k))) g.names
      (first_is format (line_at text k) e.0 e.1)
      (subst (P format e.0) (sym (ap (drop 1) e.1.cut)) (each e.0 e.1))

  pub good_passes : (fault : FaultKind) → Passes text k fault
  good_passes kind.Cut = λ owed. g.ended
  good_passes kind.Header = λ end. g.first
  good_passes kind.Word = λ end le v names. subst (λ (x : Format). HasWord x k (line_at text k))
      (same_format format v text g.names names) (g.word le)
  good_passes kind.Order = λ end. g.order
  good_passes kind.Fields = λ end.
      good_each (λ (x : Format) (u : Word) (fs : List (List ℕ)). AreAsMany x u fs) (λ word e. e.count)
  good_passes kind.NoMemory = tt
  good_passes fault = λ end.
      good_each (λ (x : Format) (u : Word) (fs : List (List ℕ)). AllSay fault (shapes x u fs) fs)
      (λ word e. e.say fault)
