-- The words of a call: what the program's command is to the parser, and what the parser makes of the words.
use Rattle.std.specs.Prelude.{◌≡◌, ◌≢◌, ◌↔◌, ◌⊎◌, List, [], ◌∷◌, ◌++◌, Option, Some, None, IsSome, IsTrue, Bool, codes, true, false, map, string_bytes, String}
use Rattle.clap.specs.Walk.{Rule, Text, first_of}
use Rattle.clap.specs.Simple.{App, matches_of, new_app, new_rule, on_top, with_rule}
use Rattle.clap.specs.Faults.{fault_of}
use Rattle.clap.specs.declared.builder.action.ArgAction.TheVariants.{SetTrue}
use Rattle.replay.specs.declared.fault.ReplayFault.TheVariants.{NoMemory}
use Rattle.calls.specs.declared.fault.Fault.{Fault}
use Rattle.calls.specs.declared.fault.Fault.TheVariants.{Usage, Replay}
use Rattle.vreplay.specs.declared.words.Call.{Call}
use Rattle.vreplay.specs.declared.words.Keeping.{Keeping}
use Rattle.vreplay.specs.declared.words.Keeping.TheVariants.{Unchanged, Saved, InPlace}

-- the words as texts
abbrev pub texts_of : {A : Type 0} → List (String A) → List Text
texts_of = map string_bytes

-- the command before it has its arguments; the program's own name isn't among the words
abbrev pub bare : App
bare = on_top (λ s. record s { no_binary_name = true }) (new_app (codes "vreplay"))

-- the option with a value
abbrev pub save_rule : Rule
save_rule = record (new_rule (codes "save")) { long = Some (codes "save") }

-- the flag
abbrev pub in_place_rule : Rule
in_place_rule = record (new_rule (codes "in-place")) { long = Some (codes "in-place"); action = Some SetTrue }

-- the program's command: two positionals that may be left out, one option with a value, and a flag
abbrev pub vreplay : App
vreplay = with_rule (with_rule
    (with_rule (with_rule bare (new_rule (codes "trace"))) (new_rule (codes "image")))
    save_rule) in_place_rule

-- what the words give an argument
abbrev pub value_of : Text → List Text → Option Text
value_of id words = first_of id (matches_of vreplay words)

-- the words have the flag
abbrev pub AsksInPlace : List Text → Type 0
AsksInPlace words = value_of (codes "in-place") words ≡ Some (codes "true")

-- the words are taken, and name this trace, this image, and what is to become of the image: perhaps a file to
-- save it to, or else whether it is served in place
pub record Names (words : List Text) (trace image : Text) (save : Option Text)
    (in_place : Bool) : Type 0 where
  pub taken : fault_of vreplay words ≡ []
  pub trace_is : value_of (codes "trace") words ≡ Some trace
  pub image_is : value_of (codes "image") words ≡ Some image
  pub save_is : value_of (codes "save") words ≡ save
  pub in_place_is : IsTrue in_place ↔ AsksInPlace words
  pub apart : IsTrue in_place → save ≡ None

-- the file that the image's bytes are saved to
abbrev pub saved_to : Keeping → Option Text
saved_to Unchanged = None
saved_to (Saved file) = Some file.now
saved_to InPlace = None

abbrev pub is_in_place : Keeping → Bool
is_in_place Unchanged = false
is_in_place (Saved file) = false
is_in_place InPlace = true

-- the words name the files of this call
abbrev pub IsCall : List Text → Call → Type 0
IsCall words call = Names words call.trace.now call.image.now (saved_to call.keeping)
    (is_in_place call.keeping)

-- the words are refused, help and version among it, or leave out a file that is wanted, or ask both that the
-- image is saved and that it is served in place
abbrev pub NamesNoCall : List Text → Type 0
NamesNoCall words = (fault_of vreplay words ≢ [])
    ⊎ ((value_of (codes "trace") words ≡ None)
    ⊎ ((value_of (codes "image") words ≡ None)
    ⊎ (AsksInPlace words × IsSome (value_of (codes "save") words))))

-- the words `-- TRACE IMAGE`
abbrev pub files_alone : Text → Text → List Text
files_alone trace image = codes "--" ∷ trace ∷ image ∷ []

-- the words `--save=FILE -- TRACE IMAGE`
abbrev pub files_saved : Text → Text → Text → List Text
files_saved save trace image = (codes "--save=" ++ save) ∷ files_alone trace image

-- the words `--in-place -- TRACE IMAGE`
abbrev pub files_in_place : Text → Text → List Text
files_in_place trace image = codes "--in-place" ∷ files_alone trace image

-- the words `--in-place --save=FILE -- TRACE IMAGE`
abbrev pub files_both : Text → Text → Text → List Text
files_both save trace image = codes "--in-place" ∷ files_saved save trace image

-- the words `-- TRACE IMAGE MORE` and any further ones
abbrev pub files_and_more : Text → Text → Text → List Text → List Text
files_and_more trace image more others = codes "--" ∷ trace ∷ image ∷ more ∷ others

-- why no call was made of the words: they name none, or there was no memory to read them
abbrev pub RefusesBy : List Text → Fault → Type 0
RefusesBy words Usage = NamesNoCall words
RefusesBy words (Replay fault) = fault ≡ NoMemory
