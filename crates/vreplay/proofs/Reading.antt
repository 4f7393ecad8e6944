-- What the parser's matches tell of the words.
use Rattle.std.proofs.Common.{◌≡◌, List, Option, Some, None, ◌↔◌, Bool, IsTrue, codes, Result, Err, IfErr, option_map, true, ap, refl, sym, ◌∙◌, subst, Bor}
use Rattle.clap.specs.Words.{FailsBy, HasMatchesOf, fault_of, first_value, found_of, is_simple, is_simple_and_free}
use Rattle.clap.specs.Simple.{App}
use Rattle.clap.specs.Walk.{Text, first_of}
use Rattle.clap.specs.declared.error.Error.{Error}
use Rattle.clap.specs.declared.parser.matches.ArgMatches.{ArgMatches}
use Rattle.clap.proofs.OnLiterals.{clap_on_literals}
use Rattle.clap.proofs.WalkLemmas.{first_value-rows}
use Rattle.calls.specs.declared.fault.Fault.{Fault}
use Rattle.calls.specs.declared.fault.Fault.TheVariants.{Usage}
use Rattle.vreplay.specs.Words.{NamesNoCall, RefusesBy, is_in_place, saved_to, value_of, vreplay}
use Rattle.vreplay.specs.declared.words.Keeping.{Keeping}
use Rattle.vreplay.specs.declared.words.Keeping.TheVariants.{Unchanged, Saved, InPlace}

pub is_simple_vreplay : is_simple vreplay ≡ true
unfolding clap_on_literals
is_simple_vreplay = refl

pub is_free_vreplay : is_simple_and_free vreplay ≡ true
unfolding clap_on_literals
is_free_vreplay = refl

-- the kinds of error of a command that is this one
pub fails_by : {T : Type 0} (app : App) (words : List Text) (r : Result T Error) → app ≡ vreplay
    → (is_simple_and_free app ≡ true → FailsBy (fault_of app words) r) → FailsBy (fault_of vreplay words) r
fails_by app words r is fails =
    subst (λ a. FailsBy (fault_of a words) r) is (fails (ap is_simple_and_free is ∙ is_free_vreplay))

-- what was found for an argument is the value that the words give
pub given : (m : ArgMatches) (words : List Text) (id : Text) → HasMatchesOf vreplay words m
    → value_of id words ≡ first_value (found_of m) id
given m words id has = sym (first_value-rows (found_of m) id ∙ ap (first_of id) (has is_simple_vreplay).0)

-- and so is what a getter answers
pub told : (m : ArgMatches) (words : List Text) (id : Text) (r : Option (Bor Text))
    → HasMatchesOf vreplay words m → option_map (λ s. s.now) r ≡ first_value (found_of m) id
    → value_of id words ≡ option_map (λ s. s.now) r
told m words id r has got = given m words id has ∙ sym got

-- words that name no call are refused
pub refused : {T : Type 0} (words : List Text) (r : Result T Fault) → r ≡ Err Usage → NamesNoCall words
    → IfErr r (RefusesBy words)
refused words r is why = rw is why

-- an image that is served in place isn't saved
pub in_place_apart : (keeping : Keeping) → IsTrue (is_in_place keeping) → saved_to keeping ≡ None
in_place_apart Unchanged is = refl
in_place_apart (Saved file) is = cc
in_place_apart InPlace is = refl

pub asked : (a b : Option Text) (flag : Bool) → a ≡ b → IsTrue flag ↔ (b ≡ Some (codes "true")) → IsTrue flag
    ↔ (a ≡ Some (codes "true"))
asked a b flag same is = subst (λ o. IsTrue flag ↔ (o ≡ Some (codes "true"))) (sym same) is
