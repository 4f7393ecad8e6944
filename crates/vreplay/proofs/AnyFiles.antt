-- Words after `--`, and what follows `--save=`, are taken whatever they are.
use Rattle.std.proofs.Common.{◌≡◌, ◌≢◌, Bool, List, [], ◌∷◌, ◌↔◌, Option, None, Some, IsSome, IsTrue, true, false, codes, refl, inl, inr, arith, rules}
use Rattle.clap.specs.Walk.{Text}
use Rattle.clap.specs.Faults.{fault_of}
use Rattle.clap.proofs.OnLiterals.{clap_on_literals}
use Rattle.vreplay.specs.Words.{AsksInPlace, Names, NamesNoCall, files_alone, files_and_more, files_both, files_in_place, files_saved, value_of, vreplay}

-- the flag's value where it wasn't given, and where it was
not_asked : (o : Option Text) → o ≡ Some (codes "false") → IsTrue false ↔ (o ≡ Some (codes "true"))
not_asked o is = grind (arith, is)

asked : (o : Option Text) → o ≡ Some (codes "true") → IsTrue true ↔ (o ≡ Some (codes "true"))
asked o is = ((λ _. is), (λ _. refl))

-- words that are taken, and what they give the arguments
names : {in_place : Bool} (words : List Text) (trace image : Text) (save : Option Text)
    → fault_of vreplay words ≡ [] → value_of (codes "trace") words ≡ Some trace
    → value_of (codes "image") words ≡ Some image → value_of (codes "save") words ≡ save
    → (IsTrue in_place ↔ AsksInPlace words) → (IsTrue in_place → save ≡ None)
    → Names words trace image save in_place
names words trace image save taken trace_is image_is save_is in_place_is apart = record {
  taken = taken;
  trace_is = trace_is;
  image_is = image_is;
  save_is = save_is;
  in_place_is = in_place_is;
  apart = apart;
}

pub two_files : (trace image : Text) → Names (files_alone trace image) trace image None false
unfolding clap_on_literals
two_files trace image = names _ _ _ _ refl refl refl refl (not_asked _ refl) (λ _. refl)

pub saved_files : (save trace image : Text)
    → Names (files_saved save trace image) trace image (Some save) false
unfolding clap_on_literals
saved_files save trace image = names _ _ _ _ refl refl refl refl (not_asked _ refl) (λ is. cc)

pub in_place_files : (trace image : Text) → Names (files_in_place trace image) trace image None true
unfolding clap_on_literals
in_place_files trace image = names _ _ _ _ refl refl refl refl (asked _ refl) (λ _. refl)

both_asked : (save trace image : Text) → AsksInPlace (files_both save trace image)
unfolding clap_on_literals
both_asked save trace image = refl

both_saved : (save trace image : Text) → value_of (codes "save") (files_both save trace image) ≡ Some save
unfolding clap_on_literals
both_saved save trace image = refl

some_of : {X : Type 0} (o : Option X) (x : X) → o ≡ Some x → IsSome o
some_of o x is = rw is (search rules)

pub not_both : (save trace image : Text) → NamesNoCall (files_both save trace image)
not_both save trace image =
    inr (inr (inr (both_asked save trace image, some_of _ save (both_saved save trace image))))

not_nil : {X : Type 0} (x : X) (xs ys : List X) → ys ≡ x ∷ xs → ys ≢ []
not_nil x xs ys is none = grind (arith, is, none)

more_files : (trace image more : Text) (others : List Text)
    → fault_of vreplay (files_and_more trace image more others) ≢ []
unfolding clap_on_literals
more_files trace image more others = not_nil _ [] _ refl

pub no_third_file : (trace image more : Text) (others : List Text)
    → NamesNoCall (files_and_more trace image more others)
no_third_file trace image more others = inl (more_files trace image more others)
