-- Fields written one after another, and lines.
use Rattle.std.proofs.Common.{◌≡◌, ℕ, ◌+◌, ◌<◌, List, [], ◌∷◌, ◌++◌, length, get_or, map, take, refl, sym, ap, ◌∙◌}
use Rattle.std.proofs.lemmas.List.{append-nil, append_assoc, map_more}
use Rattle.std.proofs.lemmas.List.Concat.{flat_map-append}
use Rattle.trace.specs.declared.format.Format.{Format}
use Rattle.trace.specs.Text.{Content, cache_line, ended, event_line, front_text, header, joined, line, slot_line, text, trace_lines}
use Rattle.trace.proofs.Signs.{joined_push}

pub line_push : (x : List ℕ) (xs : List (List ℕ)) (y : List ℕ)
    → line (x ∷ xs ++ y ∷ []) ≡ line (x ∷ xs) ++ 32 ∷ y
line_push x [] y = refl
line_push x (z ∷ zs) y = ap (λ (t : List ℕ). x ++ 32 ∷ t) (line_push z zs y)
    ∙ sym (append_assoc x (32 ∷ line (z ∷ zs)) (32 ∷ y))

-- one field more, of what stands at place i
pub line_more : {X : Type 0} (f : X → List ℕ) (front word before spaced now : List ℕ) (xs : List X) (i : ℕ)
    (d : X) → i < length xs
    → before ≡ front ++ line (word ∷ map f (take i xs)) → spaced ≡ before ++ 32 ∷ [] → now ≡ spaced
    ++ f (get_or xs i d)
    → now ≡ front ++ line (word ∷ map f (take (i + 1) xs))
line_more f front word before spaced now xs i d lt sofar space field =
    let so = line (word ∷ map f (take i xs)) in
    let x = f (get_or xs i d) in
    field ∙ ap (λ (t : List ℕ). t ++ x) (space ∙ ap (λ (t : List ℕ). t ++ 32 ∷ []) sofar)
    ∙ append_assoc (front ++ so) (32 ∷ []) x
    ∙ append_assoc front so (32 ∷ x)
    ∙ ap (λ (t : List ℕ). front ++ t) (sym (line_push word (map f (take i xs)) x)
    ∙ ap (λ (ys : List (List ℕ)). line (word ∷ ys)) (sym (map_more f xs i d lt)))

-- ---- lines

pub joined_none : joined [] ≡ []
unfolding joined
joined_none = refl

-- no line yet of some things
pub lines_none : {X : Type 0} (f : X → List ℕ) (front : List ℕ) (xs : List X)
    → front ≡ front ++ joined (map f (take 0 xs))
lines_none f front xs = sym (append-nil front) ∙ ap (λ (t : List ℕ). front ++ t) (sym joined_none)

-- one line more, of what stands at place i
pub joined_more : {X : Type 0} (f : X → List ℕ) (front : List ℕ) (xs : List X) (i : ℕ) (x : X) → i < length xs
    → x ≡ get_or xs i x → (front ++ joined (map f (take i xs))) ++ ended (f x) ≡ front
    ++ joined (map f (take (i + 1) xs))
joined_more f front xs i x lt is =
    append_assoc front (joined (map f (take i xs))) (ended (f x))
    ∙ ap (λ (t : List ℕ). front ++ t) (sym (joined_push (map f (take i xs)) (f x))
    ∙ ap joined (ap (λ y. map f (take i xs) ++ f y ∷ []) is ∙ sym (map_more f xs i x lt)))

pub lines_more : {X : Type 0} (f : X → List ℕ) (front old new : List ℕ) (xs : List X) (i : ℕ) (x : X)
    → i < length xs → x ≡ get_or xs i x → old ≡ front ++ joined (map f (take i xs))
    → new ≡ old ++ ended (f x) → new ≡ front ++ joined (map f (take (i + 1) xs))
lines_more f front old new xs i x lt is sofar more =
    more ∙ ap (λ (t : List ℕ). t ++ ended (f x)) sofar ∙ joined_more f front xs i x lt is

pub joined_append : (xs ys : List (List ℕ)) → joined (xs ++ ys) ≡ joined xs ++ joined ys
unfolding joined
joined_append xs ys = flat_map-append ended xs ys

front_is : (format : Format) (cache : ℕ) → joined (header format ∷ cache_line cache ∷ [])
    ≡ front_text format cache
unfolding joined
front_is format cache = ap (λ (t : List ℕ). ended (header format)
    ++ t) (append-nil (ended (cache_line cache)))

-- the text, in its three parts
pub text_is : {A : Type 0} (c : Content A)
    → (front_text c.format c.cache ++ joined (map (slot_line c.format) c.slots))
    ++ joined (map event_line c.events) ≡ text c
unfolding trace_lines
text_is c =
    sym (joined_append (header c.format ∷ cache_line c.cache ∷ map (slot_line c.format) c.slots)
    (map event_line c.events)
    ∙ ap (λ (t : List ℕ). t ++ joined (map event_line c.events))
    (joined_append (header c.format ∷ cache_line c.cache ∷ []) (map (slot_line c.format) c.slots)
    ∙ ap (λ (t : List ℕ). t ++ joined (map (slot_line c.format) c.slots)) (front_is c.format c.cache)))
