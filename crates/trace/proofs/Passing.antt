-- What went to a writer through a buffer before it, in several calls.
use Rattle.std.proofs.Common.{◌≡◌, ℕ, Bool, true, false, not, if◌then◌else◌, List, [], ◌++◌, Option, None, Some, length, take, drop, refl, sym, ap, ◌∙◌, append_assoc, append-nil, take-append-drop, subst, ◌⊎◌, inl, inr}
use Rattle.std.proofs.KnownBytes.{Appends-nil, Appends-trans, Appends-kept, Keeps-trans, Keeps-refl}
use Rattle.std.specs.Bool.{OnTrue}
use Rattle.std.specs.Io.KnownBytes.{Appends, Keeps}
use lib.Seq.{take-append_seam}
use Rattle.trace.specs.Sends.{AppendsFront}
use Rattle.trace.specs.Sends.{Passes, Breaks, Sends}

passes_more : (a b c : Option (List ℕ)) (w x v y u : List ℕ) → Passes a b (w ++ x) v → Passes b c (v ++ y) u
    → Passes a c (w ++ (x ++ y)) u
passes_more a b c w x v y u p q = record {
  gone = p.gone ++ q.gone;
  took = Appends-trans a b c p.gone q.gone p.took q.took;
  rest =
      sym (append_assoc w x y)
      ∙ rw (p.rest, append_assoc p.gone v y, q.rest) (sym (append_assoc p.gone q.gone u));
}

breaks_longer : (a b c : Option (List ℕ)) (w x y : List ℕ) → Breaks a b (w ++ x) → Keeps b c
    → Breaks a c (w ++ (x ++ y))
breaks_longer a b c w x y p kept = record {
  left = p.left ++ y;
  front = record {
    gone = p.front.gone;
    took = Appends-kept a b c p.front.gone p.front.took kept;
    rest = sym (append_assoc w x y) ∙ ap (λ (t : List ℕ). t ++ y) p.front.rest
        ∙ append_assoc p.front.gone p.left y;
  };
}

-- two calls, one after the other
pub sends_more : (a b c s t u : Option (List ℕ)) (x y : List ℕ) → Sends a b s x t → Sends b c t y u
    → Sends a c s (x ++ y) u
sends_more a b c None None None x y p q = Keeps-trans a b c p q
sends_more a b c None None (Some u) x y p q = absurd q
sends_more a b c None (Some t) u x y p q = absurd p
sends_more a b c (Some s) None None x y p q = breaks_longer a b c s x y p q
sends_more a b c (Some s) None (Some u) x y p q = absurd q
sends_more a b c (Some s) (Some t) None x y p q =
    let more = passes_more a b c s x t y q.left p q.front in record { left = q.left; front = more }
sends_more a b c (Some s) (Some t) (Some u) x y p q = passes_more a b c s x t y u p q

-- nothing was added
pub sends_none : (a s : Option (List ℕ)) → Sends a a s [] s
sends_none a None = Keeps-refl a
sends_none a (Some s) = record { gone = []; took = Appends-nil a; rest = append-nil s }

-- the bytes by another name
pub sends_same : (a b s t : Option (List ℕ)) (x y : List ℕ) → x ≡ y → Sends a b s x t → Sends a b s y t
sends_same a b s t x y e p = subst (λ (bytes : List ℕ). Sends a b s bytes t) e p

-- all of the bytes went out
pub passes_all : (a b : Option (List ℕ)) (bytes : List ℕ) → Appends a b bytes → Passes a b bytes []
passes_all a b bytes took = record { gone = bytes; took = took; rest = sym (append-nil bytes) }

-- a front of the bytes went out
pub breaks_front : (a b : Option (List ℕ)) (bytes : List ℕ) → AppendsFront a b bytes → Breaks a b bytes
breaks_front a b bytes sent = record {
  left = drop sent.count bytes;
  front = record {
    gone = take sent.count bytes;
    took = sent.front;
    rest = sym (take-append-drop sent.count bytes);
  };
}

-- what was sent from an empty buffer, and nothing waits any more
pub sent_all : (a b : Option (List ℕ)) (bytes : List ℕ) → Sends a b (Some []) bytes (Some [])
    → Appends a b bytes
sent_all a b bytes p = subst (Appends a b) (sym (p.rest ∙ append-nil p.gone)) p.took

pub sent_front : (a b : Option (List ℕ)) (bytes : List ℕ) → Sends a b (Some []) bytes None
    → AppendsFront a b bytes
sent_front a b bytes p = record {
  count = length p.front.gone;
  front = subst (Appends a b) (sym (ap (take (length p.front.gone)) p.front.rest
      ∙ take-append_seam p.front.gone p.left)) p.front.took;
}

-- all that waits is written, or its writer fails
pub flushed : (a b : Option (List ℕ)) (broken ok : Bool) (items left : List ℕ) → broken ≡ false → left ≡ []
    → OnTrue ok (Appends a b items) → AppendsFront a b items
    → Sends a b (if broken then None else Some items) [] (if not ok then None else Some left)
flushed a b true ok items left e none whole front = absurd cc
flushed a b false true items left e none whole front =
    rw (none, append-nil items) (passes_all a b items whole)
flushed a b false false items left e none whole front = rw (append-nil items) (breaks_front a b items front)

-- bytes were added to those that wait, and the writer took none; after a failure they are as good as gone
pub kept : (a : Option (List ℕ)) (broken ok : Bool) (x y bytes : List ℕ) → ok ≡ true
    → y ≡ (if ok then x ++ bytes else x)
    → Sends a a (if broken then None else Some x) bytes (if broken then None else Some y)
kept a broken false x y bytes e is = absurd cc
kept a true true x y bytes e is = Keeps-refl a
kept a false true x y bytes e is = record { gone = []; took = Appends-nil a; rest = sym is }

-- the same where the writer first took all that waited
pub flushed_kept : (a b s : Option (List ℕ)) (broken ok : Bool) (x y bytes : List ℕ)
    → Sends a b s [] (if broken then None else Some x) → ok ≡ true → y ≡ (if ok then x ++ bytes else x)
    → Sends a b s bytes (if broken then None else Some y)
flushed_kept a b s broken ok x y bytes first e is =
    sends_more a b b s (if broken then None else Some x) (if broken then None else Some y) [] bytes first
    (kept b broken ok x y bytes e is)

-- once the writer has failed nothing more goes out
pub broken_off : (a b s : Option (List ℕ)) (broken : Bool) (x bytes : List ℕ)
    → Sends a b s [] (if broken then None else Some x) → broken ≡ true
    → Sends a b s bytes (if broken then None else Some x)
broken_off a b s false x bytes first e = absurd cc
broken_off a b s true x bytes first e = sends_more a b b s None None [] bytes first (Keeps-refl b)

-- bytes are written past an empty buffer
past : (a b : Option (List ℕ)) (ok : Bool) (bytes : List ℕ) → OnTrue ok (Appends a b bytes)
    → AppendsFront a b bytes → Sends a b (Some []) bytes (if not ok then None else Some [])
past a b true bytes whole front = passes_all a b bytes whole
past a b false bytes whole front = breaks_front a b bytes front

-- what waits is written, and then bytes for which there is no room
put_past : (a b c state : Option (List ℕ)) (ok : Bool) (bytes left : List ℕ) → Sends a b state [] (Some [])
    → left ≡ [] → OnTrue ok (Appends b c bytes) → AppendsFront b c bytes
    → Sends a c state bytes (if not ok then None else Some left)
put_past a b c state ok bytes left first none whole front =
    rw none (sends_more a b c state (Some []) (if not ok then None else Some []) [] bytes first
    (past b c ok bytes whole front))

empty_is : (broken : Bool) (items : List ℕ) → broken ≡ false
    → ((if broken then None else Some items) ≡ Some [])
    ⊎ ((if broken then None else Some items) ≡ None) → items ≡ []
empty_is true items e h = absurd cc
empty_is false items e (inl h) = cc
empty_is false items e (inr h) = absurd cc

-- the same from the states of the buffer, which kept none of the bytes
pub put_cold : (a b c : Option (List ℕ)) (s s' t k k' ok : Bool) (x x' y y' bytes : List ℕ) → k ≡ false
    → x' ≡ (if k then x ++ bytes else x) → s' ≡ s
    → Sends a b (if s' then None else Some x') [] (if t then None else Some y)
    → ((if t then None else Some y) ≡ Some []) ⊎ ((if t then None else Some y) ≡ None) → t ≡ false
    → k' ≡ false → y' ≡ (if k' then y ++ bytes else y) → OnTrue ok (Appends b c bytes)
    → AppendsFront b c bytes → Sends a c (if s then None else Some x) bytes (if not ok then None else Some y')
put_cold a b c s s' false false false ok x x' y y' bytes p q r first empty stopped p' q' whole front =
    let none = empty_is false y refl empty in
    put_past a b c (if s then None else Some x) ok bytes y' (rw (r, q, none) at first) (q' ∙ none) whole front
put_cold a b c s s' t k k' ok x x' y y' bytes p q r first empty stopped p' q' whole front = absurd cc
