-- A walk has one outcome: one path, or one fault, and never both; and the front before a fault is the
-- longest.
use Rattle.std.proofs.Common.{◌≡◌, ℕ, ◌<◌, ◌≤◌, false, Some, List, [], ◌∷◌, ◌++◌, length, refl, sym, ap, ◌∙◌, arith, inl, inr, ◌⊎◌, length-append, subst}
use Rattle.std.proofs.lemmas.List.{append-nil, map-append}
use Rattle.guest_memory.specs.Memory.{Memory}
use Rattle.chain.specs.declared.segment.Buffer.{Buffer}
use Rattle.chain.specs.declared.fault.Fault.{Fault}
use Rattle.chain.specs.declared.fault.Fault.TheVariants.{Index, Loop, TooMany, Nested, Range, TooLong}
use Rattle.chain.specs.Buffers.{Admits, AdmitsAll}
use Rattle.chain.proofs.Admitting.{Admits-at, Admits-Refuses, AdmitsAll-front, Refuses-unique}
use Rattle.indirect.specs.declared.descriptor.Descriptor.{Descriptor}
use Rattle.indirect.specs.Walks.{first_of, Leads, buffers_of, ComesNext, Resolves, NextRefused, NextIndirect, StopsAt, FaultAt}

-- the front ys goes on where xs ends: behind xs it has the members rest, which lead from i to j
pub record GoesOn (t : ℕ → Descriptor) (n i j : ℕ) (xs ys : List ℕ) : Type 0 where
  pub rest : List ℕ
  pub joined : ys ≡ xs ++ rest
  pub leads : Leads t n i rest j

-- two fronts from one index: one of them goes on as the other
pub fronts : (t : ℕ → Descriptor) (n h i j : ℕ) (xs ys : List ℕ) → Leads t n h xs i → Leads t n h ys j
    → GoesOn t n i j xs ys ⊎ GoesOn t n j i ys xs
fronts t n h i j [] ys p q = inl (record { rest = ys; joined = refl; leads = rw p at q })
fronts t n h i j (x ∷ xs) [] p q = inr (record { rest = x ∷ xs; joined = refl; leads = rw q at p })
fronts t n h i j (x ∷ xs) (y ∷ ys) p q =
    let same : x ≡ y = sym p.0 ∙ q.0 in
    let next : first_of xs i ≡ first_of ys j =
    same_some (first_of xs i) (first_of ys j) (sym p.1.next ∙ ap (λ k. (t k).next) same ∙ q.1.next) in
    let more = fronts t n (first_of xs i) i j xs ys p.2 (subst (λ k. Leads t n k ys j) (sym next) q.2) in
    elim more [
      | inl g ↦ inl (record {
        rest = g.rest;
        joined = joined2 x y xs ys g.rest same g.joined;
        leads = g.leads;
      })
      | inr g ↦ inr (record {
        rest = g.rest;
        joined = joined2 y x ys xs g.rest (sym same) g.joined;
        leads = g.leads;
      })
    ]
  where
    same_some : (a b : ℕ) → Some a ≡ Some b → a ≡ b
    same_some a b e = cc

    joined2 : (x y : ℕ) (xs ys rest : List ℕ) → x ≡ y → ys ≡ xs ++ rest → y ∷ ys ≡ (x ∷ xs) ++ rest
    joined2 x y xs ys rest e f = rw (e, f) refl

-- two fronts that go on by nothing are one
same_front : (t : ℕ → Descriptor) (n i j : ℕ) (xs ys : List ℕ) (g : GoesOn t n i j xs ys) → g.rest ≡ []
    → (ys ≡ xs) × (i ≡ j)
same_front t n i j xs ys g e = (g.joined ∙ rw (e, append-nil xs) refl, rw e at g.leads)

-- where neither goes on they are one
pub front_once : (t : ℕ → Descriptor) (n h i j : ℕ) (xs ys : List ℕ) → Leads t n h xs i → Leads t n h ys j
    → ((g : GoesOn t n i j xs ys) → g.rest ≡ []) → ((g : GoesOn t n j i ys xs) → g.rest ≡ [])
    → (ys ≡ xs) × (i ≡ j)
front_once t n h i j xs ys p q here there =
    elim (fronts t n h i j xs ys p q) [
      | inl o ↦ same_front t n i j xs ys o (here o)
      | inr o ↦ let s = same_front t n j i ys xs o (there o) in (sym s.0, sym s.1)
    ]

-- and one that nothing goes on is the longest
pub front_longest : (t : ℕ → Descriptor) (n h i j : ℕ) (xs ys : List ℕ) → Leads t n h xs i → Leads t n h ys j
    → ((g : GoesOn t n i j xs ys) → g.rest ≡ []) → length ys ≤ length xs
front_longest t n h i j xs ys p q here =
    elim (fronts t n h i j xs ys p q) [
      | inl o ↦ let s = ap (λ (l : List ℕ). length l) (same_front t n i j xs ys o (here o)).0 in omega (arith, s)
      | inr o ↦ let s = ap (λ (l : List ℕ). length l) o.joined ∙ length-append ys o.rest in omega (arith, s)
    ]

-- the buffers of a front that goes on past i, up to that of i
pub goes_past : (m : Memory) (before : List Buffer) (t : ℕ → Descriptor) (xs ys : List ℕ) (i : ℕ)
    (rest : List ℕ) → ys ≡ xs ++ i ∷ rest
    → AdmitsAll m before (buffers_of t ys) → Admits m (before ++ buffers_of t xs) (t i).buffer
goes_past m before t xs ys i rest e a =
    Admits-at m before (buffers_of t xs) (t i).buffer (buffers_of t rest)
    (rw (map-append (λ k. (t k).buffer) xs (i ∷ rest)) at (rw e at a))

-- a front goes on by nothing past an index whose descriptor isn't plain with a buffer that is admitted
pub goes_no_further : (m : Memory) (before : List Buffer) (t : ℕ → Descriptor) (n count i j : ℕ)
    (front ys : List ℕ) → length front ≡ count
    → (ComesNext n count i → (t i).indirect ≡ false
    → Admits m (before ++ buffers_of t front) (t i).buffer → ⊥)
    → AdmitsAll m before (buffers_of t ys) → length ys ≤ n → (g : GoesOn t n i j front ys) → g.rest ≡ []
goes_no_further m before t n count i j front ys counted stops a l g = go g.rest g.joined g.leads
  where
    go : (rest : List ℕ) → ys ≡ front ++ rest → Leads t n i rest j → rest ≡ []
    go [] e p = refl
    go (x ∷ rest) e p =
        let here : i ≡ x = p.0 in
        let size = ap (λ (l : List ℕ). length l) e ∙ length-append front (x ∷ rest) in
        let comes : ComesNext n count i =
        record { room = omega (arith, size, counted, l); below = omega (arith, p.1.below, here) } in
        let plain : (t i).indirect ≡ false = ap (λ k. (t k).indirect) here ∙ p.1.plain in
        absurd (stops comes plain (goes_past m before t front ys i rest (rw here e) a))

-- a walk that stops at an index doesn't take its descriptor as a plain member
stops_or_takes : (m : Memory) (buffers : List Buffer) (t : ℕ → Descriptor) (n count i : ℕ) (fault : Fault)
    → StopsAt m buffers t n count i fault
    → ComesNext n count i → (t i).indirect ≡ false → Admits m buffers (t i).buffer → ⊥
stops_or_takes m buffers t n count i Index s c p a = omega (arith, s.1, c.below)
stops_or_takes m buffers t n count i Loop s c p a = omega (arith, s, c.room)
stops_or_takes m buffers t n count i TooMany s c p a =
    Admits-Refuses m buffers (t i).buffer TooMany a s.refused
stops_or_takes m buffers t n count i Nested s c p a = cc (s.indirect, p)
stops_or_takes m buffers t n count i Range s c p a = Admits-Refuses m buffers (t i).buffer Range a s.refused
stops_or_takes m buffers t n count i TooLong s c p a =
    Admits-Refuses m buffers (t i).buffer TooLong a s.refused
stops_or_takes m buffers t n count i _ s c p a = s

-- it stops for one cause
stops_loop : (m : Memory) (buffers : List Buffer) (t : ℕ → Descriptor) (n count i : ℕ) (e : count ≡ n)
    (g : Fault) → StopsAt m buffers t n count i g → Loop ≡ g
stops_loop m buffers t n count i e Index s = absurd (omega (arith, e, s.0))
stops_loop m buffers t n count i e Loop s = refl
stops_loop m buffers t n count i e TooMany s = absurd (omega (arith, e, s.comes.room))
stops_loop m buffers t n count i e Nested s = absurd (omega (arith, e, s.comes.room))
stops_loop m buffers t n count i e Range s = absurd (omega (arith, e, s.comes.room))
stops_loop m buffers t n count i e TooLong s = absurd (omega (arith, e, s.comes.room))
stops_loop m buffers t n count i e _ s = absurd s

stops_index : (m : Memory) (buffers : List Buffer) (t : ℕ → Descriptor) (n count i : ℕ) (e : (count < n)
    × (n ≤ i)) (g : Fault) → StopsAt m buffers t n count i g → Index ≡ g
stops_index m buffers t n count i e Index s = refl
stops_index m buffers t n count i e Loop s = absurd (omega (arith, e.0, s))
stops_index m buffers t n count i e TooMany s = absurd (omega (arith, e.1, s.comes.below))
stops_index m buffers t n count i e Nested s = absurd (omega (arith, e.1, s.comes.below))
stops_index m buffers t n count i e Range s = absurd (omega (arith, e.1, s.comes.below))
stops_index m buffers t n count i e TooLong s = absurd (omega (arith, e.1, s.comes.below))
stops_index m buffers t n count i e _ s = absurd s

stops_nested : (m : Memory) (buffers : List Buffer) (t : ℕ → Descriptor) (n count i : ℕ)
    (e : NextIndirect t n count i) (g : Fault)
    → StopsAt m buffers t n count i g → Nested ≡ g
stops_nested m buffers t n count i e Index s = absurd (omega (arith, e.comes.below, s.1))
stops_nested m buffers t n count i e Loop s = absurd (omega (arith, e.comes.room, s))
stops_nested m buffers t n count i e TooMany s = cc (e.indirect, s.plain)
stops_nested m buffers t n count i e Nested s = refl
stops_nested m buffers t n count i e Range s = cc (e.indirect, s.plain)
stops_nested m buffers t n count i e TooLong s = cc (e.indirect, s.plain)
stops_nested m buffers t n count i e _ s = absurd s

stops_refused : (m : Memory) (buffers : List Buffer) (t : ℕ → Descriptor) (n count i : ℕ) (f : Fault)
    (e : NextRefused m buffers t n count i f) (g : Fault) → StopsAt m buffers t n count i g → f ≡ g
stops_refused m buffers t n count i f e Index s = absurd (omega (arith, e.comes.below, s.1))
stops_refused m buffers t n count i f e Loop s = absurd (omega (arith, e.comes.room, s))
stops_refused m buffers t n count i f e TooMany s =
    Refuses-unique m buffers (t i).buffer f TooMany e.refused s.refused
stops_refused m buffers t n count i f e Nested s = cc (e.plain, s.indirect)
stops_refused m buffers t n count i f e Range s =
    Refuses-unique m buffers (t i).buffer f Range e.refused s.refused
stops_refused m buffers t n count i f e TooLong s =
    Refuses-unique m buffers (t i).buffer f TooLong e.refused s.refused
stops_refused m buffers t n count i f e _ s = absurd s

stops_once : (m : Memory) (buffers : List Buffer) (t : ℕ → Descriptor) (n count i : ℕ) (f g : Fault)
    → StopsAt m buffers t n count i f
    → StopsAt m buffers t n count i g → f ≡ g
stops_once m buffers t n count i Index g e s = stops_index m buffers t n count i e g s
stops_once m buffers t n count i Loop g e s = stops_loop m buffers t n count i e g s
stops_once m buffers t n count i TooMany g e s = stops_refused m buffers t n count i TooMany e g s
stops_once m buffers t n count i Nested g e s = stops_nested m buffers t n count i e g s
stops_once m buffers t n count i Range g e s = stops_refused m buffers t n count i Range e g s
stops_once m buffers t n count i TooLong g e s = stops_refused m buffers t n count i TooLong e g s
stops_once m buffers t n count i _ g e s = absurd e

stops_within : (m : Memory) (buffers : List Buffer) (t : ℕ → Descriptor) (n count i : ℕ) (f : Fault)
    → StopsAt m buffers t n count i f → count ≤ n
stops_within m buffers t n count i Index e = omega (arith, e.0)
stops_within m buffers t n count i Loop e = omega (arith, e)
stops_within m buffers t n count i TooMany e = omega (arith, e.comes.room)
stops_within m buffers t n count i Nested e = omega (arith, e.comes.room)
stops_within m buffers t n count i Range e = omega (arith, e.comes.room)
stops_within m buffers t n count i TooLong e = omega (arith, e.comes.room)
stops_within m buffers t n count i _ e = absurd e

module _ (m : Memory) (before : List Buffer) (t : ℕ → Descriptor) (n h : ℕ) where
  -- a front that passes the index at which a walk stops, with buffers that are admitted, isn't there
  not_past : (fault : Fault) (after : List Buffer) (f : FaultAt m before t n h fault after)
      (ys : List ℕ) (j : ℕ)
      → AdmitsAll m before (buffers_of t ys) → length ys ≤ n
      → (g : GoesOn t n f.at j f.reached.front ys) → g.rest ≡ []
  not_past fault after f ys j a l g =
      goes_no_further m before t n f.count f.at j f.reached.front ys f.reached.counted
      (λ comes plain admits. stops_or_takes m after t n f.count f.at fault f.stops comes plain
      (rw f.reached.named admits)) a l g

  -- no front with buffers that are admitted is longer than the one before a fault
  pub longest : (fault : Fault) (after : List Buffer) (f : FaultAt m before t n h fault after)
      (ys : List ℕ) (j : ℕ)
      → Leads t n h ys j → AdmitsAll m before (buffers_of t ys) → length ys ≤ n → length ys ≤ f.count
  longest fault after f ys j p a l =
      let most = front_longest t n h f.at j f.reached.front ys f.reached.leads p
      (not_past fault after f ys j a l) in
      omega (arith, most, f.reached.counted)

  same_fault : (f g : Fault) (a b : List Buffer) (x : FaultAt m before t n h f a)
      (y : FaultAt m before t n h g b)
      → y.reached.front ≡ x.reached.front → x.at ≡ y.at → (f ≡ g) × (a ≡ b)
  same_fault f g a b x y e i =
      let same : a ≡ b = x.reached.named ∙ ap (λ (l : List ℕ). before ++ buffers_of t l) (sym e)
      ∙ sym y.reached.named in
      let count : x.count ≡ y.count = sym x.reached.counted ∙ ap (λ (l : List ℕ). length l) (sym e)
      ∙ y.reached.counted in
      let here : StopsAt m b t n y.count y.at f = rw (← same, ← count, ← i) x.stops in
      (stops_once m b t n y.count y.at f g here y.stops, same)

  -- there is one fault, and one list of buffers before it
  pub one_fault : (f g : Fault) (a b : List Buffer) → FaultAt m before t n h f a → FaultAt m before t n h g b
      → (f ≡ g) × (a ≡ b)
  one_fault f g a b x y =
      let lx = stops_within m a t n x.count x.at f x.stops in
      let ly = stops_within m b t n y.count y.at g y.stops in
      let s = front_once t n h x.at y.at x.reached.front y.reached.front x.reached.leads y.reached.leads
      (not_past f a x y.reached.front y.at y.reached.admitted (omega (arith, ly, y.reached.counted)))
      (not_past g b y x.reached.front x.at x.reached.admitted (omega (arith, lx, x.reached.counted))) in
      same_fault f g a b x y s.0 s.1

  -- nothing goes on behind the last member of a path
  path_ends : (a : List Buffer) (x : Resolves m before t n h a) (ys : List ℕ) (j : ℕ)
      (g : GoesOn t n x.last j x.front ys) → g.rest ≡ []
  path_ends a x ys j g = go g.rest g.leads
    where
      go : (rest : List ℕ) → Leads t n x.last rest j → rest ≡ []
      go [] p = refl
      go (z ∷ rest) p = let here : (t x.last).next ≡ Some (first_of rest j) = ap (λ k. (t k).next) p.0
          ∙ p.1.next in cc (here, x.ends)

  same_path : (a b : List Buffer) (x : Resolves m before t n h a) (y : Resolves m before t n h b)
      → y.front ≡ x.front → x.last ≡ y.last → a ≡ b
  same_path a b x y e i = x.named ∙ rw (← e, i) refl ∙ sym y.named

  -- there is one path
  pub one_path : (a b : List Buffer) → Resolves m before t n h a → Resolves m before t n h b → a ≡ b
  one_path a b x y =
      let s = front_once t n h x.last y.last x.front y.front x.leads y.leads
      (path_ends a x y.front y.last) (path_ends b y x.front x.last) in
      same_path a b x y s.0 s.1

  -- a walk doesn't stop at the last member of a path
  stops_or_ends : (f : Fault) (a b : List Buffer) (x : FaultAt m before t n h f a)
      (y : Resolves m before t n h b)
      → y.front ≡ x.reached.front → x.at ≡ y.last → ⊥
  stops_or_ends f a b x y e i =
      let count : x.count ≡ length y.front = sym x.reached.counted ∙ ap (λ (l : List ℕ). length l) (sym e) in
      let admits = goes_past m before t y.front (y.front ++ y.last ∷ []) y.last [] refl y.admitted in
      let same : before ++ buffers_of t y.front ≡ a = ap (λ (l : List ℕ). before ++ buffers_of t l) e
      ∙ sym x.reached.named in
      stops_or_takes m a t n x.count x.at f x.stops (rw (count, i) y.comes) (rw i y.plain)
      (rw (i, ← same) admits)

  front_admitted : (b : List Buffer) (y : Resolves m before t n h b)
      → AdmitsAll m before (buffers_of t y.front)
  front_admitted b y =
      AdmitsAll-front m before (buffers_of t y.front) ((t y.last).buffer ∷ [])
      (rw (map-append (λ k. (t k).buffer) y.front (y.last ∷ [])) at y.admitted)

  -- there isn't a path and a fault
  pub never_both : (f : Fault) (a b : List Buffer) → FaultAt m before t n h f a
      → Resolves m before t n h b → ⊥
  never_both f a b x y =
      let s = front_once t n h x.at y.last x.reached.front y.front x.reached.leads y.leads
      (not_past f a x y.front y.last (front_admitted b y) (omega (arith, y.comes.room)))
      (path_ends b y x.reached.front x.at) in
      stops_or_ends f a b x y s.0 s.1
