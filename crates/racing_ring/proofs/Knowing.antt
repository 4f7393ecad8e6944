-- The descriptors that were read, each once, and known from then on.
use Rattle.std.proofs.Common.{◌≡◌, ◌∙◌, ℕ, zero, suc, ◌+◌, ◌*◌, ◌<◌, ◌≤◌, Bool, true, false, Option, Some, None, List, [], ◌∷◌, ◌++◌, get_or, length, refl, sym, ap, inl, inr}
use Rattle.std.specs.Prelude.{is_some, replicate, slice_set}
use Rattle.std.proofs.lemmas.List.{get_or_default, get_or-set_same, get_or-set_other}
use Rattle.std.proofs.lemmas.Bool.{cases_eq}
use Rattle.indirect.specs.declared.descriptor.Descriptor.{Descriptor}
use Rattle.indirect.specs.Descriptors.{split_descriptor}
use Rattle.shared_memory.specs.Sightings.{Sightings, Loads, memory}
use Rattle.racing_ring.specs.Table.{Known, known_at, IsLookedUp, IsDescriptorSeen, IsTableSeen, read_split}
use Rattle.racing_ring.proofs.Seeing.{seen_at_last, source_of, turn_later, turn_sooner}
use Rattle.racing_ring.proofs.Tables.{Agree}

-- a descriptor that wasn't read
abbrev unread : Descriptor
unread = record {
  buffer = record { segment = record { addr = 0; len = 0 }; writable = false };
  indirect = false;
  next = None;
}

abbrev pub or_else : Option Descriptor → Descriptor → Descriptor
or_else None e = e
or_else (Some d) e = d

-- the table of what is known
abbrev pub told : Known → ℕ → Descriptor
told known i = or_else (known_at known i) unread

-- the table of what is known, and else of what stands there now
abbrev pub filled : Known → Sightings → ℕ → ℕ → Descriptor
filled known sightings addr i = or_else (known_at known i) (split_descriptor (memory sightings) (addr + 16 * i))

-- these indices are known
abbrev pub AreKnown : Known → List ℕ → Type 0
AreKnown known [] = Unit {0}
AreKnown known (x ∷ xs) = (is_some (known_at known x) ≡ true) × AreKnown known xs

pub agree_filled : (known : Known) (sightings : Sightings) (addr : ℕ) (front : List ℕ) → AreKnown known front
    → Agree (told known) (filled known sightings addr) front
agree_filled known sightings addr [] k = tt
agree_filled known sightings addr (x ∷ front) k =
    (by (known_at known x) k.0, agree_filled known sightings addr front k.1)
  where
    by : (o : Option Descriptor) → is_some o ≡ true
        → or_else o unread ≡ or_else o (split_descriptor (memory sightings) (addr + 16 * x))
    by None h = let test : false ≡ true = h in cc
    by (Some d) h = refl

pub agree_looked : (begin : ℕ) (sightings : Sightings) (addr : ℕ) (old new : Known) (i : ℕ) (d : Descriptor)
    (front : List ℕ) → IsLookedUp begin sightings addr old new i d → AreKnown old front
    → Agree (told old) (told new) front × AreKnown new front
agree_looked begin sightings addr old new i d [] looked k = (tt, tt)
agree_looked begin sightings addr old new i d (x ∷ front) looked k =
    let rest = agree_looked begin sightings addr old new i d front looked k.1 in
    let here = by (known_at old x) refl k.0 in
    ((here.0, rest.0), (here.1, rest.1))
  where
    by : (o : Option Descriptor) → known_at old x ≡ o → is_some o ≡ true
        → (told old x ≡ told new x) × (is_some (known_at new x) ≡ true)
    by None e h = let test : false ≡ true = h in cc
    by (Some c) e h =
        let stays = looked.kept x c e in
        (rw (e, stays) refl, rw stays refl)

-- each descriptor that is known was seen
abbrev pub AreSeen : ℕ → Sightings → ℕ → Known → Type 0
AreSeen begin new addr known =
    (j : ℕ) (d : Descriptor) → known_at known j ≡ Some d → IsDescriptorSeen begin new (addr + 16 * j) d

pub known_push : (known : Known) (front : List ℕ) (i : ℕ) (d : Descriptor) → AreKnown known front
    → known_at known i ≡ Some d → AreKnown known (front ++ i ∷ [])
known_push known [] i d k e = (rw e refl, tt)
known_push known (x ∷ front) i d k e = (k.0, known_push known front i d k.1 e)

-- what is known is told
pub told_found : (known : Known) (i : ℕ) (d : Descriptor) → known_at known i ≡ Some d → d ≡ told known i
told_found known i d e = rw e refl

pub filled_found : (known : Known) (sightings : Sightings) (addr i : ℕ) (d : Descriptor) → known_at known i ≡ Some d
    → d ≡ filled known sightings addr i
filled_found known sightings addr i d e = rw e refl

-- nothing is known at first
pub seen_none : (begin : ℕ) (new : Sightings) (addr k : ℕ) → AreSeen begin new addr (replicate k None)
seen_none begin new addr k j d e = absurd (no (nothing k j) e)
  where
    nothing : (k j : ℕ) → known_at (replicate k None) j ≡ None
    nothing zero j = refl
    nothing (suc k) zero = refl
    nothing (suc k) (suc j) = nothing k j

    no : {o : Option Descriptor} → o ≡ None → o ≡ Some d → ⊥
    no a b = cc (a, b)

some_same : {a b : Descriptor} → Some a ≡ Some b → a ≡ b
some_same h = cc h

-- what was seen of a descriptor
seen_here : (begin : ℕ) (new : Sightings) (a b : ℕ) (d e : Descriptor) → e ≡ d → b ≡ a → IsDescriptorSeen begin new a d
    → IsDescriptorSeen begin new b e
seen_here begin new a b d e same place seen = record {
  source = seen.source;
  seen = seen.seen;
  is = same ∙ seen.is ∙ ap (read_split seen.source) (sym place);
}

seen_later : (races : Bool) (begin : ℕ) (mid new : Sightings) (a : ℕ) (d : Descriptor) → Loads races mid new
    → IsDescriptorSeen begin mid a d → IsDescriptorSeen begin new a d
seen_later races begin mid new a d loads was = record {
  source = was.source;
  seen = turn_later races begin mid new was.source loads was.seen;
  is = was.is;
}

-- what one look-up adds
pub seen_looked : (races : Bool) (old mid new : Sightings) (addr : ℕ) (known known' : Known) (i : ℕ) (d : Descriptor)
    → Loads races old mid → Loads races mid new → IsLookedUp mid.now new addr known known' i d
    → AreSeen old.now mid addr known → AreSeen old.now new addr known'
seen_looked races old mid new addr known known' i d before loads looked seen j e is =
    by (known_at known j) refl
  where
    by : (o : Option Descriptor) → known_at known j ≡ o → IsDescriptorSeen old.now new (addr + 16 * j) e
    by None n =
        let now = looked.fresh j e n is in
        record {
          source = now.source;
          seen = turn_sooner old.now mid.now new now.source before.later now.seen;
          is = now.is;
        }
    by (Some c) k =
        seen_here old.now new (addr + 16 * j) (addr + 16 * j) c e (some_same (sym is ∙ looked.kept j c k)) refl
        (seen_later races old.now mid new (addr + 16 * j) c loads (seen j c k))

-- and what later reads leave
pub seen_after : (races : Bool) (begin : ℕ) (mid new : Sightings) (addr : ℕ) (known : Known) → Loads races mid new
    → AreSeen begin mid addr known → AreSeen begin new addr known
seen_after races begin mid new addr known loads seen j d e =
    seen_later races begin mid new (addr + 16 * j) d loads (seen j d e)

-- each descriptor of the table was seen
pub filled_seen : (begin : ℕ) (new : Sightings) (addr n : ℕ) (known : Known) → begin ≤ new.now
    → AreSeen begin new addr known → IsTableSeen begin new addr n (filled known new addr)
filled_seen begin new addr n known later seen i below = by (known_at known i) refl
  where
    by : (o : Option Descriptor) → known_at known i ≡ o
        → IsDescriptorSeen begin new (addr + 16 * i) (filled known new addr i)
    by None e = record {
      source = source_of new new;
      seen = seen_at_last begin new later;
      is = rw e refl;
    }
    by (Some d) e =
        let was = seen i d e in
        record { source = was.source; seen = was.seen; is = rw e was.is }

-- a descriptor that wasn't known was read
pub looked_fresh : (begin : ℕ) (sightings : Sightings) (addr : ℕ) (old : Known) (i j : ℕ) (d : Descriptor)
    (any : Option Descriptor) → j ≡ i → j < length old → get_or old j any ≡ None
    → IsDescriptorSeen begin sightings (addr + 16 * i) d
    → IsLookedUp begin sightings addr old (slice_set old j (Some d)) i d
looked_fresh begin sightings addr old i j d any at room unknown read = record {
  found = rw (← at) (get_or-set_same old j (Some d) None room);
  kept = λ k e is. elim (cases_eq k j) [
    | inl same ↦ absurd (no (ap (λ (n : ℕ). known_at old n) same ∙ none) is)
    | inr other ↦ get_or-set_other old j k (Some d) None other ∙ is
  ];
  fresh = λ k e was is. elim (cases_eq k j) [
    | inl same ↦
        let here : known_at (slice_set old j (Some d)) k ≡ Some d =
        rw same (get_or-set_same old j (Some d) None room) in
        seen_here begin sightings (addr + 16 * i) (addr + 16 * k) d e (some_same (sym is ∙ here))
        (ap (λ (n : ℕ). addr + 16 * n) (same ∙ at)) read
    | inr other ↦ absurd (no (get_or-set_other old j k (Some d) None other ∙ was) is)
  ];
}
  where
    none : known_at old j ≡ None
    none = get_or_default old j None any room ∙ unknown

    no : {o : Option Descriptor} {e : Descriptor} → o ≡ None → o ≡ Some e → ⊥
    no a b = cc (a, b)
