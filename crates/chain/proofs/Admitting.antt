-- Which buffers may stand behind others: one by one, and all at once.
use Rattle.std.proofs.Common.{◌≡◌, ◌+◌, ◌^◌, List, [], ◌∷◌, ◌++◌, length, refl, sym, ◌∙◌, ◌<◌, ◌≤◌, inl, inr, ◌⊎◌, arith, append_assoc, length-append}
use Rattle.std.specs.Prelude.{All}
use Rattle.std.proofs.lemmas.Bool.{cases_lt}
use Rattle.std.proofs.lemmas.List.{length_push, append-nil}
use Rattle.std.proofs.lemmas.List.Sums.{sum_by_push, sum_by-append, sum_by-cons}
use Rattle.std.proofs.lemmas.List.Elements.{All-push, All-nil, All-head, All-tail}
use Rattle.guest_memory.specs.Memory.{Memory}
use Rattle.guest_memory.proofs.Ranges.{inside_cases}
use Rattle.chain.specs.declared.segment.Buffer.{Buffer}
use Rattle.chain.specs.declared.fault.Fault.{Fault}
use Rattle.chain.specs.declared.fault.Fault.TheVariants.{TooMany, Range, TooLong}
use Rattle.chain.specs.Buffers.{Within, Good, Admits, AdmitsAll, Refuses, total_len}

module _ (m : Memory) where
  -- one more behind those that may stand there
  pub AdmitsAll-push : (before xs : List Buffer) (b : Buffer) → AdmitsAll m before xs
      → Admits m (before ++ xs) b → AdmitsAll m before (xs ++ b ∷ [])
  AdmitsAll-push before [] b h a = (rw append-nil at a, tt)
  AdmitsAll-push before (x ∷ xs) b h a =
      (h.0, AdmitsAll-push (before ++ x ∷ []) xs b h.1 (rw (append_assoc before (x ∷ []) xs) a))

  -- what may stand behind a good list makes a good list
  pub Good-append : (before xs : List Buffer) → Good m before → AdmitsAll m before xs → Good m (before ++ xs)
  Good-append before [] g h = rw append-nil g
  Good-append before (x ∷ xs) g h =
      let more : Good m (before ++ x ∷ []) = record {
        inside = All-push (Within m) before x g.inside h.0.inside;
        few = omega (arith, length_push before x, h.0.room);
        fits = omega (arith, sum_by_push (λ (b : Buffer). b.segment.len) before x, h.0.fits);
      } in
      rw (← append_assoc before (x ∷ []) xs) (Good-append (before ++ x ∷ []) xs more h.1)

  -- no buffer is good
  pub good_nil : Good m []
  good_nil = record { inside = All-nil (Within m); few = omega arith; fits = omega arith }

  -- what may stand behind nothing is good
  pub Good-from_AdmitsAll : (xs : List Buffer) → AdmitsAll m [] xs → Good m xs
  Good-from_AdmitsAll xs h = Good-append [] xs good_nil h

  -- and the other way round: the tail of a good list may stand behind its front
  pub AdmitsAll-from_Good : (before xs : List Buffer) → Good m (before ++ xs) → AdmitsAll m before xs
  AdmitsAll-from_Good before [] g = tt
  AdmitsAll-from_Good before (x ∷ xs) g =
      let n = length-append before (x ∷ xs) in
      let s = sum_by-append (λ (b : Buffer). b.segment.len) before (x ∷ xs) in
      let c = sum_by-cons (λ (b : Buffer). b.segment.len) x xs in (
        record {
          inside = All-here before x xs g.inside;
          room = omega (arith, n, g.few);
          fits = omega (arith, s, c, g.fits);
        },
        AdmitsAll-from_Good (before ++ x ∷ []) xs (rw (append_assoc before (x ∷ []) xs) g),
      )
    where
      All-here : (before : List Buffer) (x : Buffer) (xs : List Buffer)
          → All (Within m) (before ++ x ∷ xs) → Within m x
      All-here [] x xs h = All-head (Within m) x xs h
      All-here (b ∷ before) x xs h = All-here before x xs (All-tail (Within m) b (before ++ x ∷ xs) h)

  -- the first of those that may stand behind a front
  pub Admits-at : (before front : List Buffer) (b : Buffer) (rest : List Buffer)
      → AdmitsAll m before (front ++ b ∷ rest) → Admits m (before ++ front) b
  Admits-at before [] b rest h = rw append-nil h.0
  Admits-at before (x ∷ front) b rest h =
      rw (append_assoc before (x ∷ []) front) at (Admits-at (before ++ x ∷ []) front b rest h.1)

  -- no buffer is both admitted and refused
  pub Admits-Refuses : (buffers : List Buffer) (b : Buffer) (fault : Fault) → Admits m buffers b
      → Refuses m buffers b fault → ⊥
  Admits-Refuses buffers b Range a r = r a.inside
  Admits-Refuses buffers b TooMany a r = absurd (omega (arith, a.room, r.1))
  Admits-Refuses buffers b TooLong a r = absurd (omega (arith, a.fits, r.2))
  Admits-Refuses buffers b _ a r = r

  -- a buffer is refused for one cause: which one hangs on these two tests
  abbrev cause : (b : Buffer) (buffers : List Buffer) → Within m b ⊎ (¬ Within m b) → (length buffers < 256)
      ⊎ (256 ≤ length buffers) → Fault
  cause b buffers (inr outside) room = Range
  cause b buffers (inl inside) (inr full) = TooMany
  cause b buffers (inl inside) (inl room) = TooLong

  is_cause : (buffers : List Buffer) (b : Buffer) (f : Fault) (inside : Within m b ⊎ (¬ Within m b))
      (room : (length buffers < 256) ⊎ (256 ≤ length buffers))
      → Refuses m buffers b f → f ≡ cause b buffers inside room
  is_cause buffers b Range (inr outside) room r = refl
  is_cause buffers b Range (inl inside) room r = absurd (r inside)
  is_cause buffers b TooMany (inr outside) room r = absurd (outside r.0)
  is_cause buffers b TooMany (inl inside) (inr full) r = refl
  is_cause buffers b TooMany (inl inside) (inl room) r = absurd (omega (arith, r.1, room))
  is_cause buffers b TooLong (inr outside) room r = absurd (outside r.0)
  is_cause buffers b TooLong (inl inside) (inr full) r = absurd (omega (arith, r.1, full))
  is_cause buffers b TooLong (inl inside) (inl room) r = refl
  is_cause buffers b _ inside room r = absurd r

  pub Refuses-unique : (buffers : List Buffer) (b : Buffer) (f g : Fault) → Refuses m buffers b f
      → Refuses m buffers b g → f ≡ g
  Refuses-unique buffers b f g r s =
      let inside = inside_cases m b.segment.addr b.segment.len in
      let room = cases_lt (length buffers) 256 in
      is_cause buffers b f inside room r ∙ sym (is_cause buffers b g inside room s)

  -- what may stand behind these buffers, without its end
  pub AdmitsAll-front : (before xs ys : List Buffer) → AdmitsAll m before (xs ++ ys) → AdmitsAll m before xs
  AdmitsAll-front before [] ys h = tt
  AdmitsAll-front before (x ∷ xs) ys h = (h.0, AdmitsAll-front (before ++ x ∷ []) xs ys h.1)

  -- a buffer may stand behind these, or is refused
  pub admits_or_refuses : (buffers : List Buffer) (b : Buffer) → Admits m buffers b
      ⊎ ((fault : Fault) × Refuses m buffers b fault)
  admits_or_refuses buffers b =
      elim (inside_cases m b.segment.addr b.segment.len) [
        | inr outside ↦ inr (Range, outside)
        | inl inside ↦ elim (cases_lt (length buffers) 256) [
          | inr full ↦ inr (TooMany, (inside, full))
          | inl room ↦ elim (cases_lt (total_len buffers + b.segment.len) (2 ^ 32)) [
            | inr long ↦ inr (TooLong, (inside, room, long))
            | inl fits ↦ inl (record { inside = inside; room = room; fits = fits })
          ]
        ]
      ]
