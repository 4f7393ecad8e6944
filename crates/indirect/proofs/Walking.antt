-- A walk over linked descriptors, step by step.
use Rattle.std.proofs.Common.{◌≡◌, ℕ, ◌+◌, ◌/◌, ◌<◌, false, Some, None, List, [], ◌∷◌, ◌++◌, refl, sym, ap, ◌∙◌, append_assoc}
use Rattle.std.proofs.lemmas.List.{length_push, append-nil, map-append}
use Rattle.guest_memory.specs.Memory.{Memory}
use Rattle.chain.specs.declared.segment.Buffer.{Buffer}
use Rattle.chain.specs.Buffers.{Admits, AdmitsAll, Refuses}
use Rattle.chain.specs.declared.fault.Fault.{Fault}
use Rattle.chain.specs.declared.fault.Fault.TheVariants.{TooMany, Range, TooLong}
use Rattle.chain.proofs.Admitting.{AdmitsAll-push}
use Rattle.indirect.specs.declared.descriptor.Descriptor.{Descriptor}
use Rattle.indirect.specs.Descriptors.{split_table}
use Rattle.indirect.specs.Tables.{IsTable, SplitTableFails}
use Rattle.indirect.specs.Walks.{Follows, Leads, buffers_of, Reached, ComesNext, Resolves, StopsAt}

-- one more member
pub Leads-push : (t : ℕ → Descriptor) (n h i j : ℕ) (front : List ℕ) → Leads t n h front i → Follows t n i j
    → Leads t n h (front ++ i ∷ []) j
Leads-push t n h i j [] l f = (l, f, refl)
Leads-push t n h i j (x ∷ []) l f = (l.0, l.1, Leads-push t n i i j [] l.2 f)
Leads-push t n h i j (x ∷ y ∷ front) l f = (l.0, l.1, Leads-push t n y i j (y ∷ front) l.2 f)

pub buffers_of-push : (t : ℕ → Descriptor) (front : List ℕ) (i : ℕ)
    → buffers_of t (front ++ i ∷ []) ≡ buffers_of t front ++ (t i).buffer ∷ []
buffers_of-push t front i = map-append (λ i. (t i).buffer) front (i ∷ [])

-- before the first step
pub reached_start : (m : Memory) (before : List Buffer) (t : ℕ → Descriptor) (n h : ℕ)
    → Reached m before t n h 0 h before
reached_start m before t n h =
    record { front = []; leads = refl; counted = refl; admitted = tt; named = sym (append-nil before) }

-- the buffer of a member behind those before it
pub admitted_step : (m : Memory) (before buffers : List Buffer) (t : ℕ → Descriptor) (front : List ℕ) (i : ℕ)
    (d : Descriptor) → d ≡ t i
    → AdmitsAll m before (buffers_of t front) → buffers ≡ before ++ buffers_of t front
    → Admits m buffers d.buffer
    → AdmitsAll m before (buffers_of t (front ++ i ∷ []))
admitted_step m before buffers t front i d e all named a =
    rw (buffers_of-push t front i) (AdmitsAll-push m before (buffers_of t front) (t i).buffer all
    (rw (e, named) at a))

pub named_step : (before buffers : List Buffer) (t : ℕ → Descriptor) (front : List ℕ) (i : ℕ) (d : Descriptor)
    → d ≡ t i
    → buffers ≡ before ++ buffers_of t front → buffers ++ d.buffer ∷ [] ≡ before
    ++ buffers_of t (front ++ i ∷ [])
named_step before buffers t front i d e named =
    rw (buffers_of-push t front i, e, named) (append_assoc before (buffers_of t front) ((t i).buffer ∷ []))

-- one step further: the descriptor at the index is plain, has NEXT, and its buffer is admitted
pub reached_step : (m : Memory) (before buffers after : List Buffer) (t : ℕ → Descriptor) (n h count i j : ℕ)
    (d : Descriptor)
    → d ≡ t i → i < n → d.indirect ≡ false → d.next ≡ Some j → Admits m buffers d.buffer
    → after ≡ buffers ++ d.buffer ∷ []
    → Reached m before t n h count i buffers → Reached m before t n h (count + 1) j after
reached_step m before buffers after t n h count i j d e below plain next a pushed r =
    let f : Follows t n i j =
    record {
      below = below;
      plain = ap (λ (d : Descriptor). d.indirect) (sym e) ∙ plain;
      next = ap (λ (d : Descriptor). d.next) (sym e) ∙ next;
    } in
    record {
      front = r.front ++ i ∷ [];
      leads = Leads-push t n h i j r.front r.leads f;
      counted = length_push r.front i ∙ ap (λ k. k + 1) r.counted;
      admitted = admitted_step m before buffers t r.front i d e r.admitted r.named a;
      named = pushed ∙ named_step before buffers t r.front i d e r.named;
    }

-- the last step: the descriptor at the index is plain, lacks NEXT, and its buffer is admitted
pub resolves_step : (m : Memory) (before buffers after : List Buffer) (t : ℕ → Descriptor) (n h count i : ℕ)
    (d : Descriptor)
    → d ≡ t i → count < n → i < n → d.indirect ≡ false → d.next ≡ None → Admits m buffers d.buffer
    → after ≡ buffers ++ d.buffer ∷ []
    → Reached m before t n h count i buffers → Resolves m before t n h after
resolves_step m before buffers after t n h count i d e room below plain ends a pushed r =
    record {
      front = r.front;
      last = i;
      leads = r.leads;
      comes = record { room = rw r.counted room; below = below };
      plain = ap (λ (d : Descriptor). d.indirect) (sym e) ∙ plain;
      ends = ap (λ (d : Descriptor). d.next) (sym e) ∙ ends;
      admitted = admitted_step m before buffers t r.front i d e r.admitted r.named a;
      named = pushed ∙ named_step before buffers t r.front i d e r.named;
    }

-- the buffer of the descriptor that comes next is refused
pub refused_stops : (m : Memory) (buffers : List Buffer) (t : ℕ → Descriptor) (n count i : ℕ) (d : Descriptor)
    (fault : Fault)
    → d ≡ t i → count < n → i < n → d.indirect ≡ false → Refuses m buffers d.buffer fault
    → StopsAt m buffers t n count i fault
refused_stops m buffers t n count i d fault e room below plain r = go fault (rw e at r)
  where
    comes : ComesNext n count i
    comes = record { room = room; below = below }

    is_plain : (t i).indirect ≡ false
    is_plain = ap (λ (d : Descriptor). d.indirect) (sym e) ∙ plain

    go : (fault : Fault) → Refuses m buffers (t i).buffer fault → StopsAt m buffers t n count i fault
    go Range r = record { comes = comes; plain = is_plain; refused = r }
    go TooMany r = record { comes = comes; plain = is_plain; refused = r }
    go TooLong r = record { comes = comes; plain = is_plain; refused = r }
    go _ r = absurd r

-- a split table whose walk stops at an index fails there
pub split_stops : (m : Memory) (addr len : ℕ) (before buffers after : List Buffer) (entries count i : ℕ)
    (fault : Fault) → entries ≡ len / 16 → IsTable m addr len → after ≡ buffers
    → Reached m before (split_table m addr) entries 0 count i buffers
    → StopsAt m buffers (split_table m addr) entries count i fault
    → SplitTableFails m addr len before fault after
split_stops m addr len before buffers after entries count i fault is table same reached stops = record {
  no_table = λ none. absurd (none table);
  walked = λ _. rw (← is, same) (record { count = count; at = i; reached = reached; stops = stops });
}
