-- Whole services of the two queues, over any kind of ring.
use Rattle.std.proofs.Common.{◌≡◌, ◌≢◌, ℕ, ◌+◌, ◌-◌, Bool, List, [], ◌∷◌, ◌++◌, length, map, take, drop, Option, Some, None, refl, sym, ap, ◌∙◌, arith, append_assoc}
use Rattle.std.specs.Prelude.{min}
use Rattle.std.proofs.lemmas.List.{drop-drop, length-map, length-replicate, length-append, length-take, append-nil}
use Rattle.guest_memory.specs.Memory.{Memory}
use Rattle.chain.specs.declared.fault.Fault.{Fault}
use Rattle.chain.specs.Bytes.{writable_of}
use Rattle.chain.specs.Service.{Kind, Given, Ending, Spent, Faulted, Refused, Site, Served, after, ServesAll, stop, open_site, Works, IsService, IsExactUnless, HasAtMostOneAnswer, used_len}
use Rattle.chain.proofs.Partial.{unwritten, used_len-run}
use Rattle.chain.proofs.Servicing.{exact_service, never_refused}
use Rattle.chain.proofs.Simulating.{DoesAs, service_as}
use Rattle.console_device.specs.Input.{IsLeft}
use Rattle.console_device.specs.Output.{PutsOut}
use Rattle.console_device.specs.Device.{received, receive, transmitted, transmit, exact_transmit, transmit_within}
use Rattle.chain_handler.proofs.Doing.{used_len-none}

-- there is at most one answer to a chain
pub receive_once : HasAtMostOneAnswer receive
receive_once = record { given = λ pending readable w g h p q. p ∙ sym q }

pub transmit_once : HasAtMostOneAnswer transmit
transmit_once = record { given = λ out readable w g h p q. p ∙ sym q }

-- each place of a chain is accounted for, and as many as were received are counted
pub length-received : (pending : List ℕ) (w : ℕ) → length (received pending w).written ≡ w
length-received pending w =
    length-append (map Some (take w pending)) (unwritten (w - length pending))
    ∙ (let e = length-map (take w pending) Some in
    let f = length-replicate {A = Option ℕ} (w - length pending) None in let t = length-take w pending in
    omega (arith, e, f, t))

pub used_len-received : (pending : List ℕ) (w : ℕ)
    → used_len (received pending w).written ≡ min w (length pending)
used_len-received pending w =
    used_len-run (take w pending) (unwritten (w - length pending))
    ∙ (let f = used_len-none (w - length pending) in let t = length-take w pending in omega (arith, f, t))

pub length-transmitted : (out readable : List ℕ) (w : ℕ) → length (transmitted out readable w).written ≡ w
length-transmitted out readable w = length-replicate {A = Option ℕ} w None

-- but for what finds no memory a transmit is exact
pub exact_unless : IsExactUnless transmit exact_transmit (λ out. 0)
exact_unless = record {
  takes = λ out. refl;
  rises = λ out readable w given h. omega arith;
  gives = λ out readable w given h e. h;
}

-- within a limit a transmit is one, and where none is refused an exact one
pub exact_within : (limit : Option ℕ) → IsExactUnless (transmit_within limit) exact_transmit (λ out. 0)
exact_within limit = record {
  takes = λ out. refl;
  rises = λ out readable w given h. omega arith;
  gives = λ out readable w given h e. h.0;
}

pub some_within : (limit : Option ℕ) → DoesAs (transmit_within limit) transmit (λ out sent. sent ≡ out)
some_within limit = record {
  takes = λ out sent alike. refl;
  gives = λ out sent readable w given alike h. record {
    state = given.state;
    alike = refl;
    gives = rw alike h.0;
  };
  lacks_memory = λ out sent readable w alike h. h.0;
}

-- there is one answer to a chain within a limit
pub within_once : (limit : Option ℕ) → HasAtMostOneAnswer (transmit_within limit)
within_once limit = record { given = λ out readable w g h p q. p.0 ∙ sym q.0 }

module _ {Ring : Type 0} (kind : Kind Ring) where
  pub receive_never_refused : (old new : Site Ring (List ℕ)) (ending : Ending) (wanted : Bool)
      → IsService kind receive old new ending wanted → ending ≢ Refused
  receive_never_refused old new ending wanted s =
      never_refused kind receive old new ending wanted (λ pending readable w h. h) s

  -- each chain takes from the front of pending input
  pub serves_left : (start at : Site Ring (List ℕ)) (chains : List (Served (List ℕ)))
      → ServesAll kind receive start chains at → IsLeft start.state at.state
  serves_left start at [] p = record { taken = 0; rest = ap (λ (s : Site Ring (List ℕ)). s.state) (sym p) }
  serves_left start at (s ∷ chains) p =
      let w = length (writable_of s.buffers) in
      let later = serves_left (after kind receive start s) at chains p.1 in
      record {
        taken = w + later.taken;
        rest = later.rest ∙ ap (λ (g : Given (List ℕ)). drop later.taken g.state) p.0.gives
            ∙ drop-drop later.taken w start.state;
      }

  pub stop_state : (site : Site Ring (List ℕ)) (ending : Ending)
      → (stop kind receive site ending).state ≡ site.state
  stop_state site Spent = refl
  stop_state site (Faulted fault) = refl
  stop_state site Refused = refl

  works_left : (fault : Option Fault) (start last : Site Ring (List ℕ)) (ending : Ending)
      → Works kind receive fault start ending last → IsLeft start.state last.state
  works_left (Some fault) start last ending w =
      record { taken = 0; rest = ap (λ (s : Site Ring (List ℕ)). s.state) w.1 }
  works_left None start last ending w =
      let left = serves_left start w.at w.chains w.serves in
      record {
        taken = left.taken;
        rest = ap (λ (s : Site Ring (List ℕ)). s.state) w.stands
            ∙ stop_state w.at ending ∙ left.rest;
      }

  pub receive_left : (old new : Site Ring (List ℕ)) (ending : Ending) (wanted : Bool)
      → IsService kind receive old new ending wanted → IsLeft old.state new.state
  receive_left old new ending wanted s =
      let left = works_left (kind.opening_fault old.memory old.ring) (open_site kind receive old)
      s.last ending s.works in
      record { taken = left.taken; rest = ap (λ (s : Site Ring (List ℕ)). s.state) s.closed ∙ left.rest }

  pub transmit_exact : (old new : Site Ring (List ℕ)) (ending : Ending) (wanted : Bool) → ending ≢ Refused
      → IsService kind transmit old new ending wanted → IsService kind exact_transmit old new ending wanted
  transmit_exact old new ending wanted n s =
      exact_service kind transmit exact_transmit (λ out. 0) exact_unless old new ending wanted n refl s

-- what stands behind what was there before
abbrev Behind : List ℕ → List ℕ → List ℕ → Type 0
Behind before out sent = out ≡ before ++ sent

behind_as : (before : List ℕ) → DoesAs transmit transmit (Behind before)
behind_as before = record {
  takes = λ out sent alike. refl;
  gives = λ out sent readable w given alike h. record {
    state = sent ++ readable;
    alike = ap (λ (g : Given (List ℕ)). g.state) h ∙ ap (λ l. l ++ readable) alike
        ∙ append_assoc before sent readable;
    gives = ap (λ (g : Given (List ℕ)). record { state = sent ++ readable; written = g.written }) h;
  };
  lacks_memory = λ out sent readable w alike h. h;
}

-- What a service puts out stands behind what stood there, and what stood there takes no part in the service.
pub goes_behind : {Ring : Type 0} (kind : Kind Ring) (m new : Memory) (ring last : Ring)
    (before after : List ℕ) (ending : Ending) (wanted : Bool)
    → IsService kind transmit (record { memory = m; ring = ring; state = before })
    (record { memory = new; ring = last; state = after }) ending wanted
    → PutsOut kind m new ring last before after ending wanted
goes_behind kind m new ring last before after ending wanted s =
    let other = service_as kind transmit transmit (Behind before) (behind_as before)
    (record { memory = m; ring = ring; state = before })
    (record { memory = new; ring = last; state = after }) [] ending wanted (sym (append-nil before)) s in
    record { sent = other.state; behind = other.alike; service = other.service }
