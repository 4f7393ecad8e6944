-- A look at a queue of a disk that the host serves comes out in one way, since no chain that it serves asks
-- for the disk; and so does a completion.
use Rattle.std.proofs.Common.{◌≡◌, inl, inr, ◌↔◌, ℕ, zero, suc, ◌+◌, ◌-◌, ◌<◌, Bool, true, false, Option, Some, None, List, [], ◌∷◌, length, drop, take, refl, sym, ap, subst, ◌∙◌, arith}
use Rattle.std.specs.Prelude.{IsTrue}
use Rattle.std.proofs.lemmas.Option.{same_Some}
use Rattle.guest_memory.specs.Memory.{Memory}
use Rattle.chain.specs.declared.budget.Budget.{Budget}
use Rattle.chain.specs.declared.budget.Progress.{Progress}
use Rattle.chain.specs.declared.budget.Progress.TheVariants as progress
use Rattle.chain.specs.declared.fault.Fault.{Fault}
use Rattle.chain.specs.declared.segment.Buffer.{Buffer}
use Rattle.chain.specs.declared.segment.Segment.{Segment}
use Rattle.chain.specs.Budget.{IsSpent, chains_of, left_after}
use Rattle.chain.specs.Bytes.{readable_of, writable_of}
use Rattle.chain.specs.Pieces.{Pauses}
use Rattle.chain.specs.Service.{Decides, Ending, Entry, Faulted, Given, HasAtMostOneAnswer, IsEnding, Refused, Served, ServesAll, ServesChain, Site, Spent, Works, after, close_site, open_site}
use Rattle.chain.proofs.Servicing.{both, one_decided_service}
use Rattle.mmio_window.specs.declared.queue.Queue.{Queue}
use Rattle.mmio_window.specs.declared.queue.Queue.TheVariants.{Split, Packed}
use Rattle.mmio_window.specs.declared.queue.Token.{Token}
use Rattle.mmio_window.specs.declared.queue.Token.TheVariants as token
use Rattle.mmio_window.specs.declared.stage.Stage.{Stage}
use Rattle.mmio_window.specs.declared.stage.Stage.TheVariants.{First, Next}
use Rattle.mmio_window.specs.Pieces.{IsFinishedWithin, IsNotifiedWithin, PieceTo, ServesTo, opened_at}
use Rattle.mmio_window.specs.Queue.{IsTaken, entry_of, queue_kind}
use Rattle.mmio_window.specs.Serving.{IsNotified, after_service}
use Rattle.mmio_window.specs.Window.{WindowState, with_ring}
use Rattle.mmio_window.proofs.OnePiece.{piece_is_one}
use Rattle.mmio_window.proofs.Pieces.{notified_once}
use Rattle.mmio_window.proofs.QueueKind.{has_at_most_one_chain}
use Rattle.sector_cache.specs.Disk.{Disk}
use Rattle.block_device.specs.declared.device.BlockDevice.{BlockDevice}
use Rattle.block_device.specs.declared.hosting.Flight.{Flight}
use Rattle.block_device.specs.declared.hosting.Hosted.{Hosted}
use Rattle.block_device.specs.declared.hosting.Hosted.TheVariants as hosted
use Rattle.block_device.specs.declared.operation.Operation.{Operation}
use Rattle.block_device.specs.declared.operation.Verdict.{Verdict}
use Rattle.block_device.specs.declared.request.Request.{Request}
use Rattle.block_device.specs.declared.request.Request.TheVariants.{Rejected, GetId}
use Rattle.block_device.specs.Asking.{EndsUnasked, IsAsked, asks_image, unasked_device}
use Rattle.block_device.specs.Device.{GivesBy, given_of}
use Rattle.block_device.specs.Extent.{extent_disk}
use Rattle.block_device.specs.Hosting.{AsksAt, AsksIn, AsksWithin, CompletesIn, HasStatusAt, HostsTo, SameLook, StopsAt, at_disk, site_of, wants_stable}
use Rattle.block_device.specs.Operation.{operation_of}
use Rattle.block_device.specs.Outcome.{Completes, Ends, Fails, Outcome, completed}
use Rattle.block_device.specs.Request.{request_of, payload_of}
use Rattle.block_device.proofs.Asking.{unasked_by_cases}

-- ---- one answer to a chain that asks for nothing

never_fails : (request : Request) (payload : List ℕ) (disk : Disk) (outcome : Outcome)
    → asks_image request ≡ false → Fails request payload disk outcome → ⊥
never_fails request payload disk outcome none =
    unasked_by_cases (λ r. Fails r payload disk outcome → ⊥) (λ status fails. fails) (λ fails. fails) request none

pub completes_from : (identity : List ℕ) (request : Request) (payload : List ℕ) (disk : Disk)
    (outcome : Outcome) → asks_image request ≡ false → Ends identity request payload disk outcome
    → Completes identity request payload disk outcome
completes_from identity request payload disk outcome none (inl h) = h
completes_from identity request payload disk outcome none (inr fails) =
    absurd (never_fails request payload disk outcome none fails)

completes_once : (identity : List ℕ) (request : Request) (payload : List ℕ) (disk : Disk)
    (one other : Outcome) → asks_image request ≡ false
    → Completes identity request payload disk one
    → Completes identity request payload disk other → one ≡ other
completes_once identity request payload disk one other none =
    unasked_by_cases (λ r. Completes identity r payload disk one → Completes identity r payload disk other
    → one ≡ other)
    (λ status x y. x.is ∙ ap (λ (f : List ℕ). completed (Rejected status) payload f disk) (x.finds ∙ sym y.finds)
    ∙ sym y.is)
    (λ x y. x.is ∙ ap (λ (f : List ℕ). completed GetId payload f disk) (x.finds ∙ sym y.finds) ∙ sym y.is)
    request none

ends_once : (identity : List ℕ) (request : Request) (payload : List ℕ) (disk : Disk) (one other : Outcome)
    → EndsUnasked identity request payload disk one
    → EndsUnasked identity request payload disk other → one ≡ other
ends_once identity request payload disk one other x y =
    completes_once identity request payload disk one other x.unasked
    (completes_from identity request payload disk one x.unasked x.ends)
    (completes_from identity request payload disk other y.unasked y.ends)

given_once : (device : BlockDevice) (disk : Disk) (readable : List ℕ) (w : ℕ) (one other : Given Disk)
    → GivesBy (EndsUnasked device.identity) device disk readable w one
    → GivesBy (EndsUnasked device.identity) device disk readable w other → one ≡ other
given_once device disk readable zero one other x y = x ∙ sym y
given_once device disk readable (suc room) one other x y =
    x.given_is
    ∙ ap (given_of room) (ends_once device.identity (request_of device readable room) (payload_of readable)
    disk x.outcome y.outcome x.is y.is)
    ∙ sym y.given_is

unasked_once : (device : BlockDevice) → HasAtMostOneAnswer (unasked_device device)
unasked_once device = record { given = given_once device }

decides : (device : BlockDevice) → Decides (unasked_device device)
decides device = record { never_both = λ disk readable w given gives lacks. lacks }

-- ---- where it stops

-- the chain on offer asks for the disk
record AsksHere (device : BlockDevice) (site : Site Queue Disk) : Type 0 where
  buffers : List Buffer
  entry : Entry
  request : Request
  offers : queue_kind.offers site.memory site.ring ≡ true
  offered : queue_kind.Offers site.memory site.ring buffers entry
  asked : IsAsked device site.memory buffers request

asks_here : (device : BlockDevice) (start now : Site Queue Disk) (buffers : List Buffer) (token : Token)
    (request : Request) → StopsAt device start now buffers token request → AsksHere device now
asks_here device start now buffers token request s =
    record {
      buffers = buffers;
      entry = entry_of token;
      request = request;
      offers = s.offers;
      offered = s.offered;
      asked = s.asked;
    }

gives_no : (device : BlockDevice) (disk : Disk) (readable : List ℕ) (w : ℕ) (given : Given Disk) (room : ℕ)
    → w ≡ room + 1 → asks_image (request_of device readable room) ≡ true
    → GivesBy (EndsUnasked device.identity) device disk readable w given → ⊥
gives_no device disk readable zero given room all asks h = absurd (omega (arith, all))
gives_no device disk readable (suc r) given room all asks h =
    let same : r ≡ room = omega (arith, all) in
    let none : asks_image (request_of device readable r) ≡ false = h.is.unasked in
    let some : asks_image (request_of device readable r) ≡ true =
    ap (λ (k : ℕ). asks_image (request_of device readable k)) same ∙ asks in
    absurd (cc (none, some))

-- a chain that asks isn't served
asks_serves : (device : BlockDevice) (site : Site Queue Disk) (s : Served Disk) → AsksHere device site
    → ServesChain queue_kind (unasked_device device) site s → ⊥
asks_serves device site s a q =
    let b : a.buffers ≡ s.buffers =
    has_at_most_one_chain.buffers site.memory site.ring a.buffers s.buffers a.entry s.entry
    a.offered q.offered in
    gives_no device site.state (readable_of site.memory a.buffers) (length (writable_of a.buffers)) s.given
    a.asked.room a.asked.all
    (ap (λ (r : Request). asks_image r) (sym a.asked.is) ∙ a.asked.asks)
    (subst (λ (l : List Buffer). GivesBy (EndsUnasked device.identity) device site.state
    (readable_of site.memory l) (length (writable_of l)) s.given) (sym b) q.gives)

-- nor does the service end there
asks_ends : (device : BlockDevice) (site : Site Queue Disk) (ending : Ending) → AsksHere device site
    → IsEnding queue_kind (unasked_device device) site ending → ⊥
asks_ends device site Spent a e =
    let ready = both true (queue_kind.offers site.memory site.ring) refl a.offers in
    cc (e, ready)
asks_ends device site (Faulted fault) a e =
    has_at_most_one_chain.not_both site.memory site.ring a.buffers a.entry fault a.offered e.1
asks_ends device site Refused a e = e.lacks_memory

ends_serves : (device : BlockDevice) (site : Site Queue Disk) (ending : Ending) (s : Served Disk)
    → IsEnding queue_kind (unasked_device device) site ending
    → ServesChain queue_kind (unasked_device device) site s → ⊥
ends_serves device site Spent s e q = let ready = q.ready in cc (e, ready)
ends_serves device site (Faulted fault) s e q =
    has_at_most_one_chain.not_both site.memory site.ring s.buffers s.entry fault q.offered e.1
ends_serves device site Refused s e q = e.lacks_memory

same_served : (b c : List Buffer) (e f : Entry) (g h : Given Disk) → b ≡ c → e ≡ f → g ≡ h
    → ◌≡◌ {A = Served Disk} (record { buffers = b; entry = e; given = g })
    (record { buffers = c; entry = f; given = h })
same_served b c e f g h p q r = rw (p, q, r) refl

serves_once : (device : BlockDevice) (site : Site Queue Disk) (s t : Served Disk)
    → ServesChain queue_kind (unasked_device device) site s
    → ServesChain queue_kind (unasked_device device) site t → s ≡ t
serves_once device site s t p q =
    let b = has_at_most_one_chain.buffers site.memory site.ring s.buffers t.buffers s.entry t.entry
    p.offered q.offered in
    let e = has_at_most_one_chain.entry site.memory site.ring s.buffers t.buffers s.entry t.entry
    p.offered q.offered in
    let there : GivesBy (EndsUnasked device.identity) device site.state (readable_of site.memory s.buffers)
    (length (writable_of s.buffers)) t.given =
    subst (λ (l : List Buffer). GivesBy (EndsUnasked device.identity) device site.state
    (readable_of site.memory l) (length (writable_of l)) t.given) (sym b) q.gives in
    same_served s.buffers t.buffers s.entry t.entry s.given t.given b e
    (given_once device site.state (readable_of site.memory s.buffers) (length (writable_of s.buffers))
    s.given t.given p.gives there)

stop_once : (device : BlockDevice) (start : Site Queue Disk) (cs ds : List (Served Disk))
    (a b : Site Queue Disk)
    → ServesAll queue_kind (unasked_device device) start cs a
    → ServesAll queue_kind (unasked_device device) start ds b → AsksHere device a
    → AsksHere device b → a ≡ b
stop_once device start [] [] a b p q x y = sym p ∙ q
stop_once device start [] (d ∷ ds) a b p q x y =
    absurd (asks_serves device start d (subst (λ (s : Site Queue Disk). AsksHere device s) (sym p) x) q.0)
stop_once device start (c ∷ cs) [] a b p q x y =
    absurd (asks_serves device start c (subst (λ (s : Site Queue Disk). AsksHere device s) (sym q) y) p.0)
stop_once device start (c ∷ cs) (d ∷ ds) a b p q x y =
    let same = serves_once device start c d p.0 q.0 in
    stop_once device (after queue_kind (unasked_device device) start c) cs ds a b p.1
    (subst (λ (d : Served Disk). ServesAll queue_kind (unasked_device device)
    (after queue_kind (unasked_device device) start d) ds b) (sym same) q.1) x y

-- it stops or ends
stop_or_end : (device : BlockDevice) (start : Site Queue Disk) (cs ds : List (Served Disk))
    (a b : Site Queue Disk) (ending : Ending)
    → ServesAll queue_kind (unasked_device device) start cs a
    → ServesAll queue_kind (unasked_device device) start ds b → AsksHere device a
    → IsEnding queue_kind (unasked_device device) b ending → ⊥
stop_or_end device start [] [] a b ending p q x y =
    asks_ends device start ending (subst (λ (s : Site Queue Disk). AsksHere device s) (sym p) x)
    (subst (λ (s : Site Queue Disk). IsEnding queue_kind (unasked_device device) s ending) (sym q) y)
stop_or_end device start [] (d ∷ ds) a b ending p q x y =
    asks_serves device start d (subst (λ (s : Site Queue Disk). AsksHere device s) (sym p) x) q.0
stop_or_end device start (c ∷ cs) [] a b ending p q x y =
    ends_serves device start ending c
    (subst (λ (s : Site Queue Disk). IsEnding queue_kind (unasked_device device) s ending) (sym q) y) p.0
stop_or_end device start (c ∷ cs) (d ∷ ds) a b ending p q x y =
    let same = serves_once device start c d p.0 q.0 in
    stop_or_end device (after queue_kind (unasked_device device) start c) cs ds a b ending p.1
    (subst (λ (d : Served Disk). ServesAll queue_kind (unasked_device device)
    (after queue_kind (unasked_device device) start d) ds b) (sym same) q.1) x y

-- ---- what is in flight then

same_split : (p q h k : ℕ) → p ≡ q → h ≡ k → token.Split (record { place = p; head = h })
    ≡ token.Split (record { place = q; head = k })
same_split p q h k e f = rw (e, f) refl

same_packed : (p q i j l k : ℕ) → p ≡ q → i ≡ j → l ≡ k
    → token.Packed (record { place = p; id = i; length = l })
    ≡ token.Packed (record { place = q; id = j; length = k })
same_packed p q i j l k e f g = rw (e, f, g) refl

token_once : (ring : Queue) (s t : Token) → IsTaken ring s → IsTaken ring t → entry_of s ≡ entry_of t → s ≡ t
token_once (Split ring) (token.Split a) (token.Split b) x y e =
    same_split a.place b.place a.head b.head (x.place ∙ sym y.place) (ap (λ (n : Entry). n.id) e)
token_once (Split ring) (token.Split a) (token.Packed b) x y e = absurd y
token_once (Split ring) (token.Packed a) t x y e = absurd x
token_once (Packed ring) (token.Packed a) (token.Packed b) x y e =
    same_packed a.place b.place a.id b.id a.length b.length (x.place
    ∙ sym y.place) (ap (λ (n : Entry). n.id) e) (ap (λ (n : Entry). n.places) e)
token_once (Packed ring) (token.Packed a) (token.Split b) x y e = absurd y
token_once (Packed ring) (token.Split a) t x y e = absurd x

record SameAsked (b c : List Buffer) (s t : Token) (q r : Request) : Type 0 where
  buffers : b ≡ c
  token : s ≡ t
  request : q ≡ r

same_request : (device : BlockDevice) (m : Memory) (b : List Buffer) (q r : Request) → IsAsked device m b q
    → IsAsked device m b r → q ≡ r
same_request device m b q r x y =
    let room : x.room ≡ y.room = omega (arith, x.all, y.all) in
    x.is ∙ ap (λ (k : ℕ). request_of device (readable_of m b) k) room ∙ sym y.is

asked_once : (device : BlockDevice) (start one m : Site Queue Disk) (b c : List Buffer) (s t : Token)
    (q r : Request) → one ≡ m → StopsAt device start one b s q → StopsAt device start m c t r
    → SameAsked b c s t q r
asked_once device start one m b c s t q r same x y =
    let here : StopsAt device start m b s q =
    subst (λ (k : Site Queue Disk). StopsAt device start k b s q) same x in
    let buffers : b ≡ c = has_at_most_one_chain.buffers m.memory m.ring b c (entry_of s) (entry_of t)
    here.offered y.offered in
    let entry : entry_of s ≡ entry_of t =
    has_at_most_one_chain.entry m.memory m.ring b c (entry_of s) (entry_of t) here.offered y.offered in
    record {
      buffers = buffers;
      token = token_once m.ring s t here.taken y.taken entry;
      request = same_request device m.memory c q r
          (subst (λ (l : List Buffer). IsAsked device m.memory l q) buffers here.asked) y.asked;
    }

same_flight : (s t : Token) (o p : Operation) (a b n k : ℕ) → s ≡ t → o ≡ p → a ≡ b → n ≡ k
    → ◌≡◌ {A = Flight Token} (record { token = s; operation = o; status = a; writable = n })
    (record { token = t; operation = p; status = b; writable = k })
same_flight s t o p a b n k e f g h = rw (e, f, g, h) refl

-- one chain has its status in one place
same_status : (b : List Buffer) (f g : Flight Token) → HasStatusAt b f → HasStatusAt b g
    → (f.status ≡ g.status) × (f.writable ≡ g.writable)
same_status b f g x y =
    let writable : f.writable ≡ g.writable = x.writable ∙ sym y.writable in
    let last : f.status ∷ [] ≡ g.status ∷ [] = sym x.status
    ∙ ap (λ (n : ℕ). drop (n - 1) (writable_of b)) writable ∙ y.status in
    (cc last, writable)

asks_once : (device : BlockDevice) (stage : Stage) (found : Option Queue) (f g : Flight Token) (old m n : Memory)
    (before v w : WindowState) (b c : List Buffer) (r s : List Segment) (disk : Disk)
    → AsksIn device stage found old m before v b r f disk
    → AsksIn device stage found old n before w c s g disk
    → SameLook (hosted.Asks f) (hosted.Asks g) m n v w b c r s
asks_once device stage found f g old m n before v w b c r s disk x y =
    let queue : y.queue ≡ x.queue = same_Some y.queue x.queue (y.ready ∙ sym x.ready) in
    let start : Site Queue Disk =
    record (site_of device old x.queue disk) { ring = opened_at stage old x.queue } in
    let there : AsksAt device stage (site_of device old x.queue disk) (site_of device n y.last disk) c
    g.token y.request =
    subst (λ (q : Queue). AsksAt device stage (site_of device old q disk) (site_of device n y.last disk) c
    g.token y.request) queue y.asks in
    let one : StopsAt device start (site_of device m x.last disk) b f.token x.request = x.asks.stops in
    let other : StopsAt device start (site_of device n y.last disk) c g.token y.request = there.stops in
    let same : site_of device m x.last disk ≡ site_of device n y.last disk =
    stop_once device start one.course.chains other.course.chains (site_of device m x.last disk)
    (site_of device n y.last disk) one.course.serves other.course.serves
    (asks_here device start (site_of device m x.last disk) b f.token x.request one)
    (asks_here device start (site_of device n y.last disk) c g.token y.request other) in
    let asked = asked_once device start (site_of device m x.last disk) (site_of device n y.last disk) b c
    f.token g.token x.request y.request same one other in
    let memory : m ≡ n = ap (λ (k : Site Queue Disk). k.memory) same in
    let operation : f.operation ≡ g.operation = x.operation
    ∙ ap (λ (q : Request). operation_of (wants_stable before) q) asked.request ∙ sym y.operation in
    let status = same_status c f g (subst (λ (l : List Buffer). HasStatusAt l f) asked.buffers x.status)
    y.status in
    record {
      outcome = ap (λ (k : Flight Token). hosted.Asks k)
          (same_flight f.token g.token f.operation g.operation f.status g.status f.writable g.writable
          asked.token operation status.0 status.1);
      memory = memory;
      window = x.window
          ∙ ap (λ (k : Site Queue Disk). with_ring 0 before (queue_kind.launched k.ring (entry_of f.token))) same
          ∙ ap (λ (t : Token). with_ring 0 before (queue_kind.launched y.last (entry_of t))) asked.token
          ∙ sym y.window;
      buffers = asked.buffers;
      runs = x.runs_are ∙ rw (asked.request, memory, asked.buffers) refl ∙ sym y.runs_are;
    }

-- ---- or its end

record SameEnd (m n : Memory) (v w : WindowState) : Type 0 where
  memory : m ≡ n
  window : v ≡ w

-- one end of a service shows itself in one way
shown_once : (m n : Memory) (before v w : WindowState) (one other : Queue) (disk : Disk) (e f : Ending)
    (a b : Bool) → at_disk m one disk ≡ at_disk n other disk → e ≡ f → a ≡ b
    → v ≡ after_service e a (with_ring 0 before one) → w ≡ after_service f b (with_ring 0 before other)
    → SameEnd m n v w
shown_once m n before v w one other disk e f a b site ending wanted p q =
    let ring : one ≡ other = ap (λ (k : Site Queue Disk). k.ring) site in
    record {
      memory = ap (λ (k : Site Queue Disk). k.memory) site;
      window = p ∙ rw (ring, ending, wanted) refl ∙ sym q;
    }

end_once : (device : BlockDevice) (found : Option Queue) (old m n : Memory)
    (before v w : WindowState) (disk : Disk)
    → IsNotified (unasked_device device) 0 found old m before v disk disk
    → IsNotified (unasked_device device) 0 found old n before w disk disk → SameEnd m n v w
end_once device None old m n before v w disk x y = record {
  memory = x.notified.1.memory ∙ sym y.notified.1.memory;
  window = x.notified.1.window ∙ sym y.notified.1.window;
}
end_once device (Some queue) old m n before v w disk x y =
    let p = x.notified in
    let q = y.notified in
    let same = one_decided_service queue_kind (unasked_device device) has_at_most_one_chain
    (unasked_once device) (decides device) (at_disk old queue disk) (at_disk m p.last disk)
    (at_disk n q.last disk) x.ending y.ending p.wanted q.wanted p.service q.service in
    shown_once m n before v w p.last q.last disk x.ending y.ending p.wanted q.wanted same.site same.ending
    same.wanted p.window q.window

same_answer : (a b : Bool) (P : Type 0) → IsTrue a ↔ P → IsTrue b ↔ P → a ≡ b
same_answer true true P x y = refl
same_answer true false P x y = sym (y.1 (x.0 refl))
same_answer false true P x y = x.1 (y.0 refl)
same_answer false false P x y = refl

-- an open queue goes to its end in one way
ends_alike : (device : BlockDevice) (site : Site Queue Disk) (e f : Ending)
    → IsEnding queue_kind (unasked_device device) site e → IsEnding queue_kind (unasked_device device) site f
    → e ≡ f
ends_alike device site Spent Spent p q = refl
ends_alike device site Spent (Faulted g) p q = let ready = q.0 in cc (p, ready)
ends_alike device site (Faulted f) Spent p q = let ready = p.0 in cc (ready, q)
ends_alike device site (Faulted f) (Faulted g) p q =
    ap Faulted (has_at_most_one_chain.fault site.memory site.ring f g p.1 q.1)
ends_alike device site Refused f p q = absurd p.lacks_memory
ends_alike device site Spent Refused p q = absurd q.lacks_memory
ends_alike device site (Faulted f) Refused p q = absurd q.lacks_memory

record SameRun (a b : Site Queue Disk) (e f : Ending) : Type 0 where
  at : a ≡ b
  ending : e ≡ f

run_once : (device : BlockDevice) (start : Site Queue Disk) (cs ds : List (Served Disk)) (a b : Site Queue Disk)
    (e f : Ending) → ServesAll queue_kind (unasked_device device) start cs a
    → IsEnding queue_kind (unasked_device device) a e → ServesAll queue_kind (unasked_device device) start ds b
    → IsEnding queue_kind (unasked_device device) b f → SameRun a b e f
run_once device start [] [] a b e f p x q y = record {
  at = sym p ∙ q;
  ending = ends_alike device start e f
      (subst (λ (s : Site Queue Disk). IsEnding queue_kind (unasked_device device) s e) (sym p) x)
      (subst (λ (s : Site Queue Disk). IsEnding queue_kind (unasked_device device) s f) (sym q) y);
}
run_once device start [] (d ∷ ds) a b e f p x q y =
    absurd (ends_serves device start e d
    (subst (λ (s : Site Queue Disk). IsEnding queue_kind (unasked_device device) s e) (sym p) x) q.0)
run_once device start (c ∷ cs) [] a b e f p x q y =
    absurd (ends_serves device start f c
    (subst (λ (s : Site Queue Disk). IsEnding queue_kind (unasked_device device) s f) (sym q) y) p.0)
run_once device start (c ∷ cs) (d ∷ ds) a b e f p x q y =
    let same = serves_once device start c d p.0 q.0 in
    run_once device (after queue_kind (unasked_device device) start c) cs ds a b e f p.1 x
    (subst (λ (d : Served Disk). ServesAll queue_kind (unasked_device device)
    (after queue_kind (unasked_device device) start d) ds b) (sym same) q.1) y

finish_once : (device : BlockDevice) (budget : Budget) (found : Option Queue) (old m n : Memory)
    (before v w : WindowState) (disk : Disk)
    → IsFinishedWithin (unasked_device device) budget 0 found old m before v disk disk
    → IsFinishedWithin (unasked_device device) budget 0 found old n before w disk disk → SameEnd m n v w
finish_once device budget None old m n before v w disk x y = record {
  memory = x.finished.1.memory ∙ sym y.finished.1.memory;
  window = x.finished.1.window ∙ sym y.finished.1.window;
}
finish_once device budget (Some queue) old m n before v w disk x y =
    let p = x.finished in
    let q = y.finished in
    let a = p.ends.ends in
    let b = q.ends.ends in
    let run = run_once device (at_disk old queue disk) a.runs.chains b.runs.chains a.runs.at b.runs.at
    x.ending y.ending a.runs.serves a.runs.ends b.runs.serves b.runs.ends in
    let last : a.last ≡ b.last = a.runs.stands ∙ rw (run.at, run.ending) refl ∙ sym b.runs.stands in
    shown_once m n before v w p.last q.last disk x.ending y.ending p.wanted q.wanted
    (a.closed ∙ ap (close_site queue_kind (unasked_device device)) last ∙ sym b.closed) run.ending
    (same_answer p.wanted q.wanted _ a.wanted_is (rw (← last) at b.wanted_is)) p.window q.window

asks_or_finishes : (device : BlockDevice) (budget : Budget) (found : Option Queue) (f : Flight Token)
    (old m n : Memory) (before v w : WindowState) (b : List Buffer) (r : List Segment) (disk : Disk)
    → AsksIn device Next found old m before v b r f disk
    → IsFinishedWithin (unasked_device device) budget 0 found old n before w (extent_disk device.extent disk)
    (extent_disk device.extent disk) → ⊥
asks_or_finishes device budget None f old m n before v w b r disk x y = let none = x.ready in absurd (cc)
asks_or_finishes device budget (Some queue) f old m n before v w b r disk x y =
    let same : x.queue ≡ queue = same_Some x.queue queue x.ready in
    let asks : AsksAt device Next (site_of device old queue disk) (site_of device m x.last disk) b
    f.token x.request =
    subst (λ (q : Queue). AsksAt device Next (site_of device old q disk) (site_of device m x.last disk) b
    f.token x.request) same x.asks in
    let start : Site Queue Disk = site_of device old queue disk in
    let run = y.finished.ends.ends.runs in
    stop_or_end device start asks.stops.course.chains run.chains (site_of device m x.last disk) run.at y.ending
    asks.stops.course.serves run.serves
    (asks_here device start (site_of device m x.last disk) b f.token x.request asks.stops) run.ends

runs_or_faults : (device : BlockDevice) (start last at : Site Queue Disk) (fault : Option Fault)
    (ending : Ending) (chains : List (Served Disk)) → fault ≡ None
    → Works queue_kind (unasked_device device) fault start ending last
    → ServesAll queue_kind (unasked_device device) start chains at → AsksHere device at → ⊥
runs_or_faults device start last at (Some fault) ending chains none works serves asks = absurd (cc)
runs_or_faults device start last at None ending chains none works serves asks =
    stop_or_end device start chains works.chains at works.at ending serves works.serves asks works.ends

asks_or_ends : (device : BlockDevice) (found : Option Queue) (f : Flight Token) (old m n : Memory)
    (before v w : WindowState) (b : List Buffer) (r : List Segment) (disk : Disk)
    → AsksIn device First found old m before v b r f disk
    → IsNotified (unasked_device device) 0 found old n before w (extent_disk device.extent disk)
    (extent_disk device.extent disk) → ⊥
asks_or_ends device None f old m n before v w b r disk x y = let none = x.ready in absurd (cc)
asks_or_ends device (Some queue) f old m n before v w b r disk x y =
    let same : x.queue ≡ queue = same_Some x.queue queue x.ready in
    let asks : AsksAt device First (site_of device old queue disk) (site_of device m x.last disk) b
    f.token x.request =
    subst (λ (q : Queue). AsksAt device First (site_of device old q disk) (site_of device m x.last disk) b
    f.token x.request) same x.asks in
    let start : Site Queue Disk =
    open_site queue_kind (unasked_device device) (site_of device old queue disk) in
    let s = y.notified.service in
    runs_or_faults device start s.last (site_of device m x.last disk) (queue_kind.opening_fault old queue)
    y.ending asks.stops.course.chains asks.opens s.works asks.stops.course.serves
    (asks_here device start (site_of device m x.last disk) b f.token x.request asks.stops)

-- ---- a look

pub never_more : (device : BlockDevice) (stage : Stage) (budget : Budget) (found : Option Queue)
    (old new : Memory) (before after : WindowState) (s t : Disk) → budget.chains ≡ None → budget.bytes ≡ None
    → ServesTo stage (unasked_device device) budget 0 found progress.More old new before after s t → ⊥
never_more device First budget None old new before after s t chains bytes h = h
never_more device Next budget None old new before after s t chains bytes h = h
never_more device First budget (Some queue) old new before after s t chains bytes h =
    elim h.begins.pauses.spent [ inl e ↦ cc | inr e ↦ cc ]
never_more device Next budget (Some queue) old new before after s t chains bytes h =
    elim h.pauses.spent [ inl e ↦ cc | inr e ↦ cc ]

whole : (device : BlockDevice) (budget : Budget) (found : Option Queue) (old new : Memory)
    (before after : WindowState) (s t : Disk)
    → IsNotifiedWithin (unasked_device device) budget 0 found old new before after s t
    → IsNotified (unasked_device device) 0 found old new before after s t
whole device budget found old new before after s t h = record {
  ending = h.ending;
  notified = notified_once (unasked_device device) budget 0 found h.ending old new before after s t h.notified;
}

done_once : (device : BlockDevice) (stage : Stage) (budget : Budget) (found : Option Queue) (old m n : Memory)
    (before v w : WindowState) (disk : Disk)
    → ServesTo stage (unasked_device device) budget 0 found progress.Done old m before v disk disk
    → ServesTo stage (unasked_device device) budget 0 found progress.Done old n before w disk disk
    → SameEnd m n v w
done_once device First budget found old m n before v w disk x y =
    end_once device found old m n before v w disk
    (whole device budget found old m before v disk disk x)
    (whole device budget found old n before w disk disk y)
done_once device Next budget found old m n before v w disk x y =
    finish_once device budget found old m n before v w disk x y

pub asks_or_done : (device : BlockDevice) (stage : Stage) (budget : Budget) (found : Option Queue) (f : Flight Token)
    (old m n : Memory) (before v w : WindowState) (b : List Buffer) (r : List Segment) (disk : Disk)
    → AsksIn device stage found old m before v b r f disk
    → ServesTo stage (unasked_device device) budget 0 found progress.Done old n before w
    (extent_disk device.extent disk) (extent_disk device.extent disk) → ⊥
asks_or_done device First budget found f old m n before v w b r disk x y =
    let d = extent_disk device.extent disk in
    asks_or_ends device found f old m n before v w b r disk x
    (whole device budget found old n before w d d y)
asks_or_done device Next budget found f old m n before v w b r disk x y =
    asks_or_finishes device budget found f old m n before v w b r disk x y

pub one_look : (device : BlockDevice) (stage : Stage) (budget : Budget) (found : Option Queue)
    (one other : Hosted) (old m n : Memory) (before v w : WindowState) (b c : List Buffer)
    (r s : List Segment) (disk : Disk) → budget.chains ≡ None → budget.bytes ≡ None
    → HostsTo device stage budget found one old m before v b r disk
    → HostsTo device stage budget found other old n before w c s disk
    → SameLook one other m n v w b c r s
one_look device stage budget found (hosted.Asks f) (hosted.Asks g) old m n before v w b c r s disk chains
    bytes x y = asks_once device stage found f g old m n before v w b c r s disk x y
one_look device stage budget found hosted.Done hosted.Done old m n before v w b c r s disk chains bytes x y =
    let same = done_once device stage budget found old m n before v w (extent_disk device.extent disk) x y in
    record { outcome = refl; memory = same.memory; window = same.window; buffers = tt; runs = tt }
one_look device stage budget found (hosted.Asks f) hosted.Done old m n before v w b c r s disk chains bytes
    x y = absurd (asks_or_done device stage budget found f old m n before v w b r disk x y)
one_look device stage budget found hosted.Done (hosted.Asks g) old m n before v w b c r s disk chains bytes
    x y = absurd (asks_or_done device stage budget found g old n m before w v c s disk y x)
one_look device stage budget found hosted.More other old m n before v w b c r s disk chains bytes x y =
    let d = extent_disk device.extent disk in
    absurd (never_more device stage budget found old m before v d d chains bytes x)
one_look device stage budget found (hosted.Asks f) hosted.More old m n before v w b c r s disk chains bytes
    x y = let d = extent_disk device.extent disk in
    absurd (never_more device stage budget found old n before w d d chains bytes y)
one_look device stage budget found hosted.Done hosted.More old m n before v w b c r s disk chains bytes x y =
    let d = extent_disk device.extent disk in
    absurd (never_more device stage budget found old n before w d d chains bytes y)

-- ---- within a budget

-- the chains before the one that asks are these alone
same_chains : (device : BlockDevice) (start : Site Queue Disk) (cs ds : List (Served Disk)) (a b : Site Queue Disk)
    → ServesAll queue_kind (unasked_device device) start cs a
    → ServesAll queue_kind (unasked_device device) start ds b → AsksHere device a
    → AsksHere device b → chains_of cs ≡ chains_of ds
same_chains device start [] [] a b p q x y = refl
same_chains device start [] (d ∷ ds) a b p q x y =
    absurd (asks_serves device start d (subst (λ (s : Site Queue Disk). AsksHere device s) (sym p) x) q.0)
same_chains device start (c ∷ cs) [] a b p q x y =
    absurd (asks_serves device start c (subst (λ (s : Site Queue Disk). AsksHere device s) (sym q) y) p.0)
same_chains device start (c ∷ cs) (d ∷ ds) a b p q x y =
    let same = serves_once device start c d p.0 q.0 in
    let rest = same_chains device (after queue_kind (unasked_device device) start c) cs ds a b p.1
    (subst (λ (d : Served Disk). ServesAll queue_kind (unasked_device device)
    (after queue_kind (unasked_device device) start d) ds b) (sym same) q.1) x y in
    ap (λ l. c.buffers ∷ l) rest ∙ ap (λ (e : Served Disk). e.buffers ∷ chains_of ds) same

-- No piece pauses before it, where what is spent there was spent by none of those chains.
never_before : (device : BlockDevice) (Spends : List (List Buffer) → Type 0) (start : Site Queue Disk)
    (cs ds : List (Served Disk)) (a b : Site Queue Disk)
    → ((n : ℕ) → n < length (chains_of cs) → ¬ Spends (take n (chains_of cs))) → ¬ Spends (chains_of cs)
    → ServesAll queue_kind (unasked_device device) start cs a
    → ServesAll queue_kind (unasked_device device) start ds b → AsksHere device a
    → Spends (chains_of ds) → ⊥
never_before device Spends start [] [] a b within unspent p q x spent = unspent spent
never_before device Spends start [] (d ∷ ds) a b within unspent p q x spent =
    absurd (asks_serves device start d (subst (λ (s : Site Queue Disk). AsksHere device s) (sym p) x) q.0)
never_before device Spends start (c ∷ cs) [] a b within unspent p q x spent = within 0 (omega arith) spent
never_before device Spends start (c ∷ cs) (d ∷ ds) a b within unspent p q x spent =
    let same = serves_once device start c d p.0 q.0 in
    never_before device (λ l. Spends (c.buffers ∷ l)) (after queue_kind (unasked_device device) start c) cs ds a b
    (λ n below. within (suc n) (omega (arith, below))) unspent p.1
    (subst (λ (d : Served Disk). ServesAll queue_kind (unasked_device device)
    (after queue_kind (unasked_device device) start d) ds b) (sym same) q.1) x
    (subst (λ (e : Served Disk). Spends (e.buffers ∷ chains_of ds)) (sym same) spent)

-- what is left of the budget is one
pub left_once : (device : BlockDevice) (stage : Stage) (budget left rest : Budget) (found : Option Queue)
    (f g : Flight Token) (old m n : Memory) (before v w : WindowState) (b c : List Buffer) (r s : List Segment)
    (disk : Disk)
    → AsksWithin device stage budget left found old m before v b r f disk
    → AsksWithin device stage budget rest found old n before w c s g disk → left ≡ rest
left_once device stage budget left rest found f g old m n before v w b c r s disk p q =
    let x = p.asks in
    let y = q.asks in
    let queue : y.queue ≡ x.queue = same_Some y.queue x.queue (y.ready ∙ sym x.ready) in
    let start : Site Queue Disk =
    record (site_of device old x.queue disk) { ring = opened_at stage old x.queue } in
    let chains : chains_of x.asks.stops.course.chains ≡ chains_of y.asks.stops.course.chains =
    same_chains device start x.asks.stops.course.chains y.asks.stops.course.chains (site_of device m x.last disk)
    (site_of device n y.last disk) x.asks.stops.course.serves
    (subst (λ (k : Queue). ServesAll queue_kind (unasked_device device)
    (record (site_of device old k disk) { ring = opened_at stage old k }) y.asks.stops.course.chains
    (site_of device n y.last disk)) queue y.asks.stops.course.serves)
    (asks_here device start (site_of device m x.last disk) b f.token x.request x.asks.stops)
    (here_at (site_of device n y.last disk) c g.token y.request y.asks.stops.offers y.asks.stops.offered
    y.asks.stops.asked) in
    let buffers = (asks_once device stage found f g old m n before v w b c r s disk x y).buffers in
    p.left_is ∙ rw (chains, buffers) refl ∙ sym q.left_is
  where
    here_at : (site : Site Queue Disk) (buffers : List Buffer) (token : Token) (request : Request)
        → queue_kind.offers site.memory site.ring ≡ true
        → queue_kind.Offers site.memory site.ring buffers (entry_of token)
        → IsAsked device site.memory buffers request → AsksHere device site
    here_at site buffers token request offers offered asked = record {
      buffers = buffers;
      entry = entry_of token;
      request = request;
      offers = offers;
      offered = offered;
      asked = asked;
    }

before_pause : (device : BlockDevice) (stage : Stage) (budget left : Budget) (queue : Queue) (f : Flight Token)
    (old m n : Memory) (before v w : WindowState) (b : List Buffer) (r : List Segment) (disk : Disk) (last : Queue)
    → AsksWithin device stage budget left (Some queue) old m before v b r f disk
    → Pauses queue_kind (unasked_device device) budget
    (record (site_of device old queue disk) { ring = opened_at stage old queue }) (site_of device n last disk) → ⊥
before_pause device stage budget left queue f old m n before v w b r disk last x y =
    let same : x.asks.queue ≡ queue = same_Some x.asks.queue queue x.asks.ready in
    let stops = x.asks.asks.stops in
    never_before device (λ l. IsSpent (left_after budget l))
    (record (site_of device old x.asks.queue disk) { ring = opened_at stage old x.asks.queue }) stops.course.chains
    y.course.chains (site_of device m x.asks.last disk) (site_of device n last disk) x.within x.unspent
    stops.course.serves
    (subst (λ (k : Queue). ServesAll queue_kind (unasked_device device)
    (record (site_of device old k disk) { ring = opened_at stage old k }) y.course.chains (site_of device n last disk))
    (sym same) y.course.serves)
    (asks_here device (record (site_of device old x.asks.queue disk) { ring = opened_at stage old x.asks.queue })
    (site_of device m x.asks.last disk) b f.token x.asks.request stops) y.spent

-- a piece in which a chain asks doesn't pause
pub asks_or_pauses : (device : BlockDevice) (stage : Stage) (budget left : Budget) (found : Option Queue)
    (f : Flight Token) (old m n : Memory) (before v w : WindowState) (b : List Buffer) (r : List Segment) (disk : Disk)
    → AsksWithin device stage budget left found old m before v b r f disk
    → ServesTo stage (unasked_device device) budget 0 found progress.More old n before w
    (extent_disk device.extent disk) (extent_disk device.extent disk) → ⊥
asks_or_pauses device First budget left None f old m n before v w b r disk x y = let none = x.asks.ready in absurd (cc)
asks_or_pauses device Next budget left None f old m n before v w b r disk x y = let none = x.asks.ready in absurd (cc)
asks_or_pauses device First budget left (Some queue) f old m n before v w b r disk x y =
    before_pause device First budget left queue f old m n before v w b r disk y.last x y.begins.pauses
asks_or_pauses device Next budget left (Some queue) f old m n before v w b r disk x y =
    before_pause device Next budget left queue f old m n before v w b r disk y.last x y.pauses

-- or it stops in one way
pub record SameStop (x y : Progress) (m n : Memory) (v w : WindowState) : Type 0 where
  pub progress : x ≡ y
  pub memory : m ≡ n
  pub window : v ≡ w

came_by : Option Ending → Progress
came_by None = progress.More
came_by (Some ending) = progress.Done

record CameBy (device : BlockDevice) (stage : Stage) (budget : Budget) (found : Option Queue) (x : Progress)
    (old new : Memory) (before after : WindowState) (s : Disk) : Type 0 where
  how : Option Ending
  piece : PieceTo stage (unasked_device device) budget 0 found how old new before after s s
  is : x ≡ came_by how

how_it_came : (device : BlockDevice) (stage : Stage) (budget : Budget) (found : Option Queue) (x : Progress)
    (old new : Memory) (before after : WindowState) (s : Disk)
    → ServesTo stage (unasked_device device) budget 0 found x old new before after s s
    → CameBy device stage budget found x old new before after s
unfolding came_by
how_it_came device stage budget found progress.More old new before after s h =
    record { how = None; piece = h; is = refl }
how_it_came device First budget found progress.Done old new before after s h =
    record { how = Some h.ending; piece = h.notified; is = refl }
how_it_came device Next budget found progress.Done old new before after s h =
    record { how = Some h.ending; piece = h.finished; is = refl }

pub stops_once : (device : BlockDevice) (stage : Stage) (budget : Budget) (found : Option Queue) (x y : Progress)
    (old m n : Memory) (before v w : WindowState) (s : Disk)
    → ServesTo stage (unasked_device device) budget 0 found x old m before v s s
    → ServesTo stage (unasked_device device) budget 0 found y old n before w s s → SameStop x y m n v w
stops_once device stage budget found x y old m n before v w s p q =
    let a = how_it_came device stage budget found x old m before v s p in
    let b = how_it_came device stage budget found y old n before w s q in
    let same = piece_is_one (unasked_device device) (unasked_once device) (decides device) budget 0 stage found a.how
    b.how old m n before v w s s s a.piece b.piece in
    record { progress = a.is ∙ ap came_by same.how ∙ sym b.is; memory = same.memory; window = same.window }

-- ---- a completion

pub one_completion : (flight : Flight Token) (answer : Verdict) (old m n : Memory) (before v w : WindowState)
    → CompletesIn flight answer old m before v → CompletesIn flight answer old n before w
    → (m ≡ n) × (v ≡ w)
one_completion flight answer old m n before v w x y =
    let queue : x.queue ≡ y.queue = same_Some x.queue y.queue (sym x.ready ∙ y.ready) in
    let behind : x.behind ≡ y.behind = x.gives.landed
    ∙ ap (λ (q : Queue). queue_kind.landed q (entry_of flight.token)) queue ∙ sym y.gives.landed in
    let done : x.gives.done ≡ y.gives.done = x.gives.completed.memory ∙ sym y.gives.completed.memory in
    let len : x.gives.len ≡ y.gives.len = x.gives.completed.len_is ∙ sym y.gives.completed.len_is in
    let given : x.given ≡ y.given = x.gives.used ∙ rw (done, queue, len) refl ∙ sym y.gives.used in
    let memory : m ≡ n = x.closed ∙ rw (given, behind) refl ∙ sym y.closed in
    let wanted : x.wanted ≡ y.wanted =
    same_answer x.wanted y.wanted (queue_kind.Wants n y.behind)
    (rw (memory, behind) at x.wanted_is) y.wanted_is in
    (memory, x.window ∙ rw (wanted, behind) refl ∙ sym y.window)
