-- A guest with its outlet has one outcome of each event.
use Rattle.std.proofs.Common.{◌≡◌, inl, inr, ◌⊎◌, ℕ, zero, suc, ◌<◌, ◌≤◌, Bool, Option, Some, None, List, ◌++◌, length, refl, sym, ◌∙◌, ap, arith}
use Rattle.guest_memory.specs.Memory.{Memory}
use Rattle.chain.specs.Service.{Ending, Site}
use Rattle.chain.proofs.Servicing.{one_decided_service}
use Rattle.mmio_window.specs.declared.queue.Queue.{Queue}
use Rattle.mmio_window.specs.Queue.{queue_kind}
use Rattle.mmio_window.specs.Serving.{Notified, after_service}
use Rattle.mmio_window.specs.Window.{WindowState, with_ring, queue_at}
use Rattle.mmio_window.proofs.QueueKind.{has_at_most_one_chain}
use Rattle.console_device.specs.Device.{transmit_within}
use Rattle.console_device.proofs.Services.{within_once}
use Rattle.console_device.proofs.Deciding.{within_decides}
use Rattle.board.specs.declared.event.EventKind.{EventKind}
use Rattle.board.specs.declared.event.EventKind.TheVariants.{Write}
use Rattle.board.specs.declared.reply.Reply.{Reply}
use Rattle.board.specs.declared.pause.Service.TheVariants.{Transmit}
use Rattle.board.specs.Machine.{task_at, with_write}
use Rattle.board.specs.Outcome.{Outcome}
use Rattle.board.specs.Slot.{SlotState}
use Rattle.board.specs.Task.{Task, Serve, PutOut}
use Rattle.board.specs.Within.{TransmitsWithin, PutsWithin, PutsOutWithin, Seat, IsPuttingOut, MayPutOut, IsNextWithin, reply_at}
use Rattle.board.proofs.OneRun.{next_once}

-- two notifications of the transmit queue with the same limit are one
record SameNotified (m n : Memory) (v w : WindowState) (s t : List ℕ) (e f : Ending) : Type 0 where
  memory : m ≡ n
  window : v ≡ w
  state : s ≡ t
  ending : e ≡ f

notified_one : (limit : ℕ) (queue : Option Queue) (old m n : Memory) (before v w : WindowState)
    (s0 s t : List ℕ) (e f : Ending)
    → Notified (transmit_within (Some limit)) 1 queue e old m before v s0 s
    → Notified (transmit_within (Some limit)) 1 queue f old n before w s0 t → SameNotified m n v w s t e f
notified_one limit None old m n before v w s0 s t e f a b = record {
  memory = a.1.memory ∙ sym b.1.memory;
  window = a.1.window ∙ sym b.1.window;
  state = a.1.state ∙ sym b.1.state;
  ending = a.0 ∙ sym b.0;
}
notified_one limit (Some queue) old m n before v w s0 s t e f x y =
    let one : Site Queue (List ℕ) = record { memory = m; ring = x.last; state = s } in
    let other : Site Queue (List ℕ) = record { memory = n; ring = y.last; state = t } in
    let same = one_decided_service queue_kind (transmit_within (Some limit)) has_at_most_one_chain
    (within_once (Some limit)) (within_decides limit)
    (record { memory = old; ring = queue; state = s0 }) one other e f x.wanted y.wanted x.service y.service in
    let ring : x.last ≡ y.last = ap (λ (z : Site Queue (List ℕ)). z.ring) same.site in
    record {
      memory = ap (λ (z : Site Queue (List ℕ)). z.memory) same.site;
      window = x.window ∙ (ap (λ (r : Queue). after_service e x.wanted (with_ring 1 before r)) ring
          ∙ (ap (λ (k : Ending). after_service k x.wanted (with_ring 1 before y.last)) same.ending
          ∙ (ap (λ (z : Bool). after_service f z (with_ring 1 before y.last)) same.wanted ∙ sym y.window)));
      state = ap (λ (z : Site Queue (List ℕ)). z.state) same.site;
      ending = same.ending;
    }

-- what two outcomes agree in
record SameLeft {A : Type 0} (a b : SlotState) (l k : List ℕ) (p q : Reply A) : Type 0 where
  state : a ≡ b
  waiting : l ≡ k
  reply : p ≡ q

abbrev with_console : SlotState → Memory → WindowState → SlotState
with_console state memory console = record state { memory = memory; console = console }

same_console : (state : SlotState) (m n : Memory) (v w : WindowState) → m ≡ n → v ≡ w
    → with_console state m v ≡ with_console state n w
same_console state m n v w p q = rw (p, q) refl

transmits_once : {A : Type 0} (limit : ℕ) (state a b : SlotState) (waiting l k : List ℕ) (p q : Reply A)
    → TransmitsWithin limit state a waiting l p → TransmitsWithin limit state b waiting k q
    → SameLeft a b l k p q
transmits_once {A} limit state a b waiting l k p q x y =
    let same = notified_one limit (queue_at 1 state.console) state.memory a.memory b.memory state.console
    a.console b.console waiting l k x.ending y.ending x.notified y.notified in
    record {
      state = x.is ∙ (same_console state a.memory b.memory a.console b.console same.memory same.window
          ∙ sym y.is);
      waiting = same.state;
      reply = x.replied ∙ (ap (λ (e : Ending). reply_at {A = A} e) same.ending ∙ sym y.replied);
    }

puts_at : {A : Type 0} (limit byte : ℕ) (state a b : SlotState) (waiting l k : List ℕ) (p q : Reply A)
    → (length waiting < limit) ⊎ (limit ≤ length waiting) → PutsWithin limit byte state a waiting l p
    → PutsWithin limit byte state b waiting k q → SameLeft a b l k p q
puts_at limit byte state a b waiting l k p q (inl some) x y =
    record {
      state = x.stays ∙ sym y.stays;
      waiting = (x.fits some).0 ∙ sym (y.fits some).0;
      reply = (x.fits some).1 ∙ sym (y.fits some).1;
    }
puts_at limit byte state a b waiting l k p q (inr full) x y =
    record {
      state = x.stays ∙ sym y.stays;
      waiting = (x.refused full).0 ∙ sym (y.refused full).0;
      reply = (x.refused full).1 ∙ sym (y.refused full).1;
    }

less_or : (n m : ℕ) → (n < m) ⊎ (m ≤ n)
less_or n zero = inr (omega arith)
less_or zero (suc m) = inl (omega arith)
less_or (suc n) (suc m) = more (less_or n m) where
  more : (n < m) ⊎ (m ≤ n) → (suc n < suc m) ⊎ (suc m ≤ suc n)
  more (inl h) = inl (omega (arith, h))
  more (inr h) = inr (omega (arith, h))

puts_once : {A : Type 0} (limit : ℕ) (task : Task) (state a b : SlotState) (waiting l k : List ℕ)
    (p q : Reply A) → IsPuttingOut task → PutsOutWithin limit task state a waiting l p
    → PutsOutWithin limit task state b waiting k q → SameLeft a b l k p q
puts_once limit (Serve Transmit) state a b waiting l k p q puts x y =
    transmits_once limit state a b waiting l k p q x y
puts_once limit (PutOut byte) state a b waiting l k p q puts x y =
    puts_at limit byte state a b waiting l k p q (less_or (length waiting) limit) x y
puts_once limit _ state a b waiting l k p q puts x y = absurd puts

puts_or : (task : Task) → IsPuttingOut task ⊎ (IsPuttingOut task → ⊥)
puts_or (Serve Transmit) = inl tt
puts_or (PutOut byte) = inl tt
puts_or _ = inr (λ h. h)

-- where nothing is put out memory decides nothing
quiet_once : {A : Type 0} (limit : ℕ) (old one other : Seat) (what : EventKind A) (p q : Reply A)
    → (MayPutOut old.state what → ⊥) → IsNextWithin limit old what p one → IsNextWithin limit old what q other
    → SameLeft one.state other.state one.waiting other.waiting p q
quiet_once {A} limit old one other what p q none x y =
    let same = next_once old.state what (record { state = one.state; reply = p; output = x.output })
    (record { state = other.state; reply = q; output = y.output })
    (x.served (λ is. none (x.refused is))) (y.served (λ is. none (y.refused is))) in
    record {
      state = ap (λ (o : Outcome A). o.state) same;
      waiting = x.behind ∙ (ap (λ (o : Outcome A). old.waiting ++ o.output) same ∙ sym y.behind);
      reply = ap (λ (o : Outcome A). o.reply) same;
    }

write_once : {A : Type 0} (limit : ℕ) (old one other : Seat) (what : EventKind A) (task : Task)
    (state : SlotState) (p q : Reply A) → IsPuttingOut task ⊎ (MayPutOut old.state what → ⊥)
    → PutsOutWithin limit task state one.state old.waiting one.waiting p
    → PutsOutWithin limit task state other.state old.waiting other.waiting q
    → IsNextWithin limit old what p one → IsNextWithin limit old what q other
    → SameLeft one.state other.state one.waiting other.waiting p q
write_once limit old one other what task state p q (inl puts) v w x y =
    puts_once limit task state one.state other.state old.waiting one.waiting other.waiting p q puts v w
write_once limit old one other what task state p q (inr none) v w x y =
    quiet_once limit old one other what p q none x y

left_once : {A : Type 0} (limit : ℕ) (old one other : Seat) (what : EventKind A) (p q : Reply A)
    → IsNextWithin limit old what p one → IsNextWithin limit old what q other
    → SameLeft one.state other.state one.waiting other.waiting p q
left_once limit old one other (Write window offset width value) p q x y =
    write_once limit old one other (Write window offset width value)
    (task_at window offset width value old.state) (with_write window offset width value old.state) p q
    (puts_or (task_at window offset width value old.state)) x.within y.within x y
left_once limit old one other what p q x y =
    quiet_once limit old one other what p q (λ h. h) x y

same_seat : (a b : SlotState) (l k : List ℕ) → a ≡ b → l ≡ k
    → ◌≡◌ {A = Seat} (record { state = a; waiting = l }) (record { state = b; waiting = k })
same_seat a b l k p q = rw (p, q) refl

-- the law: an event has one outcome
pub seat_once : {A : Type 0} (limit : ℕ) (old one other : Seat) (what : EventKind A) (p q : Reply A)
    → IsNextWithin limit old what p one → IsNextWithin limit old what q other → (p ≡ q) × (one ≡ other)
seat_once limit old one other what p q x y =
    let same = left_once limit old one other what p q x y in
    (same.reply, same_seat one.state other.state one.waiting other.waiting same.state same.waiting)
