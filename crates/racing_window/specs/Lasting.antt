-- Chains in flight last in a ready queue of either layout, as they do in its ring.
use Rattle.std.specs.Prelude.{◌≡◌, ◌+◌, ◌-◌, ◌≤◌}
use Rattle.std.proofs.Common.{refl, sym}
use Rattle.chain.specs.declared.state.RingState.{RingState}
use Rattle.split_ring.specs.Kind.{split_kind}
use Rattle.packed_ring.specs.Kind.{packed_kind}
use Rattle.mmio_window.specs.declared.queue.Queue.{Queue}
use Rattle.mmio_window.specs.declared.queue.Queue.TheVariants.{Split, Packed}
use Rattle.mmio_window.specs.declared.queue.Token.{Token}
use Rattle.mmio_window.specs.declared.queue.Token.TheVariants as token
use Rattle.mmio_window.specs.Queue.{Fits, IsAhead, ahead_of, entry_of, landed, launched}
use Rattle.racing_service.specs.Flights.{FlightLaws, Stays}
use Rattle.racing_service.specs.Lasting.{packed_lasts as packed, split_lasts as split}
use Rattle.racing_window.specs.Queue.{racing_queue}

-- ---- which tokens fit turns on the queue's layout and size alone

split_fits : (a b : RingState) (t : Token) → Fits (Split a) t → Fits (Split b) t
split_fits a b (token.Split t) f = f
split_fits a b (token.Packed t) f = f

-- a list fits in a ring of the same size
packed_fits : (a b : RingState) → b.setup.size ≡ a.setup.size → (t : Token) → Fits (Packed a) t → Fits (Packed b) t
packed_fits a b same (token.Split t) f = f
packed_fits a b same (token.Packed t) f = (f.0, rw same f.1)

split_stays : (a b : RingState) → b.ahead ≡ a.ahead → Stays Fits ahead_of (Split a) (Split b)
split_stays a b same = record { fits = λ t. (split_fits a b t, split_fits b a t); ahead = same }

packed_stays : (a b : RingState) → b.setup.size ≡ a.setup.size → b.ahead ≡ a.ahead
    → Stays Fits ahead_of (Packed a) (Packed b)
packed_stays a b size same =
    record { fits = λ t. (packed_fits a b size t, packed_fits b a (sym size) t); ahead = same }

-- ---- what is in flight

ahead_fits : (queue : Queue) (t : Token) → IsAhead queue t → Fits queue t
ahead_fits (Split ring) (token.Split t) ahead = split.ahead_fits ring t ahead
ahead_fits (Packed ring) (token.Packed t) ahead = packed.ahead_fits ring t ahead
ahead_fits (Split ring) (token.Packed t) ahead = absurd ahead
ahead_fits (Packed ring) (token.Split t) ahead = absurd ahead

launched_ahead : (queue : Queue) (t : Token) → Fits (launched queue (entry_of t)) t
    → ahead_of (launched queue (entry_of t)) ≡ ahead_of queue + (entry_of t).places
launched_ahead (Split ring) (token.Split t) f = split.launched_ahead ring t f
launched_ahead (Packed ring) (token.Packed t) f = packed.launched_ahead ring t f
launched_ahead (Split ring) (token.Packed t) f = absurd f
launched_ahead (Packed ring) (token.Split t) f = absurd f

landed_ahead : (queue : Queue) (t : Token) → Fits queue t
    → ahead_of (landed queue (entry_of t)) ≡ ahead_of queue - (entry_of t).places
landed_ahead (Split ring) (token.Split t) f = split.landed_ahead ring t f
landed_ahead (Packed ring) (token.Packed t) f = packed.landed_ahead ring t f
landed_ahead (Split ring) (token.Packed t) f = absurd f
landed_ahead (Packed ring) (token.Split t) f = absurd f

is_ahead : (queue : Queue) (t : Token) → Fits queue t → (entry_of t).places ≤ ahead_of queue → IsAhead queue t
is_ahead (Split ring) (token.Split t) f some = split.is_ahead ring t f some
is_ahead (Packed ring) (token.Packed t) f some = packed.is_ahead ring t f some
is_ahead (Split ring) (token.Packed t) f some = absurd f
is_ahead (Packed ring) (token.Split t) f some = absurd f

pub queue_lasts : FlightLaws racing_queue entry_of IsAhead Fits ahead_of
queue_lasts = record {
  opened = λ m. elim [ Split ring ↦ split_stays ring _ refl | Packed ring ↦ packed_stays ring _ refl refl ];
  past = elim [ Split ring ↦ λ entry. split_stays ring _ refl | Packed ring ↦ λ entry. packed_stays ring _ refl refl ];
  stopped = elim [ Split ring ↦ split_stays ring _ refl | Packed ring ↦ packed_stays ring _ refl refl ];
  shut = elim [ Split ring ↦ split_stays ring _ refl | Packed ring ↦ packed_stays ring _ refl refl ];
  ahead_fits = ahead_fits;
  launched_fits = elim [
    | Split ring ↦ λ entry. split_fits ring (split_kind.launched ring entry)
    | Packed ring ↦ λ entry. packed_fits ring (packed_kind.launched ring entry) refl
  ];
  launched_ahead = launched_ahead;
  landed_fits = elim [
    | Split ring ↦ λ entry. split_fits ring (split_kind.landed ring entry)
    | Packed ring ↦ λ entry. packed_fits ring (packed_kind.landed ring entry) refl
  ];
  landed_ahead = landed_ahead;
  is_ahead = is_ahead;
  given_range = λ races old new. elim [
    | Split ring ↦ split.given_range races old new ring
    | Packed ring ↦ packed.given_range races old new ring
  ];
  closed_range = λ races old new. elim [
    | Split ring ↦ split.closed_range races old new ring
    | Packed ring ↦ packed.closed_range races old new ring
  ];
}
