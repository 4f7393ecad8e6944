-- What a service asks of a kind of racing ring, and both kinds: those of racing_ring.
pub use Rattle.racing_ring.specs.Queue.{RacingKind, racing_packed, racing_split}
