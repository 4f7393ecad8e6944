-- What a descriptor of 16 bytes is read of while its guest may write it: two words, each at an access of its own.
use Rattle.std.specs.Prelude.{◌≡◌, ℕ, ◌+◌, ◌≤◌, Bool}
use Rattle.guest_memory.specs.Memory.{Memory, num}
use Rattle.shared_memory.specs.Sightings.{Sightings, Loads, memory}

-- its second word, which has the flags, is of one memory, and its first word, the address, of one
pub record Source : Type 0 where
  pub flags_in : Memory
  pub addr_in : Memory

-- Both were seen, the flags no earlier than a place, and the address no earlier than the flags. A driver stores the flags
-- of a packed descriptor last (2.8.6, 2.8.13): the address behind flags that it stored isn't one from before them.
pub record IsSeenInTurn (begin : ℕ) (new : Sightings) (source : Source) : Type 0 where
  pub flags_at : ℕ
  pub addr_at : ℕ
  pub from : begin ≤ flags_at
  pub in_turn : flags_at ≤ addr_at
  pub to : addr_at ≤ new.now
  pub flags_is : source.flags_in ≡ new.at flags_at
  pub addr_is : source.addr_in ≡ new.at addr_at

-- These numbers are the fields of the descriptor at an address: the last three were read of its second word, and then the
-- first one of its first word.
pub record AreFields (races : Bool) (old new : Sightings) (at addr len third last : ℕ) : Type 0 where
  pub between : Sightings
  pub flags_first : Loads races old between
  pub addr_next : Loads races between new
  pub len_is : len ≡ num (memory between) (at + 8) 4
  pub third_is : third ≡ num (memory between) (at + 12) 2
  pub last_is : last ≡ num (memory between) (at + 14) 2
  pub addr_is : addr ≡ num (memory new) at 8
