-- Which sessions there may be, and why others are refused.
use Rattle.std.specs.Prelude.{◌≡◌, ◌*◌, ◌^◌, ◌<◌, ◌≤◌, List, length, map}
use Rattle.guest_memory.specs.Faults.{AreGood, IsRefusedAt}
use Rattle.guest_memory.specs.declared.spec.RegionSpec.{RegionSpec}
use Rattle.chain.specs.Budget.{IsSpent}
use Rattle.block_device.specs.Extent.{sector_len}
use Rattle.racing_hosted_disk.specs.declared.look.LookLimits.{LookLimits}
use Rattle.racing_guest.specs.declared.spec.GuestSpec.{GuestSpec}
use Rattle.racing_session.specs.declared.fault.RacingFault.{RacingFault}
use Rattle.racing_session.specs.declared.fault.RacingFault.TheVariants.{BadLoan, BadOutlet, SpentLimits, Memory, BadDepth, BadDisk, NoMemory}
use Rattle.racing_session.specs.declared.spec.RacingSpec.{RacingSpec}

-- one run of words of 8 bytes for each region, as long as it is
abbrev pub AreWordsOf : List RegionSpec → List (List (Unit {0})) → Type 0
AreWordsOf regions words = map (λ run. 8 * length run) words ≡ map (λ region. region.len) regions

-- no more of the output may wait than 2^24 bytes
abbrev pub HasOutlet : RacingSpec → Type 0
HasOutlet spec = spec.outlet ≤ 2 ^ 24

-- a service that stops at these limits has done something, so it comes to its end if it is served again and again
pub record HasLimits (limits : LookLimits) : Type 0 where
  pub lasts : ¬ IsSpent limits.budget
  pub rounds : 2 ≤ limits.rounds
  pub looks : 1 ≤ limits.looks

-- an operation may be in flight, and no more are than there are tags
pub record HasDepth (guest : GuestSpec) : Type 0 where
  pub some : 1 ≤ guest.depth
  pub few : guest.depth ≤ 64

-- the disk's bytes are counted in 64 bits
abbrev pub HasSectors : GuestSpec → Type 0
HasSectors guest = sector_len * guest.sectors < 2 ^ 64

-- there may be such a session over these words
pub record IsAccepted (spec : RacingSpec) (words : List (List (Unit {0}))) : Type 0 where
  pub lent : AreWordsOf spec.regions words
  pub outlet : HasOutlet spec
  pub limits : HasLimits spec.limits
  pub memory : AreGood spec.regions
  pub depth : HasDepth spec.guest
  pub sectors : HasSectors spec.guest

-- Why there is none. The spec is judged in this order, so at most one fault holds beside want of memory.
abbrev pub IsRefusedFor : RacingSpec → List (List (Unit {0})) → RacingFault → Type 0
IsRefusedFor spec words BadLoan = ¬ AreWordsOf spec.regions words
IsRefusedFor spec words BadOutlet = AreWordsOf spec.regions words × ¬ HasOutlet spec
IsRefusedFor spec words SpentLimits = AreWordsOf spec.regions words × HasOutlet spec × ¬ HasLimits spec.limits
IsRefusedFor spec words (Memory region fault) = AreWordsOf spec.regions words × HasOutlet spec × HasLimits spec.limits
    × IsRefusedAt spec.regions region fault
IsRefusedFor spec words BadDepth = AreWordsOf spec.regions words × HasOutlet spec × HasLimits spec.limits
    × AreGood spec.regions × ¬ HasDepth spec.guest
IsRefusedFor spec words BadDisk = AreWordsOf spec.regions words × HasOutlet spec × HasLimits spec.limits
    × AreGood spec.regions × HasDepth spec.guest × ¬ HasSectors spec.guest
IsRefusedFor spec words NoMemory = IsAccepted spec words
