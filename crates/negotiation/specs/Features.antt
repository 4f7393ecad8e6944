-- Feature bits (2.2), and the words of 32 bits in which a window shows and takes them (4.2.2). Bits 0 to 23
-- mean something else for each type of device, so two names can stand for one number.
use Rattle.std.specs.Prelude.{◌+◌, ◌*◌, ◌/◌, ◌%◌, ◌^◌, ◌==◌, if◌then◌else◌, ◌∷◌, [], codes, ℕ, List}
use Rattle.bitflags.specs.Sets.{Row}
use Rattle.negotiation.specs.declared.features.Features.{Features}

-- the bits of a set of features
abbrev pub feature_bits : Features → ℕ
feature_bits features = features.0

-- ---- of a network device (5.1.3)

-- its configuration has the largest payload of a frame
abbrev pub network_mtu : ℕ
network_mtu = 2 ^ 3

-- its configuration has its address
abbrev pub network_mac : ℕ
network_mac = 2 ^ 5

-- its configuration tells whether the link is up
abbrev pub network_status : ℕ
network_status = 2 ^ 16

-- ---- of a block device (5.2.3)

-- it tells the most segments that a request may have
abbrev pub block_seg_max : ℕ
block_seg_max = 2 ^ 2

-- it can't be written
abbrev pub block_ro : ℕ
block_ro = 2 ^ 5

-- it tells the size of a block
abbrev pub block_blk_size : ℕ
block_blk_size = 2 ^ 6

-- it takes flush requests
abbrev pub block_flush : ℕ
block_flush = 2 ^ 9

-- it takes requests that write zeros
abbrev pub block_write_zeroes : ℕ
block_write_zeroes = 2 ^ 14

-- ---- of a console (5.3.3)

-- it tells its columns and rows
abbrev pub console_size : ℕ
console_size = 2 ^ 0

-- it takes emergency writes
abbrev pub console_emerg_write : ℕ
console_emerg_write = 2 ^ 2

-- ---- of every device (6)

-- a descriptor may name a table of descriptors
abbrev pub indirect_desc : ℕ
indirect_desc = 2 ^ 28

-- each side names the place at which it wants to be notified
abbrev pub event_idx : ℕ
event_idx = 2 ^ 29

-- the device follows this standard, and not the older interface
abbrev pub version_1 : ℕ
version_1 = 2 ^ 32

-- virtqueues are packed rings
abbrev pub ring_packed : ℕ
ring_packed = 2 ^ 34

-- a notification carries more than the queue's index
abbrev pub notification_data : ℕ
notification_data = 2 ^ 38

-- the features that every device of a board offers
abbrev pub device_features : ℕ
device_features = indirect_desc + event_idx + version_1 + ring_packed + notification_data

-- the name of each feature
abbrev pub feature_names : List Row
feature_names =
    (codes "NETWORK_MTU", network_mtu)
    ∷ (codes "NETWORK_MAC", network_mac)
    ∷ (codes "NETWORK_STATUS", network_status)
    ∷ (codes "BLOCK_SEG_MAX", block_seg_max)
    ∷ (codes "BLOCK_RO", block_ro)
    ∷ (codes "BLOCK_BLK_SIZE", block_blk_size)
    ∷ (codes "BLOCK_FLUSH", block_flush)
    ∷ (codes "BLOCK_WRITE_ZEROES", block_write_zeroes)
    ∷ (codes "CONSOLE_SIZE", console_size)
    ∷ (codes "CONSOLE_EMERG_WRITE", console_emerg_write)
    ∷ (codes "INDIRECT_DESC", indirect_desc)
    ∷ (codes "EVENT_IDX", event_idx)
    ∷ (codes "VERSION_1", version_1)
    ∷ (codes "RING_PACKED", ring_packed)
    ∷ (codes "NOTIFICATION_DATA", notification_data)
    ∷ []

-- ---- words

-- the word that a selector names: 0 the low one, 1 the high one; any other selector shows no bits
abbrev pub feature_word : ℕ → ℕ → ℕ
feature_word selector bits =
    if selector == 0 then bits % 2 ^ 32
    else if selector == 1 then bits / 2 ^ 32
    else 0

-- the bits with another word in the place that a selector names; any other selector changes none
abbrev pub with_feature_word : ℕ → ℕ → ℕ → ℕ
with_feature_word selector word bits =
    if selector == 0 then bits / 2 ^ 32 * 2 ^ 32 + word
    else if selector == 1 then word * 2 ^ 32 + bits % 2 ^ 32
    else bits
