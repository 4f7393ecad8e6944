-- The features of a network device (5.1.3), and its configuration (5.1.4).
use Rattle.std.specs.Prelude.{ℕ, ◌+◌, if◌then◌else◌, List, ◌++◌, replicate}
use Rattle.byteorder.specs.Endian.{little_bytes}
use Rattle.negotiation.specs.Features.{network_mac, network_mtu, network_status}
use Rattle.network_device.specs.declared.configuration.NetworkConfiguration.{NetworkConfiguration}

-- the features of its own that a network device offers
abbrev pub offered : ℕ
offered = network_mtu + network_mac + network_status

-- 12 bytes: mac in 6, status in 2 (VIRTIO_NET_S_LINK_UP is 1), max_virtqueue_pairs in 2 and mtu in 2. The
-- third is 0: VIRTIO_NET_F_MQ isn't offered.
abbrev pub configuration_of : NetworkConfiguration → List ℕ
configuration_of c =
    c.mac ++ little_bytes 2 (if c.link_up then 1 else 0) ++ little_bytes 2 0 ++ little_bytes 2 c.mtu

-- the 64 bytes of the configuration space: those and zeros
abbrev pub config_of : NetworkConfiguration → List ℕ
config_of c = configuration_of c ++ replicate 52 0
