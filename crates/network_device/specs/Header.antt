-- The header of a frame, struct virtio_net_hdr (5.1.6).
use Rattle.std.specs.Prelude.{ℕ, List, ◌++◌}
use Rattle.byteorder.specs.Endian.{little_bytes}

-- how many bytes it has: the driver negotiated VIRTIO_F_VERSION_1, so that num_buffers is part of it
abbrev pub header_len : ℕ
header_len = 12

-- In front of a frame that is received (5.1.6.4.1) num_buffers is 1, since VIRTIO_NET_F_MRG_RXBUF isn't
-- offered, and all else is 0, since no offload is: flags, gso_type, hdr_len, gso_size, csum_start, csum_offset.
abbrev pub receive_header : List ℕ
receive_header =
    little_bytes 1 0 ++ little_bytes 1 0 ++ little_bytes 2 0 ++ little_bytes 2 0 ++ little_bytes 2 0
    ++ little_bytes 2 0 ++ little_bytes 2 1
