use Rattle.std.proofs.Common.{◌-◌, ap}
use Rattle.network_device.proofs.Rooms.{room_seen}
use Rattle.network_device.proofs.store.FrameStoreFrameOutlet.has_room.Goals as goal

pub returns : goal.returns
returns g c =
    rw (← c.self.view_is) (room_seen c.self.inside.lens.items c.self.inside.bytes.items c.self.inside.whole
    c.self.inside.bytes.capacity c.self.inside.lens.capacity c.args.len
    c.len.result c.capacity-2.result (c.capacity.result - c.self.inside.whole)
    c.len.ensures.len c.capacity-2.ensures.capacity
    (ap (λ n. n - c.self.inside.whole) c.capacity.ensures.capacity)
    c.self.invariant.0 c.self.invariant.1 c.self.invariant.2)
