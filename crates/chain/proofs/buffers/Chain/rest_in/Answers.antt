use Rattle.std.proofs.Common.{◌≡◌, ◌+◌, ◌-◌, ◌<◌, ◌≤◌, ◌^◌, false, length, take, get_or, sym, ◌∙◌, arith}
use Rattle.std.proofs.lemmas.List.Elements.{All-get_or}
use Rattle.chain.specs.declared.segment.Buffer.{Buffer}
use Rattle.chain.specs.Bytes.{rest_at, segments_of}
use Rattle.chain.proofs.Holding.{held_len}
use Rattle.chain.proofs.Places.{place_found, start_in}
use Rattle.chain.proofs.buffers.Chain.rest_in.Goals as goal
use Rattle.chain.proofs.buffers.Chain.rest_in.Goals.{After-rest-arg-1}

-- the buffer has the place
found : (c : After-rest-arg-1)
    → (c.args.place - c.of.result < (get_or c.buffers-buffers.result.now c.args.index
    (record { segment = record { addr = 0; len = 0 }; writable = false })).segment.len)
    × (record {
      addr = (get_or c.buffers-buffers.result.now c.args.index
          (record {
            segment = record { addr = 0; len = 0 };
            writable = false;
          })).segment.addr + (c.args.place - c.of.result);
      len = (get_or c.buffers-buffers.result.now c.args.index
          (record {
            segment = record { addr = 0; len = 0 };
            writable = false;
          })).segment.len - (c.args.place - c.of.result);
    }
    ≡ rest_at (segments_of c.args.writable c.args.self.now) c.args.place)
found c =
    let xs = take c.self.inside.filled c.self.inside.room.items in
    let same : c.args.self.now ≡ xs = sym c.self.view_is in
    let there : c.args.index < length xs = rw (← same) c.requires.there in
    let start = c.of.ensures ∙ start_in c.args.writable xs c.self.inside.starts
    c.self.inside.filled c.args.index _
    c.self.invariant.starts_are
    (omega (arith, there, held_len c.self.invariant)) in
    place_found c.args.writable c.args.self.now xs c.buffers-buffers.result.now c.args.index c.args.place
    c.of.result _ same
    (c.buffers-buffers.ensures.value ∙ same)
    c.requires.there c.requires.from c.requires.to start

pub rest-requires : goal.rest-requires
rest-requires c =
    let xs = c.buffers-buffers.result.now in
    let there : c.args.index < length xs = rw c.buffers-buffers.ensures.value c.requires.there in
    let below = All-get_or (λ (b : Buffer). b.segment.addr + b.segment.len ≤ 2 ^ 64) xs
    c.args.index (record { segment = record { addr = 0; len = 0 }; writable = false }) there
    (rw c.buffers-buffers.ensures.value c.buffers-buffers.ensures.addressable) in
    record { place = (found c).0; addressable = below }

pub returns : goal.returns
returns c = c.rest.ensures ∙ (found c.before).1
