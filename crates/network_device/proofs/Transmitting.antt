-- A frame on its way from a chain to an outlet.
use Rattle.std.proofs.Common.{◌≡◌, ℕ, ◌+◌, ◌-◌, ◌≤◌, ◌&&◌, nat_lt, arith, Bool, true, false, true≢false, List, [], ◌∷◌, ◌++◌, length, take, drop, refl, sym, ap, ap₂, ◌∙◌}
use Rattle.std.proofs.Math.Seq.{take-add}
use Rattle.std.proofs.lemmas.Bool.{ltb-true}
use Rattle.std.proofs.lemmas.List.{drop-drop, length-drop, length-take-le, take_all}
use Rattle.chain.specs.declared.segment.Buffer.{Buffer}
use Rattle.chain.specs.Buffers.{Good}
use Rattle.chain.specs.Bytes.{addresses_of, len_of, readable_of}
use Rattle.chain.proofs.Directions.{length-addresses_of}
use Rattle.chain.proofs.Servicing.{both}
use Rattle.chain_handler.specs.Output.{IsPutOut}
use Rattle.chain_handler.proofs.Doing.{behind_is, out_more, reads, seen_behind, unread}
use Rattle.shared_memory.specs.Sightings.{Sightings, Loads, memory}
use Rattle.shared_memory.proofs.Sightings.{loads_none, loads_trans}
use Rattle.chain_handler.specs.Device.{DoesRaced}
use Rattle.chain_handler.proofs.Seeing.{bytes_count, writes_nothing}
use Rattle.network_device.specs.declared.limits.Limits.{Limits}
use Rattle.network_device.specs.Frames.{has_room}
use Rattle.network_device.specs.Device.{counted, frame_of, is_sendable, passing, transmit}
use Rattle.network_device.specs.Sending.{IsSent}
use Rattle.network_device.proofs.Rooms.{and_true, room_alone, shorter}

-- The first bytes of the frame went out, behind frames that stay.
pub record IsPuttingOut (races : Bool) (old now : Sightings) (buffers : List Buffer) (limits then : Limits)
    (frames waiting : List (List ℕ)) (done : ℕ) (begun : List ℕ) : Type 0 where
  pub from : 12 ≤ done
  pub to : done ≤ len_of false buffers
  pub put : IsPutOut old now (take (done - 12) (drop 12 (addresses_of false buffers))) [] begun
  pub loads : Loads races old now
  pub frames_stay : waiting ≡ frames
  pub limits_stay : then ≡ limits

pub at_first : (races : Bool) (old : Sightings) (buffers : List Buffer) (limits : Limits) (frames : List (List ℕ)) (begun : List ℕ)
    → 12 ≤ len_of false buffers → begun ≡ [] → IsPuttingOut races old old buffers limits limits frames frames 12 begun
at_first races old buffers limits frames begun fits none = record {
  from = omega arith;
  to = fits;
  put = record { bytes = []; seen = tt; out = none };
  loads = loads_none races old;
  frames_stay = refl;
  limits_stay = refl;
}

module _ (races : Bool) (old now : Sightings) (buffers : List Buffer) (limits then : Limits) (frames waiting : List (List ℕ))
    (done : ℕ) (begun : List ℕ) (h : IsPuttingOut races old now buffers limits then frames waiting done begun) where
  -- as many as were read
  pub begun_long : length begun ≡ done - 12
  begun_long =
      let addrs = addresses_of false buffers in
      let l = length-addresses_of false buffers in
      ap length h.put.out ∙ bytes_count old now (take (done - 12) (drop 12 addrs)) h.put.bytes h.put.seen
      ∙ length-take-le (done - 12) (drop 12 addrs) (let d = length-drop 12 addrs in let f = h.from in let t = h.to in
      omega (arith, d, l, f, t))

  -- there is room for the next ones
  pub next_fits : (n : ℕ) → done + n ≤ len_of false buffers → has_room limits frames (len_of false buffers - 12) ≡ true
      → has_room then waiting (length begun + n) ≡ true
  next_fits n fits room =
      let f = h.from in
      rw (h.frames_stay, h.limits_stay) (shorter limits frames (len_of false buffers - 12) (length begun + n) room
      (omega (arith, begun_long, f, fits)))

  -- and then they are out as well
  pub put_out_more : (next : Sightings) (n : ℕ) (later : List ℕ) (then_waiting : List (List ℕ)) (then_limits : Limits)
      → done + n ≤ len_of false buffers → IsPutOut now next (take n (drop done (addresses_of false buffers))) begun later
      → Loads races now next → then_waiting ≡ waiting → then_limits ≡ then
      → IsPuttingOut races old next buffers limits then_limits frames then_waiting (done + n) later
  put_out_more next n later then_waiting then_limits fits more loads frames_same limits_same =
      let addrs = addresses_of false buffers in
      let f = h.from in
      let on : done + n - 12 ≡ done - 12 + n = omega (arith, f) in
      let there : 12 + (done - 12) ≡ done = omega (arith, f) in
      let inner : drop (done - 12) (drop 12 addrs) ≡ drop done addrs =
      drop-drop (done - 12) 12 addrs ∙ ap (λ k. drop k addrs) there in
      record {
        from = omega (arith, f);
        to = fits;
        put = rw (on, take-add (done - 12) n (drop 12 addrs), inner)
            (out_more races old now next (take (done - 12) (drop 12 addrs)) (take n (drop done addrs)) [] begun later
            h.loads loads h.put more);
        loads = loads_trans races old now next h.loads loads;
        frames_stay = frames_same ∙ h.frames_stay;
        limits_stay = limits_same ∙ h.limits_stay;
      }

  pub room_at_end : has_room limits frames (len_of false buffers - 12) ≡ true → has_room then waiting (length begun) ≡ true
  room_at_end room =
      let t = h.to in
      rw (h.frames_stay, h.limits_stay) (shorter limits frames (len_of false buffers - 12) (length begun) room
      (omega (arith, begun_long, t)))

  -- once all are out they are the frame
  pub all_out : len_of false buffers ≤ done → (more : List (List ℕ)) → more ≡ waiting ++ begun ∷ []
      → IsSent old now buffers frames more
  all_out all more ended =
      let addrs = addresses_of false buffers in
      let l = length-addresses_of false buffers in
      let whole : take (done - 12) (drop 12 addrs) ≡ drop 12 addrs =
      take_all (done - 12) (drop 12 addrs) (let d = length-drop 12 addrs in omega (arith, d, l, all)) in
      record {
        frame = h.put.bytes;
        seen = rw whole at h.put.seen;
        sent = ended ∙ rw (h.frames_stay, h.put.out) refl;
      }

-- ---- what becomes of a chain

-- whether a chain's frame may go out, and whether it may now, by its length
pub room_for : (limits : Limits) (frames : List (List ℕ)) (readable : List ℕ) (len frame : ℕ) (answer : Bool)
    → length readable ≡ len → frame ≡ len - 12 → answer ≡ has_room limits frames frame
    → has_room limits frames (length (frame_of readable)) ≡ answer
room_for limits frames readable len frame answer l f a =
    let d : length (frame_of readable) ≡ frame = length-drop 12 readable ∙ omega (arith, l, f) in
    ap (has_room limits frames) d ∙ sym a

pub sendable_is : (limits : Limits) (readable : List ℕ) (len frame : ℕ) (admitted : Bool) → length readable ≡ len
    → frame ≡ len - 12 → admitted ≡ has_room limits [] frame
    → is_sendable limits readable ≡ (nat_lt 12 len && admitted)
sendable_is limits readable len frame admitted l f a =
    ap₂ (λ (x y : Bool). x && y) (ap (nat_lt 12) l) (room_for limits [] readable len frame admitted l f a)

-- one that may go out now
pub sent_now : (limits : Limits) (frames : List (List ℕ)) (readable : List ℕ) (len frame : ℕ) (answer : Bool)
    → length readable ≡ len → frame ≡ len - 12 → answer ≡ has_room limits frames frame
    → (nat_lt 12 len && answer) ≡ true
    → (is_sendable limits readable ≡ true)
    × (has_room limits frames (length (frame_of readable)) ≡ true)
sent_now limits frames readable len frame answer l f a fits =
    let p = and_true (nat_lt 12 len) answer fits in
    let room = room_for limits frames readable len frame answer l f a ∙ p.1 in (
      both (nat_lt 12 (length readable)) (has_room limits [] (length (frame_of readable)))
          (ap (nat_lt 12) l ∙ p.0) (room_alone limits frames (length (frame_of readable)) room),
      room,
    )

off : (x a b : Bool) → (x && a) ≡ false → (x && b) ≡ true → a ≡ false
off true a b isnt is = isnt
off false a b isnt is = absurd (true≢false (sym is))

-- one for which there is no room now
pub left_now : (limits : Limits) (frames : List (List ℕ)) (readable : List ℕ) (len frame : ℕ) (answer admitted : Bool)
    → length readable ≡ len → frame ≡ len - 12 → answer ≡ has_room limits frames frame
    → admitted ≡ has_room limits [] frame → (nat_lt 12 len && answer) ≡ false → (nat_lt 12 len && admitted) ≡ true
    → (is_sendable limits readable ≡ true)
    × (has_room limits frames (length (frame_of readable)) ≡ false)
left_now limits frames readable len frame answer admitted l f a b isnt is = (
  sendable_is limits readable len frame admitted l f b ∙ is,
  room_for limits frames readable len frame answer l f a ∙ off (nat_lt 12 len) answer admitted isnt is,
)

-- a chain is dropped
pub drop_raced : (limits : Limits) (races : Bool) (old : Sightings) (buffers : List Buffer) (frames : List (List ℕ))
    (dropped more : ℕ) → Good (memory old) buffers → is_sendable limits (readable_of (memory old) buffers) ≡ false
    → more ≡ counted dropped 1
    → DoesRaced (transmit limits) races old old buffers (passing frames dropped) (passing frames more) 0 false
drop_raced limits races old buffers frames dropped more good unsendable count =
    writes_nothing (transmit limits) races old buffers (passing frames dropped) (passing frames more) good
    (rw (unsendable, count) refl, λ e. absurd (true≢false (sym e ∙ unsendable)))

-- a chain's frame goes out
pub send_raced : (limits : Limits) (races : Bool) (old new : Sightings) (buffers : List Buffer) (frames more : List (List ℕ))
    (dropped len frame : ℕ) (answer : Bool) → Good (memory old) buffers → Loads races old new
    → IsSent old new buffers frames more → len ≡ len_of false buffers → frame ≡ len - 12
    → answer ≡ has_room limits frames frame → (nat_lt 12 len && answer) ≡ true
    → DoesRaced (transmit limits) races old new buffers (passing frames dropped) (passing more dropped) 0 false
send_raced limits races old new buffers frames more dropped len frame answer good loads sent l f a fits =
    let stood = readable_of (memory old) buffers in
    let readable = unread stood 12 sent.frame in
    let seen = seen_behind races old new buffers 12 sent.frame good loads sent.seen in
    let long : length readable ≡ len =
    bytes_count old new (addresses_of false buffers) readable seen ∙ length-addresses_of false buffers ∙ sym l in
    let p = and_true (nat_lt 12 len) answer fits in
    let some = ltb-true 12 len p.0 in
    let is : frame_of readable ≡ sent.frame = behind_is races old new buffers 12 sent.frame good (omega (arith, some, l)) in
    let now = sent_now limits frames readable len frame answer long f a fits in
    reads (transmit limits) races old new buffers (passing frames dropped) (passing more dropped) readable loads seen
    (rw (now.0, is, sent.sent) refl, λ e. now.1)
