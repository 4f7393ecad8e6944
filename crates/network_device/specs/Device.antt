-- The two queues as their services see them: what becomes of one chain (5.1.6).
use Rattle.std.specs.Prelude.{◌≡◌, ℕ, ◌+◌, ◌-◌, ◌^◌, min, ◌&&◌, nat_lt, nat_le, suc, Bool, true, false, if◌then◌else◌, List, [], ◌∷◌, ◌++◌, length, map, drop, replicate, Some, None}
use Rattle.chain.specs.Service.{Given, Device}
use Rattle.network_device.specs.declared.limits.Limits.{Limits}
use Rattle.network_device.specs.Frames.{has_room}
use Rattle.network_device.specs.Header.{header_len, receive_header}

-- Frames on their way, the oldest first, and how many were dropped.
pub record Passing : Type 0 where
  pub frames : List (List ℕ)
  pub dropped : ℕ

abbrev pub passing : List (List ℕ) → ℕ → Passing
passing frames dropped = record { frames = frames; dropped = dropped }

-- a count of dropped frames after n more: it stays at the largest number of 64 bits
abbrev pub counted : ℕ → ℕ → ℕ
counted dropped n = min (dropped + n) (2 ^ 64 - 1)

-- the frame of a chain that is transmitted (5.1.6.2): what stands behind the header, which isn't judged, as no
-- offload is offered
abbrev pub frame_of : List ℕ → List ℕ
frame_of readable = drop header_len readable

-- whether a chain has a frame that may go out at all: it isn't empty, and an empty outlet has room for it
abbrev pub is_sendable : Limits → List ℕ → Bool
is_sendable limits readable =
    nat_lt header_len (length readable) && has_room limits [] (length (frame_of readable))

-- A frame that may go out goes behind what went out before; any other chain is dropped. None of its places is
-- written.
abbrev pub transmitted : Limits → Passing → List ℕ → ℕ → Given Passing
transmitted limits out readable w = record {
  state = if is_sendable limits readable then passing (out.frames ++ frame_of readable ∷ []) out.dropped
      else passing out.frames (counted out.dropped 1);
  written = replicate w None;
}

-- The transmit queue, over what waits in an outlet with these limits: every chain is taken. One whose frame may
-- go out is served where there is room for that, and is left on offer where there is none.
abbrev pub transmit : Limits → Device Passing
transmit limits = record {
  takes = λ out. true;
  Gives = λ out readable w given. (given ≡ transmitted limits out readable w)
      × (is_sendable limits readable ≡ true → has_room limits out.frames (length (frame_of readable)) ≡ true);
  LacksMemory = λ out readable w. (is_sendable limits readable ≡ true)
      × (has_room limits out.frames (length (frame_of readable)) ≡ false);
}

-- the same where no chain is left on offer
abbrev pub transmit_fitting : Limits → Device Passing
transmit_fitting limits = record {
  takes = λ out. true;
  Gives = (transmit limits).Gives;
  LacksMemory = λ out readable w. ⊥;
}

-- whether a frame fits a chain of so many writable places, behind its header
abbrev pub fits : ℕ → List ℕ → Bool
fits w frame = nat_le (header_len + length frame) w

-- how many frames in front don't
abbrev pub misfits : ℕ → List (List ℕ) → ℕ
misfits w [] = 0
misfits w (frame ∷ frames) = if fits w frame then 0 else suc (misfits w frames)

-- A chain gets the first frame that fits, behind a header; the other places stay as they are. Frames in front
-- of that one are dropped.
pub record Delivers (waiting : Passing) (w : ℕ) (given : Given Passing) : Type 0 where
  pub frame : List ℕ
  pub later : List (List ℕ)
  pub first : drop (misfits w waiting.frames) waiting.frames ≡ frame ∷ later
  pub is : given ≡ record {
    state = passing later (counted waiting.dropped (misfits w waiting.frames));
    written = map Some (receive_header ++ frame) ++ replicate (w - (header_len + length frame)) None;
  }

-- The receive queue, over the frames that wait (5.1.6.4): a chain is taken only while there are some, and is
-- left on offer where none of them fits.
abbrev pub receive : Device Passing
receive = record {
  takes = λ waiting. nat_lt 0 (length waiting.frames);
  Gives = λ waiting readable w given. Delivers waiting w given;
  LacksMemory = λ waiting readable w. misfits w waiting.frames ≡ length waiting.frames;
}

-- the same where no chain is left on offer
abbrev pub receive_fitting : Device Passing
receive_fitting = record { takes = receive.takes; Gives = receive.Gives; LacksMemory = λ waiting readable w. ⊥ }

-- all that waits is dropped
abbrev pub emptied : Passing → Passing
emptied waiting = passing [] (counted waiting.dropped (length waiting.frames))
