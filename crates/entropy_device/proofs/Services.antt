-- Whole services of the requestq, over any kind of ring.
use Rattle.std.proofs.Common.{◌≡◌, ◌≢◌, ℕ, zero, suc, ◌-◌, ◌<◌, nat_lt, Bool, true, List, [], ◌∷◌, ◌++◌, length, map, take, drop, Some, refl, sym, ap, ◌∙◌, arith, append_assoc}
use Rattle.std.specs.Prelude.{◌&&◌, min}
use Rattle.std.proofs.lemmas.List.{take-append-drop}
use Rattle.chain.specs.Bytes.{writable_of}
use Rattle.chain.specs.Service.{Kind, Given, Ending, Refused, Site, Served, after, ServesAll, ServesChain, IsService, HasAtMostOneAnswer, used_len}
use Rattle.chain.proofs.Partial.{unwritten}
use Rattle.chain.proofs.Servicing.{never_refused}
use Rattle.entropy_device.specs.Device.{entropy}
use Rattle.entropy_device.specs.Pool.{bytes_of, handed_out}
use Rattle.entropy_device.proofs.Filling.{used_len-filled}

pub once : HasAtMostOneAnswer entropy
once = record { given = λ pool readable w g h p q. p ∙ sym q }

-- the bytes of a run are its bytes
bytes_of-none : (n : ℕ) → bytes_of (unwritten n) ≡ []
bytes_of-none zero = refl
bytes_of-none (suc n) = bytes_of-none n

bytes_of-run : (bytes : List ℕ) (n : ℕ) → bytes_of (map Some bytes ++ unwritten n) ≡ bytes
bytes_of-run [] n = bytes_of-none n
bytes_of-run (x ∷ bytes) n = ap (λ (l : List ℕ). x ∷ l) (bytes_of-run bytes n)

module _ {Ring : Type 0} (kind : Kind Ring) where
  pub not_refused : (old new : Site Ring (List ℕ)) (ending : Ending) (wanted : Bool)
      → IsService kind entropy old new ending wanted → ending ≢ Refused
  not_refused old new ending wanted s =
      never_refused kind entropy old new ending wanted (λ pool readable w h. h) s

  -- what chains got and what is left is what there was
  pub all_handed_out : (old new : Site Ring (List ℕ)) (chains : List (Served (List ℕ)))
      → ServesAll kind entropy old chains new → handed_out chains ++ new.state ≡ old.state
  all_handed_out old new [] p = ap (λ (s : Site Ring (List ℕ)). s.state) (sym p)
  all_handed_out old new (s ∷ chains) p =
      let w = length (writable_of s.buffers) in
      let pool = old.state in
      let later = all_handed_out (after kind entropy old s) new chains p.1 in
      append_assoc (bytes_of s.given.written) (handed_out chains) new.state
      ∙ ap (λ l. bytes_of s.given.written ++ l) later
      ∙ ap (λ (g : Given (List ℕ)). bytes_of g.written ++ g.state) p.0.gives
      ∙ ap (λ l. l ++ drop w pool) (bytes_of-run (take w pool) (w - length pool))
      ∙ take-append-drop w pool

  -- a chain that is served finds a byte
  some_byte : (pool : List ℕ) (offers : Bool) → (nat_lt 0 (length pool) && offers) ≡ true → 0 < length pool
  some_byte [] offers h = cc
  some_byte (x ∷ pool) offers h = omega arith

  pub gets_a_byte : (site : Site Ring (List ℕ)) (s : Served (List ℕ)) → ServesChain kind entropy site s
      → 0 < length (writable_of s.buffers) → 0 < used_len s.given.written
  gets_a_byte site s served room =
      let w = length (writable_of s.buffers) in
      let some = some_byte site.state (kind.offers site.memory site.ring) served.ready in
      let len : used_len s.given.written ≡ min w (length site.state) =
      ap (λ (g : Given (List ℕ)). used_len g.written) served.gives ∙ used_len-filled site.state w in
      omega (arith, len, some, room)
