-- What one chain keeps of an image, and what two keep one after another.
use Rattle.std.proofs.Common.{◌≡◌, ℕ, ◌+◌, ◌≤◌, Bool, true, false, if◌then◌else◌, nat_lt, List, refl, sym, ap, ◌∙◌, arith}
use Rattle.std.proofs.Math.Bool.{or-false}
use Rattle.std.specs.Prelude.{◌||◌}
use Rattle.std.proofs.lemmas.Bool.Decides.{nat_tests}
use Rattle.guest_memory.specs.Memory.{Memory}
use Rattle.chain.specs.declared.segment.Buffer.{Buffer}
use Rattle.chain.specs.Bytes.{readable_of}
use Rattle.chain.proofs.Simulating.{DoesAs}
use Rattle.sector_cache.specs.Disk.{Disk, KeepsClean}
use Rattle.sector_cache.specs.Stop.{TouchesSectors}
use Rattle.mmio_window.specs.Leaving.{IsKept}
use Rattle.mmio_window.proofs.Keeping.{kept_all}
use Rattle.block_device.specs.declared.cached.Cached.{Cached}
use Rattle.block_device.specs.declared.device.BlockDevice.{BlockDevice}
use Rattle.block_device.specs.declared.request.Request.{Request}
use Rattle.block_device.specs.declared.request.RequestStatus.{RequestStatus}
use Rattle.block_device.specs.Asking.{IsAsked}
use Rattle.block_device.specs.Device.{block_device}
use Rattle.block_device.specs.Extent.{CallsWithin, extent_disk}
use Rattle.block_device.specs.Keeping.{KeepsImage}
use Rattle.block_device.specs.Progress.{IsDone}
use Rattle.block_device.specs.Request.{is_io_error, payload_of}
use Rattle.block_device.specs.Touching.{device_over, on_image, written_sectors}
use Rattle.block_device.proofs.Durable.{ends_clean}
use Rattle.block_device.proofs.Extents.{KeepsOutside-same, outside_trans}
use Rattle.block_device.proofs.Touching.{own_extent, touched_more, untouched}

-- ---- whether the number of failures rose

not_less : (n : ℕ) → false ≡ nat_lt n n
not_less n = grind (arith, nat_tests)

one_less : (more : Bool) (b c : ℕ) → c ≡ b + (if more then 1 else 0) → more ≡ nat_lt b c
one_less true b c n = grind (arith, nat_tests)
one_less false b c n = grind (arith, nat_tests)

rises_by : (more : Bool) (b c : ℕ) → c ≡ b + (if more then 1 else 0) → b ≤ c
rises_by true b c n = omega (arith, n)
rises_by false b c n = omega (arith, n)

both_less : (x y : Bool) (a b c : ℕ) → x ≡ nat_lt a b → y ≡ nat_lt b c → a ≤ b → b ≤ c → (x || y) ≡ nat_lt a c
both_less true y a b c p q h k = grind (arith, nat_tests)
both_less false true a b c p q h k = grind (arith, nat_tests)
both_less false false a b c p q h k = grind (arith, nat_tests)

latched : (failed : Bool) (a b c : ℕ) → a ≤ b → b ≤ c
    → ((failed || nat_lt a b) || nat_lt b c) ≡ (failed || nat_lt a c)
latched true a b c h k = refl
latched false a b c h k = both_less (nat_lt a b) (nat_lt b c) a b c refl refl h k

module _ {I : Type 0} (disk : I → Disk) (moment : I → ℕ) (may_leave : I → List ℕ → Type 0)
    (left_since : I → ℕ → List ℕ → Type 0) where
  abbrev Keeps : BlockDevice → BlockDevice → Bool → Bool → I → I → Type 0
  Keeps device device' failed failed' old new =
      KeepsImage disk moment may_leave left_since device device' failed failed' old new

  keeps_all : (device : BlockDevice) (failed : Bool) (image : I)
      → Keeps device device failed failed image image
  keeps_all device failed image = record {
    same = refl;
    stays = record {
      rises = omega arith;
      clean = λ same clean. clean;
      outside = KeepsOutside-same device.extent (disk image) (disk image) refl refl;
    };
    touches = untouched device.extent;
    counted = sym (or-false failed) ∙ ap (λ b. failed || b) (not_less (disk image).failures);
  }

  clean_on : (a b c : Disk) → KeepsClean a b → KeepsClean b c → a.failures ≤ b.failures
      → b.failures ≤ c.failures → KeepsClean a c
  clean_on a b c one other h k = λ same clean.
      let before : b.failures ≡ a.failures = omega (arith, h, k, same) in
      let behind : c.failures ≡ b.failures = omega (arith, h, k, same) in
      other behind (one before clean)

  on_same : (device device' device'' : BlockDevice) (failed failed' failed'' : Bool) (a b c : I)
      → device' ≡ device
      → Keeps device device' failed failed' a b → Keeps device' device'' failed' failed'' b c
      → Keeps device device'' failed failed'' a c
  on_same device device' device'' failed failed' failed'' a b c same h k =
      let k' : Keeps device device'' failed' failed'' b c = rw same at k in
      record {
        same = k'.same;
        stays = record {
          rises = omega (arith, h.stays.rises, k'.stays.rises);
          clean = clean_on (disk a) (disk b) (disk c) h.stays.clean k'.stays.clean
              h.stays.rises k'.stays.rises;
          outside = outside_trans device.extent (disk a) (disk b) (disk c) h.stays.outside k'.stays.outside;
        };
        touches = touched_more device.extent h.touches k'.touches;
        counted = k'.counted ∙ ap (λ f. f || nat_lt (disk b).failures (disk c).failures) h.counted
            ∙ latched failed (disk a).failures (disk b).failures (disk c).failures
            h.stays.rises k'.stays.rises;
      }

  keeps_on : (device device' device'' : BlockDevice) (failed failed' failed'' : Bool) (a b c : I)
      → Keeps device device' failed failed' a b → Keeps device' device'' failed' failed'' b c
      → Keeps device device'' failed failed'' a c
  keeps_on device device' device'' failed failed' failed'' a b c h k =
      on_same device device' device'' failed failed' failed'' a b c h.same h k

  -- one chain that asked for the image
  pub asked_keeps : (device : BlockDevice) (failed failed' : Bool) (m done : Memory) (buffers : List Buffer)
      (request : Request) (asked : IsAsked device m buffers request) (len : ℕ) (status : RequestStatus)
      (old new : I)
      → IsDone device.identity request buffers m done (extent_disk device.extent (disk old))
      (extent_disk device.extent (disk new)) len status
      → CallsWithin device.extent (is_io_error status) (disk old) (disk new)
      → TouchesSectors moment may_leave left_since
      (on_image device.extent (written_sectors request (payload_of (readable_of m buffers)))) old new
      → failed' ≡ (failed || is_io_error status) → Keeps device device failed failed' old new
  asked_keeps device failed failed' m done buffers request asked len status old new is calls touches latch =
      record {
        same = refl;
        stays = record {
          rises = rises_by (is_io_error status) (disk old).failures (disk new).failures calls.counted;
          clean = λ same clean. ends_clean device.identity request (payload_of (readable_of m buffers))
              (extent_disk device.extent (disk old)) _ is.ends same clean;
          outside = calls.outside;
        };
        touches = own_extent device m buffers request asked touches;
        counted = latch ∙ ap (λ b. failed || b) (one_less (is_io_error status) (disk old).failures
            (disk new).failures calls.counted);
      }

  -- the chains of a piece
  pub kept_image : (here there : Cached) (cache later : I)
      → IsKept (λ (d : Cached) (b : I) (d' : Cached) (b' : I). Keeps d.device d'.device d.failed d'.failed b
      b') here cache there later
      → Keeps here.device there.device here.failed there.failed cache later
  kept_image here there cache later kept =
      kept_all (λ (d : Cached) (b : I) (d' : Cached) (b' : I). Keeps d.device d'.device
      d.failed d'.failed b b')
      (λ (d : Cached) (b : I) (d' : Cached) (b' : I). Keeps d.device d'.device d.failed d'.failed b b')
      (λ d b. keeps_all d.device d.failed b)
      (λ d d' d'' b b' b'' one other. keeps_on d.device d'.device d''.device d.failed d'.failed d''.failed
      b b' b'' one other)
      here there cache later kept

  -- and a service of the device over the image is one over its extent as a disk
  pub over_as_disk : (device : BlockDevice)
      → DoesAs (device_over disk moment may_leave left_since device) (block_device device)
      (λ image d. d ≡ extent_disk device.extent (disk image))
  over_as_disk device = record {
    takes = λ image d alike. refl;
    gives = λ image d readable w given alike h. record {
      state = extent_disk device.extent (disk given.state);
      alike = refl;
      gives = rw alike h.gives;
    };
    lacks_memory = λ image d readable w alike h. absurd h;
  }
