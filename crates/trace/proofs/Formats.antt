-- What the formats of a trace have in common.
use Rattle.std.proofs.Common.{◌≡◌, ℕ, ◌≤◌, List, get_or, map, refl, arith}
use Rattle.board.specs.declared.spec.SlotSpec.{SlotSpec}
use Rattle.board.specs.declared.spec.Backing.{Backing}
use Rattle.board.specs.declared.spec.Backing.TheVariants.{Image, Host}
use Rattle.trace.specs.declared.format.Format.{Format}
use Rattle.trace.specs.declared.format.Format.TheVariants.{Plain, Extended}
use Rattle.trace.specs.declared.format.Version.{Version}
use Rattle.trace.specs.declared.format.Version.TheVariants.{One, Two}
use Rattle.trace.specs.declared.word.Word.{Word}
use Rattle.trace.specs.declared.word.Word.TheVariants.{Cache}
use Rattle.trace.specs.Format.{GoesInto, if_extended, unless_version_1}
use Rattle.trace.specs.Printable.{IsPrintable, IsPrintableDisk, IsPrintableMemory, IsPrintableSlot}
use Rattle.trace.specs.Text.{Content, as_format, word_for}
use Rattle.trace.specs.Words.{IsWordOf, StandsBeside}

-- each of what all but version 1 have
pub map_unless_version_1 : {X Y : Type 0} (f : X → Y) (format : Format) (xs : List X)
    → map f (unless_version_1 format xs) ≡ unless_version_1 format (map f xs)
map_unless_version_1 f (Plain One) xs = refl
map_unless_version_1 f (Plain Two) xs = refl
map_unless_version_1 f Extended xs = refl

-- and of what the extended format alone has
pub map_if_extended : {X Y : Type 0} (f : X → Y) (format : Format) (xs : List X)
    → map f (if_extended format xs) ≡ if_extended format (map f xs)
map_if_extended f (Plain version) xs = refl
map_if_extended f Extended xs = refl

-- the extended format has every word
pub word_of_extended : (word : Word) → IsWordOf Extended word
word_of_extended Cache = tt
word_of_extended word = search

-- ---- from one format into another

pub first_is_1 : (old new : Format) → GoesInto old new → new ≡ Plain One → old ≡ Plain One
first_is_1 old (Plain One) goes is = goes
first_is_1 old (Plain Two) goes is = absurd cc
first_is_1 old Extended goes is = absurd cc

goes_extended : (old new : Format) → GoesInto old new → old ≡ Extended → new ≡ Extended
goes_extended old (Plain One) goes is = absurd cc
goes_extended old (Plain Two) goes is = absurd (goes is)
goes_extended old Extended goes is = refl

word_goes : (old new : Format) (word : Word) → GoesInto old new → IsWordOf old word → IsWordOf new word
word_goes old new Cache goes h = tt
word_goes old new word goes h = search goes_extended

-- what holds in the extended format and, if in one plain format, in each goes along
goes_by : (P : Format → Type 0) (old new : Format) → GoesInto old new → (P old → P Extended)
    → ((v w : Version) → P (Plain v) → P (Plain w)) → P old → P new
goes_by P (Plain v) (Plain w) goes wide same h = same v w h
goes_by P (Plain v) Extended goes wide same h = wide h
goes_by P Extended (Plain One) goes wide same h = absurd cc
goes_by P Extended (Plain Two) goes wide same h = absurd (goes refl)
goes_by P Extended Extended goes wide same h = h

some_regions : (format : Format) (count : ℕ) → IsPrintableMemory format count → 1 ≤ count
some_regions (Plain version) count h = omega (arith, h)
some_regions Extended count h = h

memory_goes : (old new : Format) (count : ℕ) → GoesInto old new → IsPrintableMemory old count
    → IsPrintableMemory new count
memory_goes old new count goes h =
    goes_by (λ (f : Format). IsPrintableMemory f count) old new goes (some_regions old count) (λ v w one. one) h

beside_image : (backing : Backing) (spare : ℕ) → backing ≡ Image → StandsBeside backing spare
beside_image Image spare is = tt
beside_image (Host depth) spare is = absurd cc

disk_wide : (old : Format) (backing : Backing) (spare : ℕ) → IsPrintableDisk old backing spare
    → StandsBeside backing spare
disk_wide (Plain version) backing spare h = beside_image backing spare h.0
disk_wide Extended backing spare h = h

disk_goes : (old new : Format) (backing : Backing) (spare : ℕ) → GoesInto old new
    → IsPrintableDisk old backing spare → IsPrintableDisk new backing spare
disk_goes old new backing spare goes h =
    goes_by (λ (f : Format). IsPrintableDisk f backing spare) old new goes (disk_wide old backing spare)
    (λ v w image. image) h

slot_goes : (old new : Format) (s : SlotSpec) → GoesInto old new → IsPrintableSlot old s
    → IsPrintableSlot new s
slot_goes old new s goes h = record {
  memory = memory_goes old new _ goes h.memory;
  disk = disk_goes old new s.backing s.spare goes h.disk;
  identity = λ is. h.identity (first_is_1 old new goes is);
}

-- a trace that has a text has one in a format into which its own goes
pub fits_format : {A : Type 0} (format : Format) (t : Content A) → GoesInto t.format format → IsPrintable t
    → IsPrintable (as_format format t)
fits_format format t goes h = record {
  slots = λ k d lt. slot_goes t.format format (get_or t.slots k d) goes (h.slots k d lt);
  events = h.events;
  words = λ k d lt. word_goes t.format format (word_for (get_or t.events k d).what) goes (h.words k d lt);
}
