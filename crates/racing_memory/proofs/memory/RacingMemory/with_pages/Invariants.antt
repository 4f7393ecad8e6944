use Rattle.guest_memory.specs.Pages.{bits_of}
use Rattle.racing_memory.proofs.memory.RacingMemory.with_pages.Given as goal

abbrev pub ghost-before : goal.ghost-before
ghost-before g a = record { bytes = g.stood; pages = bits_of a.pages.items }
