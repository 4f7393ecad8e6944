use Rattle.std.proofs.Common.{◌∙◌, ◌-◌, ℕ, ap, arith, length, sym}
use Rattle.guest_memory.specs.Pages.{bits_of, marked}
use Rattle.racing_memory.specs.Past.{Noted, newest}
use Rattle.racing_memory.proofs.Marks.{base_below, each_marked, some_made}
use Rattle.racing_memory.proofs.Places.{newest_ends}
use Rattle.racing_memory.proofs.memory.RacingMemory.stored_each.Goals as goal

pub bounds-self-inside-0 : goal.bounds-self-inside-0
bounds-self-inside-0 c = some_made c.self.inside.regions.now c.self.invariant.0

pub overflow_sub-addr : goal.overflow_sub-addr
overflow_sub-addr c =
    let noted = c.self.inside.past.noted in
    let below = base_below c.self.inside.regions.now noted.stood noted.past c.args.addr (length c.args.bytes.now) c.index-self-0.result
    c.args.self.now c.self.invariant.0 c.self.view_is c.requires in
    omega (arith, below, c.base-base.ensures)

pub mark-requires : goal.mark-requires
mark-requires c =
    let noted = c.self.inside.past.noted in
    let ends = newest_ends c.self.inside.regions.now noted.stood noted.past c.args.addr (length c.args.bytes.now)
    c.args.self.now c.self.invariant.0 c.self.view_is c.requires in
    omega (arith, ends)

pub invariant_of-self : goal.invariant_of-self
invariant_of-self c =
    let regions = c.self.inside.regions.now in
    let noted = c.self.inside.past.noted in
    let old = bits_of c.self.inside.pages.items in
    let below = base_below regions noted.stood noted.past c.args.addr (length c.args.bytes.now) c.index-self-0.result c.args.self.now
    c.self.invariant.0 c.self.view_is c.requires in
    let marks = c.mark.ensures ∙ ap (λ (base : ℕ). marked 0 (c.args.addr - base) (length c.args.bytes.now) old) c.base-base.ensures in (
      c.self.invariant.0,
      each_marked regions noted.stood noted.past c.args.addr c.args.bytes.now c.index-self-0.result old
          (bits_of c.mark.new.pages.items) c.self.invariant.0 below c.self.invariant.1 marks
          ∙ ap (λ (it : Noted). (newest regions it.stood it.past).pages) (sym c.note_each.ensures),
    )
