use Rattle.std.proofs.Common.{◌≡◌, ◌∙◌, ◌⊎◌, ◌/◌, inl, inr, List, Bool, sym, refl, ap, arith, slice_set, true}
use Rattle.guest_memory.specs.Pages.{bits_of, marked}
use Rattle.guest_memory.proofs.Marking.{marked-none}
use Rattle.guest_memory.proofs.PageBits.{filled_none, filled_to, marked_is, one_page_more}
use Rattle.guest_memory.proofs.pages.mark_pages.Goals as goal

pub returns-then-n-eq0 : goal.returns-then-n-eq0
returns-then-n-eq0 c =
    sym (ap (λ n. marked 0 c.args.from n (bits_of c.args.bits.now)) c.if-n-eq0.true
    ∙ marked-none 0 c.args.from (bits_of c.args.bits.now))

pub loop-page-init : goal.loop-page-init
loop-page-init c = (
  sym (filled_none (c.args.from / 4096) 0 (bits_of c.args.bits.now)),
  refl,
  omega arith,
  inl refl,
)

pub loop-page-preserved : goal.loop-page-preserved
loop-page-preserved c =
    let first = c.args.from / 4096 in (
      c.set.ensures.bits
          ∙ ap (λ (bits : List Bool). slice_set bits c.loop-page.page true) c.loop-page.invariant.0
          ∙ one_page_more first c.loop-page.page (bits_of c.args.bits.now) c.loop-page.invariant.2,
      c.set.ensures.len ∙ c.loop-page.invariant.1,
      omega (arith, c.loop-page.invariant.2),
      inr (omega (arith, c.loop-page-test.true)),
    )

pub returns : goal.returns
returns c =
    let first = c.args.from / 4096 in
    let hi = c.min-end.result in
    let at : (c.loop-page.page ≡ first) ⊎ (c.loop-page.page ≡ hi) =
    elim c.loop-page.invariant.3 [
      | inl none ↦ inl none
      | inr within ↦ inr (omega (arith, within, c.loop-page-test.false))
    ] in
    c.loop-page.invariant.0
    ∙ filled_to first hi c.loop-page.page (bits_of c.args.bits.now) c.loop-page.invariant.2 c.loop-page-test.false at
    ∙ sym (marked_is c.args.from c.args.n hi c.saturating_mul-pages.result c.args.bits.now
    c.requires c.if-n-eq0.false c.saturating_mul-pages.ensures c.min-end.ensures)
