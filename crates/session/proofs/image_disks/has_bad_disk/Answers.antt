-- None of the places is bad, or the first that is.
use Rattle.std.proofs.Common.{◌+◌, ◌∷◌, None, drop, refl, sym, ap, ◌∙◌, arith}
use Rattle.std.proofs.lemmas.List.{drop_all, drop_more}
use Rattle.session.specs.Session.{before_none}
use Rattle.session.proofs.ImageDisks.{found_bad, next_judged, none_bad, none_by, none_judged}
use Rattle.session.proofs.image_disks.has_bad_disk.Goals as goal

pub loop-place-init : goal.loop-place-init
loop-place-init c = none_judged c.args.devices.now c.args.spare

pub returns-in_default : goal.returns-in_default
returns-in_default c =
    sym (none_bad c.args.devices.now c.args.spare c.loop-place.place c.loop-place.invariant
    (ap before_none (drop_more c.args.devices.now c.loop-place.place None c.loop-place-test.true
    ∙ ap (λ place. place ∷ drop (c.loop-place.place + 1) c.args.devices.now) (none_by _ c.in_default.not-Some))))

pub returns-then-is_bad_behind : goal.returns-then-is_bad_behind
returns-then-is_bad_behind c =
    sym (found_bad c.args.devices.now c.args.spare c.loop-place.place c.loop-place.invariant c.in-Some.spec _
    (drop_more c.args.devices.now c.loop-place.place None c.loop-place-test.true
    ∙ ap (λ place. place ∷ drop (c.loop-place.place + 1) c.args.devices.now) c.in-Some.is)
    (sym c.is_bad_behind.ensures ∙ c.if-is_bad_behind.true))

pub loop-place-preserved : goal.loop-place-preserved
loop-place-preserved c =
    next_judged c.args.devices.now c.args.spare c.loop-place.place c.loop-place.invariant c.in-Some.spec _
    (drop_more c.args.devices.now c.loop-place.place None c.loop-place-test.true
    ∙ ap (λ place. place ∷ drop (c.loop-place.place + 1) c.args.devices.now) c.in-Some.is) refl
    (sym c.is_bad_behind.ensures ∙ c.if-is_bad_behind.false)

pub returns : goal.returns
returns c =
    sym (none_bad c.args.devices.now c.args.spare c.loop-place.place c.loop-place.invariant
    (ap before_none (drop_all c.loop-place.place c.args.devices.now (omega (arith, c.loop-place-test.false)))))
