-- What a call told is what waits.
use Rattle.std.proofs.Common.{◌≡◌, Option, Some, None, subst}
use Rattle.std.specs.Prelude.{IfNone, IfSome, MatchOption}
use Rattle.std.specs.Option.{option_map}
use Rattle.session.specs.declared.told.Waits.{Waits}
use Rattle.c_values.specs.declared.pending.Pending.{Pending}
use Rattle.board_ffi.specs.Calls.{pending_by}

pub tells : {X : Type 0} (o : Option X) (f : X → Waits) (waits : Option Waits) (before after : Pending)
    → waits ≡ option_map f o → IfSome waits (λ found. after ≡ pending_by found)
    → IfNone waits (after ≡ before)
    → MatchOption o (after ≡ before) (λ x. after ≡ pending_by (f x))
tells None f waits before after is some none = subst (λ (w : Option Waits). IfNone w (after ≡ before)) is none
tells (Some x) f waits before after is some none =
    subst (λ (w : Option Waits). IfSome w (λ found. after ≡ pending_by found)) is some
