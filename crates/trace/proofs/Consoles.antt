-- The field of a console: its columns, a colon, and its rows.
use Rattle.std.proofs.Common.{◌≡◌, ℕ, List, ◌++◌, drop, sym, ap, ◌∙◌}
use Rattle.std.specs.Prelude.{codes}
use Rattle.device_list.specs.declared.spec.DeviceSpec.TheVariants.{Console}
use Rattle.trace.specs.Words.{IsConsoleField, IsKindField}

-- behind its word it is a kind of device
module _ (field rest : List ℕ) (c r : ℕ) (is : field ≡ codes "console:" ++ rest) where
  pub is_console : IsConsoleField rest c r → IsKindField field (Console c r)
  is_console size =
      record { fits = size.fits; spelled = is ∙ ap (λ (xs : List ℕ). codes "console:" ++ xs) size.spelled }

  pub console_behind : IsKindField field (Console c r) → IsConsoleField rest c r
  console_behind kind = record { fits = kind.fits; spelled = ap (drop 8) (sym is ∙ kind.spelled) }
