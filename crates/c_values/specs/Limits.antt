-- How much one call may serve, as C describes it.
use Rattle.std.specs.Prelude.{ℕ, ◌==◌, if◌then◌else◌, Option, Some, None}
use Rattle.chain.specs.declared.budget.Budget.{Budget}

-- the limit that a number says: 0 is none
abbrev pub limit_of : ℕ → Option ℕ
limit_of limit = if limit == 0 then None else Some limit

abbrev pub budget_by : ℕ → ℕ → Budget
budget_by chains bytes = record { chains = limit_of chains; bytes = limit_of bytes }
