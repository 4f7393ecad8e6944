-- How much of a service may be done before it pauses: so many chains, whose buffers have so many bytes.
use Rattle.std.specs.Prelude.{◌≡◌, ℕ, ◌-◌, ◌<◌, Option, Some, List, ◌⊎◌, length, take, map, sum_by}
use Rattle.std.specs.Option.{option_map}
use Rattle.chain.specs.declared.budget.Budget.{Budget}
use Rattle.chain.specs.declared.segment.Buffer.{Buffer}
use Rattle.chain.specs.Buffers.{total_len}
use Rattle.chain.specs.Service.{Served}

-- what is left of a limit, where there is one, once n is taken off: never less than 0
abbrev pub less : Option ℕ → ℕ → Option ℕ
less limit n = option_map (λ most. most - n) limit

-- what is left of a budget after one more chain, of these buffers
abbrev pub less_chain : Budget → List Buffer → Budget
less_chain budget buffers =
    record { chains = less budget.chains 1; bytes = less budget.bytes (total_len buffers) }

-- how many bytes the buffers of these chains have
abbrev pub bytes_of : List (List Buffer) → ℕ
bytes_of chains = sum_by total_len chains

-- what is left of a budget after these chains
abbrev pub left_after : Budget → List (List Buffer) → Budget
left_after budget chains =
    record { chains = less budget.chains (length chains); bytes = less budget.bytes (bytes_of chains) }

-- no chain is left of it, or no byte
abbrev pub IsSpent : Budget → Type 0
IsSpent budget = (budget.chains ≡ Some 0) ⊎ (budget.bytes ≡ Some 0)

-- These chains are within the budget: before each of them those in front of it hadn't spent it.
abbrev pub AreWithin : Budget → List (List Buffer) → Type 0
AreWithin budget chains = (n : ℕ) → n < length chains → ¬ IsSpent (left_after budget (take n chains))

-- the buffers of each chain that was served
abbrev pub chains_of : {State : Type 0} → List (Served State) → List (List Buffer)
chains_of served = map (λ s. s.buffers) served
