-- The console's two queues as their services see them: what becomes of one chain (5.3.6).
use Rattle.std.specs.Prelude.{◌≡◌, ◌≢◌, ℕ, ◌+◌, ◌-◌, ◌≤◌, ◌<◌, ⊤, Option, Bool, true, false, List, [], ◌∷◌, ◌++◌, length, map, take, drop, replicate, Some, None}
use Rattle.chain.specs.Service.{Given, Device}

-- whether any byte waits
abbrev pub is_any : List ℕ → Bool
is_any [] = false
is_any (x ∷ bytes) = true

-- A chain takes the first bytes of pending input, as many as it has places: they fill its first places, and
-- the others stay as they are.
abbrev pub received : List ℕ → ℕ → Given (List ℕ)
received pending w = record {
  state = drop w pending;
  written = map Some (take w pending) ++ replicate (w - length pending) None;
}

-- The receive queue (5.3.6.1), over pending input: a chain is taken only while there is some.
abbrev pub receive : Device (List ℕ)
receive = record {
  takes = λ pending. is_any pending;
  Gives = λ pending readable w given. given ≡ received pending w;
  LacksMemory = λ pending readable w. ⊥;
}

-- a chain's readable bytes go out behind what went out before, and none of its places is written
abbrev pub transmitted : List ℕ → List ℕ → ℕ → Given (List ℕ)
transmitted out readable w = record { state = out ++ readable; written = replicate w None }

-- The transmit queue, over what went out: every chain is taken; one with readable bytes may find no memory.
abbrev pub transmit : Device (List ℕ)
transmit = record {
  takes = λ out. true;
  Gives = λ out readable w given. given ≡ transmitted out readable w;
  LacksMemory = λ out readable w. readable ≢ [];
}

-- the same with ample memory
abbrev pub exact_transmit : Device (List ℕ)
exact_transmit = record {
  takes = λ out. true;
  Gives = λ out readable w given. given ≡ transmitted out readable w;
  LacksMemory = λ out readable w. ⊥;
}

-- Whether so many bytes may wait in an output, and whether they may be refused. Where the output has a limit
-- that alone decides; one without takes memory for what waits, and may find none.
abbrev pub Fits : Option ℕ → ℕ → Type 0
Fits None n = ⊤
Fits (Some limit) n = n ≤ limit

abbrev pub MayRefuse : Option ℕ → ℕ → Type 0
MayRefuse None n = ⊤
MayRefuse (Some limit) n = limit < n

-- The transmit queue, over what waits in an output with this limit: a chain is served where its readable
-- bytes fit behind what waits, and one with readable bytes may be refused where they don't.
abbrev pub transmit_within : Option ℕ → Device (List ℕ)
transmit_within limit = record {
  takes = λ out. true;
  Gives = λ out readable w given. (given ≡ transmitted out readable w)
      × Fits limit (length out + length readable);
  LacksMemory = λ out readable w. (readable ≢ []) × MayRefuse limit (length out + length readable);
}

-- the same where each chain that is served fits, and none is refused
abbrev pub transmit_fitting : Option ℕ → Device (List ℕ)
transmit_fitting limit = record {
  takes = λ out. true;
  Gives = λ out readable w given. (given ≡ transmitted out readable w)
      × Fits limit (length out + length readable);
  LacksMemory = λ out readable w. ⊥;
}
