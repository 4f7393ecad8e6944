-- The entropy device's one queue, the requestq (5.4.2), as its service sees it: what becomes of one chain (5.4.6).
use Rattle.std.specs.Prelude.{◌≡◌, ℕ, ◌-◌, ◌++◌, nat_lt, List, length, map, take, drop, replicate, Some, None}
use Rattle.chain.specs.Service.{Given, Device}

-- A chain gets the pool's first bytes, as many as it has places, or all where there are fewer: a device may use
-- less than the whole buffer (5.4.6.2). They fill its first places, the others stay as they are, and no byte that
-- was given stays in the pool.
abbrev pub filled : List ℕ → ℕ → Given (List ℕ)
filled pool w = record {
  state = drop w pool;
  written = map Some (take w pool) ++ replicate (w - length pool) None;
}

-- The requestq, over the pool. A chain is taken only while the pool has a byte, since the device must place one or
-- more into it (5.4.6.2). Its readable bytes, which a driver must not offer (5.4.6.1), are of no account. No chain
-- waits for memory.
abbrev pub entropy : Device (List ℕ)
entropy = record {
  takes = λ pool. nat_lt 0 (length pool);
  Gives = λ pool readable w given. given ≡ filled pool w;
  LacksMemory = λ pool readable w. ⊥;
}
