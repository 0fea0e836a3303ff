-- What stands at the front of an input where a value of some grammar is wanted: a packet, a pack, a head of
-- HTTP.
use Rattle.std.specs.Prelude.{ℕ}

pub data Front (V F : Type 0) : Type 0 where
  -- the first so many bytes are this value
  Whole : ℕ → V → Front V F
  -- the first so many bytes show that no value stands here, by this fault
  Broken : ℕ → F → Front V F
  -- the bytes end before either is known; an input that ends with them is broken by this fault
  Partial : F → Front V F
