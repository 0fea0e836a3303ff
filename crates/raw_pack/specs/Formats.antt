-- Formats of bytes that are decided as the bytes come: at each place either a value or a fault stands, or so
-- many bytes are wanted.
use Rattle.std.specs.Prelude.{ℕ, ◌+◌, nat_lt, if◌then◌else◌, List, length, take, drop}
use Rattle.base_types.specs.Fronts.{Front, Whole, Broken, Partial}

pub data Format (V F : Type 0) : Type 0 where
  -- a value stands here
  gives : V → Format V F
  -- this fault stands here
  fails : F → Format V F
  -- the next so many bytes decide what follows; an input that ends among them is broken by this fault
  wants : ℕ → F → (List ℕ → Format V F) → Format V F

-- one format, and then another that its value decides
infixl 10 ◌>>=◌
unfoldable pub ◌>>=◌ : {V W F : Type 0} → Format V F → (V → Format W F) → Format W F
(gives v) >>= f = f v
(fails e) >>= f = fails e
(wants n e g) >>= f = wants n e (λ bytes. g bytes >>= f)

-- the next so many bytes
unfoldable pub bytes : {F : Type 0} → ℕ → F → Format (List ℕ) F
bytes n cut = wants n cut (λ found. gives found)

-- what stands behind so many bytes more
abbrev pub behind : {V F : Type 0} → ℕ → Front V F → Front V F
behind n (Whole m v) = Whole (n + m) v
behind n (Broken m e) = Broken (n + m) e
behind n (Partial e) = Partial e

-- what stands at the front of an input
unfoldable pub front : {V F : Type 0} → Format V F → List ℕ → Front V F
front (gives v) input = Whole 0 v
front (fails e) input = Broken 0 e
front (wants n e f) input = if nat_lt (length input) n then Partial e else behind n (front (f (take n input)) (drop n input))

-- what stands behind a value at the front, where one stands there
abbrev pub and_then : {V W F : Type 0} → Front V F → (ℕ → V → Front W F) → Front W F
and_then (Whole n v) f = behind n (f n v)
and_then (Broken n e) f = Broken n e
and_then (Partial e) f = Partial e
