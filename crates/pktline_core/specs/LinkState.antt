-- What a link is to contracts, in both directions at once.
use Rattle.std.specs.Prelude.{ℕ, Bool, List}
use Rattle.std.specs.declared.option.Option.{Option}
use Rattle.std.specs.Borrow.{GName}

-- what a link holds back of another one's input
pub data Limits : Type 0 where
  -- it is no limit
  Whole : Limits
  -- it limits the link behind the reference of this name: these bytes are behind its end, where they are
  -- told; so many bytes will that link have given there; and what that link holds back itself
  Limited : GName → Option (List ℕ) → ℕ → Limits → Limits

pub record LinkState : Type 0 where
  -- the bytes that are left to be read, where the link tells them
  pub left : Option (List ℕ)
  -- how many bytes it has given
  pub given : ℕ
  -- how often a read has failed
  pub read_faults : ℕ
  -- the bytes that were written, where the link tells them
  pub written : Option (List ℕ)
  -- how often a write has failed
  pub write_faults : ℕ
  -- whether it may lack memory
  pub may_lack : Bool
  -- whether a read or a write may fail
  pub may_fail : Bool
  -- whether it goes on telling the bytes that are left
  pub tells : Bool
  -- what it holds back, which no call changes
  pub limits : Limits
