-- Links over memory, call by call.
use Rattle.std.specs.Prelude.{◌≡◌, ◌⊎◌, ℕ, ◌==◌, ◌+◌, ◌||◌, min, Bool, true, false, not, if◌then◌else◌, List, [], ◌++◌, length, take, drop, Some}
use Rattle.std.specs.List.{list_any}
use Rattle.base_types.specs.Counts.{one_more}
use Rattle.pktline_core.specs.LinkState.{LinkState, Whole}
use Rattle.pktline_core.specs.declared.links.Taken.{Taken}
use Rattle.pktline_core.specs.declared.links.Taken.TheVariants as taken
use Rattle.pktline_core.specs.declared.links.Put.{Put}
use Rattle.pktline_core.specs.declared.links.Put.TheVariants as put

pub record MemoryState : Type 0 where
  pub left : List ℕ
  pub given : ℕ
  pub written : List ℕ
  -- how many bytes a call moves at most
  pub most : ℕ
  -- how many calls were made, and the numbers, from 0, of those that fail
  pub takes : ℕ
  pub puts : ℕ
  pub failing_takes : List ℕ
  pub failing_puts : List ℕ
  pub read_faults : ℕ
  pub write_faults : ℕ

-- a new link
abbrev pub new_memory : List ℕ → ℕ → List ℕ → List ℕ → MemoryState
new_memory input most failing_takes failing_puts = record {
  left = input;
  given = 0;
  written = [];
  most = most;
  takes = 0;
  puts = 0;
  failing_takes = failing_takes;
  failing_puts = failing_puts;
  read_faults = 0;
  write_faults = 0;
}

abbrev pub is_listed : List ℕ → ℕ → Bool
is_listed calls call = list_any (λ n. n == call) calls

-- A memory link tells everything. Without failing calls it can't fail.
abbrev pub memory_state : MemoryState → LinkState
memory_state m = record {
  left = Some m.left;
  given = m.given;
  read_faults = m.read_faults;
  written = Some m.written;
  write_faults = m.write_faults;
  may_lack = true;
  may_fail = not (length m.failing_takes == 0) || not (length m.failing_puts == 0);
  tells = true;
  limits = Whole;
}

-- how many bytes a take into so much room moves
abbrev pub moved_by_take : MemoryState → ℕ → ℕ
moved_by_take m room = min (min (length m.left) room) m.most

-- the answer of a take into so much room
abbrev pub take_answer : MemoryState → ℕ → Taken
take_answer m room =
    if is_listed m.failing_takes m.takes then taken.Failed
    else if length m.left == 0 then taken.End
    else taken.Got (moved_by_take m room)

-- the link after that answer
abbrev pub after_take : MemoryState → Taken → MemoryState
after_take m (taken.Got n) = record m { left = drop n m.left; given = m.given + n; takes = one_more m.takes }
after_take m taken.End = record m { takes = one_more m.takes }
after_take m taken.Failed = record m { takes = one_more m.takes; read_faults = one_more m.read_faults }

-- the answer of a put, where there is memory for it
abbrev pub put_answer : MemoryState → List ℕ → Put
put_answer m piece = if is_listed m.failing_puts m.puts then put.Failed else put.Took (min (length piece) m.most)

-- want of memory may come in place of every answer but `Failed`
abbrev pub IsPutAnswer : MemoryState → List ℕ → Put → Type 0
IsPutAnswer m piece answer = (answer ≡ put_answer m piece) ⊎ ((answer ≡ put.NoMemory) × (is_listed m.failing_puts m.puts ≡ false))

-- the link after that answer
abbrev pub after_put : MemoryState → List ℕ → Put → MemoryState
after_put m piece (put.Took n) = record m { written = m.written ++ take n piece; puts = one_more m.puts }
after_put m piece put.Failed = record m { puts = one_more m.puts; write_faults = one_more m.write_faults }
after_put m piece put.NoMemory = record m { puts = one_more m.puts }
