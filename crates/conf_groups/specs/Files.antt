-- The files of a conf by name, and which of them a pattern names.
use Rattle.std.specs.Prelude.{ℕ, List, [], ◌∷◌, ◌==◌, ◌-◌, Bool, true, false, not, ◌&&◌, ◌||◌, if◌then◌else◌, nat_eq, nat_le, length, take, filter, codes}
use Rattle.std.specs.List.{list_any, ends_with}
use Rattle.std.specs.FinMap as named
use Rattle.base_types.specs.Names.{ByName}
use Rattle.conf_groups.specs.declared.conf_file.ConfFile.{ConfFile}
use Rattle.conf_groups.specs.declared.conf_file.TheConstants.{MAX_FILE_NAME}

-- the bytes of files by their names
abbrev pub Files : Type 0
Files = ByName (List ℕ)

-- the file's name isn't too long
abbrev pub is_seen : ConfFile → Bool
is_seen f = nat_le (length f.name) MAX_FILE_NAME

-- The files of a list. One whose name is too long isn't seen, and of two of one name the first counts.
abbrev pub by_name : List ConfFile → Files
by_name [] = named.empty
by_name (f ∷ list) = if is_seen f then named.insert (by_name list) f.name f.text else by_name list

abbrev pub has_star : List ℕ → Bool
has_star pattern = list_any (λ b. b == 42) pattern

-- some end of the text passes the test, and no `/` is before it
abbrev pub some_end : (List ℕ → Bool) → List ℕ → Bool
some_end test [] = test []
some_end test (b ∷ bs) = test (b ∷ bs) || (not (b == 47) && some_end test bs)

-- the text begins with the byte, and what follows passes the test
abbrev pub one_byte : ℕ → (List ℕ → Bool) → List ℕ → Bool
one_byte c test [] = false
one_byte c test (b ∷ bs) = c == b && test bs

abbrev pub is_nothing : List ℕ → Bool
is_nothing [] = true
is_nothing (b ∷ bs) = false

-- In a pattern `*` is for any number of bytes other than `/`, and each other byte for itself.
abbrev pub fits : List ℕ → List ℕ → Bool
fits [] name = is_nothing name
fits (c ∷ pattern) name = if c == 42 then some_end (fits pattern) name else one_byte c (fits pattern) name

-- The names of the files that a pattern names, in byte order: without `*` the file of that name, if there is
-- one.
abbrev pub named_by : Files → List ℕ → List (List ℕ)
named_by files pattern =
    if has_star pattern then filter (fits pattern) (named.keys files)
    else if named.contains_key files pattern then pattern ∷ []
    else []

-- the pattern is a name without `*`, and there is no such file
abbrev pub is_missing : Files → List ℕ → Bool
is_missing files pattern = not (has_star pattern) && not (named.contains_key files pattern)

-- what comes after the last `/` of a name: the part so far, and the bytes that are left
abbrev pub last_part : List ℕ → List ℕ → List ℕ
last_part part [] = part
last_part part (b ∷ bs) = if b == 47 then last_part bs bs else last_part part bs

-- The scope of a file that `subconf` splices: its base name, without `.conf` at the end.
abbrev pub without_conf : List ℕ → List ℕ
without_conf part = if ends_with nat_eq part (codes ".conf") then take (length part - 5) part else part

abbrev pub scope_of : List ℕ → List ℕ
scope_of name = without_conf (last_part name name)
