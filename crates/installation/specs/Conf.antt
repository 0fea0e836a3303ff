-- The conf of the generated installation.
use Rattle.std.specs.Prelude.{ℕ, ◌*◌, ◌%◌, List, ◌++◌, codes, decimal}
use Rattle.std.specs.List.{flat_map, range_with_len}
use Rattle.installation.specs.Draws.{drawn, drawn_behind}

-- a user, one of ten, and a repository, by their numbers
abbrev pub user_name : ℕ → List ℕ
user_name user = codes "u" ++ decimal user

abbrev pub repo_name : ℕ → List ℕ
repo_name repo = codes "r" ++ decimal repo

-- a repository that its owner may rewind, of which a writer may push `master`, and that everybody may read
unfoldable pub block : ℕ → ℕ → ℕ → List ℕ
block repo owner writer =
    codes "repo r" ++ decimal repo
    ++ codes "\n    RW+ = u" ++ decimal owner
    ++ codes "\n    RW master$ = u" ++ decimal writer
    ++ codes "\n    R = @all\n"

-- the owner and the writer are drawn behind this number
abbrev pub block_behind : ℕ → ℕ → List ℕ
block_behind x repo = block repo (drawn_behind x % 10) (drawn_behind (drawn_behind x) % 10)

-- two draws for each repository
abbrev pub drawn_block : ℕ → ℕ → List ℕ
drawn_block start repo = block_behind (drawn start (2 * repo)) repo

-- the admin's repository, and so many others
unfoldable pub conf_text : ℕ → ℕ → List ℕ
conf_text count start = codes "repo gitolite-admin\n    RW+ = admin\n" ++ flat_map (drawn_block start) (range_with_len 0 count)
