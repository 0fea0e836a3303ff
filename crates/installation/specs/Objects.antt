-- The objects of the generated installation.
use Rattle.std.specs.Prelude.{ℕ, List, [], ◌∷◌, ◌++◌, codes, decimal}
use Rattle.git_object.specs.Content.{Content}
use Rattle.git_object.specs.Object.{object_name}
use Rattle.git_object.specs.Spelling.{spelled_line, spelled_entry}
use Rattle.git_object.specs.declared.kind.Kind.TheVariants.{Commit, Tree, Blob}

abbrev pub blob : List ℕ → Content
blob text = record { kind = Blob; body = text }

-- a tree of one entry
abbrev pub tree_of : List ℕ → List ℕ → Content → Content
tree_of mode name content = record { kind = Tree; body = spelled_entry (record { mode = mode; name = name; id = object_name content }) }

-- the folder with the conf, and the tree with that folder
abbrev pub conf_folder : List ℕ → Content
conf_folder text = tree_of (codes "100644") (codes "gitolite.conf") (blob text)

abbrev pub conf_root : List ℕ → Content
conf_root text = tree_of (codes "40000") (codes "conf") (conf_folder text)

-- a commit of a tree, with these lines behind the tree's
abbrev pub commit_of : Content → List ℕ → Content
commit_of tree lines = record { kind = Commit; body = spelled_line (codes "tree ") (object_name tree) ++ lines }

abbrev pub conf_commit : List ℕ → Content
conf_commit text = commit_of (conf_root text) []

abbrev pub empty_tree : Content
empty_tree = record { kind = Tree; body = [] }

-- the commit of a visit's session, by its number
abbrev pub numbered_lines : ℕ → List ℕ
numbered_lines number = codes "author load " ++ decimal number ++ 10 ∷ []

abbrev pub numbered_commit : ℕ → Content
numbered_commit number = commit_of empty_tree (numbered_lines number)
