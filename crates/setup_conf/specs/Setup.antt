-- The conf of a new hub, and the two rules that it comes to.
use Rattle.std.specs.Prelude.{ℕ, true, false, List, [], ◌∷◌, ◌++◌, codes}
use Rattle.conf_lex.specs.Permissions.{writes}
use Rattle.conf_groups.specs.Splicing.{main_name}
use Rattle.conf_groups.specs.declared.conf_file.ConfFile.{ConfFile}
use Rattle.conf_groups.specs.declared.placed.Scope.TheVariants.{Main}
use Rattle.rule_compile.specs.Flat.{Flat}
use Rattle.rule_compile.specs.declared.rule.RepoWord.TheVariants.{Plain}
use Rattle.rule_compile.specs.declared.rule.Rule.{Rule}
use Rattle.rule_compile.specs.declared.rule.UserWord.{UserWord}
use Rattle.rule_compile.specs.declared.rule.UserWord.TheVariants as user

-- the bytes of a user's name
abbrev pub Name : Type 0
Name = List ℕ

-- the main file of a new hub: the admin may do everything in `gitolite-admin`, everybody everything in
-- `testing`
abbrev pub setup_files : Name → List ConfFile
setup_files admin = record {
  name = main_name;
  text = codes "repo gitolite-admin\n    RW+     =   " ++ (admin ++ codes "\n\nrepo testing\n    RW+     =   @all\n");
} ∷ []

-- `RW+` for all refs of a repository, by its number, the repository's name, who it is for, and its line in
-- the main file
abbrev pub setup_rule : ℕ → List ℕ → UserWord → ℕ → Rule
setup_rule seq repo user line = record {
  seq = seq;
  scope = Main;
  repo = Plain repo;
  perm = writes true false false false;
  refex = codes "refs/.*";
  user = user;
  file = main_name;
  line = line;
}

-- The two rules, and nothing else.
abbrev pub setup_flat : Name → Flat
setup_flat admin = record {
  rules = setup_rule 1 (codes "gitolite-admin") (user.Name admin) 2 ∷ setup_rule 2 (codes "testing") user.All 5 ∷ [];
  warnings = [];
  options = [];
  plain = codes "gitolite-admin" ∷ codes "testing" ∷ [];
}
