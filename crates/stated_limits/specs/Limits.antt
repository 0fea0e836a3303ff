-- The numbers of the limits that definitions cite by the names of constants.
use Rattle.std.specs.Prelude.{◌≡◌}
use Rattle.conf_lex.specs.declared.user_name.TheConstants.{MAX_USER_NAME}
use Rattle.conf_lex.specs.declared.repo_name.TheConstants.{MAX_REPO_NAME}
use Rattle.conf_lex.specs.declared.words.TheConstants.{MAX_WORD}
use Rattle.conf_groups.specs.declared.conf_file.TheConstants.{MAX_FILE_NAME}
use Rattle.conf_groups.specs.declared.limits.TheConstants.{MAX_FILES, MAX_FILE_BYTES, MAX_LINES, MAX_SPLICED_BYTES}
use Rattle.rule_compile.specs.declared.limits.TheConstants.{MAX_PATTERNS, MAX_ROLE_NAME, MAX_RULES}
use Rattle.policy_swap.specs.declared.rows.TheConstants.{MAX_ROWS}
use Rattle.refex.specs.declared.limits.TheConstants.{MAX_COUNT, MAX_NAME, MAX_POSITIONS, MAX_REPEAT, NAME_POSITIONS}
use Rattle.vref.specs.declared.walk.TheConstants.{MAX_PATH, MAX_ROWS as MAX_PATHS}

-- names and words of a conf, in bytes; a role's name is one that a conf declares
pub record OfWords : Type 0 where
  pub user_name : MAX_USER_NAME ≡ 64
  pub repository_name : MAX_REPO_NAME ≡ 200
  pub role_name : MAX_ROLE_NAME ≡ 64
  pub word : MAX_WORD ≡ 1024

-- the files of a conf and what is spliced of them, in bytes but for files and lines
pub record OfFiles : Type 0 where
  pub file_name : MAX_FILE_NAME ≡ 255
  pub files : MAX_FILES ≡ 1000
  pub all_files : MAX_FILE_BYTES ≡ 67108864
  pub spliced : MAX_SPLICED_BYTES ≡ 4194304
  pub lines : MAX_LINES ≡ 65536
  pub rows_below_conf : MAX_ROWS ≡ 10000

-- the rules of a conf and the texts of their patterns; the positions of a pattern, the bytes of the name in
-- its hole, for which as many positions are kept, the number in a count, and where counting positions ends
pub record OfRules : Type 0 where
  pub rules : MAX_RULES ≡ 100000
  pub patterns : MAX_PATTERNS ≡ 4096
  pub positions : MAX_POSITIONS ≡ 127
  pub hole : MAX_NAME ≡ 64
  pub hole_positions : NAME_POSITIONS ≡ 64
  pub repeat : MAX_REPEAT ≡ 127
  pub count : MAX_COUNT ≡ 65535

-- the paths that a change is said to change, and the bytes of each
pub record OfPaths : Type 0 where
  pub paths : MAX_PATHS ≡ 200000
  pub path : MAX_PATH ≡ 4096
