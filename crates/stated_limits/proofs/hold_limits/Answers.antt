use Rattle.std.proofs.Common.{refl}
use Rattle.stated_limits.proofs.hold_limits.Goals as goal

pub returns-clause-words : goal.returns-clause-words
returns-clause-words c = record { user_name = refl; repository_name = refl; role_name = refl; word = refl }

pub returns-clause-files : goal.returns-clause-files
returns-clause-files c = record { file_name = refl; files = refl; all_files = refl; spliced = refl; lines = refl; rows_below_conf = refl }

pub returns-clause-rules : goal.returns-clause-rules
returns-clause-rules c = record { rules = refl; patterns = refl; positions = refl; hole = refl; hole_positions = refl; repeat = refl; count = refl }

pub returns-clause-paths : goal.returns-clause-paths
returns-clause-paths c = record { paths = refl; path = refl }
