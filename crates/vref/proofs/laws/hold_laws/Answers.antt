use Rattle.vref.specs.Paths.{IsChanged}
use Rattle.vref.proofs.LawLemmas.{directories_differ, files_listed, too_many_turned, row_of_root, row_below, lists_once}
use Rattle.vref.proofs.laws.hold_laws.Goals as goal

pub returns-clause-too_many : goal.returns-clause-too_many
returns-clause-too_many c objects old new many = too_many_turned objects old new many

pub returns-clause-files : goal.returns-clause-files
returns-clause-files c objects old new paths lists path file is no_directory differs = files_listed objects old new paths lists path file is no_directory differs

pub returns-clause-directories : goal.returns-clause-directories
returns-clause-directories c objects old new path directory below differs = directories_differ objects old new path directory below differs

pub returns-clause-row_of_root : goal.returns-clause-row_of_root
returns-clause-row_of_root c objects tree name is = row_of_root objects tree name is

pub returns-clause-row_below : goal.returns-clause-row_below
returns-clause-row_below c objects tree path name is = row_below objects tree path name is

pub returns-clause-once : goal.returns-clause-once
returns-clause-once c objects old new one other a b = lists_once (IsChanged objects old new) one other a b
