use Rattle.std.proofs.Common.{ap, sym, ◌++◌}
use Rattle.std.proofs.lemmas.List.{take-append-le}
use Rattle.setup_conf.specs.Setup.{setup_flat}
use Rattle.hub_history.specs.History.{replay}
use Rattle.hub_history.proofs.HistoryLemmas.{beginning_legal, due_behind, legal_by_places, opening_at-place, stands_kept}
use Rattle.hub_history.proofs.OpeningLemmas.{pinned_at}
use Rattle.hub_history.proofs.AnswerLemmas.{one_answer}
use Rattle.hub_history.proofs.ConfLemmas.{conf_changes, stays_good}
use Rattle.hub_history.proofs.GrowthLemmas.{log_grows, objects_follow, stays_there}
use Rattle.hub_history.proofs.WholeLogs.{refs_whole}
use Rattle.hub_history.proofs.InTheWay.{directory_is, done_clear}
use Rattle.hub_history.proofs.NoZero.{refs_nonzero}
use Rattle.hub_history.proofs.MovedLogs.{changes_are_done, done_let, done_let_now, done_moves, refused_atomic, stale_is}
use Rattle.hub_history.proofs.RoleLemmas.{answers_tell, change_of_one, created_is_new, creators_opened, new_is_empty, roles_change_there, roles_sets, undeclared_stay}
use Rattle.hub_history.proofs.ObjectLemmas.{names_once}
use Rattle.hub_history.proofs.FormedObjects.{objects_formed}
use Rattle.hub_history.proofs.RefsApart.{refs_apart}
use Rattle.hub_history.proofs.ShortNames.{names_short}
use Rattle.hub_history.proofs.laws.hold_laws.Goals as goal

pub returns-clause-places : goal.returns-clause-places
returns-clause-places c = λ admin log. (λ legal place entry is. due_behind admin log place entry legal is, λ each. legal_by_places admin log each)

pub returns-clause-beginning : goal.returns-clause-beginning
returns-clause-beginning c = λ admin log more legal. beginning_legal admin log more legal

pub returns-clause-stays : goal.returns-clause-stays
returns-clause-stays c = λ admin log more place within. ap (replay admin) (take-append-le place log more within)

pub returns-clause-stands : goal.returns-clause-stands
returns-clause-stands c = λ admin log more opening stands. stands_kept admin log more opening.place opening.pinned stands

pub returns-clause-pins : goal.returns-clause-pins
returns-clause-pins c = λ admin before entry more. opening_at-place admin before entry more

pub returns-clause-openings : goal.returns-clause-openings
returns-clause-openings c = λ admin log opening stands. pinned_at admin log opening.place opening.pinned stands

pub returns-clause-short : goal.returns-clause-short
returns-clause-short c = names_short c.some_patterns_are_true.ensures.0 c.some_patterns_are_true.ensures.1

pub returns-clause-names : goal.returns-clause-names
returns-clause-names c = names_once c.some_patterns_are_true.ensures.0 c.some_patterns_are_true.ensures.1

pub returns-clause-formed : goal.returns-clause-formed
returns-clause-formed c = objects_formed c.some_patterns_are_true.ensures.0 c.some_patterns_are_true.ensures.1

pub returns-clause-apart : goal.returns-clause-apart
returns-clause-apart c = refs_apart c.some_patterns_are_true.ensures.0 c.some_patterns_are_true.ensures.1

pub returns-clause-whole : goal.returns-clause-whole
returns-clause-whole c = refs_whole c.some_patterns_are_true.ensures.0 c.some_patterns_are_true.ensures.1

pub returns-clause-nonzero : goal.returns-clause-nonzero
returns-clause-nonzero c = refs_nonzero c.some_patterns_are_true.ensures.0 c.some_patterns_are_true.ensures.1

pub returns-clause-grow : goal.returns-clause-grow
returns-clause-grow c = λ admin log more legal repo.
    objects_follow (replay admin log) (replay admin (log ++ more)) (log_grows c.some_patterns_are_true.ensures.0 c.some_patterns_are_true.ensures.1 admin log more legal) repo

pub returns-clause-there : goal.returns-clause-there
returns-clause-there c = λ admin log more legal repo was there.
    stays_there (replay admin log) (replay admin (log ++ more)) (log_grows c.some_patterns_are_true.ensures.0 c.some_patterns_are_true.ensures.1 admin log more legal) repo was there

pub returns-clause-allowed : goal.returns-clause-allowed
returns-clause-allowed c = λ admin before entry pinned command legal tells patterns true_ps. done_let c.hold_laws.ensures.exactly patterns true_ps admin before entry legal pinned command tells

pub returns-clause-allowed_now : goal.returns-clause-allowed_now
returns-clause-allowed_now c = λ admin before entry pinned command legal tells patterns true_ps. done_let_now c.hold_laws.ensures.exactly patterns true_ps admin before entry legal pinned command tells

pub returns-clause-moves : goal.returns-clause-moves
returns-clause-moves c = λ admin before entry pinned command legal tells.
    done_moves c.some_patterns_are_true.ensures.0 c.some_patterns_are_true.ensures.1 admin before entry legal pinned command tells

pub returns-clause-changes : goal.returns-clause-changes
returns-clause-changes c = λ admin before entry repo name legal differs.
    changes_are_done c.some_patterns_are_true.ensures.0 c.some_patterns_are_true.ensures.1 admin before entry legal repo name differs

pub returns-clause-stale : goal.returns-clause-stale
returns-clause-stale c = λ admin before entry pinned command is legal tells.
    stale_is c.some_patterns_are_true.ensures.0 c.some_patterns_are_true.ensures.1 admin before entry legal pinned command is tells

pub returns-clause-directory : goal.returns-clause-directory
returns-clause-directory c = λ admin before entry pinned command r legal tells. directory_is c.some_patterns_are_true.ensures.0 c.some_patterns_are_true.ensures.1 admin before entry legal pinned command r tells

pub returns-clause-room : goal.returns-clause-room
returns-clause-room c = λ admin before entry pinned command legal tells. done_clear c.some_patterns_are_true.ensures.0 c.some_patterns_are_true.ensures.1 admin before entry legal pinned command tells

pub returns-clause-atomic : goal.returns-clause-atomic
returns-clause-atomic c = λ admin before caller place pack commands outcomes made index outcome legal at refused.
    refused_atomic c.some_patterns_are_true.ensures.0 c.some_patterns_are_true.ensures.1 admin before caller place pack commands outcomes made index outcome legal at refused

pub returns-clause-good : goal.returns-clause-good
returns-clause-good c = λ admin log named legal patterns true_ps. stays_good patterns true_ps admin log legal (setup_flat admin, sym (c.hold_laws-3.ensures.rules patterns true_ps admin named))

pub returns-clause-conf : goal.returns-clause-conf
returns-clause-conf c = λ admin before entry differs. conf_changes admin before entry differs

pub returns-clause-creators : goal.returns-clause-creators
returns-clause-creators c = λ admin before entry repo legal differs. creators_opened c.some_patterns_are_true.ensures.0 c.some_patterns_are_true.ensures.1 admin before entry legal repo differs

pub returns-clause-created : goal.returns-clause-created
returns-clause-created c = λ admin before entry user repo want legal is. created_is_new c.some_patterns_are_true.ensures.0 c.some_patterns_are_true.ensures.1 admin before entry legal user repo want is

pub returns-clause-empty : goal.returns-clause-empty
returns-clause-empty c = λ admin before entry repo is legal lacks there. new_is_empty c.some_patterns_are_true.ensures.0 c.some_patterns_are_true.ensures.1 admin before entry legal repo is lacks there

pub returns-clause-sets : goal.returns-clause-sets
returns-clause-sets c = roles_sets c.some_patterns_are_true.ensures.0 c.some_patterns_are_true.ensures.1

pub returns-clause-roles : goal.returns-clause-roles
returns-clause-roles c = λ admin before entry asker repo asked answer legal is. answers_tell c.some_patterns_are_true.ensures.0 c.some_patterns_are_true.ensures.1 admin before entry legal asker repo asked answer is

pub returns-clause-role : goal.returns-clause-role
returns-clause-role c = λ admin before entry asker repo asked legal is held. change_of_one c.some_patterns_are_true.ensures.0 c.some_patterns_are_true.ensures.1 admin before entry legal asker repo asked is held

pub returns-clause-elsewhere : goal.returns-clause-elsewhere
returns-clause-elsewhere c = λ admin before entry repo legal differs. roles_change_there c.some_patterns_are_true.ensures.0 c.some_patterns_are_true.ensures.1 admin before entry legal repo differs

pub returns-clause-undeclared : goal.returns-clause-undeclared
returns-clause-undeclared c = λ admin before entry repo held legal has undeclared.
    undeclared_stay c.some_patterns_are_true.ensures.0 c.some_patterns_are_true.ensures.1 admin before entry legal repo held has undeclared

pub returns-clause-one : goal.returns-clause-one
returns-clause-one c = one_answer c.hold_laws-2.ensures.one c.hold_laws.ensures.one
