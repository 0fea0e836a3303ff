-- Two repositories with one creator and the same roles.
use Rattle.std.proofs.Common.{◌≡◌, ℕ, List, Option, ap, ◌∙◌}
use Rattle.wild_perms.specs.Roles.{WildView}
use Rattle.wild_perms.specs.declared.role.RoleEntry.{RoleEntry}
use Rattle.std.specs.Prelude.{Some}
use Rattle.push_judging.specs.Again.{IsJudgedBy}
use Rattle.push_judging.specs.Judged.{Judgement, JudgedAgain}

with_creator : WildView → Option (List ℕ) → WildView
with_creator wild creator = record wild { creator = creator }

with_roles : WildView → List RoleEntry → WildView
with_roles wild roles = record wild { roles = roles }

pub alike : (one other : WildView) → one.creator ≡ other.creator → one.roles ≡ other.roles → one ≡ other
unfolding with_creator with_roles
alike one other creators roles = ap (with_creator one) creators ∙ ap (with_roles other) roles

pub judged_by : (judged : Judgement) (again : JudgedAgain) (wild : WildView) → judged.again ≡ Some again → again.wild ≡ wild → IsJudgedBy judged wild
judged_by judged again wild kept same = record { again = again; kept = kept; wild_is = same }
