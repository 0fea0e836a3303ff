-- A push that was judged again outside of its turn.
use Rattle.std.specs.Prelude.{◌≡◌, Option, Some}
use Rattle.std.specs.Option.{option_map}
use Rattle.wild_perms.specs.Roles.{WildView}
use Rattle.push_judging.specs.declared.judging.Again.{Again}
use Rattle.push_judging.specs.declared.judging.CommandOutcomes.{CommandOutcomes}
use Rattle.push_judging.specs.Judged.{Judgement, JudgedAgain}

abbrev pub view_of : Option Again → Option JudgedAgain
view_of again = option_map (λ (a : Again). record { wild = a.wild; outcomes = a.told.outcomes.items; confs = a.told.confs.items }) again

-- it was judged again by this creator and these roles
pub record IsJudgedBy (judged : Judgement) (wild : WildView) : Type 0 where
  pub again : JudgedAgain
  pub kept : judged.again ≡ Some again
  pub wild_is : again.wild ≡ wild

-- and its commands are told this
pub record TellsAgain (judged : Judgement) (wild : WildView) (told : CommandOutcomes) : Type 0 where
  pub again : JudgedAgain
  pub kept : judged.again ≡ Some again
  pub wild_is : again.wild ≡ wild
  pub outcomes_are : told.outcomes.items ≡ again.outcomes
  pub confs_are : told.confs.items ≡ again.confs
