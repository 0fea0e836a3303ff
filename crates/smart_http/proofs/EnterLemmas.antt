-- An opening, and the response.
use Rattle.std.proofs.Common.{◌≡◌, length, codes, Some, Ok, Err, refl, ap, subst}
use Rattle.pktline_core.specs.LinkState.{LinkState}
use Rattle.rule_compile.specs.Flat.{Flat}
use Rattle.rule_compile.specs.Patterns.{AreTrue, Patterns}
use Rattle.access_check.specs.Verdicts.{rule_of}
use Rattle.access_check.specs.declared.verdicts.Verdict.{Verdict}
use Rattle.access_check.specs.declared.verdicts.Want.{Want}
use Rattle.hub_history.specs.Conf.{AreInForce}
use Rattle.hub_history.specs.Laws.{OneAnswer}
use Rattle.hub_history.specs.Opening.{Opening}
use Rattle.hub_history.specs.Requests.{Enter}
use Rattle.hub_history.specs.State.{Conf}
use Rattle.hub_history.specs.declared.entry.EnterKept.{EnterKept}
use Rattle.hub_history.specs.declared.entry.EnterKept.TheVariants.{Granted, Created, Denied, NoRepo}
use Rattle.hub.specs.Answer.{kept}
use Rattle.hub.specs.Desk.{DeskView, Enters}
use Rattle.hub.specs.declared.answer.Entered as hub_entered
use Rattle.request_head.specs.Responses.{refusal}
use Rattle.request_head.specs.declared.request.HttpRequest.{HttpRequest}
use Rattle.interaction_tree.specs.Interaction.{Interaction, ask, ◌>>=◌}
use Rattle.interaction_tree.specs.Traces.{Halt}
use Rattle.interaction_tree.specs.Runs.{Runs}
use Rattle.interaction_tree.proofs.StepLemmas.{runs_entered}
use Rattle.session_core.specs.Opening.{opened_by, opening, opening_behind, recorded_answer}
use Rattle.session_core.proofs.OpeningLemmas.{own_at, pin_granted, pin_created, rules_before}
use Rattle.session_core.proofs.RulebookLemmas.{runs_always, runs_told}
use Rattle.smart_http.specs.declared.end.HttpEnd.{HttpEnd}
use Rattle.smart_http.specs.declared.end.HttpEnd.TheVariants as end
use Rattle.smart_http.specs.Requests.{answering, by_opened, denied_text, entering, responding, want_of}
use Rattle.smart_http.specs.Running.{RunsPart}
use Rattle.smart_http.proofs.PartLemmas.{part_alone, part_bind, part_of}

module _ (request : HttpRequest) where
  wanted : Want
  wanted = want_of request.service

  entered_part : (a c : LinkState) (d e f : DeskView) (result : hub_entered.Entered) (answer : EnterKept) (halt : Halt HttpEnd) → kept result ≡ Some answer → (enters : Enters d e request.user request.repo (want_of request.service) result)
      → RunsPart a c e f
      (λ book. by_opened book request (opened_by (book.rules (length enters.0)).rules answer
      (opening_behind d.admin (own_at d enters.0 request.user request.repo (want_of request.service) answer) request.user request.repo (want_of request.service)))) halt
      → RunsPart a c d f (λ book. entering book d.admin request) halt
  unfolding entering opening ask ◌>>=◌
  entered_part a c d e f result answer halt is enters rest =
      part_bind a a c d e f (λ book. ask (Enter request.user request.repo (want_of request.service)))
      (λ book own. by_opened book request (opened_by (book.rules (length own.before)).rules (recorded_answer own.entry.event) (opening_behind d.admin own request.user request.repo (want_of request.service))))
      (own_at d enters.0 request.user request.repo (want_of request.service) answer) halt
      (runs_always a a d e (ask (Enter request.user request.repo (want_of request.service))) (Ok (own_at d enters.0 request.user request.repo (want_of request.service) answer))
      (runs_entered a d e request.user request.repo (want_of request.service) result answer is enters)) rest

  pub granted_part : (a c : LinkState) (d e f : DeskView) (pin : Opening) (halt : Halt HttpEnd) → Enters d e request.user request.repo (want_of request.service) (hub_entered.TheVariants.Granted pin)
      → RunsPart a c e f (λ book. responding book request.service pin request.body) halt → RunsPart a c d f (λ book. entering book d.admin request) halt
  granted_part a c d e f pin halt enters rest =
      entered_part a c d e f (hub_entered.TheVariants.Granted pin) Granted halt refl enters
      (subst (λ (o : Opening). RunsPart a c e f (λ book. responding book request.service o request.body) halt) (pin_granted d e request.user request.repo (want_of request.service) pin enters) rest)

  pub created_part : (a c : LinkState) (d e f : DeskView) (pin : Opening) (halt : Halt HttpEnd) → Enters d e request.user request.repo (want_of request.service) (hub_entered.TheVariants.Created pin)
      → RunsPart a c e f (λ book. responding book request.service pin request.body) halt → RunsPart a c d f (λ book. entering book d.admin request) halt
  created_part a c d e f pin halt enters rest =
      entered_part a c d e f (hub_entered.TheVariants.Created pin) Created halt refl enters
      (subst (λ (o : Opening). RunsPart a c e f (λ book. responding book request.service o request.body) halt) (pin_created d e request.user request.repo (want_of request.service) pin enters) rest)

  -- a denial is told by the rules in force, which are the conf's
  pub denied_part : OneAnswer → (a c : LinkState) (d e : DeskView) (verdict : Verdict) (conf : Conf) (rules : Flat) (halt : Halt HttpEnd) → Enters d e request.user request.repo (want_of request.service) (hub_entered.TheVariants.Denied verdict conf)
      → ((patterns : Patterns) → AreTrue patterns → AreInForce patterns conf rules)
      → Runs a c e e (answering (refusal 403 (denied_text request (rule_of rules.rules verdict))) end.Denied) (Err halt) → RunsPart a c d e (λ book. entering book d.admin request) halt
  denied_part one a c d e verdict conf rules halt enters force said =
      let told : Flat → Interaction HttpEnd (Unit {0}) = λ rs. answering (refusal 403 (denied_text request (rule_of rs.rules verdict))) end.Denied in
      entered_part a c d e e (hub_entered.TheVariants.Denied verdict conf) (Denied verdict) halt refl enters
      (part_of a c e e (λ book. told (book.rules (length enters.0))) halt
      (runs_told a c e e (told rules) (λ book. told (book.rules (length enters.0))) (Err halt) said
      (λ book of. ap told (rules_before one d e enters.0 (own_at d enters.0 request.user request.repo (want_of request.service) (Denied verdict)).entry book conf rules enters.1 of enters.2 force))))

  pub no_repo_part : (a c : LinkState) (d e : DeskView) (halt : Halt HttpEnd) → Enters d e request.user request.repo (want_of request.service) hub_entered.TheVariants.NoRepo
      → Runs a c e e (answering (refusal 404 (codes "no such repository\n")) end.NoRepo) (Err halt) → RunsPart a c d e (λ book. entering book d.admin request) halt
  no_repo_part a c d e halt enters said =
      entered_part a c d e e hub_entered.TheVariants.NoRepo NoRepo halt refl enters (part_alone a c e (answering (refusal 404 (codes "no such repository\n")) end.NoRepo) halt said)
