-- A look's entry, and the rest.
use Rattle.std.proofs.Common.{◌≡◌, List, [], ◌∷◌, ◌++◌, length, Result, ◌∙◌, ap}
use Rattle.pktline_core.specs.LinkState.{LinkState}
use Rattle.ref_store.specs.Refs.{Name}
use Rattle.rule_compile.specs.Flat.{Flat}
use Rattle.repo_listing.specs.declared.lines.LookLine.{LookLine}
use Rattle.hub_history.specs.declared.entry.Event.TheVariants as event
use Rattle.hub_history.specs.History.{replay}
use Rattle.hub_history.specs.Laws.{OneAnswer}
use Rattle.hub.specs.Answer.{lines_for}
use Rattle.hub.specs.Desk.{DeskView, Looks}
use Rattle.hub.specs.declared.answer.Looked.TheVariants.{Lines}
use Rattle.interaction_tree.specs.Interaction.{Interaction, write, ask}
use Rattle.hub_history.specs.Requests.{Look}
use Rattle.interaction_tree.specs.Requests.{OwnEntry}
use Rattle.interaction_tree.specs.Traces.{Halt}
use Rattle.interaction_tree.specs.Runs.{Runs}
use Rattle.interaction_tree.proofs.StepLemmas.{runs_looked}
use Rattle.session_core.specs.declared.end.SessionEnd.{SessionEnd}
use Rattle.session_core.specs.Rulebook.{IsRulebook, Rulebook, RunsByRulebook}
use Rattle.session_core.proofs.RulebookLemmas.{bind_by, rules_here, runs_always, runs_told}
use Rattle.session_core.proofs.OpeningLemmas.{rulebook_at}
use Rattle.git_session.specs.Info.{info_reply, lines_before, looking}

-- the lines of a look are those by the rules in force just before its entry
told_lines : OneAnswer → (d e : DeskView) (user : Name) (lines : List LookLine) (looks : Looks d e user (Lines lines)) (book : Rulebook) → IsRulebook e.admin e.seen book
    → lines ≡ lines_for book.patterns (book.rules (length looks.0)) (replay d.admin looks.0) user
told_lines one d e user lines looks book of =
    let here : IsRulebook d.admin (looks.0 ++ (record { caller = d.caller; event = event.Looked user }) ∷ []) book = rulebook_at d e looks.0 _ book looks.1 of in
    let said = looks.2 book.patterns here.matching in
    said.2 ∙ ap (λ (rs : Flat). lines_for book.patterns rs (replay d.admin looks.0) user) (rules_here one d.admin looks.0 _ book said.0 here said.1)

pub looked_then : OneAnswer → (a c : LinkState) (d e : DeskView) (user : Name) (lines : List LookLine) (out : Result (Unit {0}) (Halt SessionEnd)) → Looks d e user (Lines lines) → Runs a c e e (write (info_reply user lines)) out
    → RunsByRulebook a c d e (λ book. looking book d.admin user) out
unfolding looking
looked_then one a c d e user lines out looks said =
    let own : OwnEntry = record { before = looks.0; entry = record { caller = d.caller; event = event.Looked user } } in
    let told : List LookLine → Interaction SessionEnd (Unit {0}) = λ ls. write (info_reply user ls) in
    bind_by a a d e (λ book. ask (Look user)) (λ book o. write (info_reply user (lines_before book d.admin o user))) c e own out
    (runs_always a a d e (ask (Look user)) _ (runs_looked a d e user lines looks))
    (runs_told a c e e (told lines) (λ book. told (lines_before book d.admin own user)) out said (λ book of. ap told (told_lines one d e user lines looks book of)))
