-- One entry more.
use Rattle.std.proofs.Common.{◌≡◌, List, [], ◌∷◌, ◌++◌, sym, ◌∙◌, ap}
use Rattle.ref_store.specs.Refs.{Name}
use Rattle.hub_history.specs.declared.entry.Entry.{Entry}
use Rattle.hub_history.specs.History.{History, IsLegal, history, new_history, replay, step}
use Rattle.hub_history.specs.Laws.{IsDueBehind}
use Rattle.hub_history.specs.State.{State}
use Rattle.hub_history.proofs.HistoryLemmas.{history_from-append, legal_push}

pub committed : (admin : Name) (log : List Entry) (e : Entry) (next : State) → IsLegal admin log → IsDueBehind admin log e.event → step (history admin log) e.event ≡ next
    → IsLegal admin (log ++ e ∷ []) × (next ≡ replay admin (log ++ e ∷ []))
committed admin log e next legal due steps =
    (λ ps ok. legal_push ps (new_history admin) log e (legal ps ok) (due ps ok), sym steps ∙ ap (λ (h : History). h.state) (sym (history_from-append (new_history admin) log (e ∷ []))))
