-- Callers of a hub.
use Rattle.std.proofs.Common.{◌≡◌, ℕ, List, [], ◌∷◌, ◌++◌, refl, sym, ◌∙◌, ap, ◌≤◌, length, nat_eq, append-nil, append_assoc, subst, arith, length-append}
use Rattle.std.specs.Prelude.{Option, Some, None}
use Rattle.std.specs.List.{filter}
use Rattle.std.proofs.Math.Seq.{drop-length}
use Rattle.hub_history.specs.declared.entry.Entry.{Entry}
use Rattle.hub_history.specs.declared.entry.Event.{Event}
use Rattle.hub_history.specs.History.{IsLegal, Stands}
use Rattle.hub_history.proofs.HistoryLemmas.{stands_kept}
use Rattle.hub.specs.Hub.{HubView, Logs}
use Rattle.hub.specs.Desk.{DeskView, Calls, KeepsPins, MakesEntry, known, known_alone, mine}

-- a desk that begins has no entries of its own
pub none_at_first : (hub : HubView) → mine (known_alone (length hub.log) hub) ≡ []
none_at_first hub = ap (filter (λ (e : Entry). nat_eq e.caller 0)) (drop-length hub.log)

pub called_alone : (start : ℕ) (old new : HubView) (e : Option Event) → Logs old new 0 e → IsLegal new.admin new.log → Calls (known_alone start old) (known_alone start new) old.log e
called_alone start old new None is legal = ap (known_alone start) is
called_alone start old new (Some e) is legal = record {
  others = [];
  before_is = sym (append-nil old.log);
  of_others = tt;
  own = refl;
  new_is = ap (known_alone start) is;
  no_others = λ known. (refl, refl);
  legal = subst (λ (h : HubView). IsLegal h.admin h.log) is legal;
}

-- what was seen up to an entry that was made is legal
pub legal_after : (old new : DeskView) (before : List Entry) (entry : Entry) → MakesEntry old new before entry → IsLegal new.admin new.seen
legal_after old new before entry makes = subst (λ (d : DeskView). IsLegal d.admin d.seen) (sym makes.new_is) makes.legal

-- after a call every pin that stood stands
pub calls_keep : (old new : DeskView) (before : List Entry) (e : Option Event) → Calls old new before e → KeepsPins old new
calls_keep old new before None calls pin stands = subst (λ (d : DeskView). Stands pin d.admin d.seen) (sym calls) stands
calls_keep old new before (Some e) calls pin stands =
    let own : List Entry = record { caller = old.caller; event = e } ∷ [] in
    let grown : known new ≡ record { admin = old.admin; log = old.seen ++ (calls.others ++ own) } =
    ap known calls.new_is ∙ ap (λ l. record { admin = old.admin; log = l }) (ap (λ l. l ++ own) calls.before_is ∙ append_assoc old.seen calls.others own) in
    subst (λ (h : HubView). Stands pin h.admin h.log) (sym grown) (stands_kept old.admin old.seen (calls.others ++ own) pin.place pin.pinned stands)

-- the admin stays
pub same_admin : (old new : HubView) (e : Option Event) → Logs old new 0 e → new.admin ≡ old.admin
same_admin old new None is = ap (λ (h : HubView). h.admin) is
same_admin old new (Some e) is = ap (λ (h : HubView). h.admin) is

-- a call takes nothing from the log
pub starts_within : (start : ℕ) (old new : HubView) (e : Option Event) → start ≤ length old.log → Logs old new 0 e → start ≤ length new.log
starts_within start old new None within is = subst (λ (h : HubView). start ≤ length h.log) (sym is) within
starts_within start old new (Some e) within is =
    omega (arith, within, ap (λ (h : HubView). length h.log) is, length-append old.log (record { caller = 0; event = e } ∷ []))
