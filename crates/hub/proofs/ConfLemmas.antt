-- The conf in force, and whose setup it began with.
use Rattle.std.proofs.Common.{◌≡◌, ◌+◌, take, List, [], ◌∷◌, refl, ◌∙◌, ap}
use Rattle.std.specs.Prelude.{Option, None, Some, is_some, false}
use Rattle.std.specs.Option.{IfSome, unwrap_or}
use Rattle.git_object.specs.Content.{Content}
use Rattle.ref_store.specs.Refs.{Name}
use Rattle.ref_store.specs.declared.command.Command.{Command}
use Rattle.hub_history.specs.declared.outcome.Outcome.{Outcome}
use Rattle.hub_history.specs.declared.entry.Entry.{Entry}
use Rattle.hub_history.specs.declared.entry.EnterKept.{EnterKept}
use Rattle.hub_history.specs.declared.entry.EnterKept.TheVariants.{Granted, Created, Denied, NoRepo}
use Rattle.hub_history.specs.declared.entry.Event.{Event}
use Rattle.hub_history.specs.declared.entry.Event.TheVariants.{Entered, Pushed, Permitted, Looked}
use Rattle.hub_history.specs.declared.entry.PermChange.{PermChange}
use Rattle.hub_history.specs.declared.entry.PermsKept.{PermsKept}
use Rattle.hub_history.specs.declared.entry.PermsKept.TheVariants.{Changed, AlreadySo, NotWild, NotCreator, NoSuchRole, Listed}
use Rattle.hub_history.specs.History.{History, Stands, after, after_push, history_from, new_history, opening_at, push_change, replay, step}
use Rattle.hub_history.specs.Opening.{Opening, Pinned, made_by}
use Rattle.hub_history.specs.Push.{conf_put}
use Rattle.hub_history.specs.Roles.{given_by}
use Rattle.hub_history.specs.State.{CommitAmong, Conf, State, changed, conf_after}
use Rattle.hub_history.proofs.OpeningLemmas.{pinned_at}
use Rattle.hub.specs.Puts.{conf_by}

-- ---- the admin stays

opening_admin : (state : State) (user repo : Name) (answer : EnterKept) → (changed state (made_by user repo answer)).conf.admin ≡ state.conf.admin
opening_admin state user repo Granted = refl
opening_admin state user repo Created = refl
opening_admin state user repo (Denied verdict) = refl
opening_admin state user repo NoRepo = refl

given_admin : (state : State) (repo : Name) (asked : PermChange) (answer : PermsKept) → (changed state (given_by state repo asked answer)).conf.admin ≡ state.conf.admin
given_admin state repo asked Changed = refl
given_admin state repo asked AlreadySo = refl
given_admin state repo asked NotWild = refl
given_admin state repo asked NotCreator = refl
given_admin state repo asked NoSuchRole = refl
given_admin state repo asked Listed = refl

after_admin : (conf : Conf) (put : Option CommitAmong) → (conf_after conf put).admin ≡ conf.admin
after_admin conf None = refl
after_admin conf (Some p) = refl

push_admin : (state : State) (o : Option Pinned) (pack : List Content) (cs : List Command) (os : List Outcome) (made : List Name) → (after_push state o pack cs os made).conf.admin ≡ state.conf.admin
unfolding push_change
push_admin state None pack cs os made = refl
push_admin state (Some pinned) pack cs os made = after_admin state.conf (conf_put pinned pack cs os)

step_admin : (h : History) (event : Event) → (step h event).conf.admin ≡ h.state.conf.admin
step_admin h (Entered user repo want answer) = opening_admin h.state user repo answer
step_admin h (Pushed place pack cs atomic os made) = push_admin h.state (opening_at h place) pack cs os made
step_admin h (Permitted user repo asked answer) = given_admin h.state repo asked answer
step_admin h (Looked user) = refl

admin_kept : (h : History) (log : List Entry) → (history_from h log).state.conf.admin ≡ h.state.conf.admin
admin_kept h [] = refl
admin_kept h (e ∷ log) = admin_kept (after h e.event) log ∙ step_admin h e.event

pub admin_stays : (admin : Name) (log : List Entry) → (replay admin log).conf.admin ≡ admin
admin_stays admin log = admin_kept (new_history admin) log

-- what an opening pinned is of the same admin
pub pinned_admin : (admin : Name) (log : List Entry) (opening : Opening) → Stands opening admin log → opening.pinned.conf.admin ≡ admin
pinned_admin admin log opening stands =
    let at = pinned_at admin log opening.place opening.pinned stands in
    ap (λ (p : Pinned). p.conf.admin) at.pinned_is ∙ admin_stays admin (take (opening.place + 1) log)

-- ---- the conf behind a push

pub conf_followed : (conf : Conf) (admin : Name) → conf.admin ≡ admin → (put : Option CommitAmong) → conf_after conf put ≡ unwrap_or (conf_by admin put) conf
conf_followed conf admin is None = refl
conf_followed conf admin is (Some p) = ap (λ (a : Name). record { admin = a; pushed = Some p }) is

-- one that a push puts in force is of the same admin
pub put_admin : (admin : Name) (put : Option CommitAmong) → IfSome (conf_by admin put) (λ (conf : Conf). conf.admin ≡ admin)
put_admin admin None = tt
put_admin admin (Some p) = refl

pub renewed_admin : (old : Conf) (next : Option Conf) → IfSome next (λ (conf : Conf). conf.admin ≡ old.admin) → (unwrap_or next old).admin ≡ old.admin
renewed_admin old None is = refl
renewed_admin old (Some conf) is = is

-- where there is no next conf it stays
pub none_put : (old : Conf) (next : Option Conf) → is_some next ≡ false → unwrap_or next old ≡ old
none_put old None none = refl
none_put old (Some conf) none = cc
