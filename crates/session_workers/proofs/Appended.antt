-- Entries of others change nothing of what a caller has served, and a further session adds a link.
use Rattle.std.proofs.Common.{◌≡◌, ◌≤◌, ℕ, Bool, true, false, cond, nat_eq, List, [], ◌∷◌, ◌++◌, length, drop, reverse, refl, sym, ◌∙◌, ap, subst, arith, append-nil, length-append}
use Rattle.std.specs.List.{AllByRecursion, filter}
use Rattle.std.proofs.Math.Seq.{take-append_seam}
use Rattle.std.proofs.lemmas.Bool.Decides.{nat_tests}
use Rattle.std.proofs.lemmas.List.{take-append-le, drop-append-le, reverse-append}
use Rattle.std.proofs.lemmas.List.Elements.{filter-append}
use Rattle.hub_history.specs.declared.entry.Entry.{Entry}
use Rattle.ref_store.specs.Refs.{Name}
use Rattle.hub.specs.Desk.{IsOfAnother, entries_of}
use Rattle.interaction_tree.specs.Requests.{OwnEntry}
use Rattle.interaction_tree.proofs.DeskLemmas.{others_not_own}
use Rattle.session_core.specs.Protocol.{Meaning}
use Rattle.session_core.proofs.RulebookLemmas.{rulebook_front}
use Rattle.session_workers.specs.Served.{IsSession, Served, ServedLatest, ServedLink}

-- no entry of others bears the number
pub none_bear : (caller : ℕ) (es : List Entry) → AllByRecursion (IsOfAnother caller) es → filter (λ (e : Entry). nat_eq e.caller caller) es ≡ []
none_bear caller [] others = refl
none_bear caller (e ∷ es) others = go (nat_eq e.caller caller) refl (none_bear caller es others.1) where
  go : (b : Bool) → nat_eq e.caller caller ≡ b → filter (λ (x : Entry). nat_eq x.caller caller) es ≡ []
      → cond b (e ∷ filter (λ (x : Entry). nat_eq x.caller caller) es) (filter (λ (x : Entry). nat_eq x.caller caller) es) ≡ []
  go true is none = absurd (others.0 (grind (arith, nat_tests)))
  go false is none = none

pub entries_appended : (caller start : ℕ) (log more : List Entry) → start ≤ length log → AllByRecursion (IsOfAnother caller) more → entries_of caller start (log ++ more) ≡ entries_of caller start log
entries_appended caller start log more within others =
    ap (filter (λ (e : Entry). nat_eq e.caller caller)) (drop-append-le start log more within)
    ∙ filter-append (λ (e : Entry). nat_eq e.caller caller) (drop start log) more
    ∙ ap (λ (l : List Entry). entries_of caller start log ++ l) (none_bear caller more others)
    ∙ append-nil (entries_of caller start log)

module _ {E : Type 0} (protocol : Meaning E) (admin : Name) (caller start : ℕ) where
  session_appended : (place : ℕ) (log more : List Entry) (one : ServedLink E) → place ≤ length log → AllByRecursion (IsOfAnother caller) more → IsSession protocol admin caller place log one → IsSession protocol admin caller place (log ++ more) one
  session_appended place log more one within others s = record {
    turn = λ book is. subst (λ (own : List OwnEntry). protocol.takes book admin one.given one.back own one.end) (sym (others_not_own caller place log more within others)) (s.turn book (rulebook_front admin log more book is));
    cause = s.cause;
    tells = s.tells;
    sure = s.sure;
  }

  latest_appended : (log more : List Entry) (links : List (ServedLink E)) → start ≤ length log → AllByRecursion (IsOfAnother caller) more → ServedLatest protocol admin caller start log links → ServedLatest protocol admin caller start (log ++ more) links
  latest_appended log more [] within others served = entries_appended caller start log more within others ∙ served
  latest_appended log more (one ∷ earlier) within others served = (
    served.0,
    served.1,
    (let len = length-append log more in let le = served.2 in omega (arith, len, le)),
    subst (λ (l : List Entry). ServedLatest protocol admin caller start l earlier) (sym (take-append-le served.0 log more served.2)) served.3,
    session_appended served.0 log more one served.2 others served.4,
  )

  -- appended entries of others don't change it
  pub served_appended : (log more : List Entry) (links : List (ServedLink E)) → start ≤ length log → AllByRecursion (IsOfAnother caller) more → Served protocol admin caller start log links → Served protocol admin caller start (log ++ more) links
  served_appended log more links within others served = latest_appended log more (reverse links) within others served

  -- one session more, from the end of the log before it on
  pub served_more : (before more : List Entry) (links : List (ServedLink E)) (one : ServedLink E) → start ≤ length before → Served protocol admin caller start before links → IsSession protocol admin caller (length before) (before ++ more) one
      → Served protocol admin caller start (before ++ more) (links ++ one ∷ [])
  served_more before more links one within served s =
      subst (λ (l : List (ServedLink E)). ServedLatest protocol admin caller start (before ++ more) l) (sym (reverse-append links (one ∷ []))) (
        length before,
        within,
        (let len = length-append before more in omega (arith, len)),
        subst (λ (l : List Entry). ServedLatest protocol admin caller start l (reverse links)) (sym (take-append_seam before more)) served,
        s,
      )
