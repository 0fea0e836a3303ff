-- An advertisement, line by line.
use Rattle.std.proofs.Common.{◌≡◌, ℕ, ◌≤◌, suc, Bool, true, false, cond, List, [], ◌∷◌, ◌++◌, length, map, codes, is_none, Option, None, Some, Result, Ok, refl, sym, ◌∙◌, ap, append_assoc, arith, subst}
use Rattle.std.proofs.lemmas.List.{append-nil, map-append}
use Rattle.std.proofs.lemmas.Grind.{flat_map-append}
use Rattle.std.specs.List.{All, flat_map}
use Rattle.std.specs.FinMap.{entries, get}
use Rattle.git_object.specs.Content.{Content}
use Rattle.git_object.specs.ObjectId.{hex_of}
use Rattle.git_object.specs.declared.object_id.ObjectId.{ObjectId}
use Rattle.pktline_core.specs.LinkState.{LinkState}
use Rattle.pktline_core.specs.Packets.{spelling, Flush}
use Rattle.ref_store.specs.Refs.{Name}
use Rattle.ref_store.specs.Store.{Store}
use Rattle.hub.specs.Desk.{DeskView}
use Rattle.interaction_tree.specs.Interaction.{write}
use Rattle.interaction_tree.specs.Traces.{Halt}
use Rattle.interaction_tree.specs.Runs.{Runs}
use Rattle.session_core.specs.declared.end.SessionEnd.{SessionEnd}
use Rattle.session_core.specs.Packets.{packet}
use Rattle.session_core.proofs.StepLemmas.{says_nothing}
use Rattle.upload_pack.specs.Advertising.{advertisement, first_line, head, head_branch, head_lines, lines, lines_behind, more_line, peeled, peeled_ref, ref_line, refs_text, with_peeled, words_by}

-- ---- lines

-- one line alone
pub said_alone : (a b : LinkState) (d : DeskView) (line : List ℕ) (out : Result (Unit {0}) (Halt SessionEnd)) → Runs a b d d (write (packet line)) out → Runs a b d d (write (flat_map packet (line ∷ []))) out
said_alone a b d line out ran = subst (λ (bytes : List ℕ). Runs a b d d (write bytes) out) (sym (append-nil (packet line))) ran

-- a ref's own line, and the lines behind it
pub lines_split : (first : Bool) (ref : Name × ObjectId) (more : List (Name × ObjectId))
    → flat_map packet (lines_behind first (ref ∷ more)) ≡ packet (ref_line ref (cond first (codes "\0\n") (codes "\n"))) ++ flat_map packet (map more_line more)
lines_split true ref more = refl
lines_split false ref more = refl

-- what a tag stands for, in a line of its own
pub peeled_line : (name : Name) (id : ObjectId) → flat_map packet (map more_line (peeled_ref name (Some id))) ≡ packet (ref_line (name, id) (codes "^{}\n"))
peeled_line name id =
    append-nil (packet (more_line (name ++ codes "^{}", id)))
    ∙ ap packet (ap (λ (text : List ℕ). text ++ codes "\n") (sym (append_assoc (hex_of id) (32 ∷ name) (codes "^{}"))) ∙ append_assoc (hex_of id ++ 32 ∷ name) (codes "^{}") (codes "\n"))

-- ---- the refs, one after the other

-- what is still to be written, with these refs left
pub rest_text : List Content → Bool → List (Name × ObjectId) → List ℕ
rest_text objects first refs = flat_map packet (lines_behind first (flat_map (with_peeled objects) refs)) ++ spelling Flush

pub rest_whole : (first : Bool) (store : Store) → rest_text store.objects first (entries store.refs) ≡ refs_text first store
unfolding rest_text
rest_whole first store = refl

-- the lines of some, and of others behind them
lines_more : (first : Bool) (ref : Name × ObjectId) (some others : List (Name × ObjectId))
    → flat_map packet (lines_behind first (ref ∷ some ++ others)) ≡ flat_map packet (lines_behind first (ref ∷ some)) ++ flat_map packet (lines_behind false others)
lines_more first ref some others =
    lines_split first ref (some ++ others)
    ∙ ap (λ (bytes : List ℕ). own ++ bytes) (ap (flat_map packet) (map-append more_line some others) ∙ flat_map-append packet (map more_line some) (map more_line others))
    ∙ sym (append_assoc own (flat_map packet (map more_line some)) (flat_map packet (map more_line others)))
    ∙ ap (λ (bytes : List ℕ). bytes ++ flat_map packet (map more_line others)) (sym (lines_split first ref some))
  where
    own : List ℕ
    own = packet (ref_line ref (cond first (codes "\0\n") (codes "\n")))

pub rest_more : (objects : List Content) (first : Bool) (ref : Name × ObjectId) (refs : List (Name × ObjectId))
    → rest_text objects first (ref ∷ refs) ≡ flat_map packet (lines_behind first (with_peeled objects ref)) ++ rest_text objects false refs
unfolding rest_text
rest_more objects first ref refs =
    let others = flat_map (with_peeled objects) refs in
    ap (λ (bytes : List ℕ). bytes ++ spelling Flush) (lines_more first ref (peeled_ref ref.0 (peeled objects ref.1)) others)
    ∙ append_assoc (flat_map packet (lines_behind first (with_peeled objects ref))) (flat_map packet (lines_behind false others)) (spelling Flush)

pub rest_none : (objects : List Content) (first : Bool) → rest_text objects first [] ≡ flat_map packet (lines_behind first []) ++ spelling Flush
unfolding rest_text
rest_none objects first = refl

-- ---- `HEAD`

by_head : (branch : Option ObjectId) (refs : List (Name × ObjectId))
    → flat_map packet (lines (words_by branch) (head branch ++ refs)) ++ spelling Flush ≡ flat_map packet (head_lines branch) ++ (flat_map packet (lines_behind (is_none branch) refs) ++ spelling Flush)
by_head None refs = refl
by_head (Some id) refs =
    let own = packet (first_line (words_by (Some id)) (codes "HEAD", id)) in
    let others = flat_map packet (map more_line refs) in
    append_assoc own others (spelling Flush) ∙ ap (λ (bytes : List ℕ). bytes ++ (others ++ spelling Flush)) (sym (append-nil own))

pub advertisement_is : (store : Store) → advertisement store ≡ flat_map packet (head_lines (get store.refs head_branch)) ++ refs_text (is_none (get store.refs head_branch)) store
unfolding advertisement
advertisement_is store = by_head (get store.refs head_branch) (flat_map (with_peeled store.objects) (entries store.refs))

-- ---- what holds of each ref that is left

abbrev pub AreShort : List (Name × ObjectId) → Type 0
AreShort refs = All (λ (ref : Name × ObjectId). length ref.0 ≤ 1024) refs

pub short_rest : (refs : List (Name × ObjectId)) (ref : Name × ObjectId) (rest : List (Name × ObjectId)) → refs ≡ ref ∷ rest → AreShort refs → AreShort rest
short_rest refs ref rest is short = λ k d within. subst AreShort is short (suc k) d (omega (arith, within))

pub short_first : (refs : List (Name × ObjectId)) (ref : Name × ObjectId) (rest : List (Name × ObjectId)) → refs ≡ ref ∷ rest → AreShort refs → length ref.0 ≤ 1024
short_first refs ref rest is short = subst AreShort is short 0 ref (omega arith)

-- ---- what runs

module _ (a b : LinkState) (d : DeskView) where
  -- a ref's own line, and the lines behind it
  pub ref_then : (first : Bool) (ref : Name × ObjectId) (more : List (Name × ObjectId)) (out : Result (Unit {0}) (Halt SessionEnd))
      → Runs a b d d (write (packet (ref_line ref (cond first (codes "\0\n") (codes "\n"))) ++ flat_map packet (map more_line more))) out → Runs a b d d (write (flat_map packet (lines_behind first (ref ∷ more)))) out
  ref_then first ref more out ran = subst (λ (bytes : List ℕ). Runs a b d d (write bytes) out) (sym (lines_split first ref more)) ran

  pub peeled_then : (name : Name) (found : Option ObjectId) (id : ObjectId) (out : Result (Unit {0}) (Halt SessionEnd))
      → found ≡ Some id → Runs a b d d (write (packet (ref_line (name, id) (codes "^{}\n")))) out → Runs a b d d (write (flat_map packet (map more_line (peeled_ref name found)))) out
  peeled_then name found id out is ran =
      subst (λ (bytes : List ℕ). Runs a b d d (write bytes) out) (sym (ap (λ (o : Option ObjectId). flat_map packet (map more_line (peeled_ref name o))) is ∙ peeled_line name id)) ran

pub peeled_none : (a : LinkState) (d : DeskView) (name : Name) (found : Option ObjectId) → found ≡ None → Runs {E = SessionEnd} a a d d (write (flat_map packet (map more_line (peeled_ref name found)))) (Ok tt)
peeled_none a d name found is =
    subst (λ (bytes : List ℕ). Runs {E = SessionEnd} a a d d (write bytes) (Ok tt)) (sym (ap (λ (o : Option ObjectId). flat_map packet (map more_line (peeled_ref name o))) is)) (says_nothing a d)

-- a lens on a repository alone
pub lens_alone : (lens objects pack : List Content) → lens ≡ objects ++ pack → pack ≡ [] → lens ≡ objects
lens_alone lens objects pack is none = is ∙ ap (λ (os : List Content). objects ++ os) none ∙ append-nil objects
