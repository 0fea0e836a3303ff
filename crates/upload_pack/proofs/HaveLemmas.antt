-- What the client has, and what is replied.
use Rattle.std.proofs.Common.{◌≡◌, ℕ, suc, ◌==◌, true, false, List, [], ◌∷◌, ◌++◌, length, take, codes, Option, None, Some, Result, Ok, Err, sym, ◌∙◌, ap, refl, subst, arith}
use Rattle.std.specs.Prelude.{is_some}
use Rattle.std.proofs.lemmas.Bool.{eqb-true}
use Rattle.std.proofs.lemmas.List.{take_all}
use Rattle.git_object.specs.Content.{Content}
use Rattle.git_object.specs.declared.object_id.ObjectId.{ObjectId}
use Rattle.pktline_core.specs.LinkState.{LinkState}
use Rattle.pktline_core.specs.Links.{KeepsReading}
use Rattle.pktline_core.specs.Reading.{ReaderState}
use Rattle.ref_store.specs.Objects.{has_object, place_of}
use Rattle.ref_store.proofs.ObjectLemmas.{has_none, has_some}
use Rattle.hub.specs.Desk.{DeskView}
use Rattle.interaction_tree.specs.Interaction.{Interaction, ◌>>=◌, write}
use Rattle.interaction_tree.specs.Traces.{Halt}
use Rattle.interaction_tree.specs.Runs.{Runs}
use Rattle.session_core.specs.declared.end.SessionEnd.{SessionEnd}
use Rattle.session_core.specs.End.{outcome_at, outcome_of}
use Rattle.session_core.specs.Packets.{packet}
use Rattle.session_core.specs.Readers.{IsReady}
use Rattle.session_core.proofs.StepLemmas.{exits, exits_at, goes, goes_at, refused}
use Rattle.upload_pack.specs.declared.haves.Inquiry.{Inquiry}
use Rattle.upload_pack.specs.declared.haves.Inquiry.TheVariants.{Have}
use Rattle.upload_pack.specs.Haves.{ack, common_after, no_acknowledgement, reply, replying, taking_haves, taking_inquiry, too_many_haves, unless_done}

-- an object has a place among all exactly where it is there
pub placed_there : (objects : List Content) (id : ObjectId) (n : ℕ) (place : Option ℕ) → n ≡ length objects → place ≡ place_of (take n objects) id → is_some place ≡ has_object objects id
placed_there objects id n place count is = by_place place (is ∙ ap (λ (os : List Content). place_of os id) (take_all n objects (omega (arith, count))))
  where
    by_place : (p : Option ℕ) → p ≡ place_of objects id → is_some p ≡ has_object objects id
    by_place None is = sym (has_none objects id (sym is))
    by_place (Some i) is = sym (has_some objects id i (sym is))

-- a reader stays ready while its link is written to
pub still_ready : (reader : ReaderState) (a b : LinkState) → IsReady reader a → KeepsReading a b → IsReady reader b
still_ready reader a b ready keeps = record { ready = ready.ready; behind = omega (arith, ready.behind, keeps.given) }

-- ---- replies

pub none_common : (common : List ObjectId) → (length common == 0) ≡ true → no_acknowledgement common ≡ packet (codes "NAK\n")
none_common [] is = refl
none_common (one ∷ common) is = absurd (omega (arith, eqb-true (length (one ∷ common)) 0 is))

pub some_common : (common : List ObjectId) → (length common == 0) ≡ false → no_acknowledgement common ≡ []
some_common [] is = absurd cc
some_common (one ∷ common) is = refl

module _ (objects : List Content) (id : ObjectId) where
  pub reply_elsewhere : (common : List ObjectId) → has_object objects id ≡ false → (reply objects common (Have id) ≡ []) × (common_after objects common (Have id) ≡ common)
  reply_elsewhere common isnt = rw isnt (refl, refl)

  pub common_more : (common : List ObjectId) → has_object objects id ≡ true → common_after objects common (Have id) ≡ common ++ id ∷ []
  common_more common is = rw is refl

  pub reply_first : (common : List ObjectId) → has_object objects id ≡ true → (length common == 0) ≡ true → reply objects common (Have id) ≡ packet (ack id)
  reply_first [] is none = rw is refl
  reply_first (one ∷ common) is none = absurd (omega (arith, eqb-true (length (one ∷ common)) 0 none))

  pub reply_later : (common : List ObjectId) → has_object objects id ≡ true → (length common == 0) ≡ false → reply objects common (Have id) ≡ []
  reply_later [] is some = absurd cc
  reply_later (one ∷ common) is some = rw is refl

-- ---- one after the other

-- what follows the packet where so many more may come, and where there may be none
abbrev pub behind_inquiry : List Content → ℕ → List ObjectId → Option Inquiry × ℕ → Interaction SessionEnd (List ObjectId)
behind_inquiry objects left common next = unless_done (replying (λ all. taking_haves objects left all next.1) objects common) common next.0

abbrev pub behind_last : List ObjectId → Option Inquiry × ℕ → Interaction SessionEnd (List ObjectId)
behind_last common next = unless_done (λ inquiry. too_many_haves) common next.0

pub one_may_come : (objects : List Content) (may left : ℕ) (common : List ObjectId) (offset : ℕ) → may ≡ suc left → taking_haves objects may common offset ≡ taking_inquiry offset >>= behind_inquiry objects left common
unfolding taking_haves
one_may_come objects may left common offset is = ap (λ (n : ℕ). taking_haves objects n common offset) is

pub none_may_come : (objects : List Content) (may : ℕ) (common : List ObjectId) (offset : ℕ) → may ≡ 0 → taking_haves objects may common offset ≡ taking_inquiry offset >>= behind_last common
unfolding taking_haves
none_may_come objects may common offset is = ap (λ (n : ℕ). taking_haves objects n common offset) is

module _ (a b : LinkState) (d : DeskView) (objects : List Content) (k : Option Inquiry × ℕ → Interaction SessionEnd (List ObjectId)) (common : List ObjectId) (offset behind may : ℕ)
    (is : taking_haves objects may common offset ≡ taking_inquiry offset >>= k) (result : Result (Option Inquiry) SessionEnd) (ran : Runs a b d d (taking_inquiry offset) (outcome_at result behind)) where
  -- the session ends with it
  pub inquiry_exits : (r : Result (List ObjectId) SessionEnd) (end y : SessionEnd) → result ≡ Err end → r ≡ Err y → y ≡ end → Runs a b d d (taking_haves objects may common offset) (outcome_of r)
  inquiry_exits r end y was told same = subst (λ (t : Interaction SessionEnd (List ObjectId)). Runs a b d d t (outcome_of r)) (sym is) (exits_at a b d d (taking_inquiry offset) k result behind r end y was told same ran)

  -- a packet, and what follows it
  pub inquiry_goes : (c : LinkState) (found : Option Inquiry) (out : Result (List ObjectId) (Halt SessionEnd)) → result ≡ Ok found → Runs b c d d (k (found, behind)) out → Runs a c d d (taking_haves objects may common offset) out
  inquiry_goes c found out was rest = subst (λ (t : Interaction SessionEnd (List ObjectId)). Runs a c d d t out) (sym is) (goes_at a b d d (taking_inquiry offset) k result behind c d found out was ran rest)

module _ (a b : LinkState) (d : DeskView) (more : List ObjectId → Interaction SessionEnd (List ObjectId)) (objects : List Content) (common : List ObjectId) (inquiry : Inquiry)
    (result : Result (Unit {0}) SessionEnd) (ran : Runs a b d d (write (reply objects common inquiry)) (outcome_of result)) where
  -- the reply isn't written whole
  pub reply_exits : (r : Result (List ObjectId) SessionEnd) (end y : SessionEnd) → result ≡ Err end → r ≡ Err y → y ≡ end → Runs a b d d (replying more objects common inquiry) (outcome_of r)
  unfolding replying
  reply_exits r end y was told same = exits a b d d (write (reply objects common inquiry)) (λ u. more (common_after objects common inquiry)) result r end y was told same ran

  -- the reply, and what follows it
  pub reply_goes : (c : LinkState) (u : Unit {0}) (out : Result (List ObjectId) (Halt SessionEnd)) → result ≡ Ok u → Runs b c d d (more (common_after objects common inquiry)) out → Runs a c d d (replying more objects common inquiry) out
  unfolding replying
  reply_goes c u out was rest = goes a b d d (write (reply objects common inquiry)) (λ u. more (common_after objects common inquiry)) result c d u out was ran rest

-- one too many, whatever would have been given
pub refused_haves : {B : Type 0} (a b : LinkState) (d : DeskView) (halt : Halt SessionEnd) → Runs {A = Unit {0}} a b d d too_many_haves (Err halt) → Runs {A = B} a b d d too_many_haves (Err halt)
unfolding too_many_haves
refused_haves a b d halt ran = refused a b d _ _ halt ran
