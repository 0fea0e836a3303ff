-- A door's lists, call by call.
use Rattle.std.proofs.Common.{List, [], ◌∷◌, ◌++◌, refl, sym, ◌∙◌, ap, append_assoc, append-nil}
use Rattle.std.specs.Prelude.{Option, Some, None}
use Rattle.edge_links.specs.Door.{KeepsList, LosesFirst, GainsLast}
use Rattle.session_workers.specs.Visits.{LosesFront, GainsBack}

module _ {L : Type 0} where
  pub loses_one : (a b c : Option (List L)) (link : L) → LosesFirst a b link → KeepsList b c → LosesFront a c (link ∷ [])
  loses_one None b c link loses keeps = tt
  loses_one (Some xs) None c link loses keeps = absurd loses
  loses_one (Some xs) (Some ys) None link loses keeps = absurd keeps
  loses_one (Some xs) (Some ys) (Some zs) link loses keeps = loses ∙ ap (λ l. link ∷ l) (sym keeps)

  pub gains_one : (a b c : Option (List L)) (link : L) → KeepsList a b → GainsLast b c link → GainsBack a c (link ∷ [])
  gains_one None b c link keeps gains = tt
  gains_one (Some xs) None c link keeps gains = absurd keeps
  gains_one (Some xs) (Some ys) None link keeps gains = absurd gains
  gains_one (Some xs) (Some ys) (Some zs) link keeps gains = gains ∙ ap (λ l. l ++ link ∷ []) keeps

  pub loses_none : (a : Option (List L)) → LosesFront a a []
  loses_none None = tt
  loses_none (Some xs) = refl

  pub gains_none : (a : Option (List L)) → GainsBack a a []
  gains_none None = tt
  gains_none (Some xs) = sym (append-nil xs)

  pub loses_more : (a b c : Option (List L)) (front next : List L) → LosesFront a b front → LosesFront b c next → LosesFront a c (front ++ next)
  loses_more None b c front next one other = tt
  loses_more (Some xs) None c front next one other = absurd one
  loses_more (Some xs) (Some ys) None front next one other = absurd other
  loses_more (Some xs) (Some ys) (Some zs) front next one other = one ∙ ap (λ l. front ++ l) other ∙ sym (append_assoc front next zs)

  pub gains_more : (a b c : Option (List L)) (front next : List L) → GainsBack a b front → GainsBack b c next → GainsBack a c (front ++ next)
  gains_more None b c front next one other = tt
  gains_more (Some xs) None c front next one other = absurd one
  gains_more (Some xs) (Some ys) None front next one other = absurd other
  gains_more (Some xs) (Some ys) (Some zs) front next one other = other ∙ ap (λ l. l ++ next) one ∙ append_assoc xs front next

  pub keeps_front : (a b c : Option (List L)) (front : List L) → LosesFront a b front → KeepsList b c → LosesFront a c front
  keeps_front None b c front loses keeps = tt
  keeps_front (Some xs) None c front loses keeps = absurd loses
  keeps_front (Some xs) (Some ys) None front loses keeps = absurd keeps
  keeps_front (Some xs) (Some ys) (Some zs) front loses keeps = loses ∙ ap (λ l. front ++ l) (sym keeps)

  pub keeps_back : (a b c : Option (List L)) (front : List L) → GainsBack a b front → KeepsList b c → GainsBack a c front
  keeps_back None b c front gains keeps = tt
  keeps_back (Some xs) None c front gains keeps = absurd gains
  keeps_back (Some xs) (Some ys) None front gains keeps = absurd keeps
  keeps_back (Some xs) (Some ys) (Some zs) front gains keeps = keeps ∙ gains
