use Rattle.std.proofs.Common.{sym, ap, subst, arith}
use Rattle.ref_store.specs.Objects.{HasNamesOnce}
use Rattle.ref_store.specs.Refs.{HasRefNames, HasNoZero, HasRefsApart}
use Rattle.ref_store.specs.Segments.{all_of}
use Rattle.ref_store.proofs.RefLemmas.{no_ref_names, no_zero}
use Rattle.ref_store.proofs.ApartLemmas.{apart-empty}
use Rattle.ref_store.proofs.repo.Repo.empty.Goals as goal

pub invariant_of-result : goal.invariant_of-result
invariant_of-result c = record {
  names = subst HasNamesOnce (sym (ap all_of c.new.ensures)) (λ i j d lt bound same. absurd (omega (arith, bound)));
  refs = subst HasRefNames (sym c.in_ok-new.ensures) no_ref_names;
  values = subst HasNoZero (sym c.in_ok-new.ensures) no_zero;
  apart = subst HasRefsApart (sym c.in_ok-new.ensures) apart-empty;
}
