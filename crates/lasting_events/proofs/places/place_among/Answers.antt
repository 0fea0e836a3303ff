use Rattle.std.proofs.Common.{◌≡◌, ℕ, ◌≤◌, List, length, drop, true, false, ltb, arith, rules, sym, subst}
use Rattle.std.specs.List.Sorted.{IsNonDecreasingBy, IsPartitionPoint}
use Rattle.std.proofs.lemmas.List.Sorted.{IsPartitionPoint-from_clause, IsPartitionedBy-ltb}
use Rattle.lasting_events.proofs.PlaceLemmas.{found_place, places_rise}
use Rattle.lasting_events.proofs.places.place_among.Goals as goal

pub overflow_add-result : goal.overflow_add-result
overflow_add-result c =
    let log = c.args._log.now in
    let parted = IsPartitionedBy-ltb (λ x. x) c.args.places.now c.args.place (subst (IsNonDecreasingBy (λ (x : ℕ). x)) (sym c.requires.places) (places_rise c.args.start (drop c.args.start log))) in
    let point = IsPartitionPoint-from_clause (λ x. ltb x c.args.place) c.args.places.now c.partition_point.result c.partition_point.ensures.partitioned parted (λ a r q k. search rules) in
    let found = found_place c.args.start c.args.place c.partition_point.result log c.if-place-start.false c.requires.within
    (subst (λ (l : List ℕ). c.partition_point.result ≤ length l) c.requires.places c.partition_point.ensures.bound)
    (subst (λ (l : List ℕ). IsPartitionPoint (λ y. ltb y c.args.place ≡ true) (λ y. ltb y c.args.place ≡ false) l c.partition_point.result) c.requires.places point) in
    omega (arith, found.1, c.ranges.place.fits)

pub returns : goal.returns
returns c =
    let log = c.args._log.now in
    let parted = IsPartitionedBy-ltb (λ x. x) c.args.places.now c.args.place (subst (IsNonDecreasingBy (λ (x : ℕ). x)) (sym c.requires.places) (places_rise c.args.start (drop c.args.start log))) in
    let point = IsPartitionPoint-from_clause (λ x. ltb x c.args.place) c.args.places.now c.partition_point.result c.partition_point.ensures.partitioned parted (λ a r q k. search rules) in
    let found = found_place c.args.start c.args.place c.partition_point.result log c.if-place-start.false c.requires.within
    (subst (λ (l : List ℕ). c.partition_point.result ≤ length l) c.requires.places c.partition_point.ensures.bound)
    (subst (λ (l : List ℕ). IsPartitionPoint (λ y. ltb y c.args.place ≡ true) (λ y. ltb y c.args.place ≡ false) l c.partition_point.result) c.requires.places point) in
    found.0
