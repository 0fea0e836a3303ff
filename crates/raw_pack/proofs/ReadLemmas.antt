-- Steps of reading, one after the other.
use Rattle.std.proofs.Common.{◌≡◌, ℕ, ◌+◌, ◌<◌, ◌≤◌, List, [], ◌++◌, length, take, drop, Bool, true, false, Option, Some, None, Result, Ok, Err, refl, sym, ◌∙◌, ap, subst, inl, inr, arith, append_assoc, length-append}
use Rattle.std.proofs.lemmas.List.{drop_at, take_all, length-take-le, append-nil}
use Rattle.std.specs.Prelude.{IfOk}
use Rattle.std.specs.Io.KnownBytes.{Consumes}
use Rattle.sha1.specs.Sha1.{Holds}
use Rattle.sha1.specs.declared.Sha1.{Sha1}
use Rattle.base_types.specs.Fronts.{Front, Whole, Broken, Partial}
use Rattle.pktline_core.specs.LinkState.{LinkState}
use Rattle.pktline_core.specs.Links.{IsLater, TakesAll}
use Rattle.pktline_core.proofs.LinkLemmas.{consumes_more, risen_later}
use Rattle.raw_pack.specs.Formats.{Format, gives, fails, wants, bytes, ◌>>=◌, front, behind, and_then}
use Rattle.raw_pack.specs.Reading.{ShowsFault, IsNoMore, DecidesFault, Decides, Reads, Leaves}
use Rattle.pktline_core.specs.declared.links.TakeFault.TheVariants.{Ended, Failed}
use Rattle.raw_pack.specs.declared.fault.PackFault.{PackFault}
use Rattle.raw_pack.specs.declared.fault.PackFault.TheVariants.{NotAPack, Version, Delta, BadHead, BadObject, Truncated, TrailerDiffers, TooLarge, TooMany, ReadFault, NoMemory}
use Rattle.raw_pack.proofs.FormatLemmas.{behind_zero, behind_more, whole_stays, front-bind, front-wants, front-wants_short}

module _ {V : Type 0} where
  shows_behind : (k n : ℕ) (new : LinkState) (at : Front V PackFault) (fault : PackFault) → ShowsFault at n new fault → ShowsFault (behind k at) (k + n) new fault
  shows_behind k n new at fault (inl broken) = inl (ap (behind k) broken)
  shows_behind k n new at fault (inr (partial, end)) = inr (ap (behind k) partial, end)

  pub no_more_behind : (k n : ℕ) (at : Front V PackFault) → IsNoMore at n → IsNoMore (behind k at) (k + n)
  no_more_behind k n (Whole m v) few = omega (arith, few)
  no_more_behind k n (Broken m fault) few = omega (arith, few)
  no_more_behind k n (Partial fault) few = tt

  -- what stands behind so many bytes is decided by no fewer
  no_fewer : (n k : ℕ) (at : Front V PackFault) → n ≤ k → IsNoMore (behind k at) n
  no_fewer n k (Whole m v) few = omega (arith, few)
  no_fewer n k (Broken m fault) few = omega (arith, few)
  no_fewer n k (Partial fault) few = tt

  fault_behind : (k n : ℕ) (old mid new : LinkState) (at : Front V PackFault) (fault : PackFault) → IsLater old mid → DecidesFault at n mid new fault → DecidesFault (behind k at) (k + n) old new fault
  fault_behind k n old mid new at ReadFault later d = ((d.0.0, ap (behind k) d.0.1), risen_later old.read_faults mid.read_faults new.read_faults later.read_faults d.1, rw later.may_fail at d.2)
  fault_behind k n old mid new at NoMemory later d = no_more_behind k n at d
  fault_behind k n old mid new at NotAPack later d = shows_behind k n new at NotAPack d
  fault_behind k n old mid new at (Version v) later d = shows_behind k n new at (Version v) d
  fault_behind k n old mid new at (Delta i) later d = shows_behind k n new at (Delta i) d
  fault_behind k n old mid new at (BadHead i) later d = shows_behind k n new at (BadHead i) d
  fault_behind k n old mid new at (BadObject i) later d = shows_behind k n new at (BadObject i) d
  fault_behind k n old mid new at (Truncated i) later d = shows_behind k n new at (Truncated i) d
  fault_behind k n old mid new at (TrailerDiffers r c) later d = shows_behind k n new at (TrailerDiffers r c) d
  fault_behind k n old mid new at (TooLarge i) later d = shows_behind k n new at (TooLarge i) d
  fault_behind k n old mid new at (TooMany i) later d = shows_behind k n new at (TooMany i) d

  pub decides_behind : (k n : ℕ) (old mid new : LinkState) (at : Front V PackFault) (answer : Result V PackFault) → IsLater old mid → Decides at n mid new answer → Decides (behind k at) (k + n) old new answer
  decides_behind k n old mid new at (Ok v) later d = ap (behind k) d
  decides_behind k n old mid new at (Err fault) later d = fault_behind k n old mid new at fault later d

hashed_both : (before mid after : Sha1) (xs ys : List ℕ) → ((m : List ℕ) → Holds before m → Holds mid (m ++ xs)) → ((m : List ℕ) → Holds mid m → Holds after (m ++ ys)) → (m : List ℕ) → Holds before m → Holds after (m ++ (xs ++ ys))
hashed_both before mid after xs ys p q m h = subst (λ (l : List ℕ). Holds after l) (append_assoc m xs ys) (q (m ++ xs) (p m h))

hashed_then : {W : Type 0} (before mid after : Sha1) (xs ys : List ℕ) (answer : Result W PackFault) → ((m : List ℕ) → Holds before m → Holds mid (m ++ xs))
    → IfOk answer (λ v. (m : List ℕ) → Holds mid m → Holds after (m ++ ys)) → IfOk answer (λ v. (m : List ℕ) → Holds before m → Holds after (m ++ (xs ++ ys)))
hashed_then before mid after xs ys (Ok v) p q = hashed_both before mid after xs ys p q
hashed_then before mid after xs ys (Err fault) p q = tt

module _ {V W : Type 0} where
  shows_first : (n : ℕ) (new : LinkState) (at : Front V PackFault) (go : ℕ → V → Front W PackFault) (fault : PackFault) → ShowsFault at n new fault → ShowsFault (and_then at go) n new fault
  shows_first n new at go fault (inl broken) = inl (ap (λ a. and_then a go) broken)
  shows_first n new at go fault (inr (partial, end)) = inr (ap (λ a. and_then a go) partial, end)

  no_more_first : (n : ℕ) (at : Front V PackFault) (go : ℕ → V → Front W PackFault) → IsNoMore at n → IsNoMore (and_then at go) n
  no_more_first n (Whole m v) go few = no_fewer n m (go m v) few
  no_more_first n (Broken m fault) go few = few
  no_more_first n (Partial fault) go few = tt

  pub fault_first : (n : ℕ) (old new : LinkState) (at : Front V PackFault) (go : ℕ → V → Front W PackFault) (fault : PackFault) → DecidesFault at n old new fault → DecidesFault (and_then at go) n old new fault
  fault_first n old new at go ReadFault d = ((d.0.0, ap (λ a. and_then a go) d.0.1), d.1, d.2)
  fault_first n old new at go NoMemory d = no_more_first n at go d
  fault_first n old new at go NotAPack d = shows_first n new at go NotAPack d
  fault_first n old new at go (Version v) d = shows_first n new at go (Version v) d
  fault_first n old new at go (Delta i) d = shows_first n new at go (Delta i) d
  fault_first n old new at go (BadHead i) d = shows_first n new at go (BadHead i) d
  fault_first n old new at go (BadObject i) d = shows_first n new at go (BadObject i) d
  fault_first n old new at go (Truncated i) d = shows_first n new at go (Truncated i) d
  fault_first n old new at go (TrailerDiffers r c) d = shows_first n new at go (TrailerDiffers r c) d
  fault_first n old new at go (TooLarge i) d = shows_first n new at go (TooLarge i) d
  fault_first n old new at go (TooMany i) d = shows_first n new at go (TooMany i) d

  -- a fault of the first is a fault of both
  pub reads_first : (f : Format V PackFault) (g : V → Format W PackFault) (old new : LinkState) (before after later : Sha1) (fault : PackFault)
      → Reads f old new before after (Err fault) → Reads (f >>= g) old new before later (Err fault)
  reads_first f g old new before after later fault r = record {
    taken = r.taken;
    consumed = r.consumed;
    counted = r.counted;
    hashed = tt;
    decided = subst (λ at. DecidesFault at (length r.taken) old new fault) (sym (front-bind g f r.taken))
        (fault_first (length r.taken) old new (front f r.taken) (λ n v. front (g v) (drop n r.taken)) fault r.decided);
  }

  -- what both took, by what each took
  pub front-both : (f : Format V PackFault) (g : V → Format W PackFault) (xs ys : List ℕ) (v : V) → front f xs ≡ Whole (length xs) v → front (f >>= g) (xs ++ ys) ≡ behind (length xs) (front (g v) ys)
  front-both f g xs ys v is =
      front-bind g f (xs ++ ys)
      ∙ ap (λ at. and_then at (λ n w. front (g w) (drop n (xs ++ ys)))) (whole_stays f xs ys (length xs) v is)
      ∙ ap (λ (l : List ℕ). behind (length xs) (front (g v) l)) (drop_at xs ys (length xs) refl)

  -- the first whole, and then the second
  pub reads_then : (f : Format V PackFault) (g : V → Format W PackFault) (old mid new : LinkState) (before between after : Sha1) (v : V) (answer : Result W PackFault)
      → Reads f old mid before between (Ok v) → IsLater old mid → Reads (g v) mid new between after answer → Reads (f >>= g) old new before after answer
  reads_then f g old mid new before between after v answer p later q = record {
    taken = p.taken ++ q.taken;
    consumed = consumes_more old.left mid.left new.left p.taken q.taken p.consumed q.consumed;
    counted = omega (arith, p.counted, q.counted, length-append p.taken q.taken);
    hashed = hashed_then before between after p.taken q.taken answer p.hashed q.hashed;
    decided = subst (λ at. Decides at (length (p.taken ++ q.taken)) old new answer) (sym (front-both f g p.taken q.taken v p.decided))
        (subst (λ (n : ℕ). Decides (behind (length p.taken) (front (g v) q.taken)) n old new answer) (sym (length-append p.taken q.taken))
        (decides_behind (length p.taken) (length q.taken) old mid new (front (g v) q.taken) answer later q.decided));
  }

gives_here : (n : ℕ) (room : List ℕ) → length room ≡ n → behind n (front {F = PackFault} (gives room) []) ≡ Whole (length room) room
unfolding front
gives_here n room len = ap (λ (k : ℕ). Whole k room) (omega (arith, len))

short_room : (n k : ℕ) (cut : PackFault) (room : List ℕ) → length room ≡ n → k < n → k ≤ length room → front (bytes n cut) (take k room) ≡ Partial cut
unfolding bytes
short_room n k cut room len less within = front-wants_short n cut (λ found. gives found) (take k room) (omega (arith, length-take-le k room within))

-- a room that the input's end cut short, inside an entry
pub room_ended : (n entry : ℕ) (old new : LinkState) (before after : Sha1) (room : List ℕ) → length room ≡ n → TakesAll old new room (Err Ended)
    → Reads (bytes n (Truncated entry)) old new before after (Err (Truncated entry))
room_ended n entry old new before after room len takes = record {
  taken = take takes.n room;
  consumed = takes.consumed;
  counted = omega (arith, takes.counted, length-take-le takes.n room takes.within);
  hashed = tt;
  decided = inr (short_room n takes.n (Truncated entry) room len (omega (arith, takes.ended.0, len)) takes.within, takes.ended.1);
}

-- a room that a failing read cut short
pub room_failed : (n entry : ℕ) (old new : LinkState) (before after : Sha1) (room : List ℕ) → length room ≡ n → TakesAll old new room (Err Failed)
    → Reads (bytes n (Truncated entry)) old new before after (Err ReadFault)
room_failed n entry old new before after room len takes = record {
  taken = take takes.n room;
  consumed = takes.consumed;
  counted = omega (arith, takes.counted, length-take-le takes.n room takes.within);
  hashed = tt;
  decided = ((Truncated entry, short_room n takes.n (Truncated entry) room len (omega (arith, takes.ended.0, len)) takes.within), takes.ended.1, takes.ended.2);
}

-- a room of n bytes, by what filled it
pub room_filled : (n : ℕ) (cut : PackFault) (old new : LinkState) (before after : Sha1) (room : List ℕ) → length room ≡ n → TakesAll old new room (Ok tt)
    → ((m : List ℕ) → Holds before m → Holds after (m ++ room)) → Reads (bytes n cut) old new before after (Ok room)
unfolding bytes
room_filled n cut old new before after room len takes hashed =
    let whole : take takes.n room ≡ room = take_all takes.n room (omega (arith, takes.ended)) in
    record {
      taken = room;
      consumed = rw whole at takes.consumed;
      counted = omega (arith, takes.counted, takes.ended);
      hashed = hashed;
      decided =
          ap (front (wants n cut (λ found. gives found))) (sym (append-nil room))
          ∙ front-wants n cut (λ found. gives found) room [] len
          ∙ gives_here n room len;
    }

-- every fault but a failing read
abbrev pub is_told : PackFault → Bool
is_told ReadFault = false
is_told fault = true

nothing_consumed : (left : Option (List ℕ)) → Consumes left left []
nothing_consumed None = tt
nothing_consumed (Some xs) = refl

nothing_hashed : (hasher : Sha1) (m : List ℕ) → Holds hasher m → Holds hasher (m ++ [])
nothing_hashed hasher m h = subst (λ (l : List ℕ). Holds hasher l) (sym (append-nil m)) h

module _ {W : Type 0} where
  pub given_here : (n : ℕ) (w : W) (rest : List ℕ) → behind n (front {F = PackFault} (gives w) rest) ≡ Whole n w
  unfolding front
  given_here n w rest = ap (λ (k : ℕ). Whole k w) (omega arith)

  pub failed_here : (n : ℕ) (fault : PackFault) (rest : List ℕ) → behind n (front {V = W} (fails fault) rest) ≡ Broken n fault
  unfolding front
  failed_here n fault rest = ap (λ (k : ℕ). Broken k fault) (omega arith)

  -- a fault other than a failing read is decided by what stands at the front
  told_fault : (n : ℕ) (old new : LinkState) (at : Front W PackFault) (fault : PackFault) → is_told fault ≡ true → at ≡ Broken n fault → DecidesFault at n old new fault
  told_fault n old new at ReadFault told is = absurd (cc)
  told_fault n old new at NoMemory told is = subst (λ (front : Front W PackFault). IsNoMore front n) (sym is) (omega arith)
  told_fault n old new at NotAPack told is = inl is
  told_fault n old new at (Version v) told is = inl is
  told_fault n old new at (Delta i) told is = inl is
  told_fault n old new at (BadHead i) told is = inl is
  told_fault n old new at (BadObject i) told is = inl is
  told_fault n old new at (Truncated i) told is = inl is
  told_fault n old new at (TrailerDiffers r c) told is = inl is
  told_fault n old new at (TooLarge i) told is = inl is
  told_fault n old new at (TooMany i) told is = inl is

  -- a value, or a fault, that stands here already
  pub reads_value : (w : W) (now : LinkState) (hasher : Sha1) → Reads (gives w) now now hasher hasher (Ok w)
  unfolding front
  reads_value w now hasher = record { taken = []; consumed = nothing_consumed now.left; counted = omega arith; hashed = nothing_hashed hasher; decided = refl }

  pub reads_fault : (fault : PackFault) (now : LinkState) (hasher : Sha1) → is_told fault ≡ true → Reads {V = W} (fails fault) now now hasher hasher (Err fault)
  unfolding front
  reads_fault fault now hasher told = record { taken = []; consumed = nothing_consumed now.left; counted = omega arith; hashed = tt; decided = told_fault 0 now now (front (fails fault) []) fault told refl }

module _ {V W : Type 0} where
  -- a value that is made of what was read
  pub reads_gives : (f : Format V PackFault) (g : V → Format W PackFault) (old new : LinkState) (before after : Sha1) (v : V) (w : W)
      → g v ≡ gives w → Reads f old new before after (Ok v) → Reads (f >>= g) old new before after (Ok w)
  reads_gives f g old new before after v w is r = record {
    taken = r.taken;
    consumed = r.consumed;
    counted = r.counted;
    hashed = r.hashed;
    decided =
        front-bind g f r.taken
        ∙ ap (λ at. and_then at (λ n x. front (g x) (drop n r.taken))) r.decided
        ∙ ap (λ h. behind (length r.taken) (front h (drop (length r.taken) r.taken))) is
        ∙ given_here (length r.taken) w (drop (length r.taken) r.taken);
  }

  -- what was read shows that a fault stands here
  pub reads_fails : (f : Format V PackFault) (g : V → Format W PackFault) (old new : LinkState) (before after : Sha1) (v : V) (fault : PackFault)
      → is_told fault ≡ true → g v ≡ fails fault → Reads f old new before after (Ok v) → Reads (f >>= g) old new before after (Err fault)
  reads_fails f g old new before after v fault told is r =
      let shown : front (f >>= g) r.taken ≡ Broken (length r.taken) fault =
      front-bind g f r.taken
      ∙ ap (λ at. and_then at (λ n x. front (g x) (drop n r.taken))) r.decided
      ∙ ap (λ h. behind (length r.taken) (front h (drop (length r.taken) r.taken))) is
      ∙ failed_here (length r.taken) fault (drop (length r.taken) r.taken)
      in record { taken = r.taken; consumed = r.consumed; counted = r.counted; hashed = tt; decided = told_fault (length r.taken) old new (front (f >>= g) r.taken) fault told shown }

  -- memory lacked behind what was read, before what follows
  pub reads_lacks : (f : Format V PackFault) (g : V → Format W PackFault) (old new : LinkState) (before between after : Sha1) (v : V)
      → Reads f old new before between (Ok v) → Reads (f >>= g) old new before after (Err NoMemory)
  reads_lacks f g old new before between after v r = record {
    taken = r.taken;
    consumed = r.consumed;
    counted = r.counted;
    hashed = tt;
    decided = subst (λ at. IsNoMore at (length r.taken)) (sym (front-bind g f r.taken))
        (no_more_first (length r.taken) (front f r.taken) (λ n v. front (g v) (drop n r.taken)) (subst (λ at. IsNoMore at (length r.taken)) (sym r.decided) (omega arith)));
  }

module _ {V : Type 0} where
  pub leaves_whole : (f : Format V PackFault) (now : LinkState) (hasher : Sha1) → Leaves f f now now hasher hasher
  leaves_whole f now hasher = record { taken = []; consumed = nothing_consumed now.left; counted = omega arith; hashed = nothing_hashed hasher; goes_on = λ input. sym (behind_zero (front f input)) }

  pub leaves_then : {U : Type 0} (whole : Format V PackFault) (f : Format U PackFault) (g : U → Format V PackFault) (old mid new : LinkState) (before between after : Sha1) (u : U)
      → Leaves whole (f >>= g) old mid before between → Reads f mid new between after (Ok u) → Leaves whole (g u) old new before after
  leaves_then whole f g old mid new before between after u p q = record {
    taken = p.taken ++ q.taken;
    consumed = consumes_more old.left mid.left new.left p.taken q.taken p.consumed q.consumed;
    counted = omega (arith, p.counted, q.counted, length-append p.taken q.taken);
    hashed = hashed_both before between after p.taken q.taken p.hashed q.hashed;
    goes_on = λ input.
        ap (front whole) (append_assoc p.taken q.taken input)
        ∙ p.goes_on (q.taken ++ input)
        ∙ ap (behind (length p.taken)) (front-both f g q.taken input u q.decided)
        ∙ behind_more (length p.taken) (length q.taken) (front (g u) input)
        ∙ ap (λ (n : ℕ). behind n (front (g u) input)) (sym (length-append p.taken q.taken));
  }

  -- what is left, read to its end
  pub leaves_end : (whole rest : Format V PackFault) (old mid new : LinkState) (before between after : Sha1) (answer : Result V PackFault)
      → Leaves whole rest old mid before between → IsLater old mid → Reads rest mid new between after answer → Reads whole old new before after answer
  leaves_end whole rest old mid new before between after answer p later q = record {
    taken = p.taken ++ q.taken;
    consumed = consumes_more old.left mid.left new.left p.taken q.taken p.consumed q.consumed;
    counted = omega (arith, p.counted, q.counted, length-append p.taken q.taken);
    hashed = hashed_then before between after p.taken q.taken answer p.hashed q.hashed;
    decided = subst (λ at. Decides at (length (p.taken ++ q.taken)) old new answer) (sym (p.goes_on q.taken))
        (subst (λ (n : ℕ). Decides (behind (length p.taken) (front rest q.taken)) n old new answer) (sym (length-append p.taken q.taken))
        (decides_behind (length p.taken) (length q.taken) old mid new (front rest q.taken) answer later q.decided));
  }

  pub leaves_lacks : (whole rest : Format V PackFault) (old mid : LinkState) (before between after : Sha1)
      → Leaves whole rest old mid before between → Reads whole old mid before after (Err NoMemory)
  leaves_lacks whole rest old mid before between after p = record {
    taken = p.taken;
    consumed = p.consumed;
    counted = p.counted;
    hashed = tt;
    decided = subst (λ at. IsNoMore at (length p.taken)) (ap (λ (l : List ℕ). front whole l) (append-nil p.taken))
        (subst (λ at. IsNoMore at (length p.taken)) (sym (p.goes_on [])) (no_fewer (length p.taken) (length p.taken) (front rest []) (omega arith)));
  }
