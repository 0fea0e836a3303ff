-- Calls on a link, one after the other.
use Rattle.std.proofs.Common.{◌≡◌, ℕ, ◌≤◌, List, ◌++◌, Option, None, Some, Result, Ok, Err, refl, sym, ◌∙◌, ap, arith, append_assoc, length-append}
use Rattle.std.proofs.lemmas.List.{append-nil}
use Rattle.std.specs.Io.KnownBytes.{Appends, Keeps, Consumes}
use Rattle.base_types.specs.Counts.{HasRisen}
use Rattle.pktline_core.specs.LinkState.{LinkState}
use Rattle.pktline_core.specs.Links.{IsLater, KeepsReading, KeepsWriting}
use Rattle.pktline_core.specs.Links.{Writes, EndsWriting}
use Rattle.pktline_core.specs.declared.links.WriteFault.{WriteFault}
use Rattle.pktline_core.specs.declared.links.WriteFault.TheVariants.{Failed, NoMemory}

pub appends_more : (a b c : Option (List ℕ)) (xs ys : List ℕ) → Appends a b xs → Appends b c ys → Appends a c (xs ++ ys)
appends_more None b c xs ys p q = tt
appends_more (Some os) None c xs ys p q = absurd p
appends_more (Some os) (Some bs) None xs ys p q = absurd q
appends_more (Some os) (Some bs) (Some cs) xs ys p q = q ∙ ap (λ (l : List ℕ). l ++ ys) p ∙ append_assoc os xs ys

pub appends_same : (a b c : Option (List ℕ)) (xs : List ℕ) → Appends a b xs → Keeps b c → Appends a c xs
appends_same None b c xs p q = tt
appends_same (Some os) None c xs p q = absurd p
appends_same (Some os) (Some bs) None xs p q = absurd q
appends_same (Some os) (Some bs) (Some cs) xs p q = q ∙ p

pub consumes_more : (a b c : Option (List ℕ)) (xs ys : List ℕ) → Consumes a b xs → Consumes b c ys → Consumes a c (xs ++ ys)
consumes_more None b c xs ys p q = tt
consumes_more (Some os) None c xs ys p q = absurd p
consumes_more (Some os) (Some bs) None xs ys p q = absurd q
consumes_more (Some os) (Some bs) (Some cs) xs ys p q = p ∙ ap (λ (l : List ℕ). xs ++ l) q ∙ sym (append_assoc xs ys cs)

pub consumes_same : (a b c : Option (List ℕ)) (xs : List ℕ) → Consumes a b xs → Keeps b c → Consumes a c xs
consumes_same None b c xs p q = tt
consumes_same (Some os) None c xs p q = absurd p
consumes_same (Some os) (Some bs) None xs p q = absurd q
consumes_same (Some os) (Some bs) (Some cs) xs p q = p ∙ ap (λ (l : List ℕ). xs ++ l) (sym q)

pub later_same : (a : LinkState) → IsLater a a
later_same a = record { given = omega arith; read_faults = omega arith; write_faults = omega arith; may_lack = refl; may_fail = refl; tells = refl; limits = refl }

pub later_more : (a b c : LinkState) → IsLater a b → IsLater b c → IsLater a c
later_more a b c p q = record {
  given = omega (arith, p.given, q.given);
  read_faults = omega (arith, p.read_faults, q.read_faults);
  write_faults = omega (arith, p.write_faults, q.write_faults);
  may_lack = q.may_lack ∙ p.may_lack;
  may_fail = q.may_fail ∙ p.may_fail;
  tells = q.tells ∙ p.tells;
  limits = q.limits ∙ p.limits;
}

pub reading_more : (a b c : LinkState) → KeepsReading a b → KeepsReading b c → KeepsReading a c
reading_more a b c p q = record { left = q.left ∙ p.left; given = q.given ∙ p.given; read_faults = q.read_faults ∙ p.read_faults }

pub writing_more : (a b c : LinkState) → KeepsWriting a b → KeepsWriting b c → KeepsWriting a c
writing_more a b c p q = record { written = q.written ∙ p.written; write_faults = q.write_faults ∙ p.write_faults }

-- a count that rose later rose
pub risen_later : (a b c : ℕ) → a ≤ b → HasRisen b c → HasRisen a c
risen_later a b c p q = omega arith

-- what broke in the first part broke in both
first_ends : (old new : LinkState) (rest more : List ℕ) (fault : WriteFault) → EndsWriting old new rest (Err fault) → EndsWriting old new (rest ++ more) (Err fault)
first_ends old new rest more Failed e = (omega (arith, e.0, length-append rest more), e.1, e.2)
first_ends old new rest more NoMemory e = (omega (arith, e.0, length-append rest more), e.1)

pub writes_first : (old new : LinkState) (xs ys : List ℕ) (fault : WriteFault) → Writes old new xs (Err fault) → Writes old new (xs ++ ys) (Err fault)
writes_first old new xs ys fault w = record {
  done = w.done;
  rest = w.rest ++ ys;
  split = ap (λ (l : List ℕ). l ++ ys) w.split ∙ append_assoc w.done w.rest ys;
  appended = w.appended;
  ended = first_ends old new w.rest ys fault w.ended;
}

second_ends : (old mid new : LinkState) (rest : List ℕ) (result : Result (Unit {0}) WriteFault) → IsLater old mid → EndsWriting mid new rest result → EndsWriting old new rest result
second_ends old mid new rest (Ok unit) later e = e
second_ends old mid new rest (Err Failed) later e = (e.0, risen_later old.write_faults mid.write_faults new.write_faults later.write_faults e.1, rw later.may_fail at e.2)
second_ends old mid new rest (Err NoMemory) later e = (e.0, rw later.may_lack at e.1)

-- the first part whole, and then the second
pub writes_second : (old mid new : LinkState) (xs ys : List ℕ) (result : Result (Unit {0}) WriteFault) → Writes old mid xs (Ok tt) → IsLater old mid → Writes mid new ys result → Writes old new (xs ++ ys) result
writes_second old mid new xs ys result w later v =
    let whole : xs ≡ w.done = w.split ∙ ap (λ (l : List ℕ). w.done ++ l) w.ended ∙ append-nil w.done in
    record {
      done = w.done ++ v.done;
      rest = v.rest;
      split = ap (λ (l : List ℕ). l ++ ys) whole ∙ ap (λ (l : List ℕ). w.done ++ l) v.split ∙ sym (append_assoc w.done v.done v.rest);
      appended = appends_more old.written mid.written new.written w.done v.done w.appended v.appended;
      ended = second_ends old mid new v.rest result later v.ended;
    }
