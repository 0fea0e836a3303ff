-- Offsets of records that follow one another.
use Rattle.std.proofs.Common.{◌≡◌, ℕ, ◌+◌, List, [], ◌∷◌, ◌++◌, sym, ◌∙◌, ap, arith}
use Rattle.std.proofs.lemmas.List.{map-append}
use Rattle.record_file.specs.Records.{record_size}
use Rattle.record_file.specs.Opening.{bodies_of, with_offsets}
use Rattle.record_file.specs.declared.stored_record.StoredRecord.{StoredRecord}

abbrev pub total_size : List (List ℕ) → ℕ
total_size [] = 0
total_size (body ∷ bodies) = record_size body + total_size bodies

pub total_more : (bodies : List (List ℕ)) (body : List ℕ) → total_size (bodies ++ body ∷ []) ≡ total_size bodies + record_size body
total_more [] body = omega arith
total_more (first ∷ bodies) body = omega (arith, total_more bodies body)

abbrev record_of : ℕ → List ℕ → StoredRecord
record_of offset body = record { offset = offset; body = body }

offsets_more : (offset : ℕ) (bodies : List (List ℕ)) (body : List ℕ) → with_offsets offset (bodies ++ body ∷ []) ≡ with_offsets offset bodies ++ record_of (offset + total_size bodies) body ∷ []
offsets_more offset [] body = ap (λ (n : ℕ). record_of n body ∷ []) (let same : offset ≡ offset + 0 = omega arith in same)
offsets_more offset (first ∷ bodies) body =
    ap (λ (l : List StoredRecord). record_of offset first ∷ l)
    (offsets_more (offset + record_size first) bodies body ∙ ap (λ (n : ℕ). with_offsets (offset + record_size first) bodies ++ record_of n body ∷ [])
    (let same : offset + record_size first + total_size bodies ≡ offset + (record_size first + total_size bodies) = omega arith in same))

pub bodies_more : (records after : List StoredRecord) (r : StoredRecord) → after ≡ records ++ r ∷ [] → bodies_of after ≡ bodies_of records ++ r.body ∷ []
bodies_more records after r is = ap (λ (l : List StoredRecord). bodies_of l) is ∙ map-append (λ (s : StoredRecord). s.body) records (r ∷ [])

-- one record more, at the offset that the reader had
module _ (records after : List StoredRecord) (r : StoredRecord) (start offset : ℕ) (is : after ≡ records ++ r ∷ []) (place : offset ≡ start + total_size (bodies_of records)) (at : r.offset ≡ offset) where
  pub more_place : (next : ℕ) → next ≡ offset + record_size r.body → next ≡ start + total_size (bodies_of after)
  more_place next goes = omega (arith, goes, place, ap total_size (bodies_more records after r is), total_more (bodies_of records) r.body)

  pub more_offsets : records ≡ with_offsets start (bodies_of records) → after ≡ with_offsets start (bodies_of after)
  more_offsets so_far =
      is ∙ ap (λ (l : List StoredRecord). l ++ r ∷ []) so_far
      ∙ ap (λ (n : ℕ). with_offsets start (bodies_of records) ++ record_of n r.body ∷ []) (at ∙ place)
      ∙ sym (ap (λ (l : List (List ℕ)). with_offsets start l) (bodies_more records after r is) ∙ offsets_more start (bodies_of records) r.body)
