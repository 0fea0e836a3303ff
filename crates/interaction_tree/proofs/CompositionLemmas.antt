-- Turns, one behind the other.
use Rattle.std.proofs.Common.{◌≡◌, ℕ, zero, suc, List, [], ◌∷◌, ◌++◌, length, take, drop, Result, Ok, Err, refl, sym, ◌∙◌, ap, append_assoc}
use Rattle.std.proofs.lemmas.List.{append-nil}
use Rattle.base_types.specs.Fronts.{Front, Whole, Broken, Partial}
use Rattle.interaction_tree.specs.Wanted.{front_of, by_front}
use Rattle.hub_history.specs.Requests.{Request}
use Rattle.interaction_tree.specs.Requests.{OwnEntry}
use Rattle.interaction_tree.specs.Interaction.{CutOff, Interaction, gives, ends, writes, reads, asks, ◌>>=◌}
use Rattle.interaction_tree.specs.Turns.{Extent, Closed, Open, Ended, Waiting, Turn, after_writing, after_reading, after_asking, cut_off, turn_over, by_stop, behind, and_then}

drop-taken : (n : ℕ) (xs ys : List ℕ) → drop (length (take n xs ++ ys)) xs ≡ drop (length ys) (drop n xs)
drop-taken zero xs ys = refl
drop-taken (suc n) [] ys = refl
drop-taken (suc n) (x ∷ xs) ys = drop-taken n xs ys

behind_writing : {E A : Type 0} (bytes : List ℕ) (used : List ℕ) (requests : List Request) (bytes' : List ℕ) (t : Turn E A) → behind used requests (bytes ++ bytes') t ≡ after_writing bytes (behind used requests bytes' t)
behind_writing bytes used requests bytes' t = λ i. record { used = used ++ t.used; requests = requests ++ t.requests; bytes = append_assoc bytes bytes' t.bytes i; stop = t.stop }

behind_reading : {E A : Type 0} (first used : List ℕ) (requests : List Request) (bytes : List ℕ) (t : Turn E A) → behind (first ++ used) requests bytes t ≡ after_reading first (behind used requests bytes t)
behind_reading first used requests bytes t = λ i. record { used = append_assoc first used t.used i; requests = requests ++ t.requests; bytes = bytes ++ t.bytes; stop = t.stop }

-- where the input ended nothing follows
cut_then : {E A B : Type 0} (extent : Extent) (input : List ℕ) (cut : CutOff E) (go : A → List ℕ → List Request → Turn E B) → cut_off extent input cut ≡ and_then (cut_off extent input cut) go
cut_then Closed input cut go = λ i. record { used = sym (append-nil input) i; requests = []; bytes = sym (append-nil cut.bytes) i; stop = Ended cut.end }
cut_then Open input cut go = λ i. record { used = sym (append-nil input) i; requests = []; bytes = []; stop = Waiting }

module _ {E A B : Type 0} (extent : Extent) (k : A → Interaction E B) where
  -- the second turn, over what is left
  rest : List ℕ → List OwnEntry → A → List ℕ → List Request → Turn E B
  rest input own value used requests = turn_over extent (k value) (drop (length used) input) (drop (length requests) own)

  reads_then : {V F : Type 0} (at : Front V F) (cut : F → CutOff E) (input : List ℕ) (own : List OwnEntry) (first : ℕ → Result V F → Turn E A) (both : ℕ → Result V F → Turn E B)
      → ((n : ℕ) (found : Result V F) → both n found ≡ and_then (first n found) (rest input own))
      → by_front at (λ fault. cut_off extent input (cut fault)) both ≡ and_then (by_front at (λ fault. cut_off extent input (cut fault)) first) (rest input own)
  reads_then (Whole n value) cut input own first both each = each n (Ok value)
  reads_then (Broken n fault) cut input own first both each = each n (Err fault)
  reads_then (Partial fault) cut input own first both each = cut_then extent input (cut fault) (rest input own)

  pub turn_bind : (t : Interaction E A) (input : List ℕ) (own : List OwnEntry) → turn_over extent (t >>= k) input own ≡ and_then (turn_over extent t input own) (λ value used requests. turn_over extent (k value) (drop (length used) input) (drop (length requests) own))
  unfolding turn_over ◌>>=◌ rest
  turn_bind (gives a) input own = refl
  turn_bind (ends e) input own = refl
  turn_bind (writes bytes t) input own =
      let u = turn_over extent t input own in
      ap (after_writing bytes) (turn_bind t input own) ∙ sym (behind_writing bytes u.used u.requests u.bytes (by_stop u.stop (λ value. rest input own value u.used u.requests)))
  turn_bind (reads wanted cut f) input own =
      reads_then (front_of wanted input) cut input own
      (λ n found. after_reading (take n input) (turn_over extent (f (record { used = n; found = found })) (drop n input) own))
      (λ n found. after_reading (take n input) (turn_over extent (f (record { used = n; found = found }) >>= k) (drop n input) own))
      (λ n found.
      let u = turn_over extent (f (record { used = n; found = found })) (drop n input) own in
      ap (after_reading (take n input)) (turn_bind (f (record { used = n; found = found })) (drop n input) own)
      ∙ sym (behind_reading (take n input) u.used u.requests u.bytes (by_stop u.stop (λ value. rest (drop n input) own value u.used u.requests)))
      ∙ (λ i. behind (take n input ++ u.used) u.requests u.bytes (by_stop u.stop (λ value. turn_over extent (k value) (sym (drop-taken n input u.used) i) (drop (length u.requests) own)))))
  turn_bind (asks request f) input [] = refl
  turn_bind (asks request f) input (one ∷ own) = ap (after_asking request) (turn_bind (f one) input own)
