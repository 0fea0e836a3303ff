-- One repository more, and the draws for it.
use Rattle.std.proofs.Common.{◌≡◌, ℕ, zero, suc, ◌+◌, ◌*◌, ◌%◌, List, ◌++◌, refl, sym, ◌∙◌, ap, arith, append_assoc, zero-add}
use Rattle.std.specs.List.{flat_map, range_with_len}
use Rattle.std.proofs.lemmas.List.{append-nil}
use Rattle.installation.specs.Draws.{drawn, drawn_behind}
use Rattle.installation.specs.Conf.{block, block_behind, drawn_block}

range_more : (f : ℕ → List ℕ) (a n : ℕ) → flat_map f (range_with_len a (n + 1)) ≡ flat_map f (range_with_len a n) ++ f (a + n)
range_more f a zero = grind (arith, append-nil {A = ℕ})
range_more f a (suc n) =
    let there : f (a + 1 + n) ≡ f (a + suc n) = ap f {x = a + 1 + n} {y = a + suc n} (omega arith) in
    let rest : flat_map f (range_with_len (a + 1) (n + 1)) ≡ flat_map f (range_with_len (a + 1) n) ++ f (a + suc n) = range_more f (a + 1) n ∙ ap (λ l. flat_map f (range_with_len (a + 1) n) ++ l) there in
    let one : suc n + 1 ≡ suc (n + 1) = omega arith in
    rw one (ap (λ l. f a ++ l) rest ∙ sym (append_assoc (f a) (flat_map f (range_with_len (a + 1) n)) (f (a + suc n))))

pub text_more : (start repo owner writer x : ℕ) (front text new : List ℕ) → text ≡ front ++ flat_map (drawn_block start) (range_with_len 0 repo)
    → x ≡ drawn start (2 * repo) → owner ≡ drawn_behind x % 10 → writer ≡ drawn_behind (drawn_behind x) % 10 → new ≡ text ++ block repo owner writer
    → new ≡ front ++ flat_map (drawn_block start) (range_with_len 0 (repo + 1))
text_more start repo owner writer x front text new before x_is owner_is writer_is new_is =
    let added : block repo owner writer ≡ drawn_block start repo = ap (λ o. block repo o writer) owner_is ∙ ap (λ w. block repo (drawn_behind x % 10) w) writer_is ∙ ap (λ n. block_behind n repo) x_is in
    let more : flat_map (drawn_block start) (range_with_len 0 (repo + 1)) ≡ flat_map (drawn_block start) (range_with_len 0 repo) ++ drawn_block start repo =
    range_more (drawn_block start) 0 repo ∙ ap (λ n. flat_map (drawn_block start) (range_with_len 0 repo) ++ drawn_block start n) (zero-add repo) in
    new_is ∙ ap (λ l. l ++ block repo owner writer) before ∙ append_assoc front (flat_map (drawn_block start) (range_with_len 0 repo)) (block repo owner writer)
    ∙ ap (λ l. front ++ (flat_map (drawn_block start) (range_with_len 0 repo) ++ l)) added ∙ ap (λ l. front ++ l) (sym more)

drawn_more : (start n : ℕ) → drawn start (n + 1) ≡ drawn_behind (drawn start n)
unfolding drawn
drawn_more start n = let one : n + 1 ≡ suc n = omega arith in rw one refl

pub drawn_twice : (start n : ℕ) → drawn start (2 * (n + 1)) ≡ drawn_behind (drawn_behind (drawn start (2 * n)))
drawn_twice start n =
    let twice : drawn start (2 * (n + 1)) ≡ drawn start (2 * n + 1 + 1) = ap (λ m. drawn start m) {x = 2 * (n + 1)} {y = 2 * n + 1 + 1} (omega arith) in
    twice ∙ drawn_more start (2 * n + 1) ∙ ap drawn_behind (drawn_more start (2 * n))

-- the draws of one visit
pub drawn_thrice : (start at n : ℕ) → drawn start (at + 3 * (n + 1)) ≡ drawn_behind (drawn_behind (drawn_behind (drawn start (at + 3 * n))))
drawn_thrice start at n =
    let thrice : drawn start (at + 3 * (n + 1)) ≡ drawn start (at + 3 * n + 1 + 1 + 1) = ap (λ m. drawn start m) {x = at + 3 * (n + 1)} {y = at + 3 * n + 1 + 1 + 1} (omega arith) in
    thrice ∙ drawn_more start (at + 3 * n + 1 + 1) ∙ ap drawn_behind (drawn_more start (at + 3 * n + 1) ∙ ap drawn_behind (drawn_more start (at + 3 * n)))
