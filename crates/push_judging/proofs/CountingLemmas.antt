-- How many commands are for a ref.
use Rattle.std.proofs.Common.{◌≡◌, ℕ, zero, suc, ◌+◌, ◌<◌, Bool, true, false, cond, List, [], take, length, get_or, nat_le, nat_lt, add-one, refl, sym, ◌∙◌, ap, arith}
use Rattle.std.specs.Prelude.{Option, Some, is_some, Result, Ok, Err, IfOk}
use Rattle.std.specs.List.{count_by}
use Rattle.std.specs.Option.{option_map_or}
use Rattle.std.specs.FinMap.{get, insert, empty, get-insert, get-empty}
use Rattle.std.specs.Ordering.{nat_cmp}
use Rattle.std.specs.Cmp.Lexicographic.{slice_cmp, nat_list_cmp_total, texts_ties}
use Rattle.std.proofs.lemmas.Bool.Decides.{nat_tests}
use Rattle.std.proofs.lemmas.List.Sums.{count_by_more_yes, count_by_more_no}
use Rattle.base_types.specs.Names.{ByName}
use Rattle.base_types.specs.declared.no_memory.NoMemory.{NoMemory}
use Rattle.ref_store.specs.Refs.{Name}
use Rattle.ref_store.specs.declared.command.Command.{Command}
use Rattle.ref_store.proofs.ObjectLemmas.{same_bytes}
use Rattle.hub_history.specs.Push.{is_named_twice}
use Rattle.hub_history.specs.State.{same_name}
use Rattle.push_judging.specs.Counting.{Counts, TellsOfSeveral, kept_of}

-- what is kept of a ref with one command more for it
kept_more : (n : ℕ) → Some (is_some (kept_of n)) ≡ kept_of (suc n)
kept_more zero = refl
kept_more (suc n) = let later : nat_lt 0 (suc n) ≡ true = grind (arith, nat_tests) in ap (λ (b : Bool). Some b) (sym later)

-- the refs of the commands so far, and of one more
pub counts_none : (names : ByName Bool) → names ≡ empty → Counts names []
counts_none names none q = ap (λ (m : ByName Bool). get m q) none ∙ get-empty {X = Bool} (slice_cmp nat_cmp) q

abbrev is_for : Name → Command → Bool
is_for name c = same_name name c.name

pub counts_more : (names new : ByName Bool) (cs : List Command) (i : ℕ) (c : Command) → i < length cs → c ≡ get_or cs i c → Counts names (take i cs) → new ≡ insert names c.name (is_some (get names c.name)) → Counts new (take (i + 1) cs)
counts_more names new cs i c below is counts put q = by_name (same_name q c.name) refl
  where
    got : get new q ≡ cond (same_name q c.name) (Some (is_some (get names c.name))) (get names q)
    got =
        ap (λ (m : ByName Bool). get m q) put
        ∙ get-insert nat_list_cmp_total names c.name (is_some (get names c.name)) q
        ∙ ap (λ b. cond b (Some (is_some (get names c.name))) (get names q)) (sym (texts_ties q c.name))

    by_name : (b : Bool) → same_name q c.name ≡ b → get new q ≡ kept_of (count_by (is_for q) (take (i + 1) cs))
    by_name true e =
        let named : q ≡ c.name = same_bytes q c.name e in
        let yes : is_for q (get_or cs i c) ≡ true = ap (is_for q) (sym is) ∙ e in
        got
        ∙ ap (λ b. cond b (Some (is_some (get names c.name))) (get names q)) e
        ∙ ap (λ (n : Name). Some (is_some (get names n))) (sym named)
        ∙ ap (λ (o : Option Bool). Some (is_some o)) (counts q)
        ∙ kept_more (count_by (is_for q) (take i cs))
        ∙ ap kept_of (sym (count_by_more_yes (is_for q) cs i c below yes ∙ add-one (count_by (is_for q) (take i cs))))
    by_name false e =
        let no : is_for q (get_or cs i c) ≡ false = ap (is_for q) (sym is) ∙ e in
        got ∙ ap (λ b. cond b (Some (is_some (get names c.name))) (get names q)) e ∙ counts q ∙ ap kept_of (sym (count_by_more_no (is_for q) cs i c below no))

-- a ref with several commands
twice_of : (n : ℕ) → option_map_or (λ (t : Bool). t) (kept_of n) false ≡ nat_le 2 n
twice_of zero = refl
twice_of (suc zero) = refl
twice_of (suc (suc n)) =
    let several : nat_lt 0 (suc n) ≡ true = grind (arith, nat_tests) in
    let two : nat_le 2 (suc (suc n)) ≡ true = grind (arith, nat_tests) in
    several ∙ sym two

twice_is : (names : ByName Bool) (cs : List Command) (name : Name) → Counts names cs → option_map_or (λ (t : Bool). t) (get names name) false ≡ is_named_twice cs name
twice_is names cs name counts = ap (λ (o : Option Bool). option_map_or (λ (t : Bool). t) o false) (counts name) ∙ twice_of (count_by (λ (c : Command). same_name name c.name) cs)

-- no ref has several commands, and the map has no ref
pub none_several : (names : ByName Bool) (cs : List Command) → names ≡ empty → ((name : Name) → is_named_twice cs name ≡ false) → TellsOfSeveral names cs
none_several names cs none once = λ q.
    ap (λ (m : ByName Bool). option_map_or (λ (t : Bool). t) (get m q) false) none
    ∙ ap (λ (o : Option Bool). option_map_or (λ (t : Bool). t) o false) (get-empty {X = Bool} (slice_cmp nat_cmp) q)
    ∙ sym (once q)

pub counted_several : (cs : List Command) (r : Result (ByName Bool) NoMemory) → IfOk r (λ names. Counts names cs) → IfOk r (λ names. TellsOfSeveral names cs)
counted_several cs (Ok names) counts = λ name. twice_is names cs name counts
counted_several cs (Err e) counts = tt
