-- The rules that may cover a repository, and the first that meets a test.
use Rattle.std.proofs.Common.{◌≡◌, ℕ, suc, zero, ◌+◌, List, [], ◌∷◌, ◌++◌, length, filter, Bool, true, false, cond, ◌&&◌, ◌||◌, Option, Some, None, refl, sym, ap, ◌∙◌, subst, arith, append_assoc, length-append}
use Rattle.std.specs.List.{AllByRecursion, find, list_any}
use Rattle.std.proofs.lemmas.Bool.{and_left, both_ways}
use Rattle.std.proofs.lemmas.Option.{slice_get_read, slice_get_within}
use Rattle.std.proofs.Math.Seq.{get_or-append_seam}
use Rattle.rule_compile.specs.Covering.{covers_repo, may_cover, rules_for}
use Rattle.rule_compile.specs.Flat.{IsNumber, numbered}
use Rattle.rule_compile.specs.Index.{AreNumbered, AreNumberedFrom}
use Rattle.rule_compile.specs.Patterns.{Patterns}
use Rattle.rule_compile.specs.declared.rule.RepoWord.{RepoWord}
use Rattle.rule_compile.specs.declared.rule.RepoWord.TheVariants as repo
use Rattle.rule_compile.specs.declared.rule.Rule.{Rule}
use Rattle.conf_lex.specs.declared.perm.Perm.{Perm}
use Rattle.access_check.specs.Letters.{flags_of, some_rule_has}
use Rattle.access_check.specs.declared.letters.Flags.{Flags}
use Rattle.access_check.specs.Questions.{AllLead, Leads, joined, with_perm, with_rule}
use Rattle.access_check.specs.Users.{Asked, covers_user}
use Rattle.access_check.specs.Verdicts.{covers}

-- ---- numbers lead to rules

all_kept : (P : Rule → Type 0) (b : Bool) (rule : Rule) (rest : List Rule) → P rule → AllByRecursion P rest → AllByRecursion P (cond b (rule ∷ rest) rest)
all_kept P true rule rest is all = (is, all)
all_kept P false rule rest is all = all

leads_at : (before : List Rule) (rule : Rule) (rest : List Rule) (n : ℕ) → n ≡ length before + 1 → rule.seq ≡ n → Leads (before ++ rule ∷ rest) rule
leads_at before rule rest n at is =
    let seq : rule.seq ≡ suc (length before) = omega arith in
    ap (λ (k : ℕ). numbered (before ++ rule ∷ rest) k) seq
    ∙ slice_get_read (before ++ rule ∷ rest) (length (before ++ rule ∷ rest)) (length before) rule refl (omega (arith, length-append before (rule ∷ rest))) (sym (get_or-append_seam before rule rest rule))

lead_from : (before rules : List Rule) (n : ℕ) → n ≡ length before + 1 → AreNumberedFrom n rules → AllLead (before ++ rules) rules
lead_from before [] n at are = tt
lead_from before (r ∷ rs) n at are = (
  leads_at before r rs n at are.0,
  subst (λ (all : List Rule). AllLead all rs) (append_assoc before (r ∷ []) rs) (lead_from (before ++ r ∷ []) rs (suc n) (omega (arith, length-append before (r ∷ []))) are.1),
)

pub rules_lead : (rules : List Rule) → AreNumbered rules → AllLead rules rules
rules_lead rules are = lead_from [] rules 1 refl are

all_filter : (P : Rule → Type 0) (keep : Rule → Bool) (rules : List Rule) → AllByRecursion P rules → AllByRecursion P (filter keep rules)
all_filter P keep [] all = tt
all_filter P keep (r ∷ rs) all = all_kept P (keep r) r (filter keep rs) all.0 (all_filter P keep rs all.1)

pub all_lead : (rules : List Rule) → AreNumbered rules → (name : List ℕ) → AllLead rules (rules_for rules name)
all_lead rules are name = all_filter (Leads rules) (λ (rule : Rule). may_cover name rule.repo) rules (rules_lead rules are)

within_numbers : (rules : List Rule) (n : ℕ) (rule : Rule) → numbered rules n ≡ Some rule → IsNumber rules n
within_numbers rules zero rule is = cc is
within_numbers rules (suc n) rule is = (omega arith, omega (arith, slice_get_within rules n rule is))

pub is_number : (rules : List Rule) (rule : Rule) → Leads rules rule → IsNumber rules rule.seq
is_number rules rule leads = within_numbers rules rule.seq rule leads

-- ---- only the rules that may cover a repository cover it

not_covered : (ps : Patterns) (word : RepoWord) (name : List ℕ) (creator : Option (List ℕ)) → may_cover name word ≡ false → covers_repo ps word name creator ≡ false
not_covered ps (repo.Plain plain) name creator other = other
not_covered ps repo.All name creator other = other
not_covered ps (repo.Pattern text) name creator other = absurd (both_ways true other refl)

one_found : {X : Type 0} (test : X → Bool) (b : Bool) (x : X) (some all : List X) → (b ≡ false → test x ≡ false) → find test some ≡ find test all
    → find test (cond b (x ∷ some) some) ≡ cond (test x) (Some x) (find test all)
one_found {X} test true x some all misses same = ap (λ (o : Option X). cond (test x) (Some x) o) same
one_found {X} test false x some all misses same = same ∙ ap (λ (b : Bool). cond b (Some x) (find test all)) (sym (misses refl))

pub find_kept : {X : Type 0} (test keep : X → Bool) → ((x : X) → keep x ≡ false → test x ≡ false) → (xs : List X) → find test (filter keep xs) ≡ find test xs
find_kept test keep misses [] = refl
find_kept test keep misses (x ∷ xs) = one_found test (keep x) x (filter keep xs) xs (misses x) (find_kept test keep misses xs)

one_met : {X : Type 0} (test : X → Bool) (b : Bool) (x : X) (some all : List X) → (b ≡ false → test x ≡ false) → list_any test some ≡ list_any test all
    → list_any test (cond b (x ∷ some) some) ≡ (test x || list_any test all)
one_met test true x some all misses same = ap (λ (b : Bool). test x || b) same
one_met test false x some all misses same = same ∙ ap (λ (b : Bool). b || list_any test all) (sym (misses refl))

pub any_kept : {X : Type 0} (test keep : X → Bool) → ((x : X) → keep x ≡ false → test x ≡ false) → (xs : List X) → list_any test (filter keep xs) ≡ list_any test xs
any_kept test keep misses [] = refl
any_kept test keep misses (x ∷ xs) = one_met test (keep x) x (filter keep xs) xs (misses x) (any_kept test keep misses xs)

pub covers_some : (ps : Patterns) (name : List ℕ) (creator : Option (List ℕ)) (more : Rule → Bool) (rule : Rule) → may_cover name rule.repo ≡ false
    → (covers_repo ps rule.repo name creator && more rule) ≡ false
covers_some ps name creator more rule other = and_left (covers_repo ps rule.repo name creator) (more rule) (not_covered ps rule.repo name creator other)

pub asks_some : (ps : Patterns) (a : Asked) (more : Rule → Bool) (rule : Rule) → may_cover a.repo rule.repo ≡ false → (covers ps a rule && more rule) ≡ false
asks_some ps a more rule other = and_left (covers ps a rule) (more rule) (covers_some ps a.repo a.creator (λ r. covers_user a r.user) rule other)

-- ---- a walk over the rules that are left

pub pass_over : (test : Rule → Bool) (rule : Rule) (rest left all : List Rule) → left ≡ rule ∷ rest → test rule ≡ false → find test left ≡ find test all → find test rest ≡ find test all
pass_over test rule rest left all is missed same = sym (ap (λ (xs : List Rule). find test xs) is ∙ ap (λ (b : Bool). cond b (Some rule) (find test rest)) missed) ∙ same

pub stop_at : (test : Rule → Bool) (rule : Rule) (rest left all : List Rule) → left ≡ rule ∷ rest → test rule ≡ true → find test left ≡ find test all → Some rule ≡ find test all
stop_at test rule rest left all is met same = sym (ap (λ (xs : List Rule). find test xs) is ∙ ap (λ (b : Bool). cond b (Some rule) (find test rest)) met) ∙ same

pub run_out : (test : Rule → Bool) (left all : List Rule) → left ≡ [] → find test left ≡ find test all → None ≡ find test all
run_out test left all is same = sym (ap (λ (xs : List Rule). find test xs) is) ∙ same

pub pass_by : (test : Rule → Bool) (rule : Rule) (rest left all : List Rule) → left ≡ rule ∷ rest → test rule ≡ false → list_any test left ≡ list_any test all → list_any test rest ≡ list_any test all
pass_by test rule rest left all is missed same = sym (ap (λ (xs : List Rule). list_any test xs) is ∙ ap (λ (b : Bool). b || list_any test rest) missed) ∙ same

pub met_at : (test : Rule → Bool) (rule : Rule) (rest left all : List Rule) → left ≡ rule ∷ rest → test rule ≡ true → list_any test left ≡ list_any test all → true ≡ list_any test all
met_at test rule rest left all is met same = sym (ap (λ (xs : List Rule). list_any test xs) is ∙ ap (λ (b : Bool). b || list_any test rest) met) ∙ same

pub none_met : (test : Rule → Bool) (left all : List Rule) → left ≡ [] → list_any test left ≡ list_any test all → false ≡ list_any test all
none_met test left all is same = sym (ap (λ (xs : List Rule). list_any test xs) is) ∙ same

pub lead_first : (rules : List Rule) (rule : Rule) (rest left : List Rule) → left ≡ rule ∷ rest → AllLead rules left → Leads rules rule
lead_first rules rule rest left is all = (subst (λ (xs : List Rule). AllLead rules xs) is all).0

pub lead_rest : (rules : List Rule) (rule : Rule) (rest left : List Rule) → left ≡ rule ∷ rest → AllLead rules left → AllLead rules rest
lead_rest rules rule rest left is all = (subst (λ (xs : List Rule). AllLead rules xs) is all).1

-- ---- the letters in force

same_flags : (a b c d e f : Bool) → a ≡ d → b ≡ e → c ≡ f → record { create = a; delete = b; merge = c } ≡ (let g : Flags = record { create = d; delete = e; merge = f } in g)
same_flags a b c d e f p q r =
    ap (λ (x : Bool). let g : Flags = record { create = x; delete = b; merge = c } in g) p
    ∙ ap (λ (x : Bool). let g : Flags = record { create = d; delete = x; merge = c } in g) q
    ∙ ap (λ (x : Bool). let g : Flags = record { create = d; delete = e; merge = x } in g) r

or_assoc : (a b c : Bool) → ((a || b) || c) ≡ (a || (b || c))
or_assoc true b c = refl
or_assoc false b c = refl

or_none : (a : Bool) → (a || false) ≡ a
or_none true = refl
or_none false = refl

pub none_joined : (flags : Flags) → joined flags (record { create = false; delete = false; merge = false }) ≡ flags
none_joined flags = same_flags (flags.create || false) (flags.delete || false) (flags.merge || false) flags.create flags.delete flags.merge (or_none flags.create) (or_none flags.delete) (or_none flags.merge)

one_joined : (b : Bool) (perm : Perm) (flags rest : Flags)
    → joined (cond b (with_perm flags perm) flags) rest
    ≡ joined flags (record { create = (b && perm.create) || rest.create; delete = (b && perm.delete) || rest.delete; merge = (b && perm.merge) || rest.merge })
one_joined true perm flags rest =
    same_flags ((flags.create || perm.create) || rest.create) ((flags.delete || perm.delete) || rest.delete) ((flags.merge || perm.merge) || rest.merge)
    (flags.create || (perm.create || rest.create)) (flags.delete || (perm.delete || rest.delete)) (flags.merge || (perm.merge || rest.merge))
    (or_assoc flags.create perm.create rest.create) (or_assoc flags.delete perm.delete rest.delete) (or_assoc flags.merge perm.merge rest.merge)
one_joined false perm flags rest = refl

pub flags_more : (ps : Patterns) (name : List ℕ) (creator : Option (List ℕ)) (flags more : Flags) (rule : Rule) (rest left all : List Rule) → left ≡ rule ∷ rest → more ≡ with_rule ps name creator flags rule
    → joined flags (flags_of ps left name creator) ≡ flags_of ps all name creator → joined more (flags_of ps rest name creator) ≡ flags_of ps all name creator
flags_more ps name creator flags more rule rest left all is grown same =
    ap (λ (f : Flags). joined f (flags_of ps rest name creator)) grown
    ∙ one_joined (covers_repo ps rule.repo name creator) rule.perm flags (flags_of ps rest name creator)
    ∙ sym (ap (λ (xs : List Rule). joined flags (flags_of ps xs name creator)) is)
    ∙ same

pub flags_kept : (ps : Patterns) (rules : List Rule) (name : List ℕ) (creator : Option (List ℕ)) → flags_of ps (rules_for rules name) name creator ≡ flags_of ps rules name creator
flags_kept ps rules name creator =
    same_flags _ _ _ _ _ _ (kept (λ (perm : Perm). perm.create)) (kept (λ (perm : Perm). perm.delete)) (kept (λ (perm : Perm). perm.merge))
  where
    kept : (has_letter : Perm → Bool) → some_rule_has ps (rules_for rules name) name creator has_letter ≡ some_rule_has ps rules name creator has_letter
    kept has_letter = any_kept (λ (rule : Rule). covers_repo ps rule.repo name creator && has_letter rule.perm) (λ (rule : Rule). may_cover name rule.repo)
        (λ rule other. covers_some ps name creator (λ (r : Rule). has_letter r.perm) rule other) rules
