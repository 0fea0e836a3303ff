-- What a test has said of a name.
use Rattle.std.proofs.Common.{◌≡◌, Bool, true, false, cond, List, ℕ, Option, Some, None, refl, sym, ap, ◌∙◌}
use Rattle.conf_lex.specs.Names.{is_repo_name}
use Rattle.event_record.specs.Reading.{◌>>=◌, text_at, repo_at}

refused : (b : Bool) (text rest : List ℕ) → None ≡ cond b (Some text) None → cond {A = Option (List ℕ × List ℕ)} b (Some (text, rest)) None ≡ None
refused true text rest e = absurd cc
refused false text rest e = refl

taken : (b : Bool) (text rest name : List ℕ) → Some name ≡ cond b (Some text) None → cond {A = Option (List ℕ × List ℕ)} b (Some (text, rest)) None ≡ Some (name, rest)
taken true text rest name e = cc
taken false text rest name e = absurd cc

abbrev named : Option (List ℕ × List ℕ) → Option (List ℕ × List ℕ)
named read = read >>= λ (text : List ℕ × List ℕ). cond (is_repo_name text.0) (Some text) None

pub no_repo : (bytes text rest : List ℕ) (found : Option (List ℕ)) → text_at 65535 bytes ≡ Some (text, rest) → found ≡ cond (is_repo_name text) (Some text) None → found ≡ None → repo_at bytes ≡ None
unfolding repo_at
no_repo bytes text rest found read is none = ap named read ∙ refused (is_repo_name text) text rest (sym none ∙ is)

pub a_repo : (bytes text rest name : List ℕ) (found : Option (List ℕ)) → text_at 65535 bytes ≡ Some (text, rest) → found ≡ cond (is_repo_name text) (Some text) None → found ≡ Some name → repo_at bytes ≡ Some (name, rest)
unfolding repo_at
a_repo bytes text rest name found read is some = ap named read ∙ taken (is_repo_name text) text rest name (sym some ∙ is)
