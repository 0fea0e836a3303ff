-- What a word stands for.
use Rattle.std.proofs.Common.{◌≡◌, ℕ, Bool, true, false, cond, List, Some, None}
use Rattle.rule_compile.specs.declared.rule.UserWord.{UserWord}
use Rattle.rule_compile.specs.declared.rule.UserWord.TheVariants as user
use Rattle.rule_compile.specs.declared.rule.RepoWord.TheVariants.{Plain, Pattern}

pub plain_word : (b : Bool) (word name : List ℕ) → Some name ≡ cond b (Some word) None → Plain name ≡ cond b (Plain word) (Pattern word)
plain_word true word name h = cc
plain_word false word name h = absurd (let bad : Some name ≡ None = h in cc)

pub user_word : (b : Bool) (word name : List ℕ) (other : UserWord) → Some name ≡ cond b (Some word) None → user.Name name ≡ cond b (user.Name word) other
user_word true word name other h = cc
user_word false word name other h = absurd (let bad : Some name ≡ None = h in cc)
