-- Rules that are pushed one after another.
use Rattle.std.proofs.Common.{◌≡◌, ◌++◌, List, [], ◌∷◌, Bool, true, false, refl, Ok, Err, length, nat_lt, cond, ap, ◌∙◌}
use Rattle.conf_lex.specs.declared.perm.Perm.{Perm}
use Rattle.conf_groups.specs.declared.placed.PlacedLine.{PlacedLine}
use Rattle.rule_compile.specs.Answers.{Pushes}
use Rattle.rule_compile.specs.Flat.{pushed, with_rule, Draft, Step, ◌>>=◌}
use Rattle.rule_compile.specs.declared.rule.Rule.{Rule}
use Rattle.rule_compile.specs.declared.fault.RuleKind.{RuleKind}
use Rattle.rule_compile.specs.declared.stop.Stop.{Stop}
use Rattle.rule_compile.specs.declared.stop.Stop.TheVariants.{OutOfMemory, Refused}
use Rattle.rule_compile.specs.declared.limits.TheConstants.{MAX_RULES}

either : (b : Bool) (x y : Step (List Rule)) (f : List Rule → Step (List Rule)) (e : RuleKind) → x ≡ (y >>= f) → cond b x (Err e) ≡ (cond b y (Err e) >>= f)
either true x y f e h = h
either false x y f e h = refl

-- some more rules, and then others
pub pushed_twice : (l : PlacedLine) (perm : Perm) (rules : List Rule) (xs ys : List Draft) → pushed l perm rules (xs ++ ys) ≡ (pushed l perm rules xs >>= λ more. pushed l perm more ys)
pushed_twice l perm rules [] ys = refl
pushed_twice l perm rules (d ∷ ds) ys = either (nat_lt (length rules) MAX_RULES) _ _ _ _ (pushed_twice l perm (with_rule l perm rules d) ds ys)

-- where the first go in, the others are pushed on what they leave
pub pushed_on : (l : PlacedLine) (perm : Perm) (rules more : List Rule) (xs ys : List Draft) → pushed l perm rules xs ≡ Ok more → pushed l perm rules (xs ++ ys) ≡ pushed l perm more ys
pushed_on l perm rules more xs ys h = pushed_twice l perm rules xs ys ∙ ap (λ r. r >>= λ m. pushed l perm m ys) h

-- where they don't, the fault stays
pub pushed_fails : (l : PlacedLine) (perm : Perm) (rules : List Rule) (xs ys : List Draft) (e : RuleKind) → pushed l perm rules xs ≡ Err e → pushed l perm rules (xs ++ ys) ≡ Err e
pushed_fails l perm rules xs ys e h = pushed_twice l perm rules xs ys ∙ ap (λ r. r >>= λ m. pushed l perm m ys) h

-- an exit with the fault of an inner push
pub fails_on : (X Y : Type 0) (stop : Stop) (l : PlacedLine) (perm : Perm) (more left : List Rule) (xs ys : List Draft) (due : Step (List Rule)) → due ≡ pushed l perm more (xs ++ ys) → Pushes {X = X} (Err stop) left (pushed l perm more xs) → Pushes {X = Y} (Err stop) left due
fails_on X Y (Refused k) l perm more left xs ys due h f = h ∙ pushed_fails l perm more xs ys k f
fails_on X Y OutOfMemory l perm more left xs ys due h f = tt
