-- What further words make of a command.
use Rattle.std.proofs.Common.{◌≡◌, ◌<◌, ℕ, List, [], ◌∷◌, length, refl, arith}
use Rattle.std.specs.Prelude.{None}
use Rattle.shell_words.specs.Options.{Given}
use Rattle.shell_words.specs.Commands.{admin_with, serve_of_three}
use Rattle.shell_words.specs.declared.commands.Transport.{Transport}
use Rattle.shell_words.specs.declared.options.Flag.{Flag}
use Rattle.shell_words.specs.declared.options.Flag.TheVariants.{Admin, Workers, Sessions}

-- words behind the option `--admin`
pub admin_with-more : (flag : Flag) (value : List ℕ) (rest : List (List ℕ)) → 0 < length rest → admin_with flag value rest ≡ None
admin_with-more Admin value [] more = absurd (omega arith)
admin_with-more Admin value (word ∷ rest) more = refl
admin_with-more Workers value rest more = refl
admin_with-more Sessions value rest more = refl

-- words behind the third option
pub serve_of_three-more : (transport : Transport) (a b c : Given) (rest : List (List ℕ)) → 0 < length rest → serve_of_three transport a b c rest ≡ None
serve_of_three-more transport a b c [] more = absurd (omega arith)
serve_of_three-more transport a b c (word ∷ rest) more = refl
