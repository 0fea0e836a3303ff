-- An option, seen as its texts.
use Rattle.std.specs.Prelude.{map, string_bytes}
use Rattle.shell_words.specs.Options as text
use Rattle.shell_words.specs.declared.options.Given.{Given}

abbrev pub given_of : Given → text.Given
given_of g = record { flag = g.flag; value = g.value.now; rest = map string_bytes g.rest.now }
