-- Writing into a record that is being built.
use Rattle.std.specs.Prelude.{◌≡◌, ℕ, List, ◌++◌}
use Rattle.record_file.specs.Groups.{BuilderState}

-- Bytes are added to the last record's body.
abbrev pub Adds : BuilderState → BuilderState → List ℕ → Type 0
Adds old new bytes = new ≡ record { bodies = old.bodies; body = old.body ++ bytes }
