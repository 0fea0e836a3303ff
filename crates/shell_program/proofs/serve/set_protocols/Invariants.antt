use Rattle.std.proofs.Common.{◌≡◌, ◌<◌, ℕ}
use Rattle.std.specs.Prelude.{slice_index_or}
use Rattle.shell_program.proofs.serve.set_protocols.Given as goal

abbrev pub invariant-loop-place : goal.invariant-loop-place
invariant-loop-place g l = record {
  doors : (k : ℕ) (d : _) → (slice_index_or l.posts k d).door ≡ (slice_index_or l.initial.posts k d).door;
  protocols : (k : ℕ) (d : _) → k < l.place → (slice_index_or l.posts k d).protocol ≡ l.protocol;
}
