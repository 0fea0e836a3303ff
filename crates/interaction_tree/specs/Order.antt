-- Interactions that make no entry after they wrote something, before they read again.
use Rattle.std.specs.Prelude.{◌≡◌, ⊤, Bool, true, false}
use Rattle.interaction_tree.specs.Wanted.{Reply}
use Rattle.interaction_tree.specs.Requests.{OwnEntry}
use Rattle.interaction_tree.specs.Interaction.{Interaction, gives, ends, writes, reads, asks}

-- Between two readings, entries come first and bytes after them: `wrote` says whether it has written since it
-- last read. Where it gives its value, `then` holds of that and of the value.
unfoldable pub EntriesFirst : {E A : Type 0} → Bool → Interaction E A → (Bool → A → Type 0) → Type 0
EntriesFirst wrote (gives a) then = then wrote a
EntriesFirst wrote (ends e) then = ⊤
EntriesFirst wrote (writes bytes t) then = EntriesFirst true t then
EntriesFirst wrote (reads wanted cut f) then = (reply : Reply wanted) → EntriesFirst false (f reply) then
EntriesFirst wrote (asks request f) then = (wrote ≡ false) × ((own : OwnEntry) → EntriesFirst wrote (f own) then)

-- the same of a whole session, before which nothing was written
abbrev pub IsOrdered : {E A : Type 0} → Interaction E A → Type 0
IsOrdered t = EntriesFirst false t (λ wrote a. ⊤)
