-- What holds of the format of packs.
use Rattle.std.specs.Prelude.{◌≡◌, ◌↔◌, ℕ, ◌≤◌, ◌<◌, List, [], ◌∷◌, ◌++◌, length, take, slice_index}
use Rattle.base_types.specs.Fronts.{Whole, Broken}
use Rattle.git_object.specs.Content.{Content}
use Rattle.git_object.specs.Object.{FitOnePack}
use Rattle.raw_pack.specs.Grammar.{ArePackable, IsPack, spelled_pack}
use Rattle.raw_pack.specs.Packs.{pack_front}
use Rattle.raw_pack.specs.declared.fault.PackFault.{PackFault}

-- each of these numbers is a byte
abbrev pub AreBytes : List ℕ → Type 0
AreBytes xs = (i : ℕ) → slice_index xs i < 256

-- these bytes begin with a pack of these objects, of so many bytes and within the limits
pub record BeginsWith (bytes : List ℕ) (n : ℕ) (contents : List Content) : Type 0 where
  pub within : n ≤ length bytes
  pub pack : IsPack (take n bytes) contents
  pub limits : FitOnePack contents

pub record PackLaws : Type 0 where
  -- A pack stands whole at the front of an input exactly where the input begins with a pack by the grammar,
  -- within the limits.
  pub grammar : (bytes : List ℕ) (n : ℕ) (contents : List Content) → AreBytes bytes → (pack_front bytes ≡ Whole n contents) ↔ BeginsWith bytes n contents
  -- What is known of a beginning stays so, whatever follows it.
  pub whole_stays : (bytes more : List ℕ) (n : ℕ) (contents : List Content) → pack_front bytes ≡ Whole n contents → pack_front (bytes ++ more) ≡ Whole n contents
  pub broken_stays : (bytes more : List ℕ) (n : ℕ) (fault : PackFault) → pack_front bytes ≡ Broken n fault → pack_front (bytes ++ more) ≡ Broken n fault
  -- What is written is read as these objects, whatever follows it.
  pub written_is_read : (contents : List Content) (more : List ℕ) → ArePackable contents → FitOnePack contents → pack_front (spelled_pack contents ++ more) ≡ Whole (length (spelled_pack contents)) contents
  -- No pack begins another, and no bytes are the packs of two lists of objects. This holds of the grammar,
  -- beyond a reader's limits too.
  pub begins_no_other : (bytes more : List ℕ) (one other : List Content) → IsPack bytes one → IsPack (bytes ++ more) other → (more ≡ []) × (one ≡ other)
