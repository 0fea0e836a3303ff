-- An advertisement, ref by ref.
use Rattle.std.proofs.Common.{◌≡◌, ℕ, ◌≤◌, suc, Bool, true, false, cond, List, [], ◌∷◌, ◌++◌, length, map, codes, refl, ap, append_assoc, arith, subst}
use Rattle.std.proofs.lemmas.List.{append-nil}
use Rattle.std.specs.List.{All, flat_map}
use Rattle.std.specs.FinMap.{entries}
use Rattle.git_object.specs.declared.object_id.ObjectId.{ObjectId}
use Rattle.pktline_core.specs.Packets.{spelling, Flush}
use Rattle.ref_store.specs.Refs.{Name, Refs, zero_id}
use Rattle.session_core.specs.Packets.{packet}
use Rattle.receive_pack.specs.Texts.{advertisement, advertised, advertised_lines, first_line, more_line}

-- what is still to be written of an advertisement, with these refs left: the first line bears the
-- capabilities
pub rest_text : Bool → List (Name × ObjectId) → List ℕ
rest_text true refs = flat_map packet (advertised_lines (advertised refs)) ++ spelling Flush
rest_text false refs = flat_map packet (map more_line refs) ++ spelling Flush

pub rest_whole : (refs : List (Name × ObjectId)) → rest_text true refs ≡ flat_map packet (advertised_lines (advertised refs)) ++ spelling Flush
unfolding rest_text
rest_whole refs = refl

pub rest_more : (first : Bool) (ref : Name × ObjectId) (refs : List (Name × ObjectId)) → rest_text first (ref ∷ refs) ≡ packet (cond first (first_line ref) (more_line ref)) ++ rest_text false refs
unfolding rest_text
rest_more true ref refs = append_assoc (packet (first_line ref)) (flat_map packet (map more_line refs)) (spelling Flush)
rest_more false ref refs = append_assoc (packet (more_line ref)) (flat_map packet (map more_line refs)) (spelling Flush)

pub rest_none : (first : Bool) → rest_text first [] ≡ cond first (packet (first_line (codes "capabilities^{}", zero_id))) [] ++ spelling Flush
unfolding rest_text
rest_none true = ap (λ (l : List ℕ). l ++ spelling Flush) (append-nil (packet (first_line (codes "capabilities^{}", zero_id))))
rest_none false = refl

pub advertisement_is : (refs : Refs) → advertisement refs ≡ rest_text true (entries refs)
unfolding rest_text advertisement
advertisement_is refs = refl

-- ---- what holds of each ref that is left

abbrev pub AreShort : List (Name × ObjectId) → Type 0
AreShort refs = All (λ (ref : Name × ObjectId). length ref.0 ≤ 1024) refs

pub short_rest : (refs : List (Name × ObjectId)) (ref : Name × ObjectId) (rest : List (Name × ObjectId)) → refs ≡ ref ∷ rest → AreShort refs → AreShort rest
short_rest refs ref rest is short = λ k d within. subst AreShort is short (suc k) d (omega (arith, within))

pub short_first : (refs : List (Name × ObjectId)) (ref : Name × ObjectId) (rest : List (Name × ObjectId)) → refs ≡ ref ∷ rest → AreShort refs → length ref.0 ≤ 1024
short_first refs ref rest is short = subst AreShort is short 0 ref (omega arith)
