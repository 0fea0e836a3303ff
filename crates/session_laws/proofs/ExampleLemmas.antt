-- A push and a fetch that a client spells.
use Rattle.std.proofs.Common.{ℕ, zero, suc, ◌<◌, true, false, [], ◌∷◌, length, get_or, codes, refl, arith, slice_index, replicate}
use Rattle.std.proofs.lemmas.Bool.{ltb-true}
use Rattle.hex.specs.Hex.{encode_with}
use Rattle.git_object.specs.Content.{Content}
use Rattle.git_object.specs.Object.{IsPackable}
use Rattle.git_object.specs.Spelling.{IsId}
use Rattle.git_object.specs.declared.kind.Kind.TheVariants.{Blob}
use Rattle.git_object.specs.declared.object_id.ObjectId.{ObjectId}
use Rattle.ref_store.specs.Refs.{zero_id}
use Rattle.ref_store.specs.declared.command.Command.{Command}
use Rattle.upload_pack.specs.declared.haves.Inquiry.TheVariants.{Have, Flush}
use Rattle.session_laws.specs.Sending.{IsCommand, first_text, first_want_text}
use Rattle.session_laws.specs.Laws.{SomeAreSpelled}

small : (n b i : ℕ) → b < 256 → slice_index (replicate n b) i < 256
small zero b i low = omega arith
small (suc n) b zero low = low
small (suc n) b (suc i) low = small n b i low

one_id : ObjectId
one_id = record { bytes = replicate 20 1 }

zero_is : IsId zero_id
zero_is = record { twenty = refl; bytes = λ i. small 20 0 i (omega arith) }

one_is : IsId one_id
unfolding one_id
one_is = record { twenty = refl; bytes = λ i. small 20 1 i (omega arith) }

command : Command
command = record { old = zero_id; new = one_id; name = codes "refs/heads/master" }

command_is : IsCommand command
unfolding command
command_is = record { old = zero_is; new = one_is; some = omega arith; short = omega arith; no_zero = refl; no_feed = refl }

blob : Content
blob = record { kind = Blob; body = codes "hello" }

one_packable : (i : ℕ) (d : Content) → i < 1 → IsPackable (get_or (blob ∷ []) i d)
unfolding blob
one_packable zero d within = record { short = omega arith; form = refl }
one_packable (suc i) d within = absurd (omega (arith, within))

pub some_are_spelled : SomeAreSpelled
unfolding command one_id blob encode_with
some_are_spelled = record {
  push = record { asking = record { user = codes "alice"; repo = codes "home"; slash = true; git = true; feed = false }; first = command; others = []; words = codes "atomic" ∷ []; objects = blob ∷ []; feed = false };
  push_is = record { asking = record { user_name = refl; repo_name = refl }; first = command_is; others = tt; few = omega arith; words = ((refl, refl), tt); fits = ltb-true (length (first_text command (codes "atomic" ∷ []))) 65516 refl; objects = record { few = omega arith; formed = one_packable; light = omega arith } };
  fetch = record { asking = record { user = codes "alice"; repo = codes "home"; slash = true; git = true; feed = false }; first = one_id; others = []; words = []; inquiries = Have one_id ∷ Flush ∷ []; feed = false };
  fetch_is = record { asking = record { user_name = refl; repo_name = refl }; first = one_is; others = tt; few = omega arith; words = tt; fits = ltb-true (length (first_want_text one_id [])) 65516 refl; inquiries = (one_is, (tt, tt)); some = omega arith };
}
