use Rattle.std.proofs.Common.{◌≡◌, ◌∙◌, ap, arith, rules}
use Rattle.hex.specs.Hex.{encode_lower}
use Rattle.git_object.specs.ObjectId.{id_of_hex}
use Rattle.git_object.proofs.IdLemmas.{id_of_hex-encode_lower}
use Rattle.git_object.proofs.object_id.digits_of.Goals as goal

pub returns-clause-text : goal.returns-clause-text
returns-clause-text c = search rules

pub returns-clause-read_back : goal.returns-clause-read_back
returns-clause-read_back c =
    let text : c.encode_to_slice.new.output ≡ encode_lower c.args.bytes.now = returns-clause-text c in
    ap id_of_hex text ∙ id_of_hex-encode_lower c.args.bytes.now c.requires (λ i. omega (arith, c.type_inv.bytes i))
