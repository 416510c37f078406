use Rattle.std.proofs.Common.{◌≡◌, sym, ◌∙◌}
use Rattle.std.specs.Bool.{Decides}
use Rattle.std.specs.Str.{bytes_eq}
use Rattle.std.proofs.lemmas.Bool.Decides.{same_from_decides}
use Rattle.std.proofs.lemmas.Slice.Eq.{bytes_eq-Decides}
use Rattle.asn1_values.specs.IdentifierValues.{identifier_of}
use Rattle.asn1.proofs.fields.defined.is_identifier.Goals as goal

pub returns : goal.returns
returns c =
    let same = c.identifiers_compare.ensures.equality c.args.item.now c.args.known in
    let told : Decides c.eq.result (identifier_of c.args.item.now ≡ identifier_of c.args.known) = (
      λ e. same.0 (sym c.eq.ensures ∙ e),
      λ e. c.eq.ensures ∙ same.1 e,
    ) in
    let same_numbers = bytes_eq-Decides (identifier_of c.args.item.now) (identifier_of c.args.known) in
    same_from_decides c.eq.result (bytes_eq (identifier_of c.args.item.now) (identifier_of c.args.known)) told same_numbers
