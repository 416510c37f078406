-- One more location.
use Rattle.std.proofs.Common.{◌≡◌, List, ◌∷◌, [], length, sym, ap}
use Rattle.std.proofs.lemmas.List.{take_at}
use Rattle.asn1_core.specs.declared.parser.ParseErrorKind.{ParseErrorKind}
use Rattle.asn1_core.specs.declared.parser.Place.{Place}
use Rattle.asn1_core.specs.ReadError.{ReadError, within}

abbrev at : ParseErrorKind → List Place → ReadError
at kind places = record { kind = kind; places = places }

-- if as many locations as possible are kept, one more is dropped
pub within_eight_locations : (kind : ParseErrorKind) (places : List Place) (place : Place) → length places ≡ 8 → at kind places ≡ within place (at kind places)
within_eight_locations kind places place full = ap (at kind) (sym (take_at places (place ∷ []) 8 full))
