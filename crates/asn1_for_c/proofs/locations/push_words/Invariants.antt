use Rattle.std.proofs.Common.{◌≡◌, ◌++◌, ℕ, List, drop, false}
use Rattle.asn1_for_c.specs.Locations.{Appends, in_capitals}
use Rattle.asn1_for_c.proofs.locations.push_words.Given as goal

abbrev pub invariant-loop-octet : goal.invariant-loop-octet
invariant-loop-octet l = (done : List ℕ) × Appends done l.fn.buffer l.fn.count l.buffer l.count × (done ++ in_capitals l.is_capital (drop l.octet-index l.field) ≡ in_capitals false l.field)
