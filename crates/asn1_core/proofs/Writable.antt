-- What is asked of the closures in a value.
use Rattle.std.proofs.Common.{inl, inr}
use Rattle.asn1_core.specs.Der.{Der, IsWritable}

pub writable_closures : {V : Type 0} (d : Der V) (m : d.Meaning) → IsWritable d m → d.closures m
writable_closures d m (inl plain) = d.laws.no_closures plain m
writable_closures d m (inr kept) = kept
