use Rattle.std.proofs.Common.{refl, inl}
use Rattle.dercheck.proofs.Framings.{leading_element_empty}
use Rattle.dercheck.proofs.pending.Pending.new.Goals as goal

pub returns : goal.returns
returns c = inl (record { stage = refl; kept = refl; short = leading_element_empty })
