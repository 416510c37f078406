use Rattle.std.proofs.Common.{arith}
use Rattle.asn1_values.proofs.WideTexts.{is_utf16_text_is_paired}
use Rattle.asn1_values.proofs.values.wide_texts.is_utf16_text.Goals as goal

pub returns : goal.returns
returns c = is_utf16_text_is_paired c.args.octets.now c.loop-at.at (omega (arith, c.if-octets-ne0.false)) c.loop-at.invariant.0 (omega (arith, c.loop-at-test.false)) c.loop-at.invariant.2
