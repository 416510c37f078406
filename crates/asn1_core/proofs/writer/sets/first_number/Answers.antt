use Rattle.std.proofs.Common.{◌∙◌, ap}
use Rattle.asn1_core.specs.Base256.{number}
use Rattle.asn1_core.proofs.Firsts.{append_drop_zeros}
use Rattle.asn1_core.proofs.writer.sets.first_number.Goals as goal

pub returns : goal.returns
returns c = c.number_in.ensures ∙ ap number (append_drop_zeros c.args.text.now c.copy_from_slice.new.self c.min-count.result c.min-count.ensures c.copy_from_slice.ensures.after)
