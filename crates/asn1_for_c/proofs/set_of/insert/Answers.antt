use Rattle.asn1_for_c.proofs.InOrder.{put_mid_place_encoding}
use Rattle.asn1_for_c.proofs.set_of.insert.Goals as goal

pub returns : goal.returns
returns c = λ encodings are. put_mid_place_encoding c.args.listed.now c.args.text.now c.copy_from_slice.new.self c.rotate_right.new.self c.place_of-at.result encodings c.requires c.place_of-at.ensures.within c.copy_from_slice.ensures.after c.rotate_right.ensures.after (c.place_of-at.ensures.place encodings are)
