use Rattle.asn1.proofs.lists.sequence_of.SequenceOfSimpleAsn1Writable.TheImpl.Goals as goal

pub writes_as_read-tells : goal.writes_as_read-tells
writes_as_read-tells g c = λ is v e. c.ensures is e
