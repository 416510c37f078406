use Rattle.dercheck.proofs.replies.reply_to_octets.Goals as goal

pub returns-in-Bool-clause-ok : goal.returns-in-Bool-clause-ok
returns-in-Bool-clause-ok c = rw c.in-Bool.is c.reply_as.ensures.ok

pub returns-in-Tlv-clause-ok : goal.returns-in-Tlv-clause-ok
returns-in-Tlv-clause-ok c = rw c.in-Tlv.is c.reply_as-in-Tlv.ensures.ok

pub returns-in-I8-clause-ok : goal.returns-in-I8-clause-ok
returns-in-I8-clause-ok c = rw c.in-I8.is c.reply_as-in-I8.ensures.ok

pub returns-in-U8-clause-ok : goal.returns-in-U8-clause-ok
returns-in-U8-clause-ok c = rw c.in-U8.is c.reply_as-in-U8.ensures.ok

pub returns-in-I16-clause-ok : goal.returns-in-I16-clause-ok
returns-in-I16-clause-ok c = rw c.in-I16.is c.reply_as-in-I16.ensures.ok

pub returns-in-U16-clause-ok : goal.returns-in-U16-clause-ok
returns-in-U16-clause-ok c = rw c.in-U16.is c.reply_as-in-U16.ensures.ok

pub returns-in-I32-clause-ok : goal.returns-in-I32-clause-ok
returns-in-I32-clause-ok c = rw c.in-I32.is c.reply_as-in-I32.ensures.ok

pub returns-in-U32-clause-ok : goal.returns-in-U32-clause-ok
returns-in-U32-clause-ok c = rw c.in-U32.is c.reply_as-in-U32.ensures.ok

pub returns-in-I64-clause-ok : goal.returns-in-I64-clause-ok
returns-in-I64-clause-ok c = rw c.in-I64.is c.reply_as-in-I64.ensures.ok

pub returns-in-U64-clause-ok : goal.returns-in-U64-clause-ok
returns-in-U64-clause-ok c = rw c.in-U64.is c.reply_as-in-U64.ensures.ok

pub returns-in-Int-clause-ok : goal.returns-in-Int-clause-ok
returns-in-Int-clause-ok c = rw c.in-Int.is c.reply_as-in-Int.ensures.ok

pub returns-in-Uint-clause-ok : goal.returns-in-Uint-clause-ok
returns-in-Uint-clause-ok c = rw c.in-Uint.is c.reply_as-in-Uint.ensures.ok

pub returns-in-Enum-clause-ok : goal.returns-in-Enum-clause-ok
returns-in-Enum-clause-ok c = rw c.in-Enum.is c.reply_as-in-Enum.ensures.ok

pub returns-in-Null-clause-ok : goal.returns-in-Null-clause-ok
returns-in-Null-clause-ok c = rw c.in-Null.is c.reply_as-in-Null.ensures.ok

pub returns-in-Octets-clause-ok : goal.returns-in-Octets-clause-ok
returns-in-Octets-clause-ok c = rw c.in-Octets.is c.reply_as-in-Octets.ensures.ok

pub returns-in-Bits-clause-ok : goal.returns-in-Bits-clause-ok
returns-in-Bits-clause-ok c = rw c.in-Bits.is c.reply_as-in-Bits.ensures.ok

pub returns-in-Oid-clause-ok : goal.returns-in-Oid-clause-ok
returns-in-Oid-clause-ok c = rw c.in-Oid.is c.reply_as-in-Oid.ensures.ok

pub returns-in-UtcTime-clause-ok : goal.returns-in-UtcTime-clause-ok
returns-in-UtcTime-clause-ok c = rw c.in-UtcTime.is c.reply_as-in-UtcTime.ensures.ok

pub returns-in-X509Time-clause-ok : goal.returns-in-X509Time-clause-ok
returns-in-X509Time-clause-ok c = rw c.in-X509Time.is c.reply_as-in-X509Time.ensures.ok

pub returns-in-GenTime-clause-ok : goal.returns-in-GenTime-clause-ok
returns-in-GenTime-clause-ok c = rw c.in-GenTime.is c.reply_as-in-GenTime.ensures.ok

pub returns-in-Seq-clause-ok : goal.returns-in-Seq-clause-ok
returns-in-Seq-clause-ok c = rw c.in-Seq.is c.reply_as-in-Seq.ensures.ok

pub returns-in-Set-clause-ok : goal.returns-in-Set-clause-ok
returns-in-Set-clause-ok c = rw c.in-Set.is c.reply_as-in-Set.ensures.ok

pub returns-in-SeqOfInt-clause-ok : goal.returns-in-SeqOfInt-clause-ok
returns-in-SeqOfInt-clause-ok c = rw c.in-SeqOfInt.is c.reply_as-in-SeqOfInt.ensures.ok

pub returns-in-SetOfInt-clause-ok : goal.returns-in-SetOfInt-clause-ok
returns-in-SetOfInt-clause-ok c = rw c.in-SetOfInt.is c.reply_as-in-SetOfInt.ensures.ok

pub returns-in-Utf8-clause-ok : goal.returns-in-Utf8-clause-ok
returns-in-Utf8-clause-ok c = rw c.in-Utf8.is c.reply_as-in-Utf8.ensures.ok

pub returns-in-Printable-clause-ok : goal.returns-in-Printable-clause-ok
returns-in-Printable-clause-ok c = rw c.in-Printable.is c.reply_as-in-Printable.ensures.ok

pub returns-in-Ia5-clause-ok : goal.returns-in-Ia5-clause-ok
returns-in-Ia5-clause-ok c = rw c.in-Ia5.is c.reply_as-in-Ia5.ensures.ok

pub returns-in-Visible-clause-ok : goal.returns-in-Visible-clause-ok
returns-in-Visible-clause-ok c = rw c.in-Visible.is c.reply_as-in-Visible.ensures.ok

pub returns-in-Bmp-clause-ok : goal.returns-in-Bmp-clause-ok
returns-in-Bmp-clause-ok c = rw c.in-Bmp.is c.reply_as-in-Bmp.ensures.ok

pub returns-in-Universal-clause-ok : goal.returns-in-Universal-clause-ok
returns-in-Universal-clause-ok c = rw c.in-Universal.is c.reply_as-in-Universal.ensures.ok
