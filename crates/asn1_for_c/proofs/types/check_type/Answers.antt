use Rattle.asn1_for_c.proofs.types.check_type.Goals as goal

pub returns-in-Bool : goal.returns-in-Bool
returns-in-Bool c = rw c.in-Bool.is c.check_as.ensures

pub returns-in-Tlv : goal.returns-in-Tlv
returns-in-Tlv c = rw c.in-Tlv.is c.check_as-in-Tlv.ensures

pub returns-in-I8 : goal.returns-in-I8
returns-in-I8 c = rw c.in-I8.is c.check_as-in-I8.ensures

pub returns-in-U8 : goal.returns-in-U8
returns-in-U8 c = rw c.in-U8.is c.check_as-in-U8.ensures

pub returns-in-I16 : goal.returns-in-I16
returns-in-I16 c = rw c.in-I16.is c.check_as-in-I16.ensures

pub returns-in-U16 : goal.returns-in-U16
returns-in-U16 c = rw c.in-U16.is c.check_as-in-U16.ensures

pub returns-in-I32 : goal.returns-in-I32
returns-in-I32 c = rw c.in-I32.is c.check_as-in-I32.ensures

pub returns-in-U32 : goal.returns-in-U32
returns-in-U32 c = rw c.in-U32.is c.check_as-in-U32.ensures

pub returns-in-I64 : goal.returns-in-I64
returns-in-I64 c = rw c.in-I64.is c.check_as-in-I64.ensures

pub returns-in-U64 : goal.returns-in-U64
returns-in-U64 c = rw c.in-U64.is c.check_as-in-U64.ensures

pub returns-in-Int : goal.returns-in-Int
returns-in-Int c = rw c.in-Int.is c.check_as-in-Int.ensures

pub returns-in-Uint : goal.returns-in-Uint
returns-in-Uint c = rw c.in-Uint.is c.check_as-in-Uint.ensures

pub returns-in-Enum : goal.returns-in-Enum
returns-in-Enum c = rw c.in-Enum.is c.check_as-in-Enum.ensures

pub returns-in-Null : goal.returns-in-Null
returns-in-Null c = rw c.in-Null.is c.check_as-in-Null.ensures

pub returns-in-Octets : goal.returns-in-Octets
returns-in-Octets c = rw c.in-Octets.is c.check_as-in-Octets.ensures

pub returns-in-Bits : goal.returns-in-Bits
returns-in-Bits c = rw c.in-Bits.is c.check_as-in-Bits.ensures

pub returns-in-Utf8 : goal.returns-in-Utf8
returns-in-Utf8 c = rw c.in-Utf8.is c.check_as-in-Utf8.ensures

pub returns-in-Printable : goal.returns-in-Printable
returns-in-Printable c = rw c.in-Printable.is c.check_as-in-Printable.ensures

pub returns-in-Ia5 : goal.returns-in-Ia5
returns-in-Ia5 c = rw c.in-Ia5.is c.check_as-in-Ia5.ensures

pub returns-in-Visible : goal.returns-in-Visible
returns-in-Visible c = rw c.in-Visible.is c.check_as-in-Visible.ensures

pub returns-in-Bmp : goal.returns-in-Bmp
returns-in-Bmp c = rw c.in-Bmp.is c.check_as-in-Bmp.ensures

pub returns-in-Universal : goal.returns-in-Universal
returns-in-Universal c = rw c.in-Universal.is c.check_as-in-Universal.ensures

pub returns-in-Oid : goal.returns-in-Oid
returns-in-Oid c = rw c.in-Oid.is c.check_as-in-Oid.ensures

pub returns-in-UtcTime : goal.returns-in-UtcTime
returns-in-UtcTime c = rw c.in-UtcTime.is c.check_as-in-UtcTime.ensures

pub returns-in-X509Time : goal.returns-in-X509Time
returns-in-X509Time c = rw c.in-X509Time.is c.check_as-in-X509Time.ensures

pub returns-in-GenTime : goal.returns-in-GenTime
returns-in-GenTime c = rw c.in-GenTime.is c.check_as-in-GenTime.ensures

pub returns-in-Seq : goal.returns-in-Seq
returns-in-Seq c = rw c.in-Seq.is c.check_as-in-Seq.ensures

pub returns-in-Set : goal.returns-in-Set
returns-in-Set c = rw c.in-Set.is c.check_as-in-Set.ensures

pub returns-in-SeqOfInt : goal.returns-in-SeqOfInt
returns-in-SeqOfInt c = rw c.in-SeqOfInt.is c.check_as-in-SeqOfInt.ensures

pub returns-in-SetOfInt : goal.returns-in-SetOfInt
returns-in-SetOfInt c = rw c.in-SetOfInt.is c.check_as-in-SetOfInt.ensures
