-- The names in a certificate's abstract value. Its first field is the part that is signed, whose fields are the version,
-- the serial number, the algorithm, the issuer, the validity, the subject, and others (RFC 5280, 4.1).

-- The issuer.
abbrev pub issuer_of : {A B C N V S R T : Type 0} → (A × (B × (C × (N × (V × (S × R)))))) × T → N
issuer_of certificate = certificate.0.1.1.1.0

-- The subject.
abbrev pub subject_of : {A B C N V S R T : Type 0} → (A × (B × (C × (N × (V × (S × R)))))) × T → S
subject_of certificate = certificate.0.1.1.1.1.1.0
