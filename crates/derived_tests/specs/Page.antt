-- Printed by tools/derive from declarations/page.rs, with the sum ca1f2d72.
use Rattle.std.specs.Prelude.{◌⊎◌, Bool, true, false}
use Rattle.std.proofs.Common.{inl, inr}

-- The field `r` of an abstract value of `Signature`.
abbrev pub signature_r : {T0 T1 : Type 0} → T0 × T1 → T0
signature_r value = value.0

-- The field `s` of an abstract value of `Signature`.
abbrev pub signature_s : {T0 T1 : Type 0} → T0 × T1 → T1
signature_s value = value.1

-- The field `version` of an abstract value of `Tagged`.
abbrev pub tagged_version : {T0 T1 T2 T3 : Type 0} → T0 × (T1 × (T2 × T3)) → T0
tagged_version value = value.0

-- The field `numbers` of an abstract value of `Tagged`.
abbrev pub tagged_numbers : {T0 T1 T2 T3 : Type 0} → T0 × (T1 × (T2 × T3)) → T1
tagged_numbers value = value.1.0

-- The field `signature` of an abstract value of `Tagged`.
abbrev pub tagged_signature : {T0 T1 T2 T3 : Type 0} → T0 × (T1 × (T2 × T3)) → T2
tagged_signature value = value.1.1.0

-- The field `level` of an abstract value of `Tagged`.
abbrev pub tagged_level : {T0 T1 T2 T3 : Type 0} → T0 × (T1 × (T2 × T3)) → T3
tagged_level value = value.1.1.1

-- Whether an abstract value of `ResponderId` is one of `ByName`.
abbrev pub responder_id_is_by_name : {T0 T1 Others : Type 0} → T0 ⊎ (T1 ⊎ Others) → Bool
responder_id_is_by_name (inl value) = true
responder_id_is_by_name value = false

-- Whether an abstract value of `ResponderId` is one of `ByKey`.
abbrev pub responder_id_is_by_key : {T0 T1 Others : Type 0} → T0 ⊎ (T1 ⊎ Others) → Bool
responder_id_is_by_key (inr (inl value)) = true
responder_id_is_by_key value = false

-- Whether an abstract value of `Responders` is one of `Listed`.
abbrev pub responders_is_listed : {T0 T1 Others : Type 0} → T0 ⊎ (T1 ⊎ Others) → Bool
responders_is_listed (inl value) = true
responders_is_listed value = false

-- Whether an abstract value of `Responders` is one of `Named`.
abbrev pub responders_is_named : {T0 T1 Others : Type 0} → T0 ⊎ (T1 ⊎ Others) → Bool
responders_is_named (inr (inl value)) = true
responders_is_named value = false

-- The field `responder` of an abstract value of `Alternative`.
abbrev pub alternative_responder : {T0 : Type 0} → T0 → T0
alternative_responder value = value

-- The field `full` of an abstract value of `Bag`.
abbrev pub bag_full : {T0 T1 : Type 0} → T0 × T1 → T0
bag_full value = value.0

-- The field `numbers` of an abstract value of `Bag`.
abbrev pub bag_numbers : {T0 T1 : Type 0} → T0 × T1 → T1
bag_numbers value = value.1
