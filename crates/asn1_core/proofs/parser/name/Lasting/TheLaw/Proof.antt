-- The right to read can be duplicated, so a `&` holds the right too. Assumes `Logic`.
use mathlib.Core.List.{[], ◌∷◌}
use base.Logic.{sep, wand, snd∗, apply∗}
use base.Fml.{fbor}
use base.Before.{before}
use types.Logic.{sem, lfts}
use types.Kit.{‵, raw, ◌⊛◌, later, ◌$◌, ◌∵◌, !, qed, move, keep, use1, use2, split, await, updating, now, done}
use denote.Struct.Lending.{of_Lends}
use Rattle.asn1_core.specs.contracts.parser.name.Lasting as C
use Rattle.asn1_core.proofs.Lasting.{lasting_twice}
use Rattle.asn1_core.proofs.parser.name.Lasting.TheLaw.Statement.{statement}

pub shares : statement
shares =
    of_Lends C.struct C.the_codes C.the_heap C.the_lent
    (λ d p. record {
      contraction = λ M 𝓤 𝓛 _. lasting_twice 𝓛 d.start d.octets;
      mono = λ M 𝓤 𝓛 κ' κ. snd∗ 𝓤 (sem 𝓛 (before κ' κ)) (sem 𝓛 (C.the_heap d));
    })
    tt (λ M 𝓤 𝓛 d p κ ts inc sp.
    let P = C.the_heap d in
    let back = 𝓛.H.⇛ (sep 𝓤 (𝓛.A.bor κ P) (lfts 𝓛 ts)) in
    qed 𝓛 (‵ (fbor κ P) ∷ raw (lfts 𝓛 ts) ∷ []) ∵ updating ! $
    use2 𝓛 (later (‵ P ⊛ raw (wand 𝓤 (sem 𝓛 P) back))) (𝓛.more.bor_acc_by κ ts P sp) $ await ! tt $ split ! $
    use1 𝓛 (‵ P ⊛ ‵ P) (lasting_twice 𝓛 d.start d.octets) $ split ! $ move ! (0 ∷ 2 ∷ []) $
    use2 𝓛 (later (‵ (fbor κ P) ⊛ raw (lfts 𝓛 ts))) (apply∗ 𝓤 (sem 𝓛 P) back) $ await ! tt $ split ! $ keep ! (2 ∷ 1 ∷ []) $ now ! $ done !)
