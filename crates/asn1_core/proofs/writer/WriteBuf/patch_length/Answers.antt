use Rattle.std.proofs.Common.{◌≡◌, ◌-◌, ◌++◌, ◌∷◌, [], suc, drop, take, length, sym, ap, ◌∙◌, append_assoc, arith}
use Rattle.std.proofs.lemmas.List.{set_split}
use Rattle.asn1_core.specs.Buffer.{Buffer}
use Rattle.asn1_core.specs.Length.{length_octets}
use Rattle.asn1_core.specs.Lemmas.Lengths.{length_octets_low}
use Rattle.asn1_core.proofs.writer.WriteBuf.patch_length.Goals as goal

pub returns-clause-ok : goal.returns-clause-ok
returns-clause-ok c =
    let xs = c.self.inside.octets.items in
    let v : c.args.self.now.bytes ≡ xs = sym (ap (λ (b : Buffer). b.bytes) c.self.view_is) in
    let start = c.args.start in
    let within = rw v at c.requires.within in
    let size : c.len.result ≡ length xs = c.len.ensures ∙ c.self.inside.octets.ok.0 in
    let octets : length_octets (length xs - start) ≡ (c.len.result - start) ∷ [] = ap length_octets (ap (λ n. n - start) (sym size)) ∙ length_octets_low (c.len.result - start) (omega (arith, c.if-count-gt127.false)) in
    let next : suc (start - 1) ≡ start = omega (arith, c.requires.from) in
    rw (v, octets) (set_split xs (start - 1) (c.len.result - start) (omega (arith, c.requires.from, within)) ∙ ap (λ n. take (start - 1) xs ++ (c.len.result - start) ∷ drop n xs) next
    ∙ sym (append_assoc (take (start - 1) xs) ((c.len.result - start) ∷ []) (drop start xs)))
