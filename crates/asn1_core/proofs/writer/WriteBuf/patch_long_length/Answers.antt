use Rattle.std.proofs.Common.{◌≡◌, ◌+◌, ◌-◌, ◌^◌, ◌<◌, ◌≤◌, ◌++◌, ◌∷◌, [], suc, length, take, drop, replicate, bit_or, ℕ, List, arith, sym, ap, refl, ◌∙◌, append_assoc}
use Rattle.std.specs.Int.Digits.{digits_of}
use Rattle.std.proofs.lemmas.Int.Digits.{length-digits_of_step}
use Rattle.std.proofs.lemmas.List.{length-append, length-replicate, length-set, nil_from_length, set_split, take-set-le, take-take}
use Rattle.asn1_core.specs.Length.{length_octets}
use Rattle.asn1_core.specs.Buffer.{Buffer}
use Rattle.asn1_core.specs.Lemmas.Lengths.{length_octets_high, write_length_step, bit_and_255}
use Rattle.asn1_core.proofs.Patch.{copy_within_moved, drop_moved, take_moved, digits_of_positive, length_octets_bit_or}
use Rattle.asn1_core.proofs.writer.WriteBuf.patch_long_length.Goals as goal

-- a prefix of a prefix
shorter : (xs : List ℕ) (n : ℕ) → take (n - 1) (take n xs) ≡ take (n - 1) xs
shorter xs n = take-take (n - 1) n xs (omega arith)

-- the length octets of a long length except the first
more_octets : (n m : ℕ) → 128 ≤ n → m ≡ length (length_octets n) → m ≡ length (digits_of 256 n) + 1
more_octets n m l e = omega (arith, e, ap length (length_octets_high n l))

pub overflow_sub-more : goal.overflow_sub-more
overflow_sub-more c =
    let v : c.args.self.now.bytes ≡ c.self.inside.octets.items = sym (ap (λ (b : Buffer). b.bytes) c.self.view_is) in
    let ll : c.len-len.result ≡ length c.self.inside.octets.items = c.len-len.ensures ∙ c.self.inside.octets.ok.0 in
    let long : c.args.start + 127 < length c.self.inside.octets.items = rw v at c.requires.long in
    omega (arith, more_octets (c.len-len.result - c.args.start) c.count_length_octets-more.result (omega (arith, ll, long)) c.count_length_octets-more.ensures.value)

pub loop-place-init : goal.loop-place-init
loop-place-init c =
    let v : c.args.self.now.bytes ≡ c.self.inside.octets.items = sym (ap (λ (b : Buffer). b.bytes) c.self.view_is) in
    let ll : c.len-len.result ≡ length c.self.inside.octets.items = c.len-len.ensures ∙ c.self.inside.octets.ok.0 in
    let long : c.args.start + 127 < length c.self.inside.octets.items = rw v at c.requires.long in
    let grown : length c.push_zeros.new.octets.items ≡ length c.self.inside.octets.items + (c.count_length_octets-more.result - 1) =
    ap length (c.push_zeros.ensures ∙ ap (λ (t : List ℕ). t ++ replicate (c.count_length_octets-more.result - 1) 0) c.in_ok-try_reserve.ensures.items)
    ∙ length-append c.self.inside.octets.items _ ∙ ap (λ (k : ℕ). length c.self.inside.octets.items + k) (length-replicate (c.count_length_octets-more.result - 1) 0) in
    record {
      size = omega (arith, sym c.copy_within.new.self.ok.0, c.push_zeros.new.octets.ok.0, grown, ll, c.copy_within.ensures.len);
      front = refl;
      left = omega (arith, more_octets (c.len-len.result - c.args.start) c.count_length_octets-more.result (omega (arith, ll, long)) c.count_length_octets-more.ensures.value);
      whole = refl;
    }

pub loop-place-preserved : goal.loop-place-preserved
loop-place-preserved c =
    let inv = c.loop-place.invariant in
    let items = c.loop-place.self-inside.octets.items in
    let rest = c.loop-place.rest in
    let place = c.loop-place.place in
    let some : 0 < rest = digits_of_positive rest (omega (arith, inv.left, c.loop-place-test.true)) in
    let step = length-digits_of_step 256 rest (omega arith) some in
    let v : c.args.self.now.bytes ≡ c.self.inside.octets.items = sym (ap (λ (b : Buffer). b.bytes) c.self.view_is) in
    let ll : c.len-len.result ≡ length c.self.inside.octets.items = c.len-len.ensures ∙ c.self.inside.octets.ok.0 in
    let long : c.args.start + 127 < length c.self.inside.octets.items = rw v at c.requires.long in
    let within : place ≤ length items = omega (arith, inv.size, c.loop-place.auto.place, ll, long) in
    record {
      size = length-set items (place - 1) _ ∙ inv.size;
      front = take-set-le c.args.start items (place - 1) _ (omega (arith, c.loop-place-test.true)) ∙ inv.front;
      left = omega (arith, step, inv.left);
      whole = rw (bit_and_255 rest) (write_length_step rest place items some (omega (arith, c.loop-place-test.true)) within ∙ inv.whole);
    }

pub returns-clause-ok : goal.returns-clause-ok
returns-clause-ok c =
    let inv = c.loop-place.invariant in
    let xs = c.self.inside.octets.items in
    let v : c.args.self.now.bytes ≡ xs = sym (ap (λ (b : Buffer). b.bytes) c.self.view_is) in
    let ll : c.len-len.result ≡ length xs = c.len-len.ensures ∙ c.self.inside.octets.ok.0 in
    let start = c.args.start in
    let long : start + 127 < length xs = rw v at c.requires.long in
    let low : 0 < start = c.requires.from in
    let n : ℕ = c.len-len.result - start in
    let more : ℕ = c.count_length_octets-more.result - 1 in
    let large : 128 ≤ n = omega (arith, ll, long) in
    let small : n < 2 ^ 64 = omega (arith, c.len-len.type_inv) in
    let count : more ≡ length (digits_of 256 n) = omega (arith, more_octets n c.count_length_octets-more.result large c.count_length_octets-more.ensures.value) in
    let within : start ≤ length xs = omega (arith, long) in
    let moved = c.copy_within.new.self.items in
    let big : c.push_zeros.new.octets.items ≡ xs ++ replicate more 0 = c.push_zeros.ensures ∙ ap (λ (t : List ℕ). t ++ replicate more 0) c.in_ok-try_reserve.ensures.items in
    let m : moved ≡ take (start + more) c.push_zeros.new.octets.items ++ drop start xs = copy_within_moved xs start more low within _ _ big (rw ll at c.copy_within.ensures.items) in
    let now = c.loop-place.self-inside.octets.items in
    let place : c.loop-place.place ≡ start = omega (arith, inv.left, c.loop-place-test.false) in
    let done : digits_of 256 c.loop-place.rest ≡ [] = nil_from_length _ (omega (arith, inv.left, place)) in
    let behind : drop start now ≡ digits_of 256 n ++ drop start xs =
    ap (λ (k : ℕ). drop k now) (sym place) ∙ ap (λ (t : List ℕ). t ++ drop c.loop-place.place now) (sym done) ∙ inv.whole ∙ ap (λ (t : List ℕ). digits_of 256 n ++ t) (drop_moved xs start more low within _ _ big m) in
    let front : take (start - 1) now ≡ take (start - 1) xs =
    sym (shorter now start) ∙ ap (take (start - 1)) inv.front ∙ shorter moved start ∙ take_moved xs start more low within _ _ big m in
    let next : suc (start - 1) ≡ start = omega (arith, low) in
    let octets : bit_or 128 more ∷ digits_of 256 n ≡ length_octets (length xs - start) = rw count (length_octets_bit_or n large small) ∙ ap (λ (k : ℕ). length_octets (k - start)) ll in
    let inside : start - 1 < length now = omega (arith, inv.size, ll, long) in
    rw v
    (set_split now (start - 1) (bit_or 128 more) inside
    ∙ rw (next, front, behind) (ap (λ (t : List ℕ). take (start - 1) xs ++ (t ++ drop start xs)) octets ∙ sym (append_assoc (take (start - 1) xs) (length_octets (length xs - start)) (drop start xs))))
