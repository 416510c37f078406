-- The octet of an error of what a closure rejects, if the closure rejects as a definition says.
use Rattle.std.proofs.Common.{◌≡◌, ◌⊎◌, inl, inr, ℕ, ◌+◌, ◌-◌, length, Bool, true, false, List, Option, Some, None, Bor, sym, ap, ◌∙◌}
use Rattle.std.specs.Fn.{Shared, FnReturnsAt}
use Rattle.asn1.specs.declared.ParseErrorKind.{ParseErrorKind}
use Rattle.asn1.specs.declared.ParseErrorKind.TheVariants.{InvalidValue, InvalidTag, InvalidLength, InvalidSize, UnexpectedTag, ShortData, IntegerOverflow, ExtraData, InvalidSetOrdering, EncodedDefault, OidTooLong, UnknownDefinedBy, AllocationError}
use Rattle.asn1.specs.declared.Place.{Place}
use Rattle.asn1.specs.ErrorOctets.{Decide, EndsAround, IsElement, IsErrorOctet, IsEnd, IsFirstLeft, IsReadThere, IsTurn, IsWrongElement, IsWrongHeader, LeaveOpen}
use Rattle.asn1.specs.ReadError.{ReadError}
use Rattle.asn1_for_c.specs.Octets.{IsRejectedAt}

-- The octet of an error by one relation is so by another that holds of the same answers, or of more.
module _ {P Q : List ℕ → Option ReadError → Type 0} (more : (input : List ℕ) (answer : Option ReadError) → P input answer → Q input answer) (octets : List ℕ) (octet : ℕ) where
  LeaveOpen_weaker : (error : ReadError) (count : ℕ) → LeaveOpen P octets error count → LeaveOpen Q octets error count
  LeaveOpen_weaker error count e = (e.0, more _ _ e.1, e.2)

  IsTurn_weaker : (error : ReadError) (count : ℕ) → IsTurn P octets error count → IsTurn Q octets error count
  IsTurn_weaker error count e = (e.0, more _ _ e.1, LeaveOpen_weaker error _ e.2)

  IsReadThere_weaker : (error : ReadError) (answer : Bool) (start : ℕ) → IsReadThere P octets error answer start → IsReadThere Q octets error answer start
  IsReadThere_weaker error answer start e = (e.0, e.1, e.2, e.3, more _ _ e.4, e.5)

  around_weaker : (error : ReadError) (begin size : ℕ) (around : List ℕ) (found : Option ℕ)
      → elim found as (λ _. Type 0) [ None ↦ octet ≡ begin + size | Some start ↦ ((octet ≡ begin + size) × IsReadThere P octets error false (begin + start)) ⊎ ((end : ℕ) × IsElement around start end × (octet ≡ begin + end) × IsReadThere P octets error true (begin + start)) ]
      → elim found as (λ _. Type 0) [ None ↦ octet ≡ begin + size | Some start ↦ ((octet ≡ begin + size) × IsReadThere Q octets error false (begin + start)) ⊎ ((end : ℕ) × IsElement around start end × (octet ≡ begin + end) × IsReadThere Q octets error true (begin + start)) ]
  around_weaker error begin size around None e = e
  around_weaker error begin size around (Some start) (inl e) = inl (e.0, IsReadThere_weaker error false (begin + start) e.1)
  around_weaker error begin size around (Some start) (inr e) = inr (e.0, e.1, e.2, IsReadThere_weaker error true (begin + start) e.3)

  ends_weaker : (error : ReadError) → (Decide P octets error 0 × (octet ≡ length octets)) ⊎ ((count : ℕ) × IsTurn P octets error count × EndsAround P octets error (count - 1) octet)
      → (Decide Q octets error 0 × (octet ≡ length octets)) ⊎ ((count : ℕ) × IsTurn Q octets error count × EndsAround Q octets error (count - 1) octet)
  ends_weaker error (inl e) = inl (more _ _ e.0, e.1)
  ends_weaker error (inr e) = inr (e.0, IsTurn_weaker error e.0 e.1, around_weaker error _ _ _ _ e.2)

  IsEnd_weaker : (error : ReadError) → IsEnd P octets error octet → IsEnd Q octets error octet
  IsEnd_weaker error e = record {
    decided = more _ _ e.decided;
    always = more _ _ e.always;
    ends = ends_weaker error e.ends;
  }

  inner_weaker : (error : ReadError) (start : ℕ) (found : Option ℕ)
      → elim found as (λ _. Type 0) [ None ↦ Unit {0} | Some inner ↦ IsReadThere P octets error false (start + inner) ]
      → elim found as (λ _. Type 0) [ None ↦ Unit {0} | Some inner ↦ IsReadThere Q octets error false (start + inner) ]
  inner_weaker error start None e = tt
  inner_weaker error start (Some inner) e = IsReadThere_weaker error false (start + inner) e

  IsWrongElement_weaker : (error : ReadError) → IsWrongElement P octets error octet → IsWrongElement Q octets error octet
  IsWrongElement_weaker error e = record {
    element = e.element;
    rest = e.rest;
    is = e.is;
    left_open = LeaveOpen_weaker error octet e.left_open;
    decided = more _ _ e.decided;
    count = e.count;
    turn = IsTurn_weaker error e.count e.turn;
    behind = e.behind;
    before = e.before;
    there = IsReadThere_weaker error true octet e.there;
    innermost = λ constructed less. inner_weaker error _ _ (e.innermost constructed less);
  }

  IsFirstLeft_weaker : (error : ReadError) → IsFirstLeft P octets error octet → IsFirstLeft Q octets error octet
  IsFirstLeft_weaker error e = record {
    start = e.start;
    element = e.element;
    rest = e.rest;
    is = e.is;
    tag = e.tag;
    after = e.after;
    tag_is = e.tag_is;
    behind = e.behind;
    needed = LeaveOpen_weaker error _ e.needed;
    decided = more _ _ e.decided;
  }

  IsWrongHeader_weaker : (error : ReadError) → IsWrongHeader P octets error octet → IsWrongHeader Q octets error octet
  IsWrongHeader_weaker error e = (e.0, e.1, LeaveOpen_weaker error octet e.2)

  IsErrorOctet_weaker : (kind : ParseErrorKind) (places : List Place) → IsErrorOctet P octets (record { kind = kind; places = places }) octet → IsErrorOctet Q octets (record { kind = kind; places = places }) octet
  IsErrorOctet_weaker InvalidTag places e = IsWrongHeader_weaker _ e
  IsErrorOctet_weaker InvalidLength places e = IsWrongHeader_weaker _ e
  IsErrorOctet_weaker (ShortData needed) places e = IsEnd_weaker _ e
  IsErrorOctet_weaker ExtraData places e = IsFirstLeft_weaker _ e
  IsErrorOctet_weaker InvalidValue places e = IsWrongElement_weaker _ e
  IsErrorOctet_weaker (InvalidSize min max actual) places e = IsWrongElement_weaker _ e
  IsErrorOctet_weaker (UnexpectedTag actual) places e = IsWrongElement_weaker _ e
  IsErrorOctet_weaker IntegerOverflow places e = IsWrongElement_weaker _ e
  IsErrorOctet_weaker InvalidSetOrdering places e = IsWrongElement_weaker _ e
  IsErrorOctet_weaker EncodedDefault places e = IsWrongElement_weaker _ e
  IsErrorOctet_weaker OidTooLong places e = IsWrongElement_weaker _ e
  IsErrorOctet_weaker UnknownDefinedBy places e = IsWrongElement_weaker _ e
  IsErrorOctet_weaker AllocationError places e = IsWrongElement_weaker _ e

module _ {F : Type 0} (g : Shared F (Bor (List ℕ) × Unit {0}) (Option ReadError)) (f : F) (rejected : List ℕ → Option ReadError) where
  -- What `error_octet` finds is the octet of the error, if each call of the closure returns what is defined.
  pub rejected_at : (octets : List ℕ) (octet : ℕ) → (error : ReadError) × FnReturnsAt g f octets (Some error) × IsErrorOctet (FnReturnsAt g f) octets error octet
      → ((shown : Bor (List ℕ)) (answer : Option ReadError) → g.post f (shown, tt) answer → answer ≡ rejected shown.now) → IsRejectedAt rejected octets octet
  rejected_at octets octet found defined =
      record { error = found.0; rejects = sym (at octets _ found.1); place = IsErrorOctet_weaker at octets octet found.0.kind found.0.places found.2 }
    where
      at : (input : List ℕ) (answer : Option ReadError) → FnReturnsAt g f input answer → answer ≡ rejected input
      at input answer call = defined call.shown _ call.says.met ∙ ap rejected call.shows
