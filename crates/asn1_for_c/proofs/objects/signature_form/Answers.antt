use Rattle.std.proofs.Common.{inl, inr}
use Rattle.asn1_for_c.proofs.Forms.{unread, neither}
use Rattle.asn1_for_c.proofs.objects.signature_form.Goals as goal

pub returns-then-is_read : goal.returns-then-is_read
returns-then-is_read c = λ number error location told. (inl told.0, told.1, λ zero. inl (told.2 zero), λ i f. told.3 (c.is_read.ensures.yes c.if-is_read.true) f)

pub returns-then-is_read-2 : goal.returns-then-is_read-2
returns-then-is_read-2 c = λ number error location told. (inr (inl told.0), told.1, λ zero. inr (inl (told.2 zero)), λ i f. told.3 (c.is_read-2.ensures.yes c.if-is_read-2.true) f)

pub returns-then-is_read-3 : goal.returns-then-is_read-3
returns-then-is_read-3 c = λ number error location told. (inr (inr told.0), told.1, λ zero. inr (inr (told.2 zero)), λ i f. told.3 (c.is_read-3.ensures.yes c.if-is_read-3.true) f)

pub returns-then-eq : goal.returns-then-eq
returns-then-eq c =
    let none = neither (unread _ c.is_read.ensures.no c.if-is_read.false) (neither (unread _ c.is_read-2.ensures.no c.if-is_read-2.false) (unread _ c.is_read-3.ensures.no c.if-is_read-3.false)) in
    λ number error location told. (inl told.0, told.1, λ zero. inl (told.2 zero), λ i f. absurd (none i f))

pub returns-then-eq-2 : goal.returns-then-eq-2
returns-then-eq-2 c =
    let none = neither (unread _ c.is_read.ensures.no c.if-is_read.false) (neither (unread _ c.is_read-2.ensures.no c.if-is_read-2.false) (unread _ c.is_read-3.ensures.no c.if-is_read-3.false)) in
    λ number error location told. (inr (inl told.0), told.1, λ zero. inr (inl (told.2 zero)), λ i f. absurd (none i f))

pub returns-else-eq-2 : goal.returns-else-eq-2
returns-else-eq-2 c =
    let none = neither (unread _ c.is_read.ensures.no c.if-is_read.false) (neither (unread _ c.is_read-2.ensures.no c.if-is_read-2.false) (unread _ c.is_read-3.ensures.no c.if-is_read-3.false)) in
    λ number error location told. (inr (inr told.0), told.1, λ zero. inr (inr (told.2 zero)), λ i f. absurd (none i f))
