-- What a closure that writes through a writer leaves in the buffer.
use Rattle.std.specs.Prelude.{Result, Ok, Err, OnOk, IfErr, refl, drop, length}
use Rattle.std.proofs.Common.{inr}
use Rattle.std.specs.Fn.{Once}
use Rattle.std.specs.Borrow.{MutBor}
use Rattle.asn1_core.specs.Buffer.{KeepsPrefix, Appends}
use Rattle.asn1_core.specs.Writing.{IsWriter, MayWrite, ClosureMayFail, NamesError}
use Rattle.asn1_core.specs.declared.writer.Writer.{Writer}
use Rattle.asn1_core.specs.declared.writer.WriteError.{WriteError}

module _ {F E : Type 0} (calls : Once F (MutBor Writer × Unit {0}) (Result (Unit {0}) E × (MutBor Writer × Unit {0}))) (f : F) where
  pub closure_ok : IsWriter calls f → (p q : MutBor Writer) (r : Result (Unit {0}) E) → calls.post f (p, tt) (r, (q, tt)) → OnOk r (Appends (MayWrite calls f) p.now.buf.now.bytes q.now.buf.now.bytes)
  closure_ok w p q (Err e) h = tt
  closure_ok w p q (Ok u) h =
      let k : KeepsPrefix p.now.buf.now.bytes q.now.buf.now.bytes = w.front p q (Ok u) h in
      record { encoding = drop (length p.now.buf.now.bytes) q.now.buf.now.bytes; is_one = record { front = p.now.buf.now.bytes; called = record { shown = p; shows = refl; left = q; met = h; leaves = k.joined } }; joined = k.joined }

  pub closure_error : (gives : WriteError → E → Type 0) (p q : MutBor Writer) (r : Result (Unit {0}) E) → calls.post f (p, tt) (r, (q, tt)) → IfErr r (NamesError gives (ClosureMayFail calls f))
  closure_error gives p q (Ok u) h = tt
  closure_error gives p q (Err e) h = inr (record { old = p.now.buf.now.bytes; new = q.now.buf.now.bytes; called = record { shown = p; shows = refl; left = q; met = h; leaves = refl } })
