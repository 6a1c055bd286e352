-- What the reading of one kind gives is what reading the record gives; that of a Write field by field.
use Rattle.std.proofs.Common.{◌≡◌, ℕ, ◌≤◌, List, Option, length, Ok, refl, sym, ap, subst, ◌∙◌}
use Rattle.wal_record.specs.declared.record.Record.{Record}
use Rattle.wal_record.specs.declared.record.Record.TheVariants as kinds
use Rattle.wal_record.specs.declared.record.Write.{Write}
use Rattle.wal_record.specs.Reading.{Read, ◌>>=◌, as_kind, record_at, write_at, key_at, maybe_value_at, new_value_at}
use Rattle.state_codec.proofs.Fields.{IsBytes}
use Rattle.state_codec.specs.Gives.{Fails}
use Rattle.state_codec.specs.declared.fault.FieldFault.{FieldFault}
use Rattle.state_codec.specs.declared.fault.FieldFault.TheVariants as faults
use Rattle.record_codec.proofs.AnyKind.{fault_within}
use Rattle.record_codec.specs.Row.{head_at}

-- a fault stays the first one, whatever is read behind it
fails_bind : {A B : Type 0} (f : A × List ℕ → Read B) (fault : FieldFault) (r : Read A) → Fails fault r → Fails fault (r >>= f)
fails_bind f faults.Memory r h = tt
fails_bind {A} f (faults.Bad left) r h = ap (λ (s : Read A). s >>= f) h

-- the kind's fault is the record's
fails_as : {A : Type 0} (wrap : A → Record) (fault : FieldFault) (r : Read A) → Fails fault r → Fails fault (as_kind wrap r)
fails_as wrap faults.Memory r h = tt
fails_as wrap (faults.Bad left) r h = ap (as_kind wrap) h

pub fails_so : {A : Type 0} (wrap : A → Record) (bytes : List ℕ) (fault : FieldFault) (r : Read A) → record_at bytes ≡ as_kind wrap r → Fails fault r → Fails fault (record_at bytes)
fails_so wrap bytes fault r is h = subst (λ (s : Read Record). Fails fault s) (sym is) (fails_as wrap fault r h)

-- it lies within the bytes
pub fails_within : (bytes : List ℕ) (fault : FieldFault) → IsBytes bytes → Fails fault (record_at bytes) → (left : ℕ) → fault ≡ faults.Bad left → left ≤ length bytes
fails_within bytes fault fits h left is = fault_within bytes left fits (subst (λ (f : FieldFault). Fails f (record_at bytes)) is h)

-- ---- a Write, field by field

abbrev with_new : ℕ → ℕ → ℕ → ℕ → List ℕ → Option (List ℕ) → Option (List ℕ) × List ℕ → Read Write
with_new tx prev page page_prev key old new = Ok (record { tx = tx; prev = prev; page = page; page_prev = page_prev; key = key; old = old; new = new.0 }, new.1)

abbrev with_old : ℕ → ℕ → ℕ → ℕ → List ℕ → Option (List ℕ) × List ℕ → Read Write
with_old tx prev page page_prev key old = new_value_at old.0 old.1 >>= with_new tx prev page page_prev key old.0

abbrev with_key : ℕ → ℕ → ℕ → ℕ → List ℕ × List ℕ → Read Write
with_key tx prev page page_prev key = maybe_value_at key.1 >>= with_old tx prev page page_prev key.0

abbrev with_head : ℕ → ℕ → ℕ → ℕ → List ℕ → Read Write
with_head tx prev page page_prev bytes = key_at bytes >>= with_key tx prev page page_prev

by_fields : (bytes : List ℕ) → write_at bytes ≡ head_at with_head bytes
unfolding write_at
by_fields bytes = refl

-- its head was read
pub record HasHead (bytes rest : List ℕ) (tx prev page page_prev : ℕ) (behind : List ℕ) : Type 0 where
  pub is : record_at bytes ≡ as_kind kinds.Write (write_at rest)
  pub head : (go : ℕ → ℕ → ℕ → ℕ → List ℕ → Read Write) → head_at go rest ≡ go tx prev page page_prev behind

go_on : (bytes rest : List ℕ) (tx prev page page_prev : ℕ) (behind : List ℕ) → HasHead bytes rest tx prev page page_prev behind → write_at rest ≡ with_head tx prev page page_prev behind
go_on bytes rest tx prev page page_prev behind h = by_fields rest ∙ h.head with_head

fails_at : (bytes rest : List ℕ) (fault : FieldFault) (s : Read Write) → record_at bytes ≡ as_kind kinds.Write (write_at rest) → write_at rest ≡ s → Fails fault s → Fails fault (record_at bytes)
fails_at bytes rest fault s is same h = fails_so kinds.Write bytes fault (write_at rest) is (subst (λ (r : Read Write). Fails fault r) (sym same) h)

pub head_fails : (bytes rest : List ℕ) (fault : FieldFault) → record_at bytes ≡ as_kind kinds.Write (write_at rest) → ((go : ℕ → ℕ → ℕ → ℕ → List ℕ → Read Write) → Fails fault (head_at go rest)) → Fails fault (record_at bytes)
head_fails bytes rest fault is h = fails_at bytes rest fault (head_at with_head rest) is (by_fields rest) (h with_head)

pub key_fails : (bytes rest : List ℕ) (tx prev page page_prev : ℕ) (behind : List ℕ) (fault : FieldFault) → HasHead bytes rest tx prev page page_prev behind → Fails fault (key_at behind) → Fails fault (record_at bytes)
key_fails bytes rest tx prev page page_prev behind fault head h =
    fails_at bytes rest fault (with_head tx prev page page_prev behind) head.is (go_on bytes rest tx prev page page_prev behind head) (fails_bind (with_key tx prev page page_prev) fault (key_at behind) h)

-- its key was read, too
pub record HasKey (bytes rest : List ℕ) (tx prev page page_prev : ℕ) (key behind : List ℕ) : Type 0 where
  pub before : List ℕ
  pub head : HasHead bytes rest tx prev page page_prev before
  pub read : key_at before ≡ Ok (key, behind)

key_then : (bytes rest : List ℕ) (tx prev page page_prev : ℕ) (key behind : List ℕ) → HasKey bytes rest tx prev page page_prev key behind → write_at rest ≡ (maybe_value_at behind >>= with_old tx prev page page_prev key)
key_then bytes rest tx prev page page_prev key behind h =
    go_on bytes rest tx prev page page_prev h.before h.head ∙ ap (λ (r : Read (List ℕ)). r >>= with_key tx prev page page_prev) h.read

pub old_fails : (bytes rest : List ℕ) (tx prev page page_prev : ℕ) (key behind : List ℕ) (fault : FieldFault) → HasKey bytes rest tx prev page page_prev key behind → Fails fault (maybe_value_at behind) → Fails fault (record_at bytes)
old_fails bytes rest tx prev page page_prev key behind fault has h =
    fails_at bytes rest fault (maybe_value_at behind >>= with_old tx prev page page_prev key) has.head.is (key_then bytes rest tx prev page page_prev key behind has) (fails_bind (with_old tx prev page page_prev key) fault (maybe_value_at behind) h)

-- its old value was read, too
pub record HasOld (bytes rest : List ℕ) (tx prev page page_prev : ℕ) (key : List ℕ) (old : Option (List ℕ)) (behind : List ℕ) : Type 0 where
  pub before : List ℕ
  pub keyed : HasKey bytes rest tx prev page page_prev key before
  pub read : maybe_value_at before ≡ Ok (old, behind)

old_then : (bytes rest : List ℕ) (tx prev page page_prev : ℕ) (key : List ℕ) (old : Option (List ℕ)) (behind : List ℕ) → HasOld bytes rest tx prev page page_prev key old behind → write_at rest ≡ (new_value_at old behind >>= with_new tx prev page page_prev key old)
old_then bytes rest tx prev page page_prev key old behind h =
    key_then bytes rest tx prev page page_prev key h.before h.keyed ∙ ap (λ (r : Read (Option (List ℕ))). r >>= with_old tx prev page page_prev key) h.read

pub new_fails : (bytes rest : List ℕ) (tx prev page page_prev : ℕ) (key : List ℕ) (old : Option (List ℕ)) (behind : List ℕ) (fault : FieldFault) → HasOld bytes rest tx prev page page_prev key old behind → Fails fault (new_value_at old behind) → Fails fault (record_at bytes)
new_fails bytes rest tx prev page page_prev key old behind fault has h =
    fails_at bytes rest fault (new_value_at old behind >>= with_new tx prev page page_prev key old) has.keyed.head.is (old_then bytes rest tx prev page page_prev key old behind has) (fails_bind (with_new tx prev page page_prev key old) fault (new_value_at old behind) h)

pub write_read : (bytes rest : List ℕ) (tx prev page page_prev : ℕ) (key : List ℕ) (old : Option (List ℕ)) (behind : List ℕ) (new : Option (List ℕ)) (after : List ℕ) → HasOld bytes rest tx prev page page_prev key old behind → new_value_at old behind ≡ Ok (new, after)
    → record_at bytes ≡ Ok (kinds.Write (record { tx = tx; prev = prev; page = page; page_prev = page_prev; key = key; old = old; new = new }), after)
write_read bytes rest tx prev page page_prev key old behind new after has h =
    has.keyed.head.is ∙ ap (as_kind kinds.Write) (old_then bytes rest tx prev page page_prev key old behind has ∙ ap (λ (r : Read (Option (List ℕ))). r >>= with_new tx prev page page_prev key old) h)
