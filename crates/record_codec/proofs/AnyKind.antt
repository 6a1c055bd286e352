-- A record of any kind is a field; so decode finds what is spelled, and nothing else.
use Rattle.std.proofs.Common.{◌≡◌, ℕ, suc, ◌≤◌, Bool, true, false, cond, eqb, List, [], ◌∷◌, ◌++◌, length, Result, Ok, Err, take, refl, sym, ap, subst, ◌∙◌, arith}
use Rattle.std.proofs.lemmas.Bool.Decides.{nat_tests}
use Rattle.std.proofs.lemmas.List.{length-append, take_at}
use Rattle.std.specs.Prelude.{IfOk}
use Rattle.wal_record.specs.declared.record.Record.{Record}
use Rattle.wal_record.specs.declared.record.Record.TheVariants as kinds
use Rattle.wal_record.specs.Rules.{HasSpelling}
use Rattle.wal_record.specs.Spelling.{spelling}
use Rattle.wal_record.specs.Reading.{Read, as_kind, record_at}
use Rattle.record_codec.specs.declared.fault.RecordFault.{RecordFault}
use Rattle.record_codec.specs.declared.fault.RecordFault.TheVariants as faults
use Rattle.record_codec.specs.Gives.{Tells, IsFound}
use Rattle.state_codec.proofs.Fields.{IsField, IsBytes, Takes, Takes-shorter, bind_ok, ok_is, err_is}
use Rattle.record_codec.proofs.KindFields.{format_field, write_field, apply_field, undo_field, commit_field, end_field, adopt_field, purge_field, written_field, run_done_field, lost_field, restored_field}
use Rattle.record_codec.proofs.ListKinds.{checkpoint_field, backup_done_field}
use Rattle.record_codec.proofs.StateKinds.{split_field, grow_field}

same_number : (m n : ℕ) → eqb m n ≡ true → m ≡ n
same_number m n h = grind (arith, nat_tests)

-- what reads a record behind the byte of its kind
record IsKindReader (body : ℕ → List ℕ → Read Record) : Type 0 where
  takes : (kind : ℕ) (rest : List ℕ) (x : Record × List ℕ) → IsBytes rest → body kind rest ≡ Ok x → Takes (kind ∷ rest) (spelling x.0) x.1 × HasSpelling x.0
  within : (kind : ℕ) (rest : List ℕ) (left : ℕ) → IsBytes rest → body kind rest ≡ Err left → left ≤ suc (length rest)

within_kind : {A : Type 0} (wrap : A → Record) (r : Read A) (left : ℕ) → as_kind wrap r ≡ Err left → r ≡ Err left
within_kind wrap (Ok x) left e = absurd cc
within_kind {A} wrap (Err d) left e = ap (λ (n : ℕ). let r : Read A = Err n in r) (err_is {A = Record × List ℕ} d left e)

-- one kind more
alternative : {A : Type 0} {at : List ℕ → Read A} {spell : A → List ℕ} {Fits : A → Type 0} {body : ℕ → List ℕ → Read Record} (n : ℕ) (wrap : A → Record) (field : IsField at spell Fits)
    → ((a : A) → spelling (wrap a) ≡ n ∷ spell a) → ((a : A) → Fits a → HasSpelling (wrap a)) → IsKindReader body
    → IsKindReader (λ kind rest. cond (eqb kind n) (as_kind wrap (at rest)) (body kind rest))
alternative {A} {at} {spell} {Fits} {body} n wrap field spelled keeps others = record {
  takes = λ kind rest x fits e. by (eqb kind n) kind rest x fits refl e;
  within = λ kind rest left fits e. under (eqb kind n) kind rest left fits e;
}
  where
    by : (b : Bool) (kind : ℕ) (rest : List ℕ) (x : Record × List ℕ) → IsBytes rest → eqb kind n ≡ b → cond b (as_kind wrap (at rest)) (body kind rest) ≡ Ok x → Takes (kind ∷ rest) (spelling x.0) x.1 × HasSpelling x.0
    by true kind rest x fits is e =
        let b = bind_ok (at rest) (λ y. Ok (wrap y.0, y.1)) x e in
        let t = field.takes rest b.0 fits b.1 in
        let parts : kind ∷ rest ≡ spelling (wrap b.0.0) ++ b.0.1 = rw (spelled b.0.0, same_number kind n is) (ap (λ (w : List ℕ). n ∷ w) t.0.parts) in
        subst (λ (z : Record × List ℕ). Takes (kind ∷ rest) (spelling z.0) z.1 × HasSpelling z.0) (ok_is (wrap b.0.0, b.0.1) x b.2) (record { parts = parts; rest_fits = t.0.rest_fits }, keeps b.0.0 t.1)
    by false kind rest x fits is e = others.takes kind rest x fits e

    under : (b : Bool) (kind : ℕ) (rest : List ℕ) (left : ℕ) → IsBytes rest → cond b (as_kind wrap (at rest)) (body kind rest) ≡ Err left → left ≤ suc (length rest)
    under true kind rest left fits e = let le = field.within rest left fits (within_kind wrap (at rest) left e) in omega arith
    under false kind rest left fits e = others.within kind rest left fits e

no_kind : IsKindReader (λ kind rest. Err (suc (length rest)))
no_kind = record {
  takes = λ kind rest x fits e. absurd cc;
  within = λ kind rest left fits e. let same : suc (length rest) ≡ left = err_is {A = Record × List ℕ} (suc (length rest)) left e in omega arith;
}

all_kinds : IsKindReader (λ kind rest. record_at (kind ∷ rest))
unfolding record_at
all_kinds =
    (alternative 1 kinds.Format format_field (λ _. refl) (λ _ h. h)
    (alternative 2 kinds.Write write_field (λ _. refl) (λ _ h. h)
    (alternative 3 kinds.Apply apply_field (λ _. refl) (λ _ h. h)
    (alternative 4 kinds.Undo undo_field (λ _. refl) (λ _ h. h)
    (alternative 5 kinds.Commit commit_field (λ _. refl) (λ _ h. h)
    (alternative 6 kinds.End end_field (λ _. refl) (λ _ h. h)
    (alternative 7 kinds.Split split_field (λ _. refl) (λ _ h. h)
    (alternative 8 kinds.Adopt adopt_field (λ _. refl) (λ _ h. h)
    (alternative 9 kinds.Grow grow_field (λ _. refl) (λ _ h. h)
    (alternative 10 kinds.Purge purge_field (λ _. refl) (λ _ h. h)
    (alternative 11 kinds.Written written_field (λ _. refl) (λ _ h. h)
    (alternative 12 kinds.Checkpoint checkpoint_field (λ _. refl) (λ _ h. h)
    (alternative 13 kinds.BackupDone backup_done_field (λ _. refl) (λ _ h. h)
    (alternative 14 kinds.RunDone run_done_field (λ _. refl) (λ _ h. h)
    (alternative 15 kinds.Lost lost_field (λ _. refl) (λ _ h. h)
    (alternative 16 kinds.Restored restored_field (λ _. refl) (λ _ h. h)
    no_kind))))))))))))))))

record_again : (r : Record) (rest : List ℕ) → HasSpelling r → record_at (spelling r ++ rest) ≡ Ok (r, rest)
unfolding record_at
record_again (kinds.Format r) rest h = ap (as_kind kinds.Format) (format_field.again r rest h)
record_again (kinds.Write r) rest h = ap (as_kind kinds.Write) (write_field.again r rest h)
record_again (kinds.Apply r) rest h = ap (as_kind kinds.Apply) (apply_field.again r rest h)
record_again (kinds.Undo r) rest h = ap (as_kind kinds.Undo) (undo_field.again r rest h)
record_again (kinds.Commit r) rest h = ap (as_kind kinds.Commit) (commit_field.again r rest h)
record_again (kinds.End r) rest h = ap (as_kind kinds.End) (end_field.again r rest h)
record_again (kinds.Split r) rest h = ap (as_kind kinds.Split) (split_field.again r rest h)
record_again (kinds.Adopt r) rest h = ap (as_kind kinds.Adopt) (adopt_field.again r rest h)
record_again (kinds.Grow r) rest h = ap (as_kind kinds.Grow) (grow_field.again r rest h)
record_again (kinds.Purge r) rest h = ap (as_kind kinds.Purge) (purge_field.again r rest h)
record_again (kinds.Written r) rest h = ap (as_kind kinds.Written) (written_field.again r rest h)
record_again (kinds.Checkpoint r) rest h = ap (as_kind kinds.Checkpoint) (checkpoint_field.again r rest h)
record_again (kinds.BackupDone r) rest h = ap (as_kind kinds.BackupDone) (backup_done_field.again r rest h)
record_again (kinds.RunDone r) rest h = ap (as_kind kinds.RunDone) (run_done_field.again r rest h)
record_again (kinds.Lost r) rest h = ap (as_kind kinds.Lost) (lost_field.again r rest h)
record_again (kinds.Restored r) rest h = ap (as_kind kinds.Restored) (restored_field.again r rest h)

nothing : {P : Type 0} (x : Record × List ℕ) → record_at [] ≡ Ok x → P
unfolding record_at
nothing x e = absurd cc

nothing_left : (left : ℕ) → record_at [] ≡ Err left → left ≤ 0
unfolding record_at
nothing_left left e = let same : 0 ≡ left = err_is {A = Record × List ℕ} 0 left e in omega arith

pub record_field : IsField record_at spelling HasSpelling
record_field = record { takes = takes; again = record_again; within = within }
  where
    takes : (bytes : List ℕ) (x : Record × List ℕ) → IsBytes bytes → record_at bytes ≡ Ok x → Takes bytes (spelling x.0) x.1 × HasSpelling x.0
    takes [] x fits e = nothing x e
    takes (kind ∷ rest) x fits e = all_kinds.takes kind rest x (λ i. fits (suc i)) e

    within : (bytes : List ℕ) (left : ℕ) → IsBytes bytes → record_at bytes ≡ Err left → left ≤ length bytes
    within [] left fits e = nothing_left left e
    within (kind ∷ rest) left fits e = all_kinds.within kind rest left (λ i. fits (suc i)) e

-- two spellings that begin the same bytes are of one record
pub spelled_apart : (r s : Record) (rest more : List ℕ) → HasSpelling r → HasSpelling s → spelling r ++ rest ≡ spelling s ++ more → r ≡ s
spelled_apart r s rest more fits keeps same =
    ap (λ (x : Record × List ℕ). x.0) (ok_is (r, rest) (s, more) (sym (record_again r rest fits) ∙ ap record_at same ∙ record_again s more keeps))

pub read_takes : (bytes : List ℕ) (x : Record × List ℕ) → IsBytes bytes → record_at bytes ≡ Ok x → Takes bytes (spelling x.0) x.1 × HasSpelling x.0
read_takes = record_field.takes

pub fault_within : (bytes : List ℕ) (left : ℕ) → IsBytes bytes → record_at bytes ≡ Err left → left ≤ length bytes
fault_within = record_field.within

pub read_shorter : (bytes : List ℕ) (x : Record × List ℕ) → IsBytes bytes → record_at bytes ≡ Ok x → length x.1 ≤ length bytes
read_shorter bytes x fits e = Takes-shorter bytes (spelling x.0) x.1 (read_takes bytes x fits e).0

-- what is found keeps its rules and is spelled so
pub tells_found : (r : Result (Record × ℕ) RecordFault) (bytes : List ℕ) → IsBytes bytes → Tells r (record_at bytes) (length bytes) → IfOk r (λ x. HasSpelling x.0 × (take x.1 bytes ≡ spelling x.0))
tells_found (Ok x) bytes fits h =
    let t = read_takes bytes (x.0, h.0) fits h.1 in
    let size : length (spelling x.0) ≡ x.1 = omega (arith, ap length t.0.parts, length-append (spelling x.0) h.0, h.2) in
    (t.1, ap (take x.1) t.0.parts ∙ take_at (spelling x.0) h.0 x.1 size)
tells_found (Err e) bytes fits h = tt

-- what is spelled so is found
pub tells_only : (r : Result (Record × ℕ) RecordFault) (bytes : List ℕ) → Tells r (record_at bytes) (length bytes) → (q : Record) (rest : List ℕ) → HasSpelling q → bytes ≡ spelling q ++ rest → IsFound r q
tells_only r bytes h q rest keeps is = by r h (ap record_at is ∙ record_again q rest keeps)
  where
    by : (r : Result (Record × ℕ) RecordFault) → Tells r (record_at bytes) (length bytes) → record_at bytes ≡ Ok (q, rest) → IsFound r q
    by (Ok x) h again =
        let same = ok_is (x.0, h.0) (q, rest) (sym h.1 ∙ again) in
        let tail : h.0 ≡ rest = ap (λ (p : Record × List ℕ). p.1) same in
        (ap (λ (p : Record × List ℕ). p.0) same, omega (arith, h.2, ap length is, ap length tail, length-append (spelling q) rest))
    by (Err faults.Memory) h again = tt
    by (Err (faults.Bad byte)) h again =
        let bad : ◌≡◌ {A = Read Record} (Err h.0) (Ok (q, rest)) = sym h.1 ∙ again in
        absurd cc
