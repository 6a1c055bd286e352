-- Records of a payload, read one by one.
use Rattle.std.proofs.Common.{below_more, ◌≡◌, ℕ, suc, ◌+◌, ◌<◌, ◌≤◌, List, [], ◌∷◌, ◌++◌, length, get_or, take, drop, refl, sym, ◌∙◌, ap, subst, arith, append_assoc, append-nil, length-append, length-drop, length-take, take-append-drop}
use Rattle.std.specs.List.{All}
use Rattle.std.proofs.lemmas.Grind.{flat_map-append}
use Rattle.std.proofs.lemmas.List.Elements.{All-append, All-cons, All-nil}
use Rattle.std.proofs.Math.ListN.{get_or-append}
use Rattle.std.proofs.Math.Seq.{drop-append-add, get_or-append_seam}
use Rattle.wal_record.specs.Rules.{HasSpelling}
use Rattle.std.specs.Int.{w32, w64}
use Rattle.std.specs.Prelude.{Result, Ok, Err, IfOk, IfErr}
use Rattle.wal_record.specs.Spelling.{number_bytes, spelling}
use Rattle.record_codec.proofs.AnyKind.{record_field}
use Rattle.wal_record.specs.Reading.{Read, record_at}
use Rattle.wal_record.specs.declared.record.Record.{Record}
use Rattle.wal_record.specs.declared.record.Record.TheVariants as kinds
use Rattle.store_model.specs.declared.fault.Fault.{Fault}
use Rattle.store_model.specs.declared.fault.Fault.TheVariants as faults
use Rattle.log_manager.specs.LastRead.{AreStarts, IsStart}
use Rattle.log_manager.specs.Managed.{IsUnreadAt}
use Rattle.log_manager.specs.Payload.{NotRead, bytes_of}

-- these records stand before a byte of the payload
pub record Reads (payload : List ℕ) (at : ℕ) (front : List Record) : Type 0 where
  pub at_is : at ≡ length (bytes_of front)
  pub bytes : payload ≡ bytes_of front ++ drop at payload

pub bytes_of-push : (rs : List Record) (r : Record) → bytes_of (rs ++ r ∷ []) ≡ bytes_of rs ++ spelling r
bytes_of-push rs r = flat_map-append spelling rs (r ∷ []) ∙ ap (λ (l : List ℕ). bytes_of rs ++ l) (append-nil (spelling r))

pub reads_none : (payload : List ℕ) → Reads payload 0 []
reads_none payload = record { at_is = refl; bytes = refl }

-- one record more is read
pub reads_more : (payload : List ℕ) (at next : ℕ) (front : List Record) (r : Record) → Reads payload at front → drop at payload ≡ spelling r ++ drop next payload
    → at ≤ length payload → next ≤ length payload → Reads payload next (front ++ r ∷ [])
reads_more payload at next front r reads is le le2 = record {
  at_is = omega (
    arith,
    reads.at_is,
    ap length is,
    length-append (spelling r) (drop next payload),
    length-drop at payload,
    length-drop next payload,
    le,
    le2,
    ap length (bytes_of-push front r),
    length-append (bytes_of front) (spelling r),
  );
  bytes = reads.bytes ∙ ap (λ (l : List ℕ). bytes_of front ++ l) is ∙ sym (append_assoc (bytes_of front) (spelling r) (drop next payload))
      ∙ ap (λ (l : List ℕ). l ++ drop next payload) (sym (bytes_of-push front r));
}

all_at : (front back : List Record) (r : Record) → All HasSpelling (front ++ r ∷ back) → HasSpelling r
all_at [] back r all = all 0 r (omega arith)
all_at (x ∷ front) back r all = all_at front back r (λ k d lt. all (suc k) d (omega (arith, lt)))

pub drop_twice : (m n : ℕ) (l : List ℕ) → m ≤ length l → drop n (drop m l) ≡ drop (m + n) l
drop_twice m n l le =
    let at : length (take m l) ≡ m = omega (arith, length-take m l, le) in
    sym (drop-append-add (take m l) (drop m l) n) ∙ ap (drop (length (take m l) + n)) (take-append-drop m l) ∙ ap (λ k. drop (k + n) l) at

-- a spelling in front, and what is behind it
pub in_front : (payload rest spelled : List ℕ) (at len : ℕ) → rest ≡ drop at payload → at ≤ length payload → take len rest ≡ spelled → drop at payload ≡ spelled ++ drop (at + len) payload
in_front payload rest spelled at len is le front =
    sym is ∙ sym (take-append-drop len rest) ∙ ap (λ (l : List ℕ). l ++ drop len rest) front ∙ ap (λ (l : List ℕ). spelled ++ drop len l) is
    ∙ ap (λ (l : List ℕ). spelled ++ l) (drop_twice at len payload le)

abbrev first_or : Record → Read Record → Record
first_or r (Ok x) = x.0
first_or r (Err e) = r

abbrev rest_or : List ℕ → Read Record → List ℕ
rest_or l (Ok x) = x.1
rest_or l (Err e) = l

-- what a record's spelling begins is that record, and what stands behind it
pub same_next : (r s : Record) (a b : List ℕ) → HasSpelling r → HasSpelling s → spelling r ++ a ≡ spelling s ++ b → (r ≡ s) × (a ≡ b)
same_next r s a b spelled too e =
    let is = sym (record_field.again r a spelled) ∙ ap record_at e ∙ record_field.again s b too in
    (ap (λ (x : Read Record). first_or r x) is, ap (λ (x : Read Record). rest_or a x) is)

-- records in front of the bytes of others, no more than these, are the first of them
pub first_records : (front own : List Record) (rest : List ℕ) → All HasSpelling front → All HasSpelling own → bytes_of own ≡ bytes_of front ++ rest → length front ≤ length own
    → (back : List Record) × (own ≡ front ++ back) × (rest ≡ bytes_of back)
first_records [] own rest spelled too is le = (own, refl, sym is)
first_records (r ∷ front) [] rest spelled too is le = absurd (omega (arith, le))
first_records (r ∷ front) (s ∷ own) rest spelled too is le =
    let same = same_next s r (bytes_of own) (bytes_of front ++ rest) (too 0 r (omega arith)) (spelled 0 r (omega arith)) (is ∙ append_assoc (spelling r) (bytes_of front) rest) in
    let more = first_records front own rest (λ k d lt. spelled (suc k) d (omega (arith, lt))) (λ k d lt. too (suc k) d (omega (arith, lt))) same.1 (omega (arith, le)) in
    (more.0, ap (λ (x : Record). x ∷ own) same.0 ∙ ap (λ (l : List Record). r ∷ l) more.1, more.2)

-- ---- where records begin

read_to : (payload : List ℕ) (place at : ℕ) (s : IsStart payload place at) → Reads payload at s.front
read_to payload place at s = record {
  at_is = omega (arith, ap length s.bytes, length-append (bytes_of s.front) (drop at payload), length-drop at payload, s.within);
  bytes = s.bytes;
}

pub start_none : (payload : List ℕ) → IsStart payload 0 0
start_none payload = record { front = []; spelled = All-nil HasSpelling; count = refl; within = omega arith; bytes = refl }

-- the record behind begins where this one ends
pub start_more : (payload : List ℕ) (place at next : ℕ) (r : Record) → IsStart payload place at → HasSpelling r → drop at payload ≡ spelling r ++ drop next payload → next ≤ length payload
    → IsStart payload (place + 1) next
start_more payload place at next r s spelled is le =
    let reads = reads_more payload at next s.front r (read_to payload place at s) is s.within le in
    record {
      front = s.front ++ r ∷ [];
      spelled = All-append HasSpelling s.front (r ∷ []) s.spelled (All-cons HasSpelling r [] spelled (All-nil HasSpelling));
      count = omega (arith, s.count, length-append s.front (r ∷ []));
      within = le;
      bytes = reads.bytes;
    }

-- one more is noted
pub starts_more : (payload starts : List ℕ) (next : ℕ) → AreStarts payload starts → IsStart payload (length starts) next → AreStarts payload (starts ++ next ∷ [])
starts_more payload starts next are more k lt =
    below_more (λ (k : ℕ). IsStart payload k (get_or (starts ++ next ∷ []) k 0)) (length starts)
    (λ k lt. subst (IsStart payload k) (sym (get_or-append starts (next ∷ []) 0 k lt)) (are k lt))
    (subst (IsStart payload (length starts)) (sym (get_or-append_seam starts next [] 0)) more) k (omega (arith, lt, length-append starts (next ∷ [])))

-- the record that begins there is the one that the payload has at this place
pub next_at : (payload : List ℕ) (place at : ℕ) (s : IsStart payload place at) (rs : List Record) → All HasSpelling rs → payload ≡ bytes_of rs → place < length rs
    → (r : Record) × (back : List Record) × (rs ≡ s.front ++ r ∷ back) × HasSpelling r × (drop at payload ≡ spelling r ++ bytes_of back)
next_at payload place at s rs spelled is lt =
    let f = first_records s.front rs (drop at payload) s.spelled spelled (sym is ∙ s.bytes) (omega (arith, s.count, lt)) in
    by f.0 f.1 f.2
  where
    by : (back : List Record) → rs ≡ s.front ++ back → drop at payload ≡ bytes_of back → (r : Record) × (back : List Record) × (rs ≡ s.front ++ r ∷ back) × HasSpelling r × (drop at payload ≡ spelling r ++ bytes_of back)
    by [] e d = absurd (omega (arith, ap length (e ∙ append-nil s.front), s.count, lt))
    by (r ∷ back) e d = (r, back, e, all_at s.front back r (subst (All HasSpelling) e spelled), d)

-- why it isn't read, behind no more records than its place
pub unread_at : (block : ℕ) (payload : List ℕ) (place : ℕ) (front : List Record) (fault : Fault) → length front ≤ place → NotRead block front payload fault → IsUnreadAt block payload place fault
unread_at block payload place front faults.Memory le bad = tt
unread_at block payload place front (faults.LogBad b byte) le bad = (front, le, bad.0, bad.1)
unread_at block payload place front fault le bad = absurd bad

-- ---- a Commit

length-u64 : (n : ℕ) → length (number_bytes w64 n) ≡ 8
unfolding number_bytes
length-u64 n = refl

pub length-u32 : (n : ℕ) → length (number_bytes w32 n) ≡ 4
unfolding number_bytes
length-u32 n = refl

pub length-commit : (tx prev : ℕ) → length (spelling (kinds.Commit (record { tx = tx; prev = prev }))) ≡ 17
length-commit tx prev = omega (arith, length-append (number_bytes w64 tx) (number_bytes w64 prev), length-u64 tx, length-u64 prev)

-- ---- a spelling has a byte

some_byte : (r : Record) → 1 ≤ length (spelling r)
some_byte (kinds.Format x) = omega arith
some_byte (kinds.Write x) = omega arith
some_byte (kinds.Apply x) = omega arith
some_byte (kinds.Undo x) = omega arith
some_byte (kinds.Commit x) = omega arith
some_byte (kinds.End x) = omega arith
some_byte (kinds.Split x) = omega arith
some_byte (kinds.Adopt x) = omega arith
some_byte (kinds.Grow x) = omega arith
some_byte (kinds.Purge x) = omega arith
some_byte (kinds.Written x) = omega arith
some_byte (kinds.Checkpoint x) = omega arith
some_byte (kinds.BackupDone x) = omega arith
some_byte (kinds.RunDone x) = omega arith
some_byte (kinds.Lost x) = omega arith
some_byte (kinds.Restored x) = omega arith

pub some_bytes : (rs : List Record) → 1 ≤ length rs → 1 ≤ length (bytes_of rs)
some_bytes [] one = absurd (omega (arith, one))
some_bytes (r ∷ rs) one = omega (arith, some_byte r, length-append (spelling r) (bytes_of rs))

-- ---- an answer that is a fault or a record

pub answer_map : {A E : Type 0} (x : Result A E) (P Q : A → Type 0) (F G : E → Type 0) → IfOk x P × IfErr x F → ((a : A) → P a → Q a) → ((e : E) → F e → G e) → IfOk x Q × IfErr x G
answer_map (Ok a) P Q F G is p f = (p a is.0, tt)
answer_map (Err e) P Q F G is p f = (tt, f e is.1)

pub err_map : {A E : Type 0} (x : Result A E) (F G : E → Type 0) → IfErr x F → ((e : E) → F e → G e) → IfErr x G
err_map (Ok a) F G is f = tt
err_map (Err e) F G is f = f e is

pub ok_map : {A E : Type 0} (x : Result A E) (P Q : A → Type 0) → IfOk x P → ((a : A) → P a → Q a) → IfOk x Q
ok_map (Ok a) P Q is f = f a is
ok_map (Err e) P Q is f = tt
