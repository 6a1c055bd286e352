-- The head of a backup object: what is spelled is read again, and a fault lies within its 20 bytes.
use Rattle.std.proofs.Common.{◌≡◌, ℕ, ◌+◌, ◌^◌, ◌<◌, ◌≤◌, false, eqb, List, [], ◌++◌, length, drop, Ok, Err, refl, sym, ap, ◌∙◌, append_assoc, arith}
use Rattle.std.specs.Prelude.{IsTrue}
use Rattle.std.specs.Int.{w32, w64}
use Rattle.std.proofs.lemmas.Bool.Decides.{nat_tests}
use Rattle.std.proofs.lemmas.List.{length-append, length-drop, append-nil, drop-drop}
use Rattle.wal_record.specs.Rules.{is_page_count}
use Rattle.wal_record.specs.Spelling.{number_bytes}
use Rattle.wal_record.specs.Reading.{Read, ◌>>=◌, number_at}
use Rattle.state_codec.proofs.Fields.{IsBytes, Takes, Takes-then, bind_ok, within_bind}
use Rattle.vault_objects.specs.Fields.{is_this}
use Rattle.vault_objects.proofs.Numbers.{eq_is, number_ok, number_within, number32, number64, is_same}
use Rattle.backup_set.specs.Backup.{head_bytes}
use Rattle.backup_set.specs.Reading.{head_at}

pub is_some : (n : ℕ) → eqb n 0 ≡ false → 0 < n
is_some n h = grind (arith, nat_tests)

count_below : (n : ℕ) → IsTrue (is_page_count n) → n < 2 ^ 32
count_below n h = grind (arith, nat_tests)

pub count_most : (n : ℕ) → IsTrue (is_page_count n) → n ≤ 16
count_most n h = grind (arith, nat_tests)

-- ---- the head

with_segment : ℕ × List ℕ → Read ℕ
with_segment part = number_at w32 is_page_count part.1

with_backup : ℕ → ℕ × List ℕ → Read ℕ
with_backup segment number = number_at w32 (is_this segment) number.1 >>= with_segment

with_mark : ℕ → ℕ → ℕ × List ℕ → Read ℕ
with_mark backup segment mark = number_at w64 (is_this backup) mark.1 >>= with_backup segment

the_mark : ℕ
the_mark = 1111575345

head_is : (backup segment : ℕ) (bytes : List ℕ) → head_at backup segment bytes ≡ (number_at w32 (is_this the_mark) bytes >>= with_mark backup segment)
unfolding head_at with_mark with_backup with_segment the_mark
head_is backup segment bytes = refl

pub length-head : (backup segment count : ℕ) → length (head_bytes backup segment count) ≡ 20
unfolding number_bytes
length-head backup segment count = simp length-append

four : (a b c d : List ℕ) → (a ++ b ++ c) ++ d ≡ a ++ (b ++ (c ++ d))
four a b c d = simp append_assoc

pub head_again : (backup segment count : ℕ) → backup < 2 ^ 64 → segment < 2 ^ 32 → IsTrue (is_page_count count) → head_at backup segment (head_bytes backup segment count) ≡ Ok (count, [])
unfolding with_mark with_backup with_segment the_mark
head_again backup segment count b s n =
    let r3 : List ℕ = number_bytes w32 count ++ [] in
    let r2 : List ℕ = number_bytes w32 segment ++ r3 in
    let r1 : List ℕ = number_bytes w64 backup ++ r2 in
    let laid : head_bytes backup segment count ≡ number_bytes w32 the_mark ++ r1 =
    four (number_bytes w32 the_mark) (number_bytes w64 backup) (number_bytes w32 segment) (number_bytes w32 count)
    ∙ ap (λ (t : List ℕ). number_bytes w32 the_mark ++ (number_bytes w64 backup ++ (number_bytes w32 segment ++ t))) (sym (append-nil (number_bytes w32 count))) in
    ap (head_at backup segment) laid
    ∙ head_is backup segment (number_bytes w32 the_mark ++ r1)
    ∙ ap (λ (r : Read ℕ). r >>= with_mark backup segment) ((number32 (is_this the_mark)).again the_mark r1 (is_same the_mark, omega arith))
    ∙ ap (λ (r : Read ℕ). r >>= with_backup segment) ((number64 (is_this backup)).again backup r2 (is_same backup, b))
    ∙ ap (λ (r : Read ℕ). r >>= with_segment) ((number32 (is_this segment)).again segment r3 (is_same segment, s))
    ∙ (number32 is_page_count).again count [] (n, count_below count n)

-- what is read is a count, and 20 bytes are there
pub record ReadsHead (bytes : List ℕ) (x : ℕ × List ℕ) : Type 0 where
  pub count : IsTrue (is_page_count x.0)
  pub rest : x.1 ≡ drop 20 bytes
  pub long : 20 ≤ length bytes

pub head_ok : (backup segment : ℕ) (bytes : List ℕ) (x : ℕ × List ℕ) → head_at backup segment bytes ≡ Ok x → ReadsHead bytes x
unfolding with_mark with_backup with_segment
head_ok backup segment bytes x e =
    let a = bind_ok (number_at w32 (is_this the_mark) bytes) (with_mark backup segment) x (sym (head_is backup segment bytes) ∙ e) in
    let b = bind_ok (number_at w64 (is_this backup) a.0.1) (with_backup segment) x a.2 in
    let c = bind_ok (number_at w32 (is_this segment) b.0.1) with_segment x b.2 in
    let ra = number_ok w32 (is_this the_mark) bytes a.0 a.1 in
    let rb = number_ok w64 (is_this backup) a.0.1 b.0 b.1 in
    let rc = number_ok w32 (is_this segment) b.0.1 c.0 c.1 in
    let rd = number_ok w32 is_page_count c.0.1 x c.2 in
    let pa : a.0.1 ≡ drop 4 bytes = ap (λ (y : ℕ × List ℕ). y.1) ra.1 in
    let pb : b.0.1 ≡ drop 12 bytes = ap (λ (y : ℕ × List ℕ). y.1) rb.1 ∙ ap (drop 8) pa ∙ drop-drop 8 4 bytes in
    let pc : c.0.1 ≡ drop 16 bytes = ap (λ (y : ℕ × List ℕ). y.1) rc.1 ∙ ap (drop 4) pb ∙ drop-drop 4 12 bytes in
    record {
      count = rd.0;
      rest = ap (λ (y : ℕ × List ℕ). y.1) rd.1 ∙ ap (drop 4) pc ∙ drop-drop 4 16 bytes;
      long = omega (arith, rd.2, ap length pc, length-drop 16 bytes);
    }

pub head_within : (backup segment : ℕ) (bytes : List ℕ) (left : ℕ) → head_at backup segment bytes ≡ Err left → left ≤ length bytes
unfolding with_mark with_backup with_segment
head_within backup segment bytes left e =
    within_bind (number_at w32 (is_this the_mark) bytes) (with_mark backup segment) left (length bytes) (sym (head_is backup segment bytes) ∙ e) (λ d h. number_within w32 (is_this the_mark) bytes d h) (λ a ha ea.
    let ra = number_ok w32 (is_this the_mark) bytes a ha in
    let pa : length a.1 ≤ length bytes = omega (arith, ap (λ (y : ℕ × List ℕ). length y.1) ra.1, length-drop 4 bytes) in
    within_bind (number_at w64 (is_this backup) a.1) (with_backup segment) left (length bytes) ea (λ d h. let le = number_within w64 (is_this backup) a.1 d h in omega arith) (λ b hb eb.
    let rb = number_ok w64 (is_this backup) a.1 b hb in
    let pb : length b.1 ≤ length bytes = omega (arith, ap (λ (y : ℕ × List ℕ). length y.1) rb.1, length-drop 8 a.1) in
    within_bind (number_at w32 (is_this segment) b.1) with_segment left (length bytes) eb (λ d h. let le = number_within w32 (is_this segment) b.1 d h in omega arith) (λ c hc ec.
    let rc = number_ok w32 (is_this segment) b.1 c hc in
    let pc : length c.1 ≤ length bytes = omega (arith, ap (λ (y : ℕ × List ℕ). length y.1) rc.1, length-drop 4 b.1) in
    let le = number_within w32 is_page_count c.1 left ec in omega arith)))

pub head_takes : (backup segment : ℕ) (bytes : List ℕ) (x : ℕ × List ℕ) → IsBytes bytes → head_at backup segment bytes ≡ Ok x → bytes ≡ head_bytes backup segment x.0 ++ x.1
unfolding with_mark with_backup with_segment the_mark
head_takes backup segment bytes x fits e =
    let a = bind_ok (number_at w32 (is_this the_mark) bytes) (with_mark backup segment) x (sym (head_is backup segment bytes) ∙ e) in
    let ta = (number32 (is_this the_mark)).takes bytes a.0 fits a.1 in
    let b = bind_ok (number_at w64 (is_this backup) a.0.1) (with_backup segment) x a.2 in
    let tb = (number64 (is_this backup)).takes a.0.1 b.0 ta.0.rest_fits b.1 in
    let c = bind_ok (number_at w32 (is_this segment) b.0.1) with_segment x b.2 in
    let tc = (number32 (is_this segment)).takes b.0.1 c.0 tb.0.rest_fits c.1 in
    let td = (number32 is_page_count).takes c.0.1 x tc.0.rest_fits c.2 in
    let pa : a.0.0 ≡ the_mark = eq_is a.0.0 the_mark ta.1.0 in
    let pb : b.0.0 ≡ backup = eq_is b.0.0 backup tb.1.0 in
    let pc : c.0.0 ≡ segment = eq_is c.0.0 segment tc.1.0 in
    let text : Takes bytes (number_bytes w32 a.0.0 ++ (number_bytes w64 b.0.0 ++ (number_bytes w32 c.0.0 ++ number_bytes w32 x.0))) x.1 =
    Takes-then bytes (number_bytes w32 a.0.0) a.0.1 _ x.1 ta.0 (Takes-then a.0.1 (number_bytes w64 b.0.0) b.0.1 _ x.1 tb.0 (Takes-then b.0.1 (number_bytes w32 c.0.0) c.0.1 (number_bytes w32 x.0) x.1 tc.0 td.0)) in
    text.parts ∙ (λ i. (number_bytes w32 (pa i) ++ (number_bytes w64 (pb i) ++ (number_bytes w32 (pc i) ++ number_bytes w32 x.0))) ++ x.1)
    ∙ ap (λ (l : List ℕ). l ++ x.1) (sym (four (number_bytes w32 the_mark) (number_bytes w64 backup) (number_bytes w32 segment) (number_bytes w32 x.0)))
