-- Where bytes stand for blocks, no block has a fault.
use Rattle.std.proofs.Common.{◌≡◌, ◌≢◌, ℕ, ◌+◌, ◌<◌, ◌≤◌, List, [], ◌∷◌, ◌++◌, length, take, drop, refl, sym, ◌∙◌, ap, subst, arith, append_assoc, length-append, Bool, true, false}
use Rattle.std.specs.Prelude.{nat_lt, nat_le, ◌==◌, ◌&&◌, ◌||◌, not, if◌then◌else◌}
use Rattle.std.proofs.lemmas.Nat.{from_be_bytes-to_be_bytes_2, from_be_bytes-to_be_bytes_4, from_be_bytes-to_be_bytes_8}
use Rattle.std.proofs.lemmas.List.{take_at}
use Rattle.std.proofs.lemmas.Bool.Decides.{nat_tests}
use Rattle.media.specs.Kept.{Kept}
use Rattle.log_blocks.specs.Log.{Block, IsLawfulBlock, IsRun, IsSequence, StandsFor, blocks, body, header, open_gate, next_lsn}
use Rattle.log_blocks.specs.Opening.{IsBadAt, fault_at, field_at, field2_at, field4_at, may_begin, follows}
use Rattle.log_blocks.proofs.FirstGate.{long_behind}
use Rattle.log_blocks.proofs.Unique.{same_block}

record Found (before bs : List Block) (rest : List ℕ) : Type 0 where
  b : Block
  later : List Block
  tail : List ℕ
  whole : bs ≡ before ++ b ∷ later
  bytes : rest ≡ body b ++ tail
  more : 1 ≤ length tail

find : (n m : ℕ) (before bs : List Block) (rest r : List ℕ) (g : ℕ) → IsRun n before → IsRun m bs → g ≢ open_gate → blocks before ++ open_gate ∷ rest ≡ blocks bs ++ g ∷ r → Found before bs rest
find n m [] [] rest r g rb rc shut same = absurd (shut (cc (sym same)))
find n m [] (c ∷ cs) rest r g rb rc shut same = record {
  b = c;
  later = cs;
  tail = blocks cs ++ g ∷ r;
  whole = refl;
  bytes = ap (λ (l : List ℕ). drop 1 l) same ∙ append_assoc (body c) (blocks cs) (g ∷ r);
  more = omega (arith, length-append (blocks cs) (g ∷ r));
}
find n m (b ∷ bs) [] rest r g rb rc shut same = absurd (shut (cc (sym same)))
find n m (b ∷ bs) (c ∷ cs) rest r g rb rc shut same =
    let inner : body b ++ (blocks bs ++ open_gate ∷ rest) ≡ body c ++ (blocks cs ++ g ∷ r) =
    sym (append_assoc (body b) (blocks bs) (open_gate ∷ rest)) ∙ ap (λ (l : List ℕ). drop 1 l) same ∙ append_assoc (body c) (blocks cs) (g ∷ r) in
    let s = same_block b c (blocks bs ++ open_gate ∷ rest) (blocks cs ++ g ∷ r) rb.1 rc.1 inner in
    let f = find (n + b.count) (m + c.count) bs cs rest r g rb.2 rc.2 shut s.1 in
    record { b = f.b; later = f.later; tail = f.tail; whole = λ i. sym s.0 i ∷ f.whole i; bytes = f.bytes; more = f.more }

run_mid : (n : ℕ) (xs : List Block) (b : Block) (later : List Block) → IsRun n (xs ++ b ∷ later) → (b.first ≡ next_lsn n xs) × IsLawfulBlock b
run_mid n [] b later run = (run.0, run.1)
run_mid n (x ∷ xs) b later run = run_mid (n + x.count) xs b later run.2

first_begins : (start first : ℕ) → 1 ≤ first → first < 9223372036854775808 → (start ≡ 0 → first ≡ 1) → may_begin start 0 first ≡ true
first_begins start first a b c = grind (arith, nat_tests)

next_begins : (start next first : ℕ) → 1 ≤ first → first < 9223372036854775808 → first ≡ next → may_begin start next first ≡ true
next_begins start next first a b c = grind (arith, nat_tests)

begins : (start : ℕ) (before : List Block) (b : Block) (later : List Block) → IsSequence start (before ++ b ∷ later) → (may_begin start (follows before) b.first ≡ true) × IsLawfulBlock b
begins start [] b later s = (first_begins start b.first s.run.1.first (omega (arith, s.run.1.last, s.run.1.count.0)) s.from_one, s.run.1)
begins start (x ∷ xs) b later s =
    let m = run_mid x.first (x ∷ xs) b later s.run in
    (next_begins start (next_lsn x.first (x ∷ xs)) b.first m.1.first (omega (arith, m.1.last, m.1.count.0)) m.0, m.1)

passes : (c : Bool) (e r : ℕ) → c ≡ false → r ≡ 0 → (if c then e else r) ≡ 0
passes false e r is z = z
passes true e r is z = absurd (cc is)

ge_no : (a b : ℕ) → b ≤ a → nat_lt a b ≡ false
ge_no a b le = grind (arith, nat_tests)

clear : (start next total f cp n l : ℕ) → may_begin start next f ≡ true → cp < f + n → 1 ≤ n → f + n ≤ 9223372036854775808 → 1 ≤ l → l ≤ 4194304 → 24 + l ≤ total
    → ((nat_lt total 9 || not (may_begin start next f)) ≡ false) × (((nat_lt total 17 || nat_le 9223372036854775808 cp) || (nat_le 19 total && nat_le (f + n) cp)) ≡ false)
    × (((nat_lt total 19 || n == 0) || nat_lt 9223372036854775808 (f + n)) ≡ false) × (((nat_lt total 23 || l == 0) || nat_lt 4194304 l) ≡ false)
clear start next total f cp n l a b c d e g h = (
  grind (arith, nat_tests),
  grind (arith, nat_tests),
  grind (arith, nat_tests),
  grind (arith, nat_tests),
)

fault_zero : (start next total : ℕ) (head : List ℕ) → may_begin start next (field_at 1 head) ≡ true → field_at 9 head < field_at 1 head + field2_at 17 head → 1 ≤ field2_at 17 head
    → field_at 1 head + field2_at 17 head ≤ 9223372036854775808 → 1 ≤ field4_at 19 head → field4_at 19 head ≤ 4194304 → 24 + field4_at 19 head ≤ total → fault_at start next total head ≡ 0
unfolding fault_at
fault_zero start next total head a b c d e g h =
    let f = field_at 1 head in
    let cp = field_at 9 head in
    let n = field2_at 17 head in
    let l = field4_at 19 head in
    let z = clear start next total f cp n l a b c d e g h in
    let r6 : ℕ = if nat_lt total (24 + l) then 23 + l else 0 in
    let r5 : ℕ = if nat_lt total (23 + l) then 23 else r6 in
    let r4 : ℕ = if (nat_lt total 23 || l == 0) || nat_lt 4194304 l then 19 else r5 in
    let r3 : ℕ = if (nat_lt total 19 || n == 0) || nat_lt 9223372036854775808 (f + n) then 17 else r4 in
    let r2 : ℕ = if (nat_lt total 17 || nat_le 9223372036854775808 cp) || (nat_le 19 total && nat_le (f + n) cp) then 9 else r3 in
    passes (nat_lt total 9 || not (may_begin start next f)) 1 r2 z.0
    (passes ((nat_lt total 17 || nat_le 9223372036854775808 cp) || (nat_le 19 total && nat_le (f + n) cp)) 9 r3 z.1
    (passes ((nat_lt total 19 || n == 0) || nat_lt 9223372036854775808 (f + n)) 17 r4 z.2
    (passes ((nat_lt total 23 || l == 0) || nat_lt 4194304 l) 19 r5 z.3
    (passes (nat_lt total (23 + l)) 23 r6 (ge_no total (23 + l) (omega (arith, h)))
    (passes (nat_lt total (24 + l)) (23 + l) 0 (ge_no total (24 + l) h) refl)))))

spelled_zero : (start next : ℕ) (b : Block) (tail : List ℕ) → may_begin start next b.first ≡ true → IsLawfulBlock b → 1 ≤ length tail
    → fault_at start next (length (open_gate ∷ (body b ++ tail))) (take 23 (open_gate ∷ (body b ++ tail))) ≡ 0
unfolding body header field_at field2_at field4_at
spelled_zero start next b tail begin lawful more =
    let head_is : take 23 (open_gate ∷ (body b ++ tail)) ≡ open_gate ∷ header b =
    ap (λ (l : List ℕ). open_gate ∷ l) (ap (λ (l : List ℕ). take 22 l) (append_assoc (header b) b.payload tail) ∙ take_at (header b) (b.payload ++ tail) 22 refl) in
    let h = open_gate ∷ header b in
    let f : field_at 1 h ≡ b.first = from_be_bytes-to_be_bytes_8 b.first (omega (arith, lawful.last)) in
    let cp : field_at 9 h ≡ b.checkpoint = from_be_bytes-to_be_bytes_8 b.checkpoint (omega (arith, lawful.checkpoint, lawful.last)) in
    let n : field2_at 17 h ≡ b.count = from_be_bytes-to_be_bytes_2 b.count lawful.count.1 in
    let l : field4_at 19 h ≡ length b.payload = from_be_bytes-to_be_bytes_4 (length b.payload) (omega (arith, lawful.payload.1)) in
    let total = length (open_gate ∷ (body b ++ tail)) in
    ap (fault_at start next total) head_is
    ∙ fault_zero start next total h (ap (may_begin start next) f ∙ begin) (omega (arith, f, cp, n, lawful.checkpoint)) (omega (arith, n, lawful.count.0)) (omega (arith, f, n, lawful.last))
    (omega (arith, l, lawful.payload.0)) (omega (arith, l, lawful.payload.1)) (omega (arith, l, more, length-append (header b ++ b.payload) tail, length-append (header b) b.payload))

pub never_bad : (bs : List Block) (block byte : ℕ) (k : Kept) → StandsFor bs k → IsBadAt block byte k → ⊥
never_bad bs block byte k s bad =
    let h = long_behind k.start bs k refl bad.long s in
    let f = find _ _ bad.before bs bad.rest h.rest h.gate bad.sequence.run s.sequence.run h.closed (sym bad.bytes ∙ h.bytes) in
    let g = begins k.start bad.before f.b f.later (subst (IsSequence k.start) f.whole s.sequence) in
    let zero : fault_at k.start (follows bad.before) (length (open_gate ∷ bad.rest)) (take 23 (open_gate ∷ bad.rest)) ≡ 0 =
    ap (λ (l : List ℕ). fault_at k.start (follows bad.before) (length (open_gate ∷ l)) (take 23 (open_gate ∷ l))) f.bytes ∙ spelled_zero k.start (follows bad.before) f.b f.tail g.0 g.1 f.more in
    omega (arith, bad.fault, zero, bad.is_one)
