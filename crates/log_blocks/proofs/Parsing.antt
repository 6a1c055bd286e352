-- A header without a fault is the spelling of a lawful block.
use Rattle.std.proofs.Common.{◌≡◌, ⊎_elim, ℕ, suc, ◌+◌, ◌<◌, ◌≤◌, ◌^◌, List, ◌∷◌, ◌++◌, length, get_or, take, drop, refl, sym, ◌∙◌, ap, subst, arith, append_assoc, length-append, length-drop, take-append-drop, Bool, true, false}
use Rattle.std.specs.Prelude.{nat_lt, nat_le, ◌==◌, ◌&&◌, ◌||◌, not, if◌then◌else◌}
use Rattle.std.specs.Int.{w16, w32, w64, to_be_bytes, from_be_bytes}
use Rattle.std.proofs.lemmas.Nat.{be_bytes_2, be_bytes_4, be_bytes_8}
use Rattle.std.proofs.lemmas.Bool.Decides.{nat_tests}
use Rattle.std.proofs.lemmas.List.{take-take, drop-take, drop-drop, take_all, length-take, get_or-take, get_or-drop, get_or_past}
use Rattle.std.proofs.lemmas.Bool.{cases_lt}
use Rattle.log_blocks.specs.declared.header.Header.{Header}
use Rattle.log_blocks.specs.Log.{Block, IsLawfulBlock, body, header, open_gate}
use Rattle.log_blocks.specs.Opening.{field_at, field4_at, field2_at, fault_at, header_in, may_begin}

pub split_take : (m n : ℕ) (xs : List ℕ) → take (m + n) xs ≡ take m xs ++ take n (drop m xs)
split_take m n xs =
    sym (take-append-drop m (take (m + n) xs)) ∙ ap (λ (l : List ℕ). l ++ drop m (take (m + n) xs)) (take-take m (m + n) xs (omega arith)) ∙ ap (λ (l : List ℕ). take m xs ++ l) (drop-take m n xs)

no_fault : (c : Bool) (e r : ℕ) → 0 < e → (if c then e else r) ≡ 0 → (c ≡ false) × (r ≡ 0)
no_fault true e r pos is = absurd (omega arith)
no_fault false e r pos is = (refl, is)

neither : (a b : Bool) → (a || b) ≡ false → (a ≡ false) × (b ≡ false)
neither true b is = absurd (cc is)
neither false b is = (refl, is)

holds : (m : Bool) → not m ≡ false → m ≡ true
holds true is = refl
holds false is = absurd (cc is)

one_of : (a b : Bool) → a ≡ true → (a && b) ≡ false → b ≡ false
one_of true b t is = is
one_of false b t is = absurd (cc t)

-- what a header without a fault keeps
pub record Rules (start next total : ℕ) (h : Header) : Type 0 where
  pub begins : may_begin start next h.first ≡ true
  pub count : 1 ≤ h.count
  pub last : h.first + h.count ≤ 9223372036854775808
  pub checkpoint : h.checkpoint < h.first + h.count
  pub length : (1 ≤ h.length) × (h.length ≤ 4194304)
  pub whole : 24 + h.length ≤ total

record Chain (a1 b1 a2 b2 w2 p2 a3 b3 d3 a4 b4 d4 c5 c6 : Bool) : Type 0 where
  begins : b1 ≡ false
  wide : a3 ≡ false
  checkpoint : (w2 && p2) ≡ false
  none : b3 ≡ false
  last : d3 ≡ false
  empty : b4 ≡ false
  long : d4 ≡ false
  whole : c6 ≡ false

chain : (a1 b1 a2 b2 w2 p2 a3 b3 d3 a4 b4 d4 c5 c6 : Bool) (e : ℕ) → 0 < e
    → (if a1 || b1 then 1 else (if (a2 || b2) || (w2 && p2) then 9 else (if (a3 || b3) || d3 then 17 else (if (a4 || b4) || d4 then 19 else (if c5 then 23 else (if c6 then e else 0)))))) ≡ 0
    → Chain a1 b1 a2 b2 w2 p2 a3 b3 d3 a4 b4 d4 c5 c6
chain a1 b1 a2 b2 w2 p2 a3 b3 d3 a4 b4 d4 c5 c6 e pos is =
    let r6 : ℕ = if c6 then e else 0 in
    let r5 : ℕ = if c5 then 23 else r6 in
    let r4 : ℕ = if (a4 || b4) || d4 then 19 else r5 in
    let r3 : ℕ = if (a3 || b3) || d3 then 17 else r4 in
    let r2 : ℕ = if (a2 || b2) || (w2 && p2) then 9 else r3 in
    let f1 = no_fault (a1 || b1) 1 r2 (omega arith) is in
    let f2 = no_fault ((a2 || b2) || (w2 && p2)) 9 r3 (omega arith) f1.1 in
    let f3 = no_fault ((a3 || b3) || d3) 17 r4 (omega arith) f2.1 in
    let f4 = no_fault ((a4 || b4) || d4) 19 r5 (omega arith) f3.1 in
    let f5 = no_fault c5 23 r6 (omega arith) f4.1 in
    let f6 = no_fault c6 e 0 pos f5.1 in
    let g2 = neither (a2 || b2) (w2 && p2) f2.0 in
    let g3 = neither (a3 || b3) d3 f3.0 in
    let g4 = neither (a4 || b4) d4 f4.0 in
    let h3 = neither a3 b3 g3.0 in
    let h4 = neither a4 b4 g4.0 in
    record {
      begins = (neither a1 b1 f1.0).1;
      wide = h3.0;
      checkpoint = g2.1;
      none = h3.1;
      last = g3.1;
      empty = h4.1;
      long = g4.1;
      whole = f6.0;
    }

not_eq : (a b : ℕ) → (a == b) ≡ false → a ≡ b → ⊥
not_eq a b is same = grind (arith, nat_tests)

not_lt : (a b : ℕ) → nat_lt a b ≡ false → b ≤ a
not_lt a b is = grind (arith, nat_tests)

not_le : (a b : ℕ) → nat_le a b ≡ false → b < a
not_le a b is = grind (arith, nat_tests)

is_le : (a b : ℕ) → a ≤ b → nat_le a b ≡ true
is_le a b le = grind (arith, nat_tests)

pub rules_of : (start next total : ℕ) (head : List ℕ) → fault_at start next total head ≡ 0 → Rules start next total (header_in head)
unfolding fault_at header_in
rules_of start next total head is =
    let f = field_at 1 head in
    let cp = field_at 9 head in
    let n = field2_at 17 head in
    let l = field4_at 19 head in
    let c = chain (nat_lt total 9) (not (may_begin start next f)) (nat_lt total 17) (nat_le 9223372036854775808 cp) (nat_le 19 total) (nat_le (f + n) cp)
    (nat_lt total 19) (n == 0) (nat_lt 9223372036854775808 (f + n)) (nat_lt total 23) (l == 0) (nat_lt 4194304 l) (nat_lt total (23 + l)) (nat_lt total (24 + l)) (23 + l) (omega arith) is in
    let some : n ≡ 0 → ⊥ = not_eq n 0 c.none in
    let long : l ≡ 0 → ⊥ = not_eq l 0 c.empty in
    record {
      begins = holds (may_begin start next f) c.begins;
      count = omega (arith, some);
      last = not_lt _ _ c.last;
      checkpoint = not_le _ _ (one_of (nat_le 19 total) (nat_le (f + n) cp) (is_le 19 total (not_lt total 19 c.wide)) c.checkpoint);
      length = (omega (arith, long), not_lt _ _ c.long);
      whole = not_lt _ _ c.whole;
    }

small_part : (at n : ℕ) (head : List ℕ) → ((i : ℕ) → get_or head i 0 < 256) → (i : ℕ) → get_or (take n (drop at head)) i 0 < 256
small_part at n head small i = ⊎_elim
    (λ lt. subst (λ x. x < 256) (sym (get_or-take n (drop at head) i 0 lt ∙ get_or-drop at head i 0)) (small (at + i)))
    (λ ge. subst (λ x. x < 256) (sym (get_or_past (take n (drop at head)) i 0 (omega (arith, ge, length-take n (drop at head))))) (omega arith))
    (cases_lt i n)

spelled : (inner : List ℕ) → length inner ≡ 22 → ((i : ℕ) → get_or inner i 0 < 256)
    → (to_be_bytes w64 (from_be_bytes w64 (take 8 inner)) ++ to_be_bytes w64 (from_be_bytes w64 (take 8 (drop 8 inner))) ++ to_be_bytes w16 (from_be_bytes w16 (take 2 (drop 16 inner))) ++ to_be_bytes w32 (from_be_bytes w32 (take 4 (drop 18 inner)))) ≡ inner
spelled inner size small =
    let e1 = be_bytes_8 (take 8 inner) _ (omega (arith, length-take 8 inner)) (λ i. small_part 0 8 inner small i) refl in
    let e2 = be_bytes_8 (take 8 (drop 8 inner)) _ (omega (arith, length-take 8 (drop 8 inner), length-drop 8 inner)) (λ i. small_part 8 8 inner small i) refl in
    let e3 = be_bytes_2 (take 2 (drop 16 inner)) _ (omega (arith, length-take 2 (drop 16 inner), length-drop 16 inner)) (λ i. small_part 16 2 inner small i) refl in
    let e4 = be_bytes_4 (take 4 (drop 18 inner)) _ (omega (arith, length-take 4 (drop 18 inner), length-drop 18 inner)) (λ i. small_part 18 4 inner small i) refl in
    let p1 = split_take 8 8 inner in
    let p2 = split_take 16 2 inner in
    let p3 = split_take 18 4 inner in
    let whole : take 22 inner ≡ inner = take_all 22 inner (omega (arith, size)) in
    (λ i. ((e1 i ++ e2 i) ++ e3 i) ++ e4 i)
    ∙ ap (λ (l : List ℕ). (l ++ take 2 (drop 16 inner)) ++ take 4 (drop 18 inner)) (sym p1)
    ∙ ap (λ (l : List ℕ). l ++ take 4 (drop 18 inner)) (sym p2)
    ∙ sym p3 ∙ whole

-- the block that a header announces
abbrev pub announced : Header → List ℕ → Block
announced h rest = record { first = h.first; checkpoint = h.checkpoint; count = h.count; payload = take h.length (drop 22 rest) }

pub record Parsed (start next : ℕ) (h : Header) (rest : List ℕ) : Type 0 where
  pub begins : may_begin start next h.first ≡ true
  pub lawful : IsLawfulBlock (announced h rest)
  pub size : length (announced h rest).payload ≡ h.length
  pub bytes : open_gate ∷ rest ≡ (open_gate ∷ body (announced h rest)) ++ drop (22 + h.length) rest
  pub wide : length (open_gate ∷ body (announced h rest)) ≡ 23 + h.length
  pub more : 1 ≤ length (drop (22 + h.length) rest)

parsed_inner : (start next : ℕ) (rest : List ℕ) → ((i : ℕ) → get_or (take 22 rest) i 0 < 256) → (header_in (open_gate ∷ take 22 rest)).count < 2 ^ 16
    → fault_at start next (length (open_gate ∷ rest)) (open_gate ∷ take 22 rest) ≡ 0 → Parsed start next (header_in (open_gate ∷ take 22 rest)) rest
unfolding header body header_in field_at field4_at field2_at
parsed_inner start next rest small fits none =
    let r = rules_of start next (length (open_gate ∷ rest)) (open_gate ∷ take 22 rest) none in
    let h = header_in (open_gate ∷ take 22 rest) in
    let b = announced h rest in
    let long : 23 + h.length ≤ length rest = omega (arith, r.whole) in
    let inner_size : length (take 22 rest) ≡ 22 = omega (arith, length-take 22 rest, long) in
    let size : length b.payload ≡ h.length = omega (arith, length-take h.length (drop 22 rest), length-drop 22 rest, long) in
    let head_is : header b ≡ take 22 rest =
    ap (λ (n : ℕ). ((to_be_bytes w64 b.first ++ to_be_bytes w64 b.checkpoint) ++ to_be_bytes w16 b.count) ++ to_be_bytes w32 n) size ∙ spelled (take 22 rest) inner_size small in
    let tail : drop h.length (drop 22 rest) ≡ drop (22 + h.length) rest = drop-drop h.length 22 rest in
    record {
      begins = r.begins;
      lawful = record {
        first = begins_at_one start next h.first r.begins;
        count = (r.count, fits);
        last = r.last;
        checkpoint = r.checkpoint;
        payload = (omega (arith, size, r.length.0), omega (arith, size, r.length.1));
      };
      size = size;
      bytes = ap (λ (l : List ℕ). open_gate ∷ l) (sym (take-append-drop 22 rest)
          ∙ ap (λ (l : List ℕ). take 22 rest ++ l) (sym (take-append-drop h.length (drop 22 rest)))
          ∙ sym (append_assoc (take 22 rest) b.payload (drop h.length (drop 22 rest)))
          ∙ (λ i. (sym head_is i ++ b.payload) ++ tail i));
      wide = omega (arith, length-append (header b) b.payload, ap length head_is, inner_size, size);
      more = omega (arith, length-drop (22 + h.length) rest, long);
    }
  where
    begins_at_one : (start next first : ℕ) → may_begin start next first ≡ true → 1 ≤ first
    begins_at_one start next first is = grind (arith, nat_tests)

pub parsed : (start next : ℕ) (rest head : List ℕ) → head ≡ take 23 (open_gate ∷ rest) → ((i : ℕ) → get_or head i 0 < 256) → (header_in head).count < 2 ^ 16
    → fault_at start next (length (open_gate ∷ rest)) head ≡ 0 → Parsed start next (header_in head) rest
parsed start next rest head is small fits none =
    let P : List ℕ → Type 0 = λ l. ((i : ℕ) → get_or l i 0 < 256) → (header_in l).count < 2 ^ 16 → fault_at start next (length (open_gate ∷ rest)) l ≡ 0 → Parsed start next (header_in l) rest in
    let base : P (open_gate ∷ take 22 rest) = λ s f n. parsed_inner start next rest (λ i. s (suc i)) f n in
    subst P (sym is) base small fits none
