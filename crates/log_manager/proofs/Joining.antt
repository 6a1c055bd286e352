-- Records that join blocks, and blocks that join a log.
use Rattle.std.proofs.Common.{◌≡◌, inl, inr, ℕ, zero, suc, ◌+◌, ◌-◌, ◌≤◌, Bool, true, false, List, [], ◌∷◌, ◌++◌, length, take, drop, refl, sym, ◌∙◌, ap, subst, arith, append_assoc, append-nil, length-append}
use Rattle.std.specs.Prelude.{if◌then◌else◌}
use Rattle.std.specs.List.{All}
use Rattle.std.proofs.lemmas.List.Elements.{All-append, All-cons, All-nil}
use Rattle.std.proofs.lemmas.Grind.{flat_map-append}
use Rattle.log_blocks.specs.Batch.{begun, joined, joins, numbered, records_in, with_group}
use Rattle.log_blocks.specs.Log.{Block, IsRun, body, next_lsn, open_gate}
use Rattle.log_blocks.specs.Opening.{places}
use Rattle.wal_record.specs.Rules.{HasSpelling}
use Rattle.wal_record.specs.Spelling.{spelling}
use Rattle.wal_record.specs.declared.record.Record.{Record}
use Rattle.log_manager.specs.Managed.{records_at}
use Rattle.log_manager.specs.Payload.{bytes_of}
use Rattle.log_manager.specs.Records.{AreIn, Holds, IsLastCheckpoint, checkpoint_in}
use Rattle.wal_record.specs.Checkpoints.{checkpoint_after, is_checkpoint}

-- ---- blocks one behind the other

pub in_append : (c : ℕ) (xs ys : List Block) (rs ss : List Record) → AreIn c xs rs → AreIn (checkpoint_in c xs) ys ss → AreIn c (xs ++ ys) (rs ++ ss)
in_append c [] ys rs ss a b = subst (λ (l : List Record). AreIn c ys (l ++ ss)) (sym a) b
in_append c (x ∷ xs) ys rs ss a b =
    (a.0, a.1 ++ ss, ap (λ (l : List Record). l ++ ss) a.2 ∙ append_assoc a.0 a.1 ss, a.3, in_append x.checkpoint xs ys a.1 ss a.4 b)

pub in_split : (c : ℕ) (xs ys : List Block) (rs : List Record) → AreIn c (xs ++ ys) rs
    → (front : List Record) × (back : List Record) × (rs ≡ front ++ back) × AreIn c xs front × AreIn (checkpoint_in c xs) ys back
in_split c [] ys rs a = ([], rs, refl, refl, a)
in_split c (x ∷ xs) ys rs a =
    let s = in_split x.checkpoint xs ys a.1 a.4 in
    (a.0 ++ s.0, s.1, a.2 ∙ ap (λ (l : List Record). a.0 ++ l) s.2 ∙ sym (append_assoc a.0 s.0 s.1), (a.0, s.0, refl, a.3, s.3), s.4)

pub checkpoint_in-append : (c : ℕ) (xs ys : List Block) → checkpoint_in c (xs ++ ys) ≡ checkpoint_in (checkpoint_in c xs) ys
checkpoint_in-append c [] ys = refl
checkpoint_in-append c (x ∷ xs) ys = checkpoint_in-append x.checkpoint xs ys

take_past : (xs ys : List Record) (n : ℕ) → take (length xs + n) (xs ++ ys) ≡ xs ++ take n ys
take_past [] ys n = ap (λ m. take m ys) (none n)
  where
    none : (n : ℕ) → 0 + n ≡ n
    none n = omega arith
take_past (x ∷ xs) ys n = ap (λ m. take m (x ∷ (xs ++ ys))) (far (length xs)) ∙ ap (λ (l : List Record). x ∷ l) (take_past xs ys n)
  where
    far : (m : ℕ) → suc m + n ≡ suc (m + n)
    far m = omega arith

drop_past : (xs ys : List Record) (n : ℕ) → drop (length xs + n) (xs ++ ys) ≡ drop n ys
drop_past [] ys n = ap (λ m. drop m ys) (none n)
  where
    none : (n : ℕ) → 0 + n ≡ n
    none n = omega arith
drop_past (x ∷ xs) ys n = ap (λ m. drop m (x ∷ (xs ++ ys))) (far (length xs)) ∙ drop_past xs ys n
  where
    far : (m : ℕ) → suc m + n ≡ suc (m + n)
    far m = omega arith

-- some blocks from the front hold some records from the front
-- the first blocks have the first records
pub in_take : (c m : ℕ) (xs : List Block) (rs : List Record) → AreIn c xs rs → AreIn c (take m xs) (take (records_in (take m xs)) rs)
in_take c zero xs rs a = refl
in_take c (suc m) [] rs a = refl
in_take c (suc m) (x ∷ xs) rs a =
    let n = records_in (take m xs) in
    let count : x.count + n ≡ length a.0 + n = ap (λ k. k + n) a.3.records.count_is in
    (a.0, take n a.1, ap (take (x.count + n)) a.2 ∙ ap (λ k. take k (a.0 ++ a.1)) count ∙ take_past a.0 a.1 n, a.3, in_take x.checkpoint m xs a.1 a.4)

-- the other blocks have the others
pub in_drop : (c m : ℕ) (xs : List Block) (rs : List Record) → AreIn c xs rs → AreIn (checkpoint_in c (take m xs)) (drop m xs) (drop (records_in (take m xs)) rs)
in_drop c zero xs rs a = a
in_drop c (suc m) [] rs a = a
in_drop c (suc m) (x ∷ xs) rs a =
    let n = records_in (take m xs) in
    let count : x.count + n ≡ length a.0 + n = ap (λ k. k + n) a.3.records.count_is in
    subst (AreIn (checkpoint_in x.checkpoint (take m xs)) (drop m xs)) (sym (ap (drop (x.count + n)) a.2 ∙ ap (λ k. drop k (a.0 ++ a.1)) count ∙ drop_past a.0 a.1 n)) (in_drop x.checkpoint m xs a.1 a.4)

-- blocks have as many records as they say
pub in_count : (c : ℕ) (xs : List Block) (rs : List Record) → AreIn c xs rs → records_in xs ≡ length rs
in_count c [] rs a = sym (ap length a)
in_count c (x ∷ xs) rs a = omega (arith, a.3.records.count_is, in_count x.checkpoint xs a.1 a.4, ap length a.2, length-append a.0 a.1)

-- more blocks have no fewer records
pub records_take : (m n : ℕ) (xs : List Block) → m ≤ n → records_in (take m xs) ≤ records_in (take n xs)
records_take zero n xs le = omega arith
records_take (suc m) zero xs le = absurd (omega (arith, le))
records_take (suc m) (suc n) [] le = omega arith
records_take (suc m) (suc n) (x ∷ xs) le = omega (arith, records_take m n xs (omega (arith, le)))

pub records_most : (n : ℕ) (xs : List Block) → records_in (take n xs) ≤ records_in xs
records_most zero xs = omega arith
records_most (suc n) [] = omega arith
records_most (suc n) (x ∷ xs) = omega (arith, records_most n xs)

pub records_places : (at n : ℕ) (xs : List Block) → records_at (take n (places at xs)) ≡ records_in (take n xs)
records_places at zero xs = refl
records_places at (suc n) [] = refl
records_places at (suc n) (x ∷ xs) = ap (λ k. x.count + k) (records_places (at + length (open_gate ∷ body x)) n xs)

pub next_count : (n : ℕ) (xs : List Block) → next_lsn n xs ≡ n + records_in xs
next_count n [] = omega arith
next_count n (x ∷ xs) = omega (arith, next_count (n + x.count) xs)

-- ---- records that join a block

pub checkpoint_after-append : (c n : ℕ) (rs ss : List Record) → checkpoint_after c n (rs ++ ss) ≡ checkpoint_after (checkpoint_after c n rs) (n + length rs) ss
checkpoint_after-append c n [] ss = ap (λ m. checkpoint_after c m ss) (omega arith)
checkpoint_after-append c n (r ∷ rs) ss =
    let d = if is_checkpoint r then n else c in
    checkpoint_after-append d (suc n) rs ss ∙ ap (λ m. checkpoint_after (checkpoint_after d (suc n) rs) m ss) (omega arith)

-- what the fold over the records gives is the last Checkpoint
pub last_is : (c n : ℕ) (rs : List Record) → IsLastCheckpoint c n rs (checkpoint_after c n rs)
last_is c n [] = inl (refl, All-nil (λ r. is_checkpoint r ≡ false))
last_is c n (r ∷ rs) = by (is_checkpoint r) refl (last_is (if is_checkpoint r then n else c) (suc n) rs)
  where
    by : (b : Bool) → is_checkpoint r ≡ b → IsLastCheckpoint (if b then n else c) (suc n) rs (checkpoint_after (if b then n else c) (suc n) rs)
        → IsLastCheckpoint c n (r ∷ rs) (checkpoint_after (if b then n else c) (suc n) rs)
    by true e (inl none) = inr (record { front = []; found = r; back = rs; is = refl; checkpoint = e; none_behind = none.1; place = omega (arith, none.0) })
    by true e (inr l) = inr (record { front = r ∷ l.front; found = l.found; back = l.back; is = ap (λ (m : List Record). r ∷ m) l.is; checkpoint = l.checkpoint; none_behind = l.none_behind; place = omega (arith, l.place) })
    by false e (inl none) = inl (none.0, All-cons (λ r. is_checkpoint r ≡ false) r rs e none.1)
    by false e (inr l) = inr (record { front = r ∷ l.front; found = l.found; back = l.back; is = ap (λ (m : List Record). r ∷ m) l.is; checkpoint = l.checkpoint; none_behind = l.none_behind; place = omega (arith, l.place) })

-- the Checkpoint that the last header tells is that of the records
pub checkpoint_is : (c n : ℕ) (xs : List Block) (rs : List Record) → IsRun n xs → AreIn c xs rs → checkpoint_in c xs ≡ checkpoint_after c n rs
checkpoint_is c n [] rs run a = sym (ap (checkpoint_after c n) a)
checkpoint_is c n (x ∷ xs) rs run a =
    let here : x.checkpoint ≡ checkpoint_after c n a.0 = a.3.checkpoint ∙ ap (λ m. checkpoint_after c m a.0) run.0 in
    checkpoint_is x.checkpoint (n + x.count) xs a.1 run.2 a.4
    ∙ ap (λ m. checkpoint_after m (n + x.count) a.1) here ∙ ap (λ m. checkpoint_after (checkpoint_after c n a.0) (n + m) a.1) a.3.records.count_is
    ∙ sym (checkpoint_after-append c n a.0 a.1) ∙ ap (checkpoint_after c n) (sym a.2)

-- the last Checkpoint stands among the records before
pub checkpoint_below : (c n : ℕ) (rs : List Record) → c ≤ n - 1 → checkpoint_after c n rs ≤ n + length rs - 1
checkpoint_below c n [] le = omega (arith, le)
checkpoint_below c n (r ∷ rs) le = by (is_checkpoint r) (checkpoint_below n (suc n) rs (omega arith)) (checkpoint_below c (suc n) rs (omega (arith, le)))
  where
    by : (b : Bool) → checkpoint_after n (suc n) rs ≤ suc n + length rs - 1 → checkpoint_after c (suc n) rs ≤ suc n + length rs - 1
        → checkpoint_after (if b then n else c) (suc n) rs ≤ n + suc (length rs) - 1
    by true this that = omega (arith, this)
    by false this that = omega (arith, that)

holds_more : (c n k : ℕ) (b : Block) (own recs : List Record) → Holds c b own → All HasSpelling recs
    → b.first ≡ n → k ≡ checkpoint_after b.checkpoint (n + b.count) recs
    → Holds c (record { first = n; checkpoint = k; count = b.count + length recs; payload = b.payload ++ bytes_of recs }) (own ++ recs)
holds_more c n k b own recs h spelled first is = record {
  records = record {
    spelled = All-append HasSpelling own recs h.records.spelled spelled;
    count_is = omega (arith, h.records.count_is, length-append own recs);
    payload_is = ap (λ (l : List ℕ). l ++ bytes_of recs) h.records.payload_is ∙ sym (flat_map-append spelling own recs);
  };
  checkpoint = is ∙ ap (λ m. checkpoint_after m (n + b.count) recs) (h.checkpoint ∙ ap (λ m. checkpoint_after c m own) first)
      ∙ ap (λ m. checkpoint_after (checkpoint_after c n own) (n + m) recs) h.records.count_is ∙ sym (checkpoint_after-append c n own recs);
}

joined_in : (c n : ℕ) (bs : List Block) (rs recs : List Record) (k : ℕ) → AreIn c (numbered n bs) rs → joins bs (length recs) (length (bytes_of recs)) ≡ true
    → All HasSpelling recs → k ≡ checkpoint_after (checkpoint_in c (numbered n bs)) (n + records_in bs) recs
    → AreIn c (numbered n (joined bs (length recs) k (bytes_of recs))) (rs ++ recs)
joined_in c n [] rs recs k a j spelled is = absurd cc
joined_in c n (b ∷ []) rs recs k a j spelled is =
    let all : rs ≡ a.0 = a.2 ∙ ap (λ (l : List Record). a.0 ++ l) a.4 ∙ append-nil a.0 in
    let is' : k ≡ checkpoint_after b.checkpoint (n + b.count) recs = is ∙ ap (λ m. checkpoint_after b.checkpoint m recs) (omega arith) in (
      a.0 ++ recs,
      [],
      ap (λ (l : List Record). l ++ recs) all ∙ sym (append-nil (a.0 ++ recs)),
      holds_more c n k (record { first = n; checkpoint = b.checkpoint; count = b.count; payload = b.payload }) a.0 recs a.3 spelled refl is',
      refl,
    )
joined_in c n (b ∷ d ∷ bs) rs recs k a j spelled is = (
  a.0,
  a.1 ++ recs,
  ap (λ (l : List Record). l ++ recs) a.2 ∙ append_assoc a.0 a.1 recs,
  a.3,
  joined_in b.checkpoint (n + b.count) (d ∷ bs) a.1 recs k a.4 j spelled
      (is ∙ ap (λ m. checkpoint_after (checkpoint_in b.checkpoint (numbered (n + b.count) (d ∷ bs))) m recs) (omega arith)),
)

begun_in : (c n : ℕ) (bs : List Block) (rs recs : List Record) (k : ℕ) → AreIn c (numbered n bs) rs → All HasSpelling recs
    → k ≡ checkpoint_after (checkpoint_in c (numbered n bs)) (n + records_in bs) recs
    → AreIn c (numbered n (bs ++ begun (length recs) k (bytes_of recs) ∷ [])) (rs ++ recs)
begun_in c n [] rs recs k a spelled is = (
  recs,
  [],
  ap (λ (l : List Record). l ++ recs) a ∙ sym (append-nil recs),
  record { records = record { spelled = spelled; count_is = refl; payload_is = refl }; checkpoint = is ∙ ap (λ m. checkpoint_after c m recs) (omega arith) },
  refl,
)
begun_in c n (b ∷ bs) rs recs k a spelled is = (
  a.0,
  a.1 ++ recs,
  ap (λ (l : List Record). l ++ recs) a.2 ∙ append_assoc a.0 a.1 recs,
  a.3,
  begun_in b.checkpoint (n + b.count) bs a.1 recs k a.4 spelled
      (is ∙ ap (λ m. checkpoint_after (checkpoint_in b.checkpoint (numbered (n + b.count) bs)) m recs) (omega arith)),
)

-- a group joins the blocks in memory, which go on behind others
pub group_in : (c n : ℕ) (xs bs : List Block) (rs recs : List Record) (k : ℕ) → AreIn c (xs ++ numbered n bs) rs → All HasSpelling recs
    → k ≡ checkpoint_after (checkpoint_in c (xs ++ numbered n bs)) (n + records_in bs) recs
    → AreIn c (xs ++ numbered n (with_group bs (length recs) k (bytes_of recs))) (rs ++ recs)
group_in c n xs bs rs recs k a spelled is =
    let s = in_split c xs (numbered n bs) rs a in
    let is' = is ∙ ap (λ m. checkpoint_after m (n + records_in bs) recs) (checkpoint_in-append c xs (numbered n bs)) in
    let more = by (joins bs (length recs) (length (bytes_of recs))) refl s.1 s.4 is' in
    subst (AreIn c (xs ++ numbered n (with_group bs (length recs) k (bytes_of recs)))) (sym (append_assoc s.0 s.1 recs) ∙ ap (λ (l : List Record). l ++ recs) (sym s.2))
    (in_append c xs (numbered n (with_group bs (length recs) k (bytes_of recs))) s.0 (s.1 ++ recs) s.3 more)
  where
    by : (b : Bool) → joins bs (length recs) (length (bytes_of recs)) ≡ b → (ss : List Record) → AreIn (checkpoint_in c xs) (numbered n bs) ss
        → k ≡ checkpoint_after (checkpoint_in (checkpoint_in c xs) (numbered n bs)) (n + records_in bs) recs
        → AreIn (checkpoint_in c xs) (numbered n (if b then joined bs (length recs) k (bytes_of recs) else bs ++ begun (length recs) k (bytes_of recs) ∷ [])) (ss ++ recs)
    by true e ss a' i = joined_in (checkpoint_in c xs) n bs ss recs k a' e spelled i
    by false e ss a' i = begun_in (checkpoint_in c xs) n bs ss recs k a' spelled i
