-- What a disk keeps of a log, over plain variables.
use Rattle.std.proofs.Common.{◌≡◌, ◌⊎◌, ℕ, zero, suc, ◌+◌, ◌-◌, ◌<◌, ◌≤◌, List, [], ◌∷◌, ◌++◌, length, take, drop, get_or, refl, sym, ◌∙◌, ap, subst, inl, inr, ⊎_elim, arith, append-nil, append_assoc, take-append-drop, length-append}
use Rattle.std.proofs.lemmas.Bool.{cases_lt}
use Rattle.std.proofs.lemmas.List.{take_at, drop_at}
use Rattle.std.proofs.Math.Seq.{drop-append-add}
use Rattle.media.specs.Crash.{Only}
use Rattle.media.specs.Kept.{Kept, without, bytes_at}
use Rattle.log_blocks.specs.declared.header.Place.{Place}
use Rattle.log_blocks.specs.Log.{Block, body, header, blocks, open_gate, IsSequence, IsRun, first_lsn, Behind, StandsFor}
use Rattle.log_blocks.specs.LogState.{LogState, IsDurable, payload_at}
use Rattle.log_blocks.specs.Opening.{DropLeaves, FlushLeaves, Progress, IsChain, places}
use Rattle.log_blocks.proofs.BlockLists.{blocks-append}
use Rattle.log_blocks.proofs.FirstGate.{more_none}
use Rattle.log_blocks.proofs.Progressing.{length-places}
use Rattle.log_blocks.proofs.Whole.{places-append, chain_append, chain_places}

pub chain_progress : (at : ℕ) (found found2 : List Place) (pending pending2 : List Block) (gate gate2 : ℕ) → IsChain at found gate → Progress gate found pending gate2 found2 pending2 → IsChain at found2 gate2
chain_progress at found found2 pending pending2 gate gate2 chain p =
    let done = take p.count pending in
    subst (λ (l : List Place). IsChain at l gate2) (sym p.places_are)
    (subst (IsChain at (found ++ places gate done)) (sym p.gate_is) (chain_append at found (places gate done) gate (gate + length (blocks done)) chain (chain_places gate done)))

-- all pending blocks have been written
pub durable_more : {D : Type 0} (told : D → Kept) (may_leave : D → Kept → Type 0) (old new : LogState D) (bs : List Block) → IsDurable told may_leave old bs
    → StandsFor (bs ++ old.pending) (told new.device) → Only (told new.device) (may_leave new.device) → (told new.device).start ≡ (told old.device).start
    → Progress old.gate old.places old.pending new.gate new.places new.pending → new.pending ≡ [] → IsDurable told may_leave new (bs ++ old.pending)
durable_more told may_leave old new bs d stood only start p none =
    let all : take p.count old.pending ≡ old.pending =
    sym (append-nil (take p.count old.pending)) ∙ ap (λ (l : List Block). take p.count old.pending ++ l) (sym none ∙ p.left) ∙ take-append-drop p.count old.pending in
    let from = (told old.device).start in
    record {
      stands = stood;
      only = only;
      places_are = p.places_are ∙ ap (λ (l : List Block). old.places ++ places old.gate l) all ∙ ap (λ (l : List Place). l ++ places old.gate old.pending) d.places_are
          ∙ ap (λ n. places from bs ++ places n old.pending) d.gate_is ∙ sym (places-append from bs old.pending) ∙ ap (λ n. places n (bs ++ old.pending)) (sym start);
      gate_is = omega (arith, p.gate_is, ap (λ (l : List Block). length (blocks l)) all, d.gate_is, start, ap length (blocks-append bs old.pending), length-append (blocks bs) (blocks old.pending));
    }

-- nothing has been written
pub not_flushed : {D : Type 0} (told : D → Kept) (may_leave : D → Kept → Type 0) (log : LogState D) (bs : List Block) → IsDurable told may_leave log bs → FlushLeaves told may_leave bs log.pending log.pending log.device
not_flushed told may_leave log bs d = record {
  done = 0;
  within = omega arith;
  rest_is = refl;
  read = more_none bs log.pending (told log.device) d.stands;
  crash = λ k may. more_none bs log.pending k (subst (StandsFor bs) (sym (d.only k may)) d.stands);
}

-- the place of block n
pub place_at : (at : ℕ) (bs : List Block) (n : ℕ) (p : Place) → n < length bs → p ≡ get_or (places at bs) n p
    → (p.at ≡ at + length (blocks (take n bs))) × (p.length ≡ length (payload_at bs n))
place_at at [] n p lt is = absurd (omega (arith, lt))
place_at at (b ∷ bs) zero p lt is = (omega (arith, ap (λ (x : Place). x.at) is), ap (λ (x : Place). x.length) is)
place_at at (b ∷ bs) (suc n) p lt is =
    let rest = place_at (at + length (open_gate ∷ body b)) bs n p (omega (arith, lt)) is in
    (omega (arith, rest.0, length-append (open_gate ∷ body b) (blocks (take n bs))), rest.1)

-- a block's payload stands behind its header
payload_in : (bs : List Block) (tail : List ℕ) (n : ℕ) → n < length bs → take (length (payload_at bs n)) (drop (length (blocks (take n bs)) + 23) (blocks bs ++ tail)) ≡ payload_at bs n
unfolding body header
payload_in [] tail n lt = absurd (omega (arith, lt))
payload_in (b ∷ bs) tail zero lt =
    let whole : blocks (b ∷ bs) ++ tail ≡ (open_gate ∷ header b) ++ (b.payload ++ (blocks bs ++ tail)) =
    append_assoc (open_gate ∷ body b) (blocks bs) tail ∙ append_assoc (open_gate ∷ header b) b.payload (blocks bs ++ tail) in
    ap (λ (l : List ℕ). take (length b.payload) (drop 23 l)) whole
    ∙ ap (λ (l : List ℕ). take (length b.payload) l) (drop_at (open_gate ∷ header b) (b.payload ++ (blocks bs ++ tail)) 23 refl)
    ∙ take_at b.payload (blocks bs ++ tail) (length b.payload) refl
payload_in (b ∷ bs) tail (suc n) lt =
    let x = open_gate ∷ body b in
    let far : length (blocks (b ∷ take n bs)) + 23 ≡ length x + (length (blocks (take n bs)) + 23) = omega (arith, length-append x (blocks (take n bs))) in
    ap (λ m. take (length (payload_at bs n)) (drop m (blocks (b ∷ bs) ++ tail))) far
    ∙ ap (λ (l : List ℕ). take (length (payload_at bs n)) (drop (length x + (length (blocks (take n bs)) + 23)) l)) (append_assoc x (blocks bs) tail)
    ∙ ap (λ (l : List ℕ). take (length (payload_at bs n)) l) (drop-append-add x (blocks bs ++ tail) (length (blocks (take n bs)) + 23))
    ∙ payload_in bs tail n (omega (arith, lt))

-- a log with a block has more than one byte
pub behind_some : (bs : List Block) (k : Kept) (n : ℕ) → StandsFor bs k → n < length bs → Behind k.start (blocks bs) k
behind_some bs k n s lt = ⊎_elim (λ one. absurd (omega (arith, ap (λ (l : List Block). length l) one.1, lt))) (λ (b : Behind k.start (blocks bs) k). b) s.bytes

pub payload_read : (bs : List Block) (k : Kept) (n : ℕ) (p : Place) → StandsFor bs k → n < length bs → p ≡ get_or (places k.start bs) n p → bytes_at k (p.at + 23) p.length ≡ payload_at bs n
payload_read bs k n p s lt is =
    let b = behind_some bs k n s lt in
    let at = place_at k.start bs n p lt is in
    let off : p.at + 23 - k.start ≡ length (blocks (take n bs)) + 23 = omega (arith, at.0) in
    (λ i. take (at.1 i) (drop (off i) (b.bytes i))) ∙ payload_in bs (b.gate ∷ b.rest) n lt

pub payload_left : (xs ys : List Block) (n : ℕ) → n < length xs → payload_at (xs ++ ys) n ≡ payload_at xs n
payload_left [] ys n lt = absurd (omega (arith, lt))
payload_left (x ∷ xs) ys zero lt = refl
payload_left (x ∷ xs) ys (suc n) lt = payload_left xs ys n (omega (arith, lt))

pub payload_right : (xs ys : List Block) (n : ℕ) → payload_at (xs ++ ys) (length xs + n) ≡ payload_at ys n
payload_right [] ys n = ap (payload_at ys) (none n)
  where
    none : (n : ℕ) → 0 + n ≡ n
    none n = omega arith
payload_right (x ∷ xs) ys n = ap (payload_at (x ∷ (xs ++ ys))) (next (length xs) n) ∙ payload_right xs ys n
  where
    next : (m n : ℕ) → suc m + n ≡ suc (m + n)
    next m n = omega arith

pub payload_get : (bs : List Block) (n : ℕ) (b : Block) → n < length bs → b ≡ get_or bs n b → payload_at bs n ≡ b.payload
payload_get [] n b lt is = absurd (omega (arith, lt))
payload_get (x ∷ bs) zero b lt is = sym (ap (λ (y : Block). y.payload) is)
payload_get (x ∷ bs) (suc n) b lt is = payload_get bs n b (omega (arith, lt)) is

-- where the disk goes on behind a block
pub in_disk : (start len gate at : ℕ) → (len - start ≤ 1 → gate ≡ start) → (1 < len - start → gate < len) → start ≤ at → at + 23 ≤ gate → gate < len
in_disk start len gate at short within from behind =
    ⊎_elim (λ (few : len - start < 2). absurd (omega (arith, short (omega (arith, few)), from, behind))) (λ (many : 2 ≤ len - start). within (omega (arith, many))) (cases_lt (len - start) 2)

run_any : (n : ℕ) (bs : List Block) → IsRun n bs → IsRun (first_lsn bs) bs
run_any n [] run = tt
run_any n (b ∷ bs) run = subst (λ m. IsRun m (b ∷ bs)) (sym run.0) run

run_drop : (n : ℕ) (bs : List Block) (m : ℕ) → IsRun n bs → IsRun (first_lsn (drop m bs)) (drop m bs)
run_drop n bs zero run = run_any n bs run
run_drop n [] (suc m) run = tt
run_drop n (b ∷ bs) (suc m) run = run_drop (n + b.count) bs m run.2

pub places-drop : (at : ℕ) (bs : List Block) (n : ℕ) → drop n (places at bs) ≡ places (at + length (blocks (take n bs))) (drop n bs)
places-drop at bs zero = ap (λ m. places m bs) (none at)
  where
    none : (n : ℕ) → n ≡ n + 0
    none n = omega arith
places-drop at [] (suc n) = refl
places-drop at (b ∷ bs) (suc n) =
    let far : at + length (open_gate ∷ body b) + length (blocks (take n bs)) ≡ at + length (blocks (b ∷ take n bs)) = omega (arith, length-append (open_gate ∷ body b) (blocks (take n bs))) in
    places-drop (at + length (open_gate ∷ body b)) bs n ∙ ap (λ m. places m (drop n bs)) far

split : (bs : List Block) (n : ℕ) → blocks bs ≡ blocks (take n bs) ++ blocks (drop n bs)
split bs n = ap blocks (sym (take-append-drop n bs)) ∙ blocks-append (take n bs) (drop n bs)

-- what stands for blocks stands for the rest of them, without the first
pub stands_drop : (bs : List Block) (k : Kept) (n : ℕ) (p : Place) → StandsFor bs k → n < length bs → p ≡ get_or (places k.start bs) n p → StandsFor (drop n bs) (without k p.at)
stands_drop bs k n p s lt is =
    let b = behind_some bs k n s lt in
    let at = (place_at k.start bs n p lt is).0 in
    let front = blocks (take n bs) in
    let off : p.at - k.start ≡ length front = omega (arith, at) in
    let tail = b.gate ∷ b.rest in
    let bytes : drop (p.at - k.start) k.bytes ≡ blocks (drop n bs) ++ tail =
    ap (λ m. drop m k.bytes) off ∙ ap (λ (l : List ℕ). drop (length front) l) (b.bytes ∙ ap (λ (l : List ℕ). l ++ tail) (split bs n) ∙ append_assoc front (blocks (drop n bs)) tail)
    ∙ drop_at front (blocks (drop n bs) ++ tail) (length front) refl in
    record {
      sequence = record { from_one = first_drop bs n k.start p.at s.sequence at; run = run_drop (first_lsn bs) bs n s.sequence.run };
      bytes = inr (record { from = refl; gate = b.gate; rest = b.rest; bytes = bytes; closed = b.closed });
    }
  where
    first_drop : (bs : List Block) (n start at : ℕ) → IsSequence start bs → at ≡ start + length (blocks (take n bs)) → at ≡ 0 → first_lsn (drop n bs) ≡ 1
    first_drop bs zero start at s is none = s.from_one (omega (arith, is, none))
    first_drop [] (suc n) start at s is none = refl
    first_drop (b ∷ bs) (suc n) start at s is none = absurd (omega (arith, is, none, length-append (open_gate ∷ body b) (blocks (take n bs))))

-- the first blocks are gone
pub durable_drop : {D : Type 0} (told : D → Kept) (may_leave : D → Kept → Type 0) (old new : LogState D) (bs : List Block) (n : ℕ) (p : Place) → IsDurable told may_leave old bs
    → n < length old.places → p ≡ get_or old.places n p → told new.device ≡ without (told old.device) p.at
    → ((c : Kept) → may_leave new.device c → (d : Kept) × may_leave old.device d × (c ≡ without d p.at)) → new.places ≡ drop n old.places → new.gate ≡ old.gate
    → IsDurable told may_leave new (drop n bs)
durable_drop told may_leave old new bs n p d lt is gone outcomes places_new gate_same =
    let k = told old.device in
    let here : n < length bs = omega (arith, lt, ap length d.places_are, length-places k.start bs) in
    let at_bs : p ≡ get_or (places k.start bs) n p = is ∙ ap (λ (l : List Place). get_or l n p) d.places_are in
    let at = (place_at k.start bs n p here at_bs).0 in
    record {
      stands = subst (StandsFor (drop n bs)) (sym gone) (stands_drop bs k n p d.stands here at_bs);
      only = λ c left. let o = outcomes c left in o.2 ∙ ap (λ (x : Kept). without x p.at) (d.only o.0 o.1) ∙ sym gone;
      places_are = places_new ∙ ap (drop n) d.places_are ∙ places-drop k.start bs n ∙ ap (λ m. places m (drop n bs)) (sym at ∙ sym (ap (λ (x : Kept). x.start) gone));
      gate_is = omega (arith, gate_same, d.gate_is, at, ap (λ (x : Kept). x.start) gone, ap length (split bs n), length-append (blocks (take n bs)) (blocks (drop n bs)));
    }

-- what a crash in a discard leaves
pub dropped : (bs : List Block) (k c : Kept) (n : ℕ) (p : Place) → StandsFor bs k → n < length bs → p ≡ get_or (places k.start bs) n p → (outcomes : Kept → Type 0) → Only k outcomes
    → (d : Kept) × outcomes d × ((c ≡ d) ⊎ (c ≡ without d p.at)) → StandsFor bs c ⊎ StandsFor (drop n bs) c
dropped bs k c n p s lt is outcomes only left =
    let same = only left.0 left.1 in
    ⊎_elim (λ whole. inl (subst (StandsFor bs) (sym (whole ∙ same)) s))
    (λ cut. inr (subst (StandsFor (drop n bs)) (sym (cut ∙ ap (λ (x : Kept). without x p.at) same)) (stands_drop bs k n p s lt is))) left.2

-- and what it leaves now
pub drop_left : {D : Type 0} (told : D → Kept) (may_leave : D → Kept → Type 0) (old new : D) (bs : List Block) (n : ℕ) (p : Place) → StandsFor bs (told old) → Only (told old) (may_leave old)
    → n < length bs → p ≡ get_or (places (told old).start bs) n p → (told new ≡ told old) ⊎ (told new ≡ without (told old) p.at)
    → ((k : Kept) → may_leave new k → (d : Kept) × may_leave old d × ((k ≡ d) ⊎ (k ≡ without d p.at))) → DropLeaves told may_leave bs n new
drop_left told may_leave old new bs n p stands only lt is told_either crash_either = record {
  read = dropped bs (told old) (told new) n p stands lt is (λ k. k ≡ told old) (λ k same. same) (told old, refl, told_either);
  crash = λ k left. dropped bs (told old) k n p stands lt is (may_leave old) only (crash_either k left);
}
