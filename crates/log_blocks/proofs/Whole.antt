-- The places of the durable blocks and the blocks that wait behind them.
use Rattle.std.proofs.Common.{◌≡◌, get_or, ℕ, zero, suc, ◌+◌, ◌*◌, ◌<◌, ◌≤◌, List, [], ◌∷◌, ◌++◌, length, take, drop, max, refl, sym, ◌∙◌, ap, subst, arith, append_assoc, length-append, length-drop, take-append-drop, append-nil}
use Rattle.log_blocks.specs.Batch.{AreSized, numbered, records_in, IsChecked}
use Rattle.log_blocks.specs.declared.header.Place.{Place}
use Rattle.log_blocks.specs.Log.{Block, body, header, blocks, open_gate, IsRun, IsSequence, next_lsn}
use Rattle.log_blocks.specs.LogState.{IsWhole, lsn_behind}
use Rattle.log_blocks.specs.Opening.{IsChain, Progress, places, place_of, lsn_after}
use Rattle.log_blocks.proofs.BlockLists.{blocks-append, run_front}
use Rattle.log_blocks.proofs.Walking.{lsn_after-push, next_above}

-- how wide a block is with its gate
pub length-block : (b : Block) → length (open_gate ∷ body b) ≡ 23 + length b.payload
unfolding body header
length-block b = omega (arith, length-append (header b) b.payload)

pub places-append : (at : ℕ) (xs ys : List Block) → places at (xs ++ ys) ≡ places at xs ++ places (at + length (blocks xs)) ys
places-append at [] ys = ap (λ n. places n ys) (plus_none at)
  where
    plus_none : (n : ℕ) → n ≡ n + 0
    plus_none n = omega arith
places-append at (x ∷ xs) ys =
    let step : at + length (open_gate ∷ body x) + length (blocks xs) ≡ at + length (blocks (x ∷ xs)) = omega (arith, length-append (open_gate ∷ body x) (blocks xs)) in
    ap (λ (l : List Place). place_of at x ∷ l) (places-append (at + length (open_gate ∷ body x)) xs ys
    ∙ ap (λ n. places (at + length (open_gate ∷ body x)) xs ++ places n ys) step)

pub chain_places : (at : ℕ) (bs : List Block) → IsChain at (places at bs) (at + length (blocks bs))
chain_places at [] = omega arith
chain_places at (b ∷ bs) =
    let wide : at + length (open_gate ∷ body b) ≡ at + (23 + length b.payload) = omega (arith, length-block b) in
    let step : at + length (open_gate ∷ body b) + length (blocks bs) ≡ at + length (blocks (b ∷ bs)) = omega (arith, length-append (open_gate ∷ body b) (blocks bs)) in (
      refl,
      subst (λ n. IsChain n (places (at + length (open_gate ∷ body b)) bs) (at + length (blocks (b ∷ bs)))) wide
          (subst (IsChain (at + length (open_gate ∷ body b)) (places (at + length (open_gate ∷ body b)) bs)) step (chain_places (at + length (open_gate ∷ body b)) bs)),
    )

pub chain_append : (at : ℕ) (ps qs : List Place) (mid gate : ℕ) → IsChain at ps mid → IsChain mid qs gate → IsChain at (ps ++ qs) gate
chain_append at [] qs mid gate a b = subst (λ n. IsChain n qs gate) a b
chain_append at (p ∷ ps) qs mid gate a b = (a.0, chain_append (at + (23 + p.length)) ps qs mid gate a.1 b)

-- a chain is as long as it says
pub chain_room : (at : ℕ) (ps : List Place) (gate : ℕ) → IsChain at ps gate → at + 23 * length ps ≤ gate
chain_room at [] gate chain = omega (arith, chain)
chain_room at (p ∷ ps) gate chain = let rest = chain_room (at + (23 + p.length)) ps gate chain.1 in omega (arith, rest)

pub blocks_room : (bs : List Block) → 23 * length bs ≤ length (blocks bs)
blocks_room [] = omega arith
blocks_room (b ∷ bs) = let rest = blocks_room bs in omega (arith, rest, length-block b, length-append (open_gate ∷ body b) (blocks bs))

pub next_lsn-append : (n : ℕ) (xs ys : List Block) → next_lsn n (xs ++ ys) ≡ next_lsn (next_lsn n xs) ys
next_lsn-append n [] ys = refl
next_lsn-append n (x ∷ xs) ys = next_lsn-append (n + x.count) xs ys

pub run_append : (n : ℕ) (xs ys : List Block) → IsRun n xs → IsRun (next_lsn n xs) ys → IsRun n (xs ++ ys)
run_append n [] ys a b = b
run_append n (x ∷ xs) ys a b = (a.0, a.1, run_append (n + x.count) xs ys a.2 b)

pub run_rest : (n : ℕ) (xs ys : List Block) → IsRun n (xs ++ ys) → IsRun (next_lsn n xs) ys
run_rest n [] ys run = run
run_rest n (x ∷ xs) ys run = run_rest (n + x.count) xs ys run.2

pub sized_run : (n : ℕ) (bs : List Block) → IsRun n bs → AreSized bs
sized_run n [] run = tt
sized_run n (b ∷ bs) run = (record { count = (run.1.count.0, omega (arith, run.1.count.1)); payload = run.1.payload }, sized_run (n + b.count) bs run.2)

-- the LSN behind a run of blocks that join those that are there
pub behind-places : (found : List Place) (at : ℕ) (bs : List Block) → IsRun (lsn_behind found) bs → lsn_behind (found ++ places at bs) ≡ next_lsn (lsn_behind found) bs
behind-places found at [] run = ap lsn_behind (append-nil found)
behind-places found at (b ∷ bs) run =
    let p = place_of at b in
    let rest = places (at + length (open_gate ∷ body b)) bs in
    let one : lsn_behind (found ++ p ∷ []) ≡ lsn_behind found + b.count =
    ap (λ n. max 1 n) (lsn_after-push found p) ∙ ap (λ n. max 1 (n + b.count)) run.0 ∙ most (lsn_behind found) b.count (omega arith) in
    ap lsn_behind (sym (append_assoc found (p ∷ []) rest))
    ∙ behind-places (found ++ p ∷ []) (at + length (open_gate ∷ body b)) bs (subst (λ n. IsRun n bs) (sym one) run.2)
    ∙ ap (λ n. next_lsn n bs) one
  where
    most : (n m : ℕ) → 1 ≤ n → max 1 (n + m) ≡ n + m
    most n m le = omega (arith, le)

-- the same log, once some blocks have been written
pub whole_progress : (found found2 : List Place) (pending pending2 : List Block) (gate gate2 next end : ℕ) → IsWhole found pending gate next end
    → Progress gate found pending gate2 found2 pending2 → IsWhole found2 pending2 gate2 next end
whole_progress found found2 pending pending2 gate gate2 next end w p =
    let done = take p.count pending in
    let left = drop p.count pending in
    let both : done ++ left ≡ pending = take-append-drop p.count pending in
    let run = subst (IsRun (lsn_behind found)) (sym both) w.run in
    let behind : lsn_behind found2 ≡ next_lsn (lsn_behind found) done = ap lsn_behind p.places_are ∙ behind-places found gate done (run_front (lsn_behind found) done left run) in
    let bytes = ap (λ (l : List Block). length (blocks l)) both in
    record {
      from = w.from;
      chain = subst (λ (l : List Place). IsChain w.from l gate2) (sym p.places_are)
          (subst (IsChain w.from (found ++ places gate done)) (sym p.gate_is) (chain_append w.from found (places gate done) gate (gate + length (blocks done)) w.chain (chain_places gate done)));
      run = subst (IsRun (lsn_behind found2)) (sym p.left) (subst (λ n. IsRun n left) (sym behind) (run_rest (lsn_behind found) done left run));
      next_is = w.next_is ∙ ap (next_lsn (lsn_behind found)) (sym both) ∙ next_lsn-append (lsn_behind found) done left
          ∙ ap (λ n. next_lsn n left) (sym behind) ∙ ap (next_lsn (lsn_behind found2)) (sym p.left);
      end_is = omega (arith, w.end_is, p.gate_is, bytes, ap length (blocks-append done left), length-append (blocks done) (blocks left), ap (λ (l : List Block). length (blocks l)) p.left);
      fits = w.fits;
      room = λ some. w.room (omega (arith, some, ap length p.left, length-drop p.count pending));
      bound = w.bound;
    }

-- the LSN behind blocks of their own
pub behind_first : (at : ℕ) (b : Block) (bs : List Block) → IsRun b.first (b ∷ bs) → lsn_behind (places at (b ∷ bs)) ≡ next_lsn b.first (b ∷ bs)
behind_first at b bs run =
    let p = place_of at b in
    let next = at + length (open_gate ∷ body b) in
    let one : lsn_behind (p ∷ []) ≡ b.first + b.count = omega (arith, run.1.first) in
    behind-places (p ∷ []) next bs (subst (λ n. IsRun n bs) (sym one) run.2) ∙ ap (λ n. next_lsn n bs) one

-- the durable blocks and the pending ones are one sequence
pub sequence_whole : (start : ℕ) (bs pending : List Block) → IsSequence start bs → IsRun (lsn_behind (places start bs)) pending → IsSequence start (bs ++ pending)
sequence_whole start [] [] s run = record { from_one = λ _. refl; run = tt }
sequence_whole start [] (b ∷ pending) s run = record { from_one = λ _. run.0; run = subst (λ n. IsRun n (b ∷ pending)) (sym run.0) run }
sequence_whole start (b ∷ bs) pending s run =
    let behind : lsn_behind (places start (b ∷ bs)) ≡ next_lsn b.first (b ∷ bs) = behind_first start b bs s.run in
    record { from_one = s.from_one; run = run_append b.first (b ∷ bs) pending s.run (subst (λ n. IsRun n pending) behind run) }

pub numbered_run : (next : ℕ) (bs : List Block) → AreSized bs → IsChecked next bs → 1 ≤ next → next + records_in bs ≤ 9223372036854775808 → IsRun next (numbered next bs)
numbered_run next [] s c some le = tt
numbered_run next (b ∷ bs) s c some le = (
  refl,
  record { first = some; count = (s.0.count.0, omega (arith, s.0.count.1)); last = omega (arith, le); checkpoint = c.0; payload = s.0.payload },
  numbered_run (next + b.count) bs s.1 c.1 (omega (arith, some)) (omega (arith, le)),
)

pub numbered_next : (next : ℕ) (bs : List Block) → next_lsn next (numbered next bs) ≡ next + records_in bs
numbered_next next [] = omega arith
numbered_next next (b ∷ bs) =
    let same : next + b.count + records_in bs ≡ next + (b.count + records_in bs) = omega arith in
    numbered_next (next + b.count) bs ∙ same

pub length-numbered : (next : ℕ) (bs : List Block) → length (blocks (numbered next bs)) ≡ length (blocks bs)
length-numbered next [] = refl
length-numbered next (b ∷ bs) =
    let n : Block = record { first = next; checkpoint = b.checkpoint; count = b.count; payload = b.payload } in
    omega (arith, length-numbered (next + b.count) bs, length-block b, length-block n, length-append (open_gate ∷ body b) (blocks bs), length-append (open_gate ∷ body n) (blocks (numbered (next + b.count) bs)))

-- blocks join the pending ones
pub whole_more : (found : List Place) (pending more : List Block) (gate next end : ℕ) → IsWhole found pending gate next end → AreSized more → IsChecked next more
    → next + records_in more ≤ 4611686018427387904 → end + length (blocks more) < 4611686018427387904
    → IsWhole found (pending ++ numbered next more) gate (next + records_in more) (end + length (blocks more))
whole_more found pending more gate next end w s c records bytes =
    let some : 1 ≤ next = omega (arith, w.next_is, next_above (lsn_behind found) pending) in
    let run = numbered_run next more s c some (omega (arith, records)) in
    record {
      from = w.from;
      chain = w.chain;
      run = run_append (lsn_behind found) pending (numbered next more) w.run (subst (λ n. IsRun n (numbered next more)) w.next_is run);
      next_is = sym (next_lsn-append (lsn_behind found) pending (numbered next more) ∙ ap (λ n. next_lsn n (numbered next more)) (sym w.next_is) ∙ numbered_next next more);
      end_is = omega (arith, w.end_is, ap length (blocks-append pending (numbered next more)), length-append (blocks pending) (blocks (numbered next more)), length-numbered next more);
      fits = omega (arith, bytes);
      room = λ some. bytes;
      bound = omega (arith, records);
    }

-- what was written joins the places before
pub progress_behind : (before done done2 : List Place) (pending pending2 : List Block) (gate gate2 : ℕ) → Progress gate done pending gate2 done2 pending2
    → Progress gate (before ++ done) pending gate2 (before ++ done2) pending2
progress_behind before done done2 pending pending2 gate gate2 p = record {
  count = p.count;
  within = p.within;
  left = p.left;
  places_are = ap (λ (l : List Place). before ++ l) p.places_are ∙ sym (append_assoc before done (places gate (take p.count pending)));
  gate_is = p.gate_is;
}

-- the first n places go
pub chain_drop : (at : ℕ) (ps : List Place) (gate n : ℕ) (p : Place) → IsChain at ps gate → n < length ps → p ≡ get_or ps n p → IsChain p.at (drop n ps) gate
chain_drop at [] gate n p chain lt is = absurd (omega (arith, lt))
chain_drop at (q ∷ ps) gate zero p chain lt is = subst (λ (x : Place). IsChain x.at (q ∷ ps) gate) (sym is) (refl, subst (λ n. IsChain (n + (23 + q.length)) ps gate) (sym chain.0) chain.1)
chain_drop at (q ∷ ps) gate (suc n) p chain lt is = chain_drop (at + (23 + q.length)) ps gate n p chain.1 (omega (arith, lt)) is

pub lsn_after-drop : (ps : List Place) (n : ℕ) → n < length ps → lsn_after (drop n ps) ≡ lsn_after ps
lsn_after-drop [] n lt = absurd (omega (arith, lt))
lsn_after-drop (p ∷ ps) zero lt = refl
lsn_after-drop (p ∷ []) (suc n) lt = absurd (omega (arith, lt))
lsn_after-drop (p ∷ q ∷ ps) (suc n) lt = lsn_after-drop (q ∷ ps) n (omega (arith, lt))

-- the same log without its first n blocks
pub whole_drop : (found : List Place) (pending : List Block) (gate next end n : ℕ) (p : Place) → IsWhole found pending gate next end → n < length found → p ≡ get_or found n p
    → IsWhole (drop n found) pending gate next end
whole_drop found pending gate next end n p w lt is =
    let same = ap (λ m. max 1 m) (sym (lsn_after-drop found n lt)) in
    record {
      from = p.at;
      chain = chain_drop w.from found gate n p w.chain lt is;
      run = subst (λ m. IsRun m pending) same w.run;
      next_is = w.next_is ∙ ap (λ m. next_lsn m pending) same;
      end_is = w.end_is;
      fits = w.fits;
      room = w.room;
      bound = w.bound;
    }

-- a block stands where its place says
pub chain_at : (at : ℕ) (ps : List Place) (gate n : ℕ) (p : Place) → IsChain at ps gate → n < length ps → p ≡ get_or ps n p → (at + 23 * n ≤ p.at) × (p.at + (23 + p.length) ≤ gate)
chain_at at ps gate n p chain lt is =
    let rest = chain_drop at ps gate n p chain lt is in
    (before at ps gate n p chain lt is, behind_it p (drop n ps) gate rest (omega (arith, length-drop n ps, lt)) (head n ps p lt is))
  where
    head : (n : ℕ) (ps : List Place) (p : Place) → n < length ps → p ≡ get_or ps n p → p ≡ get_or (drop n ps) 0 p
    head zero ps p lt is = is
    head (suc n) [] p lt is = absurd (omega (arith, lt))
    head (suc n) (q ∷ ps) p lt is = head n ps p (omega (arith, lt)) is

    behind_it : (p : Place) (qs : List Place) (gate : ℕ) → IsChain p.at qs gate → 0 < length qs → p ≡ get_or qs 0 p → p.at + (23 + p.length) ≤ gate
    behind_it p [] gate chain some is = absurd (omega (arith, some))
    behind_it p (q ∷ qs) gate chain some is =
        let rest = chain_room (p.at + (23 + q.length)) qs gate chain.1 in
        let same = ap (λ (x : Place). x.length) is in
        omega (arith, rest, same)

    before : (at : ℕ) (ps : List Place) (gate n : ℕ) (p : Place) → IsChain at ps gate → n < length ps → p ≡ get_or ps n p → at + 23 * n ≤ p.at
    before at [] gate n p chain lt is = absurd (omega (arith, lt))
    before at (q ∷ ps) gate zero p chain lt is = omega (arith, chain.0, ap (λ (x : Place). x.at) is)
    before at (q ∷ ps) gate (suc n) p chain lt is = let rest = before (at + (23 + q.length)) ps gate n p chain.1 (omega (arith, lt)) is in omega (arith, rest)
