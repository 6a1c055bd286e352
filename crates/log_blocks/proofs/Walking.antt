-- What holds while headers are read one after the other.
use Rattle.std.proofs.Common.{◌≡◌, ◌≢◌, inl, inr, ℕ, ◌+◌, ◌-◌, ◌<◌, ◌≤◌, ◌^◌, List, [], ◌∷◌, ◌++◌, length, get_or, take, drop, refl, sym, ◌∙◌, ap, subst, arith, append_assoc, length-append, true}
use Rattle.std.proofs.lemmas.List.{drop_at}
use Rattle.std.proofs.lemmas.Bool.Decides.{nat_tests}
use Rattle.media.specs.Kept.{Kept, end_of}
use Rattle.log_blocks.specs.declared.header.Header.{Header}
use Rattle.log_blocks.specs.declared.header.Place.{Place}
use Rattle.log_blocks.specs.Log.{Block, IsLawfulBlock, IsRun, IsSequence, blocks, body, open_gate, next_lsn}
use Rattle.log_blocks.specs.Opening.{fault_at, header_in, may_begin, places, follows, IsBadAt, IsOpened, IsChain, lsn_after}
use Rattle.log_blocks.proofs.BlockLists.{blocks-push}
use Rattle.log_blocks.proofs.Parsing.{Parsed, announced, parsed}
use Rattle.log_blocks.proofs.Progressing.{length-places, places-push}

run_push : (n : ℕ) (bs : List Block) (b : Block) → IsRun n bs → b.first ≡ next_lsn n bs → IsLawfulBlock b → IsRun n (bs ++ b ∷ [])
run_push n [] b run is lawful = (is, lawful, tt)
run_push n (x ∷ xs) b run is lawful = (run.0, run.1, run_push (n + x.count) xs b run.2 is lawful)

next_push : (n : ℕ) (bs : List Block) (b : Block) → next_lsn n (bs ++ b ∷ []) ≡ next_lsn n bs + b.count
next_push n [] b = refl
next_push n (x ∷ xs) b = next_push (n + x.count) xs b

pub next_above : (n : ℕ) (bs : List Block) → n ≤ next_lsn n bs
next_above n [] = omega arith
next_above n (x ∷ xs) = let m = next_above (n + x.count) xs in omega (arith, m)

at_first : (start first : ℕ) → may_begin start 0 first ≡ true → start ≡ 0 → first ≡ 1
at_first start first is zero_is = grind (arith, nat_tests)

after_some : (start next first : ℕ) → may_begin start next first ≡ true → 0 < next → first ≡ next
after_some start next first is some = grind (arith, nat_tests)

pub sequence_push : (start : ℕ) (bs : List Block) (b : Block) → IsSequence start bs → may_begin start (follows bs) b.first ≡ true → IsLawfulBlock b → IsSequence start (bs ++ b ∷ [])
sequence_push start [] b s begins lawful = record { from_one = at_first start b.first begins; run = (refl, lawful, tt) }
sequence_push start (x ∷ xs) b s begins lawful =
    let high = next_above x.first (x ∷ xs) in
    record {
      from_one = s.from_one;
      run = run_push x.first (x ∷ xs) b s.run (after_some start (next_lsn x.first (x ∷ xs)) b.first begins (omega (arith, high, s.run.1.first))) lawful;
    }

follows_push : (start : ℕ) (bs : List Block) (b : Block) → IsSequence start bs → may_begin start (follows bs) b.first ≡ true → follows (bs ++ b ∷ []) ≡ b.first + b.count
follows_push start [] b s begins = refl
follows_push start (x ∷ xs) b s begins =
    let high = next_above x.first (x ∷ xs) in
    let e = after_some start (next_lsn x.first (x ∷ xs)) b.first begins (omega (arith, high, s.run.1.first)) in
    next_push x.first (x ∷ xs) b ∙ ap (λ (n : ℕ). n + b.count) (sym e)

-- so far these blocks, whose places are found
pub record IsWalked (k : Kept) (at next : ℕ) (found : List Place) : Type 0 where
  pub bs : List Block
  pub rest : List ℕ
  pub bytes : k.bytes ≡ blocks bs ++ rest
  pub place : at ≡ k.start + length (blocks bs)
  pub sequence : IsSequence k.start bs
  pub next_is : next ≡ follows bs
  pub found_is : found ≡ places k.start bs
  pub more : 1 ≤ length rest
  pub long : 1 < length k.bytes

pub at_start : (k : Kept) (at next : ℕ) (found : List Place) → at ≡ k.start → next ≡ 0 → found ≡ [] → 1 < length k.bytes → IsWalked k at next found
at_start k at next found at_is next_is found_is long = record {
  bs = [];
  rest = k.bytes;
  bytes = refl;
  place = omega (arith, at_is);
  sequence = record { from_one = λ _. refl; run = tt };
  next_is = next_is;
  found_is = found_is;
  more = omega (arith, long);
  long = long;
}

pub one_more : (k : Kept) (at next : ℕ) (found : List Place) (w : IsWalked k at next found) (r : List ℕ) (h : Header) → w.rest ≡ open_gate ∷ r → Parsed k.start next h r
    → IsWalked k (at + (23 + h.length)) (h.first + h.count) (found ++ (record { at = at; first = h.first; checkpoint = h.checkpoint; count = h.count; length = h.length }) ∷ [])
one_more k at next found w r h is p =
    let b = announced h r in
    let tail = drop (22 + h.length) r in
    let begins : may_begin k.start (follows w.bs) b.first ≡ true = subst (λ n. may_begin k.start n b.first ≡ true) w.next_is p.begins in
    record {
      bs = w.bs ++ b ∷ [];
      rest = tail;
      bytes = w.bytes ∙ ap (λ (l : List ℕ). blocks w.bs ++ l) (is ∙ p.bytes) ∙ sym (append_assoc (blocks w.bs) (open_gate ∷ body b) tail) ∙ ap (λ (l : List ℕ). l ++ tail) (sym (blocks-push w.bs b));
      place = omega (arith, w.place, ap length (blocks-push w.bs b), length-append (blocks w.bs) (open_gate ∷ body b), p.wide);
      sequence = sequence_push k.start w.bs b w.sequence begins p.lawful;
      next_is = sym (follows_push k.start w.bs b w.sequence begins);
      found_is = (λ i. w.found_is i ++ (record { at = w.place i; first = h.first; checkpoint = h.checkpoint; count = h.count; length = sym p.size i }) ∷ []) ∙ sym (places-push k.start w.bs b);
      more = p.more;
      long = w.long;
    }

-- the walk ends at a closed gate
pub ended : (k : Kept) (at next : ℕ) (found : List Place) → IsWalked k at next found → (g : ℕ) (r : List ℕ) → (w : IsWalked k at next found) → w.rest ≡ g ∷ r → g ≢ open_gate → IsOpened k found at next
ended k at next found _ g r w is shut = record {
  bs = w.bs;
  stands = record { sequence = w.sequence; bytes = inr (record { from = refl; gate = g; rest = r; bytes = w.bytes ∙ ap (λ (l : List ℕ). blocks w.bs ++ l) is; closed = shut }) };
  found_is = w.found_is;
  gate_is = w.place;
  next_is = w.next_is;
}

pub nothing : (k : Kept) (at next : ℕ) (found : List Place) → at ≡ k.start → next ≡ 0 → found ≡ [] → length k.bytes ≤ 1 → IsOpened k found at next
nothing k at next found at_is next_is found_is short = record {
  bs = [];
  stands = record { sequence = record { from_one = λ _. refl; run = tt }; bytes = inl (short, refl) };
  found_is = found_is;
  gate_is = omega (arith, at_is);
  next_is = next_is;
}

first_of : (rest : List ℕ) → 1 ≤ length rest → rest ≡ get_or (take 23 rest) 0 0 ∷ drop 1 rest
first_of [] more = absurd (omega arith)
first_of (x ∷ xs) more = refl

-- what is read where the walk stands
pub record IsRead (k : Kept) (at next : ℕ) (found : List Place) (head : List ℕ) (start total : ℕ) : Type 0 where
  pub walked : IsWalked k at next found
  pub head_is : head ≡ take 23 walked.rest
  pub first : walked.rest ≡ get_or head 0 0 ∷ drop 1 walked.rest
  pub total_is : total ≡ length walked.rest
  pub start_is : start ≡ k.start

pub is_read : (k k2 : Kept) (at next : ℕ) (found : List Place) (head : List ℕ) (start len : ℕ) → IsWalked k at next found → k2 ≡ k
    → head ≡ take 23 (drop (at - k2.start) k2.bytes) → k.start ≡ start → end_of k ≡ len → IsRead k at next found head start (len - at)
is_read k k2 at next found head start len w same is from end =
    let off : at - k.start ≡ length (blocks w.bs) = omega (arith, w.place) in
    let rest_is : drop (at - k.start) k.bytes ≡ w.rest = ap (λ (l : List ℕ). drop (at - k.start) l) w.bytes ∙ drop_at (blocks w.bs) w.rest (at - k.start) (sym off) in
    let head_is : head ≡ take 23 w.rest = is ∙ ap (λ (q : Kept). take 23 (drop (at - q.start) q.bytes)) same ∙ ap (λ (l : List ℕ). take 23 l) rest_is in
    record {
      walked = w;
      head_is = head_is;
      first = first_of w.rest w.more ∙ ap (λ (l : List ℕ). get_or l 0 0 ∷ drop 1 w.rest) (sym head_is);
      total_is = omega (arith, w.place, ap length w.bytes, length-append (blocks w.bs) w.rest, end);
      start_is = sym from;
    }

pub closed_end : (k : Kept) (at next : ℕ) (found : List Place) (head : List ℕ) (start total : ℕ) → IsRead k at next found head start total → get_or head 0 0 ≢ open_gate → IsOpened k found at next
closed_end k at next found head start total r shut = ended k at next found r.walked (get_or head 0 0) (drop 1 r.walked.rest) r.walked r.first shut

gate_is : (k : Kept) (at next : ℕ) (found : List Place) (head : List ℕ) (start total : ℕ) (r : IsRead k at next found head start total) → get_or head 0 0 ≡ open_gate → r.walked.rest ≡ open_gate ∷ drop 1 r.walked.rest
gate_is k at next found head start total r is = r.first ∙ ap (λ (g : ℕ). g ∷ drop 1 r.walked.rest) is

pub bad_end : (k : Kept) (at next : ℕ) (found : List Place) (head : List ℕ) (start total : ℕ) → IsRead k at next found head start total → get_or head 0 0 ≡ open_gate
    → (block byte : ℕ) → block ≡ length found → fault_at start next total head ≡ byte → 0 < byte → IsBadAt block byte k
bad_end k at next found head start total r is block byte number fault pos =
    let w = r.walked in
    let open_is = gate_is k at next found head start total r is in
    record {
      before = w.bs;
      rest = drop 1 w.rest;
      bytes = w.bytes ∙ ap (λ (l : List ℕ). blocks w.bs ++ l) open_is;
      sequence = w.sequence;
      number = sym (number ∙ ap length w.found_is ∙ length-places k.start w.bs);
      fault = (λ i. fault_at k.start (sym w.next_is i) (length (sym open_is i)) (take 23 (sym open_is i))) ∙ (λ i. fault_at (sym r.start_is i) next (sym r.total_is i) (sym r.head_is i)) ∙ fault;
      is_one = pos;
      long = w.long;
    }

pub next_one : (k : Kept) (at next : ℕ) (found : List Place) (head : List ℕ) (start total : ℕ) → IsRead k at next found head start total → get_or head 0 0 ≡ open_gate
    → (h : Header) → h ≡ header_in head → h.count < 2 ^ 16 → ((i : ℕ) → get_or head i 0 < 256) → fault_at start next total head ≡ 0
    → (at2 next2 : ℕ) (found2 : List Place) → at2 ≡ at + (23 + h.length) → next2 ≡ h.first + h.count
    → found2 ≡ found ++ (record { at = at; first = h.first; checkpoint = h.checkpoint; count = h.count; length = h.length }) ∷ []
    → IsWalked k at2 next2 found2
next_one k at next found head start total r is h h_is fits small none at2 next2 found2 at_is next_is more =
    let w = r.walked in
    let open_is = gate_is k at next found head start total r is in
    let tail = drop 1 w.rest in
    let p = parsed k.start next tail head (r.head_is ∙ ap (λ (l : List ℕ). take 23 l) open_is) small (subst (λ (x : Header). x.count < 2 ^ 16) h_is fits)
    (ap (λ (n : ℕ). fault_at n next (length (open_gate ∷ tail)) head) (sym r.start_is) ∙ ap (λ (n : ℕ). fault_at start next n head) (sym (r.total_is ∙ ap length open_is)) ∙ none) in
    let walked = subst (λ (l : List Place). IsWalked k (at + (23 + h.length)) (h.first + h.count) l) (sym more) (one_more k at next found w tail h open_is (subst (λ (x : Header). Parsed k.start next x tail) (sym h_is) p)) in
    subst (λ (a : ℕ). IsWalked k a next2 found2) (sym at_is) (subst (λ (n : ℕ). IsWalked k (at + (23 + h.length)) n found2) (sym next_is) walked)

pub chain_push : (at : ℕ) (ps : List Place) (gate : ℕ) (p : Place) → IsChain at ps gate → p.at ≡ gate → IsChain at (ps ++ p ∷ []) (gate + (23 + p.length))
chain_push at [] gate p chain is = (is ∙ chain, ap (λ (n : ℕ). n + (23 + p.length)) chain)
chain_push at (x ∷ xs) gate p chain is = (chain.0, chain_push (at + (23 + x.length)) xs gate p chain.1 is)

pub lsn_after-push : (ps : List Place) (p : Place) → lsn_after (ps ++ p ∷ []) ≡ p.first + p.count
lsn_after-push [] p = refl
lsn_after-push (x ∷ []) p = refl
lsn_after-push (x ∷ y ∷ ys) p = lsn_after-push (y ∷ ys) p
