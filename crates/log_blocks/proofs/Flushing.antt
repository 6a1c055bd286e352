-- What holds while blocks are written one after the other.
use Rattle.std.proofs.Common.{◌≡◌, ◌⊎◌, ⊎_elim, ℕ, ◌+◌, ◌<◌, ◌≤◌, List, [], ◌∷◌, ◌++◌, length, get_or, take, refl, sym, ap, subst, arith, length-append}
use Rattle.std.proofs.lemmas.List.{append-nil}
use Rattle.media.specs.Kept.{Kept}
use Rattle.media.specs.Crash.{Only, LeavesOnly}
use Rattle.log_blocks.specs.Log.{Block, body, blocks, laid, IsSequence, Behind, StandsForMore, StandsForSome, open_gate}
use Rattle.log_blocks.proofs.Moments.{joined, started}
use Rattle.log_blocks.proofs.BlockLists.{blocks-next, stands_for_more, stands_for_some}

-- the gate lies behind the blocks
pub record AtGate (gate start : ℕ) (bs : List Block) (k : Kept) : Type 0 where
  pub place : gate ≡ start + length (blocks bs)
  pub behind : Behind start (blocks bs) k

pub record IsSoFar {D : Type 0} (tells : Type 0) (start len faults moment : D → ℕ) (told : D → Kept) (may_leave : D → Kept → Type 0) (left_since : D → ℕ → Kept → Type 0)
    (old now : D) (gate0 gate : ℕ) (pending : List Block) (i : ℕ) : Type 0 where
  pub start_same : start now ≡ start old
  pub gate_is : gate ≡ gate0 + length (blocks (take i pending))
  pub not_past : gate < len now
  pub later : faults old ≤ faults now
  pub durable : tells → Only (told old) (may_leave old) → Only (told now) (may_leave now)
  pub stands : tells → (bs : List Block) → AtGate gate0 (start old) bs (told old) → AtGate gate (start old) (bs ++ take i pending) (told now)
  pub any_moment : tells → Only (told old) (may_leave old) → (bs : List Block) → AtGate gate0 (start old) bs (told old) → IsSequence (start old) (bs ++ pending)
      → LeavesOnly moment left_since old now (StandsForSome bs pending)

module _ {D : Type 0} (tells : Type 0) (start len faults moment : D → ℕ) (told : D → Kept) (may_leave : D → Kept → Type 0) (left_since : D → ℕ → Kept → Type 0)
    (old now new : D) (gate0 gate : ℕ) (pending : List Block) (i : ℕ) (lt : i < length pending) (b : Block) (is : b ≡ get_or pending i b)
    (so_far : IsSoFar tells start len faults moment told may_leave left_since old now gate0 gate pending i) where
  -- one block more, whether it ended well or not
  pub one_more_moment : (bytes : List ℕ) → bytes ≡ laid b
      → (tells → Only (told now) (may_leave now) → (front inner : List ℕ) → gate ≡ start now + length front → bytes ≡ inner ++ 0 ∷ [] → Behind (start now) front (told now)
      → LeavesOnly moment left_since now new (λ c. Behind (start now) front c ⊎ Behind (start now) (front ++ open_gate ∷ inner) c))
      → tells → Only (told old) (may_leave old) → (bs : List Block) → AtGate gate0 (start old) bs (told old) → IsSequence (start old) (bs ++ pending)
      → LeavesOnly moment left_since old new (StandsForSome bs pending)
  one_more_moment bytes same step t only bs at seq =
      let here = so_far.stands t bs at in
      let front = blocks (bs ++ take i pending) in
      let e = so_far.start_same in
      joined moment left_since old now new _ _ _
      (so_far.any_moment t only bs at seq)
      (step t (so_far.durable t only) front (body b) (subst (λ n. gate ≡ n + length front) (sym e) here.place) same (subst (λ n. Behind n front (told now)) (sym e) here.behind))
      (λ c some. some)
      (λ c left. ⊎_elim
      (λ shut. stands_for_some (start old) bs pending i c (subst (λ n. Behind n front c) e shut) seq (omega arith))
      (λ whole. stands_for_some (start old) bs pending (i + 1) c
      (subst (λ (l : List ℕ). Behind (start old) l c) (sym (blocks-next bs pending i b lt is)) (subst (λ n. Behind n (front ++ open_gate ∷ body b) c) e whole)) seq (omega arith))
      left)

  -- what a disk keeps on which the next gate is closed, or the block behind it stands
  pub one_more_left : (bytes : List ℕ) → bytes ≡ laid b → tells → (bs : List Block) → AtGate gate0 (start old) bs (told old) → IsSequence (start old) (bs ++ pending) → (k : Kept)
      → ((front inner : List ℕ) → gate ≡ start now + length front → bytes ≡ inner ++ 0 ∷ [] → Behind (start now) front (told now)
      → Behind (start now) front k ⊎ Behind (start now) (front ++ open_gate ∷ inner) k)
      → StandsForMore bs pending i k
  one_more_left bytes same t bs at seq k step =
      let here = so_far.stands t bs at in
      let front = blocks (bs ++ take i pending) in
      let e = so_far.start_same in
      ⊎_elim
      (λ shut. stands_for_more (start old) bs pending i i k (subst (λ n. Behind n front k) e shut) seq (omega arith) (omega (arith, lt)))
      (λ whole. stands_for_more (start old) bs pending i (i + 1) k
      (subst (λ (l : List ℕ). Behind (start old) l k) (sym (blocks-next bs pending i b lt is)) (subst (λ n. Behind n (front ++ open_gate ∷ body b) k) e whole)) seq (omega arith) (omega (arith, lt)))
      (step front (body b) (subst (λ n. gate ≡ n + length front) (sym e) here.place) same (subst (λ n. Behind n front (told now)) (sym e) here.behind))

  -- the block's place, once it stands
  pub one_more_stands : (bytes : List ℕ) → bytes ≡ laid b
      → (tells → (front inner : List ℕ) → gate ≡ start now + length front → bytes ≡ inner ++ 0 ∷ [] → Behind (start now) front (told now)
      → Behind (start now) (front ++ open_gate ∷ inner) (told new))
      → tells → (bs : List Block) → AtGate gate0 (start old) bs (told old) → AtGate (gate + length bytes) (start old) (bs ++ take (i + 1) pending) (told new)
  one_more_stands bytes same step t bs at =
      let here = so_far.stands t bs at in
      let front = blocks (bs ++ take i pending) in
      let e = so_far.start_same in
      let next = blocks-next bs pending i b lt is in
      record {
        place = omega (arith, here.place, ap length next, length-append front (open_gate ∷ body b), ap length same, length-append (body b) (0 ∷ []));
        behind = subst (λ (l : List ℕ). Behind (start old) l (told new)) (sym next)
            (subst (λ n. Behind n (front ++ open_gate ∷ body b) (told new)) e
            (step t front (body b) (subst (λ n. gate ≡ n + length front) (sym e) here.place) same (subst (λ n. Behind n front (told now)) (sym e) here.behind)));
      }

module _ {D : Type 0} (tells : Type 0) (start len faults moment : D → ℕ) (told : D → Kept) (may_leave : D → Kept → Type 0) (left_since : D → ℕ → Kept → Type 0)
    (old : D) (gate : ℕ) (pending : List Block) where
  pub none_yet : gate < len old → ((c : Kept) → left_since old (moment old) c → may_leave old c)
      → IsSoFar tells start len faults moment told may_leave left_since old old gate gate pending 0
  none_yet within only_now = record {
    start_same = refl;
    gate_is = omega arith;
    not_past = within;
    later = omega arith;
    durable = λ t only. only;
    stands = λ t bs at. subst (λ (l : List Block). AtGate gate (start old) l (told old)) (sym (append-nil bs)) at;
    any_moment = λ t only bs at seq. started moment left_since old (StandsForSome bs pending) (λ c left.
        subst (StandsForSome bs pending) (sym (only c (only_now c left)))
        (stands_for_some (start old) bs pending 0 (told old) (subst (λ (l : List Block). Behind (start old) (blocks l) (told old)) (sym (append-nil bs)) at.behind) seq (omega arith)));
  }

module _ {D : Type 0} (tells : Type 0) (start len faults moment : D → ℕ) (told : D → Kept) (may_leave : D → Kept → Type 0) (left_since : D → ℕ → Kept → Type 0)
    (old now : D) (gate0 gate : ℕ) (pending : List Block) (i : ℕ) (le : i ≤ length pending) (so_far : IsSoFar tells start len faults moment told may_leave left_since old now gate0 gate pending i) where
  -- what is kept between two blocks
  pub so_far_left : tells → (bs : List Block) → AtGate gate0 (start old) bs (told old) → IsSequence (start old) (bs ++ pending) → (k : Kept) → k ≡ told now → StandsForMore bs pending i k
  so_far_left t bs at seq k is = subst (StandsForMore bs pending i) (sym is) (stands_for_more (start old) bs pending i i (told now) (so_far.stands t bs at).behind seq (omega arith) le)
