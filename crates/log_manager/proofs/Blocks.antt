-- The records of a log, block by block.
use Rattle.std.proofs.Common.{◌≡◌, ℕ, zero, suc, ◌+◌, ◌<◌, ◌≤◌, List, [], ◌∷◌, ◌++◌, length, get_or, take, refl, sym, ◌∙◌, ap, arith, append_assoc, append-nil, length-append}
use Rattle.std.specs.Prelude.{map}
use Rattle.log_blocks.specs.Log.{Block, IsRun, body, first_lsn, next_lsn, open_gate}
use Rattle.log_blocks.specs.LogState.{LogState, AreNumbered, counts, firsts, lsn_behind, payload_at}
use Rattle.log_blocks.specs.Opening.{places}
use Rattle.log_blocks.specs.declared.header.Place.{Place}
use Rattle.log_blocks.proofs.Progressing.{length-places}
use Rattle.log_blocks.proofs.Whole.{behind_first}
use Rattle.log_manager.specs.Payload.{IsPayloadOf}
use Rattle.log_manager.specs.Records.{AreIn, AreRecordsOf, AreSpelled}
use Rattle.log_manager.proofs.Finding.{first_of, firsts-places}
use Rattle.log_manager.proofs.Taking.{first_records}
use Rattle.wal_record.specs.declared.record.Record.{Record}

abbrev pub count_of : Block → ℕ
count_of b = b.count

counts-places : (at : ℕ) (bs : List Block) → map (λ (p : Place). p.count) (places at bs) ≡ map count_of bs
counts-places at [] = refl
counts-places at (b ∷ bs) = ap (λ (l : List ℕ). b.count ∷ l) (counts-places (at + length (open_gate ∷ body b)) bs)

-- ---- which records blocks have

-- a payload is the records of one list only
pub same_payload : (xs ys : List Record) (count : ℕ) (payload : List ℕ) → IsPayloadOf xs count payload → IsPayloadOf ys count payload → xs ≡ ys
same_payload xs ys count payload x y =
    let found = first_records xs ys [] x.spelled y.spelled (sym y.payload_is ∙ x.payload_is ∙ sym (append-nil _)) (omega (arith, x.count_is, y.count_is)) in
    by found.0 found.1 (omega (arith, ap length found.1, length-append xs found.0, x.count_is, y.count_is))
  where
    by : (back : List Record) → ys ≡ xs ++ back → length back ≡ 0 → xs ≡ ys
    by [] is none = sym (is ∙ append-nil xs)
    by (r ∷ rs) is none = absurd (omega (arith, none))

-- the records that the payloads of the first blocks are, are the first that the blocks hold
pub spelled_front : (before : ℕ) (xs ys : List Block) (log rs : List Record) → AreSpelled xs log → AreIn before (xs ++ ys) rs
    → (last : ℕ) × (back : List Record) × (rs ≡ log ++ back) × AreIn last ys back
spelled_front before [] ys log rs spelled a = (before, rs, ap (λ (l : List Record). l ++ rs) (sym spelled), a)
spelled_front before (x ∷ xs) ys log rs (own, more, is, payload, spelled) (own2, more2, is2, holds, a) =
    let rest = spelled_front x.checkpoint xs ys more more2 spelled a in
    let same = same_payload own own2 x.count x.payload payload holds.records in (
      rest.0,
      rest.1,
      is2 ∙ ap (λ (l : List Record). l ++ more2) (sym same) ∙ ap (λ (l : List Record). own ++ l) rest.2 ∙ sym (append_assoc own more rest.1) ∙ ap (λ (l : List Record). l ++ rest.1) (sym is),
      rest.3,
    )

-- one block more
pub spelled_more : (xs : List Block) (b : Block) (log own : List Record) → AreSpelled xs log → IsPayloadOf own b.count b.payload → AreSpelled (xs ++ b ∷ []) (log ++ own)
spelled_more [] b log own spelled payload =
    (own, [], ap (λ (l : List Record). l ++ own) spelled ∙ sym (append-nil own), payload, refl)
spelled_more (x ∷ xs) b log own (mine, more, is, theirs, spelled) payload =
    (mine, more ++ own, ap (λ (l : List Record). l ++ own) is ∙ append_assoc mine more own, theirs, spelled_more xs b more own spelled payload)

-- the block at a place, and those before it
pub record HasBlock (bs : List Block) (n : ℕ) : Type 0 where
  pub block : Block
  pub behind : List Block
  pub is : bs ≡ take n bs ++ block ∷ behind
  pub with_it : take (suc n) bs ≡ take n bs ++ block ∷ []
  pub number : length (take n bs) ≡ n
  pub payload : payload_at bs n ≡ block.payload
  pub count : get_or (map count_of bs) n 0 ≡ block.count
  pub first : get_or (map first_of bs) n 0 ≡ block.first

pub block_at : (bs : List Block) (n : ℕ) → n < length bs → HasBlock bs n
block_at [] n lt = absurd (omega (arith, lt))
block_at (b ∷ bs) zero lt = record { block = b; behind = bs; is = refl; with_it = refl; number = refl; payload = refl; count = refl; first = refl }
block_at (b ∷ bs) (suc n) lt =
    let h = block_at bs n (omega (arith, lt)) in
    record {
      block = h.block;
      behind = h.behind;
      is = ap (λ (l : List Block). b ∷ l) h.is;
      with_it = ap (λ (l : List Block). b ∷ l) h.with_it;
      number = ap (λ (m : ℕ). suc m) h.number;
      payload = h.payload;
      count = h.count;
      first = h.first;
    }

-- all blocks
pub all_blocks : (bs : List Block) (n : ℕ) → length bs ≤ n → take n bs ≡ bs
all_blocks [] zero le = refl
all_blocks [] (suc n) le = refl
all_blocks (b ∷ bs) zero le = absurd (omega (arith, le))
all_blocks (b ∷ bs) (suc n) le = ap (λ (l : List Block). b ∷ l) (all_blocks bs n (omega (arith, le)))

-- ---- the LSNs of all

count_all : (n before : ℕ) (bs : List Block) (rs : List Record) → AreIn before bs rs → next_lsn n bs ≡ n + length rs
count_all n before [] rs a = omega (arith, ap length a)
count_all n before (b ∷ bs) rs (own, more, is, holds, rest) =
    let e = count_all (n + b.count) b.checkpoint bs more rest in
    omega (arith, e, holds.records.count_is, ap length is, length-append own more)

-- the LSN behind the records of a log that keeps its first one
behind_all : (start : ℕ) (bs : List Block) (rs : List Record) → AreRecordsOf 0 bs rs → IsRun (first_lsn bs) bs → first_lsn bs ≡ 1 → lsn_behind (places start bs) ≡ suc (length rs)
behind_all start [] rs a run one = omega (arith, ap length a.records)
behind_all start (b ∷ bs) rs a run one =
    behind_first start b bs run ∙ count_all b.first 0 (b ∷ bs) rs a.records ∙ omega (arith, one)

module _ {D : Type 0} (log : LogState D) (start : ℕ) (bs : List Block) (are : log.places ≡ places start bs) (none : log.pending ≡ []) where
  pub blocks_are : length log.places + length log.pending ≡ length bs
  blocks_are = omega (arith, ap length are, length-places start bs, ap length none)

  -- its first LSNs
  pub firsts_are : firsts log ≡ map first_of bs
  firsts_are =
      ap (λ (ps : List Place). map (λ (p : Place). p.first) ps ++ map first_of log.pending) are
      ∙ ap (λ (qs : List Block). map (λ (p : Place). p.first) (places start bs) ++ map first_of qs) none
      ∙ append-nil (map (λ (p : Place). p.first) (places start bs))
      ∙ firsts-places start bs

  -- how many records its blocks count
  pub counts_are : counts log ≡ map count_of bs
  counts_are =
      ap (λ (ps : List Place). map (λ (p : Place). p.count) ps ++ map count_of log.pending) are
      ∙ ap (λ (qs : List Block). map (λ (p : Place). p.count) (places start bs) ++ map count_of qs) none
      ∙ append-nil (map (λ (p : Place). p.count) (places start bs))
      ∙ counts-places start bs

  pub payload_is : (n : ℕ) → payload_at (bs ++ log.pending) n ≡ payload_at bs n
  payload_is n = ap (λ (qs : List Block). payload_at (bs ++ qs) n) none ∙ ap (λ (l : List Block). payload_at l n) (append-nil bs)

  pub next_is : (rs : List Record) → AreRecordsOf 0 bs rs → IsRun (first_lsn bs) bs → first_lsn bs ≡ 1 → AreNumbered log → log.next ≡ length rs + 1
  next_is rs a run one numbered =
      numbered.next ∙ ap (λ (qs : List Block). next_lsn (lsn_behind log.places) qs) none ∙ ap lsn_behind are ∙ behind_all start bs rs a run one ∙ omega arith
