-- The record of an LSN, in the block that has it.
use Rattle.std.proofs.Common.{◌≡◌, inl, ℕ, zero, suc, ◌+◌, ◌-◌, ◌<◌, ◌≤◌, Bool, true, false, List, [], ◌∷◌, ◌++◌, length, get_or, drop, take, refl, sym, ◌∙◌, ap, subst, arith, append_assoc, length-append, take-append-drop}
use Rattle.std.specs.Prelude.{map, nat_le, if◌then◌else◌}
use Rattle.std.proofs.lemmas.Bool.{le-leb, leb-false, leb-true, lt-leb}
use Rattle.log_blocks.specs.Batch.{numbered, records_in}
use Rattle.std.specs.List.{All}
use Rattle.log_blocks.specs.Log.{Block, body, open_gate, IsRun, IsSequence, first_lsn, next_lsn}
use Rattle.log_blocks.specs.LogState.{LogState, firsts, lsn_behind, payload_at}
use Rattle.log_blocks.specs.Opening.{Progress, places}
use Rattle.log_blocks.specs.declared.header.Place.{Place}
use Rattle.log_blocks.proofs.Lasts.{map-append}
use Rattle.log_blocks.proofs.Whole.{behind_first, next_lsn-append}
use Rattle.store_model.specs.declared.fault.Fault.{Fault}
use Rattle.store_model.specs.declared.fault.Fault.TheVariants as faults
use Rattle.wal_record.specs.Rules.{HasSpelling}
use Rattle.wal_record.specs.declared.record.Record.{Record}
use Rattle.log_manager.specs.Payload.{GoesOn, bytes_of}
use Rattle.log_manager.specs.Records.{AreIn}
use Rattle.log_manager.specs.Managed.{EndBefore, HasLsn, HasRecord, IsAt, IsBadIn, IsReadAt, IsRecordOf, IsUnreadAt, before_lsn, first_kept, with_batch}

abbrev pub first_of : Block → ℕ
first_of b = b.first

-- the block at place i has the record of an LSN, and what stands before and behind its records
pub record Found (all : List Block) (rs : List Record) (n lsn i : ℕ) : Type 0 where
  pub own : List Record
  pub front : List Record
  pub back : List Record
  pub is : rs ≡ front ++ (own ++ back)
  pub spelled : All HasSpelling own
  pub payload : payload_at all i ≡ bytes_of own
  pub first : get_or (map first_of all) i 0 ≡ n + length front
  pub within : lsn < n + length front + length own

pub found_in : (n c lsn i : ℕ) (all : List Block) (rs : List Record) → IsRun n all → AreIn c all rs → HasLsn (map first_of all) lsn i → lsn < next_lsn n all → Found all rs n lsn i
found_in n c lsn i [] rs run a h lt = absurd (omega (arith, h.within))
found_in n c lsn zero (b ∷ bs) rs run a h lt = record {
  own = a.0;
  front = [];
  back = a.1;
  is = a.2;
  spelled = a.3.records.spelled;
  payload = a.3.records.payload_is;
  first = omega (arith, run.0);
  within = before bs run.2 lt (λ more. h.upto more);
}
  where
    before : (bs : List Block) → IsRun (n + b.count) bs → lsn < next_lsn (n + b.count) bs → (1 < length (b.first ∷ map first_of bs) → lsn < get_or (map first_of bs) 0 0) → lsn < n + 0 + length a.0
    before [] r last upto = omega (arith, last, a.3.records.count_is)
    before (d ∷ ds) r last upto = omega (arith, upto (omega arith), r.0, a.3.records.count_is)
found_in n c lsn (suc i) (b ∷ bs) rs run a h lt =
    let f = found_in (n + b.count) b.checkpoint lsn i bs a.1 run.2 a.4
    (record { within = omega (arith, h.within); from = h.from; upto = λ more. subst (λ m. lsn < get_or (b.first ∷ map first_of bs) m 0) (far i) (h.upto (omega (arith, more))) }) lt in
    record {
      own = f.own;
      front = a.0 ++ f.front;
      back = f.back;
      is = a.2 ∙ ap (λ (l : List Record). a.0 ++ l) f.is ∙ sym (append_assoc a.0 f.front (f.own ++ f.back));
      spelled = f.spelled;
      payload = f.payload;
      first = f.first ∙ both f.front;
      within = omega (arith, f.within, both f.front);
    }
  where
    far : (i : ℕ) → suc i + 1 ≡ suc (i + 1)
    far i = omega arith

    both : (l : List Record) → n + b.count + length l ≡ n + length (a.0 ++ l)
    both l = omega (arith, a.3.records.count_is, length-append a.0 l)

-- the record at its place in the block is the record at its place in the log
pub found_at : (all : List Block) (rs : List Record) (n lsn i : ℕ) (r : Record) (f : Found all rs n lsn i) → get_or (map first_of all) i 0 ≤ lsn
    → IsAt f.own (lsn - get_or (map first_of all) i 0) r → IsAt rs (lsn - n) r
found_at all rs n lsn i r f from at = record {
  front = f.front ++ at.front;
  back = at.back ++ f.back;
  is = f.is ∙ ap (λ (l : List Record). f.front ++ (l ++ f.back)) at.is ∙ ap (λ (l : List Record). f.front ++ l) (append_assoc at.front (r ∷ at.back) f.back)
      ∙ sym (append_assoc f.front at.front (r ∷ at.back ++ f.back));
  place = omega (arith, length-append f.front at.front, at.place, f.first, from);
}

-- a record before the end stays where it is
pub at_more : (rs ss : List Record) (i : ℕ) (r : Record) → IsAt rs i r → IsAt (rs ++ ss) i r
at_more rs ss i r at = record {
  front = at.front;
  back = at.back ++ ss;
  is = ap (λ (l : List Record). l ++ ss) at.is ∙ append_assoc at.front (r ∷ at.back) ss;
  place = at.place;
}

-- ---- the LSNs of a whole log

pub firsts-places : (at : ℕ) (bs : List Block) → map (λ (p : Place). p.first) (places at bs) ≡ map first_of bs
firsts-places at [] = refl
firsts-places at (b ∷ bs) = ap (λ (l : List ℕ). b.first ∷ l) (firsts-places (at + length (open_gate ∷ body b)) bs)

-- the LSN behind all blocks, where the pending ones go on with the LSNs of the durable ones
pub next_of_all : (start : ℕ) (bs pending : List Block) → IsSequence start bs → IsRun (lsn_behind (places start bs)) pending
    → next_lsn (lsn_behind (places start bs)) pending ≡ next_lsn (first_lsn (bs ++ pending)) (bs ++ pending)
next_of_all start [] [] s run = refl
next_of_all start [] (b ∷ pending) s run = ap (λ m. next_lsn m (b ∷ pending)) (sym run.0)
next_of_all start (b ∷ bs) pending s run =
    ap (λ m. next_lsn m pending) (behind_first start b bs s.run) ∙ sym (next_lsn-append b.first (b ∷ bs) pending)

-- the first LSNs are those of all blocks
pub firsts_all : {D : Type 0} (log : LogState D) (start : ℕ) (bs : List Block) → log.places ≡ places start bs → firsts log ≡ map first_of (bs ++ log.pending)
firsts_all log start bs is =
    ap (λ (l : List Place). map (λ (p : Place). p.first) l ++ map first_of log.pending) is
    ∙ ap (λ (l : List ℕ). l ++ map first_of log.pending) (firsts-places start bs) ∙ sym (map-append first_of bs log.pending)

-- where no block has joined the log, the first record is the next one
pub first_none : {D : Type 0} (log : LogState D) (bs : List Block) → length log.places + length log.pending ≡ 0 → log.next ≡ first_kept (with_batch log bs)
first_none log bs none = by log.places log.pending bs none
  where
    by : (ps : List Place) (qs bs : List Block) → length ps + length qs ≡ 0
        → log.next ≡ get_or (map (λ (p : Place). p.first) ps ++ map (λ (b : Block). b.first) (qs ++ numbered log.next bs)) 0 (log.next + records_in bs)
    by [] [] [] e = omega arith
    by [] [] (b ∷ bs) e = refl
    by [] (q ∷ qs) bs e = absurd (omega (arith, e))
    by (p ∷ ps) qs bs e = absurd (omega (arith, e))

-- ---- blocks that end before an LSN

-- the next one does, where the one behind it begins at or before the LSN
pub before_more : (upto n m : ℕ) (ps : List Place) (ys : List ℕ) → m ≡ suc n → m < length ps → get_or (map (λ (p : Place). p.first) ps ++ ys) m 0 ≤ upto
    → before_lsn upto (drop n ps) ≡ suc (before_lsn upto (drop m ps))
before_more upto n m [] ys is lt le = absurd (omega (arith, lt))
before_more upto zero m (p ∷ []) ys is lt le = absurd (omega (arith, lt, is))
before_more upto zero m (p ∷ q ∷ ps) ys is lt le =
    let first : q.first ≤ upto = subst (λ i. get_or (p.first ∷ q.first ∷ (map (λ (p : Place). p.first) ps ++ ys)) i 0 ≤ upto) is le in
    ap (λ b. if b then suc (before_lsn upto (q ∷ ps)) else 0) (le-leb q.first upto first) ∙ ap (λ i. suc (before_lsn upto (drop i (p ∷ q ∷ ps)))) (sym is)
before_more upto (suc n) m (p ∷ ps) ys is lt le =
    let one : get_or (map (λ (p : Place). p.first) ps ++ ys) (suc n) 0 ≤ upto = subst (λ i. get_or (p.first ∷ (map (λ (p : Place). p.first) ps ++ ys)) i 0 ≤ upto) is le in
    before_more upto n (suc n) ps ys refl (omega (arith, lt, is)) one ∙ ap (λ i. suc (before_lsn upto (drop i (p ∷ ps)))) (sym is)

-- none does, where the one behind the next begins above the LSN
pub before_none : (upto n m : ℕ) (ps : List Place) (ys : List ℕ) → m ≡ suc n → m < length ps → upto < get_or (map (λ (p : Place). p.first) ps ++ ys) m 0
    → before_lsn upto (drop n ps) ≡ 0
before_none upto n m [] ys is lt le = absurd (omega (arith, lt))
before_none upto zero m (p ∷ []) ys is lt le = absurd (omega (arith, lt, is))
before_none upto zero m (p ∷ q ∷ ps) ys is lt le =
    let first : upto < q.first = subst (λ i. upto < get_or (p.first ∷ q.first ∷ (map (λ (p : Place). p.first) ps ++ ys)) i 0) is le in
    ap (λ b. if b then suc (before_lsn upto (q ∷ ps)) else 0) (lt-leb q.first upto first)
before_none upto (suc n) m (p ∷ ps) ys is lt le =
    before_none upto n (suc n) ps ys refl (omega (arith, lt, is)) (subst (λ i. upto < get_or (p.first ∷ (map (λ (p : Place). p.first) ps ++ ys)) i 0) is le)

-- nor where it is the last
pub before_last : (upto n : ℕ) (ps : List Place) → length ps ≤ suc n → before_lsn upto (drop n ps) ≡ 0
before_last upto zero [] le = refl
before_last upto (suc n) [] le = refl
before_last upto zero (p ∷ []) le = refl
before_last upto zero (p ∷ q ∷ ps) le = absurd (omega (arith, le))
before_last upto (suc n) (p ∷ ps) le = before_last upto n ps (omega (arith, le))

-- at least one block stays
pub before_small : (upto : ℕ) (ps : List Place) → before_lsn upto ps ≤ length ps - 1
before_small upto [] = omega arith
before_small upto (p ∷ []) = omega arith
before_small upto (p ∷ q ∷ ps) = by (nat_le q.first upto) (before_small upto (q ∷ ps))
  where
    by : (b : Bool) → before_lsn upto (q ∷ ps) ≤ length (q ∷ ps) - 1 → (if b then suc (before_lsn upto (q ∷ ps)) else 0) ≤ length (p ∷ q ∷ ps) - 1
    by true le = omega (arith, le)
    by false le = omega arith

each_more : (upto f g n : ℕ) (fs : List ℕ) → g ≤ upto → ((i : ℕ) → i < n → get_or (g ∷ fs) (i + 1) 0 ≤ upto) → (i : ℕ) → i < suc n → get_or (f ∷ g ∷ fs) (i + 1) 0 ≤ upto
each_more upto f g n fs le rest zero lt = le
each_more upto f g n fs le rest (suc i) lt = let e : suc (i + 1) ≡ suc i + 1 = omega arith in subst (λ m. get_or (f ∷ g ∷ fs) m 0 ≤ upto) e (rest i (omega (arith, lt)))

pub end_before : (upto : ℕ) (ps : List Place) → EndBefore upto ps (before_lsn upto ps)
end_before upto [] = record { not_last = omega arith; each = λ i lt. absurd (omega (arith, lt)); no_more = λ lt. absurd (omega (arith, lt)) }
end_before upto (p ∷ []) = record { not_last = omega arith; each = λ i lt. absurd (omega (arith, lt)); no_more = λ lt. absurd (omega (arith, lt)) }
end_before upto (p ∷ q ∷ ps) = by (nat_le q.first upto) refl (end_before upto (q ∷ ps))
  where
    by : (b : Bool) → nat_le q.first upto ≡ b → EndBefore upto (q ∷ ps) (before_lsn upto (q ∷ ps)) → EndBefore upto (p ∷ q ∷ ps) (if b then suc (before_lsn upto (q ∷ ps)) else 0)
    by true is rest = let n = before_lsn upto (q ∷ ps) in record {
      not_last = omega (arith, rest.not_last);
      each = each_more upto p.first q.first n (map (λ (x : Place). x.first) ps) (leb-true q.first upto is) rest.each;
      no_more = λ lt. let e : suc (n + 1) ≡ suc n + 1 = omega arith in subst (λ m. upto < get_or (map (λ (x : Place). x.first) (p ∷ q ∷ ps)) m 0) e (rest.no_more (omega (arith, lt)));
    }
    by false is rest = record { not_last = omega arith; each = λ i lt. absurd (omega (arith, lt)); no_more = λ _. leb-false q.first upto is }

-- the first record doesn't depend on the blocks in memory
pub first_same : {D : Type 0} (log : LogState D) (bs : List Block) → first_kept (with_batch log bs) ≡ first_kept log
first_same log bs = by log.places log.pending bs
  where
    by : (ps : List Place) (qs bs : List Block)
        → get_or (map (λ (p : Place). p.first) ps ++ map (λ (b : Block). b.first) (qs ++ numbered log.next bs)) 0 (log.next + records_in bs)
        ≡ get_or (map (λ (p : Place). p.first) ps ++ map (λ (b : Block). b.first) qs) 0 log.next
    by [] [] [] = omega arith
    by [] [] (b ∷ bs) = refl
    by [] (q ∷ qs) bs = refl
    by (p ∷ ps) qs bs = refl

-- ---- a bad block

pub payload-before : (xs ys : List Block) (i : ℕ) → i < length xs → payload_at (xs ++ ys) i ≡ payload_at xs i
payload-before [] ys i lt = absurd (omega (arith, lt))
payload-before (x ∷ xs) ys zero lt = refl
payload-before (x ∷ xs) ys (suc i) lt = payload-before xs ys i (omega (arith, lt))

-- the block with a number has an LSN, and what is known of it
pub record HasBlock (all : List Block) (lsn i : ℕ) : Type 0 where
  pub block : Block
  pub before : List Block
  pub behind : List Block
  pub is : all ≡ before ++ block ∷ behind
  pub number : length before ≡ i
  pub first : get_or (map first_of all) i 0 ≡ block.first
  pub within : lsn < block.first + block.count
  pub payload : payload_at all i ≡ block.payload

pub block_with : (n lsn i : ℕ) (all : List Block) → IsRun n all → HasLsn (map first_of all) lsn i → lsn < next_lsn n all → HasBlock all lsn i
block_with n lsn i [] run h lt = absurd (omega (arith, h.within))
block_with n lsn zero (b ∷ bs) run h lt = record {
  block = b;
  before = [];
  behind = bs;
  is = refl;
  number = refl;
  first = refl;
  within = last bs run.2 lt (λ more. h.upto more);
  payload = refl;
}
  where
    last : (bs : List Block) → IsRun (n + b.count) bs → lsn < next_lsn (n + b.count) bs → (1 < length (b.first ∷ map first_of bs) → lsn < get_or (map first_of bs) 0 0) → lsn < b.first + b.count
    last [] r end upto = omega (arith, end, run.0)
    last (d ∷ ds) r end upto = omega (arith, upto (omega arith), r.0, run.0)
block_with n lsn (suc i) (b ∷ bs) run h lt =
    let f = block_with (n + b.count) lsn i bs run.2
    (record { within = omega (arith, h.within); from = h.from; upto = λ more. subst (λ m. lsn < get_or (b.first ∷ map first_of bs) m 0) (far i) (h.upto (omega (arith, more))) }) lt in
    record {
      block = f.block;
      before = b ∷ f.before;
      behind = f.behind;
      is = ap (λ (l : List Block). b ∷ l) f.is;
      number = ap (λ (n : ℕ). suc n) f.number;
      first = f.first;
      within = f.within;
      payload = f.payload;
    }
  where
    far : (i : ℕ) → suc i + 1 ≡ suc (i + 1)
    far i = omega arith

-- also where others stand behind all of them
module _ (bs all more : List Block) (lsn i : ℕ) (h : HasBlock all lsn i) (is : bs ≡ all ++ more) (from : h.block.first ≤ lsn) (payload : List ℕ) (read : payload ≡ payload_at all i) where
  has_record : HasRecord bs i lsn h.block
  has_record = record {
    before = h.before;
    behind = h.behind ++ more;
    is = is ∙ ap (λ (l : List Block). l ++ more) h.is ∙ append_assoc h.before (h.block ∷ h.behind) more;
    number_is = h.number;
    from = from;
    upto = h.within;
  }

  -- what is read from its payload is the record of the LSN
  pub record_of : (r : Record) → IsReadAt payload (lsn - h.block.first) r → IsRecordOf bs lsn r
  record_of r at = record { number = i; block = h.block; has = has_record; read = subst (λ p. IsReadAt p (lsn - h.block.first) r) (read ∙ h.payload) at }

  -- what isn't is bad there
  pub bad_in : (fault : Fault) → IsUnreadAt i payload (lsn - h.block.first) fault → IsBadIn bs lsn fault
  bad_in faults.Memory bad = tt
  bad_in (faults.LogBad number byte) bad = record {
    block = h.block;
    has = subst (λ n. HasRecord bs n lsn h.block) (sym bad.2) has_record;
    fault = record {
      front = bad.0;
      rest = bad.3.rest;
      left = bad.3.left;
      goes_on = subst (λ p. GoesOn bad.0 p bad.3.rest bad.3.left byte) (read ∙ h.payload) bad.3.goes_on;
      breaks = let most = bad.1 in let within = h.within in inl (omega (arith, most, within, from), bad.3.fault);
    };
    no_later = let most = bad.1 in omega (arith, most, from);
  }
  bad_in fault bad = absurd bad

pub length-firsts : {D : Type 0} (log : LogState D) → length (firsts log) ≡ length log.places + length log.pending
length-firsts log = omega (arith, length-append (map (λ (p : Place). p.first) log.places) (map first_of log.pending), of_places log.places, of_blocks log.pending)
  where
    of_places : (ps : List Place) → length (map (λ (p : Place). p.first) ps) ≡ length ps
    of_places [] = refl
    of_places (p ∷ ps) = omega (arith, of_places ps)

    of_blocks : (bs : List Block) → length (map first_of bs) ≡ length bs
    of_blocks [] = refl
    of_blocks (b ∷ bs) = omega (arith, of_blocks bs)

-- the blocks that stand, and some of the pending ones, begin with the first LSN that the log keeps
pub first_front : (start next n : ℕ) (bs pending : List Block) → IsRun (lsn_behind (places start bs)) pending → next ≡ next_lsn (lsn_behind (places start bs)) pending
    → first_lsn (bs ++ take n pending) ≡ get_or (map (λ (p : Place). p.first) (places start bs) ++ map (λ (b : Block). b.first) pending) 0 next
first_front start next zero [] [] run is = sym is
first_front start next (suc n) [] [] run is = sym is
first_front start next zero [] (b ∷ pending) run is = sym run.0
first_front start next (suc n) [] (b ∷ pending) run is = refl
first_front start next n (b ∷ bs) pending run is = refl

-- a flush moves blocks, and the first LSN stays
pub first_progress : {D : Type 0} (old new : LogState D) → Progress old.gate old.places old.pending new.gate new.places new.pending → new.next ≡ old.next → first_kept new ≡ first_kept old
first_progress old new p next =
    let done = take p.count old.pending in
    let rest = drop p.count old.pending in
    let of : Block → ℕ = λ b. b.first in
    let at : Place → ℕ = λ p. p.first in
    let is : firsts new ≡ firsts old =
    ap (λ (l : List Place). map at l ++ map of new.pending) p.places_are ∙ ap (λ (l : List Block). map at (old.places ++ places old.gate done) ++ map of l) p.left
    ∙ ap (λ (l : List ℕ). l ++ map of rest) (map-append at old.places (places old.gate done)) ∙ append_assoc (map at old.places) (map at (places old.gate done)) (map of rest)
    ∙ ap (λ (l : List ℕ). map at old.places ++ (l ++ map of rest)) (firsts-places old.gate done)
    ∙ ap (λ (l : List ℕ). map at old.places ++ l) (sym (map-append of done rest) ∙ ap (map of) (take-append-drop p.count old.pending)) in
    ap (λ (l : List ℕ). get_or l 0 new.next) is ∙ ap (λ n. get_or (firsts old) 0 n) next
