-- The records of one payload, one by one.
use Rattle.std.proofs.Common.{◌≡◌, inl, inr, ℕ, ◌+◌, ◌<◌, ◌≤◌, ◌^◌, List, [], ◌∷◌, ◌++◌, length, ◌∙◌, ap, subst, arith, append-nil, length-append}
use Rattle.std.specs.List.{All}
use Rattle.std.proofs.lemmas.List.Elements.{All-append, All-cons, All-nil}
use Rattle.std.proofs.lemmas.List.{drop_all}
use Rattle.store_model.specs.declared.fault.Fault.{Fault}
use Rattle.store_model.specs.declared.fault.Fault.TheVariants as faults
use Rattle.wal_record.specs.Rules.{HasSpelling}
use Rattle.wal_record.specs.Spelling.{spelling}
use Rattle.wal_record.specs.declared.record.Record.{Record}
use Rattle.log_index.specs.declared.listing.Listing.{Listing}
use Rattle.log_manager.specs.Payload.{IsFirstFault, IsSurplus, NotRead, bytes_of}
use Rattle.log_manager.proofs.Taking.{Reads, reads_more, reads_none}
use Rattle.log_analysis.specs.Taken.{AreTaken, IsNotTaken, IsNotTakenBehind, IsNotTakenIn, IsOfBlock, IsTaken, ListsMore}
use Rattle.log_analysis.specs.declared.taking.Named.{Named}
use Rattle.log_analysis.proofs.Listed.{lists_more, lists_none}

-- ---- one record

-- what isn't read isn't taken
pub unread : (named : Named) (number lsn : ℕ) (front : List Record) (payload : List ℕ) (fault : Fault) → NotRead number front payload fault → IsNotTakenBehind named number lsn front payload fault
unread named number lsn front payload faults.Memory bad = tt
unread named number lsn front payload (faults.LogBad block byte) bad = inl bad
unread named number lsn front payload fault bad = absurd bad

-- what is read and isn't taken
pub untaken : (named : Named) (number lsn : ℕ) (front : List Record) (payload rest : List ℕ) (r : Record) (fault : Fault) → All HasSpelling front → HasSpelling r → payload ≡ bytes_of front ++ (spelling r ++ rest)
    → IsNotTaken named lsn r fault → IsNotTakenBehind named number lsn front payload fault
untaken named number lsn front payload rest r faults.Memory all spelled is bad = tt
untaken named number lsn front payload rest r (faults.LogBad block byte) all spelled is bad = inr (bad.0, bad.1, r, record { spelled = (all, spelled); rest = rest; bytes = is }, bad.2)
untaken named number lsn front payload rest r fault all spelled is bad = absurd bad

-- ---- all records

-- the records of a payload up to a byte have been taken
pub record AreSoFar (payload : List ℕ) (at n checkpoint first : ℕ) (old new : Listing) : Type 0 where
  pub front : List Record
  pub spelled : All HasSpelling front
  pub count : length front ≡ n
  pub reads : Reads payload at front
  pub more : ListsMore checkpoint first front old new

pub none_so_far : (payload : List ℕ) (checkpoint first : ℕ) (s : Listing) → AreSoFar payload 0 0 checkpoint first s s
none_so_far payload checkpoint first s = record {
  front = [];
  spelled = All-nil HasSpelling;
  count = omega arith;
  reads = reads_none payload;
  more = lists_none checkpoint first s;
}

module _ (payload : List ℕ) (at n checkpoint first : ℕ) (old now : Listing) (s : AreSoFar payload at n checkpoint first old now) where
  -- one record more
  pub one_more : (next lsn : ℕ) (new : Listing) → (first + n < 2 ^ 63 → lsn ≡ first + n) → IsTaken payload at next checkpoint lsn now new → at ≤ length payload → next ≤ length payload
      → AreSoFar payload next (n + 1) checkpoint first old new
  one_more next lsn new numbered t le le2 = record {
    front = s.front ++ t.taken ∷ [];
    spelled = All-append HasSpelling s.front (t.taken ∷ []) s.spelled (All-cons HasSpelling t.taken [] t.spelled (All-nil HasSpelling));
    count = omega (arith, s.count, length-append s.front (t.taken ∷ []));
    reads = reads_more payload at next s.front t.taken s.reads t.bytes le le2;
    more = lists_more checkpoint first lsn s.front t.taken old now new (λ short. omega (arith, numbered (omega (arith, short, s.count)), s.count)) s.more t.more;
  }

  -- nothing stands behind the last one
  pub all_taken : (count : ℕ) → n ≡ count → at ≡ length payload → AreTaken checkpoint first count payload old now
  all_taken count same end = (
    s.front,
    record {
      spelled = s.spelled;
      count_is = omega (arith, s.count, same);
      payload_is = s.reads.bytes ∙ ap (λ (l : List ℕ). bytes_of s.front ++ l) (drop_all at payload (omega (arith, end))) ∙ append-nil (bytes_of s.front);
    },
    s.more,
  )

  -- one that isn't taken
  pub next_bad : (named : Named) (number count lsn : ℕ) (fault : Fault) → n < count → lsn ≡ first + n → IsNotTakenBehind named number lsn s.front payload fault → IsNotTakenIn named number first count payload fault
  next_bad named number count lsn faults.Memory lt is bad = tt
  next_bad named number count lsn (faults.LogBad block byte) lt is (inl f) =
      inl (f.0, record { front = s.front; rest = f.1.rest; left = f.1.left; goes_on = f.1.goes_on; breaks = inl (omega (arith, lt, s.count), f.1.fault) })
  next_bad named number count lsn (faults.LogBad block byte) lt is (inr (b, at9, r, next, none)) =
      inr (
        b,
        at9,
        record {
          front = s.front;
          within = omega (arith, lt, s.count);
          found = r;
          next = next;
          none = record { here = omega (arith, is, s.count, none.here); other = none.other };
        },
      )
  next_bad named number count lsn fault lt is bad = absurd bad

  -- a surplus behind the last one
  pub surplus_bad : (named : Named) (number count : ℕ) (fault : Fault) → n ≡ count → IsSurplus number s.front payload fault → IsNotTakenIn named number first count payload fault
  surplus_bad named number count (faults.LogBad block byte) same (is, bad) = inl (is, subst (λ (k : ℕ). IsFirstFault k payload byte) (s.count ∙ same) bad)
  surplus_bad named number count fault same bad = absurd bad

-- what isn't taken is so for want of memory, or because the block is bad
pub behind_of_block : (named : Named) (number lsn : ℕ) (front : List Record) (payload : List ℕ) (fault : Fault) → IsNotTakenBehind named number lsn front payload fault → IsOfBlock fault
behind_of_block named number lsn front payload faults.Memory bad = tt
behind_of_block named number lsn front payload (faults.LogBad block byte) bad = tt
behind_of_block named number lsn front payload fault bad = absurd bad

pub surplus_of_block : (number : ℕ) (rs : List Record) (payload : List ℕ) (fault : Fault) → IsSurplus number rs payload fault → IsOfBlock fault
surplus_of_block number rs payload (faults.LogBad block byte) bad = tt
surplus_of_block number rs payload fault bad = absurd bad
