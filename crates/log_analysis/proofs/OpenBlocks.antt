-- What is read of an open log is what its blocks have.
use Rattle.std.proofs.Common.{◌≡◌, inl, inr, None, ℕ, ◌+◌, ◌-◌, ◌<◌, ◌≤◌, List, [], ◌∷◌, ◌++◌, length, get_or, take, refl, sym, ◌∙◌, ap, subst, arith}
use Rattle.std.specs.Prelude.{map, ⊤}
use Rattle.media.specs.Kept.{Kept}
use Rattle.log_blocks.specs.Log.{Block, IsRun, body, first_lsn, next_lsn, open_gate}
use Rattle.log_blocks.specs.LogState.{LogState, IsDurable, Refused, checkpoint_of, counts, firsts, last_or, payload_at}
use Rattle.log_blocks.specs.Opening.{places}
use Rattle.log_blocks.specs.declared.header.Place.{Place}
use Rattle.log_manager.specs.Managed.{HasLsn, IsNoBadLog, ReadRefused}
use Rattle.log_manager.specs.Records.{checkpoint_in}
use Rattle.log_manager.proofs.Finding.{length-firsts}
use Rattle.store_model.specs.declared.fault.Fault.{Fault}
use Rattle.store_model.specs.declared.fault.Fault.TheVariants as faults
use Rattle.log_analysis.specs.Analysed.{ComesTo, IsNotAnalysed, LacksNamed, begins_at, named_by}
use Rattle.log_analysis.specs.Taken.{IsNotTakenIn, IsOfBlock}
use Rattle.log_analysis.specs.declared.taking.Named.{Named}
use Rattle.log_manager.proofs.Blocks.{HasBlock, block_at, blocks_are, counts_are, firsts_are, payload_is}
use Rattle.log_analysis.proofs.Reading.{ends_behind, run_at}

checkpoints-places : (at : ℕ) (bs : List Block) → map (λ (p : Place). p.checkpoint) (places at bs) ≡ map (λ (b : Block). b.checkpoint) bs
checkpoints-places at [] = refl
checkpoints-places at (b ∷ bs) = ap (λ (l : List ℕ). b.checkpoint ∷ l) (checkpoints-places (at + length (open_gate ∷ body b)) bs)

module _ {D : Type 0} (told : D → Kept) (may_leave : D → Kept → Type 0) (log now : LogState D) (bs : List Block) (d : IsDurable told may_leave log bs)
    (fresh : log.pending ≡ []) (same : now ≡ record log { device = now.device; ended = now.ended }) where
  start : ℕ
  start = (told log.device).start

  places_now : now.places ≡ places start bs
  unfolding start
  places_now = ap (λ (l : LogState D). l.places) same ∙ d.places_are

  pending_now : now.pending ≡ []
  pending_now = ap (λ (l : LogState D). l.pending) same ∙ fresh

  pub count_now : length now.places + length now.pending ≡ length bs
  count_now = blocks_are now start bs places_now pending_now

  pub run_now : IsRun (first_lsn bs) bs
  run_now = d.stands.sequence.run

  pub block_now : (n : ℕ) → n < length now.places + length now.pending → HasBlock bs n
  block_now n lt = block_at bs n (omega (arith, lt, count_now))

  pub payload_now : (n : ℕ) (payload items old : List ℕ) (h : HasBlock bs n) → payload ≡ items → old ≡ [] → items ≡ old ++ payload_at (bs ++ now.pending) n → payload ≡ h.block.payload
  payload_now n payload items old h is empty read =
      is ∙ read ∙ ap (λ (l : List ℕ). l ++ payload_at (bs ++ now.pending) n) empty ∙ payload_is now start bs places_now pending_now n ∙ h.payload

  pub counted_now : (n count : ℕ) (h : HasBlock bs n) → count ≡ get_or (counts now) n 0 → count ≡ h.block.count
  counted_now n count h is = is ∙ ap (λ (l : List ℕ). get_or l n 0) (counts_are now start bs places_now pending_now) ∙ h.count

  pub first_now : (n first : ℕ) (h : HasBlock bs n) → first ≡ get_or (firsts now) n 0 → first ≡ h.block.first
  first_now n first h is = is ∙ ap (λ (l : List ℕ). get_or l n 0) (firsts_are now start bs places_now pending_now) ∙ h.first

  pub checkpoint_now : (c : ℕ) → c ≡ checkpoint_of now → c ≡ checkpoint_in 0 bs
  checkpoint_now c is =
      is ∙ ap (λ (qs : List Block). last_or (last_or 0 (map (λ p. p.checkpoint) now.places)) (map (λ b. b.checkpoint) qs)) pending_now
      ∙ ap (λ (ps : List Place). last_or 0 (map (λ p. p.checkpoint) ps)) places_now ∙ ap (last_or 0) (checkpoints-places start bs)

  -- the first block that is read has the LSN at which an analysis begins, or ends before it
  pub begins_now : (from lsn : ℕ) → HasLsn (firsts now) lsn from → from < length now.places + length now.pending → lsn ≡ begins_at bs → next_lsn (first_lsn bs) (take from bs) ≤ begins_at bs
  begins_now from lsn h lt is =
      let b = block_now from lt in
      let first = first_now from (get_or (firsts now) from 0) b refl in
      let at = run_at (first_lsn bs) (take from bs) b.behind b.block (subst (IsRun (first_lsn bs)) b.is run_now) in
      omega (arith, at.0, first, h.from, is)

  -- and so each block that is read ends behind that LSN
  pub needed_now : (from n lsn : ℕ) (h : HasBlock bs n) → HasLsn (firsts now) lsn from → from ≤ n → lsn ≡ begins_at bs → begins_at bs < h.block.first + h.block.count
  needed_now from n lsn h found le is =
      let are = firsts_are now start bs places_now pending_now in
      ends_behind bs from n lsn h run_now le (subst (λ (l : List ℕ). HasLsn l lsn from) are found) is (ap length (sym are) ∙ length-firsts now ∙ count_now)

  -- none has it
  pub lacks_now : (lsn : ℕ) → 0 < length now.places + length now.pending → lsn < get_or (firsts now) 0 0 → lsn ≡ begins_at bs → LacksNamed bs
  lacks_now lsn some lt is =
      let b = block_now 0 some in
      let first = first_now 0 (get_or (firsts now) 0 0) b refl in
      let at = run_at (first_lsn bs) (take 0 bs) b.behind b.block (subst (IsRun (first_lsn bs)) b.is run_now) in
      omega (arith, at.0, first, lt, is)

  -- what is named
  pub named_now : (named : Named) → named.checkpoint ≡ checkpoint_in 0 bs → named.block ≡ length bs - 1 → named ≡ named_by bs
  named_now named checkpoint block = ap (λ (c : ℕ). record { checkpoint = c; block = named.block }) checkpoint ∙ ap (λ (b : ℕ). record { checkpoint = checkpoint_in 0 bs; block = b }) block

-- ---- refusals

pub no_bad_log : {D : Type 0} (faults_of : D → ℕ) (old new : LogState D) (fault : Fault) → Refused ⊤ faults_of old new fault → IsNoBadLog fault
no_bad_log faults_of old new (faults.LogBad block byte) bad = absurd bad
no_bad_log faults_of old new fault bad = tt

pub not_named : {D : Type 0} (faults_of : D → ℕ) (old new : LogState D) (bs : List Block) (fault : Fault) → Refused ⊤ faults_of old new fault → IsNotAnalysed bs fault
not_named faults_of old new bs (faults.LogBad block byte) bad = absurd bad
not_named faults_of old new bs fault bad = tt

-- a block that isn't taken
pub of_block : {D : Type 0} (faults_of : D → ℕ) (old new : LogState D) (fault : Fault) → old.ended ≡ None → new.ended ≡ None → IsOfBlock fault → ReadRefused faults_of old new fault
of_block faults_of old new faults.Memory before after bad = (tt, before, after)
of_block faults_of old new (faults.LogBad block byte) before after bad = (before, after)
of_block faults_of old new fault before after bad = absurd bad

pub not_analysed : (bs : List Block) (n : ℕ) (h : HasBlock bs n) (fault : Fault) → ComesTo bs n h.block → 0 < length bs → IsNotTakenIn (named_by bs) n h.block.first h.block.count h.block.payload fault → IsNotAnalysed bs fault
not_analysed bs n h faults.Memory comes some bad = tt
not_analysed bs n h (faults.LogBad block byte) comes some (inl (same, f)) = inl (record { block = h.block; comes = subst (λ (m : ℕ). ComesTo bs m h.block) (sym same) comes; fault = f })
not_analysed bs n h (faults.LogBad block byte) comes some (inr (last, at, x)) = inr (omega (arith, last, some), at, inr (record { number = n; block = h.block; comes = comes; other = x }))
not_analysed bs n h fault comes some bad = absurd bad
