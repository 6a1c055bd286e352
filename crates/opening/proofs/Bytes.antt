-- What an opening sees in the bytes of its disk.
use Rattle.std.proofs.Common.{◌≡◌, ◌≤◌, ◌+◌, ℕ, List, [], ◌∷◌, inl, inr, refl, sym, ap, ◌∙◌, subst, arith}
use Rattle.log_analysis.specs.Analysed.{IsNotAnalysed}
use Rattle.log_blocks.specs.Log.{Block, IsSequence, StandsFor}
use Rattle.log_blocks.specs.LogState.{LogState, IsDurable, durable_lsn}
use Rattle.log_blocks.specs.Opening.{TellsFault, places}
use Rattle.log_blocks.proofs.Walking.{next_above}
use Rattle.log_blocks.proofs.Whole.{behind_first}
use Rattle.media.specs.Crash.{LeavesOnly}
use Rattle.media.specs.Kept.{Kept}
use Rattle.store_model.specs.declared.fault.Fault.{Fault}
use Rattle.store_model.specs.declared.fault.Fault.TheVariants as faults
use Rattle.opening.specs.Bytes.{IsRead, ShowsWhy, StaysSame}
use Rattle.opening.specs.declared.reading.WhyNot.TheVariants as causes

-- the headers can't be read
pub shows_headers : (k : Kept) (fault : Fault) → TellsFault k fault → ShowsWhy k (causes.Fault fault)
shows_headers k (faults.LogBad block byte) bad = inl bad
shows_headers k fault bad = tt

-- the blocks are those of no log
pub shows_analysed : (k : Kept) (bs : List Block) → StandsFor bs k → (fault : Fault) → IsNotAnalysed bs fault → ShowsWhy k (causes.Fault fault)
shows_analysed k bs stands (faults.LogBad block byte) bad = inr (bs, stands, bad)
shows_analysed k bs stands fault bad = tt

-- a disk that tells the same, and may leave no more
pub stays_by : {D : Type 0} (told : D → Kept) (may_leave : D → Kept → Type 0) (moment : D → ℕ) (left_since : D → ℕ → Kept → Type 0) (old new : D) → told new ≡ told old
    → LeavesOnly moment left_since old new (λ k. may_leave old k) → ((t : ℕ) (k : Kept) → t ≤ moment new → may_leave new k → left_since new t k) → StaysSame told may_leave old new
stays_by told may_leave moment left_since old new same crash counts = inl (same, λ k left. crash.each k (counts (moment old) k crash.later left))

-- blocks have records
no_blocks : (start : ℕ) (bs : List Block) → IsSequence start bs → durable_lsn (places start bs) ≡ 0 → bs ≡ []
no_blocks start [] s none = refl
no_blocks start (b ∷ bs) s none =
    let behind = behind_first start b bs s.run in
    let above = next_above (b.first + b.count) bs in
    absurd (omega (arith, none, behind, above, s.run.1.first, s.run.1.count.0))

-- behind the headers
module _ {D : Type 0} (told : D → Kept) (may_leave : D → Kept → Type 0) (disk : D) (log : LogState D) (same : told log.device ≡ told disk) (bs : List Block) (d : IsDurable told may_leave log bs) where
  stood : StandsFor bs (told disk)
  stood = subst (StandsFor bs) same d.stands

  pub is_read : (now : LogState D) → IsDurable told may_leave now bs → IsRead told may_leave disk now
  is_read now durable = (bs, stood, durable)

  pub stays_open : (now : LogState D) → IsDurable told may_leave now bs → StaysSame told may_leave disk now.device
  stays_open now durable = inr (bs, stood, durable.stands, durable.only)

  pub shows_none : (last : ℕ) → last ≡ durable_lsn log.places → last ≡ 0 → StandsFor [] (told log.device)
  shows_none last is none = subst (λ (l : List Block). StandsFor l (told log.device)) (no_blocks (told log.device).start bs d.stands.sequence (sym (ap durable_lsn d.places_are) ∙ sym is ∙ none)) d.stands
