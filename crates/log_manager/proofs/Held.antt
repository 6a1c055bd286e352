-- The payload that was read last, as the log goes on.
use Rattle.std.proofs.Common.{◌≡◌, ℕ, zero, suc, ◌+◌, ◌<◌, ◌≤◌, List, [], ◌∷◌, ◌++◌, length, get_or, refl, sym, ◌∙◌, ap, subst, arith, append_assoc, length-append}
use Rattle.std.specs.Prelude.{Option, Some, None, IfSome, map}
use Rattle.std.proofs.Math.ListN.{get_or-append}
use Rattle.std.proofs.lemmas.List.{length-map}
use Rattle.media.specs.Kept.{Kept}
use Rattle.log_blocks.specs.Log.{Block, StandsFor}
use Rattle.log_blocks.specs.LogState.{IsDurable, LogState, firsts, payload_at}
use Rattle.log_blocks.specs.Opening.{places}
use Rattle.log_blocks.specs.Batch.{numbered, records_in}
use Rattle.log_blocks.specs.declared.header.Place.{Place}
use Rattle.log_blocks.proofs.Durable.{payload_left}
use Rattle.log_blocks.proofs.Lasts.{map-append}
use Rattle.log_blocks.proofs.Progressing.{length-places}
use Rattle.log_manager.specs.LastRead.{IsLastRead, IsWithin, ReadBlock}
use Rattle.log_manager.specs.Managed.{HasLsn, with_batch}
use Rattle.log_manager.proofs.Finding.{first_of}

pub if_some : {A : Type 0} (x : Option A) (P Q : A → Type 0) → ((a : A) → P a → Q a) → IfSome x P → IfSome x Q
if_some None P Q f h = tt
if_some (Some a) P Q f h = f a h

-- blocks that are numbered from the next LSN on begin there
seam : (xs : List ℕ) (next i : ℕ) (more : List Block) → i ≤ length xs → get_or (xs ++ map first_of (numbered next more)) i (next + records_in more) ≡ get_or xs i next
seam [] next zero [] le = omega arith
seam [] next zero (b ∷ bs) le = refl
seam [] next (suc i) more le = absurd (omega (arith, le))
seam (x ∷ xs) next zero more le = refl
seam (x ∷ xs) next (suc i) more le = seam xs next i more (omega (arith, le))

firsts_more : {D : Type 0} (log : LogState D) (more : List Block) → firsts (with_batch log more) ≡ firsts log ++ map first_of (numbered log.next more)
firsts_more log more =
    let here = map (λ (p : Place). p.first) log.places in
    ap (λ (l : List ℕ). here ++ l) (map-append first_of log.pending (numbered log.next more))
    ∙ sym (append_assoc here (map first_of log.pending) (map first_of (numbered log.next more)))

pub length-firsts : {D : Type 0} (log : LogState D) → length (firsts log) ≡ length log.places + length log.pending
length-firsts log = omega (
  arith,
  length-append (map (λ (p : Place). p.first) log.places) (map first_of log.pending),
  length-map log.places (λ (p : Place). p.first),
  length-map log.pending first_of,
)

-- the block at a place has an LSN that its span has
pub span_has : (firsts : List ℕ) (next lsn block first behind : ℕ) → block < length firsts → first ≡ get_or firsts block 0 → behind ≡ get_or firsts (block + 1) next → first ≤ lsn → lsn < behind → HasLsn firsts lsn block
span_has firsts next lsn block first behind within is end from lt = record {
  within = within;
  from = omega (arith, is, from);
  upto = λ more. omega (arith, end, lt, other firsts (block + 1) more);
}
  where
    other : (xs : List ℕ) (i : ℕ) → i < length xs → get_or xs i next ≡ get_or xs i 0
    other [] i lt = absurd (omega (arith, lt))
    other (x ∷ xs) zero lt = refl
    other (x ∷ xs) (suc i) lt = other xs i (omega (arith, lt))

module _ {D : Type 0} (tells : Type 0) (told : D → Kept) where
  -- the disk gives the same at the same places
  pub last_elsewhere : (old new : LogState D) (r : ReadBlock) → new ≡ record old { device = new.device; ended = new.ended } → (tells → told new.device ≡ told old.device)
      → IsLastRead tells told old r → IsLastRead tells told new r
  last_elsewhere old new r same kept h =
      let found = ap (λ (l : LogState D). l.places) same in
      let pending = ap (λ (l : LogState D). l.pending) same in
      record {
        within = subst (λ (l : List ℕ). r.block < length l) (sym (ap firsts same)) h.within;
        first = h.first ∙ ap (λ (l : LogState D). get_or (firsts l) r.block 0) (sym same);
        behind = h.behind ∙ ap (λ (l : LogState D). get_or (firsts l) (r.block + 1) l.next) (sym same);
        payload = λ t bs stands are.
            h.payload t bs (subst (StandsFor bs) (kept t) stands) (sym found ∙ are ∙ ap (λ (k : Kept). places k.start bs) (kept t))
            ∙ ap (λ (l : List Block). payload_at (bs ++ l) r.block) (sym pending);
      }

  -- blocks join behind it
  pub last_more : (log : LogState D) (more : List Block) (r : ReadBlock) → IsLastRead tells told log r → IsLastRead tells told (with_batch log more) r
  last_more log more r h =
      let is = firsts_more log more in
      record {
        within = omega (arith, h.within, ap length is, length-append (firsts log) (map first_of (numbered log.next more)));
        first = h.first ∙ sym (get_or-append (firsts log) (map first_of (numbered log.next more)) 0 r.block h.within) ∙ ap (λ (l : List ℕ). get_or l r.block 0) (sym is);
        behind =
            h.behind ∙ sym (seam (firsts log) log.next (r.block + 1) more (omega (arith, h.within)))
            ∙ ap (λ (l : List ℕ). get_or l (r.block + 1) (log.next + records_in more)) (sym is);
        payload = λ t bs stands are.
            let lt : r.block < length (bs ++ log.pending) = omega (arith, h.within, length-firsts log, length-append bs log.pending, ap length are, length-places (told log.device).start bs) in
            h.payload t bs stands are ∙ sym (payload_left (bs ++ log.pending) (numbered log.next more) r.block lt)
            ∙ ap (λ (l : List Block). payload_at l r.block) (append_assoc bs log.pending (numbered log.next more));
      }

  -- a payload that has just been read
  pub held : (old new : LogState D) (r : ReadBlock) → r.block < length (firsts old) → r.first ≡ get_or (firsts old) r.block 0 → r.behind ≡ get_or (firsts old) (r.block + 1) old.next
      → new ≡ record old { device = new.device; ended = new.ended } → (tells → told new.device ≡ told old.device)
      → (tells → (bs : List Block) → StandsFor bs (told old.device) → old.places ≡ places (told old.device).start bs → r.payload ≡ payload_at (bs ++ old.pending) r.block)
      → IsLastRead tells told new r
  held old new r within first behind same kept payload = last_elsewhere old new r same kept (record { within = within; first = first; behind = behind; payload = payload })

  -- it is what a read of an LSN goes by, of whatever blocks the disk keeps
  pub record IsHeld (may_leave : D → Kept → Type 0) (log : LogState D) (lsn : ℕ) (r : ReadBlock) : Type 0 where
    pub has : HasLsn (firsts log) lsn r.block
    pub begins : r.first ≡ get_or (firsts log) r.block 0
    pub payload : tells → (bs : List Block) → IsDurable told may_leave log bs → r.payload ≡ payload_at (bs ++ log.pending) r.block

  pub is_held : (may_leave : D → Kept → Type 0) (log new : LogState D) (lsn : ℕ) (r : ReadBlock) → new ≡ record log { device = new.device; ended = new.ended }
      → (tells → (bs : List Block) → IsDurable told may_leave log bs → IsDurable told may_leave new bs) → IsLastRead tells told new r → IsWithin r lsn → IsHeld may_leave log lsn r
  is_held may_leave log new lsn r same durable h within = record {
    has = subst (λ (l : List ℕ). HasLsn l lsn r.block) (ap firsts same) (span_has (firsts new) new.next lsn r.block r.first r.behind h.within h.first h.behind within.0 within.1);
    begins = h.first ∙ ap (λ (l : LogState D). get_or (firsts l) r.block 0) same;
    payload = λ t bs d. let e = durable t bs d in h.payload t bs e.stands e.places_are ∙ ap (λ (l : LogState D). payload_at (bs ++ l.pending) r.block) same;
  }
