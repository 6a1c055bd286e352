-- Room, and the numbers of pages and LSNs.
use Rattle.std.proofs.Common.{◌≡◌, ◌≢◌, ℕ, suc, ◌-◌, ◌^◌, ◌<◌, true, List, [], ◌∷◌, ◌++◌, length, None, refl, ap, arith}
use Rattle.std.proofs.lemmas.Bool.{and_from}
use Rattle.wal_record.specs.State.{is_child}
use Rattle.wal_record.specs.Rules.{is_lsn_or_none}
use Rattle.wal_record.specs.Chains.{head, pages, tx_of, link_of}
use Rattle.wal_record.specs.OpenWrites.{open_writes, pending}
use Rattle.wal_record.specs.Checkpoints.{limit_of}
use Rattle.wal_record.specs.Sound.{AreLawful}
use Rattle.wal_record.specs.declared.record.Record.{Record}
use Rattle.wal_record.specs.declared.record.Record.TheVariants as kinds
use Rattle.log_laws.proofs.Pending.{pending_change}
use Rattle.log_laws.proofs.Beginnings.{structure}
use Rattle.tree_laws.proofs.Whole.{tree}
use Rattle.claim_laws.proofs.Pages.{head_in}
use Rattle.foster_laws.proofs.HalfSizes.{true_le}

-- ---- heads

pub head_fits : (p : ℕ) (log : List Record) (prev : ℕ) → length log < 2 ^ 63 → prev ≡ head log p → is_lsn_or_none prev ≡ true
head_fits p log prev short e = true_le prev (2 ^ 63 - 1) (let h = head_in p log in omega (arith, h, short, e))

-- ---- the limit

pub limit_same : (log : List Record) (r : Record) → log ≢ [] → limit_of (log ++ r ∷ []) ≡ limit_of log
limit_same [] r n = absurd (n refl)
limit_same (kinds.Format f ∷ xs) r n = refl
limit_same (x ∷ xs) r n = refl

-- ---- pending writes

-- a record that names no transaction leaves them
pub pending_same : (log : List Record) (r : Record) → link_of r ≡ None → pending (log ++ r ∷ []) ≡ pending log
pending_same log r none =
    let a = (pending_change log r).change in
    let e : length (open_writes (log ++ r ∷ []) (tx_of r)) ≡ length (open_writes log (tx_of r)) = ap length ((structure log r).open_writes none (tx_of r)) in
    omega (arith, a, e)

-- ---- the next page

-- there is a page, so the next one has a number
pub next_child : (log : List Record) → AreLawful log → log ≢ [] → pages log < 16384 → is_child (suc (pages log)) ≡ true
next_child log lawful some less =
    let one = (tree log lawful some).some in
    and_from _ _ (true_le 2 (suc (pages log)) (omega (arith, one))) (true_le (suc (pages log)) 16384 (omega (arith, less)))
