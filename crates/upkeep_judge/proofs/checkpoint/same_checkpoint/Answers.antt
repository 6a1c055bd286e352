use Rattle.std.proofs.Common.{◌≡◌, true, false, ap, sym, ◌∙◌}
use Rattle.wal_record.specs.declared.record.Checkpoint.{Checkpoint}
use Rattle.upkeep_judge.proofs.checkpoint.same_checkpoint.Goals as goal

pub returns-then-same_numbers : goal.returns-then-same_numbers
returns-then-same_numbers c =
    let p = c.same_numbers.ensures.0 c.if-same_numbers.true in (
      λ t. let q = c.same_lists.ensures.0 t in
          λ i. record { next_tx = p.0 i; commits = p.1 i; limit = p.2 i; pages = q.0 i; transactions = q.1 i; lost = p.3 i; unrestored = q.2 i; runs = q.3 i; next_backup = p.4 i; next_run = p.5 i },
      λ e. c.same_lists.ensures.1 (ap (λ (x : Checkpoint). x.pages) e, ap (λ (x : Checkpoint). x.transactions) e, ap (λ (x : Checkpoint). x.unrestored) e, ap (λ (x : Checkpoint). x.runs) e),
    )

pub returns-else-same_numbers : goal.returns-else-same_numbers
returns-else-same_numbers c = (
  λ t. absurd (cc t),
  λ e.
      let all = c.same_numbers.ensures.1 (ap (λ (x : Checkpoint). x.next_tx) e, ap (λ (x : Checkpoint). x.commits) e, ap (λ (x : Checkpoint). x.limit) e, ap (λ (x : Checkpoint). x.lost) e, ap (λ (x : Checkpoint). x.next_backup) e, ap (λ (x : Checkpoint). x.next_run) e) in
      (let both : true ≡ false = sym all ∙ c.if-same_numbers.false in absurd (cc both)),
)
