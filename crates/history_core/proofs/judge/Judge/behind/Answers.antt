use Rattle.std.proofs.Common.{◌≡◌, ap, refl, arith}
use Rattle.wal_record.specs.Chains.{greatest}
use Rattle.wal_record.specs.declared.analysis.Analysis.{Analysis}
use Rattle.history_core.proofs.Opened.{begins}
use Rattle.history_core.proofs.judge.Judge.behind.Goals as goal

pub returns : goal.returns
returns c = λ opening k.
    let most : c.saturating_sub-greatest.result ≡ greatest opening =
    (let next = c.next_tx.ensures opening k.listing in let less = c.saturating_sub-greatest.ensures in omega (arith, next, less)) in
    begins opening _ (c.new.ensures opening most) c.new-2.ensures k
    (ap (λ (a : Analysis). a.losers) (c.in_ok-losers.ensures opening k.listing)) refl refl
