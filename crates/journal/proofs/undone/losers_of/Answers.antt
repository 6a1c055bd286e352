use Rattle.std.proofs.Common.{◌∙◌, ap, map}
use Rattle.losers.specs.Losers.{untouched}
use Rattle.wal_record.specs.declared.analysis.Analysis.{Analysis}
use Rattle.wal_record.specs.declared.analysis.Loser.{Loser}
use Rattle.journal.proofs.Analysed.{analysis_losers, ok_map}
use Rattle.journal.proofs.undone.losers_of.Goals as goal

pub returns : goal.returns
returns c log is =
    ok_map c.new.result _ _ (λ made all.
    all ∙ ap (map untouched) (c.deref.ensures.value ∙ c.in_ok-txs.ensures ∙ ap (map (λ (x : Loser). x.tx)) (c.as_slice.ensures ∙ ap (λ (a : Analysis). a.losers) (c.in_ok-analysis.ensures log is)) ∙ analysis_losers log))
    c.new.ensures
