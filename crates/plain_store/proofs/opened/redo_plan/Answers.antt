use Rattle.std.proofs.Common.{◌≡◌, ◌∙◌, List, ap, refl, subst}
use Rattle.std.specs.Prelude.{IfOk, map}
use Rattle.wal_record.specs.Checkpoints.{analysis_of, page_heads}
use Rattle.wal_record.specs.declared.analysis.Analysis.{Analysis}
use Rattle.wal_record.specs.declared.analysis.PageHead.{PageHead}
use Rattle.wal_record.specs.declared.record.Record.{Record}
use Rattle.restart.specs.Plans.{is_behind}
use Rattle.plain_store.proofs.opened.redo_plan.Goals as goal

heads_of : (log : List Record) → (analysis_of log).heads ≡ page_heads log
unfolding analysis_of
heads_of log = refl

pub returns : goal.returns
returns c = λ log is. subst (λ (heads : List PageHead). IfOk c.new.result (λ plan. plan ≡ map is_behind heads)) (ap (λ (a : Analysis). a.heads) (c.in_ok-analysis.ensures log is) ∙ heads_of log) c.new.ensures
