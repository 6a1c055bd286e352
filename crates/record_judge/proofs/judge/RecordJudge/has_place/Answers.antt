use Rattle.std.proofs.Common.{subst, sym}
use Rattle.std.specs.Prelude.{◌↔◌, IsTrue}
use Rattle.wal_record.specs.Sound.{PlaceRule}
use Rattle.wal_record.specs.declared.record.Record.{Record}
use Rattle.page_judge.specs.Images.{AreApplicable}
use Rattle.record_judge.proofs.Deciding.{adopt_can}
use Rattle.record_judge.proofs.judge.RecordJudge.has_place.Goals as goal

pub returns-in-Split : goal.returns-in-Split
returns-in-Split c = λ log k all. subst (λ (r : Record). IsTrue c.is_next_page.result ↔ PlaceRule log r) (sym c.in-Split.is) (c.is_next_page.ensures log k)

pub returns-in-Grow : goal.returns-in-Grow
returns-in-Grow c = λ log k all. subst (λ (r : Record). IsTrue c.is_next_page-in-Grow.result ↔ PlaceRule log r) (sym c.in-Grow.is) (c.is_next_page-in-Grow.ensures log k)

pub returns-in-Adopt : goal.returns-in-Adopt
returns-in-Adopt c = λ log k all. subst (λ (r : Record). IsTrue c.leads_to.result ↔ PlaceRule log r) (sym c.in-Adopt.is)
    (c.leads_to.ensures log k.images (adopt_can log c.in-Adopt.adopt (subst (AreApplicable log) c.in-Adopt.is all)))
