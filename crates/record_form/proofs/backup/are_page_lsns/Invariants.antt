use Rattle.std.proofs.Common.{◌≡◌, take}
use Rattle.std.specs.Prelude.{IsTrue}
use Rattle.store_model.specs.Along.{AllAlong}
use Rattle.wal_record.specs.Rules.{page_lsn_fits}
use Rattle.wal_record.specs.declared.record.PageLsn.{PageLsn}
use Rattle.record_form.proofs.Along.{top}
use Rattle.record_form.proofs.backup.are_page_lsns.Given as goal

abbrev pub invariant-loop-page : goal.invariant-loop-page
invariant-loop-page l = record {
  last : l.last ≡ top (λ (x : PageLsn). x.page) (take l.page-index l.pages);
  fit : AllAlong (λ before p. IsTrue (page_lsn_fits before p)) (take l.page-index l.pages);
}
