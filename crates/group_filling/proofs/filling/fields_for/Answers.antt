use Rattle.std.proofs.Common.{ap, sym, ◌∙◌}
use Rattle.std.specs.Prelude.{◌++◌}
use Rattle.log_index.specs.Listing.{noted}
use Rattle.wal_record.specs.Chains.{head}
use Rattle.group_filling.proofs.Chaining.{last_front, pages_front, noted_link}
use Rattle.group_filling.proofs.filling.fields_for.Goals as goal

pub returns-clause-chained : goal.returns-clause-chained
returns-clause-chained c goes log known at few runs joins = record {
  prev = λ l is. noted_link goes log _ _ _ known runs (c.noted.ensures ∙ ap (noted c.args.listing.now) c.tx_of.ensures) l is ∙ sym (last_front log c.args.before.now c.args.rec.now l.tx joins);
  page_prev = c.head_behind.ensures log known.listing known.lawful at ∙ ap (head (log ++ c.args.before.now)) c.first_page-first.ensures;
  other_prev = c.head_behind-2.ensures log known.listing known.lawful at ∙ ap (head (log ++ c.args.before.now)) c.second_page.ensures;
  count = λ whole. c.count_of.ensures log known.listing few ∙ pages_front log c.args.before.now c.args.rec.now whole joins;
}
