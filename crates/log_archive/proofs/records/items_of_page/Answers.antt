use Rattle.std.proofs.Common.{◌≡◌, ◌≢◌, ℕ, ◌-◌, [], drop, sym, ap, subst, ◌∙◌, arith}
use Rattle.std.specs.List.{All}
use Rattle.std.proofs.lemmas.List.{drop_min}
use Rattle.std.proofs.lemmas.List.Elements.{All-nil}
use Rattle.state_codec.proofs.Fields.{ok_is}
use Rattle.log_archive.specs.Answers.{IsEntryOf}
use Rattle.log_archive.specs.Items.{from_lsn}
use Rattle.log_archive.specs.Reading.{collected}
use Rattle.log_archive.specs.Run.{IsSpelled}
use Rattle.log_archive.specs.declared.directory.Entry.{Entry}
use Rattle.log_archive.proofs.Again.{collects, none_there}
use Rattle.log_archive.proofs.records.items_of_page.Goals as goal

pub returns-in-None-clause-found : goal.returns-in-None-clause-found
returns-in-None-clause-found c = λ run first last chunks is low reads.
    let none = subst (All (λ (e : Entry). e.page ≢ c.args.page)) c.as_slice.ensures c.in-None.ensures in
    c.new.ensures.items ∙ sym (ap (from_lsn c.args.from) (none_there run first last chunks c.args.bytes.now is low c.args.outline.now reads c.args.page none))

pub returns-in-Ok-clause-found : goal.returns-in-Ok-clause-found
returns-in-Ok-clause-found c = λ run first last chunks is low reads.
    let e = c.in-Some.ensures in
    let behind = c.split_at.ensures.back ∙ ap (λ (n : ℕ). drop n c.args.bytes.now) c.min-at.ensures ∙ drop_min c.in-Some.entry.offset c.args.bytes.now in
    let above : c.saturating_sub-above.result ≡ c.args.outline.now.head.first - 1 = omega arith in
    let among = subst (IsEntryOf c.in-Some.entry) c.as_slice.ensures e.1 in
    ok_is c.in-Ok.found.items _ (sym c.in-Ok.ensures.read
    ∙ ap (λ (n : ℕ). collected c.args.page c.args.outline.now.head.last c.args.from c.in-Some.entry.count n [] c.split_at.result.1.now) above
    ∙ collects run first last chunks c.args.bytes.now is low c.args.outline.now reads c.args.page c.args.from c.in-Some.entry c.split_at.result.1.now e.0 among behind)

pub returns-in-None-clause-spelled : goal.returns-in-None-clause-spelled
returns-in-None-clause-spelled c = subst (All IsSpelled) (sym c.new.ensures.items) (All-nil IsSpelled)
