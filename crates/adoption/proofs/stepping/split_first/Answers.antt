use Rattle.std.proofs.Common.{List, Ok, refl, ◌∙◌}
use Rattle.wal_record.specs.History.{life_log}
use Rattle.wal_record.specs.declared.record.Record.{Record}
use Rattle.foster_laws.specs.Tidy.{IsFull}
use Rattle.smo.specs.Splits.{split_by}
use Rattle.adoption.proofs.MadeCalls.{none_made}
use Rattle.adoption.proofs.PutBack.{after_faults, back_faults}
use Rattle.adoption.proofs.TreeCalls.{branch_kept, crowded_tidy, made_goes}
use Rattle.adoption.proofs.stepping.split_first.Goals as goal

pub returns-in-Ok-None-clause-tidy : goal.returns-in-Ok-None-clause-tidy
returns-in-Ok-None-clause-tidy g c only opening stands here tidy there =
    crowded_tidy g.N.Life.opens g.N.Life.entries g.N.Life.session_entries g.N.Life.log_faults g.N.Life.made (g.J.Entering.account c.args.journal.now) (g.J.Entering.account c.split.new.journal) c.args.pass.now c.split.new.pass _ _ (split_by c.args.parent.page c.args.parent.state) c.split.result (c.in-Ok-None.is ∙ (λ i. Ok (c.in-Ok-None.field-0-is i))) c.split.ensures.entered only opening stands
    c.args.key.now c.args.parent c.args.fosterer c.requires.way c.requires.crowded c.requires.some
    (none_made ((opening : List Record) → g.N.Life.opens opening → IsFull (life_log opening c.split.new.pass.log)) c.split.result (c.in-Ok-None.is ∙ (λ i. Ok (c.in-Ok-None.field-0-is i))) c.split.ensures.room opening stands) here tidy there

pub returns-in-Ok-Some-clause-goes : goal.returns-in-Ok-Some-clause-goes
returns-in-Ok-Some-clause-goes g c =
    made_goes g.N.Life.opens g.N.Life.entries g.N.Life.session_entries g.N.Life.log_faults g.N.Life.made (g.J.Entering.account c.args.journal.now) (g.J.Entering.account c.split.new.journal) c.args.pass.now c.split.new.pass _ _ (split_by c.args.parent.page c.args.parent.state)
    (λ prev child lsn. branch_kept c.args.parent.page prev child lsn c.args.parent.state c.requires.rules c.requires.way.branch) (λ prev child lsn h. refl) (g.P.Pages.desk c.args.pages.now) (g.P.Pages.desk c.put_back-in-Ok-Some-2.new.self) c.split.result _ (c.in-Ok-Some.is ∙ (λ i. Ok (c.in-Ok-Some.field-0-is i))) c.split.ensures.entered c.split.ensures.ends
    (back_faults (g.P.Pages.desk c.put_back-in-Ok-Some.new.self) (g.P.Pages.desk c.put_back-in-Ok-Some-2.new.self) c.put_back-in-Ok-Some-2.ensures.out ∙ back_faults (g.P.Pages.desk c.split.new.pages) (g.P.Pages.desk c.put_back-in-Ok-Some.new.self) c.put_back-in-Ok-Some.ensures.out
    ∙ after_faults (g.P.Pages.desk c.args.pages.now) (g.P.Pages.desk c.split.new.pages) c.split.result c.split.ensures.desk)
