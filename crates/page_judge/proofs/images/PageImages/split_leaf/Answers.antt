use Rattle.std.proofs.Common.{Option, ap, subst, sym, ◌∙◌, ◌≡◌}
use Rattle.std.specs.Prelude.{IfOk}
use Rattle.wal_record.specs.Legal.{if_leaf, split_step}
use Rattle.wal_record.specs.declared.entry.Entry.TheVariants.{Rec}
use Rattle.wal_record.specs.declared.page.PageState.{PageState}
use Rattle.wal_record.specs.declared.record.Record.{Record}
use Rattle.page_judge.specs.Images.{AreImagesOf}
use Rattle.page_judge.proofs.images.PageImages.split_leaf.Goals as goal

pub returns-in-Some : goal.returns-in-Some
unfolding AreImagesOf
returns-in-Some c = λ log lsn k.
    subst (λ (s : Option PageState). IfOk c.copied_leaf.result (λ o. o ≡ s))
    (sym (ap (λ (r : Record). split_step log (Rec lsn r)) c.in-Split.is ∙ ap if_leaf (k c.in-Split.split.page ∙ sym c.in-Some.ensures)))
    c.copied_leaf.ensures

pub returns-in-None : goal.returns-in-None
unfolding AreImagesOf
returns-in-None c = λ log lsn k.
    sym (ap (λ (r : Record). split_step log (Rec lsn r)) c.in-Split.is ∙ ap if_leaf (k c.in-Split.split.page ∙ sym c.in-None.ensures))
