use Rattle.std.proofs.Common.{ℕ, ◌+◌, ◌*◌, List, drop, sym, ap, subst, ◌∙◌}
use Rattle.std.proofs.lemmas.List.{drop_min}
use Rattle.log_archive.specs.Merging.{HasChunks}
use Rattle.log_archive.specs.declared.directory.Entry.{Entry}
use Rattle.log_archive.proofs.Merged.{has_chunks}
use Rattle.log_archive.proofs.merging.add_run.Goals as goal

pub returns-in-Ok-clause-added : goal.returns-in-Ok-clause-added
returns-in-Ok-clause-added c = λ first last chunks is.
    let behind = c.split_at.ensures.back ∙ ap (λ (n : ℕ). drop n c.args.bytes.now) c.min.ensures ∙ drop_min (32 + 16 * c.in-Ok.outline.head.pages) c.args.bytes.now in
    let has = has_chunks c.args.run first last chunks c.args.bytes.now is c.ranges.run.fits c.in-Ok.outline c.in-Ok.ensures.outline c.split_at.result.1.now behind in
    c.add_chunks.ensures.added chunks (subst (λ (es : List Entry). HasChunks c.in-Ok.outline.head es c.split_at.result.1.now chunks) (sym c.as_slice.ensures) has)
