use Rattle.std.proofs.Common.{Ok, sym, ◌∙◌}
use Rattle.std.proofs.lemmas.Result.{err_from_is_err_and}
use Rattle.std.specs.Prelude.{Err}
use Rattle.vault_bases.proofs.Whole.{copy_in_whole, fails_in_whole}
use Rattle.vault_bases.proofs.copies.in_whole.Goals as goal

pub returns-clause-copy : goal.returns-clause-copy
returns-clause-copy g c =
    let u = c.read_named.ensures.entered in
    record {
      copy = copy_in_whole g.N.Life.opens c.args.pass.now.log c.read_named.new.pass.log (u.gained, sym u.is) c.args.page c.args.backup c.ranges.page.fits c.ranges.backup.fits c.object_of-name.result c.object_of-name.ensures
          c.deref.result.now (λ opening bytes stands n. c.deref.ensures.value ∙ c.in_ok-bytes.ensures.bytes opening bytes stands n) (Ok c.in_ok-sealed.sealed) c.in_ok-sealed.ensures.found c.in_ok-sealed.ensures.held;
      bytes = tt;
    }

pub returns-in_err-sealed-clause-refused : goal.returns-in_err-sealed-clause-refused
returns-in_err-sealed-clause-refused g c =
    let u = c.read_named.ensures.entered in
    let p = err_from_is_err_and c.from_residual-in_err-sealed.result c.from_residual-in_err-sealed.ensures.1 in
    rw (p.1, p.2) (fails_in_whole g.N.Life.opens c.args.pass.now.log c.read_named.new.pass.log (u.gained, sym u.is) c.args.page c.args.backup c.ranges.page.fits c.ranges.backup.fits c.object_of-name.result c.object_of-name.ensures
    c.deref.result.now (λ opening bytes stands n. c.deref.ensures.value ∙ c.in_ok-bytes.ensures.bytes opening bytes stands n) (Err c.in_err-sealed.field-0.0) _ _ _ _ c.in_err-sealed.ensures.found c.in_err-sealed.ensures.refused c.requires.held)
