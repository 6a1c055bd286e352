use Rattle.std.proofs.Common.{[], ◌∷◌, refl, arith}
use Rattle.backup_set.specs.declared.copy.PageCopy.{PageCopy}
use Rattle.backup_set_tests.proofs.segments.write_one.Goals as goal

pub write_segment-requires-clause-images : goal.write_segment-requires-clause-images
write_segment-requires-clause-images g c =
    let f = c.in-Ok.ensures.found in
    let copy : PageCopy = record { page = 1; sealed = c.in-Ok.field-0 } in (
      copy ∷ [],
      record {
        count = refl;
        fit = (record { page = refl; in_segment = refl; rises = omega arith; state = f.0; lsn = f.1 }, tt);
        spelled = λ i. f.2 i ∷ [];
      },
    )
