use Rattle.std.proofs.Common.{◌-◌, ◌++◌, take, drop, min, length, ap, sym, ◌∙◌, arith}
use Rattle.media.specs.Objects.{Stored, bytes_of}
use Rattle.media_mem.proofs.Shelves.{first_stored, none_stored}
use Rattle.media_mem.proofs.vault.read_object.Goals as goal

pub returns-in-Some-clause-count : goal.returns-in-Some-clause-count
returns-in-Some-clause-count c =
    let is = first_stored c.args.name.now c.args.objects.now c.in-Some.i c.index-objects-i.result c.in-Some.ensures.1 c.index-objects-i.is in
    c.copy_kept.ensures.count ∙ ap (λ (s : Stored). min (length c.args.buf.now) (length (bytes_of s) - c.args.from)) (sym is)

pub returns-in-Some-clause-bytes : goal.returns-in-Some-clause-bytes
returns-in-Some-clause-bytes c =
    let is = first_stored c.args.name.now c.args.objects.now c.in-Some.i c.index-objects-i.result c.in-Some.ensures.1 c.index-objects-i.is in
    c.copy_kept.ensures.bytes ∙ ap (λ (s : Stored). take c.copy_kept.result (drop c.args.from (bytes_of s)) ++ drop c.copy_kept.result c.args.buf.now) (sym is)

pub returns-in-None-clause-count : goal.returns-in-None-clause-count
returns-in-None-clause-count c =
    let none = none_stored c.args.name.now c.args.objects.now c.in-None.ensures in
    omega (arith, ap (λ (s : Stored). length (bytes_of s)) none)
