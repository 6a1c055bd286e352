use Rattle.std.proofs.Common.{◌≤◌, drop, inr, sym, ap, ◌∙◌, arith}
use Rattle.std.proofs.lemmas.List.{length-drop}
use Rattle.backup_set.specs.Reading.{next_at}
use Rattle.backup_set.proofs.Images.{copy_next, copy_none, next_ok, next_within, page_parts}
use Rattle.backup_set.proofs.image.image_copy.Goals as goal

pub overflow_sub-result : goal.overflow_sub-result
overflow_sub-result c =
    let le = next_within c.args.segment c.args.above (drop 32 c.args.image.now) c.in-Err-Bad.left (ap (next_at c.args.segment c.args.above) (sym c.split_at.ensures.back) ∙ (rw c.in-Err-Bad.field-0-is at c.in-Err-Bad.ensures)) in
    omega (arith, length-drop 32 c.args.image.now, c.told-image)

pub returns-in-Ok-open_page-clause-found : goal.returns-in-Ok-open_page-clause-found
returns-in-Ok-open_page-clause-found c =
    let e = ap (next_at c.args.segment c.args.above) (sym c.split_at.ensures.back) ∙ c.in-Ok.ensures in
    let n = next_ok c.args.segment c.args.above (drop 32 c.args.image.now) (c.in-Ok.page, c.in-Ok.field-0-1.now) e in
    let parts = page_parts c.args.segment c.args.above c.in-Ok.page n.0 in
    let f = c.in-Ok-open_page.ensures.found in
    (record { page = parts.0; in_segment = parts.1; rises = parts.2; state = f.0; lsn = f.1 }, f.2)

pub returns-in-Err-Number-clause-flaw : goal.returns-in-Err-Number-clause-flaw
returns-in-Err-Number-clause-flaw c =
    let e = ap (next_at c.args.segment c.args.above) (sym c.split_at.ensures.back) ∙ c.in-Ok.ensures in
    let n = next_ok c.args.segment c.args.above (drop 32 c.args.image.now) (c.in-Ok.page, c.in-Ok.field-0-1.now) e in
    let x = rw c.in-Err-Number.field-0-is at c.in-Err-Number.ensures.exact in
    absurd (x.1 (sym n.1))

pub returns-in-Err-Format-clause-flaw : goal.returns-in-Err-Format-clause-flaw
returns-in-Err-Format-clause-flaw c =
    let e = ap (next_at c.args.segment c.args.above) (sym c.split_at.ensures.back) ∙ c.in-Ok.ensures in
    let x = rw c.in-Err-Format.field-0-is at c.in-Err-Format.ensures.exact in
    inr (x.0, (x.2.0, copy_next c.args.segment c.args.above (drop 32 c.args.image.now) (c.in-Ok.page, c.in-Ok.field-0-1.now) e ∙ x.2.1, x.2.2))

pub returns-then-verifies-clause-flaw : goal.returns-then-verifies-clause-flaw
returns-then-verifies-clause-flaw c =
    let e = ap (next_at c.args.segment c.args.above) (sym c.split_at.ensures.back) ∙ (rw c.in-Err-Bad.field-0-is at c.in-Err-Bad.ensures) in
    let le : c.in-Err-Bad.left ≤ 4096 = (let w = next_within c.args.segment c.args.above (drop 32 c.args.image.now) c.in-Err-Bad.left e in omega (arith, length-drop 32 c.args.image.now, c.told-image)) in
    inr (c.verifies.ensures.0 c.if-verifies.true, (c.in-Err-Bad.left, copy_none c.args.segment c.args.above (drop 32 c.args.image.now) c.in-Err-Bad.left e, omega arith))
