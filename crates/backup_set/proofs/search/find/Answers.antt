use Rattle.std.proofs.Common.{◌≡◌, ℕ, ◌+◌, ◌*◌, List, length, drop, sym, subst, ◌∙◌, arith}
use Rattle.std.proofs.lemmas.List.{nil_from_length}
use Rattle.store_model.specs.declared.fault.Fault.TheVariants as faults
use Rattle.vault_objects.proofs.Numbers.{eq_is}
use Rattle.backup_set.specs.Answers.{FailsToFind, IsBad}
use Rattle.backup_set.specs.Backup.{backup_name}
use Rattle.backup_set.proofs.Heads.{is_some}
use Rattle.backup_set.proofs.Walking.{Walked, breaks_here, has_found, has_surplus, lacks_page, walk_goes_on}
use Rattle.backup_set.proofs.search.find.Goals as goal

pub returns-then-copy-page-clause-held : goal.returns-then-copy-page-clause-held
returns-then-copy-page-clause-held c =
    let f = c.in-Ok.ensures.found in
    has_found c.args.part.backup c.args.part.segment c.args.page c.args.count c.loop-place.place c.loop-place.above c.args.bytes.now c.loop-place.rest.now c.requires.head c.loop-place.invariant c.in-Ok.copy c.loop-place-test.true f.0 f.2 c.if-copy-page.true

pub returns-in-Err-Bad-clause-refused : goal.returns-in-Err-Bad-clause-refused
returns-in-Err-Bad-clause-refused c =
    let at : c.bad_at.result ≡ faults.VaultBad (backup_name c.args.part.backup c.args.part.segment) (20 + 4096 * c.loop-place.place + c.in-Err-Bad.at) = cc (c.bad_at.ensures, c.in-Err-Bad.at-is) in
    subst (FailsToFind (IsBad c.args.part.backup c.args.part.segment c.args.page c.args.bytes.now)) (sym at)
    (breaks_here c.args.part.backup c.args.part.segment c.args.page c.args.count c.loop-place.place c.loop-place.above c.args.bytes.now c.loop-place.rest.now c.requires.head c.loop-place.invariant c.in-Err-Bad.at c.loop-place-test.true (rw c.in-Err-Bad.field-0-is at c.in-Err-Bad.ensures.flaw))

pub loop-place-preserved : goal.loop-place-preserved
loop-place-preserved c =
    let f = c.in-Ok.ensures.found in
    subst (λ (t : List ℕ). Walked c.args.part.segment c.args.page (c.loop-place.place + 1) c.in-Ok.copy.page (drop 20 c.args.bytes.now) t) (sym c.split_at-in-Ok.ensures.back)
    (walk_goes_on c.args.part.segment c.args.page c.loop-place.place c.loop-place.above (drop 20 c.args.bytes.now) c.loop-place.rest.now c.in-Ok.copy c.loop-place.invariant f.0 f.2 c.if-copy-page.false)

pub returns-then-is_empty-clause-refused : goal.returns-then-is_empty-clause-refused
returns-then-is_empty-clause-refused c =
    let end : c.loop-place.place ≡ c.args.count = omega arith in
    subst (FailsToFind (IsBad c.args.part.backup c.args.part.segment c.args.page c.args.bytes.now)) (sym c.bad_at-then-is_empty.ensures)
    (lacks_page c.args.part.backup c.args.part.segment c.args.page c.args.count c.loop-place.place c.loop-place.above c.args.bytes.now c.loop-place.rest.now c.requires.head c.loop-place.invariant (λ i. omega (arith, c.type_inv.bytes i)) end (nil_from_length c.loop-place.rest.now (eq_is (length c.loop-place.rest.now) 0 (sym c.is_empty.ensures ∙ c.if-is_empty.true))))

pub returns-else-is_empty-clause-refused : goal.returns-else-is_empty-clause-refused
returns-else-is_empty-clause-refused c =
    let end : c.loop-place.place ≡ c.args.count = omega arith in
    subst (FailsToFind (IsBad c.args.part.backup c.args.part.segment c.args.page c.args.bytes.now)) (sym c.bad_at-else-is_empty.ensures)
    (has_surplus c.args.part.backup c.args.part.segment c.args.page c.args.count c.loop-place.place c.loop-place.above c.args.bytes.now c.loop-place.rest.now c.requires.head c.loop-place.invariant end (is_some (length c.loop-place.rest.now) (sym c.is_empty.ensures ∙ c.if-is_empty.false)))
