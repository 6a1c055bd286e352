use Rattle.std.proofs.Common.{◌∙◌, ap, sym, subst}
use Rattle.std.proofs.lemmas.Result.{err_from_is_err_and}
use Rattle.std.specs.Prelude.{Option, IfSome, IsSome}
use Rattle.books.specs.Rights.{MaintClaim}
use Rattle.page_ops.proofs.Composing.{ends_by_then}
use Rattle.page_ops.specs.Claims.{MaintAgrees}
use Rattle.front.specs.Seen.{PassSeen}
use Rattle.front.proofs.Keeping.{prefix_trans}
use Rattle.wal_record.specs.declared.entry.Entry.{Entry}
use Rattle.named_objects.proofs.Drafting.{named_now}
use Rattle.named_objects.proofs.EnteredNamings.{entered_behind}
use Rattle.named_objects.proofs.Keeping.{look_kept, naming_kept, suits_now}
use Rattle.named_objects.proofs.Places.{comes_next}
use Rattle.named_objects.proofs.own_objects.OwnObjectsObjects.done.Goals as goal

pub invariant_of-self : goal.invariant_of-self
invariant_of-self g c =
    let look = c.look-last.ensures in
    look_kept g.N.Life.opens g.V.Vault.tells g.V.Vault.told c.self.inside.right c.look-last.new.right c.self.inside.pass c.look-last.new.own c.look-last.new.pass c.self.inside.vault c.self.inside.draft c.self.invariant look.right look.own look.begins look.seen.now.consistent look.agrees

pub enter_naming-requires-clause-suits : goal.enter_naming-requires-clause-suits
enter_naming-requires-clause-suits g c =
    let look = c.look-last.ensures in
    suits_now g.N.Life.opens c.args.pass.now.log c.look-last.new.pass.log c.args.since c.args.naming look.seen.now.begins look.seen.now.consistent c.requires.since (sym look.place ∙ c.if-last-since.false) c.requires.suits

pub invariant_of-self-in_err-lsn : goal.invariant_of-self-in_err-lsn
invariant_of-self-in_err-lsn g c =
    let look = c.look-last.ensures in
    let same = c.in_err-lsn.ensures.same in
    look_kept g.N.Life.opens g.V.Vault.tells g.V.Vault.told c.self.inside.right c.enter_naming.new.right c.self.inside.pass c.look-last.new.own c.look-last.new.pass c.self.inside.vault c.self.inside.draft c.self.invariant (same ∙ look.right) look.own look.begins look.seen.now.consistent
    (subst (λ (m : Option MaintClaim). IfSome m (MaintAgrees c.look-last.new.pass.log)) (sym same) look.agrees)

pub returns-in_err-lsn-clause-entered : goal.returns-in_err-lsn-clause-entered
returns-in_err-lsn-clause-entered g c =
    let p = err_from_is_err_and c.from_residual.result c.from_residual.ensures.1 in
    rw (p.1) (entered_behind _ _ _ _ _ _ _ _ _ _ _ _ c.look-last.ensures.seen c.in_err-lsn.ensures.entered)

pub returns-in_err-lsn-clause-ends : goal.returns-in_err-lsn-clause-ends
returns-in_err-lsn-clause-ends g c =
    let p = err_from_is_err_and c.from_residual.result c.from_residual.ensures.1 in
    rw (p.1, p.2) (ends_by_then _ _ _ _ _ _ _ c.look-last.ensures.calm.end c.look-last.ensures.seen.keeps _ c.in_err-lsn.ensures.ends)

pub invariant_of-self-2 : goal.invariant_of-self-2
invariant_of-self-2 g c =
    let look = c.look-last.ensures in
    let e = c.in_ok-lsn.ensures.entered in
    naming_kept g.N.Life.opens g.V.Vault.tells g.V.Vault.told c.look-last.new.right c.enter_naming.new.right c.look-last.new.own c.look-last.new.pass c.enter_naming.new.pass c.copy.result e.moment c.in_ok-lsn.lsn c.self.inside.vault c.self.inside.draft c.args.naming
    (look_kept g.N.Life.opens g.V.Vault.tells g.V.Vault.told c.self.inside.right c.look-last.new.right c.self.inside.pass c.look-last.new.own c.look-last.new.pass c.self.inside.vault c.self.inside.draft c.self.invariant look.right look.own look.begins look.seen.now.consistent look.agrees)
    (c.is_ready.ensures.0 c.if-not-is_ready.false) look.own e.found.begins e.found.consistent e.found.rights.m e.is c.in_ok-lsn.ensures.right e.now.rights.m c.copy.ensures.copy

pub returns-clause-named : goal.returns-clause-named
returns-clause-named g c =
    let e = c.in_ok-lsn.ensures.entered in
    named_now g.N.Life.opens c.args.pass.now.log e.moment c.copy.new.self.log c.in_ok-lsn.lsn c.args.naming (prefix_trans c.args.pass.now.log c.look-last.new.pass.log e.moment c.look-last.ensures.seen.now.begins e.found.begins) (ap (λ (p : PassSeen Entry). p.log) c.copy.ensures.same ∙ e.is) c.requires.suits

pub returns-clause-next : goal.returns-clause-next
returns-clause-next g c =
    let look = c.look-last.ensures in
    let e = c.in_ok-lsn.ensures.entered in
    comes_next c.look-last.new.pass.log e.moment c.copy.new.self.log c.args.since c.look-last.result c.in_ok-lsn.lsn c.look-last.new.right c.args.naming (subst (λ (m : Option MaintClaim). IsSome m) (sym look.right) c.self.invariant.0) look.agrees e.found.rights.m look.place
    c.if-last-since.false (ap (λ (p : PassSeen Entry). p.log) c.copy.ensures.same ∙ e.is)
