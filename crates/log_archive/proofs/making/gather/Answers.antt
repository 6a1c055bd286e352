use Rattle.std.proofs.Common.{◌≡◌, ℕ, Bool, Option, Some, None, refl, sym, subst, arith, List}
use Rattle.std.specs.Prelude.{IfSome}
use Rattle.log_archive.specs.Items.{numbered}
use Rattle.log_archive.specs.Shelves.{AddsWithin, Gathered, Gathering}
use Rattle.log_archive.specs.declared.layout.TheConstants.{MOST_BYTES}
use Rattle.log_archive.specs.declared.item.Numbered.{Numbered}
use Rattle.log_archive.proofs.Gathering.{ends_still, gathered_more, nothing_gathered, number_from_one}
use Rattle.log_archive.proofs.making.gather.Goals as goal

pub loop-lsn-init : goal.loop-lsn-init
loop-lsn-init g c = record {
  gathered = subst (λ (x : Gathering). Gathered (g.R.Reads.answers c.args.log.now) c.args.first c.args.first x) (sym c.new-items.ensures) (nothing_gathered (g.R.Reads.answers c.args.log.now) c.args.first);
  answers = λ x. (λ h. h, λ h. h);
  log_later = omega arith;
  vault_later = omega arith;
  ended = still (g.R.Reads.ended c.args.log.now);
}
  where
    still : (o : Option ℕ) → IfSome o (λ at. o ≡ Some at)
    still None = tt
    still (Some at) = refl

pub loop-lsn-preserved : goal.loop-lsn-preserved
loop-lsn-preserved g c =
    let inv = c.loop-lsn.invariant in
    let x : Numbered = record { lsn = c.loop-lsn.lsn; rec = c.in_ok-rec.rec } in
    let items : List Numbered = numbered c.args.first inv.gathered.records in
    let added = subst (λ (b : Bool). AddsWithin MOST_BYTES items x c.loop-lsn.items c.add.new.self b) c.if-not-branch.false (c.in_ok-add.ensures items inv.gathered.items) in
    record {
      gathered = gathered_more (g.R.Reads.answers c.args.log.now) c.args.first c.loop-lsn.lsn c.loop-lsn.items c.add.new.self c.in_ok-rec.rec inv.gathered c.in_ok-rec.ensures.spelling (λ log known. c.in_ok-rec.ensures.found log ((inv.answers log).0 known)) (number_from_one c.args.first c.requires.numbers.0) added.0;
      answers = λ log. (λ known. (c.in_ok-rec.ensures.answers log).0 ((inv.answers log).0 known), λ known. (inv.answers log).1 ((c.in_ok-rec.ensures.answers log).1 known));
      log_later = omega (arith, inv.log_later, c.in_ok-rec.ensures.later.0);
      vault_later = omega (arith, inv.vault_later, c.in_ok-rec.ensures.later.1);
      ended = ends_still (g.R.Reads.ended c.args.log.now) (g.R.Reads.ended c.loop-lsn.log) (g.R.Reads.ended c.read.new.self) inv.ended c.in_ok-rec.ensures.ended;
    }
