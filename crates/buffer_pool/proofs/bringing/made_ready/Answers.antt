use Rattle.std.proofs.Common.{sym, ◌∙◌}
use Rattle.std.proofs.lemmas.Result.{err_from_is_err_and}
use Rattle.front.proofs.Keeping.{prefix_self, prefix_trans}
use Rattle.page_ops.proofs.Gaining.{upheld}
use Rattle.page_repair.proofs.Sparing.{spares_longer, spares_same}
use Rattle.page_repair.specs.Supplies.{is_restored}
use Rattle.buffer_pool.proofs.Coming.{was_written}
use Rattle.buffer_pool.proofs.Entering.{bring_behind, faults_self, looks, none_both, open_met, upheld_both}
use Rattle.buffer_pool.proofs.Serving.{agrees_of, head_made}
use Rattle.buffer_pool.proofs.bringing.made_ready.Goals as goal

pub returns-in_err-listed-clause-entered : goal.returns-in_err-listed-clause-entered
returns-in_err-listed-clause-entered g c = upheld _ _ _ is_restored _ _ _ _ c.listed.ensures.seen

pub returns-then-not-listed-clause-written : goal.returns-then-not-listed-clause-written
returns-then-not-listed-clause-written g c = was_written g.N.Life.opens _ _ _ c.args.page c.in_ok-listed.listed c.listed.ensures.seen.now.begins (prefix_self _) c.in_ok-listed.ensures.listed

pub returns-then-not-listed-clause-entered : goal.returns-then-not-listed-clause-entered
returns-then-not-listed-clause-entered g c = upheld _ _ _ is_restored _ _ _ _ c.listed.ensures.seen

pub ready-requires : goal.ready-requires
ready-requires g c = record {
  made = head_made g.N.Life.opens (record { page = c.args.page; lsn = c.args.lsn }) c.requires.range c.see.new.pass.log c.see.ensures.seen.now.consistent
      (agrees_of _ _ _ (record { page = c.args.page; lsn = c.args.lsn }) (c.see.ensures.same ∙ c.requires.right) c.see.ensures.seen.now.rights);
}

pub returns-in_err-ready-clause-entered : goal.returns-in_err-ready-clause-entered
returns-in_err-ready-clause-entered g c =
    upheld_both _ _ _ is_restored _ _ _ (upheld_both _ _ _ is_restored _ _ _ (upheld _ _ _ is_restored _ _ _ _ c.listed.ensures.seen) (looks _ _ _ is_restored _ _ _ _ _ _ c.see.ensures.seen)) c.ready.ensures.entered

pub returns-in_err-ready-clause-refused : goal.returns-in_err-ready-clause-refused
returns-in_err-ready-clause-refused g c =
    let p = err_from_is_err_and c.from_residual-in_err-ready.result c.from_residual-in_err-ready.ensures.1 in
    rw (p.1, p.2) (bring_behind _ _ _ _ _ is_restored _ _ (upheld_both _ _ _ is_restored _ _ _ (upheld _ _ _ is_restored _ _ _ _ c.listed.ensures.seen) (looks _ _ _ is_restored _ _ _ _ _ _ c.see.ensures.seen))
    (none_both _ _ _ (open_met (g.J.Entering.account c.args.journal.now) (g.J.Entering.account c.listed.new.self) c.in_ok-listed.ensures.ends) c.see.ensures.calm.end) _ _ _ _ _ _ (faults_self _) c.in_err-ready.ensures.refused)

pub returns-clause-written : goal.returns-clause-written
returns-clause-written g c =
    let u = c.ready.ensures.entered in
    was_written g.N.Life.opens _ _ _ c.args.page c.in_ok-listed.listed c.listed.ensures.seen.now.begins (prefix_trans _ _ _ c.see.ensures.seen.now.begins (u.gained, sym u.is)) c.in_ok-listed.ensures.listed

pub returns-clause-entered : goal.returns-clause-entered
returns-clause-entered g c =
    upheld_both _ _ _ is_restored _ _ _ (upheld_both _ _ _ is_restored _ _ _ (upheld _ _ _ is_restored _ _ _ _ c.listed.ensures.seen) (looks _ _ _ is_restored _ _ _ _ _ _ c.see.ensures.seen)) c.ready.ensures.entered

pub returns-in_err-listed-clause-spared : goal.returns-in_err-listed-clause-spared
returns-in_err-listed-clause-spared g c = λ t. spares_same g.N.Life.opens c.args.page g.I.Images.newest _ _ c.args.images.now

pub returns-then-not-listed-clause-spared : goal.returns-then-not-listed-clause-spared
returns-then-not-listed-clause-spared g c = λ t. spares_same g.N.Life.opens c.args.page g.I.Images.newest _ _ c.args.images.now

pub returns-in_err-ready-clause-spared : goal.returns-in_err-ready-clause-spared
returns-in_err-ready-clause-spared g c = λ t.
    spares_longer g.N.Life.opens c.args.page g.I.Images.newest _ _ _ _ c.args.images.now c.ready.new.images (prefix_trans _ _ _ c.listed.ensures.seen.now.begins c.see.ensures.seen.now.begins) (prefix_self _) (c.ready.ensures.spared t)

pub returns-clause-spared : goal.returns-clause-spared
returns-clause-spared g c = λ t.
    spares_longer g.N.Life.opens c.args.page g.I.Images.newest _ _ _ _ c.args.images.now c.ready.new.images (prefix_trans _ _ _ c.listed.ensures.seen.now.begins c.see.ensures.seen.now.begins) (prefix_self _) (c.ready.ensures.spared t)
