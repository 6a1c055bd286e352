use Rattle.std.proofs.Common.{ap, ◌∙◌}
use Rattle.journal.proofs.Living.{kept_fused}
use Rattle.journal.proofs.Stopping.{fused_safe}
use Rattle.journal.proofs.Calls.{arms_since, blocks_is, calls_is, durable_same, ended_is, history_is}
use Rattle.journal.proofs.journal.Journal.fuse.Goals as goal

pub invariant_of-self : goal.invariant_of-self
invariant_of-self g c =
    let k = c.self.invariant.1 in
    let fuse = c.fuse.ensures in (
      c.self.invariant.0,
      kept_fused g.N.Life.opens g.L.Disk.tells g.L.Disk.told g.L.Disk.may_leave c.self.inside.history c.self.inside.log.log c.fuse.new.self.log c.self.inside.log.listing c.fuse.new.self.listing c.self.inside.locks c.self.inside.marked c.self.inside.faults.total k fuse.same (ap (λ x. x.log.spare) fuse.rest) (ap (λ x. x.log.log.places) fuse.rest) (ap (λ x. x.log.log.ended) fuse.rest),
      c.self.invariant.2,
      c.self.invariant.3,
      fused_safe g.N.Life.opens g.L.Disk.tells g.L.Disk.told g.L.Disk.may_leave c.self.inside.history c.self.inside.history c.self.inside.log.log c.fuse.new.self.log c.self.inside.log.listing k.life.records k.life.telling c.self.invariant.4 (ap (λ x. x.log.log) fuse.rest) fuse.kept,
      durable_same c.self.inside.log.log.log c.fuse.new.self.log.log c.self.invariant.5 (ap (λ x. x.log.log.places) fuse.rest) (ap (λ x. x.log.log.ended) fuse.rest),
    )

pub returns-clause-same : goal.returns-clause-same
returns-clause-same g c = (history_is _ _ c.self.view_is, ap (λ x. x.log.log.ended) c.fuse.ensures.rest ∙ ended_is _ _ c.self.view_is, ap (λ x. x.log.log.places) c.fuse.ensures.rest ∙ blocks_is _ _ c.self.view_is)

pub returns-clause-calls : goal.returns-clause-calls
returns-clause-calls g c = arms_since g.L.Disk.passes g.L.Disk.refused g.L.Disk.own _ _ _ (calls_is _ _ c.self.view_is) _ _ c.fuse.ensures.fuse
