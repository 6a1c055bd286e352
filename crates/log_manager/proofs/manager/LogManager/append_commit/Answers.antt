use Rattle.std.proofs.Common.{◌≡◌, ◌+◌, ◌++◌, ◌∷◌, [], subst, ap, ◌∙◌, sym, refl, arith, append-nil, length}
use Rattle.std.proofs.lemmas.List.Elements.{All-cons, All-nil}
use Rattle.log_blocks.specs.Batch.{Batched, numbered, with_group}
use Rattle.log_blocks.specs.LogState.{LogState}
use Rattle.wal_record.specs.Rules.{HasSpelling}
use Rattle.wal_record.specs.Spelling.{spelling}
use Rattle.wal_record.specs.declared.record.Record.{Record}
use Rattle.wal_record.specs.declared.record.Record.TheVariants as kinds
use Rattle.log_manager.specs.Groups.{HoldGroups}
use Rattle.log_manager.specs.Managed.{HasMore, IsCounted, Managed, with_batch}
use Rattle.log_manager.specs.Payload.{bytes_of}
use Rattle.log_manager.specs.Records.{IsLogOf}
use Rattle.log_manager.proofs.Counting.{counted_short, has_more}
use Rattle.log_manager.proofs.Grouping.{group_more}
use Rattle.log_manager.proofs.Logs.{grown}
use Rattle.log_manager.proofs.Taking.{length-commit}
use Rattle.log_manager.proofs.manager.LogManager.append_commit.Goals as goal

pub invariant_of-self : goal.invariant_of-self
invariant_of-self g c =
    let commit : Record = kinds.Commit (record { tx = c.args.tx; prev = c.args.prev }) in
    let batch = c.self.inside.batch in
    let counted = c.self.inside.counted in
    let bytes : c.as_slice.result.now ≡ spelling commit = c.as_slice.ensures ∙ c.commit_bytes.ensures in
    let spare = ap (λ (m : Managed _). m.spare) c.self.view_is in
    record {
      counted =
          subst (λ (b : Batched). IsCounted c.self.inside.log b.blocks b.spare (record { records = counted.records + 1; bytes = counted.bytes; checkpoint = counted.checkpoint })) (sym c.push_short.ensures)
          (counted_short c.self.inside.log batch.blocks c.as_slice.result.now batch.spare counted c.self.invariant.counted (omega (arith, spare, c.requires.spare)) (omega (arith, ap length bytes, length-commit c.args.tx c.args.prev)));
      last = c.self.invariant.last;
    }

pub returns-clause-added : goal.returns-clause-added
returns-clause-added g c =
    let commit : Record = kinds.Commit (record { tx = c.args.tx; prev = c.args.prev }) in
    let log = c.self.inside.log in
    let batch = c.self.inside.batch in
    let k = c.self.inside.counted.checkpoint in
    let bytes : bytes_of (commit ∷ []) ≡ c.as_slice.result.now = append-nil (spelling commit) ∙ sym (c.as_slice.ensures ∙ c.commit_bytes.ensures) in
    let blocks : with_group batch.blocks 1 k (bytes_of (commit ∷ [])) ≡ c.push_short.new.self.blocks = ap (with_group batch.blocks 1 k) bytes ∙ sym (ap (λ (b : Batched). b.blocks) c.push_short.ensures) in (
      subst (λ (l : LogState _). HasMore (commit ∷ []) l (with_batch log c.push_short.new.self.blocks)) (ap (λ (m : Managed _). m.log) c.self.view_is)
          (subst (λ bs. HasMore (commit ∷ []) (with_batch log batch.blocks) (with_batch log bs)) blocks (has_more log batch.blocks k (commit ∷ []))),
      omega (arith, ap (λ (b : Batched). b.spare) c.push_short.ensures, ap (λ (m : Managed _). m.spare) c.self.view_is, c.requires.spare),
    )

pub returns-clause-records : goal.returns-clause-records
returns-clause-records g c tells before s w h =
    let commit : Record = kinds.Commit (record { tx = c.args.tx; prev = c.args.prev }) in
    let log = c.self.inside.log in
    let batch = c.self.inside.batch in
    let counted = c.self.inside.counted in
    let k = counted.checkpoint in
    let inv = c.self.invariant.counted in
    let bytes : bytes_of (commit ∷ []) ≡ c.as_slice.result.now = append-nil (spelling commit) ∙ sym (c.as_slice.ensures ∙ c.commit_bytes.ensures) in
    let blocks : with_group batch.blocks 1 k (bytes_of (commit ∷ [])) ≡ c.push_short.new.self.blocks = ap (with_group batch.blocks 1 k) bytes ∙ sym (ap (λ (b : Batched). b.blocks) c.push_short.ensures) in
    let long : length (bytes_of (commit ∷ [])) ≡ 17 = ap length (append-nil (spelling commit)) ∙ length-commit c.args.tx c.args.prev in
    let spare = ap (λ (m : Managed _). m.spare) c.self.view_is in
    let places = inv.places (omega (arith, spare, c.requires.spare)) in
    subst (λ bs. IsLogOf g.L.Disk.told g.L.Disk.may_leave (with_batch log bs) before s (w ++ commit ∷ [])) blocks
    (grown g.L.Disk.told g.L.Disk.may_leave log batch.blocks batch.spare k counted before s w (commit ∷ []) inv (All-cons HasSpelling commit [] c.requires.spelled (All-nil HasSpelling))
    (omega arith) (omega arith) (omega (arith, long)) (omega (arith, long)) (omega (arith, places)) refl (omega (arith, inv.checkpoint))
    (subst (λ (l : LogState _). IsLogOf g.L.Disk.told g.L.Disk.may_leave l before s w) (sym (ap (λ (m : Managed _). m.log) c.self.view_is)) h))

pub returns-clause-whole : goal.returns-clause-whole
returns-clause-whole g c groups h =
    let commit : Record = kinds.Commit (record { tx = c.args.tx; prev = c.args.prev }) in
    let log = c.self.inside.log in
    let batch = c.self.inside.batch in
    let k = c.self.inside.counted.checkpoint in
    let view = ap (λ (m : Managed _). m.log) c.self.view_is in
    let blocks : with_group batch.blocks 1 k c.as_slice.result.now ≡ c.push_short.new.self.blocks = sym (ap (λ (b : Batched). b.blocks) c.push_short.ensures) in
    subst (λ bs. HoldGroups (log.pending ++ numbered log.next bs) (groups ++ (commit ∷ []) ∷ [])) blocks
    (group_more log.pending log.next batch.blocks groups (commit ∷ []) k c.as_slice.result.now (subst (λ (l : LogState _). HoldGroups l.pending groups) (sym view) h))
