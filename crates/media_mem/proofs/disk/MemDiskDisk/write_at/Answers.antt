use Rattle.std.proofs.Common.{ap, length, ◌∙◌, ◌++◌, ◌∷◌, []}
use Rattle.media_mem.specs.Reach.{MemSeen}
use Rattle.media_mem.proofs.Reaching.{writes_crash, writes_more, elapses_write}
use Rattle.media_mem.proofs.disk.MemDiskDisk.write_at.Goals as goal

pub returns-in-Ok-clause-crash : goal.returns-in-Ok-clause-crash
returns-in-Ok-clause-crash c =
    let e = c.in-Ok.ensures.ok in
    let same = c.in_ok-call.ensures.ok in
    writes_crash c.args.self.now c.overwrite.new.self c.args.at (length c.args.bytes.now) (ap (λ (m : MemSeen). m.start) e ∙ ap (λ (m : MemSeen). m.start) same)
    (ap (λ (m : MemSeen). m.base) e ∙ ap (λ (m : MemSeen). m.base) same) (ap (λ (m : MemSeen). m.writes) e ∙ ap (λ (m : MemSeen). m.writes ++ (record { at = c.args.at; size = length c.args.bytes.now }) ∷ []) same)

pub returns-in-Ok-clause-time : goal.returns-in-Ok-clause-time
returns-in-Ok-clause-time c =
    let e = c.in-Ok.ensures.ok in
    let same = c.in_ok-call.ensures.ok in
    elapses_write c.args.self.now c.overwrite.new.self (ap (λ (m : MemSeen). m.past) e ∙ ap (λ (m : MemSeen). m.past) same)
    (writes_more c.args.self.now c.overwrite.new.self c.args.at (length c.args.bytes.now) (ap (λ (m : MemSeen). m.start) e ∙ ap (λ (m : MemSeen). m.start) same)
    (ap (λ (m : MemSeen). m.base) e ∙ ap (λ (m : MemSeen). m.base) same) (ap (λ (m : MemSeen). m.writes) e ∙ ap (λ (m : MemSeen). m.writes ++ (record { at = c.args.at; size = length c.args.bytes.now }) ∷ []) same))
