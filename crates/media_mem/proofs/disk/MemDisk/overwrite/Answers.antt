use Rattle.std.proofs.Common.{rules, ◌≡◌, ◌≤◌, ◌<◌, ◌+◌, ◌-◌, ◌++◌, ◌∷◌, [], List, ℕ, length, take, drop, sym, ◌∙◌, ap, subst, arith, length-append, length-take, length-drop}
use Rattle.media_mem.specs.History.{IsKept}
use Rattle.media_mem.specs.Reach.{MemSeen}
use Rattle.media_mem.proofs.Replaying.{kept_more}
use Rattle.media_mem.proofs.disk.MemDisk.overwrite.Goals as goal

pub invariant_of-self-2 : goal.invariant_of-self-2
invariant_of-self-2 c =
    let v = c.self.view_is in
    let k = c.self.invariant in
    let start = c.self.inside.content.start in
    let at = c.args.at in
    let bytes = c.args.bytes.now in
    let now = c.self.inside.content.bytes.items in
    let base = c.self.inside.past.seen.base in
    let writes = c.self.inside.content.writes.items in
    let copied : c.in_ok-copy.copy.items ≡ bytes = search rules in
    let now_was = c.in_ok-reserve.ensures.items in
    let st = ap (λ (m : MemSeen). m.start) v in
    let from : start ≤ at = omega (arith, st, c.requires.not_before) in
    let le : at - start ≤ length now = omega (arith, st, c.requires.not_past, ap (λ (m : MemSeen). length m.now) v) in
    let made = c.put_over.ensures.bytes ∙ ap (λ (l : List ℕ). take (at - start) l ++ bytes ++ drop (at - start + length bytes) l) now_was in
    let size : start + length c.put_over.new.bytes.items < 9223372036854775808 =
    omega (arith, ap length made, length-append (take (at - start) now ++ bytes) (drop (at - start + length bytes) now), length-append (take (at - start) now) bytes, length-take (at - start) now, length-drop (at - start + length bytes) now, le, from, k.size, c.requires.fits) in
    let ws = c.in_ok-add.ensures.ok ∙ ap (λ (l : List ℕ). writes ++ (record { at = at; bytes = l }) ∷ []) copied in
    subst (IsKept start base c.put_over.new.bytes.items) (sym ws) (kept_more start base now c.put_over.new.bytes.items bytes writes at k from le made size)
