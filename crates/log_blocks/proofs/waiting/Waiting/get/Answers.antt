use Rattle.std.proofs.Common.{◌≡◌, ◌-◌, ◌<◌, [], List, ap, sym, ◌∙◌, arith, get_or, length, length-append}
use Rattle.std.proofs.lemmas.List.{get_or_read}
use Rattle.std.proofs.Math.ListN.{get_or-append}
use Rattle.std.proofs.Math.Seq.{get_or-append_right}
use Rattle.log_blocks.specs.Log.{Block}
use Rattle.log_blocks.specs.Waiting.{all_in}
use Rattle.log_blocks.proofs.Nodes.{length-all, node_at, one_at}
use Rattle.log_blocks.proofs.waiting.Waiting.get.Goals as goal

pub nth-requires : goal.nth-requires
nth-requires c =
    let s = c.self.inside.settled in
    let lt : c.args.i < length s.items = omega (arith, c.len-settled.ensures, s.ok.0, c.if-i-settled.true) in
    let is : c.index.result.now ≡ get_or s.items c.args.i [] = get_or_read s.items c.args.i c.index.result.now lt c.index.ensures [] in
    omega (arith, ap (λ (l : List Block). length l) is, one_at s.items c.args.i c.self.invariant.nodes lt)

pub returns-then-i-settled : goal.returns-then-i-settled
returns-then-i-settled c =
    let s = c.self.inside.settled in
    let i = c.args.i in
    let d = c.nth.result.now in
    let lt : i < length s.items = omega (arith, c.len-settled.ensures, s.ok.0, c.if-i-settled.true) in
    let is : c.index.result.now ≡ get_or s.items i [] = get_or_read s.items i c.index.result.now lt c.index.ensures [] in
    c.nth.ensures ∙ ap (λ (l : List Block). get_or l 0 d) is ∙ sym (node_at s.items i d c.self.invariant.nodes lt)
    ∙ sym (get_or-append (all_in s.items) c.self.inside.recent d i (omega (arith, lt, length-all s.items c.self.invariant.nodes)))
    ∙ ap (λ (l : List Block). get_or l i d) c.self.view_is

pub nth-requires-2 : goal.nth-requires-2
nth-requires-2 c =
    let s = c.self.inside.settled in
    omega (arith, c.requires, c.if-i-settled.false, c.len-settled.ensures, s.ok.0, length-all s.items c.self.invariant.nodes, length-append (all_in s.items) c.self.inside.recent, ap (λ (l : List Block). length l) c.self.view_is)

pub returns : goal.returns
returns c =
    let s = c.self.inside.settled in
    let i = c.args.i in
    let d = c.nth-2.result.now in
    let count : length (all_in s.items) ≡ c.len-settled.result = omega (arith, c.len-settled.ensures, s.ok.0, length-all s.items c.self.invariant.nodes) in
    c.nth-2.ensures ∙ ap (λ n. get_or c.self.inside.recent (i - n) d) (sym count) ∙ sym (get_or-append_right (all_in s.items) c.self.inside.recent i d (omega (arith, count, c.if-i-settled.false)))
    ∙ ap (λ (l : List Block). get_or l i d) c.self.view_is
