use Rattle.std.proofs.Common.{ℕ, List, Ok, ap, refl, subst, ◌∙◌}
use Rattle.front.proofs.Keeping.{prefix_trans}
use Rattle.store_model.specs.declared.reply.Reply.TheVariants as replies
use Rattle.store_model.specs.declared.request.Request.TheVariants as requests
use Rattle.wal_record.specs.Images.{IsLeafOf}
use Rattle.engine.specs.Requests.{lock_of}
use Rattle.engine.specs.Saying.{Says}
use Rattle.engine.proofs.Behind.{begins_seen, completes_err, completes_ok, live_kept, live_ok, lost, made_of, may_get, refused_err, said_ok}
use Rattle.engine.proofs.getting.get_locked.Goals as goal

pub find_leaf-requires-clause-made : goal.find_leaf-requires-clause-made
find_leaf-requires-clause-made g c =
    made_of g.N.Life.opens c.args.pass.now.log (lock_of (requests.Get c.args.key.now)) c.args.owner.now c.requires.locked

pub returns-in-Err-clause-answers : goal.returns-in-Err-clause-answers
returns-in-Err-clause-answers g c =
    lost g.N.Life.opens g.N.Life.entries g.N.Life.session_entries g.N.Life.log_faults g.N.Life.made (requests.Get c.args.key.now) (lock_of (requests.Get c.args.key.now)) c.args.pass.now.log c.args.owner.now c.requires.locked (g.P.Pages.desk c.args.pages.now) (g.P.Pages.desk c.find_leaf.new.pages) (g.J.Entering.account c.args.journal.now) (g.J.Entering.account c.find_leaf.new.journal) c.args.pass.now c.find_leaf.new.pass c.find_leaf.ensures.entered c.find_leaf.ensures.desk.faults c.in-Err.fault c.in-Err.ensures.refused

pub returns-in-Err-clause-live : goal.returns-in-Err-clause-live
returns-in-Err-clause-live g c =
    live_kept g.N.Life.opens c.args.pass.now.log c.find_leaf.new.pass.log (lock_of (requests.Get c.args.key.now)) c.args.owner.now c.args.owner.now c.requires.locked c.find_leaf.ensures.begins refl

pub say-said-requires-clause-may : goal.say-said-requires-clause-may
say-said-requires-clause-may g c =
    may_get g.N.Life.opens c.args.pass.now.log c.find_leaf.new.pass.log c.see_owner.new.pass.log c.args.key.now c.copied.result c.args.owner.now c.see_owner.new.owner c.in-Ok.leaf _ c.lookup-value.result c.requires.locked c.see_owner.ensures.same c.find_leaf.ensures.begins c.see_owner.ensures.seen.now.begins c.see_owner.ensures.seen.now.consistent c.see_owner.ensures.seen.now.rights.s c.leaf.view_is c.leaf.invariant c.in-Ok.ensures.now (subst (λ (k : List ℕ). IsLeafOf k c.in-Ok.leaf.state) c.as_bytes.ensures.value c.in-Ok.ensures.leaf) c.lookup-value.ensures c.copied.ensures

pub returns-in-Ok-said-clause-answers : goal.returns-in-Ok-said-clause-answers
returns-in-Ok-said-clause-answers g c =
    let says = subst (λ (k : List ℕ). Says g.N.Life.opens g.N.Life.entries g.N.Life.session_entries c.say-said.result (requests.Get k) (Ok (replies.Found c.lookup-value.result)) c.in-Ok.leaf c.see_owner.new.owner c.say-said.new.owner (g.J.Entering.account c.see_owner.new.journal) (g.J.Entering.account c.say-said.new.journal) c.see_owner.new.pass c.say-said.new.pass) c.copied.ensures c.say-said.ensures.says in
    completes_ok g.N.Life.opens g.N.Life.entries g.N.Life.session_entries g.N.Life.log_faults g.N.Life.made (requests.Get c.args.key.now) (lock_of (requests.Get c.args.key.now)) c.args.pass.now.log c.args.owner.now c.requires.locked (g.P.Pages.desk c.args.pages.now) (g.P.Pages.desk c.find_leaf.new.pages) (g.J.Entering.account c.args.journal.now) (g.J.Entering.account c.find_leaf.new.journal) c.args.pass.now c.find_leaf.new.pass c.find_leaf.ensures.entered c.find_leaf.ensures.desk.faults (g.J.Entering.account c.see_owner.new.journal) c.see_owner.new.pass _ _ c.see_owner.ensures.seen c.see_owner.new.owner c.see_owner.ensures.same (Ok (replies.Found c.lookup-value.result)) c.in-Ok.leaf says.claims c.say-said.result (g.P.Pages.desk c.put_back.new.self) (g.J.Entering.account c.say-said.new.journal) c.say-said.new.pass c.put_back.ensures.out says.entered c.in-Ok-said.pos c.in-Ok-said.is (replies.Found c.lookup-value.result) (replies.Found c.copy_of.result) refl (ap replies.Found c.copy_of.ensures)

pub returns-in-Ok-said-clause-said : goal.returns-in-Ok-said-clause-said
returns-in-Ok-said-clause-said g c =
    let says = subst (λ (k : List ℕ). Says g.N.Life.opens g.N.Life.entries g.N.Life.session_entries c.say-said.result (requests.Get k) (Ok (replies.Found c.lookup-value.result)) c.in-Ok.leaf c.see_owner.new.owner c.say-said.new.owner (g.J.Entering.account c.see_owner.new.journal) (g.J.Entering.account c.say-said.new.journal) c.see_owner.new.pass c.say-said.new.pass) c.copied.ensures c.say-said.ensures.says in
    said_ok g.N.Life.opens g.N.Life.entries g.N.Life.session_entries g.N.Life.log_faults g.N.Life.made (requests.Get c.args.key.now) (lock_of (requests.Get c.args.key.now)) c.args.pass.now.log c.args.owner.now c.requires.locked (g.P.Pages.desk c.args.pages.now) (g.P.Pages.desk c.find_leaf.new.pages) (g.J.Entering.account c.args.journal.now) (g.J.Entering.account c.find_leaf.new.journal) c.args.pass.now c.find_leaf.new.pass c.find_leaf.ensures.entered c.find_leaf.ensures.desk.faults (g.J.Entering.account c.see_owner.new.journal) c.see_owner.new.pass _ _ c.see_owner.ensures.seen c.see_owner.new.owner c.see_owner.ensures.same (Ok (replies.Found c.lookup-value.result)) c.in-Ok.leaf says.claims c.say-said.result (g.P.Pages.desk c.put_back.new.self) (g.J.Entering.account c.say-said.new.journal) c.say-said.new.pass c.put_back.ensures.out says.entered c.in-Ok-said.pos c.in-Ok-said.is (replies.Found c.lookup-value.result) (replies.Found c.copy_of.result) refl (ap replies.Found c.copy_of.ensures) c.in-Ok-said.ensures.place

pub returns-in-Ok-said-clause-live : goal.returns-in-Ok-said-clause-live
returns-in-Ok-said-clause-live g c =
    let says = subst (λ (k : List ℕ). Says g.N.Life.opens g.N.Life.entries g.N.Life.session_entries c.say-said.result (requests.Get k) (Ok (replies.Found c.lookup-value.result)) c.in-Ok.leaf c.see_owner.new.owner c.say-said.new.owner (g.J.Entering.account c.see_owner.new.journal) (g.J.Entering.account c.say-said.new.journal) c.see_owner.new.pass c.say-said.new.pass) c.copied.ensures c.say-said.ensures.says in
    live_ok g.N.Life.opens g.N.Life.entries g.N.Life.session_entries g.N.Life.log_faults g.N.Life.made (requests.Get c.args.key.now) (lock_of (requests.Get c.args.key.now)) c.args.pass.now.log c.args.owner.now c.requires.locked (g.P.Pages.desk c.args.pages.now) (g.P.Pages.desk c.find_leaf.new.pages) (g.J.Entering.account c.args.journal.now) (g.J.Entering.account c.find_leaf.new.journal) c.args.pass.now c.find_leaf.new.pass c.find_leaf.ensures.entered c.find_leaf.ensures.desk.faults (g.J.Entering.account c.see_owner.new.journal) c.see_owner.new.pass _ _ c.see_owner.ensures.seen c.see_owner.new.owner c.see_owner.ensures.same (Ok (replies.Found c.lookup-value.result)) c.in-Ok.leaf says.claims c.say-said.result (g.P.Pages.desk c.put_back.new.self) (g.J.Entering.account c.say-said.new.journal) c.say-said.new.pass c.put_back.ensures.out says.entered c.in-Ok-said.pos c.in-Ok-said.is (replies.Found c.lookup-value.result) (replies.Found c.copy_of.result) refl (ap replies.Found c.copy_of.ensures) c.say-said.new.owner says.session c.say-said.ensures.holder.tx refl

pub returns-in-Err-said-clause-answers : goal.returns-in-Err-said-clause-answers
returns-in-Err-said-clause-answers g c =
    let says = subst (λ (k : List ℕ). Says g.N.Life.opens g.N.Life.entries g.N.Life.session_entries c.say-said.result (requests.Get k) (Ok (replies.Found c.lookup-value.result)) c.in-Ok.leaf c.see_owner.new.owner c.say-said.new.owner (g.J.Entering.account c.see_owner.new.journal) (g.J.Entering.account c.say-said.new.journal) c.see_owner.new.pass c.say-said.new.pass) c.copied.ensures c.say-said.ensures.says in
    completes_err g.N.Life.opens g.N.Life.entries g.N.Life.session_entries g.N.Life.log_faults g.N.Life.made (requests.Get c.args.key.now) (lock_of (requests.Get c.args.key.now)) c.args.pass.now.log c.args.owner.now c.requires.locked (g.P.Pages.desk c.args.pages.now) (g.P.Pages.desk c.find_leaf.new.pages) (g.J.Entering.account c.args.journal.now) (g.J.Entering.account c.find_leaf.new.journal) c.args.pass.now c.find_leaf.new.pass c.find_leaf.ensures.entered c.find_leaf.ensures.desk.faults (g.J.Entering.account c.see_owner.new.journal) c.see_owner.new.pass _ _ c.see_owner.ensures.seen c.see_owner.new.owner c.see_owner.ensures.same (Ok (replies.Found c.lookup-value.result)) c.in-Ok.leaf says.claims c.say-said.result (g.P.Pages.desk c.put_back.new.self) (g.J.Entering.account c.say-said.new.journal) c.say-said.new.pass c.put_back.ensures.out says.entered c.in-Err-said.fault c.in-Err-said.is c.in-Err-said.ensures.refused

pub returns-in-Err-said-clause-live : goal.returns-in-Err-said-clause-live
returns-in-Err-said-clause-live g c =
    live_kept g.N.Life.opens c.args.pass.now.log c.say-said.new.pass.log (lock_of (requests.Get c.args.key.now)) c.args.owner.now c.say-said.new.owner c.requires.locked (prefix_trans _ _ _ (begins_seen g.N.Life.opens g.N.Life.entries g.N.Life.session_entries g.N.Life.log_faults g.N.Life.made (requests.Get c.args.key.now) (lock_of (requests.Get c.args.key.now)) c.args.pass.now.log c.args.owner.now c.requires.locked (g.P.Pages.desk c.args.pages.now) (g.P.Pages.desk c.find_leaf.new.pages) (g.J.Entering.account c.args.journal.now) (g.J.Entering.account c.find_leaf.new.journal) c.args.pass.now c.find_leaf.new.pass c.find_leaf.ensures.entered c.find_leaf.ensures.desk.faults (g.J.Entering.account c.see_owner.new.journal) c.see_owner.new.pass _ _ c.see_owner.ensures.seen) c.say-said.ensures.says.entered.now.begins) (c.in-Err-said.ensures.holder.same ∙ c.see_owner.ensures.same)

pub returns-in-Err-said-clause-refused : goal.returns-in-Err-said-clause-refused
returns-in-Err-said-clause-refused g c =
    let says = subst (λ (k : List ℕ). Says g.N.Life.opens g.N.Life.entries g.N.Life.session_entries c.say-said.result (requests.Get k) (Ok (replies.Found c.lookup-value.result)) c.in-Ok.leaf c.see_owner.new.owner c.say-said.new.owner (g.J.Entering.account c.see_owner.new.journal) (g.J.Entering.account c.say-said.new.journal) c.see_owner.new.pass c.say-said.new.pass) c.copied.ensures c.say-said.ensures.says in
    refused_err g.N.Life.opens g.N.Life.entries g.N.Life.session_entries g.N.Life.log_faults g.N.Life.made (requests.Get c.args.key.now) (lock_of (requests.Get c.args.key.now)) c.args.pass.now.log c.args.owner.now c.requires.locked (g.P.Pages.desk c.args.pages.now) (g.P.Pages.desk c.find_leaf.new.pages) (g.J.Entering.account c.args.journal.now) (g.J.Entering.account c.find_leaf.new.journal) c.args.pass.now c.find_leaf.new.pass c.find_leaf.ensures.entered c.find_leaf.ensures.desk.faults (g.J.Entering.account c.see_owner.new.journal) c.see_owner.new.pass _ _ c.see_owner.ensures.seen c.see_owner.new.owner c.see_owner.ensures.same (Ok (replies.Found c.lookup-value.result)) c.in-Ok.leaf says.claims c.say-said.result (g.P.Pages.desk c.put_back.new.self) (g.J.Entering.account c.say-said.new.journal) c.say-said.new.pass c.put_back.ensures.out says.entered c.in-Ok.ensures.open c.see_owner.ensures.calm.end c.say-said.ensures.refused c.say-said.ensures.ends c.in-Err-said.fault c.in-Err-said.is
