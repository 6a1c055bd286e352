-- Groups that may follow at every moment at which the caller's rights agree.
use Rattle.std.proofs.Common.{◌≡◌, ℕ, ◌+◌, List, [], ◌++◌, Option, Some, None, Bool, true, false, refl, sym, ap, ◌∙◌, subst}
use Rattle.std.specs.Prelude.{◌<◌}
use Rattle.std.specs.List.{list_any}
use Rattle.std.specs.FinMap.{get}
use Rattle.std.proofs.lemmas.List.Folds.{list_any-append}
use mathlib.Core.List.{IsPrefix}
use Rattle.store_model.proofs.Bools.{or_left}
use Rattle.store_model.specs.Range.{point}
use Rattle.store_model.specs.declared.request.Request.{Request}
use Rattle.store_model.specs.declared.request.Request.TheVariants as requests
use Rattle.store_model.specs.declared.reply.Reply.{Reply}
use Rattle.store_model.specs.declared.reply.Reply.TheVariants as replies
use Rattle.books.specs.Rights.{SessionClaim}
use Rattle.front.proofs.Keeping.{prefix_trans}
use Rattle.wal_record.specs.State.{live, leaf_rows}
use Rattle.wal_record.specs.OpenWrites.{open_writes, is_loser}
use Rattle.wal_record.specs.Contents.{current}
use Rattle.wal_record.specs.Images.{image, IsLeafOf}
use Rattle.wal_record.specs.History.{life_log, is_owner}
use Rattle.wal_record.specs.Locks.{Held, taken_locks, locks, loser_locks, covers}
use Rattle.wal_record.specs.Books.{session_entries}
use Rattle.wal_record.specs.Legal.{IsLegal, IsAllowed, ReplyRule, FollowsSplit}
use Rattle.wal_record.specs.declared.page.PageState.{PageState}
use Rattle.wal_record.specs.declared.record.Record.{Record}
use Rattle.wal_record.specs.declared.record.Record.TheVariants as kinds
use Rattle.wal_record.specs.declared.entry.Entry.{Entry}
use Rattle.wal_record.specs.declared.entry.Entry.TheVariants.{Said}
use Rattle.wal_record.proofs.Along.{AllAlong_back}
use Rattle.wal_record.proofs.Pushes.{split_leaf_push}
use Rattle.tree_laws.proofs.Whole.{tree}
use Rattle.tree_laws.proofs.DescentLaws.{descent}
use Rattle.page_ops.specs.Hands.{Hand, IsInHand}
use Rattle.page_ops.specs.Claims.{Claims, SessionAgrees}
use Rattle.page_ops.specs.Seeing.{IsMoment}
use Rattle.page_ops.specs.Asking.{IsAskable}
use Rattle.page_ops.specs.declared.group.Group.{Group}
use Rattle.page_ops.proofs.Staying.{image_later}
use Rattle.group_laws.specs.Stays.{StaysAs}
use Rattle.group_laws.proofs.Quiet.{stays}
use Rattle.group_laws.proofs.Owners.{transaction}

abbrev pub page_and_session : Hand → SessionClaim → Claims
page_and_session hand s = record { a = Some (record { page = hand.page; lsn = hand.lsn }); b = None; c = None; s = Some s; m = None }

abbrev pub answer_alone : SessionClaim → Request → Reply → Group
answer_alone s request reply = record { recs = []; said = Some (record { session = s.session; tx = s.tx; request = request; reply = reply }); room = false; lsn = 0 }

-- what a caller knows that has a leaf in hand and an agreeing right to its session
pub record Ready (opens : List Record → Type 0) (seen : List Entry) (hand : Hand) (s : SessionClaim) : Type 0 where
  pub there : IsInHand opens hand
  pub begins : IsPrefix hand.pass.log seen
  pub agrees : SessionAgrees seen s
  pub active : 0 < s.tx

locks_are : (opening : List Record) (h : List Entry) (t : ℕ) → locks opening h t ≡ taken_locks h t ++ loser_locks (is_loser opening t) (open_writes (life_log opening h) t)
unfolding locks
locks_are opening h t = refl

module _ (opens : List Record → Type 0) (seen : List Entry) (hand : Hand) (s : SessionClaim) (ready : Ready opens seen hand s) (opening : List Record) (stands : opens opening) (h : List Entry) (moment : IsMoment opens seen (page_and_session hand s) h) where
  -- the leaf is as it is in hand
  pub is_image : image (life_log opening h) hand.page ≡ Some hand.state
  is_image = image_later opens hand h ready.there (prefix_trans _ _ _ ready.begins moment.begins) moment.rights.a opening stands

  pub stay : StaysAs opening seen h s.tx × (is_owner h s.session s.tx ≡ true)
  stay =
      let own = transaction seen s.session s.tx ready.agrees.tx ready.active in
      let more = moment.begins.0 in
      let same : session_entries (seen ++ more) s.session ≡ session_entries seen s.session = ap (λ (l : List Entry). session_entries l s.session) moment.begins.1 ∙ sym moment.rights.s.entries ∙ ready.agrees.entries in
      subst (λ (l : List Entry). StaysAs opening seen l s.tx × (is_owner l s.session s.tx ≡ true)) moment.begins.1
      (stays opening seen more s.session s.tx own.0 (subst (IsLegal opening) (sym moment.begins.1) (moment.consistent.legal opening stands)) same)

  pub lock_stays : (p : Held → Bool) → list_any p (taken_locks seen s.tx) ≡ true → list_any p (locks opening h s.tx) ≡ true
  lock_stays p is =
      ap (list_any p) (locks_are opening h s.tx) ∙ list_any-append p (taken_locks h s.tx) _ ∙ or_left (list_any p (taken_locks h s.tx)) _ (ap (list_any p) stay.0.locks ∙ is)

  pub value_is : (key : List ℕ) → IsLeafOf key hand.state → live (leaf_rows hand.state.rows) key ≡ get (current (life_log opening h)) key
  value_is key leaf =
      let log = life_log opening h in
      (descent _ _ _ (tree log (moment.consistent.sound opening stands).lawful (moment.consistent.some opening stands))).leaf hand.page hand.state is_image key leaf.own leaf.leaf

  pub get_follows : (key : List ℕ) → IsLeafOf key hand.state → list_any (covers (point key)) (taken_locks seen s.tx) ≡ true
      → IsAskable opening h (Some (record { page = hand.page; lsn = hand.lsn })) (answer_alone s (requests.Get key) (replies.Found (live (leaf_rows hand.state.rows) key)))
  get_follows key leaf locked =
      let e : Entry = Said s.session s.tx (requests.Get key) (replies.Found (live (leaf_rows hand.state.rows) key)) in
      let none = moment.consistent.told in
      let allowed : IsAllowed opening h e = record {
        split = subst (λ (x : Option PageState). FollowsSplit x e) (sym (moment.consistent.split opening stands)) tt;
        rule = record {
          owner = stay.1;
          answer = subst (λ (d : Option Record). ReplyRule d (current (life_log opening h)) (locks opening h s.tx) s.tx (requests.Get key) (replies.Found (live (leaf_rows hand.state.rows) key))) (sym none)
              (lock_stays (covers (point key)) locked, ap replies.Found (value_is key leaf));
        };
      } in
      record {
        leaf = (hand.state, is_image, leaf);
        follows = λ timely room numbers. record { new = 0; recs = []; filled = tt; legal = AllAlong_back _ h e (moment.consistent.legal opening stands) allowed; whole = split_leaf_push opening h e };
        declines = λ lacks. absurd (cc lacks.0);
      }
