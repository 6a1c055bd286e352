-- Behind an adoption the path to the page from which the descent goes on is tidy.
use Rattle.std.proofs.Common.{◌≡◌, ℕ, ◌≤◌, Bool, true, false, cond, List, [], ◌∷◌, ◌++◌, Some, refl, sym, ap, subst, ◌∙◌}
use Rattle.std.specs.Prelude.{if◌then◌else◌}
use Rattle.front.specs.Seen.{PassSeen}
use Rattle.wal_record.specs.State.{KeepsState, KeepsRows, branch_rows, has_within, own_part}
use Rattle.wal_record.specs.History.{life_log}
use Rattle.wal_record.specs.Images.{image}
use Rattle.wal_record.specs.Sound.{AreLawful}
use Rattle.wal_record.specs.declared.page.PageState.{PageState}
use Rattle.wal_record.specs.declared.page.Foster.{Foster}
use Rattle.wal_record.specs.declared.page.Rows.TheVariants.{Branch}
use Rattle.wal_record.specs.declared.record.Adopt.{Adopt}
use Rattle.wal_record.specs.declared.record.Record.{Record}
use Rattle.wal_record.specs.declared.record.Record.TheVariants as kinds
use Rattle.wal_record.specs.declared.entry.Entry.{Entry}
use Rattle.wal_record.specs.declared.entry.Entry.TheVariants.{Rec}
use Rattle.wal_record.proofs.Pushes.{lawful_front}
use Rattle.foster_laws.specs.Enters.{AdoptEntered}
use Rattle.foster_laws.specs.Paths.{TidyTo}
use Rattle.foster_laws.proofs.Entering.{adopt_enters}
use Rattle.foster_laws.proofs.PathRecords.{path_adopt_law}
use Rattle.page_ops.specs.Claims.{Claims, no_claims}
use Rattle.page_ops.specs.Hands.{Hand}
use Rattle.page_ops.specs.Names.{LedgerName}
use Rattle.page_ops.specs.Seeing.{Account, Enters, Upholds, is_upkeep, known}
use Rattle.page_ops.proofs.Gaining.{goes_of, goes_self}
use Rattle.page_ops.proofs.Staying.{longer_log}
use Rattle.smo.specs.Settled.{IsSettled}
use Rattle.foster_tree.specs.Nows.{IsNow}
use Rattle.foster_tree.specs.Ways.{IsToChild}
use Rattle.adoption.specs.Adoptions.{Leads, adopt_of, with_row_for, without_child}
use Rattle.adoption.specs.Descents.{IsAlone, keeps_up}
use Rattle.adoption.proofs.Alone.{alone_then, own_alone, same_images, tidy_looked}
use Rattle.adoption.proofs.Composing.{upheld_one}
use Rattle.adoption.proofs.TidySteps.{goes_on_adopted}

pub above_leaves : (s : PageState) → KeepsState s → s.rows ≡ Branch (branch_rows s.rows) → 1 ≤ s.level
above_leaves s keeps branch = let rules : KeepsRows s.level (own_part s) (Branch (branch_rows s.rows)) = subst (KeepsRows s.level (own_part s)) branch keeps.rows in rules.0

module _ (opens : List Record → Type 0) (ledger sessions : LedgerName) (key : List ℕ) (parent fosterer : Hand) (f : Foster) (keeps : KeepsState parent.state) (way : IsToChild key parent.state fosterer.page) (leads : Leads parent.state fosterer.page fosterer.state)
    (foster : fosterer.state.foster ≡ Some f) (a0 a1 a2 : Account) (s0 s1 s2 : PassSeen Entry) (now : IsNow opens s0.log parent) (u : Upholds opens ledger sessions is_upkeep (known a0 s0 no_claims) (known a1 s1 no_claims)) (now' : IsNow opens s1.log fosterer)
    (x y : Claims) (lsn prev prev' : ℕ) (n : Enters opens ledger sessions (known a1 s1 x) (Rec lsn (kinds.Adopt (adopt_of parent.page prev fosterer.page prev' f)) ∷ []) (known a2 s2 y))
    (only : IsAlone ledger (known a0 s0 no_claims)) (opening : List Record) (stands : opens opening) (tidy : TidyTo (life_log opening s0.log) key parent.page) where
  abbrev a : Adopt
  a = adopt_of parent.page prev fosterer.page prev' f

  only_then : IsAlone ledger (known a1 s1 no_claims)
  only_then = alone_then ledger is_upkeep (known a0 s0 no_claims) (known a1 s1 no_claims) only (goes_of is_upkeep opens ledger sessions (known a0 s0 no_claims) (known a1 s1 no_claims) u)

  abbrev more : Upholds opens ledger sessions keeps_up (known a1 s1 no_claims) (known a2 s2 no_claims)
  more = upheld_one opens ledger sessions keeps_up (Rec lsn (kinds.Adopt a)) a1 a2 s1 s2 x y refl (λ h. refl) n

  log_is : life_log opening s2.log ≡ life_log opening s1.log ++ kinds.Adopt a ∷ []
  log_is = ap (life_log opening) (own_alone ledger keeps_up (known a1 s1 no_claims) (known a1 s1 no_claims) only_then (goes_self keeps_up a1 s1 no_claims) opens sessions keeps_up (known a2 s2 no_claims) more) ∙ longer_log opening s1.log (Rec lsn (kinds.Adopt a) ∷ [])

  tidy_seen : TidyTo (life_log opening s1.log) key parent.page
  tidy_seen = tidy_looked opens ledger sessions is_upkeep (known a0 s0 no_claims) (known a0 s0 no_claims) (known a1 s1 no_claims) only (goes_self is_upkeep a0 s0 no_claims) u opening key parent.page parent.state (now.image opening stands) tidy

  parent_seen : image (life_log opening s1.log) parent.page ≡ Some parent.state
  parent_seen = same_images opens ledger sessions is_upkeep (known a0 s0 no_claims) (known a0 s0 no_claims) (known a1 s1 no_claims) only (goes_self is_upkeep a0 s0 no_claims) u opening parent.page ∙ now.image opening stands

  entered : AdoptEntered (life_log opening s1.log) a parent.state fosterer.state
  entered =
      let lawful = lawful_front (life_log opening s1.log) (kinds.Adopt a) (subst AreLawful log_is (n.now.consistent.sound opening stands).lawful) in
      (adopt_enters (life_log opening s1.log) a parent.state fosterer.state leads.slot).entered lawful.0 (u.consistent.some opening stands)
      (record { parent = parent_seen; fosterer = now'.image opening stands; branch = way.branch; foster = foster; slot = leads.pointer }) lawful.1

  parent_tidy : TidyTo (life_log opening s2.log) key parent.page
  parent_tidy =
      subst (λ (l : List Record). TidyTo l key parent.page) (sym log_is)
      ((path_adopt_law (life_log opening s1.log) key a parent.state fosterer.state leads.slot).tidy (u.consistent.sound opening stands).lawful (u.consistent.some opening stands) parent_seen (now'.image opening stands) (above_leaves parent.state keeps way.branch) leads.pointer entered tidy_seen)

  fosterer_tidy : has_within (without_child f fosterer.state) key ≡ true → TidyTo (life_log opening s2.log) key fosterer.page
  fosterer_tidy within =
      goes_on_adopted (life_log opening s2.log) key parent.page fosterer.page parent.state fosterer.state f way within
      (ap (λ (l : List Record). image l parent.page) log_is ∙ entered.parent) parent_tidy (ap (λ (l : List Record). image l fosterer.page) log_is ∙ entered.fosterer)

  -- the page from which the descent goes on
  pub nearer_tidy : (parent' fosterer' next : Hand) → IsSettled (with_row_for f parent.state) s2 parent parent' → IsSettled (without_child f fosterer.state) s2 fosterer fosterer' → next ≡ (if has_within fosterer'.state key then fosterer' else parent') → TidyTo (life_log opening s2.log) key next.page
  nearer_tidy parent' fosterer' next p t is = by (has_within fosterer'.state key) refl is
    where
      by : (b : Bool) → has_within fosterer'.state key ≡ b → next ≡ cond b fosterer' parent' → TidyTo (life_log opening s2.log) key next.page
      by true e is =
          let page : next.page ≡ fosterer.page = ap (λ (h : Hand). h.page) is ∙ t.page in
          subst (λ (q : ℕ). TidyTo (life_log opening s2.log) key q) (sym page) (fosterer_tidy (ap (λ (w : PageState). has_within w key) (sym t.state) ∙ e))
      by false e is = let page : next.page ≡ parent.page = ap (λ (h : Hand). h.page) is ∙ p.page in subst (λ (q : ℕ). TidyTo (life_log opening s2.log) key q) (sym page) parent_tidy

-- the key lies between its fence keys
pub nearer_within : (key : List ℕ) (s t : PageState) (f : Foster) (seen : PassSeen Entry) (parent parent' fosterer fosterer' next : Hand) → has_within s key ≡ true → IsSettled (with_row_for f s) seen parent parent'
    → next ≡ (if has_within fosterer'.state key then fosterer' else parent') → has_within next.state key ≡ true
nearer_within key s t f seen parent parent' fosterer fosterer' next within p is = by (has_within fosterer'.state key) refl is
  where
    by : (b : Bool) → has_within fosterer'.state key ≡ b → next ≡ cond b fosterer' parent' → has_within next.state key ≡ true
    by true e is = ap (λ (h : Hand). has_within h.state key) is ∙ e
    by false e is = ap (λ (h : Hand). has_within h.state key) is ∙ ap (λ (w : PageState). has_within w key) p.state ∙ within
