-- What is so of the record of a change, of whichever kind it is.
use Rattle.std.proofs.Common.{◌≡◌, ◌≢◌, ℕ, List, [], ◌∷◌, Option, Some, None, Bool, true, false, refl, sym, ap, subst, ◌∙◌}
use Rattle.std.specs.Prelude.{IsSome, IfSome, is_some, ◌||◌, ◌&&◌}
use Rattle.books.specs.Rights.{SessionClaim}
use Rattle.front.proofs.Keeping.{prefix_self}
use Rattle.store_model.specs.Operator.{meaning}
use Rattle.store_model.proofs.Bools.{not_both}
use Rattle.wal_record.specs.Chains.{link_of, names}
use Rattle.wal_record.specs.Checkpoints.{is_checkpoint}
use Rattle.wal_record.specs.History.{Live, life_log, phase}
use Rattle.wal_record.specs.Legal.{IsLegal}
use Rattle.wal_record.specs.Images.{applied, image, with_value}
use Rattle.wal_record.specs.OpenWrites.{is_loser, open_writes}
use Rattle.wal_record.specs.Rules.{is_number, is_page}
use Rattle.wal_record.specs.Sound.{AreLawful, IsLawful, TakesBack, UndoRule}
use Rattle.wal_record.specs.declared.page.PageState.{PageState}
use Rattle.wal_record.specs.declared.record.Undo.{Undo}
use Rattle.wal_record.specs.declared.record.Record.{Record}
use Rattle.wal_record.specs.declared.record.Record.TheVariants as kinds
use Rattle.wal_record.specs.declared.entry.Entry.{Entry}
use Rattle.log_laws.proofs.Central.{eqb_self}
use Rattle.log_laws.proofs.Serial.{after_legal, no_loser}
use Rattle.foster_laws.specs.Enters.{LeafEntered}
use Rattle.foster_laws.proofs.Entering.{leaf_enters}
use Rattle.page_ops.specs.Asking.{WasTimely}
use Rattle.page_ops.specs.Claims.{Claims}
use Rattle.page_ops.specs.Groups.{HasOwner, HasSpeaker, IsSpelled, Numbers, filled, has_rights, is_grouped, is_made_page, is_to, made_by, needs_maintenance, place_of, told_by}
use Rattle.leaf_writes.specs.Changes.{IsSpelledChange, record_by, said_by}
use Rattle.leaf_writes.specs.MayChange.{MayBy, undo_of}
use Rattle.leaf_writes.specs.declared.change.How.{How}
use Rattle.leaf_writes.specs.declared.change.How.TheVariants as hows

-- ---- what it says

-- an operator's new value is its meaning
abbrev pub Gives : How → Option (List ℕ) → Type 0
Gives (hows.Apply old operator argument) new = new ≡ meaning operator old argument
Gives how new = Unit {0}

pub gives_of : (how : How) (opens : List Record → Type 0) (seen : List Entry) (s : PageState) (tx : ℕ) (key : List ℕ) (new : Option (List ℕ)) (owner : Option SessionClaim) → MayBy how opens seen s tx key new owner → Gives how new
gives_of (hows.Write old) opens seen s tx key new owner may = tt
gives_of (hows.Apply old operator argument) opens seen s tx key new owner may = may.2
gives_of (hows.Undo undo_next) opens seen s tx key new owner may = tt

pub none_made : (how : How) (tx page : ℕ) (key : List ℕ) (new : Option (List ℕ)) → made_by (record_by how tx page key new ∷ []) ≡ None
none_made (hows.Write old) tx page key new = refl
none_made (hows.Apply old operator argument) tx page key new = refl
none_made (hows.Undo undo_next) tx page key new = refl

pub names_page : (how : How) (tx page : ℕ) (key : List ℕ) (new : Option (List ℕ)) (made : Option ℕ) → made ≡ None → (n : Numbers) → names page (filled made n (record_by how tx page key new)) ≡ true
names_page how tx page key new made none n = ap (λ (m : Option ℕ). names page (filled m n (record_by how tx page key new))) none ∙ by how
  where
    by : (how : How) → names page (filled None n (record_by how tx page key new)) ≡ true
    by (hows.Write old) = eqb_self page
    by (hows.Apply old operator argument) = eqb_self page
    by (hows.Undo undo_next) = eqb_self page

applied_one : (how : How) (tx page : ℕ) (key : List ℕ) (new : Option (List ℕ)) (n : Numbers) (s : PageState) → Gives how new → applied (filled None n (record_by how tx page key new)) page (Some s) ≡ Some (with_value key new s)
unfolding applied
applied_one (hows.Write old) tx page key new n s gives = refl
applied_one (hows.Apply old operator argument) tx page key new n s gives = ap (λ (v : Option (List ℕ)). Some (with_value key v s)) (sym gives)
applied_one (hows.Undo undo_next) tx page key new n s gives = refl

pub applies : (how : How) (tx page : ℕ) (key : List ℕ) (new : Option (List ℕ)) (made : Option ℕ) → made ≡ None → (n : Numbers) (s : PageState) → Gives how new → applied (filled made n (record_by how tx page key new)) page (Some s) ≡ Some (with_value key new s)
applies how tx page key new made none n s gives = ap (λ (m : Option ℕ). applied (filled m n (record_by how tx page key new)) page (Some s)) none ∙ applied_one how tx page key new n s gives

-- behind a split, on its half
pub enters_half : (how : How) (log : List Record) (t : PageState) (tx page : ℕ) (key : List ℕ) (new : Option (List ℕ)) (n : Numbers) → AreLawful log → log ≢ [] → image log (place_of (Some 0) n.child page) ≡ Some t
    → IsLawful log (filled (Some 0) n (record_by how tx page key new)) → Gives how new → LeafEntered log (filled (Some 0) n (record_by how tx page key new)) (place_of (Some 0) n.child page) (with_value key new t)
enters_half (hows.Write old) log t tx page key new n lawful some is ok gives =
    (leaf_enters log t).write lawful some (record { tx = tx; prev = n.prev; page = place_of (Some 0) n.child page; page_prev = n.page_prev; key = key; old = old; new = new }) is ok
enters_half (hows.Apply old operator argument) log t tx page key new n lawful some is ok gives =
    subst (λ (v : Option (List ℕ)). LeafEntered log (filled (Some 0) n (record_by (hows.Apply old operator argument) tx page key new)) (place_of (Some 0) n.child page) (with_value key v t)) (sym gives)
    ((leaf_enters log t).apply lawful some (record { tx = tx; prev = n.prev; page = place_of (Some 0) n.child page; page_prev = n.page_prev; key = key; operator = operator; argument = argument; old = old }) is ok)
enters_half (hows.Undo undo_next) log t tx page key new n lawful some is ok gives =
    (leaf_enters log t).undo lawful some (record { tx = tx; prev = n.prev; page = place_of (Some 0) n.child page; page_prev = n.page_prev; key = key; restores = new; undo_next = undo_next }) is ok

-- ---- undos

-- which page it is on doesn't matter
takes_on : (u v : Undo) (w : Record) → v.key ≡ u.key → v.restores ≡ u.restores → v.undo_next ≡ u.undo_next → TakesBack u w → TakesBack v w
takes_on u v (kinds.Write w) key restores next takes = (key ∙ takes.0, restores ∙ takes.1, next ∙ takes.2)
takes_on u v (kinds.Apply w) key restores next takes = (key ∙ takes.0, restores ∙ takes.1, next ∙ takes.2)
takes_on u v _ key restores next takes = absurd takes

pub rule_on : (ws : List Record) (u v : Undo) → v.key ≡ u.key → v.restores ≡ u.restores → v.undo_next ≡ u.undo_next → UndoRule ws u → UndoRule ws v
rule_on ws u v key restores next rule = record { front = rule.front; back = rule.back; split = rule.split; takes = takes_on u v rule.back key restores next rule.takes }

-- ---- the conditions of entering that don't depend on the moment

number_of : (how : How) (opens : List Record → Type 0) (seen : List Entry) (s : PageState) (tx : ℕ) (key : List ℕ) (new : Option (List ℕ)) (owner : Option SessionClaim) → MayBy how opens seen s tx key new owner → is_number tx ≡ true
number_of (hows.Write old) opens seen s tx key new None may = absurd may.0
number_of (hows.Write old) opens seen s tx key new (Some o) may = subst (λ (t : ℕ). is_number t ≡ true) may.0.0 may.0.1.number
number_of (hows.Apply old operator argument) opens seen s tx key new None may = absurd may.0
number_of (hows.Apply old operator argument) opens seen s tx key new (Some o) may = subst (λ (t : ℕ). is_number t ≡ true) may.0.0 may.0.1.number
number_of (hows.Undo undo_next) opens seen s tx key new owner may = may.0

pub spelled_by : (how : How) (opens : List Record → Type 0) (seen : List Entry) (s : PageState) (tx : ℕ) (key : List ℕ) (new : Option (List ℕ)) (owner : Option SessionClaim) (made : Option ℕ) (page : ℕ)
    → MayBy how opens seen s tx key new owner → IsSpelledChange how key new → is_page (place_of made 2 page) ≡ true → IsSpelled made (record_by how tx page key new)
spelled_by (hows.Write old) opens seen s tx key new owner made page may words at =
    record { tx = number_of (hows.Write old) opens seen s tx key new owner may; prev = refl; page = at; page_prev = refl; key = words.key; old = words.rest; new = words.new; change = may.2 }
spelled_by (hows.Apply old operator argument) opens seen s tx key new owner made page may words at =
    record { tx = number_of (hows.Apply old operator argument) opens seen s tx key new owner may; prev = refl; page = at; page_prev = refl; key = words.key; operator = words.rest.1; argument = words.rest.2; old = words.rest.0 }
spelled_by (hows.Undo undo_next) opens seen s tx key new owner made page may words at =
    record { tx = may.0; prev = refl; page = at; page_prev = refl; key = words.key; restores = words.new; undo_next = may.1 }

-- a loser never comes to life
pub never_live : (opening : List Record) (h : List Entry) (t : ℕ) → AreLawful opening → IsLegal opening h → is_loser opening t ≡ true → phase h t ≡ Live → ⊥
never_live opening h t lawful legal loser live = not_both (is_loser opening t) loser (no_loser opening t ((after_legal opening lawful h legal).0.new t live))

-- the owner of its transaction is there where that is live
pub owner_by : (how : How) (opens : List Record → Type 0) (seen : List Entry) (s : PageState) (tx page : ℕ) (key : List ℕ) (new : Option (List ℕ)) (owner : Option SessionClaim) (x : Claims)
    → MayBy how opens seen s tx key new owner → x.s ≡ owner → HasOwner opens seen x (link_of (record_by how tx page key new))
owner_by (hows.Write old) opens seen s tx page key new None x may is = absurd may.0
owner_by (hows.Write old) opens seen s tx page key new (Some o) x may is = λ opening stands lawful legal live. subst (λ (q : Option SessionClaim). IsSome q × IfSome q (λ (z : SessionClaim). z.tx ≡ tx)) (sym is) (refl, may.0.0)
owner_by (hows.Apply old operator argument) opens seen s tx page key new None x may is = absurd may.0
owner_by (hows.Apply old operator argument) opens seen s tx page key new (Some o) x may is = λ opening stands lawful legal live. subst (λ (q : Option SessionClaim). IsSome q × IfSome q (λ (z : SessionClaim). z.tx ≡ tx)) (sym is) (refl, may.0.0)
owner_by (hows.Undo undo_next) opens seen s tx page key new None x may is = λ opening stands lawful legal live. absurd (never_live opening seen tx lawful legal (may.2.loser opening stands) live)
owner_by (hows.Undo undo_next) opens seen s tx page key new (Some o) x may is = λ opening stands lawful legal live. subst (λ (q : Option SessionClaim). IsSome q × IfSome q (λ (z : SessionClaim). z.tx ≡ tx)) (sym is) (refl, may.2.tx)

pub speaker_by : (how : How) (key : List ℕ) (new : Option (List ℕ)) (owner : Option SessionClaim) → HasSpeaker owner (said_by how key new owner)
speaker_by (hows.Write old) key new None = tt
speaker_by (hows.Write old) key new (Some s) = (refl, refl)
speaker_by (hows.Apply old operator argument) key new None = tt
speaker_by (hows.Apply old operator argument) key new (Some s) = (refl, refl)
speaker_by (hows.Undo undo_next) key new None = tt
speaker_by (hows.Undo undo_next) key new (Some s) = tt

pub timely_by : (how : How) (opens : List Record → Type 0) (seen : List Entry) (s : PageState) (tx page : ℕ) (key : List ℕ) (new : Option (List ℕ)) (owner : Option SessionClaim) → MayBy how opens seen s tx key new owner
    → (opening : List Record) → opens opening → WasTimely opening seen (record_by how tx page key new)
timely_by (hows.Write old) opens seen s tx page key new owner may opening stands = (seen, prefix_self seen, tt)
timely_by (hows.Apply old operator argument) opens seen s tx page key new owner may opening stands = (seen, prefix_self seen, tt)
timely_by (hows.Undo undo_next) opens seen s tx page key new None may opening stands =
    let was = may.2.was opening stands in
    (was.0, was.1, λ loser. rule_on (open_writes (life_log opening was.0) tx) (undo_of tx key new undo_next) (record { tx = tx; prev = 0; page = page; page_prev = 0; key = key; restores = new; undo_next = undo_next }) refl refl refl was.2)
timely_by (hows.Undo undo_next) opens seen s tx page key new (Some o) may opening stands =
    (seen, prefix_self seen, λ loser. rule_on (open_writes (life_log opening seen) tx) (undo_of tx key new undo_next) (record { tx = tx; prev = 0; page = page; page_prev = 0; key = key; restores = new; undo_next = undo_next }) refl refl refl (may.2.last opening stands))

-- its answer follows it, and an undo has none
pub told_one : (how : How) (opens : List Record → Type 0) (seen : List Entry) (s : PageState) (tx page : ℕ) (key : List ℕ) (new : Option (List ℕ)) (owner : Option SessionClaim) → MayBy how opens seen s tx key new owner
    → told_by (is_some (said_by how key new owner)) (record_by how tx page key new ∷ []) ≡ true
told_one (hows.Write old) opens seen s tx page key new None may = absurd may.0
told_one (hows.Write old) opens seen s tx page key new (Some o) may = refl
told_one (hows.Apply old operator argument) opens seen s tx page key new None may = absurd may.0
told_one (hows.Apply old operator argument) opens seen s tx page key new (Some o) may = refl
told_one (hows.Undo undo_next) opens seen s tx page key new None may = refl
told_one (hows.Undo undo_next) opens seen s tx page key new (Some o) may = refl

pub grouped : (how : How) (tx page : ℕ) (key : List ℕ) (new : Option (List ℕ)) → is_grouped (record_by how tx page key new) ≡ true
grouped (hows.Write old) tx page key new = refl
grouped (hows.Apply old operator argument) tx page key new = refl
grouped (hows.Undo undo_next) tx page key new = refl

pub no_checkpoint : (how : How) (tx page : ℕ) (key : List ℕ) (new : Option (List ℕ)) → is_checkpoint (record_by how tx page key new) ≡ false
no_checkpoint (hows.Write old) tx page key new = refl
no_checkpoint (hows.Apply old operator argument) tx page key new = refl
no_checkpoint (hows.Undo undo_next) tx page key new = refl

pub no_maintenance : (how : How) (tx page : ℕ) (key : List ℕ) (new : Option (List ℕ)) → needs_maintenance (record_by how tx page key new) ≡ false
no_maintenance (hows.Write old) tx page key new = refl
no_maintenance (hows.Apply old operator argument) tx page key new = refl
no_maintenance (hows.Undo undo_next) tx page key new = refl

-- it needs the right to its page alone
abbrev pub has_page_right : Option ℕ → Claims → ℕ → Bool
has_page_right made x page = (is_to page x.a || is_to page x.b || is_made_page made page) && true

pub rights_by : (how : How) (tx page : ℕ) (key : List ℕ) (new : Option (List ℕ)) (made : Option ℕ) (x : Claims) → has_rights made x (record_by how tx page key new) ≡ has_page_right made x page
rights_by (hows.Write old) tx page key new made x = refl
rights_by (hows.Apply old operator argument) tx page key new made x = refl
rights_by (hows.Undo undo_next) tx page key new made x = refl
