-- A page that is made stays so.
use Rattle.std.proofs.Common.{◌≡◌, ℕ, eqb, cond, List, [], ◌∷◌, ◌++◌, Option, Some, None, Bool, true, false, refl, sym, ap, ◌∙◌, subst, append_assoc, append-nil}
use Rattle.std.specs.Prelude.{is_some}
use mathlib.Core.List.{IsPrefix}
use Rattle.wal_record.specs.Chains.{names}
use Rattle.wal_record.specs.History.{log_of, life_log}
use Rattle.wal_record.specs.Images.{applied, image}
use Rattle.wal_record.specs.declared.page.PageState.{PageState}
use Rattle.wal_record.specs.declared.record.Record.{Record}
use Rattle.wal_record.specs.declared.record.Record.TheVariants as kinds
use Rattle.wal_record.specs.declared.entry.Entry.{Entry}
use Rattle.wal_record.proofs.Pushes.{image_push}
use Rattle.page_ops.proofs.Staying.{longer_log}
use Rattle.page_ops.specs.Names.{LedgerName}
use Rattle.page_ops.specs.Desks.{IsMade}
use Rattle.page_ops.specs.Seeing.{Known, Upholds}

some_either : (b : Bool) (x y : PageState) → is_some (cond b (Some x) (Some y)) ≡ true
some_either true x y = refl
some_either false x y = refl

-- a record makes no page vanish
still : (r : Record) (p : ℕ) (s : Option PageState) → is_some s ≡ true → is_some (applied r p s) ≡ true
unfolding applied
still r p None made = absurd (cc made)
still (kinds.Format f) p (Some s) made = refl
still (kinds.Write w) p (Some s) made = refl
still (kinds.Apply a) p (Some s) made = refl
still (kinds.Undo u) p (Some s) made = refl
still (kinds.Split x) p (Some s) made = some_either (eqb p x.page) _ _
still (kinds.Adopt a) p (Some s) made = some_either (eqb p a.parent) _ _
still (kinds.Grow g) p (Some s) made = some_either (eqb p 1) _ _
still (kinds.Purge x) p (Some s) made = refl
still _ p (Some s) made = made

still_if : (b : Bool) (r : Record) (p : ℕ) (s : Option PageState) → is_some s ≡ true → is_some (cond b (applied r p s) s) ≡ true
still_if true r p s made = still r p s made
still_if false r p s made = made

after_record : (log : List Record) (r : Record) (p : ℕ) → is_some (image log p) ≡ true → is_some (image (log ++ r ∷ []) p) ≡ true
after_record log r p made = ap is_some (image_push log r p) ∙ still_if (names p r) r p (image log p) made

after_records : (more log : List Record) (p : ℕ) → is_some (image log p) ≡ true → is_some (image (log ++ more) p) ≡ true
after_records [] log p made = subst (λ l. is_some (image l p) ≡ true) (sym (append-nil log)) made
after_records (r ∷ rs) log p made = subst (λ l. is_some (image l p) ≡ true) (append_assoc log (r ∷ []) rs) (after_records rs (log ++ r ∷ []) p (after_record log r p made))

pub made_later : (opens : List Record → Type 0) (h t h' : List Entry) (p : ℕ) → h' ≡ h ++ t → IsMade opens h p → IsMade opens h' p
made_later opens h t h' p is made opening stands =
    let longer : life_log opening h' ≡ life_log opening h ++ log_of t = ap (life_log opening) is ∙ longer_log opening h t in
    subst (λ l. is_some (image l p) ≡ true) (sym longer) (after_records (log_of t) (life_log opening h) p (made opening stands))

pub made_upheld : (opens : List Record → Type 0) (entries sessions : LedgerName) (kind : Entry → Bool) (old new : Known) (p : ℕ) → Upholds opens entries sessions kind old new → IsMade opens old.log p → IsMade opens new.log p
made_upheld opens entries sessions kind old new p u made = made_later opens old.log u.gained new.log p u.is made

pub made_since : (opens : List Record → Type 0) (h h' : List Entry) (p : ℕ) → IsPrefix h h' → IsMade opens h p → IsMade opens h' p
made_since opens h h' p begins made = made_later opens h begins.0 h' p (sym begins.1) made
