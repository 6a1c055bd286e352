-- What calls of a vault with a draft keep.
use Rattle.std.proofs.Common.{◌≡◌, ℕ, List, [], ◌∷◌, ◌++◌, true, false, refl, sym, ap, ◌∙◌, subst, arith, inl, inr}
use Rattle.std.specs.Prelude.{◌⊎◌, ◌≤◌, ◌-◌, min, length, take, drop, Option, Some, None, Result, Ok, Err, IfOk, IfSome, IsSome}
use mathlib.Core.List.{IsPrefix}
use Rattle.front.specs.Seen.{PassSeen}
use Rattle.front.proofs.Keeping.{prefix_trans}
use Rattle.books.specs.Rights.{MaintClaim}
use Rattle.media.specs.Objects.{Stored, Synced, Unsynced, bytes_of, synced, SameObjects, OtherObjects, SyncsObjects, MaySync}
use Rattle.store_model.specs.declared.object.ObjectName.{ObjectName}
use Rattle.wal_record.specs.Books.{maintenance_book}
use Rattle.wal_record.specs.History.{life_log, log_of}
use Rattle.wal_record.specs.Legal.{IsLegal}
use Rattle.wal_record.specs.Sound.{IsLawful}
use Rattle.wal_record.specs.declared.record.Record.{Record}
use Rattle.wal_record.specs.declared.entry.Entry.{Entry}
use Rattle.wal_record.specs.declared.entry.Entry.TheVariants.{Rec}
use Rattle.wal_record.proofs.Along.{AllAlong_less}
use Rattle.claim_laws.specs.Suiting.{Suits, Pins}
use Rattle.claim_laws.specs.Upkeep.{SameMaintenance}
use Rattle.claim_laws.proofs.Suiting.{suiting_law}
use Rattle.claim_laws.proofs.Upkeep.{books_law}
use Rattle.page_ops.specs.Claims.{MaintAgrees}
use Rattle.page_ops.specs.Seeing.{IsConsistent}
use Rattle.page_ops.proofs.Staying.{longer_log}
use Rattle.named_objects.specs.Named.{AreNamed, IsNamedPiece, Names, Tells, name_of, record_of}
use Rattle.named_objects.specs.Drafts.{IsDraft, Means, ready, synced_draft}
use Rattle.named_objects.specs.declared.draft.Draft.{Draft}
use Rattle.named_objects.specs.declared.naming.Naming.{Naming}
use Rattle.named_objects.specs.declared.naming.Naming.TheVariants as namings
use Rattle.named_objects.proofs.SameNames.{agreed, named_still}
use Rattle.named_objects.proofs.Drafting.{means_of, named_more, tells_one, unnamed}

-- ---- a record that suits, at a later moment with the same book

pins : (opening : List Record) (seen more : List Entry) (n : Naming) → SameMaintenance seen more → Pins opening seen more (record_of n)
pins opening seen more (namings.Backup b) same = same
pins opening seen more (namings.Run d) same = same

pub pinned : (opens : List Record → Type 0) (seen now : List Entry) (n : Naming) → IsPrefix seen now → IsConsistent opens now → maintenance_book now ≡ maintenance_book seen
    → ((opening : List Record) → opens opening → Suits opening seen (record_of n)) → (opening : List Record) → opens opening → Suits opening now (record_of n)
pinned opens seen now n begins consistent same suits opening stands =
    let more = begins.0 in
    let legal = subst (IsLegal opening) (sym begins.1) (consistent.legal opening stands) in
    let sound = AllAlong_less IsLawful opening (log_of now) ((consistent.sound opening stands).lawful) in
    subst (λ (h : List Entry). Suits opening h (record_of n)) begins.1
    ((suiting_law opening seen more).record_stays sound legal (record_of n) (pins opening seen more n (ap maintenance_book begins.1 ∙ same)) (suits opening stands))

-- where no object was named since a place that the pass had seen
pub suits_now : (opens : List Record → Type 0) (seen now : List Entry) (since : ℕ) (n : Naming) → IsPrefix seen now → IsConsistent opens now → since ≤ maintenance_book seen → maintenance_book now ≡ since
    → ((opening : List Record) → opens opening → Suits opening seen (record_of n)) → (opening : List Record) → opens opening → Suits opening now (record_of n)
suits_now opens seen now since n begins consistent low here suits opening stands =
    let legal = subst (IsLegal opening) (sym begins.1) (consistent.legal opening stands) in
    let rises = (books_law opening seen begins.0).maintenance legal in
    let e = ap maintenance_book begins.1 in
    pinned opens seen now n begins consistent (omega (arith, rises, e, low, here)) suits opening stands

-- the same of a pass that sees as much
pub suits_own : (opens : List Record → Type 0) (seen own now : PassSeen Entry) (since last : ℕ) (n : Naming) → own ≡ now → IsPrefix seen.log now.log → IsConsistent opens now.log → since ≤ maintenance_book seen.log → last ≡ maintenance_book now.log → last ≡ since
    → ((opening : List Record) → opens opening → Suits opening seen.log (record_of n)) → (opening : List Record) → opens opening → Suits opening own.log (record_of n)
suits_own opens seen own now since last n same begins consistent low place is suits =
    subst (λ (p : PassSeen Entry). (opening : List Record) → opens opening → Suits opening p.log (record_of n)) (sym same) (suits_now opens seen.log now.log since n begins consistent low (sym place ∙ is) suits)

pub means_own : (opens : List Record → Type 0) (seen own now : PassSeen Entry) (n : Naming) (bytes : List ℕ) → own ≡ now → IsPrefix seen.log now.log → ((opening : List Record) → opens opening → Suits opening seen.log (record_of n))
    → ((opening : List Record) → opens opening → Tells (life_log opening seen.log) n bytes) → Means opens own.log n bytes
means_own opens seen own now n bytes same begins suits tells = subst (λ (p : PassSeen Entry). Means opens p.log n bytes) (sym same) (means_of opens seen.log now.log n bytes begins suits tells)

means_later : (opens : List Record → Type 0) (h now : List Entry) (n : Naming) (bytes : List ℕ) → IsPrefix h now → Means opens h n bytes → Means opens now n bytes
means_later opens h now n bytes begins m opening later stands goes = m opening later stands (prefix_trans h now later begins goes)

module _ {V : Type 0} (opens : List Record → Type 0) (tells : Type 0) (told : V → ObjectName → Stored) where
  -- what a vault keeps with its draft, after what its pass has seen
  abbrev pub Holds : Option MaintClaim → List Entry → V → Option Draft → Type 0
  Holds m h vault draft = IsSome m × IfSome m (MaintAgrees h) × ((opening : List Record) → opens opening → tells) × (tells → AreNamed opens told h vault) × IfSome draft (IsDraft opens tells told h vault)

  -- ---- the history goes on

  draft_later : (h now : List Entry) (vault : V) (draft : Option Draft) → IsPrefix h now → IfSome draft (IsDraft opens tells told h vault) → IfSome draft (IsDraft opens tells told now vault)
  draft_later h now vault None begins d = tt
  draft_later h now vault (Some x) begins d = record { bytes = d.bytes; means = means_later opens h now x.naming d.bytes begins d.means; stored = d.stored; durable = d.durable }

  pub named_later : (h now : List Entry) (vault : V) → (tells → AreNamed opens told h vault) → IsPrefix h now → IsConsistent opens now → maintenance_book now ≡ maintenance_book h → tells → AreNamed opens told now vault
  named_later h now vault named begins consistent still t opening name bytes stands is = named t opening name bytes stands (named_still opens h now opening name bytes begins consistent still stands is)

  pub looked : (m : Option MaintClaim) (h now : List Entry) (vault : V) (draft : Option Draft) → Holds m h vault draft → IsPrefix h now → IsConsistent opens now → IfSome m (MaintAgrees now) → Holds m now vault draft
  looked m h now vault draft x begins consistent here = (x.0, here, x.2, named_later h now vault x.3 begins consistent (agreed h now m x.0 x.1 here), draft_later h now vault draft begins x.4)

  -- by a look, which shows the vault's own pass as much
  pub look_kept : (m m' : Option MaintClaim) (own own' now : PassSeen Entry) (vault : V) (draft : Option Draft) → Holds m own.log vault draft → m' ≡ m → own' ≡ now → IsPrefix own.log now.log → IsConsistent opens now.log → IfSome m' (MaintAgrees now.log)
      → Holds m' own'.log vault draft
  look_kept m m' own own' now vault draft x same is begins consistent here =
      subst (λ (z : Option MaintClaim × PassSeen Entry). Holds z.0 z.1.log vault draft) (λ i. (sym same i, sym is i))
      (looked m own.log now.log vault draft x begins consistent (subst (λ (z : Option MaintClaim). IfSome z (MaintAgrees now.log)) same here))

  -- ---- a get

  pub read : (h : List Entry) (vault : V) (name : ObjectName) (from : ℕ) (old new : List ℕ) {E : Type 0} (result : Result ℕ E) → ((opening : List Record) → opens opening → tells) → (tells → AreNamed opens told h vault)
      → (tells → IfOk result (λ n. n ≡ min (length old) (length (bytes_of (told vault name)) - from))) → (tells → IfOk result (λ n. new ≡ take n (drop from (bytes_of (told vault name))) ++ drop n old))
      → IfOk result (IsNamedPiece opens h name from old new)
  read h vault name from old new (Err e) which named count gives = tt
  read h vault name from old new (Ok n) which named count gives = λ opening bytes stands is.
      let t = which opening stands in
      let there : bytes_of (told vault name) ≡ bytes = ap bytes_of (named t opening name bytes stands is) in
      (count t ∙ ap (λ (b : List ℕ). min (length old) (length b - from)) there, gives t ∙ ap (λ (b : List ℕ). take n (drop from b) ++ drop n old) there)

  same_draft : (h : List Entry) (old new : V) (draft : Option Draft) → (tells → SameObjects (told old) (told new)) → IfSome draft (IsDraft opens tells told h old) → IfSome draft (IsDraft opens tells told h new)
  same_draft h old new None same d = tt
  same_draft h old new (Some x) same d = record {
    bytes = d.bytes;
    means = d.means;
    stored = λ t. let e = same t (name_of x.naming) in elim (d.stored t) [
      | inl u ↦ inl (e ∙ u)
      | inr u ↦ inr (e ∙ u)
    ];
    durable = λ t s. same t (name_of x.naming) ∙ d.durable t s;
  }

  pub same_kept : (m : Option MaintClaim) (h : List Entry) (old new : V) (draft : Option Draft) → Holds m h old draft → (tells → SameObjects (told old) (told new)) → Holds m h new draft
  same_kept m h old new draft x same = (x.0, x.1, x.2, λ t opening name bytes stands is. same t name ∙ x.3 t opening name bytes stands is, same_draft h old new draft same x.4)

  -- ---- a put

  named_put : (h : List Entry) (old new : V) (n : Naming) → (tells → AreNamed opens told h old) → ((opening : List Record) → opens opening → Suits opening h (record_of n)) → (tells → OtherObjects (name_of n) (told old) (told new))
      → tells → AreNamed opens told h new
  named_put h old new n named suits others t opening name bytes stands is =
      others t name (λ e. unnamed (life_log opening h) n bytes (suits opening stands).lawful (subst (λ (x : ObjectName). Names (life_log opening h) x bytes) e is)) ∙ named t opening name bytes stands is

  pub put_failed : (m : Option MaintClaim) (h : List Entry) (old new : V) (draft : Option Draft) (n : Naming) → Holds m h old draft → ((opening : List Record) → opens opening → Suits opening h (record_of n))
      → (tells → OtherObjects (name_of n) (told old) (told new)) → Holds m h new None
  put_failed m h old new draft n x suits others = (x.0, x.1, x.2, named_put h old new n x.3 suits others, tt)

  pub put_done : (m : Option MaintClaim) (h : List Entry) (old new : V) (draft : Option Draft) (n : Naming) (bytes : List ℕ) → Holds m h old draft → ((opening : List Record) → opens opening → Suits opening h (record_of n))
      → (tells → OtherObjects (name_of n) (told old) (told new)) → Means opens h n bytes → (tells → told new (name_of n) ≡ Unsynced bytes) → Holds m h new (Some (record { naming = n; synced = false }))
  put_done m h old new draft n bytes x suits others means there =
      (x.0, x.1, x.2, named_put h old new n x.3 suits others, record { bytes = bytes; means = means; stored = λ t. inl (there t); durable = λ t s. absurd (cc s) })

  -- ---- a sync

  named_sync : (h : List Entry) (old new : V) → (tells → AreNamed opens told h old) → (tells → MaySync (told old) (told new)) → tells → AreNamed opens told h new
  named_sync h old new named may t opening name bytes stands is =
      let there = named t opening name bytes stands is in
      elim (may t name) [
        | inl e ↦ e ∙ there
        | inr e ↦ e ∙ ap synced there
      ]

  may_draft : (h : List Entry) (old new : V) (draft : Option Draft) → (tells → MaySync (told old) (told new)) → IfSome draft (IsDraft opens tells told h old) → IfSome draft (IsDraft opens tells told h new)
  may_draft h old new None may d = tt
  may_draft h old new (Some x) may d = record {
    bytes = d.bytes;
    means = d.means;
    stored = λ t. elim (d.stored t) [
      | inl u ↦ (elim (may t (name_of x.naming)) [
        | inl e ↦ inl (e ∙ u)
        | inr e ↦ inr (e ∙ ap synced u)
      ])
      | inr u ↦ (elim (may t (name_of x.naming)) [
        | inl e ↦ inr (e ∙ u)
        | inr e ↦ inr (e ∙ ap synced u)
      ])
    ];
    durable = λ t s. elim (may t (name_of x.naming)) [
      | inl e ↦ e ∙ d.durable t s
      | inr e ↦ e ∙ ap synced (d.durable t s)
    ];
  }

  pub sync_failed : (m : Option MaintClaim) (h : List Entry) (old new : V) (draft : Option Draft) → Holds m h old draft → (tells → MaySync (told old) (told new)) → Holds m h new draft
  sync_failed m h old new draft x may = (x.0, x.1, x.2, named_sync h old new x.3 may, may_draft h old new draft may x.4)

  synced_there : (s : Stored) (bytes : List ℕ) → (s ≡ Unsynced bytes) ⊎ (s ≡ Synced bytes) → synced s ≡ Synced bytes
  synced_there s bytes (inl u) = ap synced u
  synced_there s bytes (inr u) = ap synced u

  all_draft : (h : List Entry) (old new : V) (draft : Option Draft) → (tells → SyncsObjects (told old) (told new)) → IfSome draft (IsDraft opens tells told h old) → IfSome (synced_draft draft) (IsDraft opens tells told h new)
  all_draft h old new None all d = tt
  all_draft h old new (Some x) all d =
      let there : tells → told new (name_of x.naming) ≡ Synced d.bytes = λ t. all t (name_of x.naming) ∙ synced_there (told old (name_of x.naming)) d.bytes (d.stored t) in
      record { bytes = d.bytes; means = d.means; stored = λ t. inr (there t); durable = λ t s. there t }

  pub sync_done : (m : Option MaintClaim) (h : List Entry) (old new : V) (draft : Option Draft) → Holds m h old draft → (tells → SyncsObjects (told old) (told new)) → Holds m h new (synced_draft draft)
  sync_done m h old new draft x all = (x.0, x.1, x.2, named_sync h old new x.3 (λ t name. inr (all t name)), all_draft h old new draft all x.4)

  -- ---- a record names the draft

  pub naming_done : (m m' : Option MaintClaim) (h moment now : List Entry) (lsn : ℕ) (vault : V) (draft : Option Draft) (n : Naming) → Holds m h vault draft → draft ≡ ready n → IsPrefix h moment → IsConsistent opens moment → IfSome m (MaintAgrees moment)
      → now ≡ moment ++ Rec lsn (record_of n) ∷ [] → IsSome m' → IfSome m' (MaintAgrees now) → Holds m' now vault None
  naming_done m m' h moment now lsn vault draft n x is begins consistent here goes some agrees = (some, agrees, x.2, named, tt)
    where
      d : IsDraft opens tells told h vault (record { naming = n; synced = true })
      d = subst (λ (o : Option Draft). IfSome o (IsDraft opens tells told h vault)) is x.4

      named : tells → AreNamed opens told now vault
      named t opening name bytes stands names =
          let longer : life_log opening now ≡ life_log opening moment ++ record_of n ∷ [] = ap (life_log opening) goes ∙ longer_log opening moment (Rec lsn (record_of n) ∷ []) in
          elim (named_more (life_log opening moment) n name bytes (subst (λ (l : List Record). Names l name bytes) longer names)) [
            | inl before ↦ x.3 t opening name bytes stands (named_still opens h moment opening name bytes begins consistent (agreed h moment m x.0 x.1 here) stands before)
            | inr last ↦ ap (told vault) last.0 ∙ d.durable t refl ∙ ap Synced (tells_one (life_log opening moment) n d.bytes bytes (d.means opening moment stands begins) last.1)
          ]

  -- by a look that shows the vault's own pass as much
  pub naming_kept : (m m' : Option MaintClaim) (own seen now later : PassSeen Entry) (moment : List Entry) (lsn : ℕ) (vault : V) (draft : Option Draft) (n : Naming) → Holds m own.log vault draft → draft ≡ ready n → own ≡ seen → IsPrefix seen.log moment → IsConsistent opens moment
      → IfSome m (MaintAgrees moment) → now.log ≡ moment ++ Rec lsn (record_of n) ∷ [] → IsSome m' → IfSome m' (MaintAgrees now.log) → later ≡ now → Holds m' later.log vault None
  naming_kept m m' own seen now later moment lsn vault draft n x is same begins consistent here goes some agrees copied =
      subst (λ (p : PassSeen Entry). Holds m' p.log vault None) (sym copied)
      (naming_done m m' own.log moment now.log lsn vault draft n x is (subst (λ (p : PassSeen Entry). IsPrefix p.log moment) (sym same) begins) consistent here goes some agrees)
