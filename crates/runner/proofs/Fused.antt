-- The devices in their fuses, and without them.
use Rattle.std.proofs.Common.{◌≡◌, ◌≢◌, ℕ, ◌+◌, List, Option, None, refl, sym, subst}
use Rattle.std.proofs.lemmas.List.Elements.{All-nil}
use Rattle.media.specs.Kept.{Kept}
use Rattle.media.specs.Fused.{Fused}
use Rattle.media.specs.declared.disk.Disk.{Ghosts}
use Rattle.media.specs.declared.pages.PageDevice as pages
use Rattle.media.specs.declared.vault.Vault as vaults
use Rattle.log_manager.specs.Devices.{DevicesStandFor}
use Rattle.wal_record.specs.declared.record.Record.{Record}
use Rattle.life_commands.specs.declared.status.Status.{Status}
use Rattle.life_commands.specs.declared.status.Status.TheVariants as statuses
use Rattle.life_commands.specs.Bytes.{Bytes, Unknown, Gated, Bad, Known}
use Rattle.runner.specs.Causes.{IsAsked}
use Rattle.life_commands.specs.Stores.{AreOf, stores}
use Rattle.life_commands.specs.Living.{Out}
use Rattle.life_commands.specs.LogDisk.{View, IsWhole, Whole, seen, Keeps, HoldsOne}
use Rattle.life_commands.specs.Turns.{Last, Stage, Start, Found, MayFind, IsRightLife, begin_stage, bytes_after, last_after, stage}
use Rattle.runner.specs.Clause.{HandsBack, Headline}
use Rattle.runner.specs.Devices.{Stored}
use Rattle.life_commands.proofs.Lives.{keeps_only}

-- what a fuse round a device says
abbrev pub fuse_of : {D : Type 0} → Ghosts D → Ghosts (Fused D)
fuse_of D = record {
  tells = D.tells;
  start = λ f. D.start f.inner;
  len = λ f. D.len f.inner;
  told = λ f. D.told f.inner;
  may_leave = λ f c. D.may_leave f.inner c;
  moment = λ f. D.moment f.inner;
  left_since = λ f t c. D.left_since f.inner t c;
  faults = λ f. D.faults f.inner + f.refused;
  own = λ f. D.faults f.inner;
  refused = λ f. f.refused;
  passes = λ f. f.left;
  fuses = Unit {0};
}

-- ---- the start

-- devices that stand for a log
pub stands_at : {D : Type 0} (L : Ghosts D) (disk : D) (log : List Record) → DevicesStandFor L.told L.may_leave disk log → Keeps L (Found log) disk
stands_at L disk log s = keeps_only L (Found log) disk (log, refl, record { sound = s.sound; bs = s.log_disk.bs; stands = s.log_disk.stands; records = s.log_disk.records }) s.log_disk.only

-- a fuse that isn't armed round a disk that keeps a log
out_at : {D E : Type 0} (T T' : Type 0) (L : Ghosts D) (F : Ghosts E) (e : E) (d : D) → L.told d ≡ F.told e → ((c : Kept) → F.may_leave e c → L.may_leave d c) → F.fuses → F.passes e ≡ None → (start : Start) → (T → Keeps L start.last d) → Known T' F start.bytes e → Out T' (record F { tells = T }) e (begin_stage start)
out_at T T' L F e d told may fuse none start keeps known = record {
  past = λ t. All-nil IsRightLife;
  life = refl;
  active = refl;
  ended = refl;
  goes = refl;
  fused = record { fuse = fuse; renewed = λ _. none };
  keeps = λ t. let k = keeps t in record { now = subst (HoldsOne (MayFind start.last)) told k.now; crash = λ c m. k.crash c (may c m) };
  bytes = known;
}

-- ---- the end

keeps_inner : {D E : Type 0} (T : Type 0) (L : Ghosts D) (F : Ghosts E) (e : E) (d : D) (told : F.told e ≡ L.told d) (may : (c : Kept) → L.may_leave d c → F.may_leave e c) (last : Last) → Keeps (record F { tells = T }) last e → Keeps (record L { tells = T }) last d
keeps_inner T L F e d told may last k = record { now = subst (HoldsOne (MayFind last)) told k.now; crash = λ c m. k.crash c (may c m) }

-- what is handed back otherwise
back_as : {tells : Type 0} {start : Start} {B B' : Stage → Type 0} {left0 : Option (List ℕ)} {pending : List ℕ} {left told0 told : Option (List ℕ)} {status : Status} → ((s : Stage) → B s → B' s) → Headline tells start B left0 pending left told0 told status → Headline tells start B' left0 pending left told0 told status
back_as {start = start} through h = record {
  turns = h.turns;
  read = h.read;
  rest = h.rest;
  written = h.written;
  taken = h.taken;
  within = h.within;
  most = h.most;
  ran = h.ran;
  cut = h.cut;
  wrote = h.wrote;
  ended = h.ended;
  back = through (stage start h.turns) h.back;
}

-- ---- completeness

asked : {tells : Type 0} {start : Start} {B : Stage → Type 0} {left0 left told0 told : Option (List ℕ)} {pending : List ℕ} (status : Status) → Headline tells start B left0 pending left told0 told status → tells
    → (status ≢ statuses.Usage) × (status ≢ statuses.NoGenerator) → status ≢ statuses.SourceFault → status ≢ statuses.SinkFault → status ≢ statuses.LogFault → status ≢ statuses.VaultFault → IsAsked status
asked statuses.Usage h t usage source sink fault vault = usage.0 refl
asked statuses.NoGenerator h t usage source sink fault vault = usage.1 refl
asked statuses.SourceFault h t usage source sink fault vault = source refl
asked statuses.SinkFault h t usage source sink fault vault = sink refl
asked statuses.LogFault h t usage source sink fault vault = fault refl
asked statuses.VaultFault h t usage source sink fault vault = vault refl
asked (statuses.LogBad block byte) h t usage source sink fault vault = h.ended.2 t
asked (statuses.BlockBad block byte) h t usage source sink fault vault = h.ended.1 t
asked (statuses.VaultBad object byte) h t usage source sink fault vault = h.ended.1 t
asked _ h t usage source sink fault vault = tt

-- what is known of a disk is known of it in its fuse
known_fused : {D : Type 0} (L : Ghosts D) (e : Fused D) (b : Bytes) → Known L.tells L b e.inner → Known L.tells (fuse_of L) b e
known_fused L e Unknown h = tt
known_fused L e Gated (t, g) = (t, record { now = g.now; crash = g.crash })
known_fused L e (Bad k) (t, b) = (t, record { now = b.now; only = b.only; block = b.block; byte = b.byte; bad = b.bad })

known_inner : {D : Type 0} (L : Ghosts D) (e : Fused D) (b : Bytes) → Known L.tells (fuse_of L) b e → Known L.tells L b e.inner
known_inner L e Unknown h = tt
known_inner L e Gated (t, g) = (t, record { now = g.now; crash = g.crash })
known_inner L e (Bad k) (t, b) = (t, record { now = b.now; only = b.only; block = b.block; byte = b.byte; bad = b.bad })

-- what a fuse round a data device says
abbrev pub images_fuse : {D : Type 0} → pages.Ghosts D → pages.Ghosts (Fused D)
images_fuse D = record {
  tells = D.tells;
  told = λ f p image. D.told f.inner p image;
  newest = λ f p. D.newest f.inner p;
  spoiled = λ f p. D.spoiled f.inner p;
  faults = λ f. D.faults f.inner + f.refused;
  own = λ f. D.faults f.inner;
  refused = λ f. f.refused;
  passes = λ f. f.left;
  fuses = Unit {0};
}

-- what a fuse round a vault says
abbrev pub vault_fuse : {D : Type 0} → vaults.Ghosts D → vaults.Ghosts (Fused D)
vault_fuse D = record {
  tells = D.tells;
  told = λ f name. D.told f.inner name;
  faults = λ f. D.faults f.inner + f.refused;
  own = λ f. D.faults f.inner;
  refused = λ f. f.refused;
  passes = λ f. f.left;
  fuses = Unit {0};
}

abbrev pub fresh : {D : Type 0} → D → Fused D
fresh d = record { inner = d; left = None; refused = 0 }

-- a run round fused devices is one round the devices
pub begun_fused : {D E F : Type 0} (L : Ghosts D) (P : pages.Ghosts E) (V : vaults.Ghosts F) (v : View L.tells) (e : Fused D) (f : Fused E) (g : Fused F) (d : D) (device : E) (vault : F) → e ≡ fresh d → f ≡ fresh device → g ≡ fresh vault → (start : Start) → (IsWhole v → (stores P V).tells × Keeps L start.last d × AreOf ((stores P V).are_of (device, vault)) start.last) → Known L.tells L start.bytes d
    → Stored (IsWhole v) (stores (images_fuse P) (vault_fuse V)) (f, g) (Out L.tells (seen (fuse_of L) v) e) (begin_stage start)
begun_fused L P V v e f g d device vault is same alike start keeps known = record {
  here = subst (λ (x : Fused _). Out L.tells (seen (fuse_of L) v) x (begin_stage start)) (sym is) (out_at (IsWhole v) L.tells L (fuse_of L) (fresh d) d refl (λ c m. m) tt refl start (λ w. (keeps w).1) (known_fused L (fresh d) start.bytes known));
  told = λ w. (keeps w).0;
  stores = λ w. subst (λ (x : Fused _). AreOf ((stores P V).are_of (x.inner, g.inner)) start.last) (sym same) (subst (λ (x : Fused _). AreOf ((stores P V).are_of (device, x.inner)) start.last) (sym alike) (keeps w).2);
}

pub ended_fused : {D E F : Type 0} (L : Ghosts D) (P : pages.Ghosts E) (V : vaults.Ghosts F) (v : View L.tells) (e : Fused D) (f : Fused E) (g : Fused F) (d : D) (device : E) (vault : F) → d ≡ e.inner → device ≡ f.inner → vault ≡ g.inner → {start : Start} {left0 : Option (List ℕ)} {pending : List ℕ} {left told0 told : Option (List ℕ)} {status : Status}
    → Headline (IsWhole v) start (HandsBack L.tells (seen (fuse_of L) v) (stores (images_fuse P) (vault_fuse V)) e (f, g)) left0 pending left told0 told status → Headline (IsWhole v) start (HandsBack L.tells (seen L v) (stores P V) d (device, vault)) left0 pending left told0 told status
ended_fused L P V v e f g d device vault is same alike h = back_as through h
  where
    through : (s : Stage) → HandsBack L.tells (seen (fuse_of L) v) (stores (images_fuse P) (vault_fuse V)) e (f, g) s → HandsBack L.tells (seen L v) (stores P V) d (device, vault) s
    through s b = record {
      kept = b.kept;
      leaves = λ t. subst (λ (x : _). Keeps (seen L v) (last_after s.life s.last b.kept) x) (sym is) (keeps_inner (IsWhole v) L (fuse_of L) e e.inner refl (λ c m. m) (last_after s.life s.last b.kept) (b.leaves t));
      stores = λ t. subst (λ (x : _). AreOf ((stores P V).are_of (x, vault)) (last_after s.life s.last b.kept)) (sym same) (subst (λ (x : _). AreOf ((stores P V).are_of (f.inner, x)) (last_after s.life s.last b.kept)) (sym alike) (b.stores t));
      bytes = subst (λ (x : _). Known L.tells (seen L v) (bytes_after s.life s.bytes) x) (sym is) (known_inner L e (bytes_after s.life s.bytes) b.bytes);
    }

-- devices that are handed back as they were handed in
pub handed_back : {D E F : Type 0} (L : Ghosts D) (P : pages.Ghosts E) (V : vaults.Ghosts F) (v : View L.tells) (start : Start) (disk : D) (device : E) (vault : F) → (IsWhole v → (stores P V).tells × Keeps L start.last disk × AreOf ((stores P V).are_of (device, vault)) start.last) → Known L.tells L start.bytes disk
    → HandsBack L.tells (seen L v) (stores P V) disk (device, vault) (begin_stage start)
handed_back L P V v start disk device vault keeps known = record { kept = 0; leaves = λ t. (keeps t).1; stores = λ t. (keeps t).2; bytes = known }

-- Of devices that keep a log and what is of it, where no device failed, the run has a status that the script asks for.
pub asked_fused : {D E F : Type 0} (L : Ghosts D) (P : pages.Ghosts E) (V : vaults.Ghosts F) {disk : Fused D} {pages_left : Fused E} {vault_left : Fused F} {left0 left told0 told : Option (List ℕ)} {pending : List ℕ} {status : Status} (e : Fused D) (f : Fused E) (g : Fused F) (d : D) (device : E) (vault : F) → e ≡ fresh d → f ≡ fresh device → g ≡ fresh vault
    → ((v : View L.tells) (start : Start) → Stored (IsWhole v) (stores (images_fuse P) (vault_fuse V)) (f, g) (Out L.tells (seen (fuse_of L) v) e) (begin_stage start) → Headline (IsWhole v) start (HandsBack L.tells (seen (fuse_of L) v) (stores (images_fuse P) (vault_fuse V)) disk (pages_left, vault_left)) left0 pending left told0 told status)
    → L.tells → P.tells → V.tells → (last : Last) → Keeps L last d → AreOf ((stores P V).are_of (device, vault)) last
    → (status ≢ statuses.Usage) × (status ≢ statuses.NoGenerator) → status ≢ statuses.SourceFault → status ≢ statuses.SinkFault → status ≢ statuses.LogFault → status ≢ statuses.VaultFault → IsAsked status
asked_fused L P V {status = status} e f g d device vault is same alike headline t p o last keeps these usage source sink fault vaulted =
    let start : Start = record { last = last; bytes = Unknown } in
    asked status (headline (Whole t) start (begun_fused L P V (Whole t) e f g d device vault is same alike start (λ w. ((p, o), keeps, these)) tt)) tt usage source sink fault vaulted
