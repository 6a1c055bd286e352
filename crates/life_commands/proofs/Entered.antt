-- What a command enters: its own entries, and others beside them.
use Rattle.std.proofs.Common.{◌≡◌, ◌∷◌, ◌++◌, ℕ, List, [], Option, Some, None, inl, inr, refl, sym, ap, subst, ◌∙◌}
use Rattle.std.specs.List.{All}
use Rattle.std.proofs.lemmas.List.Elements.{All-cons, All-head, All-nil, All-tail}
use Rattle.store_model.specs.declared.request.Request.{Request}
use Rattle.wal_record.specs.Locks.{Held}
use Rattle.wal_record.specs.declared.record.Record.TheVariants as kinds
use Rattle.wal_record.specs.declared.entry.Entry.{Entry}
use Rattle.wal_record.specs.declared.entry.Entry.TheVariants.{Rec, Lock, Refused, Said, Declined, Acked, Repaired, Began}
use Rattle.command_laws.specs.Commands.{Among, Amid, IsBesideRequest, IsUpkeep, TakesBack, end_record}
use Rattle.command_laws.specs.Names.{Active}
use Rattle.command_laws.proofs.Listed.{among_own}
use Rattle.store_life.specs.Steps.{IsStep}
use Rattle.store_life.specs.Turns.{IsOfAbort}
use Rattle.script.specs.declared.command.Command.{Command}
use Rattle.script.specs.declared.command.Command.TheVariants as commands
use Rattle.life_commands.specs.Rows.{IsBeside, IsOwn, MayEnter, WroteInRoom}
use Rattle.life_commands.specs.Text.{answer_lines}
use Rattle.life_commands.specs.Turns.{Life, Stage}

-- ---- entries among others

pub all_map : (P Q : Entry → Type 0) → ((e : Entry) → P e → Q e) → (es : List Entry) → All P es → All Q es
all_map P Q f [] h = All-nil Q
all_map P Q f (e ∷ es) h = All-cons Q e es (f e (All-head P e es h)) (all_map P Q f es (All-tail P e es h))

pub among_map : (P Q : Entry → Type 0) → ((e : Entry) → P e → Q e) → (own es : List Entry) → Among P own es → Among Q own es
among_map P Q f [] es h = h
among_map P Q f (o ∷ own) es (before, all, rest, is, more) = (before, all_map P Q f before all, rest, is, among_map P Q f own rest more)

pub amid_among : (P : Entry → Type 0) (first : Entry) (more own es : List Entry) → own ≡ first ∷ more → Amid P own es → Among P own es
amid_among P first more own es is h = subst (λ (l : List Entry). Among P l es) (sym is) (subst (λ (l : List Entry). Amid P l es) is h)

pub amid_none : (P : Entry → Type 0) (own es : List Entry) → own ≡ [] → Amid P own es → All P es
amid_none P own es is h = subst (λ (l : List Entry). Amid P l es) is h

-- others, and behind them one own entry
pub among_last : (P : Entry → Type 0) (es : List Entry) (last : Entry) → All P es → Among P (last ∷ []) (es ++ last ∷ [])
among_last P es last all = (es, all, [], refl, refl)

among_more : (P : Entry → Type 0) (o : Entry) (more : List Entry) (e : Entry) (es : List Entry) → P e → Among P (o ∷ more) es → Among P (o ∷ more) (e ∷ es)
among_more P o more e es p (before, all, rest, is, m) = (e ∷ before, All-cons P e before p all, rest, ap (λ (l : List Entry). e ∷ l) is, m)

-- ---- a command's entries

abbrev IsNoRequest : Command → Type 0
IsNoRequest (commands.Ask name request) = ⊥
IsNoRequest _ = Unit {0}

room_free : (tells : Type 0) (life : Option Life) (c : Command) (own es : List Entry) → IsNoRequest c → WroteInRoom tells life c own es
room_free tells None c own es free = tt
room_free tells (Some l) (commands.Ask name request) own es free = absurd free
room_free tells (Some l) _ own es free = tt

-- a request that was declined
pub room_declined : (tells : Type 0) (life : Option Life) (name : List ℕ) (request asked : Request) (session tx : ℕ) (why : _) (es : List Entry) → WroteInRoom tells life (commands.Ask name request) (Declined session tx asked why ∷ []) es
room_declined tells None name request asked session tx why es = tt
room_declined tells (Some l) name request asked session tx why es = λ t before is. tt

pub room_refused : (tells : Type 0) (life : Option Life) (name : List ℕ) (request : Request) (tx holder : ℕ) (range : _) (mode : _) (es : List Entry) → WroteInRoom tells life (commands.Ask name request) (Refused tx range mode holder ∷ []) es
room_refused tells None name request tx holder range mode es = tt
room_refused tells (Some l) name request tx holder range mode es = λ t before is. tt

-- the own entries alone
pub enters_own : (tells : Type 0) (s : Stage) (c : Command) (own : List Entry) → IsNoRequest c → IsOwn tells s c own → MayEnter tells s c own
enters_own tells s c own free is = record { own = own; is = is; among = among_own (IsBeside tells s c) own; room = room_free tells s.life c own own free }

pub enters_among : (tells : Type 0) (s : Stage) (c : Command) (own es : List Entry) → IsNoRequest c → IsOwn tells s c own → Among (IsBeside tells s c) own es → MayEnter tells s c es
enters_among tells s c own es free is among = record { own = own; is = is; among = among; room = room_free tells s.life c own es free }

-- ---- beside a request

pub beside_map : (P Q : ℕ → Type 0) → ((t : ℕ) → P t → Q t) → (tx : ℕ) (lock : Held) (e : Entry) → IsBesideRequest P tx lock e → IsBesideRequest Q tx lock e
beside_map P Q f tx lock (Lock t range mode) h = h
beside_map P Q f tx lock (Rec lsn (kinds.Undo u)) h = f u.tx h
beside_map P Q f tx lock (Rec lsn (kinds.End e)) h = f e.tx h
beside_map P Q f tx lock _ h = h

-- it tells nothing
skipped : (P : ℕ → Type 0) (tx : ℕ) (lock : Held) (active : List Active) (name : List ℕ) (request : Request) (e : Entry) (es : List Entry) → IsBesideRequest P tx lock e → answer_lines active name request (e ∷ es) ≡ answer_lines active name request es
skipped P tx lock active name request (Lock t range mode) es h = refl
skipped P tx lock active name request (Rec lsn r) es h = refl
skipped P tx lock active name request (Repaired page) es h = refl
skipped P tx lock active name request _ es h = absurd h

module _ (P : ℕ → Type 0) (tx : ℕ) (lock : Held) (active : List Active) (name : List ℕ) (request : Request) where
  abbrev Beside : Entry → Type 0
  Beside e = IsBesideRequest P tx lock e

  skipped_all : (before es : List Entry) → All Beside before → answer_lines active name request (before ++ es) ≡ answer_lines active name request es
  skipped_all [] es all = refl
  skipped_all (e ∷ before) es all = skipped P tx lock active name request e (before ++ es) (All-head Beside e before all) ∙ skipped_all before es (All-tail Beside e before all)

  own_first : (o : Entry) (own rest : List Entry) → answer_lines active name request rest ≡ answer_lines active name request own → answer_lines active name request (o ∷ rest) ≡ answer_lines active name request (o ∷ own)
  own_first (Said session t asked reply) own rest same = refl
  own_first (Declined session t asked why) own rest same = refl
  own_first (Refused t range mode holder) own rest same = refl
  own_first (Rec lsn r) own rest same = same
  own_first (Lock t range mode) own rest same = same
  own_first (Acked session t) own rest same = same
  own_first (Repaired page) own rest same = same
  own_first (Began session t) own rest same = same

  -- the answer is among the own entries
  pub answer_own : (own es : List Entry) → Among Beside own es → answer_lines active name request es ≡ answer_lines active name request own
  answer_own [] es is = ap (λ (l : List Entry). answer_lines active name request l) is
  answer_own (o ∷ own) es (before, all, rest, is, more) =
      ap (λ (l : List Entry). answer_lines active name request l) is ∙ skipped_all before (o ∷ rest) all ∙ own_first o own rest (answer_own own rest more)

-- ---- help

pub step_map : (P Q : ℕ → Type 0) → ((t : ℕ) → P t → Q t) → (e : Entry) → IsStep P e → IsStep Q e
step_map P Q f (Rec lsn (kinds.Undo u)) h = f u.tx h
step_map P Q f (Rec lsn (kinds.End e)) h = f e.tx h
step_map P Q f _ h = absurd h

-- ---- an abort that was cut off

-- with an End behind what was entered, that is what an abort enters
pub record Undoes (untold : Type 0) (tx : ℕ) (es : List Entry) : Type 0 where
  pub undos : List Entry
  pub each : All (TakesBack untold tx) undos
  pub among : Among IsUpkeep (undos ++ Rec 0 (end_record tx 0) ∷ []) (es ++ Rec 0 (end_record tx 0) ∷ [])

among_undo : (tx : ℕ) (e : Entry) (undos es : List Entry) → IsUpkeep e → Among IsUpkeep (undos ++ Rec 0 (end_record tx 0) ∷ []) es → Among IsUpkeep (undos ++ Rec 0 (end_record tx 0) ∷ []) (e ∷ es)
among_undo tx e [] es keeps a = among_more IsUpkeep (Rec 0 (end_record tx 0)) [] e es keeps a
among_undo tx e (o ∷ undos) es keeps a = among_more IsUpkeep o (undos ++ Rec 0 (end_record tx 0) ∷ []) e es keeps a

takes_back_map : (U W : Type 0) → (U → W) → (tx : ℕ) (e : Entry) → TakesBack U tx e → TakesBack W tx e
takes_back_map U W f tx (Rec lsn (kinds.Undo u)) h = h
takes_back_map U W f tx (Rec lsn (kinds.End e)) h = (h.0, f h.1)
takes_back_map U W f tx _ h = absurd h

pub all_taken : (U W : Type 0) → (U → W) → (tx : ℕ) (es : List Entry) → All (TakesBack U tx) es → All (TakesBack W tx) es
all_taken U W f tx es all = all_map (TakesBack U tx) (TakesBack W tx) (takes_back_map U W f tx) es all

pub undoes : (untold : Type 0) (tx : ℕ) (es : List Entry) → All (IsOfAbort ⊥ tx) es → Undoes untold tx es
undoes untold tx [] all = record { undos = []; each = All-nil (TakesBack untold tx); among = among_own IsUpkeep (Rec 0 (end_record tx 0) ∷ []) }
undoes untold tx (e ∷ es) all =
    let more = undoes untold tx es (All-tail (IsOfAbort ⊥ tx) e es all) in
    elim (All-head (IsOfAbort ⊥ tx) e es all) [
      | inl taken ↦ record {
        undos = e ∷ more.undos;
        each = All-cons (TakesBack untold tx) e more.undos (takes_back_map ⊥ untold (λ never. absurd never) tx e taken) more.each;
        among = ([], All-nil IsUpkeep, es ++ Rec 0 (end_record tx 0) ∷ [], refl, more.among);
      }
      | inr keeps ↦ record { undos = more.undos; each = more.each; among = among_undo tx e more.undos (es ++ Rec 0 (end_record tx 0) ∷ []) keeps more.among }
    ]
