-- The answer at the end of a history: a write stands before it only where there was room.
use Rattle.std.proofs.Common.{◌≡◌, ◌≢◌, ℕ, List, [], ◌∷◌, ◌++◌, None, refl, sym, ap, subst, ◌∙◌, append_assoc, inl, inr}
use Rattle.store_model.specs.declared.reply.Reply.{Reply}
use Rattle.store_model.specs.declared.request.Request.{Request}
use Rattle.wal_record.proofs.Pushes.{untold_push}
use Rattle.wal_record.specs.Legal.{IsToldAs, untold, untold_step}
use Rattle.wal_record.specs.declared.record.Record.{Record}
use Rattle.wal_record.specs.declared.record.Record.TheVariants as kinds
use Rattle.wal_record.specs.declared.entry.Entry.{Entry}
use Rattle.wal_record.specs.declared.entry.Entry.TheVariants.{Rec, Said}
use Rattle.command_laws.specs.Commands.{Tells}
use Rattle.engine.specs.Answers.{HadPlaces, HadRoom}

-- the last items of equal lists are equal, and so is what stands before them
pub last_same : (a b : List Entry) (p q : Entry) → a ++ p ∷ [] ≡ b ++ q ∷ [] → (a ≡ b) × (p ≡ q)
last_same [] [] p q e = (refl, cc)
last_same [] (c ∷ []) p q e = absurd cc
last_same [] (c ∷ d ∷ b) p q e = absurd cc
last_same (c ∷ []) [] p q e = absurd cc
last_same (c ∷ d ∷ a) [] p q e = absurd cc
last_same (c ∷ a) (d ∷ b) p q e =
    let first : c ≡ d = cc in
    let rest : a ++ p ∷ [] ≡ b ++ q ∷ [] = cc in
    let same = last_same a b p q rest in
    (ap (λ (z : Entry). z ∷ a) first ∙ ap (λ (l : List Entry). d ∷ l) same.0, same.1)

-- a write waits for its answer
write_waits : (lsn : ℕ) (r : Record) (request : Request) (reply : Reply) → IsToldAs r request reply → untold_step (Rec lsn r) ≢ None
write_waits lsn (kinds.Write w) request reply told none = absurd cc
write_waits lsn (kinds.Apply a) request reply told none = absurd cc
write_waits lsn _ request reply told none = absurd told

module _ (opening : List Record) (session tx : ℕ) (request : Request) (reply : Reply) where
  abbrev said : Entry
  said = Said session tx request reply

  behind : (before : List Entry) (e : Entry) → before ++ e ∷ said ∷ [] ≡ (before ++ e ∷ []) ++ said ∷ []
  behind before e = sym (append_assoc before (e ∷ []) (said ∷ []))

  -- where the history ends so, and had room, it had room however its end is looked at
  pub had_room : (h before own before' own' : List Entry) → h ≡ before ++ own → Tells session tx request reply own → untold before ≡ None → HadRoom opening before own
      → h ≡ before' ++ own' → Tells session tx request reply own' → HadRoom opening before' own'
  had_room h before own before' own' is tells none room is' (inl e') = subst (HadRoom opening before') (sym e') tt
  had_room h before own before' own' is (inl e) none room is' (inr (lsn', r', told', tx', e')) =
      let ends : before ++ said ∷ [] ≡ (before' ++ Rec lsn' r' ∷ []) ++ said ∷ [] =
      ap (λ (l : List Entry). before ++ l) (sym e) ∙ sym is ∙ is' ∙ ap (λ (l : List Entry). before' ++ l) e' ∙ behind before' (Rec lsn' r') in
      let same = (last_same before (before' ++ Rec lsn' r' ∷ []) said said ends).0 in
      absurd (write_waits lsn' r' request reply told' (sym (untold_push before' (Rec lsn' r')) ∙ ap untold (sym same) ∙ none))
  had_room h before own before' own' is (inr (lsn, r, told, tx, e)) none room is' (inr (lsn', r', told', tx', e')) =
      let ends : (before ++ Rec lsn r ∷ []) ++ said ∷ [] ≡ (before' ++ Rec lsn' r' ∷ []) ++ said ∷ [] =
      sym (behind before (Rec lsn r)) ∙ ap (λ (l : List Entry). before ++ l) (sym e) ∙ sym is ∙ is' ∙ ap (λ (l : List Entry). before' ++ l) e' ∙ behind before' (Rec lsn' r') in
      let both = (last_same (before ++ Rec lsn r ∷ []) (before' ++ Rec lsn' r' ∷ []) said said ends).0 in
      let same = (last_same before before' (Rec lsn r) (Rec lsn' r') both).0 in
      let places : HadPlaces opening before = subst (HadRoom opening before) e room in
      subst (HadRoom opening before') (sym e') (subst (HadPlaces opening) same places)
