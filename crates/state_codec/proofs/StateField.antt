-- The state of a page is a field: what is read keeps the rules of a state, and a state that keeps them is read again.
use Rattle.std.proofs.Common.{◌≡◌, ℕ, ◌+◌, ◌≤◌, true, leb, List, ◌++◌, length, Option, Some, None, Ok, Err, refl, sym, ap, subst, ◌∙◌, append_assoc, arith}
use Rattle.std.specs.Prelude.{IsTrue, ◌&&◌}
use Rattle.std.specs.Int.{w8}
use Rattle.std.proofs.lemmas.Bool.Decides.{nat_tests}
use Rattle.std.proofs.lemmas.List.{append-nil}
use Rattle.store_model.specs.Range.{Interval, is_below}
use Rattle.store_model.proofs.Bools.{both_true, and_true}
use Rattle.wal_record.specs.State.{is_text, is_child, text_of, end_by, own_part, state_size, high_size, foster_size, rows_size, foster_fits, KeepsRows, KeepsState}
use Rattle.wal_record.specs.Spelling.{number_bytes, text_bytes, maybe_bytes, foster_bytes, rows_bytes, state_bytes}
use Rattle.wal_record.specs.Reading.{Read, ◌>>=◌, any_number, number_at, text_at, high_at, foster_pointer_at, is_between, foster_at, without_rows, rows_at, state_at}
use Rattle.wal_record.specs.declared.page.PageState.{PageState}
use Rattle.wal_record.specs.declared.page.Foster.{Foster}
use Rattle.wal_record.specs.declared.page.Rows.{Rows}
use Rattle.state_codec.proofs.Fields.{IsField, IsBytes, Takes, Takes-then, Takes-shorter, bind_ok, ok_is, within_bind, step, done, respelled}
use Rattle.state_codec.proofs.FieldKinds.{a_u8, an_argument, a_child, FitsIfThere, maybe_field, kept_field}
use Rattle.state_codec.proofs.RowsField.{rows_field, is_there}
use Rattle.state_codec.proofs.StateAt.{with_rows}

-- ---- what may be absent

a_high : (low : List ℕ) → IsField (high_at low) (maybe_bytes text_bytes) (λ high. FitsIfThere (λ t. IsTrue (is_text t)) high × IsTrue (is_below (Some low) high))
unfolding high_at
a_high low = kept_field (is_below (Some low)) (maybe_field an_argument)

a_pointer : IsField foster_pointer_at foster_bytes (λ f. IsTrue (is_text f.key) × IsTrue (is_child f.child))
unfolding foster_pointer_at
a_pointer = respelled
    (step an_argument (λ (r : Foster). r.key) (λ r. Unit {0}) (λ r. IsTrue (is_text r.key)) _ (λ r _ h. h) (λ r _ h. h) _ _ (λ key _.
    (step a_child (λ (r : Foster). r.child) (λ r. (Unit {0}) × (r.key ≡ key)) (λ r. IsTrue (is_child r.child)) (λ r. Unit {0}) (λ r _ h. h) (λ r _ h. h) _ _ (λ child _.
    done (record { key = key; child = child }) (λ r. ((Unit {0}) × (r.key ≡ key)) × (r.child ≡ child)) ((tt, refl), refl) (λ r h. λ i. record { key = sym h.0.1 i; child = sym h.1 i })))))
    (λ r. simp append-nil)
    (λ r h. (h.1.0, h.1.1.0))
    (λ r h. (tt, (h.0, (h.1, tt))))

a_foster : (low : List ℕ) (high : Option (List ℕ)) → IsField (foster_at low high) (maybe_bytes foster_bytes) (λ f. FitsIfThere (λ g. IsTrue (is_text g.key) × IsTrue (is_child g.child)) f × IsTrue (is_between low high f))
unfolding foster_at
a_foster low high = kept_field (is_between low high) (maybe_field a_pointer)

foster_keeps : (low : List ℕ) (high : Option (List ℕ)) (f : Option Foster) → FitsIfThere (λ g. IsTrue (is_text g.key) × IsTrue (is_child g.child)) f → IsTrue (is_between low high f) → IsTrue (foster_fits (Some low) high f)
foster_keeps low high None fits b = refl
foster_keeps low high (Some f) fits b = and_true _ _ b (and_true (is_text f.key) (is_child f.child) fits.0 fits.1)

keeps_foster : (low : List ℕ) (high : Option (List ℕ)) (f : Option Foster) → IsTrue (foster_fits (Some low) high f) → FitsIfThere (λ g. IsTrue (is_text g.key) × IsTrue (is_child g.child)) f × IsTrue (is_between low high f)
keeps_foster low high None h = (tt, refl)
keeps_foster low high (Some f) h =
    let a = both_true (is_below (Some low) (Some f.key) && is_below (Some f.key) high) (is_text f.key && is_child f.child) h in
    (both_true (is_text f.key) (is_child f.child) a.1, a.0)

text_or : (o : Option (List ℕ)) → FitsIfThere (λ t. IsTrue (is_text t)) o → IsTrue (is_text (text_of o))
text_or None h = refl
text_or (Some t) h = h

or_text : (o : Option (List ℕ)) → IsTrue (is_text (text_of o)) → FitsIfThere (λ t. IsTrue (is_text t)) o
or_text None h = tt
or_text (Some t) h = h

le_true : (m n : ℕ) → leb m n ≡ true → m ≤ n
le_true m n h = grind (arith, nat_tests)

high_small : (o : Option (List ℕ)) → IsTrue (is_text (text_of o)) → high_size o ≤ 66
high_small None h = omega arith
high_small (Some t) h = omega (arith, le_true (length t) 64 h)

foster_small : (o : Option Foster) → FitsIfThere (λ g. IsTrue (is_text g.key) × IsTrue (is_child g.child)) o → foster_size o ≤ 70
foster_small None h = omega arith
foster_small (Some f) h = omega (arith, le_true (length f.key) 64 h.0)

-- ---- the state

module _ (level : ℕ) (low : List ℕ) (high : Option (List ℕ)) (foster : Option Foster) where
  abbrev used : ℕ
  used = state_size (without_rows level low high foster)

  used_small : IsTrue (is_text low) → IsTrue (is_text (text_of high)) → FitsIfThere (λ g. IsTrue (is_text g.key) × IsTrue (is_child g.child)) foster → used ≤ 4051
  used_small t h f = omega (arith, le_true (length low) 64 t, high_small high h, foster_small foster f)

  made : Rows × List ℕ → Read PageState
  made rows = Ok (record { level = level; low = Some low; high = high; foster = foster; rows = rows.0 }, rows.1)

  with_all : List ℕ → Read PageState
  with_all bytes = rows_at level (own_part (without_rows level low high foster)) used bytes >>= made

module _ (level : ℕ) (low : List ℕ) (high : Option (List ℕ)) where
  with_high : Option Foster × List ℕ → Read PageState
  with_high foster = with_all level low high foster.0 foster.1

module _ (level : ℕ) (low : List ℕ) where
  with_low : Option (List ℕ) × List ℕ → Read PageState
  with_low high = foster_at low high.0 high.1 >>= with_high level low high.0

module _ (level : ℕ) where
  with_level : List ℕ × List ℕ → Read PageState
  with_level low = high_at low.0 low.1 >>= with_low level low.0

with_none : ℕ × List ℕ → Read PageState
with_none level = text_at is_text level.1 >>= with_level level.0

state_is : (bytes : List ℕ) → state_at bytes ≡ (number_at w8 any_number bytes >>= with_none)
unfolding state_at with_none with_level with_low with_high with_all made
state_is bytes = refl

rows_part : (s : PageState) (low : List ℕ) → s.low ≡ Some low → own_part (without_rows s.level low s.high s.foster) ≡ own_part s
rows_part s low e = λ i. record { low = sym e i; high = end_by s.foster s.high }

five : (a b c d e : List ℕ) → a ++ (b ++ (c ++ (d ++ e))) ≡ a ++ b ++ c ++ d ++ e
five a b c d e = simp append_assoc

-- the bytes of a state, each field before the bytes of all that follow
laid_out : (s : PageState) (rest : List ℕ) → List ℕ
laid_out s rest = number_bytes w8 s.level ++ (text_bytes (text_of s.low) ++ (maybe_bytes text_bytes s.high ++ (maybe_bytes foster_bytes s.foster ++ (rows_bytes s.rows ++ rest))))

laid : (s : PageState) (rest : List ℕ) → state_bytes s ++ rest ≡ laid_out s rest
unfolding state_bytes laid_out
laid s rest = simp append_assoc

pub state_field : IsField state_at state_bytes KeepsState
unfolding with_none with_level with_low with_high with_all made state_bytes laid_out
state_field = record { takes = takes; again = again; within = within }
  where
    takes : (bytes : List ℕ) (y : PageState × List ℕ) → IsBytes bytes → state_at bytes ≡ Ok y → Takes bytes (state_bytes y.0) y.1 × KeepsState y.0
    takes bytes y fits e =
        let a = bind_ok (number_at w8 any_number bytes) with_none y (sym (state_is bytes) ∙ e) in
        let ta = a_u8.takes bytes a.0 fits a.1 in
        let b = bind_ok (text_at is_text a.0.1) (with_level a.0.0) y a.2 in
        let tb = an_argument.takes a.0.1 b.0 ta.0.rest_fits b.1 in
        let c = bind_ok (high_at b.0.0 b.0.1) (with_low a.0.0 b.0.0) y b.2 in
        let tc = (a_high b.0.0).takes b.0.1 c.0 tb.0.rest_fits c.1 in
        let d = bind_ok (foster_at b.0.0 c.0.0 c.0.1) (with_high a.0.0 b.0.0 c.0.0) y c.2 in
        let td = (a_foster b.0.0 c.0.0).takes c.0.1 d.0 tc.0.rest_fits d.1 in
        let part = own_part (without_rows a.0.0 b.0.0 c.0.0 d.0.0) in
        let used = state_size (without_rows a.0.0 b.0.0 c.0.0 d.0.0) in
        let high_text = text_or c.0.0 tc.1.0 in
        let small = used_small a.0.0 b.0.0 c.0.0 d.0.0 tb.1 high_text td.1.0 in
        let f = bind_ok (rows_at a.0.0 part used d.0.1) (made a.0.0 b.0.0 c.0.0 d.0.0) y d.2 in
        let tf = (rows_field part used a.0.0 small).takes d.0.1 f.0 td.0.rest_fits f.1 in
        let found : PageState = record { level = a.0.0; low = Some b.0.0; high = c.0.0; foster = d.0.0; rows = f.0.0 } in
        let keeps : KeepsState found = record {
          level = ta.1;
          fences = tc.1.1;
          texts = and_true (is_text b.0.0) (is_text (text_of c.0.0)) tb.1 high_text;
          foster = foster_keeps b.0.0 c.0.0 d.0.0 td.1.0 td.1.1;
          rows = tf.1.0;
          size = omega (arith, tf.1.1);
        } in
        let text : Takes bytes (number_bytes w8 a.0.0 ++ (text_bytes b.0.0 ++ (maybe_bytes text_bytes c.0.0 ++ (maybe_bytes foster_bytes d.0.0 ++ rows_bytes f.0.0)))) f.0.1 =
        Takes-then bytes (number_bytes w8 a.0.0) a.0.1 _ f.0.1 ta.0
        (Takes-then a.0.1 (text_bytes b.0.0) b.0.1 _ f.0.1 tb.0
        (Takes-then b.0.1 (maybe_bytes text_bytes c.0.0) c.0.1 _ f.0.1 tc.0
        (Takes-then c.0.1 (maybe_bytes foster_bytes d.0.0) d.0.1 (rows_bytes f.0.0) f.0.1 td.0 tf.0))) in
        let spelled : number_bytes w8 a.0.0 ++ (text_bytes b.0.0 ++ (maybe_bytes text_bytes c.0.0 ++ (maybe_bytes foster_bytes d.0.0 ++ rows_bytes f.0.0))) ≡ state_bytes found = five (number_bytes w8 a.0.0) (text_bytes b.0.0) (maybe_bytes text_bytes c.0.0) (maybe_bytes foster_bytes d.0.0) (rows_bytes f.0.0) in
        subst (λ (z : PageState × List ℕ). Takes bytes (state_bytes z.0) z.1 × KeepsState z.0) (ok_is (found, f.0.1) y f.2) (subst (λ (t : List ℕ). Takes bytes t f.0.1) spelled text, keeps)

    again : (s : PageState) (rest : List ℕ) → KeepsState s → state_at (state_bytes s ++ rest) ≡ Ok (s, rest)
    again s rest k =
        let low = text_of s.low in
        let there : s.low ≡ Some low = is_there s.low s.high k.fences in
        let texts = both_true (is_text low) (is_text (text_of s.high)) k.texts in
        let foster = keeps_foster low s.high s.foster (subst (λ (x : Option (List ℕ)). IsTrue (foster_fits x s.high s.foster)) there k.foster) in
        let fences : IsTrue (is_below (Some low) s.high) = subst (λ (x : Option (List ℕ)). IsTrue (is_below x s.high)) there k.fences in
        let used = state_size (without_rows s.level low s.high s.foster) in
        let part = own_part (without_rows s.level low s.high s.foster) in
        let small = used_small s.level low s.high s.foster texts.0 texts.1 foster.0 in
        let r4 = rows_bytes s.rows ++ rest in
        let r3 = maybe_bytes foster_bytes s.foster ++ r4 in
        let r2 = maybe_bytes text_bytes s.high ++ r3 in
        let r1 = text_bytes low ++ r2 in
        let rows_keep : KeepsRows s.level part s.rows = subst (λ (p : Interval). KeepsRows s.level p s.rows) (sym (rows_part s low there)) k.rows in
        let room : used + rows_size s.rows ≤ 4051 = omega (arith, k.size) in
        ap state_at (laid s rest)
        ∙ with_rows (laid_out s rest) s.level r1 low r2 s.high r3 s.foster r4
        (a_u8.again s.level r1 k.level) (an_argument.again low r2 texts.0) ((a_high low).again s.high r3 (or_text s.high texts.1, fences)) ((a_foster low s.high).again s.foster r4 foster)
        used s.low (end_by s.foster s.high) refl there refl s.high s.rows rest refl
        (ap (λ (x : Option (List ℕ)). rows_at s.level (record { low = x; high = end_by s.foster s.high }) used r4) there ∙ (rows_field part used s.level small).again s.rows rest (rows_keep, room))

    never : (level : ℕ) (low : List ℕ) (high : Option (List ℕ)) (foster : Option Foster) (g : Rows × List ℕ) (left : ℕ) → made level low high foster g ≡ Err left → ⊥
    never level low high foster g left e = absurd cc

    within : (bytes : List ℕ) (left : ℕ) → IsBytes bytes → state_at bytes ≡ Err left → left ≤ length bytes
    within bytes left fits e =
        within_bind (number_at w8 any_number bytes) with_none left (length bytes) (sym (state_is bytes) ∙ e) (λ d h. a_u8.within bytes d fits h) (λ a ha ea.
        let ta = a_u8.takes bytes a fits ha in
        let sa = Takes-shorter bytes (number_bytes w8 a.0) a.1 ta.0 in
        within_bind (text_at is_text a.1) (with_level a.0) left (length bytes) ea (λ d h. let le = an_argument.within a.1 d ta.0.rest_fits h in omega arith) (λ b hb eb.
        let tb = an_argument.takes a.1 b ta.0.rest_fits hb in
        let sb = Takes-shorter a.1 (text_bytes b.0) b.1 tb.0 in
        within_bind (high_at b.0 b.1) (with_low a.0 b.0) left (length bytes) eb (λ d h. let le = (a_high b.0).within b.1 d tb.0.rest_fits h in omega arith) (λ c hc ec.
        let tc = (a_high b.0).takes b.1 c tb.0.rest_fits hc in
        let sc = Takes-shorter b.1 (maybe_bytes text_bytes c.0) c.1 tc.0 in
        within_bind (foster_at b.0 c.0 c.1) (with_high a.0 b.0 c.0) left (length bytes) ec (λ d h. let le = (a_foster b.0 c.0).within c.1 d tc.0.rest_fits h in omega arith) (λ f hf ef.
        let tf = (a_foster b.0 c.0).takes c.1 f tc.0.rest_fits hf in
        let sf = Takes-shorter c.1 (maybe_bytes foster_bytes f.0) f.1 tf.0 in
        let small = used_small a.0 b.0 c.0 f.0 tb.1 (text_or c.0 tc.1.0) tf.1.0 in
        within_bind (rows_at a.0 (own_part (without_rows a.0 b.0 c.0 f.0)) (state_size (without_rows a.0 b.0 c.0 f.0)) f.1) (made a.0 b.0 c.0 f.0) left (length bytes) ef
        (λ d h. let le = (rows_field (own_part (without_rows a.0 b.0 c.0 f.0)) (state_size (without_rows a.0 b.0 c.0 f.0)) a.0 small).within f.1 d tf.0.rest_fits h in omega arith)
        (λ g hg eg. absurd (never a.0 b.0 c.0 f.0 g left eg))))))
