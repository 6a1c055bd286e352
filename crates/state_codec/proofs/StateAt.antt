-- The reading of a state from its parts.
use Rattle.std.proofs.Common.{◌≡◌, ℕ, List, Option, Some, Ok, refl, sym, ap, subst, ◌∙◌}
use Rattle.std.specs.Int.{w8}
use Rattle.wal_record.specs.State.{is_text, end_by, state_size}
use Rattle.wal_record.specs.Reading.{Read, ◌>>=◌, any_number, number_at, text_at, high_at, foster_at, without_rows, rows_at, state_at}
use Rattle.wal_record.specs.declared.page.PageState.{PageState}
use Rattle.wal_record.specs.declared.page.Foster.{Foster}
use Rattle.wal_record.specs.declared.page.Rows.{Rows}
use Rattle.state_codec.specs.declared.fault.FieldFault.{FieldFault}
use Rattle.state_codec.specs.declared.fault.FieldFault.TheVariants.{Memory, Bad}
use Rattle.state_codec.specs.Gives.{Fails}

fails_bind : {A B : Type 0} (e : FieldFault) (r : Read A) (k : A × List ℕ → Read B) → Fails e r → Fails e (r >>= k)
fails_bind Memory r k f = tt
fails_bind {A} {B} (Bad left) r k f = ap (λ (x : Read A). x >>= k) f

module _ (bytes : List ℕ) (level : ℕ) (r1 : List ℕ) (low r2 : List ℕ) (high : Option (List ℕ)) (r3 : List ℕ) (foster : Option Foster) (r4 : List ℕ)
    (e1 : number_at w8 any_number bytes ≡ Ok (level, r1)) (e2 : text_at is_text r1 ≡ Ok (low, r2)) (e3 : high_at low r2 ≡ Ok (high, r3)) (e4 : foster_at low high r3 ≡ Ok (foster, r4)) where
  made : Rows × List ℕ → Read PageState
  made rows = Ok (record { level = level; low = Some low; high = high; foster = foster; rows = rows.0 }, rows.1)

  parts : state_at bytes ≡ (rows_at level (record { low = Some low; high = end_by foster high }) (state_size (without_rows level low high foster)) r4 >>= made)
  unfolding state_at made
  parts = rw (e1, e2, e3, e4) refl

  module _ (used : ℕ) (low' end : Option (List ℕ)) (u : used ≡ state_size (without_rows level low high foster)) (l : low' ≡ Some low) (h : end ≡ end_by foster high) where
    same : rows_at level (record { low = low'; high = end }) used r4 ≡ rows_at level (record { low = Some low; high = end_by foster high }) (state_size (without_rows level low high foster)) r4
    same =
        ap (λ (n : ℕ). rows_at level (record { low = low'; high = end }) n r4) u
        ∙ ap (λ (x : Option (List ℕ)). rows_at level (record { low = x; high = end }) (state_size (without_rows level low high foster)) r4) l
        ∙ ap (λ (x : Option (List ℕ)). rows_at level (record { low = Some low; high = x }) (state_size (without_rows level low high foster)) r4) h

    pub no_rows : (e : FieldFault) → Fails e (rows_at level (record { low = low'; high = end }) used r4) → Fails e (state_at bytes)
    no_rows e f = rw parts (fails_bind e _ made (subst (λ (r : Read Rows). Fails e r) same f))

    pub with_rows : (high' : Option (List ℕ)) (rows : Rows) (r5 : List ℕ) → high' ≡ high → rows_at level (record { low = low'; high = end }) used r4 ≡ Ok (rows, r5)
        → state_at bytes ≡ Ok (record { level = level; low = low'; high = high'; foster = foster; rows = rows }, r5)
    unfolding made
    with_rows high' rows r5 same_high is =
        parts ∙ ap (λ (r : Read Rows). r >>= made) (sym same ∙ is)
        ∙ sym (ap (λ (x : Option (List ℕ)). let y : Read PageState = Ok (record { level = level; low = x; high = high'; foster = foster; rows = rows }, r5) in y) l
        ∙ ap (λ (x : Option (List ℕ)). let y : Read PageState = Ok (record { level = level; low = Some low; high = x; foster = foster; rows = rows }, r5) in y) same_high)
