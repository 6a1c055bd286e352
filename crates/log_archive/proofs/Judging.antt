-- The record of an item that has the length and the page that are told.
use Rattle.std.proofs.Common.{◌≡◌, ℕ, ◌+◌, Bool, true, cond, List, length, drop, Ok, Err, sym, ap, ◌∙◌, arith}
use Rattle.std.proofs.lemmas.List.{drop_at, length-append}
use Rattle.vault_objects.proofs.Numbers.{is_eq}
use Rattle.wal_record.specs.Chains.{names}
use Rattle.wal_record.specs.Spelling.{spelling}
use Rattle.wal_record.specs.Reading.{Read, record_at}
use Rattle.wal_record.specs.declared.record.Record.{Record}
use Rattle.state_codec.proofs.Fields.{IsBytes}
use Rattle.record_codec.proofs.AnyKind.{read_takes}
use Rattle.log_archive.specs.Reading.{judged}
use Rattle.log_archive.specs.declared.item.Numbered.{Numbered}

pub judged_ok : (page lsn size left : ℕ) (bytes : List ℕ) (rec : Record) (len : ℕ) (after rest : List ℕ) → IsBytes bytes → record_at bytes ≡ Ok (rec, rest) → len + length rest ≡ length bytes → len ≡ size → names page rec ≡ true → after ≡ drop len bytes
    → judged page lsn size left bytes (record_at bytes) ≡ Ok (record { lsn = lsn; rec = rec }, after)
judged_ok page lsn size left bytes rec len after rest fits e total is named behind =
    let t = read_takes bytes (rec, rest) fits e in
    let long : length (spelling rec) ≡ len = omega (arith, total, ap length t.0.parts, length-append (spelling rec) rest) in
    let same : rest ≡ after = sym (drop_at (spelling rec) rest len long) ∙ ap (drop len) (sym t.0.parts) ∙ sym behind in
    let size_is : length bytes ≡ size + length rest = omega (arith, total, is) in
    ap (judged page lsn size left bytes) e
    ∙ ap (λ (b : Bool). cond b (cond (names page rec) (Ok (record { lsn = lsn; rec = rec }, rest)) (Err (length bytes))) (Err left)) (is_eq (length bytes) (size + length rest) size_is)
    ∙ ap (λ (b : Bool). cond b (Ok (record { lsn = lsn; rec = rec }, rest)) (Err (length bytes))) named
    ∙ ap (λ (l : List ℕ). let r : Read Numbered = Ok (record { lsn = lsn; rec = rec }, l) in r) same
