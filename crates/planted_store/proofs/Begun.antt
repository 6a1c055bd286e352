-- What a new store begins with.
use Rattle.std.proofs.Common.{◌≡◌, ℕ, ◌≤◌, cond, Bool, List, [], ◌∷◌, ◌++◌, length, length-append, Some, None, refl, ap, ◌∙◌, arith}
use Rattle.std.proofs.lemmas.Bool.{ne_eqb}
use Rattle.std.specs.Int.{w32}
use Rattle.books.specs.Booking.{entry, entry_of}
use Rattle.books.specs.declared.entry.BookEntry.{BookEntry}
use Rattle.log_manager.specs.Payload.{bytes_of}
use Rattle.wal_record.specs.Spelling.{spelling, number_bytes}
use Rattle.wal_record.specs.declared.record.Format.{Format}
use Rattle.wal_record.specs.declared.record.Record.TheVariants as kinds

length-u32 : (n : ℕ) → length (number_bytes w32 n) ≡ 4
unfolding number_bytes
length-u32 n = refl

pub format_size : (f : Format) → length (bytes_of (kinds.Format f ∷ [])) ≤ 4194304
format_size f = let e = length-u32 f.limit in omega (arith, e, length-append (spelling (kinds.Format f)) [])

-- a book of page 1 alone has no other page
pub one_page : (b : List BookEntry) (n : ℕ) → b ≡ [] ++ entry 1 1 0 ∷ [] → 2 ≤ n → entry_of n b ≡ None
one_page b n is low = ap (entry_of n) is ∙ ap (λ (t : Bool). cond t (Some (entry 1 1 0)) None) (ne_eqb 1 n (λ e. omega (arith, e, low)))
