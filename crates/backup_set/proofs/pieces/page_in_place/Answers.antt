use Rattle.std.proofs.Common.{ℕ, take, Some, Ok, Err, sym, ap, ◌∙◌, arith}
use Rattle.page_image.specs.declared.sealed.Sealed.{Sealed}
use Rattle.wal_record.specs.Upkeep.{segment_of}
use Rattle.backup_set.specs.Answers.{place_of}
use Rattle.backup_set.specs.Reading.{head_at}
use Rattle.backup_set.proofs.Answering.{in_place}
use Rattle.backup_set.proofs.Placed.{counted_there, long_enough, no_bad_head, no_fault, opened}
use Rattle.backup_set.proofs.pieces.page_in_place.Goals as goal

pub returns-in-Ok-open_page-clause-held : goal.returns-in-Ok-open_page-clause-held
returns-in-Ok-open_page-clause-held c bytes head image =
    in_place c.args.backup (segment_of c.args.page) c.args.page c.in-Ok.count (place_of c.args.page) bytes c.args.head.now c.args.image.now c.in-Some.image c.in-Ok-open_page.sealed head image c.in-Some.ensures.1
    (ap (λ (s : ℕ). head_at c.args.backup s (take 20 c.args.head.now)) (sym c.segment_of.ensures) ∙ c.in-Ok.ensures.count.2) (omega (arith, c.if-count-place_of.false, c.place_of.ensures)) c.in-Ok-open_page.ensures.found

pub returns-in-Err-VaultBad-clause-only : goal.returns-in-Err-VaultBad-clause-only
returns-in-Err-VaultBad-clause-only c = λ x stands. absurd (no_bad_head c.args.backup c.args.page c.args.head.now c.args.image.now x stands c.segment_of.result c.in-Err-VaultBad.field-0 c.segment_of.ensures
    (let is = c.in-Err-VaultBad.field-0-is in λ m. absurd (cc (is, m))) c.in-Err-VaultBad.ensures.refused)

pub returns-then-count-place_of-clause-only : goal.returns-then-count-place_of-clause-only
returns-then-count-place_of-clause-only c = λ x stands. absurd (counted_there c.args.backup c.args.page c.args.head.now c.args.image.now x stands c.segment_of.result c.in-Ok.count c.place_of.result c.segment_of.ensures c.in-Ok.ensures.count.2 c.place_of.ensures c.if-count-place_of.true)

pub returns-in_default-clause-only : goal.returns-in_default-clause-only
returns-in_default-clause-only c = λ x stands. absurd (long_enough c.args.backup c.args.page c.args.head.now c.args.image.now x stands c.in_default.ensures)

pub returns-in-Err-Digest-clause-only : goal.returns-in-Err-Digest-clause-only
returns-in-Err-Digest-clause-only c = λ x stands. absurd (no_fault x c.in-Err-Digest.field-0 (let is = c.in-Err-Digest.field-0-is in λ m. absurd (cc (is, m)))
    (opened c.args.backup c.args.page c.args.head.now c.args.image.now x stands c.in-Some.image (Err c.in-Err-Digest.field-0) c.in-Some.ensures.1 c.in-Err-Digest.ensures.only))

pub returns-in-Err-Number-clause-only : goal.returns-in-Err-Number-clause-only
returns-in-Err-Number-clause-only c = λ x stands. absurd (no_fault x c.in-Err-Number.field-0 (let is = c.in-Err-Number.field-0-is in λ m. absurd (cc (is, m)))
    (opened c.args.backup c.args.page c.args.head.now c.args.image.now x stands c.in-Some.image (Err c.in-Err-Number.field-0) c.in-Some.ensures.1 c.in-Err-Number.ensures.only))

pub returns-in-Err-Format-clause-only : goal.returns-in-Err-Format-clause-only
returns-in-Err-Format-clause-only c = λ x stands. absurd (no_fault x c.in-Err-Format.field-0 (let is = c.in-Err-Format.field-0-is in λ m. absurd (cc (is, m)))
    (opened c.args.backup c.args.page c.args.head.now c.args.image.now x stands c.in-Some.image (Err c.in-Err-Format.field-0) c.in-Some.ensures.1 c.in-Err-Format.ensures.only))

pub returns-in-Ok-open_page-clause-only : goal.returns-in-Ok-open_page-clause-only
returns-in-Ok-open_page-clause-only c = λ x stands. ap (λ (y : Sealed). Some y) (opened c.args.backup c.args.page c.args.head.now c.args.image.now x stands c.in-Some.image (Ok c.in-Ok-open_page.sealed) c.in-Some.ensures.1 c.in-Ok-open_page.ensures.only)
