use Rattle.std.proofs.Common.{◌≡◌, ◌∙◌, ◌+◌, ◌-◌, drop, take, sym, arith}
use Rattle.std.proofs.lemmas.Bool.{both_ways}
use Rattle.directory_pages.specs.Rows.{are_rows as rows_there}
use Rattle.directory_pages.specs.RowPage.{has_header as header_there, size_of}
use Rattle.directory_pages.proofs.Checked.{good_page}
use Rattle.directory_pages.proofs.PageParts.{header_is, tested}
use Rattle.directory_pages.proofs.form.are_page_bytes.Goals as goal

pub returns-then-not-has_header-clause-bad : goal.returns-then-not-has_header-clause-bad
returns-then-not-has_header-clause-bad c e rows is =
    let bytes = c.args.bytes.now in
    both_ways (header_there bytes) (sym c.has_header.ensures ∙ c.if-not-has_header.true) (header_is bytes rows is)

pub returns-clause-good : goal.returns-clause-good
returns-clause-good c are =
    let bytes = c.args.bytes.now in
    let size : 16 + c.from-end.result - 16 ≡ size_of bytes = omega (arith, c.from-end.ensures ∙ c.u16_at.ensures) in
    let all = (λ i. rows_there (sym c.u16_at-2.ensures i) (take (sym size i) (drop 16 bytes))) ∙ sym c.are_rows.ensures ∙ are in
    good_page bytes (λ i. omega (arith, c.type_inv.bytes i)) c.requires (sym c.has_header.ensures ∙ c.if-not-has_header.false) all

pub returns-clause-bad : goal.returns-clause-bad
returns-clause-bad c none rows is =
    let bytes = c.args.bytes.now in
    let size : 16 + c.from-end.result - 16 ≡ size_of bytes = omega (arith, c.from-end.ensures ∙ c.u16_at.ensures) in
    let all = (λ i. rows_there (c.u16_at-2.ensures i) (take (size i) (drop 16 bytes))) ∙ tested bytes rows is in
    both_ways c.are_rows.result none (c.are_rows.ensures ∙ all)
