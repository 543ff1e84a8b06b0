use Rattle.std.proofs.Common.{ap, subst, arith, ◌∙◌, List, ℕ}
use Rattle.std.proofs.lemmas.Option.{MatchOption-at_some}
use Rattle.disk_label.specs.domain_base.Gate.{IsOpen}
use Rattle.cell_records.specs.Fields.{number_at}
use Rattle.log_ring.specs.Header.{AreHomesOf}
use Rattle.log_ring.proofs.HeaderPages.{is_read}
use Rattle.log_ring.proofs.page.read_header.Goals as goal

pub returns-in-Some : goal.returns-in-Some
returns-in-Some c =
    let is = c.bytes-bytes.ensures.value in
    let homes_of_bytes : AreHomesOf c.bytes-bytes.result.now c.u32_at-count.result c.in-Some.homes.items = MatchOption-at_some _ _ c.in-Some.homes c.in-Some.is c.in_ok-homes.ensures in
    let is_open : IsOpen c.bytes-bytes.result.now = c.is_open.ensures.0 c.if-not-is_open.false in
    is_read c.args.page.now c.u64_at-number.result c.u32_at-count.result c.in-Some.homes.items c.header_of.result (subst IsOpen is is_open) (c.u64_at-number.ensures ∙ ap (λ (l : List ℕ). number_at 8 512 l) is) (omega arith)
    (c.u32_at-count.ensures ∙ ap (λ (l : List ℕ). number_at 4 520 l) is) (omega arith) (omega arith) (subst (λ (l : List ℕ). AreHomesOf l c.u32_at-count.result c.in-Some.homes.items) is homes_of_bytes) c.header_of.ensures
