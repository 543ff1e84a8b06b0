use Rattle.std.proofs.Common.{◌≡◌, ℕ, List, ◌+◌, ◌-◌, ◌%◌, ◌/◌, length, get_or, map, take, drop, unwrap_or, ap, sym, ◌∙◌, arith}
use Rattle.std.proofs.lemmas.List.FromFn.{length-map-range_with_len}
use Rattle.std.specs.List.{range_with_len}
use Rattle.std.specs.FinMap.{get}
use Rattle.domain_memory.specs.domain_base.Page.{zero_bytes}
use Rattle.domain_memory.specs.fileset_model.Pages.{Pages, byte_at}
use Rattle.domain_memory.proofs.OfFilesetModel.PageLemmas.{byte_at-page, run-range_with_len}
use Rattle.file_changes.specs.Reading.{pages_at}
use Rattle.file_changes.proofs.reading.bytes_in_page.Goals as goal

pub returns-clause-bytes : goal.returns-clause-bytes
returns-clause-bytes c = λ path all entry fileset has.
    let x = c.args.x in
    let at = x % 8192 in
    let pages : Pages = pages_at fileset.tree path in
    let page = c.bytes.result.now in
    let n = at + c.min-len.result - at in
    let here : page ≡ unwrap_or (get pages (x / 8192)) (zero_bytes 8192) =
    c.bytes.ensures.value ∙ c.page_or-page.ensures path all entry fileset has ∙ ap (λ (zeros : List ℕ). unwrap_or (get pages (x / 8192)) zeros) c.requires.zeros in
    let run : take n (drop at page) ≡ map (byte_at pages) (range_with_len x n) =
    run-range_with_len (byte_at pages) page x at n (omega (arith, c.bytes.ensures.len, c.min-len.ensures))
    (λ i y low high same. ap (λ (p : List ℕ). get_or p i 0) here ∙ byte_at-page pages x i y low (omega (arith, high, c.min-len.ensures)) same) in
    let len : n ≡ length (take n (drop at page)) = sym (ap (λ (l : List ℕ). length l) run ∙ length-map-range_with_len (byte_at pages) x n) in
    run ∙ ap (λ k. map (byte_at pages) (range_with_len x k)) len
