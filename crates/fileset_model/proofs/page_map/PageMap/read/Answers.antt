use Rattle.std.proofs.Common.{ℕ, List, ◌++◌, ◌+◌, ◌-◌, ◌≤◌, length, map, ap, ◌∙◌, arith}
use Rattle.std.specs.List.{range_with_len}
use Rattle.std.specs.FinMap.{from_sorted}
use Rattle.fileset_model.specs.Pages.{byte_at}
use Rattle.fileset_model.proofs.PageLemmas.{map-range_with_len-append}
use Rattle.fileset_model.proofs.page_map.PageMap.read.Goals as goal

pub loop-x-preserved : goal.loop-x-preserved
loop-x-preserved c =
    let first = c.args.offset in
    let x = c.loop-x.x in
    let byte = byte_at c.args.self.now in
    let run = c.bytes_in_page-run.result.now in
    let few : length run ≤ c.args.offset + c.args.count - x = omega (arith, c.bytes_in_page-run.ensures.len) in
    record {
      bytes = c.in_ok-extend_from_slice.ensures.items
          ∙ ap (λ (l : List ℕ). l ++ run) c.loop-x.invariant.bytes
          ∙ ap (λ (l : List ℕ). map byte (range_with_len first (x - first)) ++ l)
          (c.bytes_in_page-run.ensures.bytes
          ∙ ap (λ (es : List (ℕ × List ℕ)). map (byte_at (from_sorted es)) (range_with_len x (length run))) c.deref.ensures.value
          ∙ ap (λ p. map (byte_at p) (range_with_len x (length run))) c.self.view_is)
          ∙ map-range_with_len-append byte first (x - first) (length run) x (x + length run - first) (omega arith) (omega arith);
      above = omega arith;
      within = omega (arith, few);
    }
