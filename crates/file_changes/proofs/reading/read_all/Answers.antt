use Rattle.std.proofs.Common.{ℕ, List, ◌++◌, ◌+◌, ◌-◌, ◌≤◌, length, map, ap, ◌∙◌, arith}
use Rattle.std.specs.List.{range_with_len}
use Rattle.domain_memory.specs.fileset_model.Pages.{byte_at}
use Rattle.domain_memory.proofs.OfFilesetModel.PageLemmas.{map-range_with_len-append}
use Rattle.file_changes.specs.Reading.{pages_at}
use Rattle.file_changes.proofs.reading.read_all.Goals as goal

pub loop-x-preserved : goal.loop-x-preserved
loop-x-preserved c =
    let first = c.args.offset in
    let x = c.loop-x.x in
    let run = c.bytes_in_page-run.result.now in
    let few : length run ≤ c.args.offset + c.args.count - x = omega (arith, c.bytes_in_page-run.ensures.len) in
    record {
      bytes = λ path all entry fileset has.
          let byte = byte_at (pages_at fileset.tree path) in
          c.in_ok-extend_from_slice.ensures.items
          ∙ ap (λ (l : List ℕ). l ++ run) (c.loop-x.invariant.bytes path all entry fileset has)
          ∙ ap (λ (l : List ℕ). map byte (range_with_len first (x - first)) ++ l) (c.bytes_in_page-run.ensures.bytes path all entry fileset has)
          ∙ map-range_with_len-append byte first (x - first) (length run) x (x + length run - first) (omega arith) (omega arith);
      above = omega arith;
      within = omega (arith, few);
    }

pub returns : goal.returns
returns c = λ path all entry fileset has.
    c.loop-x.invariant.bytes path all entry fileset has
    ∙ ap (λ n. map (byte_at (pages_at fileset.tree path)) (range_with_len c.args.offset n)) (omega (arith, c.loop-x-test.false, c.loop-x.invariant.above, c.loop-x.invariant.within))
