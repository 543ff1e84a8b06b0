use Rattle.std.proofs.Common.{◌≡◌, ◌∙◌, ◌-◌, ap, arith, map, min, IfOk, Result, Ok, Err}
use Rattle.std.specs.List.{range_with_len}
use Rattle.domain_memory.specs.fileset_model.Pages.{byte_at}
use Rattle.file_changes.specs.Reading.{pages_at}
use Rattle.file_changes.proofs.Paged.{read_end}
use Rattle.file_changes.proofs.reading.read_bytes.Goals as goal

ok_by : {A E : Type 0} (P Q : A → Type 0) (r : Result A E) → IfOk r P → ((a : A) → P a → Q a) → IfOk r Q
ok_by P Q (Ok a) is by = by a is
ok_by P Q (Err e) is by = is

pub returns : goal.returns
returns c = λ path all entry fileset has.
    let what = c.describe-what.result in
    let count : c.min-count.result ≡ min c.args.count (what.size - c.args.offset) = omega (arith, c.min-count.ensures, c.from.ensures, c.saturating_sub.ensures) in
    ok_by _ _ c.read_all.result (c.read_all.ensures path all entry fileset has) (λ v is.
    read_end c.args.memory.now c.args.number c.args.tag path all entry fileset has c.requires.file what c.describe-what.ensures.said (c.describe-what.ensures.is path all entry fileset has) c.args.offset c.args.count v.items
    (is ∙ ap (λ n. map (byte_at (pages_at fileset.tree path)) (range_with_len c.args.offset n)) count))
