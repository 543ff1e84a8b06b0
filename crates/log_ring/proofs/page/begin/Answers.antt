use Rattle.std.proofs.Common.{length, ap, sym, ◌∙◌}
use Rattle.log_ring.proofs.HeaderPages.{begins}
use Rattle.log_ring.proofs.page.begin.Goals as goal

pub returns-clause-bytes : goal.returns-clause-bytes
returns-clause-bytes c =
    begins c.args.page.now c.set.new.self c.set-2.new.self c.no_body.result c.head_bytes.result c.args.number c.args.count (ap length (sym c.bytes.ensures.value) ∙ c.bytes.ensures.len) c.set.ensures.value c.no_body.ensures.value c.set-2.ensures.value c.head_bytes.ensures
