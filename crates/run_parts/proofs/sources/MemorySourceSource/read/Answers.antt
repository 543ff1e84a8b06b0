use Rattle.std.proofs.Common.{◌≡◌, ◌+◌, ◌≤◌, take, drop, length, arith, ◌∙◌, ap, sym}
use Rattle.std.proofs.lemmas.Grind.{common_steps}
use Rattle.std.proofs.lemmas.List.{take_rest}
use Rattle.run_parts.proofs.Pieces.{front-and_rest, rest-nil}
use Rattle.run_parts.proofs.sources.MemorySourceSource.read.Goals as goal

pub returns-clause-bytes : goal.returns-clause-bytes
returns-clause-bytes c =
    let within : c.self.inside.taken + c.min-count.result ≤ length c.self.inside.bytes.items = grind (arith, common_steps) in
    let front : c.copy_from_slice.new.self ≡ take c.min-count.result (drop c.self.inside.taken c.self.inside.bytes.items) = grind (arith, common_steps, take_rest) in
    (ap (λ s. s.left) (sym c.self.view_is) ∙ front-and_rest _ _ _ _ _ within front, rest-nil _ _ _ _ (grind (arith, common_steps)))
