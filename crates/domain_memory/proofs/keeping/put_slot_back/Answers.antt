use Rattle.std.proofs.Common.{◌∙◌, Option, sym, subst}
use Rattle.std.proofs.Math.Logic.{∥∥₁_elim}
use Rattle.standing_laws.specs.fileset_table.Table.{IsTable}
use Rattle.domain_memory.specs.Memory.{with_was}
use Rattle.domain_memory.specs.declared.memory.ReplacedSlot.{ReplacedSlot}
use Rattle.domain_memory.proofs.keeping.put_slot_back.Goals as goal

pub unreachable-requires : goal.unreachable-requires
unreachable-requires c =
    ∥∥₁_elim c.requires (λ x y. absurd x)
    (λ is. c.in_default-try_set_slot.ensures.err.2 (subst (λ (o : Option ReplacedSlot). IsTable (with_was o c.args.table.now)) (sym c.take.ensures.value ∙ c.in-Some.is) is))
