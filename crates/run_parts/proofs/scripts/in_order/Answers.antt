use Rattle.std.proofs.Common.{rules}
use Rattle.std.proofs.lemmas.List.Sorted.{answers_always}
use Rattle.script_text.specs.declared.script.Section.{Section}
use Rattle.run_parts.proofs.Shuffled.{SameByNumber-from_stable}
use Rattle.run_parts.proofs.scripts.in_order.Goals as goal

pub returns : goal.returns
returns c =
    SameByNumber-from_stable _ _ (c.in_ok-sort_by_key.ensures.stable (λ (section : Section). section.number) (answers_always _ _ _ (λ f a r q k. search rules)))
