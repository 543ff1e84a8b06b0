use Rattle.std.proofs.Common.{ℕ, List, ap, sym, ◌∙◌, is_some}
use Rattle.std.specs.Ordering.{nat_cmp}
use Rattle.std.specs.FinMap.{contains_key}
use Rattle.std.specs.FinMap.Entries.{find}
use Rattle.std.specs.FinSet.{FinSet}
use Rattle.sorted_sets.proofs.EntryLemmas.{get-from_sorted}
use Rattle.fileset_model.proofs.fileset.NumberSet.contains.Goals as goal

pub returns-in-Some : goal.returns-in-Some
returns-in-Some c =
    ap is_some c.in-Some.ensures
    ∙ ap (λ (es : List (ℕ × Unit {0})). is_some (find nat_cmp c.args.number es)) c.deref.ensures.value
    ∙ ap is_some (sym (get-from_sorted nat_cmp c.self.inside.numbers.items c.args.number c.self.invariant))
    ∙ ap (λ (s : FinSet nat_cmp). contains_key s c.args.number) c.self.view_is

pub returns-in-None : goal.returns-in-None
returns-in-None c =
    ap is_some c.in-None.ensures
    ∙ ap (λ (es : List (ℕ × Unit {0})). is_some (find nat_cmp c.args.number es)) c.deref.ensures.value
    ∙ ap is_some (sym (get-from_sorted nat_cmp c.self.inside.numbers.items c.args.number c.self.invariant))
    ∙ ap (λ (s : FinSet nat_cmp). contains_key s c.args.number) c.self.view_is
