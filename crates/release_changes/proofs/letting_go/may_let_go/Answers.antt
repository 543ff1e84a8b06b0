use Rattle.std.proofs.Common.{◌∙◌, not, List, Contains, length, sym, ap, subst}
use Rattle.std.proofs.lemmas.Bool.{both_ways, eq-eqb}
use Rattle.domain_changes.specs.release_list.declared.list.Entry.{Entry}
use Rattle.domain_changes.specs.domain_memory.Going.{HavePlain}
use Rattle.release_changes.proofs.LetGoEnds.{last_none, may_or_not, none_of}
use Rattle.release_changes.proofs.letting_go.may_let_go.Goals as goal
use Rattle.release_changes.proofs.letting_go.may_let_go.Goals.{then-not-is_empty, else-not-is_empty}

pub returns-then-is_none : goal.returns-then-is_none
returns-then-is_none c = elim c.if-not-is_empty.branch [
  | then-not-is_empty w ↦
      let memory = c.args.memory.now in
      may_or_not memory c.requires.settled c.requires.stands
      (λ empty. both_ways c.is_empty.result w.if-not-is_empty.true (c.is_empty.ensures ∙ eq-eqb (length c.entries-entries.result.now) 0 (ap length (c.entries-entries.ensures ∙ empty.0))))
      (last_none memory.list.list.tag_pages (sym w.last_tag_page.ensures ∙ none_of w.last_tag_page.result (w.is_none.ensures ∙ ap not (sym w.value-is ∙ c.if-is_none.true))))
      c.are_all_plain.result
      (λ all. subst (λ (es : List Entry). HavePlain memory es) c.entries-entries.ensures (c.are_all_plain.ensures.all all))
      (λ one. let it = c.are_all_plain.ensures.one one in (it.0, subst (λ (es : List Entry). Contains es it.0) c.entries-entries.ensures it.1, it.2))
  | else-not-is_empty w ↦ absurd (both_ways c.if-not-is_empty.value (w.value-is ∙ ap not w.if-not-is_empty.false) c.if-is_none.true)
]
