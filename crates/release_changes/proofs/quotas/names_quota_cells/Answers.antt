use Rattle.std.proofs.Common.{List, Contains, subst, sym}
use Rattle.domain_changes.specs.release_list.declared.list.Entry.{Entry}
use Rattle.release_changes.proofs.QuotaBegins.{an_entry, has_those, names_them, no_entry, not_these}
use Rattle.release_changes.proofs.quotas.names_quota_cells.Goals as goal

pub returns-in-Some-clause-some : goal.returns-in-Some-clause-some
returns-in-Some-clause-some c = λ free.
    let memory = c.args.memory.now in (
      c.in-Some.at,
      names_them memory c.requires c.args.number c.slot.result.now c.in-Removed.first_tag c.in-Removed.quota c.in-Some.at c.slot.ensures.value c.in-Removed.is c.in-Some.is
          (λ e inside. c.is_listed.ensures.none (no_entry c.is_listed.result free) e (subst (λ (es : List Entry). Contains es e) (sym c.entries.ensures) inside)),
    )

pub returns-in-Some-clause-none : goal.returns-in-Some-clause-none
returns-in-Some-clause-none c = λ taken at cells.
    let memory = c.args.memory.now in
    let it = c.is_listed.ensures.listed (an_entry c.is_listed.result taken) in
    let those = has_those memory c.args.number at cells c.slot.result.now c.in-Removed.first_tag c.in-Removed.quota c.in-Some.at c.slot.ensures.value c.in-Removed.is c.in-Some.is in
    not_these memory c.requires c.args.number c.in-Some.at those it.0 (subst (λ (es : List Entry). Contains es it.0) c.entries.ensures it.1) it.2
