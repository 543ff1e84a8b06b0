use Rattle.std.proofs.Common.{◌∙◌, ◌-◌, List, OnOk, map, refl, sym, ap, subst, arith}
use Rattle.release_list.specs.file_chains.FileChanges.{AreOnTables}
use Rattle.quota_book.specs.QuotaCells.{Said, touched}
use Rattle.release_steps.specs.declared.cell.QuotaCell.{QuotaCell}
use Rattle.release_steps.specs.QuotaChain.{TakesIfUntouched, says_of}
use Rattle.release_steps.proofs.Chains.{one_quotas}
use Rattle.release_steps.proofs.LastCell.{found_some, last_there}
use Rattle.release_steps.proofs.PickedCell.{same_said}
use Rattle.release_steps.proofs.limits.set_in_chain.Goals as goal

pub read_cells-requires : goal.read_cells-requires
read_cells-requires g c = (c.requires.chain.0, c.requires.chain.1)

pub set_in_place-requires-clause-quotas : goal.set_in_place-requires-clause-quotas
set_in_place-requires-clause-quotas g c = (c.requires.chain.0, c.requires.chain.1)

pub overflow_sub-len : goal.overflow_sub-len
overflow_sub-len g c =
    let pages = g.M.MetaPages.pages c.args.pages.now in
    let chain = c.requires.chain.0 in
    omega (arith, found_some pages c.args.first.now chain c.in_ok-found.found.items c.requires.chain.1 (c.in_ok-found.ensures chain c.requires.chain.1), c.len.ensures)

pub index-last-requires : goal.index-last-requires
index-last-requires g c =
    let pages = g.M.MetaPages.pages c.args.pages.now in
    let chain = c.requires.chain.0 in
    omega (arith, found_some pages c.args.first.now chain c.in_ok-found.found.items c.requires.chain.1 (c.in_ok-found.ensures chain c.requires.chain.1), c.len.ensures)

pub add_behind-requires-clause-quotas : goal.add_behind-requires-clause-quotas
add_behind-requires-clause-quotas g c = (c.requires.chain.0, c.requires.chain.1)

pub add_behind-requires-clause-tables : goal.add_behind-requires-clause-tables
add_behind-requires-clause-tables g c = λ chain is.
    subst (AreOnTables c.args.cells.now) (one_quotas (g.M.MetaPages.pages c.args.pages.now) c.args.first.now c.requires.chain.0 chain c.requires.chain.1 is) c.requires.chain.2

pub add_behind-requires-clause-last : goal.add_behind-requires-clause-last
add_behind-requires-clause-last g c = λ chain is.
    let found = c.in_ok-found.found.items in
    let same = c.in_ok-found.ensures chain is in
    let some = found_some (g.M.MetaPages.pages c.args.pages.now) c.args.first.now chain found is same in
    last_there found c.index-last.result.now chain (c.len.result - 1) same (omega (arith, some, c.len.ensures)) c.index-last.ensures

pub add_behind-requires-clause-untouched : goal.add_behind-requires-clause-untouched
add_behind-requires-clause-untouched g c = λ chain is.
    let found = c.in_ok-found.found.items in
    ap (λ (s : List Said). touched s c.args.who) (sym (same_said found chain (c.in_ok-found.ensures chain is)))
    ∙ ap (λ (cells : List QuotaCell). touched (map says_of cells) c.args.who) (sym c.deref.ensures.value) ∙ sym c.touched_cell.ensures ∙ c.in-None.is

pub returns-in-Some-clause-taken : goal.returns-in-Some-clause-taken
returns-in-Some-clause-taken g c = λ chain is.
    let found = c.in_ok-found.found.items in
    let touches = ap (λ (s : List Said). touched s c.args.who) (sym (same_said found chain (c.in_ok-found.ensures chain is)))
    ∙ ap (λ (cells : List QuotaCell). touched (map says_of cells) c.args.who) (sym c.deref.ensures.value) ∙ sym c.touched_cell.ensures ∙ c.in-Some.is in
    subst (λ o. TakesIfUntouched o c.args.prefer c.args.space.now c.args.space.now c.args.cells.now c.args.cells.now (g.M.MetaPages.pages c.args.pages.now)) (sym touches) (refl, refl)

pub returns-in-Some-clause-others : goal.returns-in-Some-clause-others
returns-in-Some-clause-others g c = λ chain is. c.set_in_place.ensures.others chain c.args.cells.now is

pub returns-in-Some-clause-allocated : goal.returns-in-Some-clause-allocated
returns-in-Some-clause-allocated g c = c.set_in_place.ensures.allocated c.args.space.now c.args.cells.now c.requires.allocated

pub returns-clause-taken : goal.returns-clause-taken
returns-clause-taken g c = λ chain is.
    let found = c.in_ok-found.found.items in
    let none = ap (λ (s : List Said). touched s c.args.who) (sym (same_said found chain (c.in_ok-found.ensures chain is)))
    ∙ ap (λ (cells : List QuotaCell). touched (map says_of cells) c.args.who) (sym c.deref.ensures.value) ∙ sym c.touched_cell.ensures ∙ c.in-None.is in
    subst (λ o. OnOk c.add_behind.result (TakesIfUntouched o c.args.prefer c.args.space.now c.add_behind.new.space c.args.cells.now c.add_behind.new.cells (g.M.MetaPages.pages c.args.pages.now))) (sym none) c.add_behind.ensures.taken

pub returns-in-Some-clause-ok : goal.returns-in-Some-clause-ok
returns-in-Some-clause-ok g c = λ chain is.
    c.in_ok-set_in_place-in-Some.ensures.ok chain c.args.cells.now c.args.fileset is
    (subst (AreOnTables c.args.cells.now) (one_quotas (g.M.MetaPages.pages c.args.pages.now) c.args.first.now c.requires.chain.0 chain c.requires.chain.1 is) c.requires.chain.2)
