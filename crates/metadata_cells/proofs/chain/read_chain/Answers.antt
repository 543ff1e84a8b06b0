use Rattle.std.proofs.Common.{◌≡◌, ◌∙◌, ◌++◌, ℕ, sym, subst, ap, cond, true, false, nat_eq, List}
use Rattle.std.specs.HashSet.{contains}
use Rattle.std.specs.List.{list_any}
use Rattle.cell_records.specs.declared.record.Record.{Record}
use Rattle.metadata_cells.specs.Chain.{no_cell, key_of}
use Rattle.metadata_cells.specs.Reading.{ReadsAt, LeadsOn}
use Rattle.metadata_cells.proofs.Walk.{IsWalk, walk_begins, walk_astray, walk_bad, walk_on}
use Rattle.metadata_cells.proofs.chain.read_chain.Goals as goal

pub returns-in_default-clause-broken : goal.returns-in_default-clause-broken
returns-in_default-clause-broken g c =
    no_cell (subst (ReadsAt (g.M.MetaPages.pages c.args.pages.now) c.args.start c.new-records.result.items c.read_at.new.found.items) c.in_default.is c.in_ok-first.ensures)

pub loop-init : goal.loop-init
loop-init g c =
    let pages = g.M.MetaPages.pages c.args.pages.now in
    let read = subst (ReadsAt pages c.args.start c.new-records.result.items c.read_at.new.found.items) c.in-Some.is c.in_ok-first.ensures in
    let records = read.1 ∙ ap (λ (rs : List Record). rs ++ read.0) c.new-records.ensures.items in
    let empty : (q : ℕ) → contains nat_eq c.new-seen.result q ≡ false = λ q. ap (list_any (nat_eq q)) c.new-seen.ensures.empty in
    subst (λ rs. IsWalk pages c.args.start rs (contains nat_eq c.insert.new.self) c.args.start c.in-Some.first.kind c.in-Some.first.next) (sym records)
    (walk_begins pages c.args.start c.in-Some.first read.0 (contains nat_eq c.insert.new.self)
    (record { page = c.key_of.ensures.widths.0; cell = c.key_of.ensures.widths.1 })
    read.2
    (λ q. c.in_ok-insert.ensures.updates.0 q ∙ ap (λ b. cond (nat_eq c.key_of.result q) true b) (empty q) ∙ ap (λ k. cond (nat_eq k q) true false) c.key_of.ensures.value))

pub returns-then-not-leads_on-clause-broken : goal.returns-then-not-leads_on-clause-broken
returns-then-not-leads_on-clause-broken g c =
    let pages = g.M.MetaPages.pages c.args.pages.now in
    walk_astray pages c.args.start c.loop.records.items (contains nat_eq c.loop.seen) c.loop.last c.loop.kind c.in-Some-next.at
    (subst (IsWalk pages c.args.start c.loop.records.items (contains nat_eq c.loop.seen) c.loop.last c.loop.kind) c.in-Some-next.is c.loop.invariant)
    (record { page = c.leads_on.ensures.widths.0; cell = c.leads_on.ensures.widths.1 })
    (subst (LeadsOn pages (contains nat_eq c.loop.seen (key_of c.in-Some-next.at)) c.loop.kind c.in-Some-next.at) c.if-not-leads_on.true c.leads_on.ensures.value)

pub returns-in_default-2-clause-broken : goal.returns-in_default-2-clause-broken
returns-in_default-2-clause-broken g c =
    let pages = g.M.MetaPages.pages c.args.pages.now in
    walk_bad pages c.args.start c.loop.records.items (contains nat_eq c.loop.seen) c.loop.last c.loop.kind c.in-Some-next.at
    (subst (IsWalk pages c.args.start c.loop.records.items (contains nat_eq c.loop.seen) c.loop.last c.loop.kind) c.in-Some-next.is c.loop.invariant)
    (record { page = c.leads_on.ensures.widths.0; cell = c.leads_on.ensures.widths.1 })
    (subst (LeadsOn pages (contains nat_eq c.loop.seen (key_of c.in-Some-next.at)) c.loop.kind c.in-Some-next.at) c.if-not-leads_on.false c.leads_on.ensures.value)
    (subst (ReadsAt pages c.in-Some-next.at c.loop.records.items c.read_at-in-loop.new.found.items) c.in_default-2.is c.in_ok-found.ensures)

pub loop-preserved : goal.loop-preserved
loop-preserved g c =
    let pages = g.M.MetaPages.pages c.args.pages.now in
    let read = subst (ReadsAt pages c.in-Some-next.at c.loop.records.items c.read_at-in-loop.new.found.items) c.in-Some-2.is c.in_ok-found.ensures in
    walk_on pages c.args.start c.loop.records.items (contains nat_eq c.loop.seen) c.loop.last c.loop.kind c.in-Some-next.at
    (subst (IsWalk pages c.args.start c.loop.records.items (contains nat_eq c.loop.seen) c.loop.last c.loop.kind) c.in-Some-next.is c.loop.invariant)
    (record { page = c.leads_on.ensures.widths.0; cell = c.leads_on.ensures.widths.1 })
    c.in-Some-2.found read.0 c.read_at-in-loop.new.found.items (contains nat_eq c.insert-in-loop.new.self)
    (subst (LeadsOn pages (contains nat_eq c.loop.seen (key_of c.in-Some-next.at)) c.loop.kind c.in-Some-next.at) c.if-not-leads_on.false c.leads_on.ensures.value)
    read.2 read.1
    (λ q. c.in_ok-insert-2.ensures.updates.0 q ∙ ap (λ k. cond (nat_eq k q) true (contains nat_eq c.loop.seen q)) c.key_of-in-loop.ensures.value)
