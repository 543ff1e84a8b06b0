use Rattle.std.proofs.Common.{◌≡◌, ℕ, ◌<◌, ◌^◌, List, length, IfSome, subst, arith}
use Rattle.metadata_cells.proofs.Headers.{next_there, index_there, cells_there, good_there, elsewhere}
use Rattle.metadata_cells.proofs.page.set_next.Goals as goal

pub returns-clause-next : goal.returns-clause-next
returns-clause-next g c =
    let changes = c.change_next.ensures.changes in
    let whole = subst (λ o. IfSome o (λ (page : List ℕ). length page ≡ 8192)) changes.was (g.met.M.MetaPages.whole c.args.pages.now c.args.home) in
    let small : c.args.next < 2 ^ 32 = omega arith in
    next_there c.args.home c.args.next (g.M.MetaPages.pages c.args.pages.now) (g.M.MetaPages.pages c.change_next.new.pages) changes whole small

pub returns-clause-index : goal.returns-clause-index
returns-clause-index g c =
    let changes = c.change_next.ensures.changes in
    let whole = subst (λ o. IfSome o (λ (page : List ℕ). length page ≡ 8192)) changes.was (g.met.M.MetaPages.whole c.args.pages.now c.args.home) in
    let small : c.args.next < 2 ^ 32 = omega arith in
    index_there c.args.home c.args.next (g.M.MetaPages.pages c.args.pages.now) (g.M.MetaPages.pages c.change_next.new.pages) changes whole small

pub returns-clause-cells : goal.returns-clause-cells
returns-clause-cells g c =
    let changes = c.change_next.ensures.changes in
    let whole = subst (λ o. IfSome o (λ (page : List ℕ). length page ≡ 8192)) changes.was (g.met.M.MetaPages.whole c.args.pages.now c.args.home) in
    let small : c.args.next < 2 ^ 32 = omega arith in
    cells_there c.args.home c.args.next (g.M.MetaPages.pages c.args.pages.now) (g.M.MetaPages.pages c.change_next.new.pages) changes whole small

pub returns-clause-well_formed : goal.returns-clause-well_formed
returns-clause-well_formed g c =
    let changes = c.change_next.ensures.changes in
    let whole = subst (λ o. IfSome o (λ (page : List ℕ). length page ≡ 8192)) changes.was (g.met.M.MetaPages.whole c.args.pages.now c.args.home) in
    let small : c.args.next < 2 ^ 32 = omega arith in
    good_there c.args.home c.args.next (g.M.MetaPages.pages c.args.pages.now) (g.M.MetaPages.pages c.change_next.new.pages) changes whole small

pub returns-clause-elsewhere : goal.returns-clause-elsewhere
returns-clause-elsewhere g c =
    let changes = c.change_next.ensures.changes in
    let whole = subst (λ o. IfSome o (λ (page : List ℕ). length page ≡ 8192)) changes.was (g.met.M.MetaPages.whole c.args.pages.now c.args.home) in
    let small : c.args.next < 2 ^ 32 = omega arith in
    elsewhere c.args.home c.args.next (g.M.MetaPages.pages c.args.pages.now) (g.M.MetaPages.pages c.change_next.new.pages) changes whole small
