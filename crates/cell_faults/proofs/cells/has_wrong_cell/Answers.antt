use Rattle.std.proofs.Common.{◌∙◌, arith, refl, sym, ap}
use Rattle.std.specs.Option.{option_copied}
use mathlib.Core.Bool.{false≢true}
use Rattle.page_ways.specs.domain_layout.CellRules.{IsCellsPage}
use Rattle.page_ways.specs.Frame.{frame_in}
use Rattle.cell_faults.proofs.WrongCell.{good_one, moved, none_wrong, wrong_there}
use Rattle.cell_faults.proofs.cells.has_wrong_cell.Goals as goal

pub returns-then-branch : goal.returns-then-branch
returns-then-branch g c =
    let pages = g.M.MetaPages.pages c.args.pages.now in
    let frame = frame_in c.args.frame.now in
    let home = c.args.home.now in
    let page = c.in-Some.bytes.now in
    let is : IsCellsPage pages frame c.requires.0 home page =
    moved pages frame home c.requires.0 c.requires.1.0 page c.requires.1.1 (sym c.get.ensures ∙ ap option_copied c.in-Some.is) in (
      λ _. wrong_there pages frame home c.requires.0 page is c.loop-cell.cell c.loop-cell-test.true (c.in_ok-has_no_cell.ensures.0 c.if-branch.true),
      λ _. refl,
    )

pub loop-cell-preserved : goal.loop-cell-preserved
loop-cell-preserved g c =
    good_one (g.M.MetaPages.pages c.args.pages.now) c.args.frame.now.version c.in-Some.bytes.now c.args.home.now c.loop-cell.cell c.loop-cell.invariant
    (λ none. false≢true (sym c.if-branch.false ∙ c.in_ok-has_no_cell.ensures.1 none))

pub returns : goal.returns
returns g c =
    let pages = g.M.MetaPages.pages c.args.pages.now in
    let frame = frame_in c.args.frame.now in
    let home = c.args.home.now in
    let page = c.in-Some.bytes.now in
    let is : IsCellsPage pages frame c.requires.0 home page =
    moved pages frame home c.requires.0 c.requires.1.0 page c.requires.1.1 (sym c.get.ensures ∙ ap option_copied c.in-Some.is) in (
      λ wrong. absurd (false≢true wrong),
      λ wrong. absurd (none_wrong pages frame home c.requires.0 page is (λ cell below. c.loop-cell.invariant cell (omega (arith, below, c.loop-cell-test.false))) wrong),
    )
