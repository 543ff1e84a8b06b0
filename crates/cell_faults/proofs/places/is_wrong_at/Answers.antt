use Rattle.std.proofs.Common.{◌∙◌, IfNone, IfSome, refl, sym, subst}
use mathlib.Core.Bool.{false≢true}
use Rattle.page_ways.specs.metadata_cells.Cell.{Cell}
use Rattle.page_ways.specs.metadata_cells.Chain.{StandsAt}
use Rattle.page_ways.specs.Frame.{frame_in}
use Rattle.cell_faults.specs.Rules.{IsStrayVolume}
use Rattle.cell_faults.proofs.WrongPlace.{none_there, some_there, stray}
use Rattle.cell_faults.proofs.places.is_wrong_at.Goals as goal

pub returns-then-is_stray_volume : goal.returns-then-is_stray_volume
returns-then-is_stray_volume g c = (
  λ _. stray (g.M.MetaPages.pages c.args.pages.now) (frame_in c.args.frame.now) c.args.table.now c.args.at c.requires.there.0 c.args.page.now c.requires.there.1 c.requires.within
      (c.is_stray_volume.ensures.0 c.if-is_stray_volume.true),
  λ _. refl,
)

pub returns-in-Some : goal.returns-in-Some
returns-in-Some g c =
    let pages = g.M.MetaPages.pages c.args.pages.now in
    let frame = frame_in c.args.frame.now in
    let at = c.args.at in
    let not_stray : ¬ IsStrayVolume frame c.args.page.now at = λ is. false≢true (sym c.if-is_stray_volume.false ∙ c.is_stray_volume.ensures.1 is) in
    let cell : Cell = record { head = c.in-Some.used.head; records = c.in-Some.used.records } in
    let stands : StandsAt pages at cell = subst (λ o. IfSome o (λ used. StandsAt pages at (record { head = used.head; records = used.records }))) c.in-Some.is c.in_ok-used.ensures.some in
    some_there pages frame c.args.table.now at c.requires.there.0 c.args.page.now c.requires.there.1 c.requires.within cell stands not_stray c.is_wrong_used.result c.is_wrong_used.ensures

pub returns-in-None : goal.returns-in-None
returns-in-None g c =
    let pages = g.M.MetaPages.pages c.args.pages.now in
    let frame = frame_in c.args.frame.now in
    let at = c.args.at in
    let not_stray : ¬ IsStrayVolume frame c.args.page.now at = λ is. false≢true (sym c.if-is_stray_volume.false ∙ c.is_stray_volume.ensures.1 is) in
    none_there pages frame c.args.table.now at c.requires.there.0 c.args.page.now c.requires.there.1 c.requires.within
    (subst (λ o. IfNone o ((cell : Cell) → ¬ StandsAt pages at cell)) c.in-None.is c.in_ok-used.ensures.none) not_stray c.is_first_place.result c.is_first_place.ensures
