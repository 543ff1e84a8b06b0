use Rattle.std.proofs.Common.{◌∙◌, ◌++◌, ◌∷◌, [], List, ap, subst, sym}
use Rattle.index_pages.specs.domain_base.declared.place.Home.{Home}
use Rattle.index_pages.specs.page_store.Homes.{pages_of}
use Rattle.index_pages.specs.tag_dirs.declared.dir.TagPlace.{TagPlace}
use Rattle.index_pages.specs.tag_dirs.Directory.{AddsPage}
use Rattle.index_pages.specs.free_space.Spaces.{Spaces}
use Rattle.index_pages.specs.fileset_files.Creation.{IsNewDirectory}
use Rattle.index_pages.specs.fileset_files.Together.{HasTogether}
use Rattle.index_pages.proofs.OfFilesetFiles.NewDirectory.{first_new}
use Rattle.file_world.specs.First.{IsEmpty}
use Rattle.file_world.proofs.FirstFiles.{first_empty, first_together}
use Rattle.file_world.proofs.world.new_world.Goals as goal

abbrev placed : Home → TagPlace
placed home = record { index = 0; home = home }

pub returns-clause-together : goal.returns-clause-together
returns-clause-together c =
    let old = pages_of c.in_ok-pages.pages.entries.items in
    let new = pages_of c.add_page.new.pages.entries.items in
    let cells = c.in_ok-cells.cells in
    let place = placed c.home_at.result in
    let adds = subst (λ (ps : List TagPlace). AddsPage place ps old new) c.new-tags.ensures c.in_ok-add_page.ensures.added in
    let tags = c.new-files.ensures.tags ∙ c.in_ok-add_page.ensures.ok ∙ ap (λ (ps : List TagPlace). ps ++ place ∷ []) c.new-tags.ensures in
    subst (λ (ps : List TagPlace). HasTogether c.new-files.result.fileset ps c.in_ok-space.space cells new) (sym tags)
    (subst (λ (s : Spaces). HasTogether c.new-files.result.fileset (place ∷ []) s cells new) (sym c.in_ok-space.ensures)
    (first_together c.args.count cells old new c.in_ok-cells.ensures place (ap placed c.home_at.ensures) adds c.new-files.result.fileset))

pub returns-clause-empty : goal.returns-clause-empty
returns-clause-empty c =
    let old = pages_of c.in_ok-pages.pages.entries.items in
    let new = pages_of c.add_page.new.pages.entries.items in
    let cells = c.in_ok-cells.cells in
    let place = placed c.home_at.result in
    let adds = subst (λ (ps : List TagPlace). AddsPage place ps old new) c.new-tags.ensures c.in_ok-add_page.ensures.added in
    let tags = c.new-files.ensures.tags ∙ c.in_ok-add_page.ensures.ok ∙ ap (λ (ps : List TagPlace). ps ++ place ∷ []) c.new-tags.ensures in
    subst (λ (ps : List TagPlace). IsEmpty c.new-files.result.fileset ps c.in_ok-space.space cells new) (sym tags)
    (subst (λ (s : Spaces). IsEmpty c.new-files.result.fileset (place ∷ []) s cells new) (sym c.in_ok-space.ensures)
    (first_empty c.args.count cells old new c.in_ok-cells.ensures place (ap placed c.home_at.ensures) adds c.new-files.result.fileset))

pub returns-clause-fresh : goal.returns-clause-fresh
returns-clause-fresh c =
    let old = pages_of c.in_ok-pages.pages.entries.items in
    let new = pages_of c.add_page.new.pages.entries.items in
    let place = placed c.home_at.result in
    let adds = subst (λ (ps : List TagPlace). AddsPage place ps old new) c.new-tags.ensures c.in_ok-add_page.ensures.added in
    let tags = c.new-files.ensures.tags ∙ c.in_ok-add_page.ensures.ok ∙ ap (λ (ps : List TagPlace). ps ++ place ∷ []) c.new-tags.ensures in
    subst (IsNewDirectory new) (sym tags) (first_new c.home_at.result old new adds)
