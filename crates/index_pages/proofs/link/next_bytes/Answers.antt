use Rattle.std.proofs.Common.{◌≤◌, ◌∙◌, ℕ, List, [], ◌∷◌, rules, refl, subst, sym}
use Rattle.file_release.specs.domain_base.Page.{overwritten}
use Rattle.file_release.specs.cell_records.Fields.{Fit}
use Rattle.file_release.proofs.OfTagDirs.NewPage.{home_at, home_widths}
use Rattle.index_pages.specs.Links.{LinksPage}
use Rattle.index_pages.proofs.Linked.{links_none, links_some, no_volume}
use Rattle.index_pages.proofs.link.next_bytes.Goals as goal

pub returns-in-Some : goal.returns-in-Some
returns-in-Some c =
    let fit : Fit home_widths (c.from.result ∷ c.from-in-Some.result ∷ []) = search rules in
    let read = home_at c.from.result c.from-in-Some.result [] c.put.new.out c.put.ensures.written fit in
    λ page whole. subst (λ o. LinksPage o page (overwritten page 8 c.put.new.out)) (sym c.in-Some.is)
    (links_some page c.put.new.out c.put.auto.out whole c.in-Some.home (read 0 ∙ c.from.ensures ∙ c.number.ensures.value) (read 1 ∙ c.from-in-Some.ensures)
    (subst (λ n. 1 ≤ n) c.number.ensures.value c.number.ensures.range.0) (subst (λ n. n ≤ 8) c.number.ensures.value c.number.ensures.range.1))

pub returns-in_default : goal.returns-in_default
returns-in_default c =
    let zeros : List ℕ = 0 ∷ 0 ∷ 0 ∷ 0 ∷ 0 ∷ 0 ∷ 0 ∷ 0 ∷ [] in
    λ page whole. subst (λ o. LinksPage o page (overwritten page 8 zeros)) (sym c.in_default.is) (links_none page zeros refl whole no_volume)
