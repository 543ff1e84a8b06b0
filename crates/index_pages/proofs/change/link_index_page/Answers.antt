use Rattle.std.proofs.Common.{◌≡◌, ◌≤◌, ◌∙◌, IfSome, List, Option, length, subst, sym}
use Rattle.std.specs.Prelude.{Contains}
use Rattle.file_release.specs.domain_base.declared.place.Home.{Home}
use Rattle.index_pages.specs.Changes.{InsertsIndexPage, first_with, home_in_front}
use Rattle.index_pages.specs.Homes.{HasIndexPageAt}
use Rattle.index_pages.specs.Links.{LinksIn}
use Rattle.index_pages.proofs.Changed.{good_in_front, in_front_there, inserts}
use Rattle.index_pages.proofs.Homes.{one_list}
use Rattle.index_pages.proofs.change.link_index_page.Goals as goal

pub link_in-requires-clause-behind : goal.link_in-requires-clause-behind
link_in-requires-clause-behind g c =
    let old = g.M.MetaPages.pages c.args.pages.now in
    let (homes, are, within, apart) = c.requires.index in
    subst (λ (o : Option Home). IfSome o (HasIndexPageAt old)) (sym (c.home_before-before.ensures homes are)) (good_in_front old c.args.first homes c.args.number are)

pub link_in-requires-clause-apart : goal.link_in-requires-clause-apart
link_in-requires-clause-apart g c =
    let (homes, are, within, apart) = c.requires.index in
    λ is. apart (in_front_there homes c.args.number c.args.home (sym (c.home_before-before.ensures homes are) ∙ is))

pub returns-clause-inserted : goal.returns-clause-inserted
returns-clause-inserted g c =
    let old = g.M.MetaPages.pages c.args.pages.now in
    let new = g.M.MetaPages.pages c.link_in.new.pages in
    let (others, also, within, off) = c.requires.index in
    λ homes are.
    let same : homes ≡ others = one_list old c.args.first homes others are also in
    let apart : ¬ Contains homes c.args.home = λ there. off (subst (λ (hs : List Home). Contains hs c.args.home) same there) in
    let links : LinksIn c.args.first (home_in_front c.args.number homes) c.args.home c.args.bytes old new =
    subst (λ (o : Option Home). LinksIn c.args.first o c.args.home c.args.bytes old new) (c.home_before-before.ensures homes are) c.link_in.ensures.links in
    subst (λ (begin : Home). InsertsIndexPage begin c.args.home c.args.number c.args.bytes old new homes) (sym c.new_first.ensures)
    (inserts old new c.args.home c.args.bytes c.args.first homes c.args.number are (subst (λ (hs : List Home). c.args.number ≤ length hs) (sym same) within) apart links)
