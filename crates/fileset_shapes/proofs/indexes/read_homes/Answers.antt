use Rattle.std.proofs.Common.{◌≡◌, ◌∙◌, List, None, Some, sym, ap, subst}
use Rattle.std.specs.Option.{option_copied}
use Rattle.filesets_reading.specs.domain_base.declared.place.Home.{Home}
use Rattle.filesets_reading.specs.tag_dirs.TagPage.{next_of}
use Rattle.filesets_reading.specs.fileset_files.Shown.{AreIndexPages}
use Rattle.filesets_reading.specs.domain_layout.Reached.{index_way, on_volume}
use Rattle.filesets_reading.proofs.Ways.{IsWayTo}
use Rattle.fileset_shapes.specs.Found.{index_shown}
use Rattle.fileset_shapes.proofs.IndexPages.{index_begins, index_comes, index_ends, index_on}
use Rattle.fileset_shapes.proofs.indexes.read_homes.Goals as goal

pub loop-init : goal.loop-init
loop-init g c = λ whole.
    subst (λ (homes : List Home). IsWayTo (g.M.MetaPages.pages c.args.pages.now) whole.0 (index_way c.args.first.now) homes c.args.first.now) (sym c.new-homes.ensures.items)
    (index_begins (g.M.MetaPages.pages c.args.pages.now) whole.0 c.args.first.now whole.1)

pub unreachable-requires : goal.unreachable-requires
unreachable-requires g c =
    let pages = g.M.MetaPages.pages c.args.pages.now in
    let come = index_comes pages c.requires.0 c.args.first.now c.requires.1 c.loop.homes.items c.loop.home (c.loop.invariant c.requires) in
    let gone : pages c.loop.home ≡ None = sym c.get.ensures ∙ ap option_copied c.in_default.is in
    let e : None ≡ Some come.0 = sym gone ∙ come.1 in
    absurd (cc)

pub returns-in_default-next : goal.returns-in_default-next
returns-in_default-next g c =
    let pages = g.M.MetaPages.pages c.args.pages.now in
    let page = c.in-Some.page.now in
    let there : pages c.loop.home ≡ Some page = sym c.get.ensures ∙ ap option_copied c.in-Some.is in
    let ends : on_volume (next_of page) ≡ None = sym c.next.ensures ∙ c.in_default-next.is in
    subst (λ (homes : List Home). AreIndexPages pages (Some c.args.first.now) (index_shown pages homes)) (sym c.in_ok-push.ensures.items)
    (index_ends pages c.requires.0 c.args.first.now c.requires.1 c.loop.homes.items c.loop.home (c.loop.invariant c.requires) page there ends)

pub loop-preserved : goal.loop-preserved
loop-preserved g c = λ whole.
    let pages = g.M.MetaPages.pages c.args.pages.now in
    let page = c.in-Some.page.now in
    let there : pages c.loop.home ≡ Some page = sym c.get.ensures ∙ ap option_copied c.in-Some.is in
    let leads : on_volume (next_of page) ≡ Some c.in-Some-next.next = sym c.next.ensures ∙ c.in-Some-next.is in
    subst (λ (homes : List Home). IsWayTo pages whole.0 (index_way c.args.first.now) homes c.in-Some-next.next) (sym c.in_ok-push.ensures.items)
    (index_on pages whole.0 c.args.first.now whole.1 c.loop.homes.items c.loop.home (c.loop.invariant whole) page there c.in-Some-next.next leads)
