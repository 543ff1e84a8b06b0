use Rattle.std.proofs.Common.{◌≡◌, ◌∙◌, ◌++◌, ◌∷◌, [], ℕ, List, None, Some, sym, ap, subst}
use Rattle.std.specs.Option.{option_copied}
use Rattle.domain_layout.specs.tag_dirs.declared.dir.TagPlace.{TagPlace}
use Rattle.domain_layout.specs.tag_dirs.Directory.{IsDirectoryAt}
use Rattle.domain_layout.specs.domain_base.declared.place.Home.{Home}
use Rattle.domain_layout.specs.cell_records.Fields.{number_at}
use Rattle.domain_layout.specs.tag_dirs.TagPage.{index_of, next_of}
use Rattle.domain_layout.specs.Reached.{on_volume}
use Rattle.filesets_reading.specs.Good.{frame_at}
use Rattle.filesets_reading.proofs.TagPlaces.{TagWalk, tags_begin, tags_come, tags_end, tags_on}
use Rattle.filesets_reading.proofs.tags.read_tag_places.Goals as goal

-- the place that is put has the page's index
pushed : {B : List ℕ} (places : List TagPlace) (home : Home) (index : ℕ) (page : List ℕ) → index ≡ number_at 4 4 B → B ≡ page
    → places ++ (record { index = index; home = home }) ∷ [] ≡ places ++ (record { index = index_of page; home = home }) ∷ []
pushed places home index page said bytes = (λ i. places ++ (record { index = (said ∙ ap (number_at 4 4) bytes) i; home = home }) ∷ [])

pub loop-init : goal.loop-init
loop-init g c =
    let pages = g.M.MetaPages.pages c.args.pages.now in
    let frame = frame_at c.args.anchor.now c.args.version in
    subst (λ (ps : List TagPlace). TagWalk pages frame c.args.first.now ps c.args.first.now) (sym c.new-places.ensures.items)
    (tags_begin pages frame c.requires.good (g.met.M.MetaPages.whole c.args.pages.now) c.args.first.now c.requires.tags)

pub unreachable-requires : goal.unreachable-requires
unreachable-requires g c =
    let pages = g.M.MetaPages.pages c.args.pages.now in
    let frame = frame_at c.args.anchor.now c.args.version in
    let read = tags_come pages frame c.requires.good (g.met.M.MetaPages.whole c.args.pages.now) c.args.first.now c.requires.tags c.loop.places.items c.loop.home c.loop.invariant in
    let gone : pages c.loop.home ≡ None = sym c.get.ensures ∙ ap option_copied c.in_default.is in
    let e : None ≡ Some read.0 = sym gone ∙ read.1.there in
    absurd (cc)

pub returns-in_default-next_home : goal.returns-in_default-next_home
returns-in_default-next_home g c =
    let pages = g.M.MetaPages.pages c.args.pages.now in
    let frame = frame_at c.args.anchor.now c.args.version in
    let page = c.in-Some.page.now in
    let there : pages c.loop.home ≡ Some page = sym c.get.ensures ∙ ap option_copied c.in-Some.is in
    let ends : on_volume (next_of page) ≡ None = sym c.next_home.ensures ∙ c.in_default-next_home.is in
    let items = c.in_ok-push.ensures.items ∙ pushed c.loop.places.items c.loop.home c.u32_at.result page c.u32_at.ensures c.bytes.ensures.value in
    subst (IsDirectoryAt pages c.args.first.now) (sym items)
    (tags_end pages frame c.requires.good (g.met.M.MetaPages.whole c.args.pages.now) c.args.first.now c.requires.tags c.loop.places.items c.loop.home c.loop.invariant page there ends)

pub loop-preserved : goal.loop-preserved
loop-preserved g c =
    let pages = g.M.MetaPages.pages c.args.pages.now in
    let frame = frame_at c.args.anchor.now c.args.version in
    let page = c.in-Some.page.now in
    let there : pages c.loop.home ≡ Some page = sym c.get.ensures ∙ ap option_copied c.in-Some.is in
    let leads : on_volume (next_of page) ≡ Some c.in-Some-next_home.next = sym c.next_home.ensures ∙ c.in-Some-next_home.is in
    let items = c.in_ok-push.ensures.items ∙ pushed c.loop.places.items c.loop.home c.u32_at.result page c.u32_at.ensures c.bytes.ensures.value in
    subst (λ (ps : List TagPlace). TagWalk pages frame c.args.first.now ps c.in-Some-next_home.next) (sym items)
    (tags_on pages frame c.requires.good (g.met.M.MetaPages.whole c.args.pages.now) c.args.first.now c.requires.tags c.loop.places.items c.loop.home c.loop.invariant page there c.in-Some-next_home.next leads)
