use Rattle.std.proofs.Common.{◌∙◌, refl, sym, subst}
use Rattle.std.specs.Prelude.{IfSome}
use Rattle.std.specs.Option.{option_and_then}
use Rattle.filesets_reading.specs.domain_layout.Seen.{seen_in}
use Rattle.filesets_reading.specs.Seen.{HasFewHomes, IsSeenThere}
use Rattle.fileset_shapes.proofs.ReadOriginals.{index_whole, leads_there, original_none, original_some}
use Rattle.fileset_shapes.proofs.originals.read_original_at.Goals as goal

pub returns-in_default : goal.returns-in_default
returns-in_default g c =
    original_none (g.M.MetaPages.pages c.args.pages.now) c.args.files.now c.requires c.args.tag
    (λ chains are. subst (IsSeenThere (option_and_then seen_in (chains c.args.tag))) c.in_default.is (c.in_ok-seen.ensures.seen chains are))

pub unreachable-requires : goal.unreachable-requires
unreachable-requires g c =
    leads_there (g.M.MetaPages.pages c.args.pages.now) c.args.files.now c.requires c.args.tag c.in-Some.seen
    (λ chains are. subst (IsSeenThere (option_and_then seen_in (chains c.args.tag))) c.in-Some.is (c.in_ok-seen.ensures.seen chains are))
    (sym c.look.ensures ∙ c.in_default-look.is)

pub read_index-requires-clause-whole : goal.read_index-requires-clause-whole
read_index-requires-clause-whole g c =
    index_whole (g.M.MetaPages.pages c.args.pages.now) c.args.files.now c.requires c.args.tag c.in-Some-look.at (sym c.look.ensures ∙ c.in-Some-look.is)

pub returns : goal.returns
returns g c =
    let pages = g.M.MetaPages.pages c.args.pages.now in
    original_some pages c.args.files.now c.requires c.args.tag c.in-Some-look.at (sym c.look.ensures ∙ c.in-Some-look.is)
    (record { tag = c.args.tag; seen = c.in-Some.seen; index = c.in_ok-index.index }) refl
    (subst (λ o. IfSome o HasFewHomes) c.in-Some.is c.in_ok-seen.ensures.few)
    (λ chains are. subst (IsSeenThere (option_and_then seen_in (chains c.args.tag))) c.in-Some.is (c.in_ok-seen.ensures.seen chains are))
    c.in_ok-index.ensures
