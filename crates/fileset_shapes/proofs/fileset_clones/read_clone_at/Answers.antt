use Rattle.std.proofs.Common.{refl, subst}
use Rattle.std.specs.Prelude.{IfSome}
use Rattle.filesets_reading.specs.Seen.{HasFewHomes}
use Rattle.fileset_shapes.specs.Clones.{ReadsOfClone}
use Rattle.fileset_shapes.proofs.ReadClones.{clone_none, clone_some, of_clone}
use Rattle.fileset_shapes.proofs.fileset_clones.read_clone_at.Goals as goal

pub read_of_clone-requires : goal.read_of_clone-requires
read_of_clone-requires g c = of_clone (g.M.MetaPages.pages c.args.pages.now) c.args.own.now c.args.behind.now c.args.number c.requires

pub returns-in_default : goal.returns-in_default
returns-in_default g c =
    let pages = g.M.MetaPages.pages c.args.pages.now in
    clone_none pages c.args.own.now c.args.behind.now c.args.number c.requires c.args.tag
    (λ own behind are are_behind. subst (ReadsOfClone pages c.args.number (own c.args.tag) (behind c.args.tag)) c.in_default.is (c.in_ok-seen.ensures.seen own behind are are_behind))

pub returns : goal.returns
returns g c =
    let pages = g.M.MetaPages.pages c.args.pages.now in
    clone_some pages c.args.own.now c.args.behind.now c.args.number c.requires c.args.tag (record { tag = c.args.tag; seen = c.in-Some.seen; index = c.new.result }) refl c.new.ensures.items
    (subst (λ o. IfSome o HasFewHomes) c.in-Some.is c.in_ok-seen.ensures.few)
    (λ own behind are are_behind. subst (ReadsOfClone pages c.args.number (own c.args.tag) (behind c.args.tag)) c.in-Some.is (c.in_ok-seen.ensures.seen own behind are are_behind))
