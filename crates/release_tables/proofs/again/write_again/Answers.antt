use Rattle.std.proofs.Common.{ℕ, subst, sym}
use Rattle.release_steps.specs.Calls.{StandsWell}
use Rattle.release_tables.specs.Called.{fileset_in, parts_of}
use Rattle.release_tables.proofs.Agains.{cut_so, go_on, written_again}
use Rattle.release_tables.proofs.Callings.{stands_now}
use Rattle.release_tables.proofs.again.write_again.Goals as goal

pub let_go-requires : goal.let_go-requires
let_go-requires c =
    let r = c.requires in
    let first = fileset_in (parts_of c.args.world.now c.args.list.now.list) r.0 r.1 in
    (first, cut_so c.in_ok-tag.ensures.fileset (c.in_ok-tag.ensures.calls c.args.list.now.list r.0 r.1 r.3) c.in_ok-give_pages.ensures.fileset (c.in_ok-give_pages.ensures.calls first c.args.list.now.list) c.in_ok-cut.ensures.fileset (c.in_ok-cut.ensures.calls c.args.version first c.args.list.now.list) c.in_ok-at.ensures.ok_part r.2 r.3)

pub give_pages-requires-2 : goal.give_pages-requires-2
give_pages-requires-2 c =
    let r = c.requires in
    let first = fileset_in (parts_of c.args.world.now c.args.list.now.list) r.0 r.1 in
    let went = c.in_ok-steps.ensures.went first (cut_so c.in_ok-tag.ensures.fileset (c.in_ok-tag.ensures.calls c.args.list.now.list r.0 r.1 r.3) c.in_ok-give_pages.ensures.fileset (c.in_ok-give_pages.ensures.calls first c.args.list.now.list) c.in_ok-cut.ensures.fileset (c.in_ok-cut.ensures.calls c.args.version first c.args.list.now.list) c.in_ok-at.ensures.ok_part r.2 r.3) in
    (went.again.chains, (stands_now c.let_go.new.world.files.fileset c.args.version c.in_ok-tag.tag went.gone _ went.stands went.again).together)

pub returns : goal.returns
returns c = λ files chains none stood.
    let first = fileset_in (parts_of c.args.world.now c.args.list.now.list) files chains in
    let cut = cut_so c.in_ok-tag.ensures.fileset (c.in_ok-tag.ensures.calls c.args.list.now.list files chains stood) c.in_ok-give_pages.ensures.fileset (c.in_ok-give_pages.ensures.calls first c.args.list.now.list) c.in_ok-cut.ensures.fileset (c.in_ok-cut.ensures.calls c.args.version first c.args.list.now.list) c.in_ok-at.ensures.ok_part none stood in
    let steps = c.in_ok-steps.ensures in
    let gave = c.in_ok-give_pages-2.ensures in
    let went = steps.went first cut in
    written_again c.give_pages-2.new.world.files.fileset c.args.version c.in_ok-tag.tag first _
    (subst (λ (f : ℕ). StandsWell f first) (sym gave.fileset) (subst (λ (f : ℕ). StandsWell f first) (sym steps.fileset) cut.stood))
    (go_on c.let_go.new.world.files.fileset c.give_pages-2.new.world.files.fileset c.args.version c.in_ok-tag.tag first (parts_of c.let_go.new.world c.let_go.new.list.list) (parts_of c.give_pages-2.new.world c.let_go.new.list.list) gave.fileset went
    (gave.calls went.gone c.let_go.new.list.list went.stands went.again))
