use Rattle.std.proofs.Common.{◌∙◌, ◌^◌, ◌<◌, arith, ap, length, refl, subst, sym}
use Rattle.domain_changes.specs.fileset_files.declared.bitfiles.Bitfiles.{Bitfiles}
use Rattle.domain_changes.specs.fileset_files.Changes.{without_chain}
use Rattle.domain_changes.specs.fileset_files.Together.{AreTogether}
use Rattle.domain_changes.specs.free_space.Spaces.{kept_spaces}
use Rattle.domain_changes.specs.domain_memory.Held.{held_open}
use Rattle.release_changes.proofs.HeldOver.{waiting_less}
use Rattle.release_changes.proofs.WithIndex.{homes_still, homes_were, takes_none, takes_some, waiting_kept}
use Rattle.release_changes.proofs.emptying.take_with_index.Goals as goal

pub returns-in_default-clause-takes : goal.returns-in_default-clause-takes
returns-in_default-clause-takes g c =
    let (chains, are) = c.requires.files in
    let files = c.args.files.now in
    takes_none c.args.group files.fileset files.tags c.args.tag c.args.space.now (g.M.MetaPages.pages c.args.pages.now) chains are (c.requires.live chains are) (sym c.in_default.is ∙ c.index.ensures chains are)
    (g.M.MetaPages.pages c.remove.new.pages) c.remove.ensures.beside c.remove.new.self files c.remove.ensures.same refl refl c.remove.result c.remove.ensures.ok c.remove.ensures.together c.remove.ensures.sequences

pub count_index-requires : goal.count_index-requires
count_index-requires g c =
    let (chains, are) = c.requires.files in
    let files = c.args.files.now in
    let apart = c.requires.index chains are in (
      apart.homes,
      homes_were c.args.group files.fileset files.tags c.args.tag c.args.space.now (g.M.MetaPages.pages c.args.pages.now) chains are (c.requires.live chains are) c.in-Some.index (sym c.in-Some.is ∙ c.index.ensures chains are) apart,
    )

pub drop_index-requires : goal.drop_index-requires
drop_index-requires g c =
    let (chains, are) = c.requires.files in
    let files = c.args.files.now in
    let live = c.requires.live chains are in
    let apart = c.requires.index chains are in
    let told = sym c.in-Some.is ∙ c.index.ensures chains are in
    let old = g.M.MetaPages.pages c.args.pages.now in
    let count = c.count_index.ensures apart.homes (homes_were c.args.group files.fileset files.tags c.args.tag c.args.space.now old chains are live c.in-Some.index told apart) in
    let few : length apart.homes < 2 ^ 32 = omega (arith, count, c.if-count_index.false) in
    record {
      index = (
        apart.homes,
        homes_still c.args.group files.fileset files.tags c.args.tag c.args.space.now old chains are live c.in-Some.index told apart (g.M.MetaPages.pages c.take_out.new.pages) c.in_ok-at.ensures.beside,
        few,
        apart.held,
      );
    }

pub returns-clause-takes : goal.returns-clause-takes
returns-clause-takes g c =
    let (chains, are) = c.requires.files in
    let files = c.args.files.now in
    let live = c.requires.live chains are in
    let apart = c.requires.index chains are in
    let told = sym c.in-Some.is ∙ c.index.ensures chains are in
    let old = g.M.MetaPages.pages c.args.pages.now in
    let mid = g.M.MetaPages.pages c.take_out.new.pages in
    takes_some c.args.group files.fileset files.tags c.args.tag c.args.space.now old chains are live c.in-Some.index told apart mid c.in_ok-at.ensures.beside c.in_ok-at.at c.drop_index.new.space (g.M.MetaPages.pages c.drop_index.new.pages) c.in_ok-at.ensures.ok
    (λ s cells any was. subst (λ (f : Bitfiles). AreTogether f.fileset f.tags s cells mid (without_chain c.args.tag any)) c.take_out.ensures.same (c.in_ok-at.ensures.together s cells any was))
    c.in_ok-at.ensures.sequences c.drop_index.ensures.dropped

pub returns-clause-kept : goal.returns-clause-kept
returns-clause-kept g c =
    let (chains, are) = c.requires.files in
    let files = c.args.files.now in
    let live = c.requires.live chains are in
    let apart = c.requires.index chains are in
    let told = sym c.in-Some.is ∙ c.index.ensures chains are in
    let old = g.M.MetaPages.pages c.args.pages.now in
    let drops = c.drop_index.ensures.dropped apart.homes (homes_still c.args.group files.fileset files.tags c.args.tag c.args.space.now old chains are live c.in-Some.index told apart (g.M.MetaPages.pages c.take_out.new.pages) c.in_ok-at.ensures.beside) in
    ap kept_spaces drops.waits ∙ waiting_kept apart.homes c.args.group c.args.space.now

pub returns-clause-held : goal.returns-clause-held
returns-clause-held g c =
    let (chains, are) = c.requires.files in
    let files = c.args.files.now in
    let live = c.requires.live chains are in
    let apart = c.requires.index chains are in
    let told = sym c.in-Some.is ∙ c.index.ensures chains are in
    let drops = c.drop_index.ensures.dropped apart.homes (homes_still c.args.group files.fileset files.tags c.args.tag c.args.space.now (g.M.MetaPages.pages c.args.pages.now) chains are live c.in-Some.index told apart (g.M.MetaPages.pages c.take_out.new.pages) c.in_ok-at.ensures.beside) in
    let less = waiting_less apart.homes c.args.group c.args.space.now in
    let is = ap held_open drops.waits in
    omega (arith, less, is)
