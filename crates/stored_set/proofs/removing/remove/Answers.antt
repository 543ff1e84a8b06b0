use Rattle.std.proofs.Common.{◌∙◌, Option, Some, IfOk, ap, subst, sym}
use Rattle.std.specs.Option.{option_and_then}
use Rattle.index_pages.specs.domain_base.declared.place.CellAt.{CellAt}
use Rattle.index_pages.specs.domain_base.declared.place.Home.{Home}
use Rattle.index_pages.specs.page_store.Bitfiles.{without_file}
use Rattle.index_pages.specs.fileset_files.declared.bitfiles.Bitfiles.{Bitfiles}
use Rattle.index_pages.specs.fileset_files.Changes.{Removes, without_chain}
use Rattle.index_pages.specs.fileset_files.Files.{Chains}
use Rattle.index_pages.specs.fileset_files.Shown.{index_of}
use Rattle.index_pages.specs.fileset_files.State.{States, states_of}
use Rattle.index_pages.specs.fileset_files.Together.{AreTogether}
use Rattle.index_pages.proofs.OfFilesetFiles.SetFirst.{map_ok}
use Rattle.index_pages.specs.Changes.{DropsIndex}
use Rattle.index_pages.specs.Homes.{AreIndexHomes}
use Rattle.index_pages.proofs.Homes.{one_list}
use Rattle.stored_set.proofs.Bare.{bare_taken}
use Rattle.stored_set.proofs.TakenOut.{taken_out}
use Rattle.stored_set.proofs.Wholeness.{whole_removed}
use Rattle.stored_set.specs.Whole.{AreWholeDirectories}
use Rattle.stored_set.proofs.Live.{live_any}
use Rattle.stored_set.proofs.States.{taken_states}
use Rattle.stored_set.proofs.TakenAway.{all_held, begin_is, few, gives_none, homes_still, no_begin, removes_still, same_chains, sequences_still, set_taken}
use Rattle.stored_set.specs.Sets.{StandsAsSet, without_index, without_index_from}
use Rattle.stored_set.proofs.removing.remove.Goals as goal

-- ---- without an index

pub remove-requires-clause-live : goal.remove-requires-clause-live
remove-requires-clause-live g c = λ chains are.
    let set = c.requires.set.0 in
    let was = c.requires.set.1 in
    live_any c.args.files.now.fileset c.args.files.now.tags c.args.space.now c.args.cells.now (g.M.MetaPages.pages c.args.pages.now) set was c.args.tag (c.requires.live set was) chains are

pub returns-in_default-clause-ok : goal.returns-in_default-clause-ok
returns-in_default-clause-ok g c = λ set was.
    let old = g.M.MetaPages.pages c.args.pages.now in
    let new = g.M.MetaPages.pages c.remove.new.pages in
    let space = c.args.space.now in
    let cells = c.args.cells.now in
    let fileset = c.args.files.now.fileset in
    let places = c.args.files.now.tags in
    let tag = c.args.tag in
    let live = live_any fileset places space cells old set was tag (c.requires.live set was) was.chains was.stands.together.files in
    map_ok
    (λ together. subst (λ (f : Bitfiles). StandsAsSet f.fileset f.tags space cells new (without_file tag set)) (sym c.remove.ensures.same) (record {
      chains = without_chain tag was.chains;
      indexes = _;
      stands = taken_out fileset places space cells old new was.chains was.indexes set was.stands tag live (c.remove.ensures.beside was.chains was.stands.together.files)
          (subst (λ (f : Bitfiles). AreTogether f.fileset f.tags space cells new (without_chain tag was.chains)) c.remove.ensures.same together);
      whole = subst (λ (s : States). AreWholeDirectories s (without_file tag set)) (sym (taken_states tag was.chains)) (whole_removed (states_of was.chains) set was.whole tag);
      bare = bare_taken set was.bare tag;
      low = was.low;
    }))
    c.remove.result (c.remove.ensures.together space cells was.chains was.stands.together)

pub returns-in_default-clause-removes : goal.returns-in_default-clause-removes
returns-in_default-clause-removes g c = λ chains are.
    let set = c.requires.set.0 in
    let was = c.requires.set.1 in
    let old = g.M.MetaPages.pages c.args.pages.now in
    let new = g.M.MetaPages.pages c.remove.new.pages in
    let fileset = c.args.files.now.fileset in
    let places = c.args.files.now.tags in
    let tag = c.args.tag in
    let told = sym c.in_default.is ∙ c.index.ensures was.chains was.stands.together.files in
    let none = ap (λ (cs : Chains). option_and_then index_of (cs tag)) (same_chains fileset places old chains was.chains are was.stands.together.files) ∙ no_begin fileset places c.args.space.now c.args.cells.now old set was tag (c.requires.live set was) told in
    subst (λ (o : Option Home). IfOk c.remove.result (λ (at : CellAt). Removes fileset places tag at (without_index_from o tag chains) new)) (sym none) (c.remove.ensures.ok chains are)

pub returns-in_default-clause-gives : goal.returns-in_default-clause-gives
returns-in_default-clause-gives g c = λ chains homes are are_homes.
    let set = c.requires.set.0 in
    let was = c.requires.set.1 in
    let old = g.M.MetaPages.pages c.args.pages.now in
    let new = g.M.MetaPages.pages c.remove.new.pages in
    let fileset = c.args.files.now.fileset in
    let places = c.args.files.now.tags in
    let tag = c.args.tag in
    let told = sym c.in_default.is ∙ c.index.ensures was.chains was.stands.together.files in
    let none = ap (λ (cs : Chains). option_and_then index_of (cs tag)) (same_chains fileset places old chains was.chains are was.stands.together.files) ∙ no_begin fileset places c.args.space.now c.args.cells.now old set was tag (c.requires.live set was) told in
    map_ok (λ files. gives_none c.args.group places (chains tag) homes c.args.space.now old new none are_homes (c.remove.ensures.beside chains are)) c.remove.result (c.remove.ensures.together c.args.space.now c.args.cells.now was.chains was.stands.together)

-- ---- with an index

pub take_out-requires-clause-live : goal.take_out-requires-clause-live
take_out-requires-clause-live g c = λ chains are.
    let set = c.requires.set.0 in
    let was = c.requires.set.1 in
    live_any c.args.files.now.fileset c.args.files.now.tags c.args.space.now c.args.cells.now (g.M.MetaPages.pages c.args.pages.now) set was c.args.tag (c.requires.live set was) chains are

pub drop_index-requires : goal.drop_index-requires
drop_index-requires g c =
    let set = c.requires.set.0 in
    let was = c.requires.set.1 in
    let old = g.M.MetaPages.pages c.args.pages.now in
    let mid = g.M.MetaPages.pages c.take_out.new.pages in
    let fileset = c.args.files.now.fileset in
    let places = c.args.files.now.tags in
    let space = c.args.space.now in
    let cells = c.args.cells.now in
    let tag = c.args.tag in
    let told = sym c.in-Some.is ∙ c.index.ensures was.chains was.stands.together.files in
    let beside = c.in_ok-at.ensures.beside was.chains was.stands.together.files in
    record {
      index = (
        was.indexes tag,
        homes_still fileset places space cells old mid set was tag c.in-Some.index told (c.requires.live set was) beside,
        few fileset places space cells old mid set was tag c.in-Some.index told (c.requires.live set was) beside,
        all_held fileset places space cells old mid set was tag c.in-Some.index told (c.requires.live set was) beside,
      );
    }

pub returns-clause-ok : goal.returns-clause-ok
returns-clause-ok g c = λ set was.
    let old = g.M.MetaPages.pages c.args.pages.now in
    let mid = g.M.MetaPages.pages c.take_out.new.pages in
    let new = g.M.MetaPages.pages c.drop_index.new.pages in
    let fileset = c.args.files.now.fileset in
    let places = c.args.files.now.tags in
    let space = c.args.space.now in
    let cells = c.args.cells.now in
    let tag = c.args.tag in
    let told = sym c.in-Some.is ∙ c.index.ensures was.chains was.stands.together.files in
    let some = c.requires.live set was in
    let beside = c.in_ok-at.ensures.beside was.chains was.stands.together.files in
    let together = subst (λ (f : Bitfiles). AreTogether f.fileset f.tags space cells mid (without_chain tag was.chains)) c.take_out.ensures.same (c.in_ok-at.ensures.together space cells was.chains was.stands.together) in
    let drops = c.drop_index.ensures.dropped (was.indexes tag) (homes_still fileset places space cells old mid set was tag c.in-Some.index told some beside) in
    subst (λ (f : Bitfiles). StandsAsSet f.fileset f.tags c.drop_index.new.space cells new (without_file tag set)) (sym c.take_out.ensures.same)
    (set_taken fileset places space cells old mid set was tag c.in-Some.index told some beside c.drop_index.new.space new c.args.group together drops)

pub returns-clause-removes : goal.returns-clause-removes
returns-clause-removes g c = λ chains are.
    let set = c.requires.set.0 in
    let was = c.requires.set.1 in
    let old = g.M.MetaPages.pages c.args.pages.now in
    let mid = g.M.MetaPages.pages c.take_out.new.pages in
    let new = g.M.MetaPages.pages c.drop_index.new.pages in
    let fileset = c.args.files.now.fileset in
    let places = c.args.files.now.tags in
    let space = c.args.space.now in
    let cells = c.args.cells.now in
    let tag = c.args.tag in
    let told = sym c.in-Some.is ∙ c.index.ensures was.chains was.stands.together.files in
    let some = c.requires.live set was in
    let beside = c.in_ok-at.ensures.beside was.chains was.stands.together.files in
    let together = subst (λ (f : Bitfiles). AreTogether f.fileset f.tags space cells mid (without_chain tag was.chains)) c.take_out.ensures.same (c.in_ok-at.ensures.together space cells was.chains was.stands.together) in
    let drops = c.drop_index.ensures.dropped (was.indexes tag) (homes_still fileset places space cells old mid set was tag c.in-Some.index told some beside) in
    subst (λ (cs : Chains). Removes fileset places tag c.in_ok-at.at (without_index tag cs) new) (sym (same_chains fileset places old chains was.chains are was.stands.together.files))
    (removes_still fileset places space cells old mid set was tag c.in-Some.index told some beside c.drop_index.new.space new c.args.group together drops c.in_ok-at.at (c.in_ok-at.ensures.ok was.chains was.stands.together.files))

pub returns-clause-gives : goal.returns-clause-gives
returns-clause-gives g c = λ chains homes are are_homes.
    let set = c.requires.set.0 in
    let was = c.requires.set.1 in
    let old = g.M.MetaPages.pages c.args.pages.now in
    let mid = g.M.MetaPages.pages c.take_out.new.pages in
    let new = g.M.MetaPages.pages c.drop_index.new.pages in
    let fileset = c.args.files.now.fileset in
    let places = c.args.files.now.tags in
    let space = c.args.space.now in
    let cells = c.args.cells.now in
    let tag = c.args.tag in
    let told = sym c.in-Some.is ∙ c.index.ensures was.chains was.stands.together.files in
    let some = c.requires.live set was in
    let beside = c.in_ok-at.ensures.beside was.chains was.stands.together.files in
    let drops = c.drop_index.ensures.dropped (was.indexes tag) (homes_still fileset places space cells old mid set was tag c.in-Some.index told some beside) in
    let begin = begin_is fileset places space cells old mid set was tag c.in-Some.index told some beside in
    let same = same_chains fileset places old chains was.chains are was.stands.together.files in
    let here = subst (λ o. AreIndexHomes old o homes) (ap (λ (cs : Chains). option_and_then index_of (cs tag)) same ∙ begin) are_homes in
    let there = subst (λ o. AreIndexHomes old o (was.indexes tag)) begin (was.stands.indexed tag) in
    record {
      said = mid;
      beside = c.in_ok-at.ensures.beside chains are;
      drops = subst (DropsIndex c.args.group space c.drop_index.new.space mid new) (one_list old (Some c.in-Some.index.first) (was.indexes tag) homes there here) drops;
    }

pub returns-clause-sequences : goal.returns-clause-sequences
returns-clause-sequences g c = λ slot.
    let set = c.requires.set.0 in
    let was = c.requires.set.1 in
    let old = g.M.MetaPages.pages c.args.pages.now in
    let mid = g.M.MetaPages.pages c.take_out.new.pages in
    let new = g.M.MetaPages.pages c.drop_index.new.pages in
    let fileset = c.args.files.now.fileset in
    let places = c.args.files.now.tags in
    let space = c.args.space.now in
    let cells = c.args.cells.now in
    let tag = c.args.tag in
    let told = sym c.in-Some.is ∙ c.index.ensures was.chains was.stands.together.files in
    let some = c.requires.live set was in
    let beside = c.in_ok-at.ensures.beside was.chains was.stands.together.files in
    let together = subst (λ (f : Bitfiles). AreTogether f.fileset f.tags space cells mid (without_chain tag was.chains)) c.take_out.ensures.same (c.in_ok-at.ensures.together space cells was.chains was.stands.together) in
    let drops = c.drop_index.ensures.dropped (was.indexes tag) (homes_still fileset places space cells old mid set was tag c.in-Some.index told some beside) in
    sequences_still fileset places space cells old mid set was tag c.in-Some.index told some beside c.drop_index.new.space new c.args.group together drops slot ∙ c.in_ok-at.ensures.sequences slot
