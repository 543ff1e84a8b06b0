use Rattle.std.proofs.Common.{◌≡◌, ◌+◌, IfErr, IsSomeAnd, Option, Result, Ok, Err, List, ap, subst, sym}
use Rattle.std.specs.Result.{IsErrAnd}
use Rattle.index_pages.specs.page_store.Bitfiles.{put_page, with_change}
use Rattle.index_pages.specs.page_store.Pages.{Pages}
use Rattle.index_pages.specs.metadata_cells.Chain.{PlacedCell}
use Rattle.index_pages.specs.fileset_files.declared.attributes.Attributes.{Attributes}
use Rattle.index_pages.specs.fileset_files.Changes.{CanSay, says_attributes, with_chain, with_first}
use Rattle.index_pages.specs.fileset_files.Together.{AreTogether}
use Rattle.stored_set.proofs.Lengthened.{added_set, adds_none, can_say, gets_page, may_grow_any}
use Rattle.stored_set.specs.Sets.{AddsNone, StandsAsSet, with_length}
use Rattle.stored_set.proofs.adding.lengthen.Goals as goal

err_and : {A E : Type 0} {P Q : E → Type 0} → ((e : E) → P e → Q e) → (r : Result A E) → IsErrAnd r P → IfErr r Q
err_and f (Ok a) p = tt
err_and f (Err e) p = f e p

pub set_attributes-requires-clause-live : goal.set_attributes-requires-clause-live
set_attributes-requires-clause-live g c = λ chains are.
    subst (λ (v : Attributes). CanSay v c.args.tag chains) (sym c.with_length-value.ensures) (can_say c.args.files.now.fileset c.args.files.now.tags (g.M.MetaPages.pages c.args.pages.now) chains are c.args.tag c.args.was.now (c.requires.is chains are) (c.args.page + 1))

pub give_page-requires-clause-together : goal.give_page-requires-clause-together
give_page-requires-clause-together g c =
    let was = c.requires.set.1 in
    (with_chain c.args.tag (with_first (says_attributes c.with_length-value.result)) was.chains, c.in_ok-set_attributes.ensures.together c.args.space.now c.args.cells.now was.chains was.stands.together)

pub give_page-requires-clause-grows : goal.give_page-requires-clause-grows
give_page-requires-clause-grows g c = λ chains are.
    let set = c.requires.set.0 in
    let was = c.requires.set.1 in
    let fileset = c.args.files.now.fileset in
    let places = c.args.files.now.tags in
    let old = g.M.MetaPages.pages c.args.pages.now in
    let mid = g.M.MetaPages.pages c.set_attributes.new.pages in
    may_grow_any fileset places c.args.space.now c.args.cells.now old mid set was c.args.tag c.args.was.now (c.requires.is was.chains was.stands.together.files) c.args.page c.requires.small (c.requires.directory set was) (c.requires.last set was)
    (c.set_attributes.ensures.beside was.chains was.stands.together.files)
    (subst (λ (v : Attributes). AreTogether fileset places c.args.space.now c.args.cells.now mid (with_chain c.args.tag (with_first (says_attributes v)) was.chains)) c.with_length-value.ensures (c.in_ok-set_attributes.ensures.together c.args.space.now c.args.cells.now was.chains was.stands.together))
    chains are.files

pub returns-in_err-home-clause-none : goal.returns-in_err-home-clause-none
returns-in_err-home-clause-none g c = λ chains together.
    let fileset = c.args.files.now.fileset in
    let places = c.args.files.now.tags in
    let mid = g.M.MetaPages.pages c.set_attributes.new.pages in
    let said = subst (λ (v : Attributes). AreTogether fileset places c.args.space.now c.args.cells.now mid (with_chain c.args.tag (with_first (says_attributes v)) chains)) c.with_length-value.ensures (c.in_ok-set_attributes.ensures.together c.args.space.now c.args.cells.now chains together) in
    err_and (λ fault is. subst (AddsNone c.args.tag c.args.page chains c.args.space.now c.give_page.new.space c.args.cells.now) (sym is)
    (adds_none c.args.tag c.args.page chains c.args.was.now c.args.space.now c.give_page.new.space c.args.cells.now c.in_err-home.field-0.0 (c.requires.is chains together.files) (c.in_err-home.ensures.err (with_length (c.args.page + 1) c.args.was.now c.args.tag chains) said)))
    c.from_residual-in_err-home.result c.from_residual-in_err-home.ensures.1

pub returns-clause-ok : goal.returns-clause-ok
returns-clause-ok g c = λ set was.
    let fileset = c.args.files.now.fileset in
    let places = c.args.files.now.tags in
    let old = g.M.MetaPages.pages c.args.pages.now in
    let mid = g.M.MetaPages.pages c.set_attributes.new.pages in
    let now = with_length (c.args.page + 1) c.args.was.now c.args.tag was.chains in
    let said = subst (λ (v : Attributes). AreTogether fileset places c.args.space.now c.args.cells.now mid (with_chain c.args.tag (with_first (says_attributes v)) was.chains)) c.with_length-value.ensures (c.in_ok-set_attributes.ensures.together c.args.space.now c.args.cells.now was.chains was.stands.together) in
    subst (λ (ps : Pages). StandsAsSet fileset places c.give_page.new.space c.give_page.new.cells ps (with_change c.args.tag (put_page c.args.page c.args.bytes) set)) (sym c.put.ensures.value)
    (added_set fileset places c.args.space.now c.args.cells.now old mid set was c.args.tag c.args.was.now (c.requires.is was.chains was.stands.together.files) c.args.page c.requires.small (c.requires.directory set was) (c.requires.last set was)
    (c.set_attributes.ensures.beside was.chains was.stands.together.files) said c.give_page.new.space c.give_page.new.cells (g.M.MetaPages.pages c.give_page.new.pages) c.in_ok-home.home c.args.bytes c.args.version c.args.prefer c.give_page.ensures.elsewhere
    (c.in_ok-home.ensures.ok now said) (c.in_ok-home.ensures.taken now said))

pub returns-clause-adds : goal.returns-clause-adds
returns-clause-adds g c = λ chains together.
    let fileset = c.args.files.now.fileset in
    let places = c.args.files.now.tags in
    let mid = g.M.MetaPages.pages c.set_attributes.new.pages in
    let now = with_length (c.args.page + 1) c.args.was.now c.args.tag chains in
    let said = subst (λ (v : Attributes). AreTogether fileset places c.args.space.now c.args.cells.now mid (with_chain c.args.tag (with_first (says_attributes v)) chains)) c.with_length-value.ensures (c.in_ok-set_attributes.ensures.together c.args.space.now c.args.cells.now chains together) in
    record {
      said = mid;
      first = c.set_attributes.ensures.beside chains together.files;
      together = said;
      gets = gets_page fileset places c.args.tag c.args.page c.args.bytes c.args.prefer c.args.version now c.args.space.now c.give_page.new.space c.args.cells.now c.give_page.new.cells mid (g.M.MetaPages.pages c.give_page.new.pages) (g.M.MetaPages.pages c.put.new.self) c.in_ok-home.home
          (now c.args.tag) (c.in_ok-home.ensures.ok now said) (c.in_ok-home.ensures.taken now said) (c.give_page.ensures.others now said) c.give_page.ensures.elsewhere c.put.ensures.value;
    }
