use Rattle.std.proofs.Common.{◌≡◌, ◌∙◌, ◌≤◌, IsSomeAnd, ap, subst, sym}
use Rattle.index_pages.specs.domain_base.Limits.{max_links}
use Rattle.index_pages.specs.page_store.Bitfiles.{Bitfiles as SetOf, linked, with_change}
use Rattle.index_pages.specs.fileset_files.declared.attributes.Attributes.{Attributes}
use Rattle.index_pages.specs.fileset_files.Changes.{CanSay, says_attributes, with_chain, with_first}
use Rattle.index_pages.specs.fileset_files.Together.{AreTogether}
use Rattle.index_pages.proofs.OfFilesetFiles.SetFirst.{map_ok}
use Rattle.stored_set.proofs.Owned.{set as owner_set}
use Rattle.stored_set.specs.Standing.{StandsShown, owned}
use Rattle.index_pages.specs.fileset_files.State.{States, states_of}
use Rattle.index_pages.specs.fileset_files.States.{described}
use Rattle.index_pages.proofs.OfFilesetFiles.FirstCells.{attributes_said}
use Rattle.stored_set.proofs.Wholeness.{whole_described}
use Rattle.stored_set.specs.Whole.{AreWholeDirectories}
use Rattle.stored_set.proofs.Bare.{bare_linked}
use Rattle.stored_set.proofs.Live.{not_live, owned_again}
use Rattle.stored_set.proofs.Sized.{size_here, the_file}
use Rattle.stored_set.proofs.States.{said_states}
use Rattle.stored_set.proofs.changes.set_links.Goals as goal

pub returns-clause-ok : goal.returns-clause-ok
returns-clause-ok g c = λ set was.
    let old = g.M.MetaPages.pages c.args.pages.now in
    let new = g.M.MetaPages.pages c.set_attributes.new.pages in
    let space = c.args.space.now in
    let cells = c.args.cells.now in
    let fileset = c.args.files.now.fileset in
    let places = c.args.files.now.tags in
    let tag = c.args.tag in
    let value = c.with_links-value.result in
    let said = sym c.in-Some.is ∙ c.attributes.ensures was.chains was.stands.together.files in
    let can : CanSay value tag was.chains = record {
      kind = subst (λ o. IsSomeAnd o (λ (w : Attributes). w.kind ≡ value.kind)) said (sym (ap (λ (v : Attributes). v.kind) c.with_links-value.ensures));
      named = subst (λ (v : Attributes). 1 ≤ v.links) (sym c.with_links-value.ensures) c.requires.named;
      most = subst (λ (v : Attributes). v.links ≤ max_links) (sym c.with_links-value.ensures) c.requires.most;
    } in
    let again : with_change tag (owned value) set ≡ with_change tag (linked c.args.links) set
    = ap (λ (v : Attributes). with_change tag (owned v) set) c.with_links-value.ensures ∙ owned_again fileset places space cells old set was tag c.in-Some.was c.args.links was.chains was.stands.together.files said in
    map_ok
    (λ together. record {
      chains = with_chain tag (with_first (says_attributes value)) was.chains;
      indexes = was.indexes;
      stands = subst (λ (s : SetOf). StandsShown fileset places space cells new (with_chain tag (with_first (says_attributes value)) was.chains) was.indexes s) again
          (owner_set fileset places space cells old new was.chains was.indexes set was.stands tag value can (c.set_attributes.ensures.beside was.chains was.stands.together.files) together);
      whole = subst (λ (s : SetOf). AreWholeDirectories (states_of (with_chain tag (with_first (says_attributes value)) was.chains)) s) again
          (subst (λ (s : States). AreWholeDirectories s (with_change tag (owned value) set)) (sym (said_states fileset places old was.chains tag (says_attributes value) (described value) was.stands.together.files (λ pages first rest file. attributes_said pages first rest file value)))
          (whole_described (states_of was.chains) set was.whole tag value (λ directory. ap (λ (v : Attributes). v.size) c.with_links-value.ensures ∙ size_here fileset places space cells old set was tag (the_file set tag directory) c.in-Some.was said)));
      bare = bare_linked set was.bare tag c.args.links;
      low = was.low;
    })
    c.set_attributes.result (c.set_attributes.ensures.together space cells was.chains was.stands.together)

pub returns-clause-says : goal.returns-clause-says
returns-clause-says g c = λ chains together.
    let new = g.M.MetaPages.pages c.set_attributes.new.pages in
    let space = c.args.space.now in
    let cells = c.args.cells.now in
    let fileset = c.args.files.now.fileset in
    let places = c.args.files.now.tags in
    let tag = c.args.tag in
    map_ok
    (λ after. subst (λ o. IsSomeAnd o (λ (w : Attributes). AreTogether fileset places space cells new (with_chain tag (with_first (says_attributes (record w { links = c.args.links }))) chains))) (sym c.in-Some.is ∙ c.attributes.ensures chains together.files)
    (subst (λ (v : Attributes). AreTogether fileset places space cells new (with_chain tag (with_first (says_attributes v)) chains)) c.with_links-value.ensures after))
    c.set_attributes.result (c.set_attributes.ensures.together space cells chains together)

pub unreachable-requires : goal.unreachable-requires
unreachable-requires g c =
    let set = c.requires.set.0 in
    let was = c.requires.set.1 in
    not_live c.args.files.now.fileset c.args.files.now.tags c.args.space.now c.args.cells.now (g.M.MetaPages.pages c.args.pages.now) set was c.args.tag (c.requires.live set was) was.chains was.stands.together.files
    (sym c.in_default.is ∙ c.attributes.ensures was.chains was.stands.together.files)
