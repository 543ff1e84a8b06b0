use Rattle.std.proofs.Common.{◌≡◌, ◌∙◌, ◌-◌, ℕ, IsSome, List, Option, Some, None, cond, inr, is_some, refl, subst, sym}
use Rattle.std.proofs.lemmas.Bool.{true≢false}
use Rattle.std.specs.Option.{option_and_then}
use Rattle.index_pages.specs.page_store.Bitfiles.{put_page, with_change}
use Rattle.index_pages.specs.page_store.Pages.{Pages}
use Rattle.stored_set.proofs.Written.{written}
use Rattle.index_pages.specs.fileset_files.State.{states_of}
use Rattle.stored_set.proofs.Wholeness.{whole_written}
use Rattle.stored_set.proofs.Bare.{bare_written}
use Rattle.stored_set.proofs.Live.{home_is, page_stands}
use Rattle.stored_set.specs.Sets.{StandsAsSet}
use Rattle.stored_set.proofs.pages.write_page.Goals as goal

pub put-requires : goal.put-requires
put-requires g c =
    let pages = g.M.MetaPages.pages c.args.pages.now in
    let set = c.requires.set.0 in
    let was = c.requires.set.1 in
    inr (subst (λ o. IsSome (option_and_then pages o)) (sym c.home.ensures ∙ c.in-Some.is)
    (page_stands c.args.files.now.fileset c.args.files.now.tags c.args.space.now c.args.cells.now pages set was c.args.tag (c.requires.directory set was) c.args.page (c.requires.there set was) c.page_home.result (c.page_home.ensures was.chains was.stands.together.files)))

pub returns-in-Some-clause-put : goal.returns-in-Some-clause-put
returns-in-Some-clause-put g c = λ set was.
    let old = g.M.MetaPages.pages c.args.pages.now in
    let fileset = c.args.files.now.fileset in
    let places = c.args.files.now.tags in
    let space = c.args.space.now in
    let cells = c.args.cells.now in
    let at = sym (c.page_home.ensures was.chains was.stands.together.files) ∙ home_is c.page_home.result c.in-Some.home (sym c.home.ensures ∙ c.in-Some.is) in
    subst (λ (ps : Pages). StandsAsSet fileset places space cells ps (with_change c.args.tag (put_page c.args.page c.args.bytes) set)) (sym c.put.ensures.value)
    (record {
      chains = was.chains;
      indexes = was.indexes;
      stands = written fileset places space cells old was.chains was.indexes set was.stands c.args.tag c.args.page c.in-Some.home c.args.bytes at (c.requires.directory set was) (c.requires.there set was);
      whole = whole_written (states_of was.chains) set was.whole c.args.tag c.args.page c.args.bytes (c.requires.there set was);
      bare = bare_written set was.bare c.args.tag c.args.page c.args.bytes;
      low = was.low;
    })

room_same : (o : Option (List ℕ)) (room less : ℕ) → IsSome o → cond (is_some o) room less ≡ room
room_same None room less some = absurd (true≢false (sym some))
room_same (Some page) room less some = refl

pub returns-in-Some-clause-room : goal.returns-in-Some-clause-room
returns-in-Some-clause-room g c =
    let pages = g.M.MetaPages.pages c.args.pages.now in
    let room = g.M.MetaPages.room c.args.pages.now in
    let set = c.requires.set.0 in
    let was = c.requires.set.1 in
    c.put.ensures.left ∙ room_same (pages c.in-Some.home) room (room - 1) (subst (λ o. IsSome (option_and_then pages o)) (sym c.home.ensures ∙ c.in-Some.is)
    (page_stands c.args.files.now.fileset c.args.files.now.tags c.args.space.now c.args.cells.now pages set was c.args.tag (c.requires.directory set was) c.args.page (c.requires.there set was) c.page_home.result (c.page_home.ensures was.chains was.stands.together.files)))

pub returns-in_default-clause-put : goal.returns-in_default-clause-put
returns-in_default-clause-put g c = λ set was.
    let pages = g.M.MetaPages.pages c.args.pages.now in
    absurd (true≢false (sym (subst (λ o. IsSome (option_and_then pages o)) (sym c.home.ensures ∙ c.in_default.is)
    (page_stands c.args.files.now.fileset c.args.files.now.tags c.args.space.now c.args.cells.now pages set was c.args.tag (c.requires.directory set was) c.args.page (c.requires.there set was) c.page_home.result (c.page_home.ensures was.chains was.stands.together.files)))))
