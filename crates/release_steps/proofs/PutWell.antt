-- All goes on to belong together where a tag's file has a page at a home.
use Rattle.std.proofs.Common.{◌≡◌, ◌∙◌, ℕ, Bool, true, false, cond, nat_eq, List, [], ◌∷◌, Some, IfSome, Contains, refl, sym, ap, subst, ⊎_elim, ◌⊎◌, inl, inr, is_some}
use Rattle.std.proofs.lemmas.Bool.{eqb-true}
use Rattle.std.specs.List.{AllByRecursion}
use Rattle.std.specs.Option.{option_and_then}
use Rattle.release_list.specs.domain_base.declared.place.CellAt.{CellAt}
use Rattle.release_list.specs.domain_base.declared.place.Home.{Home}
use Rattle.release_list.specs.domain_base.declared.place.Tag.{Tag}
use Rattle.release_list.specs.domain_base.declared.version.Version.{Version}
use Rattle.release_list.specs.page_store.Pages.{Pages}
use Rattle.release_list.specs.metadata_cells.Chain.{PlacedCell, StandsAt, places as cell_places}
use Rattle.release_list.specs.tag_dirs.declared.dir.TagPlace.{TagPlace}
use Rattle.release_list.specs.tag_dirs.Directory.{has_home}
use Rattle.release_list.specs.extent_maps.declared.run.PagePlace.TheVariants.{At}
use Rattle.release_list.specs.free_cells.Cells.{Cells, table_of}
use Rattle.release_list.specs.free_space.Spaces.{Spaces}
use Rattle.release_list.specs.file_chains.Files.{places_of}
use Rattle.release_list.proofs.OfFileChains.Chosen.{all_at}
use Rattle.release_list.specs.file_chains.Changes.{IsInUse}
use Rattle.release_list.proofs.OfFileChains.Spaces.{not_held}
use Rattle.release_list.specs.fileset_files.Changes.{with_chain}
use Rattle.release_list.specs.fileset_files.Files.{AreApart, Chains, is_removed, first_record}
use Rattle.release_list.specs.fileset_files.Together.{IsFilePage, IsHeldApart}
use Rattle.release_list.proofs.OfFilesetFiles.Again.{one_home}
use Rattle.release_list.proofs.OfFilesetFiles.Grown.{apart_grows, apart_taken, one_apart}
use Rattle.release_list.proofs.OfFilesetFiles.OneChain.{chain_other, placed_at}
use Rattle.release_list.proofs.OfFileRelease.Outcome.{on_at}
use Rattle.release_list.specs.Listed.{left_of, leftover_in, SaysWhatGoes}
use Rattle.release_list.specs.Listing.{Listing}
use Rattle.release_list.specs.Standing.{Files, place_in, source_in, with_file}
use Rattle.release_list.specs.Steps.{IsWell, Now, now_of}
use Rattle.release_list.proofs.Firsts.{first_same}
use Rattle.release_list.proofs.Standings.{apart_by, file_there, place_by, source_by, stand_chain, standing}
use Rattle.release_steps.specs.Calls.{StandsWell, FilesetNow, Gives, Moves, PutsPage}
use Rattle.release_steps.specs.Tags.{AreAmong, start_of}
use Rattle.release_steps.specs.Waits.{IsNowhere}
use Rattle.release_steps.proofs.CallTables.{chain_put, given_tables, moved_tables, page_put}
use Rattle.release_steps.proofs.OneFile.{IsPut, put_listed, put_together, SaysByFirst}
use Rattle.release_steps.proofs.Said.{says_first}
use Rattle.release_steps.proofs.StillAmong.{still_among}
use Rattle.release_steps.proofs.TagFile.{beside_left, file_is, other_starts, started}
use Rattle.release_steps.proofs.Wells.{well_by}
use Rattle.release_list.specs.declared.list.Entry.{Entry}

-- cells that stand are in use
pub in_use : (pages : Pages) (cs : List PlacedCell) → AllByRecursion (λ (c : PlacedCell). StandsAt pages c.at c.cell) cs → AllByRecursion (λ (c : PlacedCell). IsInUse pages c.at) cs
in_use pages [] stand = tt
in_use pages (c ∷ cs) stand = ((c.cell, stand.0), in_use pages cs stand.1)

-- so it is by its parts
pub among_by : (now : Now) (places places_now : List TagPlace) (chains chains_now : Chains) (list : Listing) (files : Files) (space : Spaces) (cells : Cells) → now.list ≡ list → now.files ≡ files → places_now ≡ places → chains_now ≡ chains
    → AreAmong (now_of list files space cells now.pages) places chains → AreAmong now places_now chains_now
among_by now places places_now chains chains_now list files space cells same_list same_files same_places same_chains among =
    let one = subst (λ (l : Listing). AreAmong (now_of l files space cells now.pages) places chains) (sym same_list) among in
    let two = subst (λ (f : Files). AreAmong (now_of now.list f space cells now.pages) places chains) (sym same_files) one in
    let three = subst (λ (ps : List TagPlace). AreAmong (now_of now.list now.files space cells now.pages) ps chains) (sym same_places) two in
    let four = subst (λ (cs : Chains). AreAmong (now_of now.list now.files space cells now.pages) places_now cs) (sym same_chains) three in
    record { same = four.same; live = four.live; trimmed = four.trimmed; low = four.low; no_tags = four.no_tags; not_listed = four.not_listed }

module _ (fileset : ℕ) (version : Version) (tag : Tag) (old new : FilesetNow) (stood : StandsWell fileset old) (home : Home) (chain : List PlacedCell) (s : PutsPage fileset version tag home chain old new)
    (tables : (vol p : ℕ) → Contains (table_of old.domain.cells vol) p → Contains (table_of new.domain.cells vol) p) (held : (h : Home) → IsHeldApart old.domain.space old.domain.cells h → IsHeldApart new.domain.space new.domain.cells h)
    (nowhere : IsNowhere old.domain.files home) (not_listed : ¬ Contains old.domain.list.tag_pages home) where
  abbrev pub after : List PlacedCell
  after = s.change.change.changes.after

  abbrev pub at : CellAt
  at = s.change.start

  abbrev pub files : Files
  files = old.domain.files

  begins : (start_of chain ≡ Some at) × (start_of after ≡ Some at)
  begins = started new.domain.pages at chain after s.change.change.changes.first s.change.change.changes.is_file

  there : files at ≡ Some chain
  there = file_is fileset old.places old.domain.pages old.chains stood.together.files files stood.among.same tag chain s.is at begins.0

  beside : (a : CellAt) (cs : List PlacedCell) → files a ≡ Some cs → ¬ a ≡ at → AreApart cs chain
  beside a cs is not_at = apart_by old.domain.space old.domain.cells old.domain.pages files stood.well.together a at cs chain is there not_at

  joined_apart : (a : CellAt) (cs : List PlacedCell) → files a ≡ Some cs → ¬ a ≡ at → AreApart after cs
  joined_apart a cs is not_at q in_after in_cs =
      let c = placed_at after q in_after in
      let was = standing old.domain.space old.domain.cells old.domain.pages files stood.well.together a cs is in
      let joins = s.change.change.joined c.0 c.1 (λ in_chain. beside a cs is not_at q in_cs (subst (Contains (cell_places chain)) c.2 in_chain)) in
      let cell = all_at (IsInUse old.domain.pages) cs q (in_use old.domain.pages cs (stand_chain old.domain.pages a cs was.stands)) in_cs in
      joins.was_free cell.0 (subst (λ (b : CellAt). StandsAt old.domain.pages b cell.0) (sym c.2) cell.1)
      (subst (λ (b : CellAt). Contains (table_of old.domain.cells b.vol) b.page) (sym c.2) (on_at old.domain.cells cs q was.on_tables in_cs))

  abbrev pub More : ℕ → Home → Type 0
  More p h = (p ≡ s.page) × (h ≡ home)

  chain_now : with_chain tag (λ _. after) old.chains tag ≡ Some after
  chain_now = chain_put fileset version tag old new home chain s

  page_now : IsFilePage new.domain.space new.domain.cells old.places home
  page_now = page_put fileset version tag old new home chain s

  pages : (p : ℕ) (h : Home) → places_of after p ≡ At h → (place_in files at p ≡ At h) ⊎ More p h
  pages p h is = by_page (nat_eq p s.page) refl
    where
      by_page : (b : Bool) → nat_eq p s.page ≡ b → (place_in files at p ≡ At h) ⊎ More p h
      by_page true same = inr (eqb-true p s.page same, sym (one_home home h (sym (ap (λ (b : Bool). cond b (At home) (places_of chain p)) same) ∙ sym (s.change.change.changes.at p) ∙ is)))
      by_page false other = inl (place_by files at chain p there ∙ sym (ap (λ (b : Bool). cond b (At home) (places_of chain p)) other) ∙ sym (s.change.change.changes.at p) ∙ is)

  pub put : IsPut old.domain.space new.domain.space old.domain.cells new.domain.cells new.domain.pages files at after More
  put = record {
    allocated = s.change.together.allocated;
    stands = record { stands = inl s.change.change.changes.is_file; on_tables = s.change.change.on_tables };
    tables = tables;
    held = held;
    leaves = λ a cs is not_at. beside_left old.domain.space old.domain.cells old.domain.pages new.domain.pages files stood.well.together chain s.others a cs is (beside a cs is not_at);
    apart = joined_apart;
    pages = pages;
    nowhere = λ p h more. subst (IsNowhere files) (sym more.1) nowhere;
    held_more = λ p h more. subst (IsHeldApart new.domain.space new.domain.cells) (sym more.1) page_now.apart;
    only_more = λ p q h x y. x.0 ∙ sym y.0;
    source = ap (option_and_then source_in) (first_same 2 refl chain after s.change.change.changes.first) ∙ sym (source_by files at chain there);
  }

  says_still : SaysWhatGoes files at → SaysByFirst after
  says_still says = ⊎_elim
      (λ some. inl (ap is_some (first_same 6 refl chain after s.change.change.changes.first) ∙ ap (λ o. is_some (option_and_then (first_record 6) o)) (sym there) ∙ some))
      (λ none. inr (first_same 1 refl chain after s.change.change.changes.first ∙ ap (option_and_then (first_record 1)) (sym there) ∙ none))
      says

  begins_same : (e : Entry) → option_and_then start_of (with_chain tag (λ _. after) old.chains tag) ≡ Some e.at → option_and_then start_of (old.chains tag) ≡ Some e.at
  begins_same e is = ap (option_and_then start_of) s.is ∙ begins.0 ∙ sym begins.1 ∙ sym (ap (option_and_then start_of) chain_now) ∙ is

  left_same : option_and_then left_of (with_chain tag (λ _. after) old.chains tag) ≡ option_and_then left_of (old.chains tag)
  left_same =
      ap (option_and_then left_of) chain_now ∙ (ap (option_and_then leftover_in) (first_same 6 refl chain after s.change.change.changes.first))
      ∙ sym (ap (option_and_then left_of) s.is)

  pub puts_well : IsWell new.domain
  puts_well = well_by new.domain old.domain.list (with_file at (Some after) files) new.domain.space new.domain.cells s.list s.files refl refl
      (record {
        together = put_together old.domain.space new.domain.space old.domain.cells new.domain.cells old.domain.pages new.domain.pages files stood.well.together at after More put;
        listed = put_listed old.domain.space new.domain.space old.domain.cells new.domain.cells old.domain.pages new.domain.pages files stood.well.together at after More put old.domain.list stood.well.listed
            (λ e inside same. says_still (subst (SaysWhatGoes files) same (stood.well.listed.each e inside).says))
            (λ h inside p more. not_listed (subst (Contains old.domain.list.tag_pages) more.1 inside));
      })

  live_now : IfSome (with_chain tag (λ _. after) old.chains tag) (λ cs. is_removed cs ≡ false)
  live_now = subst (λ o. IfSome o (λ cs. is_removed cs ≡ false)) (sym chain_now)
      ((says_first chain after s.change.change.changes.first).live (subst (λ o. IfSome o (λ cs. is_removed cs ≡ false)) s.is (stood.among.live tag)))

  pub puts_among : AreAmong new.domain new.places new.chains
  puts_among = among_by new.domain old.places new.places (with_chain tag (λ _. after) old.chains) new.chains old.domain.list (with_file at (Some after) files) new.domain.space new.domain.cells s.list s.files s.places s.chains
      (still_among old.domain.list old.domain.space new.domain.space old.domain.cells new.domain.cells old.domain.pages new.domain.pages files stood.well.together at after More put
      tag old.places old.places old.chains (with_chain tag (λ _. after) old.chains)
      (record { same = stood.among.same; live = stood.among.live; trimmed = stood.among.trimmed; low = stood.among.low; no_tags = stood.among.no_tags; not_listed = stood.among.not_listed })
      (λ t other. chain_other tag (λ _. after) old.chains t other)
      (other_starts fileset old.places old.domain.pages old.chains stood.together.files files stood.among.same tag chain s.is at begins.0)
      (ap (λ o. option_and_then (with_file at (Some after) files) (option_and_then start_of o)) chain_now ∙ ap (option_and_then (with_file at (Some after) files)) begins.1 ∙ file_there at (Some after) files ∙ sym chain_now)
      live_now (λ e inside is. left_same ∙ stood.among.trimmed e inside tag (begins_same e is))
      stood.among.low (λ h is no. no)
      (λ p h more. subst (λ (h : Home). has_home old.places h ≡ false) (sym more.1) page_now.no_tags)
      stood.well.listed.pages_held)

-- ---- the two calls

module _ (fileset : ℕ) (version : Version) (tag : Tag) (old new : FilesetNow) (stood : StandsWell fileset old) where
  module _ (s : Gives fileset version tag old new) where
    pub given_held : (h : Home) → IsHeldApart old.domain.space old.domain.cells h → IsHeldApart new.domain.space new.domain.cells h
    given_held h is = apart_grows s.puts.page (At s.home) s.chain s.prefer _ new.domain.space old.domain.cells new.domain.cells old.domain.pages s.taken.taken h (apart_taken old.domain.space old.domain.cells s.home h is)

    pub not_free : (h : Home) → s.home ≡ h → IsHeldApart old.domain.space old.domain.cells h → ⊥
    not_free h same is = not_held old.domain.space s.home.vol s.home.page s.taken.free (subst (IsHeldApart old.domain.space old.domain.cells) (sym same) is).held

    pub nowhere : IsNowhere old.domain.files s.home
    nowhere a p is = not_free s.home refl (stood.well.together.held a p s.home is)

    pub given_well : IsWell new.domain
    given_well = puts_well fileset version tag old new stood s.home s.chain s.puts (given_tables fileset version tag old new s) given_held nowhere (λ inside. not_free s.home refl (stood.well.listed.pages_held s.home inside))

    pub given_among : AreAmong new.domain new.places new.chains
    given_among = puts_among fileset version tag old new stood s.home s.chain s.puts (given_tables fileset version tag old new s) given_held nowhere (λ inside. not_free s.home refl (stood.well.listed.pages_held s.home inside))

  module _ (s : Moves fileset version tag old new) where
    pub moved_held : (h : Home) → IsHeldApart old.domain.space old.domain.cells h → IsHeldApart new.domain.space new.domain.cells h
    moved_held h is = ⊎_elim
        (λ same. subst (λ (sp : Spaces). IsHeldApart sp new.domain.cells h) (sym same.0) (subst (λ (c : Cells). IsHeldApart old.domain.space c h) (sym same.1) is))
        (λ one. one_apart s.home.vol old.domain.space new.domain.space old.domain.cells new.domain.cells old.domain.pages one.1 h is)
        s.taken

    pub moved_well : IsWell new.domain
    moved_well = puts_well fileset version tag old new stood s.home s.chain s.puts (moved_tables fileset version tag old new s) moved_held s.nowhere s.not_listed

    pub moved_among : AreAmong new.domain new.places new.chains
    moved_among = puts_among fileset version tag old new stood s.home s.chain s.puts (moved_tables fileset version tag old new s) moved_held s.nowhere s.not_listed
