-- All goes on to belong together where a tag names a new file.
use Rattle.std.proofs.Common.{◌≡◌, ◌∙◌, ◌||◌, ◌⊎◌, ◌≤◌, inl, inr, ℕ, zero, suc, Bool, true, false, cond, List, [], ◌∷◌, ◌++◌, Option, Some, None, IfSome, IsSomeAnd, Contains, refl, sym, ap, subst, arith, ⊎_elim, is_some}
use Rattle.std.proofs.lemmas.Bool.{cases_Bool, or_cases, true≢false}
use Rattle.std.proofs.lemmas.List.Folds.{list_any-append}
use Rattle.std.specs.Option.{option_and_then, option_map_or}
use Rattle.release_list.specs.domain_base.declared.place.CellAt.{CellAt}
use Rattle.release_list.specs.domain_base.declared.place.Home.{Home}
use Rattle.release_list.specs.domain_base.declared.place.Tag.{Tag}
use Rattle.release_list.specs.domain_base.declared.version.Version.{Version}
use Rattle.release_list.specs.domain_base.declared.version.Version.TheVariants.{Three, Four}
use Rattle.release_list.specs.page_store.Pages.{Pages, same_home}
use Rattle.release_list.specs.metadata_cells.Chain.{PlacedCell, places as cell_places}
use Rattle.release_list.proofs.OfMetadataCells.Changed.{homes_same}
use Rattle.release_list.specs.tag_dirs.declared.dir.TagPlace.{TagPlace}
use Rattle.release_list.specs.tag_dirs.Directory.{cell_of, has_home}
use Rattle.release_list.specs.extent_records.Writing.{short_kind}
use Rattle.release_list.specs.file_chains.Changes.{IsInUse}
use Rattle.release_list.specs.file_chains.FileChanges.{AreOnTables}
use Rattle.release_list.specs.file_chains.Files.{IsFile}
use Rattle.release_list.proofs.OfFileChains.ChainChanges.{in_first}
use Rattle.release_list.proofs.OfFileChains.Chosen.{all_at}
use Rattle.release_list.proofs.OfFileChains.Spaces.{not_held}
use Rattle.release_list.specs.fileset_files.Creation.{with_new}
use Rattle.release_list.specs.fileset_files.Files.{AreApart, Chains, LeadsToFile, is_removed, says_remove}
use Rattle.release_list.specs.fileset_files.Together.{IsHeldApart}
use Rattle.release_list.proofs.OfFilesetFiles.Grown.{apart_taken, one_apart}
use Rattle.release_list.proofs.OfFilesetFiles.OneChain.{same_tag_itself}
use Rattle.release_list.proofs.OfFileRelease.Given.{absent_home}
use Rattle.release_list.proofs.OfFileRelease.Outcome.{on_at}
use Rattle.release_list.specs.Standing.{Files, source_in, source_of, with_file}
use Rattle.release_list.specs.Steps.{IsWell}
use Rattle.release_list.proofs.Standings.{chain_inside, file_there, stand_chain, standing}
use Rattle.release_steps.specs.Calls.{StandsWell, FilesetNow, Makes}
use Rattle.release_steps.specs.Tags.{AreAmong, start_of}
use Rattle.release_steps.proofs.CallTables.{made_tables}
use Rattle.release_steps.proofs.FirstWell.{NoMore}
use Rattle.release_steps.proofs.OneFile.{IsPut, put_listed, put_together}
use Rattle.release_steps.proofs.PutWell.{among_by, in_use}
use Rattle.release_steps.proofs.StillAmong.{still_among}
use Rattle.release_steps.proofs.TagFile.{beside_left, no_other_start}
use Rattle.release_steps.proofs.Wells.{well_by}
use Rattle.release_list.specs.declared.list.Entry.{Entry}
use Rattle.release_list.proofs.Spread.{some_same}

not_two : (version : Version) → ¬ 2 ≡ short_kind version
not_two Three is = omega (arith, is)
not_two Four is = omega (arith, is)

not_six : (version : Version) → ¬ 6 ≡ short_kind version
not_six Three is = omega (arith, is)
not_six Four is = omega (arith, is)

-- a directory with one page more has no other home more
no_home_more : (places : List TagPlace) (p : TagPlace) (h : Home) → ¬ h ≡ p.home → has_home places h ≡ false → has_home (places ++ p ∷ []) h ≡ false
no_home_more places p h other none =
    list_any-append (λ (q : TagPlace). same_home h q.home) places (p ∷ []) ∙ ap (λ (b : Bool). b || (same_home h p.home || false)) none
    ∙ ⊎_elim (λ same. absurd (other (homes_same h p.home same))) (λ differ. ap (λ (b : Bool). b || false) differ) (cases_Bool (same_home h p.home))

-- what it has was there, or is the home of that page
pub one_home_more : (places : List TagPlace) (p : TagPlace) (h : Home) → has_home (places ++ p ∷ []) h ≡ true → (has_home places h ≡ true) ⊎ (h ≡ p.home)
one_home_more places p h has = ⊎_elim
    (λ was. inl was)
    (λ this. ⊎_elim (λ same. inr (homes_same h p.home same)) (λ none. absurd (true≢false (sym none))) (or_cases (same_home h p.home) false this))
    (or_cases (has_home places h) (same_home h p.home || false) (sym (list_any-append (λ (q : TagPlace). same_home h q.home) places (p ∷ [])) ∙ has))

file_inside : (pages : Pages) (at : CellAt) (cs : List PlacedCell) → IsFile pages at cs → Contains (cell_places cs) at
file_inside pages at [] is = absurd is
file_inside pages at (first ∷ rest) is = in_first at first rest is.0

module _ (fileset : ℕ) (version : Version) (tag : Tag) (old new : FilesetNow) (stood : StandsWell fileset old) (s : Makes fileset version tag old new) where
  abbrev pub files : Files
  files = old.domain.files

  abbrev pub first : PlacedCell
  first = s.creates.first

  abbrev pub after : List PlacedCell
  after = first ∷ []

  -- no file had the cell
  not_used : (a : CellAt) (cs : List PlacedCell) → files a ≡ Some cs → Contains (cell_places cs) first.at → ⊥
  not_used a cs is inside =
      let was = standing old.domain.space old.domain.cells old.domain.pages files stood.well.together a cs is in
      let cell = all_at (IsInUse old.domain.pages) cs first.at (in_use old.domain.pages cs (stand_chain old.domain.pages a cs was.stands)) inside in
      s.creates.was_free cell.0 cell.1 (on_at old.domain.cells cs first.at was.on_tables inside)

  pub no_file : files first.at ≡ None
  no_file = by_chain (files first.at) refl
    where
      by_chain : (o : Option (List PlacedCell)) → files first.at ≡ o → files first.at ≡ None
      by_chain None is = is
      by_chain (Some cs) is = absurd (not_used first.at cs is (chain_inside old.domain.pages first.at cs (standing old.domain.space old.domain.cells old.domain.pages files stood.well.together first.at cs is).stands))

  apart : (a : CellAt) (cs : List PlacedCell) → files a ≡ Some cs → AreApart after cs
  apart a cs is q (zero, within, here) in_cs = not_used a cs is (subst (Contains (cell_places cs)) (sym here) in_cs)
  apart a cs is q (suc k, within, here) in_cs = omega (arith, within)

  pub held : (h : Home) → IsHeldApart old.domain.space old.domain.cells h → IsHeldApart new.domain.space new.domain.cells h
  held h is = ⊎_elim
      (λ cell. one_apart s.prefer old.domain.space new.domain.space old.domain.cells new.domain.cells old.domain.pages cell.cell h is)
      (λ page. one_apart s.prefer _ new.domain.space old.domain.cells new.domain.cells old.domain.pages page.cell h (apart_taken old.domain.space old.domain.cells page.home h is))
      s.taken

  tags : (h : Home) → IsHeldApart old.domain.space old.domain.cells h → has_home old.places h ≡ false → has_home new.places h ≡ false
  tags h is none = ⊎_elim
      (λ cell. ap (λ (ps : List TagPlace). has_home ps h) cell.same ∙ none)
      (λ page.
      ap (λ (ps : List TagPlace). has_home ps h) page.joins
      ∙ no_home_more old.places (record { index = page.index; home = page.home }) h
      (λ same. not_held old.domain.space page.home.vol page.home.page page.free (subst (IsHeldApart old.domain.space old.domain.cells) same is).held)
      none)
      s.taken

  -- no entry is of it yet
  not_listed_yet : (e : Entry) → Contains old.domain.list.entries e → first.at ≡ e.at → ⊥
  not_listed_yet e inside same = true≢false (sym (stood.well.listed.each e inside).there ∙ ap (λ (a : CellAt). is_some (files a)) (sym same) ∙ ap is_some no_file)

  low : (h : Home) → has_home new.places h ≡ true → 1 ≤ h.vol
  low h has = ⊎_elim
      (λ cell. stood.among.low h (sym (ap (λ (ps : List TagPlace). has_home ps h) cell.same) ∙ has))
      (λ page. ⊎_elim
      (λ was. stood.among.low h was)
      (λ same. subst (λ (x : Home). 1 ≤ x.vol) (sym same) page.low)
      (one_home_more old.places (record { index = page.index; home = page.home }) h (sym (ap (λ (ps : List TagPlace). has_home ps h) page.joins) ∙ has)))
      s.taken

  abbrev pub chains_now : Chains
  chains_now = with_new tag after old.chains

  pub tag_now : chains_now tag ≡ Some after
  tag_now = ap (λ (b : Bool). cond b (Some after) (old.chains tag)) (same_tag_itself tag)

  led : LeadsToFile fileset new.places new.domain.pages tag after
  led = subst (λ o. IfSome o (LeadsToFile fileset new.places new.domain.pages tag)) tag_now (s.creates.together.files.some tag)

  first_file : (o : Option CellAt) → IsSomeAnd o (λ at. IsFile new.domain.pages at after) → IsFile new.domain.pages first.at after
  first_file None is = absurd is
  first_file (Some at) is = (refl, is.1)

  on_now : AreOnTables new.domain.cells after
  on_now = subst (λ o. IfSome o (AreOnTables new.domain.cells)) tag_now (s.creates.together.on_tables tag)

  pub put : IsPut old.domain.space new.domain.space old.domain.cells new.domain.cells new.domain.pages files first.at after NoMore
  put = record {
    allocated = s.creates.together.allocated;
    stands = record { stands = inl (first_file (cell_of new.domain.pages new.places tag) led.leads); on_tables = on_now };
    tables = made_tables fileset version tag old new s;
    held = held;
    leaves = λ a cs is not_at. beside_left old.domain.space old.domain.cells old.domain.pages new.domain.pages files stood.well.together [] s.others a cs is (λ q inside none. omega (arith, none.1));
    apart = λ a cs is not_at. apart a cs is;
    pages = λ p home is. absurd (absent_home home (s.creates.no_page p) is);
    nowhere = λ p home more. absurd more;
    held_more = λ p home more. absurd more;
    only_more = λ p q home more again. absurd more;
    source = ap (option_and_then source_in) (s.creates.says.others 2 (λ e. omega (arith, e)) (λ e. omega (arith, e)) (not_two version)) ∙ sym (ap (option_and_then source_of) no_file);
  }

  pub made_well : IsWell new.domain
  made_well = well_by new.domain old.domain.list (with_file first.at (Some after) files) new.domain.space new.domain.cells s.list s.files refl refl
      (record {
        together = put_together old.domain.space new.domain.space old.domain.cells new.domain.cells old.domain.pages new.domain.pages files stood.well.together first.at after NoMore put;
        listed = put_listed old.domain.space new.domain.space old.domain.cells new.domain.cells old.domain.pages new.domain.pages files stood.well.together first.at after NoMore put old.domain.list stood.well.listed
            (λ e inside same. absurd (not_listed_yet e inside (sym same)))
            (λ home inside p more. more);
      })

  pub made_among : AreAmong new.domain new.places new.chains
  made_among = among_by new.domain new.places new.places chains_now new.chains old.domain.list (with_file first.at (Some after) files) new.domain.space new.domain.cells s.list s.files refl s.chains
      (still_among old.domain.list old.domain.space new.domain.space old.domain.cells new.domain.cells old.domain.pages new.domain.pages files stood.well.together first.at after NoMore put
      tag old.places new.places old.chains chains_now
      (record { same = stood.among.same; live = stood.among.live; trimmed = stood.among.trimmed; low = stood.among.low; no_tags = stood.among.no_tags; not_listed = stood.among.not_listed })
      (λ t other. ap (λ (b : Bool). cond b (Some after) (old.chains t)) other)
      (λ t a other start. no_other_start fileset old.places old.domain.pages old.chains stood.together.files files stood.among.same tag first.at no_file t a start)
      (ap (λ o. option_and_then (with_file first.at (Some after) files) (option_and_then start_of o)) tag_now ∙ file_there first.at (Some after) files ∙ sym tag_now)
      (subst (λ o. IfSome o (λ cs. is_removed cs ≡ false)) (sym tag_now) (ap (λ o. option_map_or says_remove o false) (s.creates.says.others 6 (λ e. omega (arith, e)) (λ e. omega (arith, e)) (not_six version))))
      (λ e inside is. absurd (not_listed_yet e inside (some_same first.at e.at (sym (ap (option_and_then start_of) tag_now) ∙ is))))
      low tags (λ p h more. absurd more) stood.well.listed.pages_held)
