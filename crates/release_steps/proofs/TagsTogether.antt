-- The files that the tags of a fileset name belong together with all else once an owner's limits are set.
use Rattle.std.proofs.Common.{◌≡◌, ◌∙◌, ℕ, List, [], Option, Some, None, IfSome, IsSomeAnd, true, false, sym, ap, subst, arith, ⊎_elim, true≢false}
use Rattle.release_list.specs.domain_base.declared.place.CellAt.{CellAt}
use Rattle.release_list.specs.domain_base.declared.place.Home.{Home}
use Rattle.release_list.specs.domain_base.declared.place.Tag.{Tag}
use Rattle.release_list.specs.metadata_cells.Chain.{PlacedCell}
use Rattle.release_list.specs.tag_dirs.declared.dir.TagPlace.{TagPlace}
use Rattle.release_list.specs.tag_dirs.Directory.{cell_of, has_home}
use Rattle.release_list.specs.extent_maps.declared.run.PagePlace.TheVariants.{At}
use Rattle.release_list.specs.file_chains.Files.{IsFile}
use Rattle.release_list.specs.fileset_files.Files.{Chains, LeadsToFile, first_record}
use Rattle.release_list.specs.fileset_files.Together.{AreTogether}
use Rattle.quota_book.specs.fileset_values.declared.command.Owner.{Owner}
use Rattle.quota_book.specs.fileset_model.declared.fileset.Limits.{Limits}
use Rattle.release_list.specs.Standing.{Files, place_in}
use Rattle.release_list.specs.Steps.{IsWell, Now}
use Rattle.release_list.proofs.Spread.{some_same}
use Rattle.release_list.proofs.Standings.{file_other, quota_first}
use Rattle.release_steps.specs.Beside.{StandsBeside}
use Rattle.release_steps.specs.Calls.{FilesetNow}
use Rattle.release_steps.specs.Tags.{AreAmong, start_of}
use Rattle.release_steps.proofs.FirstWell.{NoMore}
use Rattle.release_steps.proofs.OneFile.{was_there}
use Rattle.release_steps.proofs.OtherFilesets.{beside_now}
use Rattle.release_steps.proofs.Tags.{has_attributes}
use Rattle.release_steps.specs.QuotaChain.{IsQuotaChain}
use Rattle.release_steps.specs.Setting.{IsChainIn, SetsIn}
use Rattle.release_steps.proofs.AllWell.{after, all_well, held, none_there, put}

no_chains : Chains
no_chains tag = None

-- a fileset without a tag directory
abbrev none_of : Now → FilesetNow
none_of now = record { places = []; chains = no_chains; domain = now }

module _ (fileset prefer : ℕ) (who : Owner) (limits : Limits) (first : Option CellAt) (old new : Now) (number : ℕ) (places : List TagPlace) (chains : Chains)
    (well : IsWell old) (s : SetsIn fileset prefer who limits first old new) (page_stays : (h : Home) → has_home places h ≡ true → new.pages h ≡ old.pages h) (together : AreTogether number places old.space old.cells old.pages chains) (among : AreAmong old places chains) where
  none_apart : (h : Home) → false ≡ true → has_home places h ≡ false
  none_apart h is = absurd (true≢false (sym is))

  was : StandsBeside number places chains (none_of old)
  was = record { together = together; among = among; apart = none_apart }

  -- a tag's file has attributes, and quota cells have none
  not_there : (t : Tag) (cs : List PlacedCell) (a : CellAt) → chains t ≡ Some cs → old.files a ≡ Some cs → ¬ a ≡ s.start
  not_there t cs a is there same = by_first first s.among s.begins s.is
    where
      led : LeadsToFile number places old.pages t cs
      led = subst (λ o. IfSome o (LeadsToFile number places old.pages t)) is (together.files.some t)

      of_file : (o : Option CellAt) → IsSomeAnd o (λ at. IsFile old.pages at cs) → ¬ first_record 1 cs ≡ None
      of_file None leads = absurd leads
      of_file (Some at) leads = has_attributes old.pages at cs leads

      by_first : (o : Option CellAt) → IsChainIn old.files o s.chain → IfSome o (λ at. s.start ≡ at) → IsQuotaChain old.pages o s.chain → ⊥
      by_first None none begins quotas = none_there fileset prefer who limits first old new well s none cs (ap old.files (sym same) ∙ there)
      by_first (Some at) in_files begins quotas =
          let one : cs ≡ s.chain = some_same cs s.chain (sym there ∙ ap old.files (same ∙ begins) ∙ in_files) in
          of_file (cell_of old.pages places t) led.leads (ap (first_record 1) one ∙ quota_first old.pages at s.chain quotas 1 (λ e. omega (arith, e)) (λ e. omega (arith, e)))

  file_stays : (t : Tag) (cs : List PlacedCell) (a : CellAt) → chains t ≡ Some cs → start_of cs ≡ Some a → old.files a ≡ Some cs → new.files a ≡ old.files a
  file_stays t cs a is start there = ap (λ (f : Files). f a) s.files ∙ file_other s.start (Some s.sets.after) old.files a (not_there t cs a is there)

  no_tags : (a : CellAt) (p : ℕ) (h : Home) → place_in new.files a p ≡ At h → has_home places h ≡ false
  no_tags a p h there = ⊎_elim
      (λ had. among.no_tags a p h had)
      (λ fresh. absurd fresh.1)
      (was_there old.space new.space old.cells new.cells old.pages new.pages old.files well.together s.start s.sets.after NoMore (put fileset prefer who limits first old new well s) a p h
      (ap (λ (f : Files). place_in f a p) (sym s.files) ∙ there))

  stands : StandsBeside number places chains (none_of new)
  stands = beside_now (none_of old) (none_of new) number places chains was (all_well fileset prefer who limits first old new well s) s.list
      (held fileset prefer who limits first old new well s) page_stays file_stays no_tags none_apart

  pub together_now : AreTogether number places new.space new.cells new.pages chains
  together_now = stands.together

  pub among_now : AreAmong new places chains
  among_now = stands.among
