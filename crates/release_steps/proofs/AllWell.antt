-- All files of a domain belong together once an owner's limits are set.
use Rattle.std.proofs.Common.{◌≡◌, ◌∙◌, ℕ, List, [], Option, Some, None, IfSome, Contains, inr, refl, sym, ap, subst, arith}
use Rattle.std.specs.Option.{option_and_then}
use Rattle.release_list.specs.domain_base.declared.place.CellAt.{CellAt}
use Rattle.release_list.specs.domain_base.declared.place.Home.{Home}
use Rattle.release_list.specs.metadata_cells.Chain.{PlacedCell, places as cell_places}
use Rattle.release_list.specs.free_cells.Cells.{Cells, table_of}
use Rattle.release_list.specs.free_space.Spaces.{Spaces}
use Rattle.release_list.specs.file_chains.Changes.{IsInUse}
use Rattle.release_list.proofs.OfFileChains.Chosen.{all_at}
use Rattle.release_list.specs.fileset_files.Files.{AreApart}
use Rattle.release_list.specs.fileset_files.Together.{IsHeldApart}
use Rattle.release_list.proofs.OfFilesetFiles.Grown.{one_apart, one_tables}
use Rattle.release_list.proofs.OfFileRelease.Given.{absent_home}
use Rattle.release_list.proofs.OfFileRelease.Outcome.{on_at}
use Rattle.quota_book.specs.fileset_values.declared.command.Owner.{Owner}
use Rattle.quota_book.specs.fileset_model.declared.fileset.Limits.{Limits}
use Rattle.quota_book.specs.QuotaCells.{touched}
use Rattle.release_list.specs.Standing.{IsQuotas, source_at, source_in, source_of, with_file}
use Rattle.release_list.specs.Steps.{IsWell, Now}
use Rattle.release_list.proofs.Standings.{apart_by, chain_inside, quota_first, quota_place, source_by, stand_chain, standing}
use Rattle.release_steps.proofs.FirstWell.{NoMore}
use Rattle.release_steps.proofs.OneFile.{IsPut, put_listed, put_together}
use Rattle.release_steps.proofs.PutWell.{in_use}
use Rattle.release_steps.proofs.TagFile.{beside_left}
use Rattle.release_steps.proofs.Wells.{well_by}
use Rattle.release_steps.specs.QuotaChain.{IsQuotaChain, TakesIfUntouched, said_in}
use Rattle.release_steps.specs.Setting.{IsChainIn, SetsIn}

-- quota cells read through no file
no_source : (cs : List PlacedCell) → (at : CellAt) (now : Now) → IsQuotas now.pages at cs → source_of cs ≡ None
no_source cs at now is = ap (option_and_then source_in) (quota_first now.pages at cs is 2 (λ e. omega (arith, e)) (λ e. omega (arith, e)))

module _ (fileset prefer : ℕ) (who : Owner) (limits : Limits) (first : Option CellAt) (old new : Now) (s : SetsIn fileset prefer who limits first old new) where
  pub tables_grow : (o : Option ℕ) → TakesIfUntouched o prefer old.space new.space old.cells new.cells old.pages → (vol p : ℕ) → Contains (table_of old.cells vol) p → Contains (table_of new.cells vol) p
  tables_grow (Some k) same vol p on = subst (λ (c : Cells). Contains (table_of c vol) p) (sym same.1) on
  tables_grow None one vol p on = one_tables prefer old.space new.space old.cells new.cells old.pages one vol p on

module _ (fileset prefer : ℕ) (who : Owner) (limits : Limits) (first : Option CellAt) (old new : Now) (well : IsWell old) (s : SetsIn fileset prefer who limits first old new) where
  abbrev pub after : List PlacedCell
  after = s.sets.after

  -- ---- a cell more is handed out, or none

  held_still : (o : Option ℕ) → TakesIfUntouched o prefer old.space new.space old.cells new.cells old.pages → (h : Home) → IsHeldApart old.space old.cells h → IsHeldApart new.space new.cells h
  held_still (Some k) same h is = subst (λ (x : Spaces). IsHeldApart x new.cells h) (sym same.0) (subst (λ (c : Cells). IsHeldApart old.space c h) (sym same.1) is)
  held_still None one h is = one_apart prefer old.space new.space old.cells new.cells old.pages one h is

  pub held : (h : Home) → IsHeldApart old.space old.cells h → IsHeldApart new.space new.cells h
  held = held_still (touched (said_in s.chain) who) s.taken

  -- ---- other chains

  -- they have no cell of the one that was
  was_apart : (a : CellAt) (cs : List PlacedCell) → old.files a ≡ Some cs → ¬ a ≡ s.start → AreApart cs s.chain
  was_apart a cs is other = by_first first s.among s.begins
    where
      by_first : (o : Option CellAt) → IsChainIn old.files o s.chain → IfSome o (λ at. s.start ≡ at) → AreApart cs s.chain
      by_first None none begins q in_cs inside = let within = (subst (λ (xs : List PlacedCell). Contains (cell_places xs) q) none inside).1 in omega (arith, within)
      by_first (Some at) among begins q in_cs inside =
          apart_by old.space old.cells old.pages old.files well.together a at cs s.chain is among (λ same. other (same ∙ sym begins)) q in_cs inside

  -- nor of the one that is
  now_apart : (a : CellAt) (cs : List PlacedCell) → old.files a ≡ Some cs → ((q : CellAt) → Contains (cell_places cs) q → ¬ Contains (cell_places s.chain) q) → AreApart after cs
  now_apart a cs is apart q inside in_cs =
      let was = standing old.space old.cells old.pages old.files well.together a cs is in
      let cell = all_at (IsInUse old.pages) cs q (in_use old.pages cs (stand_chain old.pages a cs was.stands)) in_cs in
      s.sets.joined q inside (apart q in_cs) cell.0 cell.1 (on_at old.cells cs q was.on_tables in_cs)

  -- where a chain begins, no file did
  pub none_there : s.chain ≡ [] → (cs : List PlacedCell) → old.files s.start ≡ Some cs → ⊥
  none_there none cs is =
      let was = standing old.space old.cells old.pages old.files well.together s.start cs is in
      now_apart s.start cs is (λ q in_cs inside. let within = (subst (λ (xs : List PlacedCell). Contains (cell_places xs) q) none inside).1 in omega (arith, within)) s.start
      (chain_inside new.pages s.start after (inr s.sets.is)) (chain_inside old.pages s.start cs was.stands)

  no_source_before : source_at old.files s.start ≡ None
  no_source_before = by_first first s.among s.begins s.is
    where
      by_file : s.chain ≡ [] → (o : Option (List PlacedCell)) → old.files s.start ≡ o → source_at old.files s.start ≡ None
      by_file none None is = ap (option_and_then source_of) is
      by_file none (Some cs) is = absurd (none_there none cs is)

      by_first : (o : Option CellAt) → IsChainIn old.files o s.chain → IfSome o (λ at. s.start ≡ at) → IsQuotaChain old.pages o s.chain → source_at old.files s.start ≡ None
      by_first None among begins is = by_file among (old.files s.start) refl
      by_first (Some at) among begins is = ap (source_at old.files) begins ∙ source_by old.files at s.chain among ∙ no_source s.chain at old is

  pub put : IsPut old.space new.space old.cells new.cells new.pages old.files s.start after NoMore
  put = record {
    allocated = s.allocated;
    stands = record { stands = inr s.sets.is; on_tables = s.sets.on_tables };
    tables = tables_grow fileset prefer who limits first old new s (touched (said_in s.chain) who) s.taken;
    held = held;
    leaves = λ a cs is other. beside_left old.space old.cells old.pages new.pages old.files well.together s.chain s.others a cs is (was_apart a cs is other);
    apart = λ a cs is other. now_apart a cs is (was_apart a cs is other);
    pages = λ p home is. absurd (absent_home home (quota_place new.pages s.start after s.sets.is p) is);
    nowhere = λ p home more. absurd more;
    held_more = λ p home more. absurd more;
    only_more = λ p q home more again. absurd more;
    source = no_source after s.start new s.sets.is ∙ sym no_source_before;
  }

  pub all_well : IsWell new
  all_well = well_by new old.list (with_file s.start (Some after) old.files) new.space new.cells s.list s.files refl refl
      (record {
        together = put_together old.space new.space old.cells new.cells old.pages new.pages old.files well.together s.start after NoMore put;
        listed = put_listed old.space new.space old.cells new.cells old.pages new.pages old.files well.together s.start after NoMore put old.list well.listed
            (λ e inside same. inr (quota_first new.pages s.start after s.sets.is 1 (λ e. omega (arith, e)) (λ e. omega (arith, e))))
            (λ home inside p more. more);
      })
