-- What rules of pages ask beside of a domain stays so over steps.
use Rattle.std.proofs.Common.{◌≡◌, ℕ, true, List, Contains, IsSomeAnd, sym, subst}
use Rattle.standing_laws.specs.domain_base.declared.place.CellAt.{CellAt}
use Rattle.standing_laws.specs.domain_base.declared.version.Version.{Version}
use Rattle.standing_laws.specs.metadata_cells.declared.head.CellKind.TheVariants.{Chain}
use Rattle.standing_laws.specs.metadata_cells.Cell.{Cell}
use Rattle.standing_laws.specs.metadata_cells.Chain.{StandsAt}
use Rattle.standing_laws.specs.free_cells.Cells.{table_of}
use Rattle.standing_laws.specs.directory_pages.Index.{IsIndexPage}
use Rattle.standing_laws.specs.release_list.Standing.{Files}
use Rattle.standing_laws.specs.release_list.Steps.{IsWell, Now, Step}
use Rattle.standing_laws.specs.domain_layout.CellRules.{IsFirstPlace, is_chain_records}
use Rattle.standing_laws.specs.domain_standing.Chains.{IndexesAt}
use Rattle.standing_laws.specs.domain_standing.Domain.{DomainNow, all_of}
use Rattle.standing_laws.specs.domain_standing.Sources.{StandAlone}
use Rattle.standing_laws.specs.Leads.{StandsBelow}
use Rattle.standing_laws.specs.Sound.{IsSound, StandsSound}
use Rattle.release_laws.specs.Released.{QuotasStay, Releases}
use Rattle.release_laws.proofs.BelowGo.{below_goes}
use Rattle.release_laws.proofs.CellsGo.{cell_was}
use Rattle.release_laws.proofs.ChainsGo.{index_page}
use Rattle.release_laws.proofs.Going.{AllGo, by_steps, first_go, go_step}
use Rattle.release_laws.proofs.HeldGo.{was_held}
use Rattle.release_laws.proofs.Led.{alone_was, chains_was, led, led_is, member_of_table, used_was, well_was}
use Rattle.release_laws.proofs.OneStep.{AreAlone, one_goes}
use Rattle.release_laws.proofs.RestCells.{laters_go}

record LatersAre (apart : CellAt → Type 0) (first now : Now) : Type 0 where
  go : AllGo apart first now
  laters : (q : CellAt) (cell : Cell) → StandsAt now.pages q cell → Contains (table_of now.cells q.vol) q.page → cell.head.kind ≡ Chain → is_chain_records cell.records ≡ true

module _ (group : ℕ) (version : Version) (apart : CellAt → Type 0) (first : Now) where
  laters_step : (old new : Now) → IsWell old → AreAlone old.files → IsWell new → Step group version old new → new.list.tag_pages ≡ old.list.tag_pages → LatersAre apart first old → LatersAre apart first new
  laters_step old new well alone now step same was =
      let g = one_goes group version old new well alone step same in
      record {
        go = go_step group version apart first old new well now g was.go;
        laters = λ q cell stands on. let b = cell_was old new well now g was.go.used q cell stands on in
            laters_go (record { at = q; cell = b.0 }) (record { at = q; cell = cell }) b.2 (was.laters q b.0 b.1 (subst (λ (t : List ℕ). Contains t q.page) (g.tables q.vol) on));
      }

module _ (group count : ℕ) (d now : DomainNow) (files files_now : Files) (indexes : IndexesAt) (below : StandsBelow d files indexes) (alone : StandAlone d) (sound : StandsSound d files indexes) (s : Releases group count d now files files_now) where
  abbrev it : DomainNow
  it = led group count d now files files_now indexes below alone s

  laters : LatersAre (IsFirstPlace d.frame) (all_of d files) (all_of it files_now)
  laters = by_steps group d.frame.version (LatersAre (IsFirstPlace d.frame) (all_of d files))
      (laters_step group d.frame.version (IsFirstPlace d.frame) (all_of d files))
      (all_of d files) count (all_of it files_now) (well_was d files indexes below) (alone_was group count d now files files_now indexes below alone s) s.steps s.tag_pages
      (record {
        go = first_go (IsFirstPlace d.frame) (all_of d files) (used_was d files indexes below) (chains_was d files indexes below);
        laters = λ q cell stands on. sound.laters q cell (record { member = member_of_table d files indexes below q.vol q.page on; table = on; stands = stands });
      })

  led_sound : StandsSound it files_now indexes
  led_sound = record {
    within = λ home holder volume log held. sound.within home holder volume log (was_held group count d now files files_now indexes below alone s holder home held);
    laters = λ at cell on chain. laters.laters at cell on.stands on.table chain;
    good = λ at home inside. subst (λ o. IsSomeAnd o IsIndexPage) (sym (index_page group count d now files files_now indexes below alone s at home inside)) (sound.good at home inside);
  }

  pub sound_goes : StandsSound now files_now indexes
  sound_goes = subst (λ (x : DomainNow). StandsSound x files_now indexes) (led_is group count d now files files_now indexes below alone s) led_sound

pub is_sound_still : (group count : ℕ) (d now : DomainNow) (files_now : Files) → (sound : IsSound d) → StandAlone d → Releases group count d now sound.files files_now → QuotasStay d files_now → IsSound now
is_sound_still group count d now files_now sound alone s stay = record {
  files = files_now;
  indexes = sound.indexes;
  below = below_goes group count d now sound.files files_now sound.indexes sound.below alone s stay;
  sound = sound_goes group count d now sound.files files_now sound.indexes sound.below alone sound.sound s;
}
