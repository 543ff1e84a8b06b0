-- What a change of one file leaves: the pages that are held for something beside it.
use Rattle.std.proofs.Common.{◌≡◌, ◌≤◌, ℕ, false, Contains, length, ⊎_elim, refl, ap, subst, arith}
use Rattle.std.proofs.lemmas.Bool.{cases_Bool}
use Rattle.standing_laws.specs.domain_base.declared.place.CellAt.{CellAt}
use Rattle.standing_laws.specs.domain_base.declared.place.Home.{Home}
use Rattle.standing_laws.specs.tag_dirs.Directory.{has_home}
use Rattle.standing_laws.specs.extent_maps.declared.run.PagePlace.TheVariants.{At}
use Rattle.standing_laws.specs.free_cells.Cells.{table_of}
use Rattle.standing_laws.specs.release_list.Standing.{Files, place_in}
use Rattle.standing_laws.specs.log_ring.Homes.{IsMember}
use Rattle.standing_laws.proofs.OfDomainLayout.Reached.{member_or_none}
use Rattle.standing_laws.specs.domain_standing.Chains.{IndexesAt}
use Rattle.standing_laws.specs.domain_standing.Domain.{DomainNow}
use Rattle.standing_laws.specs.domain_standing.Holders.{Holder, Holds, IsUnheld}
use Rattle.standing_laws.specs.domain_standing.Holders.Holder.{of_cells, of_file, of_index, of_log, of_table, of_tags, of_volume}
use Rattle.standing_laws.specs.Leads.{StandsBelow}
use Rattle.standing_laws.proofs.HomeLists.{in_get}

-- a holder that is none of the file that begins there, of its slot or of a table
abbrev pub IsBeside : ℕ → CellAt → Holder → Type 0
IsBeside number start of_volume = Unit {0}
IsBeside number start of_log = ⊥
IsBeside number start of_table = ⊥
IsBeside number start of_cells = ⊥
IsBeside number start (of_tags n) = ¬ n ≡ number
IsBeside number start (of_index at k) = ¬ at ≡ start
IsBeside number start (of_file at page) = ¬ at ≡ start

-- the page is held, and for none of these
pub record IsOff (number : ℕ) (start : CellAt) (d : DomainNow) (files : Files) (indexes : IndexesAt) (home : Home) : Type 0 where
  pub low : 1 ≤ home.vol
  pub off_table : ¬ Contains (table_of d.cells home.vol) home.page
  pub no_tags : has_home (d.tags number) home ≡ false
  pub no_index : ¬ Contains (indexes start) home
  pub no_page : (page : ℕ) → ¬ place_in files start page ≡ At home
  pub held : ¬ IsUnheld d files indexes home

module _ (number : ℕ) (start : CellAt) (d : DomainNow) (files : Files) (indexes : IndexesAt) (below : StandsBelow d files indexes) (holder : Holder) (home : Home) (low : 1 ≤ home.vol) (beside : IsBeside number start holder) (holds : Holds d files indexes holder home) where
  none_other : (other : Holder) → Holds d files indexes other home → IsBeside number start other
  none_other other also = subst (IsBeside number start) (below.owned.once home holder other holds also) beside

  pub is_off : IsOff number start d files indexes home
  is_off = record {
    low = low;
    off_table = λ on. none_other of_cells (member_of_table home.vol home.page on, on);
    no_tags = ⊎_elim (λ has. absurd (none_other (of_tags number) has refl)) (λ none. none) (cases_Bool (has_home (d.tags number) home));
    no_index = λ inside. let it = in_get (indexes start) home inside in none_other (of_index start it.0) it.1 refl;
    no_page = λ page there. none_other (of_file start page) there refl;
    held = λ unheld. unheld holder holds;
  }
    where
      member_of_table : (vol p : ℕ) → Contains (table_of d.cells vol) p → IsMember d.frame.anchor vol
      member_of_table vol p on = ⊎_elim
          (λ member. member)
          (λ none. let e : length (table_of d.cells vol) ≡ 0 = ap length (below.tables.cells.others vol none) in absurd (omega (arith, e, on.1)))
          (member_or_none d.frame.anchor vol)
