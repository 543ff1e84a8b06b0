-- What any number of steps change where no file is read through another one.
use Rattle.std.proofs.Common.{◌≡◌, ◌∙◌, ◌⊎◌, inl, inr, ℕ, zero, suc, ◌+◌, ◌≤◌, List, [], ◌∷◌, length, Option, Some, None, IsSomeAnd, Contains, refl, sym, ap, subst, arith, ⊎_elim}
use Rattle.standing_laws.specs.domain_base.declared.place.CellAt.{CellAt}
use Rattle.standing_laws.specs.domain_base.declared.place.Home.{Home}
use Rattle.standing_laws.specs.domain_base.declared.version.Version.{Version}
use Rattle.standing_laws.specs.page_store.Pages.{Pages}
use Rattle.standing_laws.specs.metadata_cells.declared.head.CellKind.TheVariants.{Chain, Primary, Quota, Volume}
use Rattle.standing_laws.specs.metadata_cells.Cell.{Cell}
use Rattle.standing_laws.specs.metadata_cells.Chain.{PlacedCell, StandsAt, places}
use Rattle.standing_laws.proofs.OfMetadataCells.Unique.{one_stands}
use Rattle.standing_laws.specs.extent_maps.declared.run.PagePlace.TheVariants.{At}
use Rattle.standing_laws.specs.free_cells.Cells.{is_closed, table_of}
use Rattle.standing_laws.proofs.OfFreeCells.Belongs.{used_not_free}
use Rattle.standing_laws.specs.file_chains.Changes.{IsInUse}
use Rattle.standing_laws.specs.file_chains.MapChanges.{IsHandedOut, LeavesOffTables}
use Rattle.standing_laws.proofs.OfFileChains.Added.{used_of}
use Rattle.standing_laws.proofs.OfFileRelease.Once.{absent_not}
use Rattle.standing_laws.specs.release_list.Listing.{Listing}
use Rattle.standing_laws.specs.release_list.Standing.{IsFileOrQuotas, IsQuotaCell, IsStanding, Source, place_in, source_at}
use Rattle.standing_laws.specs.release_list.Steps.{IsWell, Now, Step, Steps, file_ends, more, none, pages_go, quota_goes, reading_ends, tag_page_goes, trim_ends}
use Rattle.standing_laws.proofs.OfReleaseList.Lists.{longer}
use Rattle.standing_laws.proofs.OfReleaseList.Spread.{none_not, some_same}
use Rattle.standing_laws.proofs.OfReleaseList.Standings.{not_nil, place_by, same_or_not, stand_chain, standing}
use Rattle.standing_laws.proofs.OfReleaseSteps.ReadBack.{no_more_read}
use Rattle.standing_laws.proofs.OfReleaseSteps.Said.{SaysSame, says_itself}
use Rattle.standing_laws.proofs.OfReleaseSteps.Wells.{well_step}
use Rattle.standing_laws.specs.domain_standing.Chains.{IsInChain}
use Rattle.standing_laws.proofs.CellsNow.{all_in, below_28, in_or_out, later_chain, placed}
use Rattle.release_laws.proofs.OneStep.{AreAlone, OneGoes, one_goes}
use Rattle.release_laws.proofs.SpaceWaits.{SpacesKeep, spaces_itself, spaces_joined}

-- ---- steps of which none takes a page of a tag directory

same_or_fewer : (group : ℕ) (version : Version) (old new : Now) → Step group version old new → (new.list.tag_pages ≡ old.list.tag_pages) ⊎ (length old.list.tag_pages ≡ suc (length new.list.tag_pages))
same_or_fewer group version old new (pages_go s) = inl (ap (λ (l : Listing). l.tag_pages) s.same_list)
same_or_fewer group version old new (quota_goes s) = inl (ap (λ (l : Listing). l.tag_pages) s.same_list)
same_or_fewer group version old new (trim_ends s) = inl (ap (λ (l : Listing). l.tag_pages) s.list)
same_or_fewer group version old new (reading_ends s) = inl (ap (λ (l : Listing). l.tag_pages) s.list)
same_or_fewer group version old new (file_ends s) = inl (ap (λ (l : Listing). l.tag_pages) s.list)
same_or_fewer group version old new (tag_page_goes s) =
    inr (ap length s.takes.last ∙ longer s.takes.front s.takes.home ∙ ap (λ (l : Listing). suc (length l.tag_pages)) (sym s.takes.is))

pub alone_over : (group : ℕ) (version : Version) (first : Now) (count : ℕ) (last : Now) → IsWell first → AreAlone first.files → Steps group version first count last → AreAlone last.files
alone_over group version old count new well alone steps at = by_source (source_at new.files at) refl
  where
    by_source : (o : Option Source) → source_at new.files at ≡ o → o ≡ None
    by_source None is = refl
    by_source (Some s) is = absurd (subst (λ o. IsSomeAnd o (λ (x : Source). x.at ≡ s.at)) (alone at)
        (no_more_read group version old count new well steps at s.at (subst (λ o. IsSomeAnd o (λ (x : Source). x.at ≡ s.at)) (sym is) refl)))

alone_step : (group : ℕ) (version : Version) (old new : Now) → IsWell old → AreAlone old.files → Step group version old new → AreAlone new.files
alone_step group version old new well alone step = alone_over group version old (0 + 1) new well alone (more 0 old new none step)

-- what holds first, and goes on to with each step, holds last
module _ (group : ℕ) (version : Version) (P : Now → Type 0) (goes : (old new : Now) → IsWell old → AreAlone old.files → IsWell new → Step group version old new → new.list.tag_pages ≡ old.list.tag_pages → P old → P new) where
  record Comes (first now : Now) : Type 0 where
    well : IsWell now
    alone : AreAlone now.files
    few : length now.list.tag_pages ≤ length first.list.tag_pages
    holds : now.list.tag_pages ≡ first.list.tag_pages → P now

  pub by_steps : (first : Now) (count : ℕ) (last : Now) → IsWell first → AreAlone first.files → Steps group version first count last → last.list.tag_pages ≡ first.list.tag_pages → P first → P last
  by_steps first count last well alone steps same begins =
      (elim steps as (λ count last steps. Comes first last) [
        | none ↦ record { well = well; alone = alone; few = omega arith; holds = λ same. begins }
        | more n between last (steps → was) step ↦ one_more between last was step
      ]).holds same
    where
      one_more : (between last : Now) → Comes first between → Step group version between last → Comes first last
      one_more between last was step =
          let now = well_step group version between last was.well step in
          record {
            well = now;
            alone = alone_step group version between last was.well was.alone step;
            few = ⊎_elim
                (λ same. let e : length last.list.tag_pages ≡ length between.list.tag_pages = ap length same in let few = was.few in omega (arith, e, few))
                (λ fewer. let few = was.few in omega (arith, fewer, few))
                (same_or_fewer group version between last step);
            holds = λ same. ⊎_elim
                (λ stays. goes between last was.well was.alone now step stays (was.holds (sym stays ∙ same)))
                (λ fewer. let e : length last.list.tag_pages ≡ length first.list.tag_pages = ap length same in let few = was.few in absurd (omega (arith, fewer, few, e)))
                (same_or_fewer group version between last step);
          }

-- ---- cells of chains

-- none is of the kind of a volume's first cell
pub no_volume : (pages : Pages) (a : CellAt) (cs : List PlacedCell) → IsFileOrQuotas pages a cs → (c : PlacedCell) → Contains cs c → ¬ c.cell.head.kind ≡ Volume
no_volume pages a [] is c inside volume = omega (arith, inside.1)
no_volume pages a (first ∷ rest) (inl file) c (zero, less, is) volume = let e : Primary ≡ Volume = sym file.1.primary ∙ ap (λ (x : PlacedCell). x.cell.head.kind) is ∙ volume in absurd (cc)
no_volume pages a (first ∷ rest) (inl file) c (suc k, less, is) volume =
    let chain = all_in (λ (x : PlacedCell). x.cell.head.kind ≡ Chain) rest (later_chain pages first.cell.head rest (inl file.1.primary) file.1.links.follow) c (k, omega (arith, less), is) in
    let e : Chain ≡ Volume = sym chain ∙ volume in absurd (cc)
no_volume pages a (first ∷ rest) (inr quotas) c inside volume =
    let quota = all_in (λ (x : PlacedCell). IsQuotaCell x.cell) (first ∷ rest) quotas.1.cells c inside in
    let e : Quota ≡ Volume = sym quota.kind ∙ volume in absurd (cc)

pub chain_stands : (now : Now) → IsWell now → (a : CellAt) (cs : List PlacedCell) → now.files a ≡ Some cs → IsStanding now.cells now.pages a cs
chain_stands now well a cs is = standing now.space now.cells now.pages now.files well.together a cs is

-- the cell of a chain at a place stands there
pub cell_there : (now : Now) → IsWell now → (a : CellAt) (cs : List PlacedCell) → now.files a ≡ Some cs → (q : CellAt) → Contains (places cs) q
    → (c : PlacedCell) × Contains cs c × (c.at ≡ q) × StandsAt now.pages q c.cell
cell_there now well a cs is q inside =
    let c = placed cs q inside in
    (c.0, c.1, c.2, subst (λ (p : CellAt). StandsAt now.pages p c.0.cell) c.2 (all_in (λ (c : PlacedCell). StandsAt now.pages c.at c.cell) cs (stand_chain now.pages a cs (chain_stands now well a cs is).stands) c.0 c.1))

-- ---- one step

module _ (old new : Now) (well : IsWell old) (now : IsWell new) (g : OneGoes old new) where
  pub after_there : (q : CellAt) → Contains (places g.after) q → new.files g.entry.at ≡ Some g.after
  after_there q inside = ⊎_elim
      (λ is. is)
      (λ gone. absurd (let it = subst (λ (cs : List PlacedCell). Contains (places cs) q) gone.1 inside in omega (arith, it.1)))
      g.is

  -- a cell in use is one that was handed out
  pub handed_out : (q : CellAt) (cell : Cell) → StandsAt new.pages q cell → Contains (table_of new.cells q.vol) q.page → IsHandedOut new.cells q
  handed_out q cell stands on = record {
    on = on;
    within = below_28 new.pages q cell stands;
    taken = used_not_free new.cells new.pages now.together.allocated.belong q (used_of new.pages q cell stands);
  }

  pub used_step : ((q : CellAt) → IsHandedOut old.cells q → IsInUse old.pages q) → (q : CellAt) → IsHandedOut new.cells q → IsInUse new.pages q
  used_step used q is = ⊎_elim
      (λ inside. ⊎_elim
      (λ left. let c = cell_there new now g.entry.at g.after (after_there q left) q left in (c.0.cell, c.3))
      (λ out. absurd (g.left q is inside out))
      (in_or_out g.after q))
      (λ out. let was = g.handed q is in let cell = used q was in (cell.0, g.others q cell.0 cell.1 was.on out))
      (in_or_out g.chain q)

  pub volume_step : (q : CellAt) (cell : Cell) → StandsAt old.pages q cell → Contains (table_of old.cells q.vol) q.page → cell.head.kind ≡ Volume → StandsAt new.pages q cell
  volume_step q cell stands on volume = ⊎_elim
      (λ inside.
      let c = cell_there old well g.entry.at g.chain g.was q inside in
      absurd (no_volume old.pages g.entry.at g.chain (chain_stands old well g.entry.at g.chain g.was).stands c.0 c.1
      (ap (λ (x : Cell). x.head.kind) (one_stands old.pages q c.0.cell cell c.3 stands) ∙ volume)))
      (λ out. g.others q cell stands on out)
      (in_or_out g.chain q)

  pub chain_step : (q : CellAt) → IsHandedOut new.cells q → IsInChain old.files q → IsInChain new.files q
  chain_step q is was = ⊎_elim
      (λ same.
      let inside = by_chain (old.files was.0) refl was.1 (ap old.files same ∙ g.was) in
      ⊎_elim
      (λ left. (g.entry.at, subst (λ o. IsSomeAnd o (λ chain. Contains (places chain) q)) (sym (after_there q left)) left))
      (λ out. absurd (g.left q is inside out))
      (in_or_out g.after q))
      (λ apart. (was.0, subst (λ o. IsSomeAnd o (λ chain. Contains (places chain) q)) (sym (g.beside was.0 apart)) was.1))
      (same_or_not was.0 g.entry.at)
    where
      by_chain : (o : Option (List PlacedCell)) → old.files was.0 ≡ o → IsSomeAnd o (λ chain. Contains (places chain) q) → old.files was.0 ≡ Some g.chain → Contains (places g.chain) q
      by_chain None is inside same = absurd inside
      by_chain (Some cs) is inside same = subst (λ (xs : List PlacedCell). Contains (places xs) q) (some_same cs g.chain (sym is ∙ same)) inside

  pub had_step : (a : CellAt) (p : ℕ) (home : Home) → place_in new.files a p ≡ At home → place_in old.files a p ≡ At home
  had_step a p home there = ⊎_elim
      (λ same. subst (λ (b : CellAt). place_in old.files b p ≡ At home) (sym same) (by_end g.is (subst (λ (b : CellAt). place_in new.files b p ≡ At home) same there)))
      (λ apart. ap (λ o. place_in (λ _. o) a p) (sym (g.beside a apart)) ∙ there)
      (same_or_not a g.entry.at)
    where
      by_end : (new.files g.entry.at ≡ Some g.after) ⊎ ((new.files g.entry.at ≡ None) × (g.after ≡ [])) → place_in new.files g.entry.at p ≡ At home → place_in old.files g.entry.at p ≡ At home
      by_end (inl is) there = place_by old.files g.entry.at g.chain p g.was ∙ g.pages p home (sym (place_by new.files g.entry.at g.after p is) ∙ there)
      by_end (inr gone) there = absurd (absent_not home (sym (ap (λ o. place_in (λ _. o) g.entry.at p) gone.0) ∙ there))

  pub says_step : (a : CellAt) (cs : List PlacedCell) → new.files a ≡ Some cs → (was : List PlacedCell) × (old.files a ≡ Some was) × SaysSame was cs
  says_step a cs is_now = ⊎_elim
      (λ same.
      let here : new.files g.entry.at ≡ Some cs = ap new.files (sym same) ∙ is_now in
      (g.chain, ap old.files same ∙ g.was, by_end here g.is))
      (λ apart. (cs, sym (g.beside a apart) ∙ is_now, says_itself cs))
      (same_or_not a g.entry.at)
    where
      by_says : new.files g.entry.at ≡ Some g.after → SaysSame g.chain g.after ⊎ (g.after ≡ []) → SaysSame g.chain g.after
      by_says is (inl says) = says
      by_says is (inr empty) = absurd (not_nil new.pages g.entry.at (chain_stands new now g.entry.at [] (is ∙ ap Some empty)).stands)

      by_end : new.files g.entry.at ≡ Some cs → (new.files g.entry.at ≡ Some g.after) ⊎ ((new.files g.entry.at ≡ None) × (g.after ≡ [])) → SaysSame g.chain cs
      by_end here (inl is) = subst (SaysSame g.chain) (some_same g.after cs (sym is ∙ here)) (by_says is g.says)
      by_end here (inr gone) = absurd (none_not cs (sym gone.0 ∙ here))

-- what is the same twice is so once
says_joined : (a b c : List PlacedCell) → SaysSame a b → SaysSame b c → SaysSame a c
says_joined a b c one two = record {
  start = two.start ∙ one.start;
  is_of = λ fileset tag of. two.is_of fileset tag (one.is_of fileset tag of);
  kinds = λ kinds. two.kinds (one.kinds kinds);
  live = λ live. two.live (one.live live);
  attributes = λ some. two.attributes (one.attributes some);
}

-- ---- all steps

-- what is as it was, while some cells are neither of a chain nor ever come to be of one
pub record AllGo (apart : CellAt → Type 0) (first now : Now) : Type 0 where
  pub tables : (vol : ℕ) → table_of now.cells vol ≡ table_of first.cells vol
  pub marks : (vol : ℕ) → is_closed now.cells vol ≡ is_closed first.cells vol
  pub off : LeavesOffTables first.cells first.pages now.pages
  pub space : SpacesKeep first.space now.space
  pub had : (a : CellAt) (p : ℕ) (home : Home) → place_in now.files a p ≡ At home → place_in first.files a p ≡ At home
  pub says : (a : CellAt) (cs : List PlacedCell) → now.files a ≡ Some cs → (was : List PlacedCell) × (first.files a ≡ Some was) × SaysSame was cs
  pub used : (q : CellAt) → IsHandedOut now.cells q → IsInUse now.pages q
  pub chains : (q : CellAt) → IsHandedOut now.cells q → apart q ⊎ IsInChain now.files q
  pub volumes : (q : CellAt) (cell : Cell) → StandsAt first.pages q cell → Contains (table_of first.cells q.vol) q.page → cell.head.kind ≡ Volume → StandsAt now.pages q cell

pub first_go : (apart : CellAt → Type 0) (first : Now) → ((q : CellAt) → IsHandedOut first.cells q → IsInUse first.pages q) → ((q : CellAt) → IsHandedOut first.cells q → apart q ⊎ IsInChain first.files q) → AllGo apart first first
first_go apart first used chains = record {
  tables = λ vol. refl;
  marks = λ vol. refl;
  off = λ home out. refl;
  space = spaces_itself first.space first.space refl;
  had = λ a p home there. there;
  says = λ a cs is. (cs, is, says_itself cs);
  used = used;
  chains = chains;
  volumes = λ q cell stands on volume. stands;
}

module _ (group : ℕ) (version : Version) (apart : CellAt → Type 0) (first : Now) where
  pub go_step : (old new : Now) → IsWell old → IsWell new → OneGoes old new → AllGo apart first old → AllGo apart first new
  go_step old new well now g was = record {
    tables = λ vol. g.tables vol ∙ was.tables vol;
    marks = λ vol. g.marks vol ∙ was.marks vol;
    off = λ home out. g.elsewhere home (λ on. out (subst (λ (t : List ℕ). Contains t home.page) (g.tables home.vol ∙ was.tables home.vol) on)) ∙ was.off home out;
    space = spaces_joined first.space old.space new.space was.space g.space;
    had = λ a p home there. was.had a p home (had_step old new well now g a p home there);
    says = λ a cs is. let one = says_step old new well now g a cs is in let two = was.says a one.0 one.1 in (two.0, two.1, says_joined two.0 one.0 cs two.2 one.2);
    used = used_step old new well now g was.used;
    chains = λ q is. ⊎_elim (λ one. inl one) (λ inside. inr (chain_step old new well now g q is inside)) (was.chains q (g.handed q is));
    volumes = λ q cell stands on volume. volume_step old new well now g q cell (was.volumes q cell stands on volume) (subst (λ (t : List ℕ). Contains t q.page) (sym (was.tables q.vol)) on) volume;
  }

  pub all_go : (count : ℕ) (last : Now) → IsWell first → AreAlone first.files → Steps group version first count last → last.list.tag_pages ≡ first.list.tag_pages
      → ((q : CellAt) → IsHandedOut first.cells q → IsInUse first.pages q) → ((q : CellAt) → IsHandedOut first.cells q → apart q ⊎ IsInChain first.files q) → AllGo apart first last
  all_go count last well alone steps same used chains = by_steps group version (AllGo apart first) (λ old new well alone now step same was. go_step old new well now (one_goes group version old new well alone step same) was) first count last well alone steps same
      (first_go apart first used chains)
