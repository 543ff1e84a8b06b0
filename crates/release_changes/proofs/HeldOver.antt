-- No page more is held once things on a list were let go of.
use Rattle.std.proofs.Common.{◌≡◌, ◌∙◌, ◌≤◌, ◌<◌, ℕ, List, [], ◌∷◌, Option, Some, None, Contains, refl, sym, ap, subst, arith, ⊎_elim}
use Rattle.std.proofs.Math.Logic.{∥∥₁_map}
use Rattle.std.proofs.lemmas.Bool.{cases_lt}
use Rattle.domain_changes.specs.domain_base.declared.place.CellAt.{CellAt}
use Rattle.domain_changes.specs.domain_base.declared.place.Home.{Home}
use Rattle.domain_changes.specs.domain_base.declared.version.Version.{Version}
use Rattle.domain_changes.specs.page_store.Pages.{Pages}
use Rattle.domain_changes.specs.page_store.declared.fault.StoreFault.{StoreFault}
use Rattle.domain_changes.specs.page_store.declared.fault.StoreFault.TheVariants.{NoPage, OutOfMemory}
use Rattle.domain_changes.specs.metadata_cells.Chain.{PlacedCell}
use Rattle.domain_changes.specs.extent_maps.declared.run.PagePlace.TheVariants.{Absent, At}
use Rattle.domain_changes.specs.file_chains.Allocated.{FindsNone}
use Rattle.domain_changes.specs.file_chains.Files.{places_of}
use Rattle.domain_changes.specs.free_cells.Cells.{Cells}
use Rattle.domain_changes.specs.free_space.declared.waiting.PageUse.{PageUse}
use Rattle.domain_changes.specs.free_space.declared.waiting.PageUse.TheVariants.{Metadata}
use Rattle.domain_changes.specs.free_space.Spaces.{Spaces, change_volume}
use Rattle.domain_changes.specs.free_space.VolumeSpace.{with_waiting}
use Rattle.domain_changes.specs.file_release.declared.reader.Reader.{Reader}
use Rattle.domain_changes.specs.file_release.Releases.{use_of, with_given}
use Rattle.domain_changes.specs.file_release.Sharing.{IsReader}
use Rattle.domain_changes.specs.index_pages.Changes.{with_waiting_at}
use Rattle.domain_changes.specs.release_list.Listing.{Listing}
use Rattle.domain_changes.specs.release_list.declared.list.Entry.{Entry}
use Rattle.domain_changes.specs.release_list.Standing.{Files}
use Rattle.domain_changes.specs.release_list.Steps.{IsGiven, IsWell, LetsGo, LetsPages, Now, Step, Steps, file_ends, more, none, now_of, pages_go, quota_goes, reading_ends, tag_page_goes, trim_ends}
use Rattle.domain_changes.proofs.OfReleaseSteps.Fits.{Fits, well_fits}
use Rattle.domain_changes.proofs.OfReleaseSteps.DeferredLaws.{fits_step}
use Rattle.domain_changes.proofs.OfReleaseSteps.Narrower.{in_last}
use Rattle.domain_changes.proofs.OfStoredSet.Stable.{nothing}
use Rattle.domain_changes.specs.staged_pages.Store.{pages_of}
use Rattle.release_laws.proofs.Entries.{gives_none}
use Rattle.release_laws.proofs.SeenTrimmed.{GiveNone, alone_step}
use Rattle.domain_changes.specs.domain_memory.Listing.{list_with}
use Rattle.domain_changes.specs.domain_memory.Held.{held_open}
use Rattle.domain_changes.specs.domain_memory.Staged.{IsSettled, staged_in}
use Rattle.domain_changes.specs.domain_memory.declared.memory.DomainMemory.{DomainMemory}
use Rattle.domain_changes.proofs.OfDomainMemory.Held.{held_waiting}
use Rattle.domain_changes.proofs.OfDomainMemory.SettledKept.{settled_kept}
use Rattle.release_changes.specs.LettingGo.{LetsListGo, StandsForAny}

-- ---- pages that come to wait

pub given_less : (kind : PageUse) (group : ℕ) (homes : List Home) (space : Spaces) → held_open (with_given kind group homes space) ≤ held_open space
given_less kind group [] space = omega arith
given_less kind group (home ∷ homes) space =
    let rest = given_less kind group homes space in
    let one = held_waiting (record { page = home.page; kind = kind; group = group }) (with_given kind group homes space) home.vol in
    omega (arith, rest, one)

pub waiting_less : (homes : List Home) (group : ℕ) (space : Spaces) → held_open (with_waiting_at homes group space) ≤ held_open space
waiting_less [] group space = omega arith
waiting_less (home ∷ later) group space =
    let one = held_waiting (record { page = home.page; kind = Metadata; group = group }) space home.vol in
    let rest = waiting_less later group (change_volume (with_waiting (record { page = home.page; kind = Metadata; group = group })) space home.vol) in
    omega (arith, rest, one)

-- ---- a step

absent_at : (home : Home) → Absent ≡ At home → ⊥
absent_at home e = cc

no_reader : (files : Files) (clone : Option CellAt) (reader : Option Reader) (own : List PlacedCell) → clone ≡ None → IsGiven files clone reader own → reader ≡ None
no_reader files None None own alone given = refl
no_reader files None (Some reader) own alone given = absurd given
no_reader files (Some clone) reader own alone given = absurd (let e : Some clone ≡ None = alone in absurd (cc))

less_by : (s t : Spaces) → s ≡ t → held_open s ≤ held_open t
less_by s t same = let held = ap held_open same in omega (arith, held)

module _ (group : ℕ) (version : Version) (old new : Now) (alone : GiveNone old) where
  -- if no clone reads, none is handed over
  none_taken : (s : LetsPages group version old new) → s.releases.space_between ≡ old.space
  none_taken s = ⊎_elim
      (λ same. same.0)
      (λ t. absurd (absent_at t.home (sym (ap (λ (cs : List PlacedCell). places_of cs t.page) (subst (λ o. IsReader new.pages o s.releases.own_now) (no_reader old.files s.entry.clone s.reader s.own (alone s.entry (in_last old.list s.front s.entry s.last)) s.given) s.releases.again.reads)) ∙ t.is)))
      s.releases.taken

  pages_less : LetsPages group version old new → held_open new.space ≤ held_open old.space
  pages_less s =
      let given = s.releases.given in
      let less = given_less (use_of s.chain) group given.homes s.releases.space_between in
      let is = ap held_open given.is in
      let same = ap held_open (none_taken s) in
      omega (arith, less, is, same)

  tag_less : (home : Home) → new.space ≡ change_volume (with_waiting (record { page = home.page; kind = Metadata; group = group })) old.space home.vol → held_open new.space ≤ held_open old.space
  tag_less home waits =
      let less = held_waiting (record { page = home.page; kind = Metadata; group = group }) old.space home.vol in
      let is = ap held_open waits in
      omega (arith, less, is)

  step_less : Step group version old new → held_open new.space ≤ held_open old.space
  step_less (pages_go s) = pages_less s
  step_less (quota_goes s) = less_by new.space old.space s.same_space
  step_less (trim_ends s) = less_by new.space old.space s.same_space
  step_less (reading_ends s) = less_by new.space old.space s.same_space
  step_less (file_ends s) = less_by new.space old.space s.same_space
  step_less (tag_page_goes s) = tag_less s.takes.home s.takes.waits

-- ---- steps

record HoldsLess (first now : Now) : Type 0 where
  fits : Fits now
  alone : GiveNone now
  less : held_open now.space ≤ held_open first.space

holds_less : (group : ℕ) (version : Version) (first : Now) (count : ℕ) (last : Now) → IsWell first → Steps group version first count last → GiveNone first → (a : CellAt) → HoldsLess first last
holds_less group version first count last well steps alone a =
    elim steps as (λ count last steps. HoldsLess first last) [
      | none ↦ record { fits = well_fits first well; alone = alone; less = omega arith }
      | more n between last (steps → was) step ↦ record {
        fits = fits_step group version between last was.fits step;
        alone = alone_step group version between last was.fits 0 a was.alone step;
        less = joined first between last was.less (step_less group version between last was.alone step);
      }
    ]
  where
    joined : (f b l : Now) → held_open b.space ≤ held_open f.space → held_open l.space ≤ held_open b.space → held_open l.space ≤ held_open f.space
    joined f b l one other = omega (arith, one, other)

steps_less : (group : ℕ) (version : Version) (first : Now) (count : ℕ) (last : Now) → IsWell first → Steps group version first count last → GiveNone first → held_open last.space ≤ held_open first.space
steps_less group version first count last well steps alone = (holds_less group version first count last well steps alone (record { vol = 0; page = 0; cell = 0 })).less

-- a call that finds none holds what was held
none_less : (before space : Spaces) (cells : Cells) (fault : StoreFault) → FindsNone before space cells fault → held_open space ≡ held_open before
none_less before space cells NoPage found = ap held_open found.2
none_less before space cells OutOfMemory found = ap held_open found

lets_less : (group : ℕ) (version : Version) (first : Now) (count : ℕ) (list : Listing) (space : Spaces) (cells : Cells) (pages : Pages) → IsWell first → GiveNone first → LetsGo group version first count list space cells pages → held_open space ≤ held_open first.space
lets_less group version first count list space cells pages well alone goes = ⊎_elim
    (λ led. steps_less group version first count (now_of list led.files space cells pages) well led.steps alone)
    (λ stopped.
    let less = steps_less group version first count (now_of list stopped.files stopped.before cells pages) well stopped.steps alone in
    let same = none_less stopped.before space cells stopped.fault stopped.cause in
    omega (arith, less, same))
    goes

-- ---- a domain's list

module _ (group count : ℕ) (old new : DomainMemory) (settled : IsSettled old) (goes : LetsListGo group count old new) where
  by_filesets : StandsForAny old → held_open new.space ≤ held_open old.space
  by_filesets stood =
      let ready = (settled_kept old stood.0 settled stood.1).staged in
      let files = ready.sound.files in
      let list_was : (staged_in old).list ≡ old.list.list = ap (λ l. list_with l old.list.list) settled.listed in
      let well = subst (λ (l : Listing). IsWell (now_of l files old.space old.cells (pages_of old.pages))) list_was ready.sound.below.chains.well in
      let alone = subst (λ (l : Listing). (e : Entry) → Contains l.entries e → e.clone ≡ None) list_was (gives_none (staged_in old) files ready.sound.indexes ready.sound.below ready.alone) in
      lets_less group old.frame.version (now_of old.list.list files old.space old.cells (pages_of old.pages)) count new.list.list new.space new.cells (pages_of new.pages) well alone (goes files well)

  pub list_less : ∥ StandsForAny old ∥₁ → held_open new.space ≤ held_open old.space
  list_less stands = ⊎_elim
      (λ (greater : held_open old.space < held_open new.space). absurd (nothing (∥∥₁_map stands (λ stood. let less = by_filesets stood in absurd (omega (arith, greater, less))))))
      (λ less. less)
      (cases_lt (held_open old.space) (held_open new.space))
