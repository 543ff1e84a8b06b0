-- What no file has any more waits.
use Rattle.std.proofs.Common.{◌≡◌, ◌∙◌, ℕ, zero, suc, ◌<◌, true, false, List, [], ◌∷◌, Option, Some, None, IsSomeAnd, Contains, refl, sym, ap, subst, arith, ⊎_elim}
use Rattle.std.specs.FinSet.{contains}
use Rattle.std.specs.Option.{option_map, option_map_or}
use Rattle.release_list.specs.domain_base.declared.place.CellAt.{CellAt}
use Rattle.release_list.specs.domain_base.declared.place.Home.{Home}
use Rattle.release_list.specs.domain_base.declared.version.Version.{Version}
use Rattle.release_list.specs.metadata_cells.Cell.{record_of}
use Rattle.release_list.specs.metadata_cells.Chain.{PlacedCell}
use Rattle.release_list.specs.cell_records.declared.record.Record.{Record}
use Rattle.release_list.specs.cell_records.declared.record.Record.TheVariants as written
use Rattle.release_list.specs.extent_maps.declared.run.PagePlace.TheVariants.{Absent, At}
use Rattle.release_list.specs.free_space.declared.waiting.PageUse.{PageUse}
use Rattle.release_list.specs.free_space.declared.waiting.Waiting.{Waiting}
use Rattle.release_list.specs.free_space.VolumeSpace.{VolumeSpace, is_waiting, with_waiting}
use Rattle.release_list.specs.free_space.Spaces.{IsHeld, Spaces, change_volume, volume_of}
use Rattle.release_list.proofs.OfFreeSpace.Places.{volume_of-change_same}
use Rattle.release_list.specs.file_chains.FileChanges.{SameFirst}
use Rattle.release_list.specs.file_chains.Files.{places_of}
use Rattle.release_list.specs.fileset_files.Changes.{with_first}
use Rattle.release_list.proofs.OfFilesetFiles.Again.{one_home}
use Rattle.release_list.specs.file_release.Reading.{IsHandedOver}
use Rattle.release_list.specs.file_release.Releases.{use_in, use_of, with_given}
use Rattle.release_list.specs.file_release.Sharing.{AreSharing, frozen_of}
use Rattle.release_list.proofs.OfFileRelease.Given.{absent_home}
use Rattle.release_list.specs.declared.list.Entry.{Entry}
use Rattle.release_list.specs.Standing.{place_in}
use Rattle.release_list.specs.Steps.{IsWell, LetsPages, Now, Step, Steps, file_ends, kept_all, more, none, pages_go, quota_goes, reading_ends, says_no_source, says_trimmed, tag_page_goes, trim_ends}
use Rattle.release_list.proofs.Firsts.{first_same}
use Rattle.release_list.proofs.Lists.{in_start, last_in}
use Rattle.release_list.proofs.Records.{sourceless_other}
use Rattle.release_list.proofs.Spread.{Which, has_reader, other, reading, sharing, some_same, source, which}
use Rattle.release_list.proofs.Standings.{place_by, same_or_not}
use Rattle.release_steps.specs.Waits.{IsLetGo, Waits, waiting_at}
use Rattle.release_steps.proofs.AllKept.{trimmed_first}
use Rattle.release_steps.proofs.Ended.{ended_other, reading_other, reading_place, reading_there, same_file, trim_other, trim_there}
use Rattle.release_steps.proofs.FirstCells.{first_place, first_places, sourceless_keeps, trimmed_keeps}
use Rattle.release_steps.proofs.Fits.{Fits, alone, reading_maps, trim_maps, well_fits}
use Rattle.release_steps.proofs.Narrower.{in_last, narrower_step}
use Rattle.release_steps.proofs.PagesGo.{at_other, at_source, clone_now, clone_was}
use Rattle.release_steps.proofs.WaitOn.{changed, given_keeps, step_keeps, taken_keeps}
use Rattle.release_steps.proofs.Wells.{well_step}
use Rattle.release_steps.proofs.QuotaStep.{chain, quota_absent, quota_beside, quota_places}

-- ---- what is given back waits

module _ (s : Spaces) (vol : ℕ) (w : Waiting) where
  pub waits_now : IsSomeAnd (volume_of s vol) (λ _. Unit {0}) → Waits (change_volume (with_waiting w) s vol) vol w
  waits_now some = subst (λ o. IsSomeAnd o (λ (v : VolumeSpace). Contains v.waiting w)) (sym (volume_of-change_same (with_waiting w) s vol)) (by_volume (volume_of s vol) some)
    where
      by_volume : (o : Option VolumeSpace) → IsSomeAnd o (λ _. Unit {0}) → IsSomeAnd (option_map (with_waiting w) o) (λ (v : VolumeSpace). Contains v.waiting w)
      by_volume None some = some
      by_volume (Some v) some = last_in v.waiting w

  pub waits_more : (v : ℕ) (x : Waiting) → Waits s v x → Waits (change_volume (with_waiting w) s vol) v x
  waits_more v x is = changed (λ v. Contains v.waiting x) (with_waiting w) (λ v inside. in_start v.waiting (w ∷ []) x inside) s vol v is

there_given : (kind : PageUse) (group : ℕ) (homes : List Home) (s : Spaces) (vol : ℕ) → IsSomeAnd (volume_of s vol) (λ _. Unit {0}) → IsSomeAnd (volume_of (with_given kind group homes s) vol) (λ _. Unit {0})
there_given kind group homes s vol some = given_keeps (λ v. Unit {0}) (λ p v is. is) (λ w v is. is) kind group homes s vol some

pub given_waits : (kind : PageUse) (group : ℕ) (homes : List Home) (s : Spaces) (home : Home) → Contains homes home → IsSomeAnd (volume_of s home.vol) (λ _. Unit {0}) → Waits (with_given kind group homes s) home.vol (waiting_at home kind group)
given_waits kind group [] s home inside some = absurd (omega (arith, inside.1))
given_waits kind group (x ∷ xs) s home (zero, within, is) some =
    subst (λ (h : Home). Waits (with_given kind group (x ∷ xs) s) h.vol (waiting_at h kind group)) is
    (waits_now (with_given kind group xs s) x.vol (waiting_at x kind group) (there_given kind group xs s x.vol (subst (λ (h : Home). IsSomeAnd (volume_of s h.vol) (λ _. Unit {0})) (sym is) some)))
given_waits kind group (x ∷ xs) s home (suc k, within, is) some =
    waits_more (with_given kind group xs s) x.vol (waiting_at x kind group) home.vol (waiting_at home kind group)
    (given_waits kind group xs s home (k, omega (arith, within), is) some)

pub there_held : (s : Spaces) (vol p : ℕ) → IsHeld s vol p → IsSomeAnd (volume_of s vol) (λ _. Unit {0})
there_held s vol p held = by_volume (volume_of s vol) held
  where
    by_volume : (o : Option VolumeSpace) → IsSomeAnd o (λ v. (contains v.used p ≡ true) × (is_waiting v p ≡ false)) → IsSomeAnd o (λ _. Unit {0})
    by_volume None held = held
    by_volume (Some v) held = tt

-- ---- of what use a file's pages are

pub use_same : (cells after : List PlacedCell) → SameFirst cells after → use_of after ≡ use_of cells
use_same [] after same = absurd same
use_same (a ∷ xs) [] same = absurd same
use_same (a ∷ xs) (b ∷ ys) same = ap use_in (first_same 1 refl (a ∷ xs) (b ∷ ys) same)

use_kept : (o : Option Record) → use_in (option_map kept_all o) ≡ use_in o
use_kept None = refl
use_kept (Some (written.Attributes kind uid gid flags size keep links birth unsynced)) = refl
use_kept (Some (written.CloneFile vol cell page frozen)) = refl
use_kept (Some (written.Extents rows)) = refl
use_kept (Some (written.ShortExtents rows)) = refl
use_kept (Some (written.Holes rows)) = refl
use_kept (Some (written.Pending what)) = refl
use_kept (Some (written.UserQuota id files blocks)) = refl
use_kept (Some (written.GroupQuota id files blocks)) = refl
use_kept (Some (written.DirIndex vol page entries)) = refl
use_kept (Some (written.Parent slot seq)) = refl
use_kept (Some (written.Stripe width mark vols)) = refl
use_kept (Some (written.Volume vol pages bitmap_pages)) = refl
use_kept (Some (written.DenseExtents rows)) = refl
use_kept (Some (written.ShortDense rows)) = refl

use_trimmed : (cells : List PlacedCell) → use_of (with_first says_trimmed cells) ≡ use_of cells
use_trimmed [] = refl
use_trimmed (first ∷ rest) = ap use_in (trimmed_first first.cell) ∙ use_kept (record_of 1 first.cell.records)

use_alone : (cells : List PlacedCell) → use_of (with_first says_no_source cells) ≡ use_of cells
use_alone [] = refl
use_alone (first ∷ rest) = ap use_in (sourceless_other first.cell 1 (λ e. omega (arith, e)))

-- ---- where the page is that the file has at first

-- it is the file's that had it, and of that use
pub record IsOwned (now : Now) (a : CellAt) (p : ℕ) (home : Home) (kind : PageUse) : Type 0 where
  pub chain : List PlacedCell
  pub is : now.files a ≡ Some chain
  pub there : places_of chain p ≡ At home
  pub of_use : use_of chain ≡ kind

-- or that of one that has no entry
pub record IsPassedOn (now : Now) (p : ℕ) (home : Home) : Type 0 where
  pub at : CellAt
  pub there : place_in now.files at p ≡ At home
  pub no_entry : (e : Entry) → Contains now.list.entries e → ¬ e.at ≡ at

-- or it waits
pub data Whereabouts (group : ℕ) (now : Now) (a : CellAt) (p : ℕ) (home : Home) (kind : PageUse) : Type 0 where
  owned : IsOwned now a p home kind → Whereabouts group now a p home kind
  passed : IsPassedOn now p home → Whereabouts group now a p home kind
  waits : Waits now.space home.vol (waiting_at home kind group) → Whereabouts group now a p home kind

module _ (group : ℕ) (version : Version) (old new : Now) (well : IsWell old) where
  fits : Fits old
  fits = well_fits old well

  no_entry_now : Step group version old new → (b : CellAt) → ((e : Entry) → Contains old.list.entries e → ¬ e.at ≡ b) → (e : Entry) → Contains new.list.entries e → ¬ e.at ≡ b
  no_entry_now step b nobody e inside same = let n = narrower_step group version old new step e inside in nobody n.was n.inside (n.at ∙ same)

  -- pages of a file go
  module _ (s : LetsPages group version old new) where
    entry_in : Contains old.list.entries s.entry
    entry_in = in_last old.list s.front s.entry s.last

    shares : AreSharing s.entry.at s.reader old.space old.cells old.pages s.chain s.own
    shares = sharing old.space old.cells old.pages old.files well.together s.entry (well.listed.each s.entry entry_in) s.chain s.is s.file s.reader s.own s.given

    -- its clone's file keeps what it has
    clone_keeps : (p : ℕ) (home : Home) → places_of s.own p ≡ At home → places_of s.releases.own_now p ≡ At home
    clone_keeps p home there = ⊎_elim (λ same. same ∙ there) (λ h. absurd (absent_home home h.absent there)) (s.releases.pages.handed p)

    -- a home that was not handed over is in no page of it
    nowhere_in_clone : (p : ℕ) (home : Home) → places_of s.chain p ≡ At home → places_of s.releases.own_now p ≡ places_of s.own p → (q : ℕ) → ¬ places_of s.releases.own_now q ≡ At home
    nowhere_in_clone p home was same q there = ⊎_elim
        (λ same_q. shares.not_own p q home was (sym same_q ∙ there))
        (λ h.
        let is : h.home ≡ home = one_home h.home home (sym h.is ∙ there) in
        let at : p ≡ q = shares.once p q home was (h.was ∙ ap At is) in
        shares.not_own p p home was (sym same ∙ ap (places_of s.releases.own_now) at ∙ there))
        (s.releases.pages.handed q)

    lost_waits : (p : ℕ) (home : Home) → places_of s.chain p ≡ At home → places_of s.releases.after p ≡ Absent → places_of s.releases.own_now p ≡ places_of s.own p → Waits new.space home.vol (waiting_at home (use_of s.chain) group)
    lost_waits p home was gone same =
        let inside = (s.releases.given.each home).1 (record { page = p; was = was; gone = gone; nowhere = nowhere_in_clone p home was same }) in
        let there = there_held old.space home.vol home.page (shares.held p home was).held in
        let between = taken_keeps (λ v. Unit {0}) (λ q v is. is) (λ w v is. is) s.own (places_of s.releases.own_now) (places_of s.chain) old.space s.releases.space_between old.cells s.releases.cells_between old.pages s.releases.taken home.vol there in
        subst (λ (x : Spaces). Waits x home.vol (waiting_at home (use_of s.chain) group)) (sym s.releases.given.is)
        (given_waits (use_of s.chain) group s.releases.given.homes s.releases.space_between home inside between)

    -- or it was handed over
    handed_on : (p : ℕ) (home : Home) → places_of s.chain p ≡ At home → IsHandedOver (frozen_of s.reader) (places_of s.own) (places_of s.releases.own_now) (places_of s.chain) (places_of s.releases.after) p → IsPassedOn new p home
    handed_on p home was h = ⊎_elim
        (λ nobody. absurd (let less : p < 0 = subst (λ (n : ℕ). p < n) (ap frozen_of nobody.1) h.is_frozen in omega (arith, less)))
        (λ q. record {
          at = q.clone;
          there = place_by new.files q.clone s.releases.own_now p (clone_now group version old new fits s q.clone q.is_clone) ∙ h.is ∙ ap At (one_home h.home home (sym h.was ∙ was));
          no_entry = no_entry_now (pages_go s) q.clone (λ e inside same. alone old fits s.front s.entry s.last e inside (q.is_clone ∙ ap Some (sym same)));
        })
        (has_reader old.files s.entry.clone s.reader s.own s.given)

  module _ (a : CellAt) (p : ℕ) (home : Home) (kind : PageUse) where
    same_owned : IsOwned old a p home kind → new.files a ≡ old.files a → Whereabouts group new a p home kind
    same_owned o same = owned (record { chain = o.chain; is = same ∙ o.is; there = o.there; of_use = o.of_use })

    -- another chain of the file that has the page there too
    still_owned : (o : IsOwned old a p home kind) (at : CellAt) (cells after : List PlacedCell) → a ≡ at → old.files at ≡ Some cells → new.files at ≡ Some after → (places_of cells p ≡ At home → places_of after p ≡ At home) → use_of after ≡ use_of cells
        → Whereabouts group new a p home kind
    still_owned o at cells after same is is_now keeps uses =
        let it : cells ≡ o.chain = some_same cells o.chain (sym is ∙ sym (ap old.files same) ∙ o.is) in
        owned (record {
          chain = after;
          is = ap new.files same ∙ is_now;
          there = keeps (ap (λ (cs : List PlacedCell). places_of cs p) it ∙ o.there);
          of_use = uses ∙ ap use_of it ∙ o.of_use;
        })

    lets_owned : LetsPages group version old new → IsOwned old a p home kind → Whereabouts group new a p home kind
    lets_owned s o = by_which (which s.entry.at s.entry.clone a)
      where
        from_entry : a ≡ s.entry.at → Whereabouts group new a p home kind
        from_entry same =
            let it : s.chain ≡ o.chain = some_same s.chain o.chain (sym s.is ∙ sym (ap old.files same) ∙ o.is) in
            let was : places_of s.chain p ≡ At home = ap (λ (cs : List PlacedCell). places_of cs p) it ∙ o.there in
            ⊎_elim
            (λ kept. still_owned o s.entry.at s.chain s.releases.after same s.is (at_source group version old new fits s) (λ x. kept ∙ x) (use_same s.chain s.releases.after s.releases.first))
            (λ gone. ⊎_elim
            (λ not_handed. waits (subst (λ (k : PageUse). Waits new.space home.vol (waiting_at home k group)) (ap use_of it ∙ o.of_use) (lost_waits s p home was gone not_handed)))
            (λ h. passed (handed_on s p home was h))
            (s.releases.pages.handed p))
            (s.releases.pages.left p)

        by_which : Which s.entry.at s.entry.clone a → Whereabouts group new a p home kind
        by_which (source same) = from_entry same
        by_which (reading some) =
            still_owned o a s.own s.releases.own_now refl (clone_was group version old new fits s a some) (clone_now group version old new fits s a some) (clone_keeps s p home)
            (⊎_elim (λ same. ap use_of same) (λ first. use_same s.own s.releases.own_now first) s.releases.own_first)
        by_which (other not_at not_it) = same_owned o (at_other group version old new fits s a not_at not_it)

    owned_step : Step group version old new → IsOwned old a p home kind → Whereabouts group new a p home kind
    owned_step (pages_go s) o = lets_owned s o
    owned_step (quota_goes s) o = ⊎_elim
        (λ same.
        let it : chain group version old new s ≡ o.chain = some_same (chain group version old new s) o.chain (sym s.is ∙ sym (ap old.files same) ∙ o.is) in
        absurd (absent_home home (quota_absent group version old new s p) (ap (λ (cs : List PlacedCell). places_of cs p) it ∙ o.there)))
        (λ not_at. same_owned o (quota_beside group version old new s a not_at))
        (same_or_not a s.entry.at)
    owned_step (trim_ends s) o = ⊎_elim
        (λ same. still_owned o s.entry.at s.chain (with_first says_trimmed s.chain) same s.is (trim_there group version old new fits s) (λ x. first_places says_trimmed trimmed_keeps old new fits s.entry.at s.chain s.is (trim_maps old new fits s) s.files p ∙ x) (use_trimmed s.chain))
        (λ not_at. same_owned o (trim_other group version old new fits s a not_at))
        (same_or_not a s.entry.at)
    owned_step (reading_ends s) o = ⊎_elim
        (λ same. still_owned o s.clone s.own (with_first says_no_source s.own) same s.own_is (reading_there group version old new fits s) (λ x. first_places says_no_source sourceless_keeps old new fits s.clone s.own s.own_is (reading_maps old new fits s) s.files p ∙ x) (use_alone s.own))
        (λ not_at. same_owned o (reading_other group version old new fits s a not_at))
        (same_or_not a s.clone)
    owned_step (file_ends s) o = ⊎_elim
        (λ same.
        let it : s.chain ≡ o.chain = some_same s.chain o.chain (sym s.is ∙ sym (ap old.files same) ∙ o.is) in
        absurd (absent_home home (s.done.absent p (omega arith)) (ap (λ (cs : List PlacedCell). places_of cs p) it ∙ o.there)))
        (λ not_at. same_owned o (ended_other group version old new fits s a not_at))
        (same_or_not a s.entry.at)
    owned_step (tag_page_goes s) o = same_owned o (same_file group version old new fits s a)

    -- ---- a page that was handed over stays where it is

    passed_by : (step : Step group version old new) (q : IsPassedOn old p home) → place_in new.files q.at p ≡ At home → Whereabouts group new a p home kind
    passed_by step q there = passed (record { at = q.at; there = there; no_entry = no_entry_now step q.at q.no_entry })

    same_place : (b : CellAt) → new.files b ≡ old.files b → place_in old.files b p ≡ At home → place_in new.files b p ≡ At home
    same_place b same there = ap (λ o. option_map_or (λ cs. places_of cs p) o Absent) same ∙ there

    lets_passed : LetsPages group version old new → IsPassedOn old p home → Whereabouts group new a p home kind
    lets_passed s q = passed_by (pages_go s) q (by_which (which s.entry.at s.entry.clone q.at))
      where
        by_which : Which s.entry.at s.entry.clone q.at → place_in new.files q.at p ≡ At home
        by_which (source same) = absurd (q.no_entry s.entry (entry_in s) (sym same))
        by_which (reading some) =
            place_by new.files q.at s.releases.own_now p (clone_now group version old new fits s q.at some)
            ∙ clone_keeps s p home (sym (place_by old.files q.at s.own p (clone_was group version old new fits s q.at some)) ∙ q.there)
        by_which (other not_at not_it) = same_place q.at (at_other group version old new fits s q.at not_at not_it) q.there

    passed_step : Step group version old new → IsPassedOn old p home → Whereabouts group new a p home kind
    passed_step (pages_go s) q = lets_passed s q
    passed_step (quota_goes s) q = passed_by (quota_goes s) q (quota_places group version old new s q.at p ∙ q.there)
    passed_step (trim_ends s) q = passed_by (trim_ends s) q (first_place says_trimmed trimmed_keeps old new fits s.entry.at s.chain s.is (trim_maps old new fits s) s.files q.at p ∙ q.there)
    passed_step (reading_ends s) q = passed_by (reading_ends s) q (reading_place group version old new fits s q.at p ∙ q.there)
    passed_step (file_ends s) q =
        passed_by (file_ends s) q (same_place q.at (ended_other group version old new fits s q.at (λ same. q.no_entry s.entry (in_last old.list s.front s.entry s.last) (sym same))) q.there)
    passed_step (tag_page_goes s) q = passed_by (tag_page_goes s) q (same_place q.at (same_file group version old new fits s q.at) q.there)

    pub where_step : Step group version old new → Whereabouts group old a p home kind → Whereabouts group new a p home kind
    where_step step (owned o) = owned_step step o
    where_step step (passed q) = passed_step step q
    where_step step (waits w) =
        waits (step_keeps (λ v. Contains v.waiting (waiting_at home kind group)) (λ q v inside. inside) (λ w v inside. in_start v.waiting (w ∷ []) (waiting_at home kind group) inside) group version old new step home.vol w)

-- ---- any number

record IsSomewhere (group : ℕ) (now : Now) (a : CellAt) (p : ℕ) (home : Home) (kind : PageUse) : Type 0 where
  well : IsWell now
  at : Whereabouts group now a p home kind

somewhere : (group : ℕ) (version : Version) (first : Now) (count : ℕ) (last : Now) → IsWell first → Steps group version first count last → (a : CellAt) (p : ℕ) (home : Home) (kind : PageUse) → IsOwned first a p home kind → IsSomewhere group last a p home kind
somewhere group version first count last well steps a p home kind o =
    elim steps as (λ count last steps. IsSomewhere group last a p home kind) [
      | none ↦ record { well = well; at = owned o }
      | more n between last (steps → was) step ↦ record {
        well = well_step group version between last was.well step;
        at = where_step group version between last was.well a p home kind step was.at;
      }
    ]

pub gone_waits : (group : ℕ) (version : Version) (first : Now) (count : ℕ) (last : Now) → IsWell first → Steps group version first count last → (home : Home) (kind : PageUse) → IsLetGo first last home kind → Waits last.space home.vol (waiting_at home kind group)
gone_waits group version first count last well steps home kind lost =
    by_place (somewhere group version first count last well steps lost.at lost.page home kind (record { chain = lost.chain; is = lost.was; there = lost.there; of_use = lost.of_use })).at
  where
    by_place : Whereabouts group last lost.at lost.page home kind → Waits last.space home.vol (waiting_at home kind group)
    by_place (owned o) = absurd (lost.nowhere lost.at lost.page (place_by last.files lost.at o.chain lost.page o.is ∙ o.there))
    by_place (passed q) = absurd (lost.nowhere q.at lost.page q.there)
    by_place (waits w) = w
