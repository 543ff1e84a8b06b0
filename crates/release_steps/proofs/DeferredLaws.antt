-- What any number of steps keeps.
use Rattle.std.proofs.Common.{◌≡◌, ◌∙◌, ℕ, refl}
use Rattle.release_list.specs.domain_base.declared.place.CellAt.{CellAt}
use Rattle.release_list.specs.domain_base.declared.version.Version.{Version}
use Rattle.release_list.specs.Standing.{read_at}
use Rattle.release_list.specs.Steps.{IsWell, Now, Step, Steps, file_ends, more, none, pages_go, quota_goes, reading_ends, tag_page_goes, trim_ends}
use Rattle.release_steps.specs.Kept.{Stays}
use Rattle.release_steps.proofs.Ended.{ended_fits, ended_reads, ended_stays, reading_fits, reading_reads, reading_stays, tag_fits, tag_reads, tag_stays, trim_fits, trim_reads, trim_stays}
use Rattle.release_steps.proofs.Fits.{Fits, well_fits}
use Rattle.release_steps.proofs.PagesGo.{lets_fits, lets_reads, lets_stays}
use Rattle.release_steps.proofs.QuotaStep.{quota_fits, quota_reads, quota_stays}

-- ---- one step

pub fits_step : (group : ℕ) (version : Version) (old new : Now) → Fits old → Step group version old new → Fits new
fits_step group version old new fits (pages_go s) = lets_fits group version old new fits s
fits_step group version old new fits (quota_goes s) = quota_fits group version old new s fits
fits_step group version old new fits (trim_ends s) = trim_fits group version old new fits s
fits_step group version old new fits (reading_ends s) = reading_fits group version old new fits s
fits_step group version old new fits (file_ends s) = ended_fits group version old new fits s
fits_step group version old new fits (tag_page_goes s) = tag_fits group version old new fits s

stays_step : (group : ℕ) (version : Version) (old new : Now) → Fits old → Step group version old new → (a : CellAt) (p : ℕ) → Stays old a p → Stays new a p
stays_step group version old new fits (pages_go s) a p stays = lets_stays group version old new fits s a p stays
stays_step group version old new fits (quota_goes s) a p stays = quota_stays group version old new s fits a p stays
stays_step group version old new fits (trim_ends s) a p stays = trim_stays group version old new fits s a p stays
stays_step group version old new fits (reading_ends s) a p stays = reading_stays group version old new fits s a p stays
stays_step group version old new fits (file_ends s) a p stays = ended_stays group version old new fits s a p stays
stays_step group version old new fits (tag_page_goes s) a p stays = tag_stays group version old new fits s a p stays

reads_step : (group : ℕ) (version : Version) (old new : Now) → Fits old → Step group version old new → (a : CellAt) (p : ℕ) → Stays old a p → read_at new.files a p ≡ read_at old.files a p
reads_step group version old new fits (pages_go s) a p stays = lets_reads group version old new fits s a p stays
reads_step group version old new fits (quota_goes s) a p stays = quota_reads group version old new s fits a p
reads_step group version old new fits (trim_ends s) a p stays = trim_reads group version old new fits s a p
reads_step group version old new fits (reading_ends s) a p stays = reading_reads group version old new fits s a p
reads_step group version old new fits (file_ends s) a p stays = ended_reads group version old new fits s a p stays
reads_step group version old new fits (tag_page_goes s) a p stays = tag_reads group version old new fits s a p

-- ---- any number

record ReadsStill (first now : Now) (a : CellAt) (p : ℕ) : Type 0 where
  fits : Fits now
  stays : Stays now a p
  reads : read_at now.files a p ≡ read_at first.files a p

reads_still : (group : ℕ) (version : Version) (first : Now) (count : ℕ) (last : Now) → IsWell first → Steps group version first count last → (a : CellAt) (p : ℕ) → Stays first a p → ReadsStill first last a p
reads_still group version first count last well steps a p stays =
    elim steps as (λ count last steps. ReadsStill first last a p) [
      | none ↦ record { fits = well_fits first well; stays = stays; reads = refl }
      | more n between last (steps → was) step ↦ record {
        fits = fits_step group version between last was.fits step;
        stays = stays_step group version between last was.fits step a p was.stays;
        reads = reads_step group version between last was.fits step a p was.stays ∙ was.reads;
      }
    ]

pub pages_are_read : (group : ℕ) (version : Version) (first : Now) (count : ℕ) (last : Now) → IsWell first → Steps group version first count last → (a : CellAt) (p : ℕ) → Stays first a p → read_at last.files a p ≡ read_at first.files a p
pages_are_read group version first count last well steps a p stays = (reads_still group version first count last well steps a p stays).reads
