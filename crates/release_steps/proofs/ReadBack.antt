-- What reads through a file after steps did so before them.
use Rattle.std.proofs.Common.{ℕ}
use Rattle.release_list.specs.domain_base.declared.place.CellAt.{CellAt}
use Rattle.release_list.specs.domain_base.declared.version.Version.{Version}
use Rattle.release_list.specs.Standing.{ReadsThrough}
use Rattle.release_list.specs.Steps.{IsWell, Now, Step, Steps, file_ends, more, none, pages_go, quota_goes, reading_ends, tag_page_goes, trim_ends}
use Rattle.release_list.proofs.Standings.{reads_by}
use Rattle.release_steps.proofs.Ended.{ended_back, reading_back, tag_sources, trim_sources}
use Rattle.release_steps.proofs.Fits.{Fits, well_fits}
use Rattle.release_steps.proofs.DeferredLaws.{fits_step}
use Rattle.release_steps.proofs.PagesGo.{sources}
use Rattle.release_steps.proofs.QuotaStep.{quota_sources}

back_step : (group : ℕ) (version : Version) (old new : Now) → Fits old → Step group version old new → (a b : CellAt) → ReadsThrough new.files a b → ReadsThrough old.files a b
back_step group version old new fits (pages_go s) a b reads = reads_by old.files new.files a b (sources group version old new fits s a) reads
back_step group version old new fits (quota_goes s) a b reads = reads_by old.files new.files a b (quota_sources group version old new s a) reads
back_step group version old new fits (trim_ends s) a b reads = reads_by old.files new.files a b (trim_sources group version old new fits s a) reads
back_step group version old new fits (reading_ends s) a b reads = reading_back group version old new fits s a b reads
back_step group version old new fits (file_ends s) a b reads = ended_back group version old new fits s a b reads
back_step group version old new fits (tag_page_goes s) a b reads = reads_by old.files new.files a b (tag_sources group version old new fits s a) reads

record ReadsBack (first now : Now) (a b : CellAt) : Type 0 where
  fits : Fits now
  back : ReadsThrough now.files a b → ReadsThrough first.files a b

reads_back : (group : ℕ) (version : Version) (first : Now) (count : ℕ) (last : Now) → IsWell first → Steps group version first count last → (a b : CellAt) → ReadsBack first last a b
reads_back group version first count last well steps a b =
    elim steps as (λ count last steps. ReadsBack first last a b) [
      | none ↦ record { fits = well_fits first well; back = λ reads. reads }
      | more n between last (steps → was) step ↦ record {
        fits = fits_step group version between last was.fits step;
        back = λ reads. was.back (back_step group version between last was.fits step a b reads);
      }
    ]

pub no_more_read : (group : ℕ) (version : Version) (first : Now) (count : ℕ) (last : Now) → IsWell first → Steps group version first count last → (a b : CellAt) → ReadsThrough last.files a b → ReadsThrough first.files a b
no_more_read group version first count last well steps a b = (reads_back group version first count last well steps a b).back
