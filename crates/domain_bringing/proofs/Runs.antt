-- Pages of runs that are brought one after the other.
use Rattle.std.proofs.Common.{◌≡◌, ℕ, ◌+◌, ◌≤◌, List, IsSome, length, refl, sym, subst, arith, ⊎_elim}
use Rattle.std.proofs.lemmas.Bool.{cases_lt}
use Rattle.std.proofs.lemmas.Option.{slice_get_read}
use Rattle.domain_faults.specs.domain_base.declared.place.Home.{Home}
use Rattle.domain_faults.specs.page_store.Pages.{Pages}
use Rattle.domain_faults.specs.domain_layout.Reached.{Frame}
use Rattle.domain_faults.specs.cell_chains.Runs.{home_in}
use Rattle.domain_faults.specs.cell_chains.declared.run.FileRun.{FileRun}
use Rattle.image_loading.proofs.Listed.{HoldBelow, hold_all}
use Rattle.domain_bringing.specs.Files.{HasPagesBelow, HasPagesOf, HasPagesOfAll, IsThereWithin}

-- a page that is there stays
pub stays : (old new : Pages) (frame : Frame) (home : Home) → ((home : Home) → IsSome (old home) → new home ≡ old home) → IsThereWithin old frame home → IsThereWithin new frame home
stays old new frame home kept there within = let some = there within in subst IsSome (sym (kept home some)) some

pub run_stays : (old new : Pages) (frame : Frame) (run : FileRun) → ((home : Home) → IsSome (old home) → new home ≡ old home) → HasPagesOf old frame run → HasPagesOf new frame run
run_stays old new frame run kept has page is = stays old new frame (home_in run page) kept (has page is)

-- one page more of a run
pub one_below : (old new : Pages) (frame : Frame) (run : FileRun) (number : ℕ) → ((home : Home) → IsSome (old home) → new home ≡ old home) → HasPagesBelow (run.row.page + number) old frame run
    → IsThereWithin new frame (home_in run (run.row.page + number)) → HasPagesBelow (run.row.page + (number + 1)) new frame run
one_below old new frame run number kept below here page is less =
    ⊎_elim (λ low. stays old new frame (home_in run page) kept (below page is low))
    (λ high. let same : run.row.page + number ≡ page = omega (arith, less, high) in subst (λ p. IsThereWithin new frame (home_in run p)) same here) (cases_lt page (run.row.page + number))

pub all_below : (pages : Pages) (frame : Frame) (run : FileRun) (number : ℕ) → run.row.count ≤ number → HasPagesBelow (run.row.page + number) pages frame run → HasPagesOf pages frame run
all_below pages frame run number most below page is = below page is (omega (arith, is.1, most))

-- all runs of a list
pub all_runs : (pages : Pages) (frame : Frame) (runs lent : List FileRun) (n : ℕ) → lent ≡ runs → length lent ≤ n → HoldBelow n lent (HasPagesOf pages frame) → HasPagesOfAll pages frame runs
all_runs pages frame runs lent n same most below run among =
    hold_all runs lent n (HasPagesOf pages frame) same most below among.0 run (slice_get_read runs (length runs) among.0 run refl among.1 (sym among.2))
