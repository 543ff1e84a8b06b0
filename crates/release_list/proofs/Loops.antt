-- Steps one after the other.
use Rattle.std.proofs.Common.{◌≡◌, ℕ, ◌+◌, ◌≤◌, sym, subst}
use Rattle.file_release.specs.domain_base.declared.version.Version.{Version}
use Rattle.file_release.specs.page_store.Pages.{Pages}
use Rattle.file_release.specs.page_store.declared.fault.StoreFault.{StoreFault}
use Rattle.file_release.specs.page_store.declared.fault.StoreFault.TheVariants.{NoPage}
use Rattle.file_release.specs.free_cells.Cells.{Cells}
use Rattle.file_release.specs.free_space.Spaces.{Spaces}
use Rattle.file_release.specs.file_chains.Allocated.{FindsNone}
use Rattle.release_list.specs.Listing.{Listing}
use Rattle.release_list.specs.Standing.{Files}
use Rattle.release_list.specs.Steps.{IsWell, LacksRoom, LeadsTo, Leaves, Now, StopsAfter, more, none, now_of}
use Rattle.release_list.proofs.Well.{well_still}

pub leads_none : (group : ℕ) (version : Version) (list : Listing) (files : Files) (space : Spaces) (cells : Cells) (pages : Pages) → IsWell (now_of list files space cells pages) → LeadsTo group version (now_of list files space cells pages) 0 list space cells pages
leads_none group version list files space cells pages well = record { files = files; steps = none; well = well }

pub leads_more : (group : ℕ) (version : Version) (first : Now) (count : ℕ) (list list_now : Listing) (space space_now : Spaces) (cells cells_now : Cells) (pages pages_now : Pages) → (leads : LeadsTo group version first count list space cells pages)
    → Leaves group version (now_of list leads.files space cells pages) list_now space_now cells_now pages_now → LeadsTo group version first (count + 1) list_now space_now cells_now pages_now
leads_more group version first count list list_now space space_now cells cells_now pages pages_now leads leaves = record {
  files = leaves.files;
  steps = more count (now_of list leads.files space cells pages) (now_of list_now leaves.files space_now cells_now pages_now) leads.steps leaves.step;
  well = leaves.well;
}

-- the same where nothing has changed since
pub leads_same : (group : ℕ) (version : Version) (first : Now) (count : ℕ) (list list_now : Listing) (space space_now : Spaces) (cells cells_now : Cells) (pages pages_now : Pages) → list_now ≡ list → space_now ≡ space → cells_now ≡ cells → pages_now ≡ pages
    → LeadsTo group version first count list space cells pages → LeadsTo group version first count list_now space_now cells_now pages_now
leads_same group version first count list list_now space space_now cells cells_now pages pages_now same_list same_space same_cells same_pages leads =
    subst (λ (l : Listing). LeadsTo group version first count l space_now cells_now pages_now) (sym same_list)
    (subst (λ (s : Spaces). LeadsTo group version first count list s cells_now pages_now) (sym same_space)
    (subst (λ (c : Cells). LeadsTo group version first count list space c pages_now) (sym same_cells)
    (subst (λ (p : Pages). LeadsTo group version first count list space cells p) (sym same_pages) leads)))

pub well_same : (list list_now : Listing) (files : Files) (space space_now : Spaces) (cells cells_now : Cells) (pages pages_now : Pages) → list_now ≡ list → space_now ≡ space → cells_now ≡ cells → pages_now ≡ pages
    → IsWell (now_of list files space cells pages) → IsWell (now_of list_now files space_now cells_now pages_now)
well_same list list_now files space space_now cells cells_now pages pages_now same_list same_space same_cells same_pages well =
    subst (λ (l : Listing). IsWell (now_of l files space_now cells_now pages_now)) (sym same_list)
    (subst (λ (s : Spaces). IsWell (now_of list files s cells_now pages_now)) (sym same_space)
    (subst (λ (c : Cells). IsWell (now_of list files space c pages_now)) (sym same_cells)
    (subst (λ (p : Pages). IsWell (now_of list files space cells p)) (sym same_pages) well)))

pub stops : (group : ℕ) (version : Version) (first : Now) (count : ℕ) (list list_now : Listing) (space space_now : Spaces) (cells cells_now : Cells) (pages pages_now : Pages) (fault : StoreFault) → list_now ≡ list → cells_now ≡ cells → pages_now ≡ pages
    → (leads : LeadsTo group version first count list space cells pages) → 1 ≤ count → FindsNone space space_now cells fault → (fault ≡ NoPage → LacksRoom list leads.files) → StopsAfter group version first count list_now space_now cells_now pages_now
stops group version first count list list_now space space_now cells cells_now pages pages_now fault same_list same_cells same_pages leads some finds lacks =
    subst (λ (l : Listing). StopsAfter group version first count l space_now cells_now pages_now) (sym same_list)
    (subst (λ (c : Cells). StopsAfter group version first count list space_now c pages_now) (sym same_cells)
    (subst (λ (p : Pages). StopsAfter group version first count list space_now cells p) (sym same_pages)
    (record {
      some = some;
      files = leads.files;
      before = space;
      steps = leads.steps;
      fault = fault;
      cause = finds;
      full = lacks;
      well = well_still fault list leads.files space space_now cells pages finds leads.well;
    })))
