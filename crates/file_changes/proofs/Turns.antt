-- What becomes of the node of a file that changes.
use Rattle.std.proofs.Common.{◌≡◌, ◌∙◌, ◌<◌, ℕ, Bool, cond, nat_lt, List, Some, length, refl, sym, ap, subst, lt-ltb, ⊎_elim}
use Rattle.std.specs.Cmp.{nat_cmp_total}
use Rattle.std.specs.FinMap as map
use Rattle.domain_memory.specs.domain_base.Limits.{file_pages, page_bytes}
use Rattle.domain_memory.specs.domain_base.declared.place.Home.{Home}
use Rattle.domain_memory.specs.extent_maps.Runs.{home_at}
use Rattle.domain_memory.specs.extent_maps.declared.run.PagePlace.TheVariants.{Absent, At}
use Rattle.domain_memory.specs.legal_histories.Valid.{HasWholePages}
use Rattle.domain_memory.specs.fileset_model.declared.node.Node.{Node}
use Rattle.domain_memory.specs.fileset_model.declared.node.Node.TheVariants.{Directory, File}
use Rattle.domain_memory.proofs.OfFilesetValues.MapLemmas.{got-insert}
use Rattle.domain_memory.specs.fileset_files.State.{FileState}
use Rattle.domain_memory.proofs.OfReleaseList.Spread.{some_same}
use Rattle.domain_memory.specs.name_space.Laws.{IsLike}
use Rattle.set_standing.specs.Nodes.{with_page, with_size}
use Rattle.set_standing.specs.OneFile.{KeepsKind}

-- ---- such a change keeps kinds, owners and whole pages

page_like : (page : ℕ) (bytes : List ℕ) (node : Node) → IsLike (with_page page bytes node) node
page_like page bytes (File uid gid size logged pages) = (refl, refl)
page_like page bytes (Directory uid gid) = (refl, refl)

page_whole : (page : ℕ) (bytes : List ℕ) → page < file_pages → length bytes ≡ page_bytes → (node : Node) → HasWholePages node → HasWholePages (with_page page bytes node)
page_whole page bytes small whole (File uid gid size logged pages) are = λ q of is. ⊎_elim
    (λ here. (subst (λ n. n < file_pages) (sym here.0) small, ap length (some_same of bytes here.1) ∙ whole))
    (λ other. are q of other.1)
    (got-insert nat_cmp_total map.nat_cmp-IsAntisymmetric pages page bytes q (Some of) is)
page_whole page bytes small whole (Directory uid gid) are = tt

pub page_keeps : (page : ℕ) (bytes : List ℕ) → page < file_pages → length bytes ≡ page_bytes → KeepsKind (with_page page bytes)
page_keeps page bytes small whole = record { like = page_like page bytes; whole = page_whole page bytes small whole }

size_like : (size : ℕ) (flag : Bool) (node : Node) → IsLike (with_size size flag node) node
size_like size flag (File uid gid was logged pages) = (refl, refl)
size_like size flag (Directory uid gid) = (refl, refl)

size_whole : (size : ℕ) (flag : Bool) (node : Node) → HasWholePages node → HasWholePages (with_size size flag node)
size_whole size flag (File uid gid was logged pages) are = are
size_whole size flag (Directory uid gid) are = are

pub size_keeps : (size : ℕ) (flag : Bool) → KeepsKind (with_size size flag)
size_keeps size flag = record { like = size_like size flag; whole = size_whole size flag }

-- ---- where a kept page stands

pub kept_home : (state : FileState) (page : ℕ) (home : Home) → page < state.keep → state.places page ≡ At home → home_at (cond (nat_lt page state.keep) (state.places page) Absent) ≡ Some home
kept_home state page home kept at = λ i. home_at (cond (lt-ltb page state.keep kept i) (at i) Absent)
