-- Sets with a directory that has an index.
use Rattle.std.proofs.Common.{◌≡◌, ◌∙◌, ◌+◌, ◌<◌, ◌≤◌, ℕ, zero, suc, Bool, cond, Option, Some, None, IsSome, IsSomeAnd, List, [], ◌∷◌, length, refl, sym, ap, subst, arith}
use Rattle.std.specs.List.{insert}
use Rattle.std.specs.Option.{option_map_or}
use Rattle.release_steps.specs.domain_base.declared.place.Kind.TheVariants.{Directory}
use Rattle.release_steps.specs.domain_base.declared.place.Tag.{Tag}
use Rattle.release_steps.specs.page_store.Bitfiles.{Bitfile, Bitfiles, IsDirectory, count_index, count_pages, insert_index, put_index, put_page, with_change, with_entry, with_file}
use Rattle.release_steps.proofs.OfFilesetFiles.OneChain.{same_tag_itself}
use Rattle.stored_set.proofs.Wholeness.{joined, replaced}

pub directory_any : (one set : Bitfiles) (tag : Tag) → one tag ≡ set tag → IsDirectory one tag → IsDirectory set tag
directory_any one set tag same directory = subst (λ o. IsSomeAnd o (λ (file : Bitfile). file.kind ≡ Directory)) same directory

pub count_any : (one set : Bitfiles) (tag : Tag) → one tag ≡ set tag → count_index one tag ≡ count_index set tag
count_any one set tag same = ap (λ o. option_map_or (λ (file : Bitfile). length file.index) o 0) same

inserted : (k : ℕ) (page : List ℕ) (pages : List (List ℕ)) → k ≤ length pages → length (insert pages k page) ≡ length pages + 1
inserted zero page [] within = refl
inserted (suc k) page [] within = absurd (omega (arith, within))
inserted zero page (first ∷ more) within = omega arith
inserted (suc k) page (first ∷ more) within = let rest = inserted k page more (omega (arith, within)) in omega (arith, rest)

-- a directory whose file is another one
pub record Has (set : Bitfiles) (tag : Tag) (count : ℕ) : Type 0 where
  pub directory : IsDirectory set tag
  pub pages : count_index set tag ≡ count

changed : (set : Bitfiles) (tag : Tag) (change : Bitfile → Bitfile) (count : ℕ) → IsDirectory set tag
    → ((file : Bitfile) → set tag ≡ Some file → file.kind ≡ Directory → ((change file).kind ≡ Directory) × (length (change file).index ≡ count)) → Has (with_change tag change set) tag count
changed set tag change count directory how = by_file (set tag) refl directory
  where
    here : (file : Bitfile) → with_file tag (change file) set tag ≡ Some (change file)
    here file = ap (λ (b : Bool). cond b (Some (change file)) (set tag)) (same_tag_itself tag)

    by_file : (o : Option Bitfile) → set tag ≡ o → IsSomeAnd o (λ file. file.kind ≡ Directory) → Has (option_map_or (λ file. with_file tag (change file) set) o set) tag count
    by_file None at directory = absurd directory
    by_file (Some file) at directory =
        let is = how file at directory in
        record {
          directory = subst (λ o. IsSomeAnd o (λ (file : Bitfile). file.kind ≡ Directory)) (sym (here file)) is.0;
          pages = ap (λ o. option_map_or (λ (file : Bitfile). length file.index) o 0) (here file) ∙ is.1;
        }

index_at : (set : Bitfiles) (tag : Tag) (file : Bitfile) → set tag ≡ Some file → count_index set tag ≡ length file.index
index_at set tag file at = ap (λ o. option_map_or (λ (file : Bitfile). length file.index) o 0) at

pub written : (set : Bitfiles) (tag : Tag) (number count : ℕ) (page : List ℕ) → IsDirectory set tag → count_index set tag ≡ count → number < count → Has (with_change tag (put_index number page) set) tag count
written set tag number count page directory is within =
    changed set tag (put_index number page) count directory
    (λ file at kind. (kind, replaced number page file.index (omega (arith, within, is, index_at set tag file at)) ∙ sym (index_at set tag file at) ∙ is))

pub put_in : (set : Bitfiles) (tag : Tag) (number count : ℕ) (page : List ℕ) → IsDirectory set tag → count_index set tag ≡ count → number ≤ count → Has (with_change tag (insert_index number page) set) tag (count + 1)
put_in set tag number count page directory is within =
    changed set tag (insert_index number page) (count + 1) directory
    (λ file at kind. (kind, inserted number page file.index (omega (arith, within, is, index_at set tag file at)) ∙ ap (λ n. n + 1) (sym (index_at set tag file at) ∙ is)))

-- ---- the same of the pages of a directory

pub pages_any : (one set : Bitfiles) (tag : Tag) → one tag ≡ set tag → count_pages one tag ≡ count_pages set tag
pages_any one set tag same = ap (λ o. option_map_or (λ (file : Bitfile). length file.pages) o 0) same

pub some_any : (one set : Bitfiles) (tag : Tag) → one tag ≡ set tag → IsDirectory one tag → IsSome (set tag)
some_any one set tag same directory = by_file (set tag) (directory_any one set tag same directory)
  where
    by_file : (o : Option Bitfile) → IsSomeAnd o (λ file. file.kind ≡ Directory) → IsSome o
    by_file None directory = absurd directory
    by_file (Some file) directory = refl

pub record HasThem (set : Bitfiles) (tag : Tag) (count : ℕ) : Type 0 where
  pub directory : IsDirectory set tag
  pub pages : count_pages set tag ≡ count

put_there : (set : Bitfiles) (tag : Tag) (number count : ℕ) (page : List ℕ) → IsDirectory set tag → ((file : Bitfile) → set tag ≡ Some file → length (with_entry number page file.pages) ≡ count) → HasThem (with_change tag (put_page number page) set) tag count
put_there set tag number count page directory how = by_file (set tag) refl directory
  where
    here : (file : Bitfile) → with_file tag (put_page number page file) set tag ≡ Some (put_page number page file)
    here file = ap (λ (b : Bool). cond b (Some (put_page number page file)) (set tag)) (same_tag_itself tag)

    by_file : (o : Option Bitfile) → set tag ≡ o → IsSomeAnd o (λ file. file.kind ≡ Directory) → HasThem (option_map_or (λ file. with_file tag (put_page number page file) set) o set) tag count
    by_file None at directory = absurd directory
    by_file (Some file) at directory = record {
      directory = subst (λ o. IsSomeAnd o (λ (file : Bitfile). file.kind ≡ Directory)) (sym (here file)) directory;
      pages = ap (λ o. option_map_or (λ (file : Bitfile). length file.pages) o 0) (here file) ∙ how file at;
    }

pages_at : (set : Bitfiles) (tag : Tag) (file : Bitfile) → set tag ≡ Some file → count_pages set tag ≡ length file.pages
pages_at set tag file at = ap (λ o. option_map_or (λ (file : Bitfile). length file.pages) o 0) at

pub page_written : (set : Bitfiles) (tag : Tag) (number count : ℕ) (page : List ℕ) → IsDirectory set tag → count_pages set tag ≡ count → number < count → HasThem (with_change tag (put_page number page) set) tag count
page_written set tag number count page directory is within =
    put_there set tag number count page directory (λ file at. replaced number page file.pages (omega (arith, within, is, pages_at set tag file at)) ∙ sym (pages_at set tag file at) ∙ is)

pub page_added : (set : Bitfiles) (tag : Tag) (count : ℕ) (page : List ℕ) → IsDirectory set tag → count_pages set tag ≡ count → HasThem (with_change tag (put_page count page) set) tag (count + 1)
page_added set tag count page directory is =
    put_there set tag count (count + 1) page directory
    (λ file at. let here = pages_at set tag file at in let longer = joined count page file.pages (omega (arith, is, here)) in omega (arith, longer, is, here))
