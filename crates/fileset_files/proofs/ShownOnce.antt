-- Files show one set at most.
use Rattle.std.proofs.Common.{◌≡◌, ◌∙◌, ℕ, suc, Bool, true, false, cond, List, [], ◌∷◌, Option, Some, None, IsSomeAnd, slice_get, refl, sym, ap}
use Rattle.file_chains.specs.domain_base.declared.place.Home.{Home}
use Rattle.file_chains.specs.page_store.Bitfiles.{Bitfile, shown_index}
use Rattle.file_chains.specs.page_store.Pages.{Pages}
use Rattle.file_chains.specs.metadata_cells.Chain.{PlacedCell}
use Rattle.tag_dirs.specs.TagPage.{next_of}
use Rattle.fileset_files.specs.declared.attributes.Attributes.{Attributes}
use Rattle.fileset_files.specs.Files.{attributes_of, is_removed, of_live}
use Rattle.fileset_files.specs.Shown.{AreIndexPages, IsWhat, ShowOnce, ShowsAt, ShowsFile, index_of, shown_page}

-- lists that have the same at each number are the same
pub same_each : {X : Type 0} (xs ys : List X) → ((k : ℕ) → slice_get xs k ≡ slice_get ys k) → xs ≡ ys
same_each [] [] each = refl
same_each [] (y ∷ ys) each = let e : None ≡ Some y = each 0 in absurd (cc)
same_each (x ∷ xs) [] each = let e : Some x ≡ None = each 0 in absurd (cc)
same_each {X = X} (x ∷ xs) (y ∷ ys) each =
    let head : x ≡ y = some_same (each 0) in
    let tail : xs ≡ ys = same_each xs ys (λ k. each (suc k)) in
    rw (head, tail) refl
  where
    some_same : Some x ≡ Some y → x ≡ y
    some_same e = cc

-- from a home on one list of index pages stands
same_index : (pages : Pages) (home : Option Home) (xs ys : List (List ℕ)) → AreIndexPages pages home xs → AreIndexPages pages home ys → xs ≡ ys
same_index pages None [] [] x y = refl
same_index pages None [] (q ∷ qs) x y = absurd y
same_index pages None (p ∷ ps) ys x y = absurd x
same_index pages (Some home) [] ys x y = absurd x
same_index pages (Some home) (p ∷ ps) [] x y = absurd y
same_index pages (Some home) (p ∷ ps) (q ∷ qs) x y = by_page (pages home) x y (λ stored a b. same_index pages (next_of stored) ps qs a b)
  where
    by_page : (o : Option (List ℕ)) → IsSomeAnd o (λ stored. (p ≡ shown_index stored) × AreIndexPages pages (next_of stored) ps) → IsSomeAnd o (λ stored. (q ≡ shown_index stored) × AreIndexPages pages (next_of stored) qs)
        → ((stored : List ℕ) → AreIndexPages pages (next_of stored) ps → AreIndexPages pages (next_of stored) qs → ps ≡ qs) → p ∷ ps ≡ q ∷ qs
    by_page None x y later = absurd x
    by_page (Some stored) x y later =
        let head : p ≡ q = x.0 ∙ sym y.0 in
        let tail : ps ≡ qs = later stored x.1 y.1 in
        rw (head, tail) refl

same_files : (pages : Pages) (cells : List PlacedCell) (one other : Bitfile) → ShowsFile pages cells one → ShowsFile pages cells other → one ≡ other
same_files pages cells one other a b = by_what (attributes_of cells) a.what b.what
  where
    by_what : (o : Option Attributes) → IsSomeAnd o (IsWhat one) → IsSomeAnd o (IsWhat other) → one ≡ other
    by_what None x y = absurd x
    by_what (Some is) x y =
        let kind : one.kind ≡ other.kind = x.kind ∙ sym y.kind in
        let uid : one.uid ≡ other.uid = x.uid ∙ sym y.uid in
        let gid : one.gid ≡ other.gid = x.gid ∙ sym y.gid in
        let links : one.links ≡ other.links = x.links ∙ sym y.links in
        let list : one.pages ≡ other.pages = same_each one.pages other.pages (λ k. a.each k ∙ ap (λ of. shown_page pages cells of k) kind ∙ sym (b.each k)) in
        let index : one.index ≡ other.index = same_index pages (index_of cells) one.index other.index a.index b.index in
        (λ i. record { kind = kind i; uid = uid i; gid = gid i; links = links i; pages = list i; index = index i })

-- a file that is not there shows nothing
not_both : (pages : Pages) (cells : List PlacedCell) (file : Bitfile) → of_live attributes_of cells ≡ None → IsSomeAnd (of_live Some cells) (λ live. ShowsFile pages live file) → ⊥
not_both pages cells file gone shows = by_removed (is_removed cells) gone shows
  where
    by_what : (o : Option Attributes) → o ≡ None → IsSomeAnd o (IsWhat file) → ⊥
    by_what None gone what = what
    by_what (Some is) gone what = cc

    by_removed : (b : Bool) → cond b None (attributes_of cells) ≡ None → IsSomeAnd (cond b None (Some cells)) (λ live. ShowsFile pages live file) → ⊥
    by_removed true gone shows = shows
    by_removed false gone shows = by_what (attributes_of cells) gone shows.what

same_at : (pages : Pages) (chain : Option (List PlacedCell)) (one other : Option Bitfile) → ShowsAt pages chain one → ShowsAt pages chain other → one ≡ other
same_at pages chain None None a b = refl
same_at pages None None (Some other) a b = absurd b
same_at pages None (Some one) other a b = absurd a
same_at pages (Some cells) None (Some other) a b = absurd (not_both pages cells other a b)
same_at pages (Some cells) (Some one) None a b = absurd (not_both pages cells one b a)
same_at pages (Some cells) (Some one) (Some other) a b = by_live (of_live Some cells) a b
  where
    by_live : (o : Option (List PlacedCell)) → IsSomeAnd o (λ live. ShowsFile pages live one) → IsSomeAnd o (λ live. ShowsFile pages live other) → Some one ≡ Some other
    by_live None x y = absurd x
    by_live (Some live) x y = ap Some (same_files pages live one other x y)

pub show_once : ShowOnce
show_once pages chains one other a b tag = same_at pages (chains tag) (one tag) (other tag) (a tag) (b tag)
