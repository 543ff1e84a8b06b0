-- The entries that steps leave on a list.
use Rattle.std.proofs.Common.{◌≡◌, ◌⊎◌, inl, inr, ℕ, List, [], ◌∷◌, ◌++◌, None, Contains, refl, sym, subst}
use Rattle.release_list.specs.domain_base.declared.version.Version.{Version}
use Rattle.release_list.specs.declared.list.Entry.{Entry}
use Rattle.release_list.specs.Listing.{Listing, without_clone}
use Rattle.release_list.specs.Steps.{IsLast, Now, Step, file_ends, pages_go, quota_goes, reading_ends, tag_page_goes, trim_ends}
use Rattle.release_list.proofs.Lists.{IsIn, but_either, earlier, in_start, in_without, is_in, last_in, this}

-- each entry has the file of one of the other list, and its clone or none
pub record IsNarrower (old new : Listing) (entry : Entry) : Type 0 where
  pub was : Entry
  pub inside : Contains old.entries was
  pub at : was.at ≡ entry.at
  pub clone : (entry.clone ≡ was.clone) ⊎ (entry.clone ≡ None)

pub in_last : (list : Listing) (front : List Entry) (entry : Entry) → IsLast front entry list → Contains list.entries entry
in_last list front entry last = subst (λ (es : List Entry). Contains es entry) (sym last) (last_in front entry)

pub in_front : (list : Listing) (front : List Entry) (entry e : Entry) → IsLast front entry list → Contains front e → Contains list.entries e
in_front list front entry e last inside = subst (λ (es : List Entry). Contains es e) (sym last) (in_start front (entry ∷ []) e inside)

pub inside_by : (old new : Listing) (e : Entry) → new ≡ old → Contains new.entries e → Contains old.entries e
inside_by old new e same inside = subst (λ (l : Listing). Contains l.entries e) same inside

as_it_was : (old new : Listing) (e : Entry) → Contains old.entries e → IsNarrower old new e
as_it_was old new e inside = record { was = e; inside = inside; at = refl; clone = inl refl }

pub narrower_step : (group : ℕ) (version : Version) (old new : Now) → Step group version old new → (e : Entry) → Contains new.list.entries e → IsNarrower old.list new.list e
narrower_step group version old new (pages_go s) e inside = as_it_was old.list new.list e (inside_by old.list new.list e s.same_list inside)
narrower_step group version old new (quota_goes s) e inside = as_it_was old.list new.list e (inside_by old.list new.list e s.same_list inside)
narrower_step group version old new (trim_ends s) e inside = as_it_was old.list new.list e (in_front old.list s.front s.entry e s.last (inside_by (record { entries = s.front; tag_pages = old.list.tag_pages }) new.list e s.list inside))
narrower_step group version old new (file_ends s) e inside =
    let w = in_without s.entry.at s.front e (inside_by (record { entries = without_clone s.entry.at s.front; tag_pages = old.list.tag_pages }) new.list e s.list inside) in
    subst (IsNarrower old.list new.list) (sym w.2) (record {
      was = w.0;
      inside = in_front old.list s.front s.entry w.0 s.last w.1;
      at = refl;
      clone = but_either s.entry.at w.0.clone;
    })
narrower_step group version old new (tag_page_goes s) e inside = as_it_was old.list new.list e (inside_by (record { entries = old.list.entries; tag_pages = s.takes.front }) new.list e s.takes.is inside)
narrower_step group version old new (reading_ends s) e inside =
    by_place (is_in s.front (record s.entry { clone = None }) e (inside_by (record { entries = s.front ++ (record s.entry { clone = None }) ∷ []; tag_pages = old.list.tag_pages }) new.list e s.list inside))
  where
    by_place : IsIn s.front (record s.entry { clone = None }) e → IsNarrower old.list new.list e
    by_place (earlier is) = as_it_was old.list new.list e (in_front old.list s.front s.entry e s.last is)
    by_place (this same) = subst (IsNarrower old.list new.list) (sym same) (record { was = s.entry; inside = in_last old.list s.front s.entry s.last; at = refl; clone = inr refl })
