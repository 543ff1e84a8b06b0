-- Files that were to be removed are gone once nothing is on the list.
use Rattle.std.proofs.Common.{◌≡◌, ◌∙◌, ◌⊎◌, inl, inr, ℕ, List, [], ◌∷◌, ◌++◌, Some, None, Contains, refl, sym, ap, subst, ⊎_elim}
use Rattle.release_list.specs.domain_base.declared.place.CellAt.{CellAt}
use Rattle.release_list.specs.domain_base.declared.version.Version.{Version}
use Rattle.release_list.specs.metadata_cells.Chain.{PlacedCell}
use Rattle.release_list.specs.declared.list.Entry.{Entry}
use Rattle.release_list.specs.Listed.{GoesWhole, left_of}
use Rattle.release_list.specs.Listing.{Listing, without}
use Rattle.release_list.specs.Steps.{EndsFile, EndsReading, EndsTrim, IsWell, LetsPages, LosesQuotaCell, Now, Step, Steps, file_ends, more, none, pages_go, quota_goes, reading_ends, tag_page_goes, trim_ends}
use Rattle.release_list.proofs.Lists.{IsIn, earlier, in_start, is_in, last_in, not_last, this}
use Rattle.release_list.proofs.Spread.{Which, other, reading, some_same, source, which}
use Rattle.release_steps.specs.Kept.{HasNoEntry, IsBeside}
use Rattle.release_steps.proofs.Ended.{ended_other, file_forgotten, file_gone, file_now, file_once, file_was, reading_other, same_file, trim_once, trim_other}
use Rattle.release_steps.proofs.Fits.{Fits, alone, well_fits}
use Rattle.release_steps.proofs.DeferredLaws.{fits_step}
use Rattle.release_steps.proofs.Narrower.{inside_by}
use Rattle.release_steps.proofs.Others.{beside_same, beside_still}
use Rattle.release_steps.proofs.PagesGo.{after_left, at_other, at_source}
use Rattle.release_steps.proofs.QuotaStep.{quota_beside, quota_is, quota_whole}
use Rattle.release_list.proofs.Standings.{same_or_not}

-- an entry is the file's, which is to be removed
record IsLeaving (now : Now) (a : CellAt) : Type 0 where
  entry : Entry
  inside : Contains now.list.entries entry
  at : entry.at ≡ a
  chain : List PlacedCell
  is : now.files a ≡ Some chain
  left : GoesWhole chain

record IsGone (now : Now) (a : CellAt) : Type 0 where
  gone : now.files a ≡ None
  beside : IsBeside now.list a

pub place_in_list : (list : Listing) (front : List Entry) (entry e : Entry) → list.entries ≡ front ++ entry ∷ [] → Contains list.entries e → IsIn front entry e
place_in_list list front entry e last inside = is_in front entry e (subst (λ (es : List Entry). Contains es e) last inside)

abbrev pub sole : Entry → Entry
sole e = record e { clone = None }

module _ (group : ℕ) (version : Version) (old new : Now) (fits : Fits old) (a : CellAt) (k : IsLeaving old a) where
  -- the same file, by an entry of the list then
  still_leaving : (e : Entry) → Contains new.list.entries e → e.at ≡ a → new.files a ≡ old.files a → IsLeaving new a
  still_leaving e inside at same = record { entry = e; inside = inside; at = at; chain = k.chain; is = same ∙ k.is; left = k.left }

  lets_leaving : LetsPages group version old new → IsLeaving new a
  lets_leaving s = by_which (which s.entry.at s.entry.clone a)
    where
      inside_now : Contains new.list.entries k.entry
      inside_now = inside_by new.list old.list k.entry (sym s.same_list) k.inside

      by_which : Which s.entry.at s.entry.clone a → IsLeaving new a
      by_which (source same) =
          let was : s.chain ≡ k.chain = some_same s.chain k.chain (sym s.is ∙ sym (ap old.files same) ∙ k.is) in
          record {
            entry = k.entry;
            inside = inside_now;
            at = k.at;
            chain = s.releases.after;
            is = ap new.files same ∙ at_source group version old new fits s;
            left = λ trim. k.left (sym (ap left_of was) ∙ sym (after_left group version old new fits s) ∙ trim);
          }
      by_which (reading some) = absurd (alone old fits s.front s.entry s.last k.entry k.inside (some ∙ ap Some (sym k.at)))
      by_which (other not_at not_it) = still_leaving k.entry inside_now k.at (at_other group version old new fits s a not_at not_it)

  quota_leaving : LosesQuotaCell old new → IsLeaving new a
  quota_leaving s =
      let inside_now = inside_by new.list old.list k.entry (sym s.same_list) k.inside in
      ⊎_elim
      (λ same. record { entry = k.entry; inside = inside_now; at = k.at; chain = s.after; is = ap new.files same ∙ quota_is group version old new s; left = quota_whole group version old new s })
      (λ not_at. still_leaving k.entry inside_now k.at (quota_beside group version old new s a not_at))
      (same_or_not a s.entry.at)

  trim_leaving : EndsTrim old new → IsLeaving new a
  trim_leaving s = by_place (place_in_list old.list s.front s.entry k.entry s.last k.inside)
    where
      by_place : IsIn s.front s.entry k.entry → IsLeaving new a
      by_place (earlier is) =
          still_leaving k.entry (inside_by new.list (record { entries = s.front; tag_pages = old.list.tag_pages }) k.entry (sym s.list) is) k.at
          (trim_other group version old new fits s a (λ same. not_last s.front s.entry k.entry (trim_once group version old new fits s) is (k.at ∙ same)))
      by_place (this same) =
          let was : s.chain ≡ k.chain = some_same s.chain k.chain (sym s.is ∙ ap old.files (sym (ap (λ (e : Entry). e.at) same) ∙ k.at) ∙ k.is) in
          absurd (k.left (sym (ap left_of was) ∙ s.trim))

  reading_leaving : EndsReading old new → IsLeaving new a
  reading_leaving s = by_place (place_in_list old.list s.front s.entry k.entry s.last k.inside)
    where
      now_in : (e : Entry) → Contains (s.front ++ (sole s.entry) ∷ []) e → Contains new.list.entries e
      now_in e inside = inside_by new.list (record { entries = s.front ++ (sole s.entry) ∷ []; tag_pages = old.list.tag_pages }) e (sym s.list) inside

      same_chain : new.files a ≡ old.files a
      same_chain = reading_other group version old new fits s a (λ same. alone old fits s.front s.entry s.last k.entry k.inside (s.given ∙ ap Some (sym same ∙ sym k.at)))

      by_place : IsIn s.front s.entry k.entry → IsLeaving new a
      by_place (earlier is) = still_leaving k.entry (now_in k.entry (in_start s.front ((sole s.entry) ∷ []) k.entry is)) k.at same_chain
      by_place (this same) = still_leaving (sole s.entry) (now_in (sole s.entry) (last_in s.front (sole s.entry))) (sym (ap (λ (e : Entry). e.at) same) ∙ k.at) same_chain

  file_leaving : EndsFile old new → IsLeaving new a ⊎ IsGone new a
  file_leaving s = by_place (place_in_list old.list s.front s.entry k.entry s.last k.inside)
    where
      by_place : IsIn s.front s.entry k.entry → IsLeaving new a ⊎ IsGone new a
      by_place (earlier is) =
          inl (still_leaving (without s.entry.at k.entry) (file_now group version old new fits s k.entry is) k.at
          (ended_other group version old new fits s a (λ same. not_last s.front s.entry k.entry (file_once group version old new fits s) is (k.at ∙ same))))
      by_place (this same) =
          let at : a ≡ s.entry.at = sym k.at ∙ ap (λ (e : Entry). e.at) same in
          inr (record {
            gone = ap new.files at ∙ file_gone group version old new fits s;
            beside = λ e inside. (
              (λ is.
                  let w = file_was group version old new fits s e inside in
                  not_last s.front s.entry w.0 (file_once group version old new fits s) w.1 (sym (ap (λ (x : Entry). x.at) w.2) ∙ is ∙ at)),
              (λ some. file_forgotten group version old new fits s e inside (some ∙ ap Some at)),
            );
          })

  leaving_step : Step group version old new → IsLeaving new a ⊎ IsGone new a
  leaving_step (pages_go s) = inl (lets_leaving s)
  leaving_step (quota_goes s) = inl (quota_leaving s)
  leaving_step (trim_ends s) = inl (trim_leaving s)
  leaving_step (reading_ends s) = inl (reading_leaving s)
  leaving_step (file_ends s) = file_leaving s
  leaving_step (tag_page_goes s) = inl (still_leaving k.entry (inside_by new.list (record { entries = old.list.entries; tag_pages = s.takes.front }) k.entry (sym s.takes.is) k.inside) k.at (same_file group version old new fits s a))

record LeavesStill (now : Now) (a : CellAt) : Type 0 where
  fits : Fits now
  state : IsLeaving now a ⊎ IsGone now a

leaves_still : (group : ℕ) (version : Version) (first : Now) (count : ℕ) (last : Now) → IsWell first → Steps group version first count last → (a : CellAt) → IsLeaving first a → LeavesStill last a
leaves_still group version first count last well steps a leaving =
    elim steps as (λ count last steps. LeavesStill last a) [
      | none ↦ record { fits = well_fits first well; state = inl leaving }
      | more n between last (steps → was) step ↦ record {
        fits = fits_step group version between last was.fits step;
        state = ⊎_elim
            (λ k. leaving_step group version between last was.fits a k step)
            (λ g. inr (record { gone = beside_same group version between last step a g.beside ∙ g.gone; beside = beside_still group version between last step a g.beside }))
            was.state;
      }
    ]

pub removed_are_gone : (group : ℕ) (version : Version) (first : Now) (count : ℕ) (last : Now) → IsWell first → Steps group version first count last
    → (entry : Entry) → Contains first.list.entries entry → HasNoEntry last.list entry.at → (chain : List PlacedCell) → first.files entry.at ≡ Some chain → GoesWhole chain → last.files entry.at ≡ None
removed_are_gone group version first count last well steps entry inside nobody chain is left =
    ⊎_elim
    (λ k. absurd (nobody k.entry k.inside k.at))
    (λ g. g.gone)
    (leaves_still group version first count last well steps entry.at (record { entry = entry; inside = inside; at = refl; chain = chain; is = is; left = left })).state
