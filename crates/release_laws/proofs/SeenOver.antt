-- What is seen of a file that stays is the same after steps.
use Rattle.std.proofs.Common.{◌≡◌, ◌∙◌, ℕ, ◌<◌, ◌≤◌, nat_lt, Bool, true, false, List, Option, Some, None, IsSomeAnd, Contains, if◌then◌else◌, refl, sym, ap, subst, arith, ⊎_elim}
use Rattle.std.proofs.lemmas.Bool.{cases_lt, le-ltb, lt-ltb}
use Rattle.std.specs.Option.{option_and_then, option_map, unwrap_or}
use Rattle.standing_laws.specs.domain_base.declared.place.CellAt.{CellAt}
use Rattle.standing_laws.specs.domain_base.declared.version.Version.{Version}
use Rattle.standing_laws.specs.cell_records.declared.record.Leftover.{Leftover}
use Rattle.standing_laws.specs.cell_records.declared.record.Leftover.TheVariants.{Remove, Trim}
use Rattle.standing_laws.specs.metadata_cells.Chain.{PlacedCell}
use Rattle.standing_laws.specs.extent_maps.Runs.{home_at}
use Rattle.standing_laws.specs.extent_maps.declared.run.PagePlace.{PagePlace}
use Rattle.standing_laws.specs.extent_maps.declared.run.PagePlace.TheVariants.{Absent}
use Rattle.standing_laws.specs.extent_records.Writing.{places_before}
use Rattle.standing_laws.specs.file_chains.Files.{places_of}
use Rattle.standing_laws.specs.fileset_files.Files.{attributes_of, is_removed, keep_of}
use Rattle.standing_laws.specs.fileset_files.declared.attributes.Attributes.{Attributes}
use Rattle.standing_laws.specs.release_list.declared.list.Entry.{Entry}
use Rattle.standing_laws.specs.release_list.Listed.{from_by, left_of, stale_from}
use Rattle.standing_laws.specs.release_list.Steps.{IsWell, Now, Steps}
use Rattle.standing_laws.proofs.OfReleaseList.Spread.{none_not, some_same}
use Rattle.standing_laws.specs.release_steps.Kept.{IsTrimmed, KeepsFront, KeepsOrIsTrimmed, SaysTheSame}
use Rattle.standing_laws.proofs.OfReleaseSteps.Fronts.{fronts_stay}
use Rattle.standing_laws.proofs.OfReleaseSteps.LeftStill.{left_so}
use Rattle.standing_laws.proofs.OfReleaseSteps.Others.{others_stay}
use Rattle.standing_laws.proofs.OfReleaseSteps.SaysStill.{said_so}
use Rattle.standing_laws.specs.domain_layout.Seen.{SeenFile, kept_by, seen_in}
use Rattle.release_laws.proofs.SeenTrimmed.{GiveNone, IsCut, IsTrimming, trimmed_or_cut}

-- an entry is the file's
abbrev pub IsOn : Now → CellAt → Type 0
IsOn now at = (e : Entry) × Contains now.list.entries e × (e.at ≡ at)

-- two maps of which one is cut where the other ends have the same homes
homes_front : (keep page : ℕ) (a b : ℕ → PagePlace) → (page < keep → a page ≡ b page) → home_at (places_before keep a page) ≡ home_at (places_before keep b page)
homes_front keep page a b same = ⊎_elim
    (λ front. ap home_at (ap (λ (t : Bool). if t then a page else Absent) (lt-ltb page keep front) ∙ same front ∙ sym (ap (λ (t : Bool). if t then b page else Absent) (lt-ltb page keep front))))
    (λ behind. let out = le-ltb page keep behind in ap home_at (ap (λ (t : Bool). if t then a page else Absent) out ∙ sym (ap (λ (t : Bool). if t then b page else Absent) out)))
    (cases_lt page keep)

module _ (group : ℕ) (version : Version) (first : Now) (count : ℕ) (last : Now) (well : IsWell first) (steps : Steps group version first count last) (alone : GiveNone first) (at : CellAt) (chain after : List PlacedCell) (is : first.files at ≡ Some chain) (there : last.files at ≡ Some after)
    (live : is_removed chain ≡ false) (live_now : is_removed after ≡ false) (listed : left_of chain ≡ Some Trim → IsOn first at) (kept : IsSomeAnd (keep_of chain) (λ keep. keep ≤ 65536))
  where
    says : SaysTheSame chain after
    says = let it = said_so group version first count last well steps at after there in subst (λ (cs : List PlacedCell). SaysTheSame cs after) (some_same it.0 chain (sym it.1 ∙ is)) it.2

    keeps : KeepsOrIsTrimmed first.list at chain after
    keeps = let it = left_so group version first count last well steps at after there in subst (λ (cs : List PlacedCell). KeepsOrIsTrimmed first.list at cs after) (some_same it.0 chain (sym it.1 ∙ is)) it.2

    no_clone : (e : Entry) → Contains first.list.entries e → (b : CellAt) → ¬ e.clone ≡ Some b
    no_clone e inside b some = none_not b (sym (alone e inside) ∙ some)

    -- a file that is trimmed keeps its pages in front
    front : left_of chain ≡ Some Trim → (page : ℕ) → page < stale_from chain → places_of after page ≡ places_of chain page
    front trim page less =
        let on = listed trim in
        let kept_front : KeepsFront chain (last.files at) = subst (λ (a : CellAt). KeepsFront chain (last.files a)) on.2 (fronts_stay group version first count last well steps on.0 on.1 (λ e inside. no_clone e inside on.0.at) chain (ap first.files on.2 ∙ is) trim) in
        subst (KeepsFront chain) there kept_front page less

    same_chain : ((e : Entry) → Contains first.list.entries e → ¬ e.at ≡ at) → after ≡ chain
    same_chain nobody = some_same after chain (sym there ∙ others_stay group version first count last steps at (λ e inside. (nobody e inside, no_clone e inside at)) ∙ is)

    module _ (keep : ℕ) (keep_is : keep_of chain ≡ Some keep) (most : keep ≤ 65536) where
      stale_is : left_of chain ≡ Some Trim → stale_from chain ≡ keep
      stale_is trim = ap (λ (o : Option Leftover). from_by o chain) trim ∙ ap (λ (o : Option ℕ). unwrap_or o 65536) keep_is

      front_of : left_of chain ≡ Some Trim → (page : ℕ) → page < keep → places_of after page ≡ places_of chain page
      front_of trim page less = front trim page (subst (λ (n : ℕ). page < n) (sym (stale_is trim)) less)

      -- with that many kept as before
      still : left_of chain ≡ Some Trim → (page : ℕ) → home_at (places_before keep (places_of after) page) ≡ home_at (places_before keep (places_of chain) page)
      still trim page = homes_front keep page (places_of after) (places_of chain) (front_of trim page)

      -- with all kept
      whole : IsTrimmed first.list at chain after → (page : ℕ) → home_at (places_before 65536 (places_of after) page) ≡ home_at (places_before keep (places_of chain) page)
      whole t page = ⊎_elim
          (λ (less : page < keep).
          ap home_at (ap (λ (b : Bool). if b then places_of after page else Absent) (lt-ltb page 65536 (omega (arith, less, most))) ∙ front_of t.was page less ∙ sym (ap (λ (b : Bool). if b then places_of chain page else Absent) (lt-ltb page keep less))))
          (λ (behind : keep ≤ page).
          behind_home (nat_lt page 65536) (cut_absent behind) ∙ sym (ap home_at (ap (λ (b : Bool). if b then places_of chain page else Absent) (le-ltb page keep behind))))
          (cases_lt page keep)
        where
          behind_home : (b : Bool) → places_of after page ≡ Absent → home_at (if b then places_of after page else Absent) ≡ None
          behind_home true none = ap home_at none
          behind_home false none = refl

          none_trim : None ≡ Some Trim → ⊥
          none_trim e = cc

          cut_absent : keep ≤ page → places_of after page ≡ Absent
          cut_absent behind = ⊎_elim
              (λ (k : IsTrimming keep last at). absurd (none_trim (sym t.keeps.1 ∙ ap left_of (some_same after k.after (sym there ∙ k.is)) ∙ k.left)))
              (λ (k : IsCut keep last at). ap (λ (cs : List PlacedCell). places_of cs page) (some_same after k.after (sym there ∙ k.is)) ∙ k.absent page behind)
              (trimmed_or_cut group version first count last well steps alone keep at (record { after = chain; is = is; left = t.was; stale = stale_is t.was }))

    abbrev seen_with : (keep : ℕ) → List PlacedCell → Attributes → SeenFile
    seen_with = λ keep cells what. record { is = what; homes = λ page. home_at (places_before keep (places_of cells) page) }

    kept_same : (what : Attributes) → left_of chain ≡ Some Trim → kept_by after what ≡ kept_by chain what
    kept_same what trim = by_keep (keep_of chain) refl kept
      where
        by_keep : (o : Option ℕ) → keep_of chain ≡ o → IsSomeAnd o (λ keep. keep ≤ 65536) → kept_by after what ≡ kept_by chain what
        by_keep None none absent = absurd absent
        by_keep (Some keep) some most = ⊎_elim
            (λ same.
            ap (option_map (λ k. seen_with k after what)) (same.0 ∙ some)
            ∙ (λ i. Some (record { is = what; homes = λ page. still keep some most trim page i }))
            ∙ sym (ap (option_map (λ k. seen_with k chain what)) some))
            (λ t.
            ap (option_map (λ k. seen_with k after what)) t.keeps.0
            ∙ (λ i. Some (record { is = what; homes = λ page. whole keep some most t page i }))
            ∙ sym (ap (option_map (λ k. seen_with k chain what)) some))
            keeps

    seen_live : (cells : List PlacedCell) → is_removed cells ≡ false → seen_in cells ≡ option_and_then (kept_by cells) (attributes_of cells)
    seen_live cells stays = ap (λ (b : Bool). if b then None else option_and_then (kept_by cells) (attributes_of cells)) stays

    seen_trimmed : left_of chain ≡ Some Trim → seen_in after ≡ seen_in chain
    seen_trimmed trim =
        seen_live after live_now ∙ ap (option_and_then (kept_by after)) says.what
        ∙ (λ i. option_and_then (λ what. kept_same what trim i) (attributes_of chain))
        ∙ sym (seen_live chain live)

    pub seen_over : ((e : Entry) → Contains first.list.entries e → e.at ≡ at → left_of chain ≡ Some Trim) → seen_in after ≡ seen_in chain
    seen_over trims = by_left (left_of chain) refl
      where
        differs : (o : Option Leftover) → left_of chain ≡ o → ¬ o ≡ Some Trim → (e : Entry) → Contains first.list.entries e → ¬ e.at ≡ at
        differs o left other e inside same = other (sym left ∙ trims e inside same)

        none_trim : None ≡ Some Trim → ⊥
        none_trim e = cc

        remove_trim : Some Remove ≡ Some Trim → ⊥
        remove_trim e = cc

        by_left : (o : Option Leftover) → left_of chain ≡ o → seen_in after ≡ seen_in chain
        by_left None left = ap seen_in (same_chain (differs None left none_trim))
        by_left (Some Trim) left = seen_trimmed left
        by_left (Some Remove) left = ap seen_in (same_chain (differs (Some Remove) left remove_trim))
